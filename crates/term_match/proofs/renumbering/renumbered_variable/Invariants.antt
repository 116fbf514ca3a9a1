use Rattle.std.proofs.Common.{◌≡◌, drop}
use Rattle.term_match.specs.Renumbering.{new_number}
use Rattle.term_match.proofs.renumbering.renumbered_variable.Given as goal

abbrev pub invariant-loop-known : goal.invariant-loop-known
invariant-loop-known l = new_number l.numbers l.number l.sort ≡ new_number (drop l.known-index l.numbers) l.number l.sort
