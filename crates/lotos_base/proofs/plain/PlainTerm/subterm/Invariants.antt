use Rattle.std.proofs.Common.{◌≡◌, drop}
use Rattle.lotos_base.specs.Path.{subterm as subterm_at}
use Rattle.lotos_base.specs.PlainView.{term_of_plain}
use Rattle.lotos_base.proofs.plain.PlainTerm.subterm.Given as goal

abbrev pub invariant-loop-position : goal.invariant-loop-position
invariant-loop-position l = subterm_at l.path (term_of_plain l.fn.self) ≡ subterm_at (drop l.position-index l.path) (term_of_plain l.part)
