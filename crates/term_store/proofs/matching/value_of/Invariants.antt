use Rattle.std.proofs.Common.{◌≡◌, drop}
use Rattle.term_store.specs.NumberSearch.{number_under}
use Rattle.term_store.proofs.matching.value_of.Given as goal

abbrev pub invariant-loop-known : goal.invariant-loop-known
invariant-loop-known l = number_under l.variable l.found ≡ number_under l.variable (drop l.known-index l.found)
