use Rattle.std.proofs.Common.{◌≡◌, ◌<◌, ℕ, Some}
use Rattle.std.specs.Prelude.{slice_get}
use Rattle.term_store.specs.FirstRule.{MatchesNot}
use Rattle.term_store.specs.SharedView.{keys_in}
use Rattle.term_store.proofs.first_rule.first_among.Given as goal

abbrev pub invariant-loop-candidate : goal.invariant-loop-candidate
invariant-loop-candidate l =
    (k m : ℕ) → k < l.candidate-index → slice_get l.candidates k ≡ Some m → MatchesNot l.rules (keys_in l.shared) l.number m
