use Rattle.sort_terms.specs.ChoicesView.{choice_at}
use Rattle.sort_terms.proofs.CommonLemmas.{CommonSoFar}
use Rattle.sort_terms.proofs.choices.Choices.common.Given as goal

abbrev pub invariant-loop-sort : goal.invariant-loop-sort
invariant-loop-sort l = CommonSoFar l.sort-iterator (choice_at l.common) (choice_at l.other) (choice_at l.self)
