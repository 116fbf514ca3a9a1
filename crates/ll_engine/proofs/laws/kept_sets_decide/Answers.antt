use Rattle.ll_engine.proofs.KeptSets.{predictive, predictive_after}
use Rattle.ll_engine.proofs.laws.kept_sets_decide.Goals as goal

pub returns-clause-kept : goal.returns-clause-kept
returns-clause-kept c = predictive

pub returns-clause-computed : goal.returns-clause-computed
returns-clause-computed c = predictive_after
