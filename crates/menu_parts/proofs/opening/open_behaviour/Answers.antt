use Rattle.std.proofs.Common.{◌++◌, ap, sym, subst}
use Rattle.std.proofs.lemmas.Result.{IfOk-weaker}
use Rattle.behaviour_semantics.specs.Behaviour.{Behaviour, parallel}
use Rattle.behaviour_tree.specs.BehaviourTerms.{profiles_in}
use Rattle.behaviour_tree.specs.BehaviourView.{behaviour_of, meet_of}
use Rattle.step_taker.proofs.SplitLemmas.{passable_as}
use Rattle.menu_parts.specs.Spread.{IsOpened}
use Rattle.menu_parts.proofs.opening.open_behaviour.Goals as goal

pub returns-in-Parallel : goal.returns-in-Parallel
returns-in-Parallel c =
    IfOk-weaker c.open_parallel.result _ _ (λ made e basis base part.
    subst (λ (b : Behaviour). IsOpened basis b made) (sym (ap behaviour_of c.in-Parallel.is))
    (e basis base (passable_as basis (behaviour_of c.args.behaviour.now)
    (parallel (meet_of c.in-Parallel.meet) (behaviour_of c.in-Parallel.left.value) (behaviour_of c.in-Parallel.right.value))
    (profiles_in c.args.behaviour.now) (profiles_in c.in-Parallel.left.value ++ profiles_in c.in-Parallel.right.value)
    (ap behaviour_of c.in-Parallel.is) (ap profiles_in c.in-Parallel.is) part) tt tt)) c.open_parallel.ensures
