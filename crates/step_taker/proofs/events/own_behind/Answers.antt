use Rattle.std.proofs.Common.{◌++◌, ◌∙◌, List, map, ap, sym, subst}
use Rattle.std.proofs.lemmas.Result.{IfOk-weaker}
use Rattle.lotos_base.specs.Substitution.{binding}
use Rattle.behaviour_semantics.specs.Behaviour.{Behaviour}
use Rattle.behaviour_semantics.specs.Replacement.{with_values}
use Rattle.behaviour_tree.specs.BehaviourTerms.{profiles_in}
use Rattle.behaviour_tree.specs.BehaviourView.{behaviour_of}
use Rattle.behaviour_tree.specs.Closed.{IsClosedBy}
use Rattle.behaviour_tree.specs.StateView.{environment_of, node_profiles, pair_profile, stands_for}
use Rattle.step_taker.proofs.SplitLemmas.{parts_as}
use Rattle.sort_terms.specs.ProfiledTerm.{ProfiledTerm}
use Rattle.step_taker.proofs.events.own_behind.Goals as goal

pub returns-clause-same : goal.returns-clause-same
returns-clause-same c =
    IfOk-weaker c.shared.result _ _ (λ made e. ap stands_for e ∙ ap (with_values (binding (environment_of c.args.pairs.items))) (ap
    behaviour_of c.in_ok-own.ensures)) c.shared.ensures

pub returns-clause-terms : goal.returns-clause-terms
returns-clause-terms c =
    IfOk-weaker c.shared.result _ _ (λ made e. ap node_profiles e ∙ ap (λ (ts : List ProfiledTerm). ts ++ map pair_profile
    c.args.pairs.items) (ap profiles_in c.in_ok-own.ensures)) c.shared.ensures

pub returns-clause-closed_parts : goal.returns-clause-closed_parts
returns-clause-closed_parts c =
    IfOk-weaker c.shared.result _ _ (λ made e closed. parts_as made.value _ e (subst (λ (b : Behaviour). IsClosedBy c.args.pairs.items
    b) (sym (ap behaviour_of c.in_ok-own.ensures)) closed)) c.shared.ensures
