use Rattle.std.proofs.Common.{ℕ, ap, ◌∙◌}
use Rattle.std.proofs.lemmas.Result.{IfOk-weaker}
use Rattle.lotos_base.specs.Substitution.{Substitution}
use Rattle.behaviour_semantics.specs.Behaviour.{numbers_of}
use Rattle.behaviour_semantics.specs.Replacement.{with_values}
use Rattle.behaviour_tree.specs.BehaviourView.{behaviour_of, variables_of}
use Rattle.behaviour_tree.specs.Closed.{IsFree}
use Rattle.behaviour_instances.proofs.InstanceLemmas.{given_suits}
use Rattle.behaviour_instances.proofs.UnlistedLemmas.{suits_below}
use Rattle.report_text.proofs.nodes.following.Goals as goal

pub instance-requires : goal.instance-requires
instance-requires c =
    suits_below (numbers_of (variables_of c.args.variables.now.items)) c.in_ok-values.values.items c.args.environment.now.items
    (λ (n s : ℕ). IsFree n s (behaviour_of c.args.right.now)) c.in_ok-values.ensures.profiled
    (λ n s o. given_suits c.args.environment.now.items n s (c.requires.given n s o.0 o.1))

pub returns : goal.returns
returns c =
    IfOk-weaker c.instance.result _ _
    (λ made e. e ∙ ap (λ (values : Substitution). with_values values (behaviour_of c.args.right.now)) c.in_ok-values.ensures.plain)
    c.instance.ensures.same
