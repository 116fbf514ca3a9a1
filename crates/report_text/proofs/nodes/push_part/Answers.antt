use Rattle.std.proofs.Common.{ap}
use Rattle.std.proofs.lemmas.Result.{on_ok_weaker}
use Rattle.behaviour_tree.specs.BehaviourView.{behaviour_of, variables_of}
use Rattle.behaviour_instances.proofs.InstanceLemmas.{states_suit}
use Rattle.report_text.specs.NamingView.{naming_of}
use Rattle.report_text.proofs.TextLemmas.{part_text}
use Rattle.report_text.proofs.nodes.push_part.Goals as goal

pub instance-requires : goal.instance-requires
instance-requires c = states_suit c.args.environment.now.items (behaviour_of c.args.behaviour.now) c.requires

pub returns : goal.returns
returns c =
    on_ok_weaker c.push_behaviour.result
    (λ h. part_text (naming_of c.args.naming.now) _ _ _ _ _ _ (ap variables_of c.new-names.ensures.items)
    c.in_ok-closed.ensures.same h)
    c.push_behaviour.ensures
