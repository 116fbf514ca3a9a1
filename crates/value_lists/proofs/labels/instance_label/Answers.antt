use Rattle.std.proofs.Common.{subst}
use Rattle.behaviour_semantics.specs.Derives.{leaves_in}
use Rattle.behaviour_semantics.specs.Rule.{label_values}
use Rattle.behaviour_semantics.specs.SolvingLaws.{IsTermOver}
use Rattle.behaviour_semantics.specs.WellFormed.{Every}
use Rattle.behaviour_tree.specs.BehaviourView.{terms_of}
use Rattle.behaviour_tree.specs.MoveView.{label_of}
use Rattle.behaviour_tree.specs.Over.{AreTermsOf}
use Rattle.behaviour_tree.specs.declared.moves.Label.{Label}
use Rattle.event_offers.specs.OfferView.{label_profiles}
use Rattle.event_offers.proofs.InstanceLemmas.{valued_list}
use Rattle.value_lists.proofs.LabelLemmas.{gate_label, exit_label}
use Rattle.value_lists.proofs.labels.instance_label.Goals as goal

pub instances-requires : goal.instances-requires
instances-requires g c =
    valued_list (g.D.Deciding.known_data c.args.decider.now).signature c.args.entry.now.vars.items c.args.values.now c.requires.values
    c.in-Gate.terms.items
    (subst (λ (l : Label). AreTermsOf (g.D.Deciding.known_data c.args.decider.now).signature (label_profiles l)) c.in-Gate.is
    c.requires.over.values)
    (subst (λ (l : Label). Every (IsTermOver c.args.entry.now.vars.items) (label_values (label_of l))) c.in-Gate.is
    c.requires.over.order.over_values)

pub instances-requires-in-Exit : goal.instances-requires-in-Exit
instances-requires-in-Exit g c =
    valued_list (g.D.Deciding.known_data c.args.decider.now).signature c.args.entry.now.vars.items c.args.values.now c.requires.values
    c.in-Exit.terms.items
    (subst (λ (l : Label). AreTermsOf (g.D.Deciding.known_data c.args.decider.now).signature (label_profiles l)) c.in-Exit.is
    c.requires.over.values)
    (subst (λ (l : Label). Every (IsTermOver c.args.entry.now.vars.items) (label_values (label_of l))) c.in-Exit.is
    c.requires.over.order.over_values)

pub returns-in_ok-instances-in-Gate-clause-same : goal.returns-in_ok-instances-in-Gate-clause-same
returns-in_ok-instances-in-Gate-clause-same g c =
    gate_label (g.D.Deciding.canon c.args.decider.now) (leaves_in (terms_of c.args.values.now)) c.args.entry.now.label c.in-Gate.gate
    c.in-Gate.terms c.in_ok-instances-in-Gate.field-0.items c.in-Gate.is c.in_ok-instances-in-Gate.ensures.same

pub returns-in_ok-instances-in-Exit-clause-same : goal.returns-in_ok-instances-in-Exit-clause-same
returns-in_ok-instances-in-Exit-clause-same g c =
    exit_label (g.D.Deciding.canon c.args.decider.now) (leaves_in (terms_of c.args.values.now)) c.args.entry.now.label
    c.in-Exit.terms c.in_ok-instances-in-Exit.field-0.items c.in-Exit.is c.in_ok-instances-in-Exit.ensures.same
