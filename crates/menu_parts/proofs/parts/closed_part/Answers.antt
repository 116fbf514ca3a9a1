use Rattle.std.proofs.Common.{◌∙◌, map, sym, subst}
use Rattle.behaviour_semantics.specs.Behaviour.{Behaviour}
use Rattle.behaviour_tree.specs.BehaviourTerms.{profiles_in}
use Rattle.behaviour_tree.specs.BehaviourView.{behaviour_of}
use Rattle.behaviour_tree.specs.DefinitionView.{specification_of}
use Rattle.behaviour_tree.specs.StateView.{pair_profile}
use Rattle.step_taker.proofs.HandedOn.{first_terms, second_terms, states_suit}
use Rattle.step_taker.specs.Walked.{IsClosedOn}
use Rattle.step_taker.proofs.BodyLemmas.{instance_over}
use Rattle.menu_parts.proofs.FormLemmas.{passable_node}
use Rattle.menu_parts.proofs.parts.closed_part.Goals as goal

pub instance-requires : goal.instance-requires
instance-requires c = states_suit c.args.environment.now.items (behaviour_of c.args.behaviour.now) c.requires

pub returns-clause-same : goal.returns-clause-same
returns-clause-same c = c.in_ok-own.ensures.same ∙ c.in_ok-made.ensures.same

pub returns-clause-passable : goal.returns-clause-passable
returns-clause-passable c = λ basis h.
    let environment = c.args.environment.now.items in
    let behaviour = c.args.behaviour.now in
    let closed = subst (λ (b : Behaviour). IsClosedOn basis b) (sym c.in_ok-made.ensures.same) h.closed in
    passable_node basis (behaviour_of c.in_ok-made.made) c.in_ok-own.own.value c.in_ok-own.ensures.same
    (c.in_ok-own.ensures.terms basis.data_.signature
    (instance_over basis environment behaviour c.in_ok-made.made c.in_ok-made.ensures.terms
    (first_terms basis.data_.signature (profiles_in behaviour) (map pair_profile environment) h.terms_of_signature)
    (second_terms basis.data_.signature (profiles_in behaviour) (map pair_profile environment) h.terms_of_signature)))
    (c.in_ok-own.ensures.closed_parts basis.data_.signature (specification_of basis.spec) closed) closed
