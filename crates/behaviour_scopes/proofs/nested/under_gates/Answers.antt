use Rattle.std.proofs.Common.{vec_len, List, ap, sym, ◌∙◌, map}
use Rattle.behaviour_semantics.specs.Behaviour.{choose_gate}
use Rattle.behaviour_tree.specs.BehaviourTerms.{profiles_in}
use Rattle.behaviour_tree.specs.BehaviourView.{behaviour_of}
use Rattle.behaviour_tree.specs.declared.behaviours.Beh.{Beh}
use Rattle.scope_parts.specs.Choices.{under_gates}
use Rattle.scope_parts.specs.GatesView.{choice_in}
use Rattle.scope_parts.specs.declared.gate_choices.GateChoice.{GateChoice}
use Rattle.behaviour_scopes.specs.PlacesView.{places_in}
use Rattle.behaviour_scopes.proofs.NestedLemmas.{gates_next, none_left}
use Rattle.behaviour_scopes.proofs.nested.under_gates.Goals as goal

pub loop-choice-preserved : goal.loop-choice-preserved
loop-choice-preserved c = record {
  nested =
      ap
      (λ (b : Beh). under_gates (map choice_in c.pop.new.self.items)
      (choose_gate c.in-Some.choice.gate c.in-Some.choice.among.items (behaviour_of b)))
      c.in_ok-shared.ensures
      ∙ sym (gates_next c.loop-choice.rest.items c.pop.new.self.items c.in-Some.choice (behaviour_of c.loop-choice.made)
      c.in-Some.ensures.items)
      ∙ c.loop-choice.invariant.nested;
  profiles = ap profiles_in c.in_ok-shared.ensures ∙ c.loop-choice.invariant.profiles;
  places = ap places_in c.in_ok-shared.ensures ∙ c.loop-choice.invariant.places;
}

pub returns-clause-nested : goal.returns-clause-nested
returns-clause-nested c =
    sym
    (ap (λ (xs : List GateChoice). under_gates (map choice_in xs) (behaviour_of c.loop-choice.made))
    (none_left c.pop.result c.loop-choice.rest.items (vec_len c.loop-choice.rest) c.pop.ensures.variant c.loop-choice.rest.ok.0
    c.in_default.not-Some))
    ∙ c.loop-choice.invariant.nested
