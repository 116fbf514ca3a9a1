use Rattle.std.proofs.Common.{◌≡◌, map, vec_len}
use Rattle.behaviour_tree.specs.BehaviourTerms.{profiles_in}
use Rattle.behaviour_tree.specs.BehaviourView.{behaviour_of}
use Rattle.behaviour_scopes.specs.PlacesView.{places_in}
use Rattle.scope_parts.specs.Choices.{under_gates}
use Rattle.scope_parts.specs.GatesView.{choice_in}
use Rattle.behaviour_scopes.proofs.nested.under_gates.Given as goal

abbrev pub invariant-loop-choice : goal.invariant-loop-choice
invariant-loop-choice l = record {
  nested :
      under_gates (map choice_in l.rest.items) (behaviour_of l.made)
      ≡ under_gates (map choice_in l.initial.rest.items) (behaviour_of l.initial.made);
  profiles : profiles_in l.made ≡ profiles_in l.initial.made;
  places : places_in l.made ≡ places_in l.initial.made;
}

abbrev pub decreases-loop-choice : goal.decreases-loop-choice
decreases-loop-choice l = vec_len l.rest
