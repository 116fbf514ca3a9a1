use Rattle.std.proofs.Common.{◌≡◌, map, vec_len}
use Rattle.behaviour_tree.specs.BehaviourTerms.{profiles_in}
use Rattle.behaviour_tree.specs.BehaviourView.{behaviour_of}
use Rattle.sort_terms.specs.EquationView.{variable_of}
use Rattle.behaviour_scopes.specs.PlacesView.{places_in}
use Rattle.scope_parts.specs.Choices.{under_values}
use Rattle.behaviour_scopes.proofs.nested.under_values.Given as goal

abbrev pub invariant-loop-variable : goal.invariant-loop-variable
invariant-loop-variable l = record {
  nested :
      under_values (map variable_of l.rest.items) (behaviour_of l.made)
      ≡ under_values (map variable_of l.initial.rest.items) (behaviour_of l.initial.made);
  profiles : profiles_in l.made ≡ profiles_in l.initial.made;
  places : places_in l.made ≡ places_in l.initial.made;
}

abbrev pub decreases-loop-variable : goal.decreases-loop-variable
decreases-loop-variable l = vec_len l.rest
