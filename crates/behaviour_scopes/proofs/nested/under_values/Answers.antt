use Rattle.std.proofs.Common.{vec_len, List, ap, sym, ◌∙◌, map}
use Rattle.behaviour_semantics.specs.Behaviour.{choose_value}
use Rattle.behaviour_tree.specs.BehaviourTerms.{profiles_in}
use Rattle.behaviour_tree.specs.BehaviourView.{behaviour_of}
use Rattle.behaviour_tree.specs.declared.behaviours.Beh.{Beh}
use Rattle.sort_terms.specs.EquationView.{variable_of}
use Rattle.sort_terms.specs.declared.equations.Variable.{Variable}
use Rattle.scope_parts.specs.Choices.{under_values}
use Rattle.behaviour_scopes.specs.PlacesView.{places_in}
use Rattle.behaviour_scopes.proofs.NestedLemmas.{values_next, none_left}
use Rattle.behaviour_scopes.proofs.nested.under_values.Goals as goal

pub loop-variable-preserved : goal.loop-variable-preserved
loop-variable-preserved c = record {
  nested =
      ap
      (λ (b : Beh). under_values (map variable_of c.pop.new.self.items) (choose_value (variable_of c.in-Some.variable) (behaviour_of b)))
      c.in_ok-shared.ensures
      ∙ sym (values_next c.loop-variable.rest.items c.pop.new.self.items c.in-Some.variable (behaviour_of c.loop-variable.made)
      c.in-Some.ensures.items)
      ∙ c.loop-variable.invariant.nested;
  profiles = ap profiles_in c.in_ok-shared.ensures ∙ c.loop-variable.invariant.profiles;
  places = ap places_in c.in_ok-shared.ensures ∙ c.loop-variable.invariant.places;
}

pub returns-clause-nested : goal.returns-clause-nested
returns-clause-nested c =
    sym
    (ap (λ (xs : List Variable). under_values (map variable_of xs) (behaviour_of c.loop-variable.made))
    (none_left c.pop.result c.loop-variable.rest.items (vec_len c.loop-variable.rest) c.pop.ensures.variant c.loop-variable.rest.ok.0
    c.in_default.not-Some))
    ∙ c.loop-variable.invariant.nested
