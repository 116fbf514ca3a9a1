use Rattle.std.proofs.Common.{ℕ, List, ◌++◌, map, ap, sym, ◌∙◌, subst}
use Rattle.lotos_base.specs.Term.{Term}
use Rattle.lotos_base.specs.Substitution.{binding}
use Rattle.behaviour_semantics.specs.Behaviour.{Behaviour}
use Rattle.behaviour_semantics.specs.Replacement.{with_values}
use Rattle.sort_terms.specs.declared.sorted.Sorted.{Sorted}
use Rattle.sort_terms.specs.ProfiledTerm.{ProfiledTerm}
use Rattle.behaviour_tree.specs.BehaviourTerms.{profiles_in}
use Rattle.behaviour_tree.specs.BehaviourView.{behaviour_of}
use Rattle.behaviour_tree.specs.Closed.{IsClosedNode}
use Rattle.behaviour_tree.specs.StateView.{environment_of, node_profiles, pair_profile, stands_for}
use Rattle.behaviour_tree.specs.declared.states.Node.{Node}
use Rattle.behaviour_tree.proofs.StartLemmas.{copies_closed, environment_zip, values_zip}
use Rattle.behaviour_tree.proofs.states.State.start.Goals as goal

pub of-requires : goal.of-requires
of-requires c =
    copies_closed c.args.spec.now c.args.values.items c.in_ok-environment.environment.items (behaviour_of c.in_ok-body.body.value)
    c.in_ok-environment.ensures (ap behaviour_of c.in_ok-body.ensures) c.requires

pub returns : goal.returns
returns c = record {
  begins =
      ap stands_for c.of.ensures
      ∙ ap (λ (b : Behaviour). with_values (binding (environment_of c.in_ok-environment.environment.items)) b)
      (ap behaviour_of c.in_ok-body.ensures)
      ∙ ap (λ (pairs : List (ℕ × Sorted)). with_values (binding (environment_of pairs)) (behaviour_of c.args.spec.now.body.value))
      c.in_ok-environment.ensures
      ∙ ap (λ (pairs : List (ℕ × Term)). with_values (binding pairs) (behaviour_of c.args.spec.now.body.value))
      (environment_zip c.args.spec.now.parameters.items c.args.values.items);
  terms =
      ap node_profiles c.of.ensures
      ∙ ap (λ (terms : List ProfiledTerm). terms ++ map pair_profile c.in_ok-environment.environment.items)
      (ap profiles_in c.in_ok-body.ensures)
      ∙ ap (λ (terms : List ProfiledTerm). profiles_in c.args.spec.now.body.value ++ terms)
      (ap (λ (pairs : List (ℕ × Sorted)). map pair_profile pairs) c.in_ok-environment.ensures
      ∙ values_zip c.requires.signature c.args.spec.now.parameters.items c.args.values.items c.requires.fitting);
  closed =
      subst (λ (node : Node). IsClosedNode node) (sym c.of.ensures)
      (copies_closed c.args.spec.now c.args.values.items c.in_ok-environment.environment.items (behaviour_of c.in_ok-body.body.value)
      c.in_ok-environment.ensures (ap behaviour_of c.in_ok-body.ensures) c.requires);
}
