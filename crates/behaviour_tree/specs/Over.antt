-- Specifications and states over a signature: the plain values are well formed, and each operation in a term has the
-- profile that the signature gives it.
use Rattle.std.specs.Prelude.{List}
use Rattle.lotos_base.specs.Signature.{Signature}
use Rattle.behaviour_semantics.specs.Behaviour.{sorts_of}
use Rattle.behaviour_semantics.specs.Rule.{AreValues}
use Rattle.behaviour_semantics.specs.WellFormed.{Every, IsSpecification, IsClosedBehaviour}
use Rattle.sort_terms.specs.ProfiledTerm.{ProfiledTerm, IsOf}
use Rattle.sort_terms.specs.declared.sorted.Sorted.{Sorted}
use Rattle.behaviour_tree.specs.BehaviourView.{terms_of, variables_of}
use Rattle.behaviour_tree.specs.BehaviourTerms.{profiles_in, profiles_of}
use Rattle.behaviour_tree.specs.DefinitionView.{specification_of}
use Rattle.behaviour_tree.specs.StateView.{node_profiles, state_of}
use Rattle.behaviour_tree.specs.declared.definitions.Process.{Process}
use Rattle.behaviour_tree.specs.declared.definitions.Spec.{Spec}
use Rattle.behaviour_tree.specs.declared.states.State.{State}

-- The terms are of the signature, and so carry its profiles.
abbrev pub AreTermsOf : Signature → List ProfiledTerm → Type 0
AreTermsOf signature terms = Every (IsOf signature) terms

-- The specification is well formed over the signature.
pub record IsSpecOver (signature : Signature) (spec : Spec) : Type 0 where
  pub well_formed : IsSpecification signature (specification_of spec)
  pub body : AreTermsOf signature (profiles_in spec.body.value)
  pub bodies : Every (λ (p : Process). AreTermsOf signature (profiles_in p.body)) spec.processes.items

-- The state is of the specification: the closed behaviour that it stands for is well formed over it.
pub record IsStateOf (signature : Signature) (spec : Spec) (state : State) : Type 0 where
  pub closed : IsClosedBehaviour signature (specification_of spec) (state_of state)
  pub terms : AreTermsOf signature (node_profiles state.node)

-- Over some signature the specification is well formed, and the values are ground and of the sorts of its parameters.
pub record IsStart (spec : Spec) (values : List Sorted) : Type 0 where
  pub signature : Signature
  pub over : IsSpecOver signature spec
  pub fitting : AreValues signature (sorts_of (variables_of spec.parameters.items)) (terms_of values)
  pub profiles : AreTermsOf signature (profiles_of values)
