-- A behaviour ends as its functionality says.
use Rattle.std.specs.Prelude.{◌≡◌, ℕ, List, Option, None, Some}
use Rattle.lotos_base.specs.Signature.{Signature}
use Rattle.lotos_base.specs.Sorting.{IsGroundOf}
use Rattle.lotos_base.specs.Term.{Term}
use Rattle.lotos_base.specs.Equation.{Data, Variable}
use Rattle.behaviour_semantics.specs.Behaviour.{Behaviour, Process, Specification, sorts_of}
use Rattle.behaviour_semantics.specs.Label.{Label, exit_event}
use Rattle.behaviour_semantics.specs.Replacement.{with_values, binding_of}
use Rattle.behaviour_semantics.specs.Run.{Reaches}
use Rattle.behaviour_semantics.specs.Shape.{Derivation}
use Rattle.behaviour_semantics.specs.Derives.{GivesMove}
use Rattle.behaviour_semantics.specs.Rule.{AreValues}
use Rattle.behaviour_semantics.specs.WellFormed.{IsSpecification, IsBehaviour, IsClosedBehaviour}
use Rattle.session_laws.specs.HasFunctionality.{HasFunctionality, EndsWithin, AllAgree}

abbrev pub OneFunctionality : Type 0
OneFunctionality =
    (signature : Signature) (processes : List Process) (b : Behaviour) (f g : Option (List ℕ)) →
    HasFunctionality signature processes b f →
    HasFunctionality signature processes b g →
    f ≡ g

-- the sorts of the values with which it ends are those of the functionality, which is not `noexit`
pub record EndsWith (signature : Signature) (f : Option (List ℕ)) (values : List Term) : Type 0 where
  pub sorts : List ℕ
  pub functionality : f ≡ Some sorts
  pub sorted : AreValues signature sorts values

-- where the terms are represented by such as are ground and of the same sorts, as by themselves or by their canonical forms
abbrev pub RepresentsSorted : Signature → (Term → Term) → Type 0
RepresentsSorted signature represent = (t : Term) (sort : ℕ) → IsGroundOf signature sort t → IsGroundOf signature sort (represent t)

-- A move of a closed behaviour with a functionality: `exit` has values of its sorts, and what follows has it too, or `noexit`.
pub record MoveKeeps (signature : Signature) (processes : List Process) (f : Option (List ℕ)) (label : Label) (target : Behaviour)
    : Type 0 where
  pub ends : (values : List Term) → label ≡ exit_event values → EndsWith signature f values
  pub goes_on : EndsWithin signature processes target f

pub record ExitsHaveTheirSorts : Type 0 where
  pub moves :
      (data_ : Data) (represent : Term → Term) (specification : Specification) (b : Behaviour) (declared : Option (List ℕ)) →
      IsSpecification data_.signature specification →
      AllAgree data_.signature specification →
      RepresentsSorted data_.signature represent →
      IsClosedBehaviour data_.signature specification b →
      EndsWithin data_.signature specification.processes b declared →
      (d : Derivation) (label : Label) (target : Behaviour) →
      GivesMove data_ represent specification.processes b d label target →
      MoveKeeps data_.signature specification.processes declared label target
  -- and so along derivations
  pub reached :
      (data_ : Data) (represent : Term → Term) (specification : Specification) (b : Behaviour) (declared : Option (List ℕ)) →
      IsSpecification data_.signature specification →
      AllAgree data_.signature specification →
      RepresentsSorted data_.signature represent →
      IsClosedBehaviour data_.signature specification b →
      EndsWithin data_.signature specification.processes b declared →
      (ds : List Derivation) (target : Behaviour) →
      Reaches data_ represent specification.processes b ds target →
      EndsWithin data_.signature specification.processes target declared
  -- a body keeps its functionality where values of the right sorts are put in for its parameters
  pub closed_by_values :
      (signature : Signature) (names : ℕ) (processes : List Process) (parameters : List Variable) (values : List Term) (b : Behaviour)
      (declared : Option (List ℕ)) →
      IsBehaviour signature names processes parameters b →
      AreValues signature (sorts_of parameters) values →
      EndsWithin signature processes b declared →
      EndsWithin signature processes (with_values (binding_of parameters values) b) declared
  -- so a behaviour with `noexit` never ends
  pub never :
      (data_ : Data) (represent : Term → Term) (specification : Specification) (b : Behaviour) →
      IsSpecification data_.signature specification →
      AllAgree data_.signature specification →
      RepresentsSorted data_.signature represent →
      IsClosedBehaviour data_.signature specification b →
      HasFunctionality data_.signature specification.processes b None →
      (d : Derivation) (values : List Term) (target : Behaviour) →
      GivesMove data_ represent specification.processes b d (exit_event values) target →
      ⊥
