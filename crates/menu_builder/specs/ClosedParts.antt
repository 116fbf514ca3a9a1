-- A closed part of a state is below its environment.
use Rattle.std.specs.Prelude.{◌≤◌, ℕ, List, [], map}
use Rattle.lotos_base.specs.Signature.{IsWellFormedSignature}
use Rattle.lotos_base.specs.Term.{Term}
use Rattle.lotos_base.specs.Equation.{Data, Variable}
use Rattle.lotos_base.specs.Canon.{IsCanon}
use Rattle.lotos_base.specs.Substitution.{binding}
use Rattle.behaviour_semantics.specs.Behaviour.{Behaviour, Specification}
use Rattle.behaviour_semantics.specs.Draft.{above_variables, first_apart}
use Rattle.behaviour_semantics.specs.Replacement.{with_values}
use Rattle.behaviour_semantics.specs.WellFormed.{Every, IsClosedBehaviour, IsSpecification}
use Rattle.sort_terms.specs.ProfiledTerm.{ProfiledTerm, head_sort, IsOf}
use Rattle.sort_terms.specs.declared.sorted.Sorted.{Sorted}
use Rattle.term_match.specs.ProfiledInstance.{bare_pairs}
use Rattle.term_match.specs.SubstView.{profiled_pairs}
use Rattle.behaviour_tree.specs.Closed.{IsClosedBy}
use Rattle.behaviour_tree.specs.StateView.{environment_of}
use Rattle.draft_parts.specs.RowLaws.{IsWellFormedBelow}

-- the variables that pairs give terms, with the sorts that the heads of the terms tell; their names make no difference
abbrev pub variables_given : List (ℕ × ProfiledTerm) → List Variable
variables_given pairs = map (λ (pair : ℕ × ProfiledTerm). record { name = []; number = pair.0; sort = head_sort pair.1 }) pairs

-- what is closed once the values of an environment are put in is well formed in the scope of the variables that have them
abbrev pub ClosedPartsAreBelow : Type 0
ClosedPartsAreBelow =
    (data_ : Data) (canon : Term → Term) (specification : Specification) (pairs : List (ℕ × Sorted)) (b : Behaviour) (base : ℕ) →
    IsWellFormedSignature data_.signature →
    IsCanon data_ canon →
    IsSpecification data_.signature specification →
    IsClosedBy pairs b →
    Every (λ (pair : ℕ × ProfiledTerm). IsOf data_.signature pair.1) (profiled_pairs pairs) →
    IsClosedBehaviour data_.signature specification (with_values (binding (environment_of pairs)) b) →
    first_apart specification.processes b ≤ base →
    above_variables (variables_given (profiled_pairs pairs)) ≤ base →
    IsWellFormedBelow data_ canon specification (variables_given (profiled_pairs pairs)) (bare_pairs (profiled_pairs pairs)) base 0 b
