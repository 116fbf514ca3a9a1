-- Environments that give the variables in scope terms over leaves, and the lists of moves with higher leaves below them.
use Rattle.std.specs.Prelude.{◌≡◌, ◌≤◌, ◌+◌, ℕ, List, [], ◌∷◌, length}
use Rattle.lotos_base.specs.Signature.{Signature, IsSort}
use Rattle.lotos_base.specs.Term.{Term}
use Rattle.lotos_base.specs.Equation.{Data, Variable}
use Rattle.lotos_base.specs.Canon.{IsCanon}
use Rattle.lotos_base.specs.Substitution.{binding}
use Rattle.behaviour_semantics.specs.Behaviour.{Behaviour, Specification}
use Rattle.behaviour_semantics.specs.Draft.{first_apart, above_variables}
use Rattle.behaviour_semantics.specs.NumberingLaws.{IsOverLeaves}
use Rattle.behaviour_semantics.specs.Replacement.{with_values}
use Rattle.behaviour_semantics.specs.WellFormed.{IsBehaviour, IsSpecification}
use Rattle.draft_parts.specs.HasDrafts.{Raises}

-- The pairs give the variables in scope, one by one, terms of their sorts, whose variables are leaves from `base` on and below
-- a limit.
abbrev pub GivesScope : Signature → ℕ → ℕ → List Variable → List (ℕ × Term) → Type 0
GivesScope signature base limit [] [] = Unit {0}
GivesScope signature base limit (x ∷ scope) (pair ∷ pairs) =
    (pair.0 ≡ x.number) × IsSort signature x.sort × IsOverLeaves signature base limit x.sort pair.1
    × GivesScope signature base limit scope pairs
GivesScope signature base limit _ _ = ⊥

-- below such an environment the list of moves with higher leaves is the list with the variables raised
abbrev pub EnvironmentsRaise : Type 0
EnvironmentsRaise =
    (data_ : Data) (canon : Term → Term) (specification : Specification) (scope : List Variable) (pairs : List (ℕ × Term)) (b : Behaviour) →
    IsCanon data_ canon →
    IsSpecification data_.signature specification →
    IsBehaviour data_.signature (length specification.gate_names) specification.processes scope b →
    (base next : ℕ) →
    first_apart specification.processes b ≤ base →
    above_variables scope ≤ base →
    GivesScope data_.signature base (base + next) scope pairs →
    Raises (record { signature = data_.signature; represent = canon; processes = specification.processes }) base next
    (with_values (binding pairs) b)
