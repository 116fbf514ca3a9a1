-- The list of moves with higher leaves is the list of moves, with the variables raised.
use Rattle.std.specs.Prelude.{◌≡◌, ◌≤◌, ◌+◌, ℕ, List, length, map, Some}
use Rattle.lotos_base.specs.Term.{Term}
use Rattle.lotos_base.specs.Equation.{Data, Variable}
use Rattle.lotos_base.specs.Canon.{IsCanon}
use Rattle.behaviour_semantics.specs.Behaviour.{Behaviour, Specification}
use Rattle.behaviour_semantics.specs.Draft.{leaves_from, first_apart, above_variables}
use Rattle.behaviour_semantics.specs.Join.{move_with, raised_from}
use Rattle.behaviour_semantics.specs.Listing.{ShapedMove, listed_moves}
use Rattle.behaviour_semantics.specs.NumberingLaws.{AreOverLeaves}
use Rattle.behaviour_semantics.specs.Replacement.{with_values, binding_of}
use Rattle.behaviour_semantics.specs.WellFormed.{AreBinders, IsBehaviour, IsSpecification}

-- The move with the variables from a first one on raised.
abbrev pub raised_move : ℕ → ℕ → ShapedMove → ShapedMove
raised_move first shift x = record { shape = x.shape; move = move_with (raised_from first shift) x.move }

-- inside a behaviour whose variables in scope have got terms over earlier leaves, the list with higher leaves is the list with
-- the variables raised; the depths to which the lists go need not be the same
abbrev pub HigherListsAreRaised : Type 0
HigherListsAreRaised =
    (data_ : Data) (canon : Term → Term) (specification : Specification) (variables : List Variable) (terms : List Term) (b : Behaviour) →
    IsCanon data_ canon →
    IsSpecification data_.signature specification →
    AreBinders data_.signature variables →
    IsBehaviour data_.signature (length specification.gate_names) specification.processes variables b →
    (base next shift depth other : ℕ) →
    first_apart specification.processes b ≤ base →
    above_variables variables ≤ base →
    AreOverLeaves data_.signature base (base + next) variables terms →
    (moves others : List ShapedMove) →
    listed_moves (record { signature = data_.signature; represent = canon; processes = specification.processes }) (leaves_from base) depth
    next (with_values (binding_of variables terms) b)
    ≡ Some moves →
    listed_moves (record { signature = data_.signature; represent = canon; processes = specification.processes }) (leaves_from base) other
    (next + shift) (with_values (binding_of variables terms) b)
    ≡ Some others →
    others ≡ map (raised_move (base + next) shift) moves
