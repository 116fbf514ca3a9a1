-- The list of moves with higher leaves is the list of moves, with the variables raised.
use Rattle.std.proofs.Common.{◌≡◌, ◌≤◌, ◌+◌, inl, inr, ℕ, List, [], ◌∷◌, length, map, Some, Option, option_map, refl, ap, sym, ◌∙◌, subst}
use Rattle.lotos_base.proofs.Options.{mapped}
use Rattle.lotos_base.specs.Term.{Term}
use Rattle.lotos_base.specs.Equation.{Data, Variable}
use Rattle.lotos_base.specs.Canon.{IsCanon}
use Rattle.lotos_base.specs.Substitution.{Substitution}
use Rattle.behaviour_semantics.specs.Behaviour.{Behaviour, Specification}
use Rattle.behaviour_semantics.specs.Draft.{leaves_from, first_apart, above_variables}
use Rattle.behaviour_semantics.specs.Join.{move_with, raised_from}
use Rattle.behaviour_semantics.specs.Listing.{ShapedMove, IsAmong, listed_moves}
use Rattle.behaviour_semantics.specs.Move.{Setting, Move, move_of}
use Rattle.behaviour_semantics.specs.NumberingLaws.{AreOverLeaves}
use Rattle.behaviour_semantics.specs.Replacement.{with_values, binding_of}
use Rattle.behaviour_semantics.specs.Shape.{Shape}
use Rattle.behaviour_semantics.specs.WellFormed.{Every, AreBinders, IsBehaviour, IsSpecification}
use Rattle.behaviour_semantics.proofs.ListLemmas.{EachOf, Within, Every-among}
use Rattle.behaviour_semantics.proofs.ListingLemmas.{listed}
use Rattle.behaviour_semantics.proofs.ListingSoundness.{are_moves}
use Rattle.behaviour_semantics.proofs.ListingOrder.{Earlier, Rising, RisingIn, moves_rise}
use Rattle.behaviour_semantics.proofs.RaisedInside.{later_leaf_inside}
use Rattle.behaviour_semantics.proofs.ListedOnce.{same_lists, Inside}
use Rattle.draft_parts.specs.HigherLists.{raised_move, HigherListsAreRaised}

-- ---- A list with the variables raised.
every_earlier : (first shift : ℕ) (x : ShapedMove) (xs : List ShapedMove) → Every (Earlier x) xs
    → Every (Earlier (raised_move first shift x)) (map (raised_move first shift) xs)
every_earlier first shift x [] h = tt
every_earlier first shift x (y ∷ xs) h = (h.0, every_earlier first shift x xs h.1)

raised_rise : (first shift : ℕ) (xs : List ShapedMove) → Rising xs → Rising (map (raised_move first shift) xs)
raised_rise first shift [] h = tt
raised_rise first shift (x ∷ xs) h = (every_earlier first shift x xs h.0, raised_rise first shift xs h.1)

among_raised : (first shift : ℕ) (x : ShapedMove) (xs : List ShapedMove) → IsAmong x xs
    → IsAmong (raised_move first shift x) (map (raised_move first shift) xs)
among_raised first shift x [] a = absurd a
among_raised first shift x (y ∷ xs) (inl same) = inl (ap (raised_move first shift) same)
among_raised first shift x (y ∷ xs) (inr a) = inr (among_raised first shift x xs a)

-- what a member of the raised list comes from
raised_from_one : (first shift : ℕ) (z : ShapedMove) (xs : List ShapedMove) → IsAmong z (map (raised_move first shift) xs)
    → (x : ShapedMove) × IsAmong x xs × (raised_move first shift x ≡ z)
raised_from_one first shift z [] a = absurd a
raised_from_one first shift z (x ∷ xs) (inl same) = (x, inl refl, same)
raised_from_one first shift z (x ∷ xs) (inr a) = let rest = raised_from_one first shift z xs a in (rest.0, inr rest.1, rest.2)

-- ---- The members of a list of moves are those of the table.
module _ (setting : Setting) (leaves : Substitution) (depth next : ℕ) (b : Behaviour) (moves : List ShapedMove)
    (is : listed_moves setting leaves depth next b ≡ Some moves) where
  rise : Rising moves
  rise = subst RisingIn is (moves_rise setting leaves depth next b)

  sound : (x : ShapedMove) → IsAmong x moves → move_of setting leaves x.shape next b ≡ Some x.move
  sound x a = Every-among (λ (y : ShapedMove). move_of setting leaves y.shape next b ≡ Some y.move) moves x
      (subst (EachOf (λ (y : ShapedMove). move_of setting leaves y.shape next b ≡ Some y.move)) is (are_moves setting leaves depth next b))
      a

  complete : (x : ShapedMove) → move_of setting leaves x.shape next b ≡ Some x.move → IsAmong x moves
  complete x e = subst (Within x) is (listed setting leaves depth x.shape next b x.move e)

module _ (setting : Setting) (leaves : Substitution) (depth other next shift first : ℕ) (b : Behaviour) (moves others : List ShapedMove)
    (is : listed_moves setting leaves depth next b ≡ Some moves)
    (higher : listed_moves setting leaves other (next + shift) b ≡ Some others)
    (raised : (s : Shape) → move_of setting leaves s (next + shift) b
    ≡ option_map (move_with (raised_from first shift)) (move_of setting leaves s next b)) where
  from_lower : Inside (map (raised_move first shift) moves) others
  from_lower z a =
      let from = raised_from_one first shift z moves a in
      let x : ShapedMove = from.0 in
      let low : move_of setting leaves from.0.shape next b ≡ Some from.0.move = sound setting leaves depth next b moves is from.0 from.1 in
      let high : move_of setting leaves from.0.shape (next + shift) b ≡ Some (move_with (raised_from first shift) from.0.move) =
      raised from.0.shape ∙ ap (option_map (move_with (raised_from first shift))) low in
      subst (λ (w : ShapedMove). IsAmong w others) from.2
      (complete setting leaves other (next + shift) b others higher (raised_move first shift from.0) high)

  from_higher : Inside others (map (raised_move first shift) moves)
  from_higher z a =
      let high : move_of setting leaves z.shape (next + shift) b ≡ Some z.move =
      sound setting leaves other (next + shift) b others higher z a in
      let low = mapped (move_with (raised_from first shift)) (move_of setting leaves z.shape next b) (sym (raised z.shape) ∙ high) in
      let m : Move = low.0 in
      let here : IsAmong (record { shape = z.shape; move = low.0 }) moves =
      complete setting leaves depth next b moves is (record { shape = z.shape; move = low.0 }) low.1 in
      subst (λ (k : Move). IsAmong (record { shape = z.shape; move = k }) (map (raised_move first shift) moves)) low.2
      (among_raised first shift (record { shape = z.shape; move = low.0 }) moves here)

  raised_list : others ≡ map (raised_move first shift) moves
  raised_list =
      same_lists others (map (raised_move first shift) moves) (rise setting leaves other (next + shift) b others higher)
      (raised_rise first shift moves (rise setting leaves depth next b moves is)) from_higher from_lower

pub higher_raised : HigherListsAreRaised
higher_raised data_ canon specification variables terms b is_canon well_formed binders inside base next shift depth other le le_variables
    over
    moves others is higher =
    raised_list (record { signature = data_.signature; represent = canon; processes = specification.processes }) (leaves_from base) depth
    other next shift (base + next) (with_values (binding_of variables terms) b) moves others is higher
    (λ s. later_leaf_inside data_ canon specification variables terms b is_canon well_formed binders inside base shift s next le
    le_variables over)
