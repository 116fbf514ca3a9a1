-- What came in so far, and one member more.
use Rattle.std.specs.Prelude.{◌≡◌, ℕ, Bool, not, ◌&&◌, ◌||◌, nat_lt, List, [], ◌∷◌, ◌++◌, length, Option, None, Some}
use Rattle.std.specs.Option.{option_map}
use Rattle.lotos_base.specs.WrittenTerm.{PlacedName}
use Rattle.lotos_base.specs.WrittenView.{placed_name_of}
use Rattle.lotos_base.specs.declared.names.Name.{Name}
use Rattle.lotos_base.specs.declared.places.Place.{Place as CodePlace}
use Rattle.lotos_base.specs.Equation.{Place}
use Rattle.lotos_base.specs.Signature.{Sort, Operation}
use Rattle.sort_terms.specs.WellFormedTest.{all_differ}
use Rattle.type_presentations.specs.SortListView.{SortList, sorts_in}
use Rattle.type_presentations.specs.OperationListView.{OperationList, operations_in}
use Rattle.type_definitions.specs.Presentation.{first_position, presentation_limit, with_new}
use Rattle.type_definitions.specs.ActualisationFaults.{Coming}
use Rattle.type_renaming.specs.Condensed.{Kind, place_of_pair}
use Rattle.type_renaming.specs.MakersView.{makers_in}
use Rattle.type_renaming.specs.Noting.{maker_at, no_makers, maker_noted, two_makers}
use Rattle.type_renaming.specs.FaultPlaces.{kept_place, stands_at}
use Rattle.type_renaming.specs.declared.came.Came.{Came}

-- the place that is kept, with the name there
abbrev pub place_kept : Option (CodePlace × Name) → Option PlacedName
place_kept kept = option_map placed_name_of kept

-- Nothing came in yet, where so many members are there.
pub record IsFresh (came : Came) (count : ℕ) : Type 0 where
  pub numbers : came.numbers.items ≡ []
  pub makers : makers_in came.makers ≡ no_makers count
  pub clash : place_kept came.clash ≡ None
  pub too_many : place_kept came.too_many ≡ None

-- The members that are there, the new numbers of those that came, the first pairs that made what is there, and where the
-- first clash stands and the first that is too many.
pub record Arrived (A : Type 0) : Type 0 where
  pub list : List A
  pub numbers : List ℕ
  pub makers : List (Option Place)
  pub clash : Option PlacedName
  pub too_many : Option PlacedName

-- with the sorts of a list
abbrev pub sorts_with : SortList → Came → Arrived Sort
sorts_with list came = record {
  list = sorts_in list;
  numbers = came.numbers.items;
  makers = makers_in came.makers;
  clash = place_kept came.clash;
  too_many = place_kept came.too_many;
}

-- with the operations of a list
abbrev pub operations_with : OperationList → Came → Arrived Operation
operations_with list came = record {
  list = operations_in list;
  numbers = came.numbers.items;
  makers = makers_in came.makers;
  clash = place_kept came.clash;
  too_many = place_kept came.too_many;
}

-- ---- One member more.

-- whether two members are one
abbrev pub are_one_member : {A : Type 0} → Kind A → A → A → Bool
are_one_member k x y = k.one x y && k.origin x y

-- A formal member came, whose actual one has this number: nothing else changes.
pub record HasActual {A : Type 0} (old new : Arrived A) (number : ℕ) : Type 0 where
  pub list : new.list ≡ old.list
  pub numbers : new.numbers ≡ old.numbers ++ number ∷ []
  pub makers : new.makers ≡ old.makers
  pub clash : new.clash ≡ old.clash
  pub too_many : new.too_many ≡ old.too_many

-- A member came that is not formal: its image is in the list, where another one of its kind, or another pair that made it,
-- is a clash.
pub record HasImage {A : Type 0} (k : Kind A) (mention : PlacedName) (x : Coming A) (old new : Arrived A) : Type 0 where
  pub list : new.list ≡ with_new (are_one_member k) old.list (x.image ∷ [])
  pub numbers : new.numbers ≡ old.numbers ++ first_position (are_one_member k x.image) new.list ∷ []
  pub makers : new.makers ≡ maker_noted old.makers (first_position (are_one_member k x.image) new.list) (place_of_pair x.pair)
  pub is_second : Bool
  pub seconds : all_differ k.one new.list ≡ (not is_second && all_differ k.one old.list)
  pub clash : new.clash
      ≡ kept_place old.clash
      (is_second || two_makers (place_of_pair x.pair) (maker_at old.makers (first_position (are_one_member k x.image) new.list)))
      (stands_at x.pair mention)
  pub too_many : new.too_many ≡ kept_place old.too_many (nat_lt presentation_limit (length new.list)) (stands_at x.pair mention)

-- A member came, whose actual one is given if it is formal.
abbrev pub HasSettled : {A : Type 0} → Kind A → PlacedName → Coming A → Arrived A → Arrived A → Option ℕ → Type 0
HasSettled k mention x old new None = HasImage k mention x old new
HasSettled k mention x old new (Some number) = HasActual old new number
