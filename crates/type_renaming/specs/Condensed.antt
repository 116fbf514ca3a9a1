-- What comes in, condensed to one member of each kind, with the pair that made it first.
use Rattle.std.specs.Prelude.{Bool, not, ◌&&◌, ◌||◌, List, [], ◌∷◌, map, Option, None, Some, if◌then◌else◌}
use Rattle.lotos_base.specs.Signature.{Sort, Operation}
use Rattle.lotos_base.specs.Equation.{Place}
use Rattle.syntax_trees.specs.WrittenItem.{WrittenPair}
use Rattle.sort_terms.specs.ReadingOutcome.{one_name}
use Rattle.sort_terms.specs.WellFormedTest.{are_one_sort, are_one_operation}
use Rattle.type_definitions.specs.ActualisationFaults.{Coming, made_by_two}

-- The tests of a kind of members: whether two have one name, form and profile; whether two have one origin.
pub record Kind (A : Type 0) : Type 0 where
  pub one : A → A → Bool
  pub origin : A → A → Bool

-- whether two members of one name, form and profile are different
abbrev pub members_clash : {A : Type 0} → Kind A → Coming A → Coming A → Bool
members_clash k x y = k.one x.image y.image && (not (k.origin x.image y.image) || made_by_two x.pair y.pair)

-- the first of two pairs
abbrev pub first_pair : Option WrittenPair → Option WrittenPair → Option WrittenPair
first_pair None other = other
first_pair (Some pair) other = Some pair

-- the members with one more: where it is there, its pair alone comes in
abbrev pub absorbed : {A : Type 0} → Kind A → List (Coming A) → Coming A → List (Coming A)
absorbed k [] x = x ∷ []
absorbed k (c ∷ cs) x =
    if k.one x.image c.image && k.origin x.image c.image then record { image = c.image; pair = first_pair c.pair x.pair } ∷ cs
    else c ∷ absorbed k cs x

-- their images
abbrev pub images_of : {A : Type 0} → List (Coming A) → List A
images_of {A} cs = map (λ (c : Coming A). c.image) cs

-- the pair of the first member that is the same
abbrev pub pair_at : {A : Type 0} → Kind A → List (Coming A) → A → Option WrittenPair
pair_at k [] x = None
pair_at k (c ∷ cs) x = if k.one x c.image && k.origin x c.image then c.pair else pair_at k cs x

abbrev pub sort_kind : Kind Sort
sort_kind = record { one = are_one_sort; origin = λ (s : Sort) (t : Sort). one_name s.origin t.origin }

abbrev pub operation_kind : Kind Operation
operation_kind = record { one = are_one_operation; origin = λ (o : Operation) (p : Operation). one_name o.origin p.origin }

-- the place of the pair, if there is one
abbrev pub place_of_pair : Option WrittenPair → Option Place
place_of_pair None = None
place_of_pair (Some pair) = Some pair.place

-- the places of the pairs that made the members
abbrev pub makers_of : {A : Type 0} → List (Coming A) → List (Option Place)
makers_of {A} cs = map (λ (c : Coming A). place_of_pair c.pair) cs
