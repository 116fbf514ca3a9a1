-- What is wrong with the names of types: a name declared twice, a mention of no type, a cycle of mentions, in this order.
use Rattle.std.specs.Prelude.{◌≡◌, ℕ, List, [], ◌∷◌, ◌++◌, Option, None, Some, slice_get, if◌then◌else◌}
use Rattle.lotos_base.specs.WrittenTerm.{PlacedName}
use Rattle.lotos_base.specs.Equation.{Place}
use Rattle.type_definitions.specs.DeclaredTypes.{DeclaredType, mentions_in, is_type_name, mention_graph}
use Rattle.type_definitions.specs.FlatteningOrder.{IsFlatteningOrder}
use Rattle.type_definitions.specs.TypeGraph.{IsFirstMentionOnCycle, IsAcyclic}
use Rattle.type_definitions.specs.Walking.{IsSorted}

-- A fault of the names of types, with the place and the name as it is spelled there.
pub data MentionFault : Type 0 where
  double_type unknown_type type_cycle : Place → List ℕ → MentionFault

-- The first type whose name an earlier one has.
abbrev pub second_declaration : List DeclaredType → List DeclaredType → Option DeclaredType
second_declaration earlier [] = None
second_declaration earlier (t ∷ ts) =
    if is_type_name earlier t.name then Some t else second_declaration (earlier ++ t ∷ []) ts

-- The first of the names that no type has.
abbrev pub unknown_among : List DeclaredType → List PlacedName → Option PlacedName
unknown_among types [] = None
unknown_among types (m ∷ ms) = if is_type_name types m.name then unknown_among types ms else Some m

-- the first of two, the second of which counts only where there is no first
abbrev pub earlier_of_two : {A : Type 0} → Option A → Option A → Option A
earlier_of_two None later = later
earlier_of_two (Some x) later = Some x

-- The first mention, in text order, of a name that no type has.
abbrev pub unknown_mention : List DeclaredType → List DeclaredType → Option PlacedName
unknown_mention types [] = None
unknown_mention types (t ∷ ts) = earlier_of_two (unknown_among types (mentions_in t.body)) (unknown_mention types ts)

-- No name is declared twice.
abbrev pub AreDeclaredOnce : List DeclaredType → Type 0
AreDeclaredOnce types = second_declaration [] types ≡ None

-- Each mention is that of a type.
abbrev pub AreAllKnown : List DeclaredType → Type 0
AreAllKnown types = unknown_mention types types ≡ None

-- the mentions of a type, if there is one
abbrev pub mentions_of_type : Option DeclaredType → List PlacedName
mentions_of_type None = []
mentions_of_type (Some t) = mentions_in t.body

-- the mention at this position of the type of this number
abbrev pub mention_at : List DeclaredType → ℕ → ℕ → Option PlacedName
mention_at types by position = slice_get (mentions_of_type (slice_get types by)) position

-- The mention is the first one, in text order, that lies on a cycle.
pub record IsCyclicMention (types : List DeclaredType) (mention : PlacedName) : Type 0 where
  pub by : ℕ
  pub position : ℕ
  pub is_first : IsFirstMentionOnCycle (mention_graph types) by position
  pub is_there : mention_at types by position ≡ Some mention

-- The fault is the one that counts: a double declaration before an unknown mention before a cycle, and of each kind the
-- first one in text order.
abbrev pub IsMentionFault : List DeclaredType → MentionFault → Type 0
IsMentionFault types (double_type place name) =
    (t : DeclaredType) × (second_declaration [] types ≡ Some t) × (t.place ≡ place) × (t.name ≡ name)
IsMentionFault types (unknown_type place name) =
    AreDeclaredOnce types
    × ((m : PlacedName) × (unknown_mention types types ≡ Some m) × (m.place ≡ place) × (m.name ≡ name))
IsMentionFault types (type_cycle place name) =
    AreDeclaredOnce types × AreAllKnown types
    × ((m : PlacedName) × IsCyclicMention types m × (m.place ≡ place) × (m.name ≡ name))

-- The names of the types have no fault, and this is the order in which they are flattened. Each type stands in it behind all
-- that it mentions.
pub record AreInOrder (types : List DeclaredType) (order : List ℕ) : Type 0 where
  pub declared_once : AreDeclaredOnce types
  pub all_known : AreAllKnown types
  pub acyclic : IsAcyclic (mention_graph types)
  pub ordered : IsFlatteningOrder (mention_graph types) order
  pub sorted : IsSorted (mention_graph types) order

-- the fault that counts is one alone
abbrev pub MentionFaultsAreUnique : Type 0
MentionFaultsAreUnique = (types : List DeclaredType) (one other : MentionFault) → IsMentionFault types one → IsMentionFault types other
    → one ≡ other
