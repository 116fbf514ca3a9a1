-- What a relation of parts to columns holds, and what it leads to.
use Rattle.std.specs.Prelude.{◌≡◌, ℕ, ◌*◌, ◌/◌, ◌%◌, Bool, true, false, List, map, ◌||◌}
use Rattle.std.specs.List.{range_with_len}
use Rattle.ll_engine.specs.declared.symbol.Row.{Row}
use Rattle.ll_engine.specs.declared.relation.Relation.{Relation}
use Rattle.ll_engine.specs.Computed.{holds, part_column, leads, has_corner, has_follower}

-- one column for each token, one for the end and one for each part
abbrev pub width_of : Relation → ℕ
width_of relation = part_column relation.tokens relation.parts

abbrev pub related : Relation → ℕ → ℕ → Bool
related relation = holds relation.bits.items (width_of relation)

-- the bits of a test, part by part and in each column by column
abbrev pub cells : (ℕ → ℕ → Bool) → ℕ → ℕ → List Bool
cells test parts width = map (λ cell. test (cell / width) (cell % width)) (range_with_len 0 (parts * width))

-- the relation of the same shape with the test's bits
pub record HasCells (relation : Relation) (test : ℕ → ℕ → Bool) (parts tokens : ℕ) : Type 0 where
  pub same_parts : relation.parts ≡ parts
  pub same_tokens : relation.tokens ≡ tokens
  pub bits_are : relation.bits.items ≡ cells test parts (part_column tokens parts)

-- what a round of closing makes of the relation
abbrev pub next_related : Relation → ℕ → ℕ → Bool
next_related relation part column =
    related relation part column || leads (related relation) relation.tokens relation.parts part column

-- the relation holds, or it takes the part to the column of another that leads to the column
pub data RelationLeads (relation : Relation) : ℕ → ℕ → Type 0 where
  here : (part column : ℕ) → related relation part column ≡ true → RelationLeads relation part column
  through : (part middle column : ℕ) → related relation part (part_column relation.tokens middle) ≡ true
      → RelationLeads relation middle column → RelationLeads relation part column

-- the new relation holds exactly what the old one leads to
pub record IsClosureOf (old new : Relation) : Type 0 where
  pub same_parts : new.parts ≡ old.parts
  pub same_tokens : new.tokens ≡ old.tokens
  pub sound : (part column : ℕ) → related new part column ≡ true → RelationLeads old part column
  pub complete : (part column : ℕ) → RelationLeads old part column → related new part column ≡ true

-- the closure of what the rows of each part begin with
pub record IsFirstSets (rows : List Row) (parts tokens : ℕ) (nullable : ℕ → Bool) (first : Relation) : Type 0 where
  pub none : ℕ → ℕ → Bool
  pub none_is : (part column : ℕ) → none part column ≡ false
  pub corners : Relation
  pub corners_are : HasCells corners (has_corner rows nullable none tokens) parts tokens
  pub closed : IsClosureOf corners first

-- the closure of what stands behind each part
pub record IsFollowSets (rows : List Row) (parts tokens start : ℕ) (nullable : ℕ → Bool) (first follow : Relation) : Type 0 where
  pub followers : Relation
  pub followers_are : HasCells followers (has_follower rows nullable (related first) tokens start) parts tokens
  pub closed : IsClosureOf followers follow
