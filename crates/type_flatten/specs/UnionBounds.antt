-- Laws of the union of what is mentioned: it has each presentation, under one to one maps, keeps first appearances, and has
-- nothing else.
use Rattle.std.specs.Prelude.{◌≡◌, ℕ, true, List, ◌∷◌, ◌++◌, map}
use Rattle.lotos_base.specs.Signature.{Sort, Operation, IsWellFormedSignature}
use Rattle.lotos_base.specs.Equation.{Equation}
use Rattle.type_definitions.specs.Images.{equation_image}
use Rattle.type_definitions.specs.Presentation.{Presentation, is_marked_number}
use Rattle.type_definitions.specs.Union.{Mentioned, union_of, joined_sort, joined_operation, coming_operations}
use Rattle.type_definitions.specs.UnionLaws.{IsIn}
use Rattle.type_flatten.specs.Containment.{StaysIn, LiesIn, IsOneToOne}

-- The mention is one of them all, behind those that came before.
pub record IsBehind (before : List Mentioned) (m : Mentioned) (all : List Mentioned) : Type 0 where
  pub later : List Mentioned
  pub listed : all ≡ before ++ m ∷ later

-- the numbers that sorts and operations of the mentioned type get in the union
abbrev pub sort_behind : List Mentioned → Mentioned → ℕ → ℕ
sort_behind before m = joined_sort (union_of before) m.presentation

abbrev pub operation_behind : List Mentioned → Mentioned → ℕ → ℕ
operation_behind before m = joined_operation (union_of before) m.presentation

-- the equations of the second over the numbers of the union of the two
abbrev pub coming_equations : Presentation → Presentation → List Equation
coming_equations p q = map (equation_image (joined_sort p q) (joined_operation p q)) q.equations

pub record UnionsAreBounds : Type 0 where
  -- what is mentioned first keeps its numbers, whatever follows
  pub first_appearances : (all later : List Mentioned) → StaysIn (union_of all) (union_of (all ++ later))
  -- each presentation lies in the union
  pub bounds : (before : List Mentioned) (m : Mentioned) (all : List Mentioned) → IsBehind before m all
      → LiesIn (sort_behind before m) (operation_behind before m) m.presentation (union_of all)
  -- and what is different in it stays so
  pub one_to_one : (before : List Mentioned) (m : Mentioned) → IsWellFormedSignature m.presentation.signature
      → IsOneToOne (sort_behind before m) (operation_behind before m) m.presentation.signature
  -- each sort, operation, equation and mark of the union is that of a mention
  pub no_other_sorts : (all : List Mentioned) (s : Sort) → IsIn (union_of all).signature.sorts s
      → (before : List Mentioned) × (m : Mentioned) × IsBehind before m all × IsIn m.presentation.signature.sorts s
  pub no_other_operations : (all : List Mentioned) (o : Operation) → IsIn (union_of all).signature.operations o
      → (before : List Mentioned) × (m : Mentioned) × IsBehind before m all
      × IsIn (coming_operations (union_of before) m.presentation) o
  pub no_other_equations : (all : List Mentioned) (e : Equation) → IsIn (union_of all).equations e
      → (before : List Mentioned) × (m : Mentioned) × IsBehind before m all
      × IsIn (coming_equations (union_of before) m.presentation) e
  pub no_other_formal_sorts : (all : List Mentioned) (n : ℕ) → is_marked_number (union_of all).formal_sorts n ≡ true
      → (before : List Mentioned) × (m : Mentioned) × IsBehind before m all
      × (is_marked_number (map (sort_behind before m) m.presentation.formal_sorts) n ≡ true)
  pub no_other_formal_operations : (all : List Mentioned) (n : ℕ) → is_marked_number (union_of all).formal_operations n ≡ true
      → (before : List Mentioned) × (m : Mentioned) × IsBehind before m all
      × (is_marked_number (map (operation_behind before m) m.presentation.formal_operations) n ≡ true)
