-- Equations and data: ISO 8807's data part after flattening.
use Rattle.std.specs.Prelude.{◌≡◌, ℕ, List, Some, slice_get, ◌⊎◌}
use Rattle.lotos_base.specs.Signature.{Signature, IsSort, IsWellFormedSignature}
use Rattle.lotos_base.specs.Term.{Term}
use Rattle.lotos_base.specs.Sorting.{HasSort, Occurs}
use Rattle.lotos_base.specs.Substitution.{Substitution, IsGrounding}

-- A place in the input: the number of the text, and the line and column from 1.
pub record Place : Type 0 where
  pub text : ℕ
  pub line : ℕ
  pub column : ℕ

-- A declared variable with its name, number and sort.
pub record Variable : Type 0 where
  pub name : List ℕ
  pub number : ℕ
  pub sort : ℕ

-- An equation with the place where it is written, its declared variables and its two sides.
pub record Equation : Type 0 where
  pub place : Place
  pub variables : List Variable
  pub left : Term
  pub right : Term

-- Data are a signature and equations.
pub record Data : Type 0 where
  pub signature : Signature
  pub equations : List Equation

-- The equation is one of the data.
abbrev pub IsEquation : Data → Equation → Type 0
IsEquation data_ equation = (number : ℕ) × (slice_get data_.equations number ≡ Some equation)

-- The equation is declared with the variable of this number and sort.
abbrev pub IsDeclared : Equation → ℕ → ℕ → Type 0
IsDeclared equation n s =
    (i : ℕ) × (v : Variable) × (slice_get equation.variables i ≡ Some v) × (v.number ≡ n) × (v.sort ≡ s)

-- The two sides of the equation have one sort.
pub record HasOneSort (signature : Signature) (equation : Equation) : Type 0 where
  pub sort : ℕ
  pub left : HasSort signature equation.left sort
  pub right : HasSort signature equation.right sort

-- The two sides of each equation of the data have one sort.
abbrev pub HasSortedSides : Data → Type 0
HasSortedSides data_ = (equation : Equation) → IsEquation data_ equation → HasOneSort data_.signature equation

-- The variable with this number and sort occurs in a side of the equation.
abbrev pub OccursIn : Equation → ℕ → ℕ → Type 0
OccursIn equation n s = Occurs n s equation.left ⊎ Occurs n s equation.right

-- A variable number has one sort in the equation.
abbrev pub HasOneSortPerNumber : Equation → Type 0
HasOneSortPerNumber equation = (n r s : ℕ) → OccursIn equation n r → OccursIn equation n s → r ≡ s

-- What each call that is given data may count on: the sides of each equation are terms of the signature and have one
-- sort, and a variable number has one sort in an equation. Nothing is asked of names, nor of what is declared.
pub record AreSortedData (data_ : Data) : Type 0 where
  pub sides : HasSortedSides data_
  pub numbers : (equation : Equation) → IsEquation data_ equation → HasOneSortPerNumber equation

-- An equation is well formed over a signature: its two sides have one sort, its variables have sorts of the
-- signature and different numbers, and each variable that occurs in a side is declared.
pub record IsEquationOver (signature : Signature) (equation : Equation) : Type 0 where
  pub sort : ℕ
  pub left_sort : HasSort signature equation.left sort
  pub right_sort : HasSort signature equation.right sort
  pub variable_sorts : (n s : ℕ) → IsDeclared equation n s → IsSort signature s
  pub numbers : (i j : ℕ) (v w : Variable) → slice_get equation.variables i ≡ Some v
      → slice_get equation.variables j ≡ Some w → v.number ≡ w.number → i ≡ j
  pub left_declared : (n s : ℕ) → Occurs n s equation.left → IsDeclared equation n s
  pub right_declared : (n s : ℕ) → Occurs n s equation.right → IsDeclared equation n s

-- Data are well formed: the signature is, and so is each equation over it.
pub record IsWellFormedData (data_ : Data) : Type 0 where
  pub signature : IsWellFormedSignature data_.signature
  pub equations : (equation : Equation) → IsEquation data_ equation → IsEquationOver data_.signature equation

-- The substitution makes a ground instance of the equation: it gives a ground term of the right sort for each
-- variable that occurs in a side. A variable that is declared and does not occur counts for nothing.
pub record IsGroundInstance (signature : Signature) (equation : Equation) (values : Substitution) : Type 0 where
  pub left : IsGrounding signature equation.left values
  pub right : IsGrounding signature equation.right values
