-- Laws of derivable equality: it is the least congruence that holds every ground instance of every equation.
use Rattle.std.specs.Prelude.{◌≡◌, ℕ, List, Some}
use Rattle.lotos_base.specs.Term.{Term, node, Terms}
use Rattle.lotos_base.specs.Sorting.{HasSort, IsGround, Occurs}
use Rattle.lotos_base.specs.Path.{put_at}
use Rattle.lotos_base.specs.Substitution.{Substitution, substituted}
use Rattle.lotos_base.specs.Equation.{Equation, Data, IsEquation, HasSortedSides, AreSortedData, IsWellFormedData, IsGroundInstance}
use Rattle.lotos_base.specs.Equality.{Link, Equal, AllEqual}

-- each term is equal to itself
abbrev pub EqualityIsReflexive : Type 0
EqualityIsReflexive = (data_ : Data) (t : Term) → Equal data_ t t

-- if one term is equal to another, then the other is equal to the one
abbrev pub EqualityIsSymmetric : Type 0
EqualityIsSymmetric = (data_ : Data) (t u : Term) → Equal data_ t u → Equal data_ u t

-- two terms that are equal to a third one are equal
abbrev pub EqualityIsTransitive : Type 0
EqualityIsTransitive = (data_ : Data) (t u v : Term) → Equal data_ t u → Equal data_ u v → Equal data_ t v

-- equal terms at one path of a term give equal terms
abbrev pub EqualityHoldsInside : Type 0
EqualityHoldsInside = (data_ : Data) (path : List ℕ) (t u whole before after : Term) → Equal data_ t u
    → put_at path t whole ≡ Some before → put_at path u whole ≡ Some after → Equal data_ before after

-- an operation on equal arguments gives equal terms
abbrev pub EqualityHoldsUnderOperations : Type 0
EqualityHoldsUnderOperations = (data_ : Data) (operation : ℕ) (ts us : Terms) → AllEqual data_ ts us
    → Equal data_ (node operation ts) (node operation us)

-- values that are equal one by one, at the variables that occur, give equal instances of a term
abbrev pub EqualValuesGiveEqualInstances : Type 0
EqualValuesGiveEqualInstances = (data_ : Data) (values others : Substitution) (t : Term)
    → ((n s : ℕ) → Occurs n s t → Equal data_ (values n s) (others n s))
    → Equal data_ (substituted values t) (substituted others t)

-- the two sides of each ground instance of each equation are equal
abbrev pub EquationsHold : Type 0
EquationsHold = (data_ : Data) (equation : Equation) (values : Substitution) → IsEquation data_ equation
    → IsGroundInstance data_.signature equation values
    → Equal data_ (substituted values equation.left) (substituted values equation.right)

-- what is well formed has sorted sides, with one sort for each variable number of an equation
abbrev pub WellFormedDataAreSorted : Type 0
WellFormedDataAreSorted = (data_ : Data) → IsWellFormedData data_ → AreSortedData data_

-- what is equal to a ground term is ground, so a chain from a ground term has ground terms alone
abbrev pub EqualityKeepsGround : Type 0
EqualityKeepsGround = (data_ : Data) (t u : Term) → Equal data_ t u → IsGround t → IsGround u

-- where the two sides of each equation have one sort, what is equal to a term of some sort has that sort
abbrev pub EqualityKeepsSorts : Type 0
EqualityKeepsSorts = (data_ : Data) (t u : Term) (s : ℕ) → HasSortedSides data_ → Equal data_ t u
    → HasSort data_.signature t s → HasSort data_.signature u s

-- A relation on the terms of a domain that no link leaves is a congruence that holds every ground instance. It is
-- asked of terms outside the domain too: `inside` speaks of any two related terms t and u that are put in, and
-- `equations` of every ground instance.
pub record IsCongruence (data_ : Data) (Domain : Term → Type 0) (Related : Term → Term → Type 0) : Type 0 where
  pub closed : (t u : Term) → Domain t → Link data_ t u → Domain u
  pub reflexive : (t : Term) → Domain t → Related t t
  pub symmetric : (t u : Term) → Domain t → Domain u → Related t u → Related u t
  pub transitive : (t u v : Term) → Domain t → Domain u → Domain v → Related t u → Related u v → Related t v
  pub inside : (path : List ℕ) (t u whole before after : Term) → Domain before → Domain after → Related t u
      → put_at path t whole ≡ Some before → put_at path u whole ≡ Some after → Related before after
  pub equations : (equation : Equation) (values : Substitution) → IsEquation data_ equation
      → IsGroundInstance data_.signature equation values
      → Related (substituted values equation.left) (substituted values equation.right)

-- equal terms of the domain are related
abbrev pub IsContained : Data → (Term → Type 0) → (Term → Term → Type 0) → Type 0
IsContained data_ Domain Related = (t u : Term) → Domain t → Equal data_ t u → Related t u
