-- Laws of the order of values, and of their lists.
use Rattle.std.specs.Prelude.{◌≡◌, ◌↔◌, ◌<◌, ◌≤◌, ◌⊎◌, ℕ, List}
use Rattle.std.specs.List.{Contains}
use Rattle.lotos_base.specs.Equality.{Equal}
use Rattle.lotos_base.specs.Equation.{Data}
use Rattle.lotos_base.specs.Signature.{Signature}
use Rattle.lotos_base.specs.Sorting.{IsGround, IsGroundOf}
use Rattle.lotos_base.specs.Term.{Term}
use Rattle.rewriting_theory.specs.NormalForm.{Normalises}
use Rattle.rewriting_theory.specs.Rewriting.{AreConfluent, IsNormal}
use Rattle.rewriting_theory.specs.Rule.{Rule, AreSortedRulesOf}
use Rattle.value_lists.specs.TermOrder.{term_size, ComesBefore}
use Rattle.value_lists.specs.ValueList.{IsValueList, ListsInOrder}

-- no term comes before itself
abbrev pub ComesBeforeIsIrreflexive : Type 0
ComesBeforeIsIrreflexive = (t : Term) → ¬ ComesBefore t t

-- what comes before a term that comes before another one comes before that one
abbrev pub ComesBeforeIsTransitive : Type 0
ComesBeforeIsTransitive = (t u v : Term) → ComesBefore t u → ComesBefore u v → ComesBefore t v

-- of two ground terms of a signature that differ one comes before the other
abbrev pub OrderIsTotal : Type 0
OrderIsTotal = (signature : Signature) (s r : ℕ) (t u : Term) → IsGroundOf signature s t → IsGroundOf signature r u
    → ComesBefore t u ⊎ ((t ≡ u) ⊎ ComesBefore u t)

-- a smaller ground term comes first
abbrev pub SmallerTermsComeFirst : Type 0
SmallerTermsComeFirst = (t u : Term) → IsGround t → IsGround u → term_size t < term_size u → ComesBefore t u

-- there is a list of the values of a sort up to a size
abbrev pub ThereIsAValueList : Type 0
ThereIsAValueList = (signature : Signature) (rules : List Rule) (limit sort : ℕ)
    → (terms : List Term) × IsValueList signature (IsNormal rules) limit sort terms

-- and there is at most one
abbrev pub ThereIsOneValueList : Type 0
ThereIsOneValueList = (signature : Signature) (rules : List Rule) (limit sort : ℕ) (terms others : List Term)
    → IsValueList signature (IsNormal rules) limit sort terms → IsValueList signature (IsNormal rules) limit sort others → terms ≡ others

-- The ground term is one of its class by the equations: it is the one member of the list that the equations make equal to
-- the term.
abbrev pub IsOnlyMemberFor : Data → List Term → Term → Term → Type 0
IsOnlyMemberFor data_ terms t member =
    Contains terms member × Equal data_ t member × ((u : Term) → Contains terms u → Equal data_ t u → u ≡ member)

-- where the rules are confluent and each term has a normal form by them, each ground term whose normal form has at most so
-- many operations has exactly one equal term in the list, and this is its normal form
abbrev pub EachClassHasOneValue : Type 0
EachClassHasOneValue = (data_ : Data) (rules : List Rule) (canon : Term → Term) (limit sort : ℕ) (terms : List Term)
    → AreSortedRulesOf data_ rules → AreConfluent rules → Normalises rules canon
    → IsValueList data_.signature (IsNormal rules) limit sort terms → (t : Term) → IsGroundOf data_.signature sort t
    → term_size (canon t) ≤ limit → IsOnlyMemberFor data_ terms t (canon t)

-- and where it has more, it has none
abbrev pub LargeClassesHaveNoValue : Type 0
LargeClassesHaveNoValue = (data_ : Data) (rules : List Rule) (canon : Term → Term) (limit sort : ℕ) (terms : List Term)
    → AreSortedRulesOf data_ rules → AreConfluent rules → Normalises rules canon
    → IsValueList data_.signature (IsNormal rules) limit sort terms → (t u : Term) → IsGroundOf data_.signature sort t
    → Contains terms u → Equal data_ t u → term_size (canon t) ≤ limit

-- a term is irreducible by rules exactly where it is its own normal form
abbrev pub IrreducibleTermsStay : Type 0
IrreducibleTermsStay = (rules : List Rule) (canon : Term → Term) (t : Term) → Normalises rules canon
    → IsNormal rules t ↔ (canon t ≡ t)
