-- Laws of terms: argument lists are lists, the tests decide, a term has one sort.
use Rattle.std.specs.Prelude.{◌≡◌, ◌↔◌, ℕ, List, Some, IsTrue, slice_get}
use Rattle.lotos_base.specs.Signature.{Signature}
use Rattle.lotos_base.specs.Term.{Term, Terms, argument_list_of, list_of}
use Rattle.lotos_base.specs.Sorting.{HasSort, head_sort_of, IsGround, Occurs}
use Rattle.lotos_base.specs.Path.{argument_at}
use Rattle.lotos_base.specs.Tests.{term_eq, terms_eq, is_ground, occurs}

-- a list put into argument form and back is the same list
abbrev pub ListsComeBack : Type 0
ListsComeBack = (ts : List Term) → list_of (argument_list_of ts) ≡ ts

-- arguments put into a list and back are the same arguments
abbrev pub ArgumentsComeBack : Type 0
ArgumentsComeBack = (ts : Terms) → argument_list_of (list_of ts) ≡ ts

-- the argument at a position is the member of the list at that position
abbrev pub ArgumentsAreMembers : Type 0
ArgumentsAreMembers = (k : ℕ) (ts : Terms) → argument_at k ts ≡ slice_get (list_of ts) k

-- the test of identity is true exactly where the terms are identical
abbrev pub IdentityIsDecided : Type 0
IdentityIsDecided = (t u : Term) → IsTrue (term_eq t u) ↔ (t ≡ u)

-- and so is that of argument lists
abbrev pub IdentityOfArgumentsIsDecided : Type 0
IdentityOfArgumentsIsDecided = (ts us : Terms) → IsTrue (terms_eq ts us) ↔ (ts ≡ us)

-- the test of groundness is true exactly where the term is ground
abbrev pub GroundnessIsDecided : Type 0
GroundnessIsDecided = (t : Term) → IsTrue (is_ground t) ↔ IsGround t

-- the test of occurrence is true exactly where the variable occurs
abbrev pub OccurrenceIsDecided : Type 0
OccurrenceIsDecided = (n s : ℕ) (t : Term) → IsTrue (occurs n s t) ↔ Occurs n s t

-- a term is ground exactly where no variable occurs in it
abbrev pub GroundMeansNoVariable : Type 0
GroundMeansNoVariable = (t : Term) → IsGround t ↔ ((n s : ℕ) → ¬ Occurs n s t)

-- a term has at most one sort
abbrev pub SortsAreUnique : Type 0
SortsAreUnique = (signature : Signature) (t : Term) (r s : ℕ) → HasSort signature t r → HasSort signature t s
    → r ≡ s

-- the sort of a well-sorted term is the one that its head gives it
abbrev pub HeadsGiveSorts : Type 0
HeadsGiveSorts = (signature : Signature) (t : Term) (s : ℕ) → HasSort signature t s
    → head_sort_of signature t ≡ Some s
