-- Laws of the path order (Baader and Nipkow, 5.4).
use Rattle.std.specs.Prelude.{◌≡◌, ◌↔◌, ℕ, List, ◌∷◌, Some, IsTrue, length, nat_eq, nat_lt, ◌&&◌, ◌||◌}
use Rattle.lotos_base.specs.Signature.{Signature}
use Rattle.lotos_base.specs.Term.{Term, node, Terms, list_of}
use Rattle.lotos_base.specs.Sorting.{HasSort, Occurs}
use Rattle.lotos_base.specs.Path.{subterm, put_at}
use Rattle.lotos_base.specs.Substitution.{Substitution, substituted}
use Rattle.rewriting_theory.specs.Precedence.{Precedence}
use Rattle.rewriting_theory.specs.PathOrder.{IsGreater}
use Rattle.rewriting_theory.specs.OrderFamily.{Exceeds}
use Rattle.rewriting_theory.specs.OrderTest.{is_greater, some_reaches, list_exceeds, exceeds_all}

-- no term is greater than itself
abbrev pub OrderIsIrreflexive : Type 0
OrderIsIrreflexive = (precedence : Precedence) (t : Term) → ¬ IsGreater precedence t t

-- what is greater than a greater term is greater
abbrev pub OrderIsTransitive : Type 0
OrderIsTransitive = (precedence : Precedence) (t u v : Term) → IsGreater precedence t u → IsGreater precedence u v
    → IsGreater precedence t v

-- of two terms at most one is greater
abbrev pub AtMostOneIsGreater : Type 0
AtMostOneIsGreater = (precedence : Precedence) (t u : Term) → IsGreater precedence t u → ¬ IsGreater precedence u t

-- a greater term in place of a lesser one makes the whole greater
abbrev pub OrderIsClosedUnderContexts : Type 0
OrderIsClosedUnderContexts = (precedence : Precedence) (path : List ℕ) (t u whole before after : Term)
    → IsGreater precedence t u → put_at path t whole ≡ Some before → put_at path u whole ≡ Some after
    → IsGreater precedence before after

-- what holds of two terms holds of each instance of both
abbrev pub OrderIsClosedUnderSubstitution : Type 0
OrderIsClosedUnderSubstitution = (precedence : Precedence) (values : Substitution) (t u : Term)
    → IsGreater precedence t u → IsGreater precedence (substituted values t) (substituted values u)

-- a term is greater than each of its other subterms
abbrev pub TermsExceedTheirSubterms : Type 0
TermsExceedTheirSubterms = (precedence : Precedence) (k : ℕ) (path : List ℕ) (t part : Term)
    → subterm (k ∷ path) t ≡ Some part → IsGreater precedence t part

-- the variables of the lesser term occur in the greater one
abbrev pub LesserVariablesOccur : Type 0
LesserVariablesOccur = (precedence : Precedence) (t u : Term) (n s : ℕ) → IsGreater precedence t u → Occurs n s u
    → Occurs n s t

-- the test is true exactly where the first term is greater
abbrev pub OrderIsDecided : Type 0
OrderIsDecided = (precedence : Precedence) (t u : Term)
    → IsTrue (is_greater precedence t u) ↔ IsGreater precedence t u

-- the test on two operations comes to the tests on an argument and the whole, and on two arguments, as a table over
-- pairs of subterms has them
abbrev pub OrderIsToldByParts : Type 0
OrderIsToldByParts = (precedence : Precedence) (f g : ℕ) (ts us : Terms)
    → is_greater precedence (node f ts) (node g us)
    ≡ (some_reaches precedence ts (node g us)
    || (exceeds_all precedence (node f ts) us
    && (nat_lt (precedence.rank g) (precedence.rank f)
    || (nat_eq f g && list_exceeds precedence (precedence.status f) ts us))))

-- the order by places and the order by recursion along the lists are the same
abbrev pub PlacesTellTheOrder : Type 0
PlacesTellTheOrder = (precedence : Precedence) (t u : Term) → IsGreater precedence t u ↔ Exceeds precedence t u

-- the argument lists of one operation in well-sorted terms have one length
abbrev pub SortedArgumentsHaveOneLength : Type 0
SortedArgumentsHaveOneLength = (signature : Signature) (f r s : ℕ) (ts us : Terms)
    → HasSort signature (node f ts) r → HasSort signature (node f us) s
    → length (list_of ts) ≡ length (list_of us)
