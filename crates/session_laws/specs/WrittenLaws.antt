-- What a term is written as, where its names mean what they are printed for, has one reading; and a term that was read is such a term.
use Rattle.std.specs.Prelude.{◌≡◌, ℕ, List, [], Option}
use Rattle.lotos_base.specs.WrittenTerm.{WrittenTerm, WrittenTerms}
use Rattle.lotos_base.specs.Signature.{Signature, IsWellFormedSignature}
use Rattle.lotos_base.specs.Equation.{Variable}
use Rattle.lotos_base.specs.Sorting.{IsGroundOf, HaveSorts, AreGround}
use Rattle.lotos_base.specs.Term.{Term, Terms}
use Rattle.sort_terms.specs.Reading.{Reads, AllRead}
use Rattle.sort_terms.specs.ReadingOutcome.{answered, unknown_in, unknown_in_each, refusals_together, IsExpected, ReadingIs, PairReadingIs}
use Rattle.session_laws.specs.WrittenAs.{IsWrittenAs, AreWrittenAs}
use Rattle.session_laws.specs.TermMeanings.{TermMeans, AreLookedUp}

-- no name in the written term stands for nothing, and it has one reading at all sorts together
pub record HasOneReading (signature : Signature) (visible : List Variable) (w : WrittenTerm) (t : Term) (sort : ℕ) : Type 0 where
  pub known : unknown_in signature visible w ≡ []
  pub read : Reads signature visible w t sort
  pub only_term : (u : Term) (other : ℕ) → Reads signature visible w u other → u ≡ t
  pub only_sort : (u : Term) (other : ℕ) → Reads signature visible w u other → other ≡ sort

-- the same of written terms one by one
pub record HaveOneReading (signature : Signature) (visible : List Variable) (ws : WrittenTerms) (ts : Terms) (sorts : List ℕ)
    : Type 0 where
  pub known : refusals_together (unknown_in_each signature visible ws) ≡ []
  pub read : AllRead signature visible ws ts sorts
  pub only_terms : (us : Terms) (others : List ℕ) → AllRead signature visible ws us others → us ≡ ts
  pub only_sorts : (us : Terms) (others : List ℕ) → AllRead signature visible ws us others → others ≡ sorts

-- A term that means itself where it is printed is what is read there of what it is written as, at its sort or at no sort that is
-- asked for.
abbrev pub TermsWrittenHaveOneReading : Type 0
TermsWrittenHaveOneReading =
    (signature : Signature) (visible names : List Variable) (sort : ℕ) (t : Term) (w : WrittenTerm) (expected : Option ℕ)
    → IsWellFormedSignature signature → TermMeans signature visible names t sort → IsWrittenAs signature names t w
    → IsExpected expected sort
    → ReadingIs signature visible w expected (answered (record { term = t; sort = sort }))

-- and so are two terms of one sort
abbrev pub PairsWrittenHaveOneReading : Type 0
PairsWrittenHaveOneReading =
    (signature : Signature) (visible names : List Variable) (sort : ℕ) (t u : Term) (left right : WrittenTerm)
    → IsWellFormedSignature signature → TermMeans signature visible names t sort → TermMeans signature visible names u sort
    → IsWrittenAs signature names t left → IsWrittenAs signature names u right
    → PairReadingIs signature visible left right (answered (record { left = t; right = u; sort = sort }))

-- What was read where variables are visible means itself there, whatever it was written as.
abbrev pub ReadTermsMeanThemselves : Type 0
ReadTermsMeanThemselves =
    (signature : Signature) (visible names : List Variable) (w : WrittenTerm) (t : Term) (sort : ℕ)
    → AreLookedUp visible names → Reads signature visible w t sort → TermMeans signature visible names t sort

-- A ground term means itself without variables: reading what it is written as answers this term.
abbrev pub WrittenTermsHaveOneReading : Type 0
WrittenTermsHaveOneReading =
    (signature : Signature) (sort : ℕ) (t : Term) (w : WrittenTerm) (expected : Option ℕ)
    → IsWellFormedSignature signature → IsGroundOf signature sort t → IsWrittenAs signature [] t w → IsExpected expected sort
    → ReadingIs signature [] w expected (answered (record { term = t; sort = sort }))

-- and so it is with ground terms one by one
abbrev pub WrittenListsHaveOneReading : Type 0
WrittenListsHaveOneReading =
    (signature : Signature) (sorts : List ℕ) (ts : Terms) (ws : WrittenTerms)
    → IsWellFormedSignature signature → HaveSorts signature ts sorts → AreGround ts → AreWrittenAs signature [] ts ws
    → HaveOneReading signature [] ws ts sorts
