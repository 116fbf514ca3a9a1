-- What it is that a text is read back as terms.
use Rattle.std.specs.Prelude.{◌≡◌, ℕ, List, [], ◌∷◌, Some}
use Rattle.lotos_base.specs.WrittenTerm.{WrittenTerm}
use Rattle.lotos_base.specs.Signature.{Signature}
use Rattle.lotos_base.specs.Term.{Term}
use Rattle.sort_terms.specs.ReadingOutcome.{answered, ReadingIs}
use Rattle.session_histories.specs.HandedOn.{IsTermsReading}

-- the written term has one reading at the sort, without variables: the term
abbrev pub IsReadBackAt : Signature → ℕ → WrittenTerm → Term → Type 0
IsReadBackAt signature sort w t = ReadingIs signature [] w (Some sort) (answered (record { term = t; sort = sort }))

-- the same of written terms one by one
abbrev pub AreReadBackAt : Signature → List ℕ → List WrittenTerm → List Term → Type 0
AreReadBackAt signature [] [] [] = Unit {0}
AreReadBackAt signature (sort ∷ sorts) (w ∷ ws) (t ∷ ts) = IsReadBackAt signature sort w t × AreReadBackAt signature sorts ws ts
AreReadBackAt signature _ _ _ = ⊥

-- The text is one written term by the grammar of lists of terms, and nothing else, and this has one reading: the term.
pub record IsTermReadBack (signature : Signature) (number : ℕ) (text : List ℕ) (sort : ℕ) (t : Term) : Type 0 where
  pub written : WrittenTerm
  pub is_text : IsTermsReading number text (written ∷ [])
  pub only_text : (other : List WrittenTerm) → IsTermsReading number text other → other ≡ written ∷ []
  pub is_read : IsReadBackAt signature sort written t

-- the same of a list of terms
pub record AreReadBack (signature : Signature) (number : ℕ) (text : List ℕ) (sorts : List ℕ) (ts : List Term) : Type 0 where
  pub written : List WrittenTerm
  pub is_text : IsTermsReading number text written
  pub only_text : (other : List WrittenTerm) → IsTermsReading number text other → other ≡ written
  pub are_read : AreReadBackAt signature sorts written ts
