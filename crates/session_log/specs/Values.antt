-- The readings of written terms at the sorts of their variables, and why a term has none.
use Rattle.std.specs.Prelude.{◌≡◌, ◌⊎◌, ℕ, List, [], ◌∷◌, Some}
use Rattle.lotos_base.specs.WrittenTerm.{WrittenTerm}
use Rattle.lotos_base.specs.Signature.{Signature}
use Rattle.sort_terms.specs.ProfiledTerm.{IsOf}
use Rattle.sort_terms.specs.ReadingOutcome as reading
use Rattle.sort_terms.specs.ReadingOutcome.{SortedTerm, ReadingIs, answered}
use Rattle.sort_terms.specs.SortedView.{profiled_in, term_in}
use Rattle.sort_terms.specs.declared.sorted.Sorted.{Sorted}
use Rattle.session_lines.specs.Refusal.{term_number}
use Rattle.session_lines.specs.declared.refusals.Refusal.{Refusal}
use Rattle.session_lines.specs.declared.refusals.Refusal.TheVariants.{BadCommand, BadTerm, NoMemory}

-- the reading of a term at a sort
pub record IsValueReadAt (signature : Signature) (term : WrittenTerm) (sort : ℕ) (value : Sorted) : Type 0 where
  pub is_of : IsOf signature (profiled_in value)
  pub read : ReadingIs signature [] term (Some sort) (answered (record { term = term_in value; sort = sort }))

-- the term is refused at the sort
abbrev pub IsTermRefused : Signature → WrittenTerm → ℕ → reading.ReadingRefusal → Type 0
IsTermRefused signature term sort refusal = ReadingIs signature [] term (Some sort) (reading.refused refusal)

-- The first of the written terms that has not one reading at its sort, without variables, is refused for this.
abbrev pub IsFirstMisread : Signature → List ℕ → List WrittenTerm → reading.ReadingRefusal → Type 0
IsFirstMisread signature (sort ∷ sorts) (term ∷ terms) refusal =
    ReadingIs signature [] term (Some sort) (reading.refused refusal)
    ⊎ ((read : SortedTerm) × ReadingIs signature [] term (Some sort) (answered read) × IsFirstMisread signature sorts terms refusal)
IsFirstMisread signature _ _ refusal = ⊥

-- the number of a refusal that the relation has, or memory was wanted
abbrev pub TellsMisread : (reading.ReadingRefusal → Type 0) → Refusal → Type 0
TellsMisread Is BadCommand = ⊥
TellsMisread Is (BadTerm number) = (refusal : reading.ReadingRefusal) × Is refusal × (number ≡ term_number refusal)
TellsMisread Is NoMemory = Unit {0}
