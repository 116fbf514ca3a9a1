-- A text that has a plain fault is not read, and it has one such fault at most.
use Rattle.std.proofs.Common.{refl, ap, sym, ◌∙◌, ◌≡◌, ◌⊎◌, inl, inr, subst, ℕ, List, Some}
use Rattle.std.proofs.lemmas.Option.{none-some, same_Some}
use Rattle.lotos_base.specs.WrittenView.{text_place_of}
use Rattle.text_depth.specs.HandedOn.{HasOneOutcome, ReadFault}
use Rattle.text_depth.specs.HandedOn.read_faults as cause
use Rattle.lotos_grammar.specs.TextFault.{TextFault, too_long, bad_byte, open_comment, wrong_syntax, too_deep, text_fault_of, TextIsMisread}

-- want of memory is no fault of a text
told_none : (fault : ReadFault) (found : TextFault) → text_fault_of fault ≡ Some found → fault ≡ cause.NoMemory → ⊥
told_none fault found told e = none-some found (subst (λ (f : ReadFault). text_fault_of f ≡ Some found) e told)

-- and everything else is one
pub fault_told : (fault : ReadFault) → (fault ≡ cause.NoMemory → ⊥) → (found : TextFault) × (text_fault_of fault ≡ Some found)
fault_told cause.TooLong other = (too_long, refl)
fault_told (cause.BadByte place) other = (bad_byte (text_place_of place), refl)
fault_told (cause.OpenComment place) other = (open_comment (text_place_of place), refl)
fault_told (cause.Syntax place) other = (wrong_syntax (text_place_of place), refl)
fault_told (cause.TooDeep place) other = (too_deep (text_place_of place), refl)
fault_told cause.NoMemory other = absurd (other refl)

module _ {A : Type 0} (IsTree : ℕ → List ℕ → A → Type 0) (IsFault : ℕ → List ℕ → ReadFault → Type 0) (one : HasOneOutcome IsTree IsFault)
    (number : ℕ) (text : List ℕ) where
  pub never_misread : (tree : A) (found : TextFault) → IsTree number text tree → TextIsMisread IsFault number text found → ⊥
  never_misread tree found is not = told_none not.0 found not.2 (one.not_both number text tree not.0 is not.1)

  pub misread_once : (found other : TextFault) → TextIsMisread IsFault number text found → TextIsMisread IsFault number text other
      → found ≡ other
  misread_once found other is also = same (one.one_fault number text is.0 also.0 is.1 also.1)
    where
      same : (is.0 ≡ cause.NoMemory) ⊎ ((also.0 ≡ cause.NoMemory) ⊎ (is.0 ≡ also.0)) → found ≡ other
      same (inl e) = absurd (told_none is.0 found is.2 e)
      same (inr (inl e)) = absurd (told_none also.0 other also.2 e)
      same (inr (inr e)) = same_Some found other (sym is.2 ∙ ap text_fault_of e ∙ also.2)
