-- Lists of sorts that are the same, and what is wrong where they are not.
use Rattle.std.proofs.Common.{◌≡◌, ◌≢◌, ◌↔◌, ℕ, List, [], ◌∷◌, length, nat_eq, ◌&&◌, Bool, true, false, if◌then◌else◌, None, Some, refl, ap, sym, ◌∙◌, eqb-true}
use Rattle.std.proofs.lemmas.Option.{same_Some}
use Rattle.std.proofs.lemmas.Bool.{eq-eqb}
use Rattle.lotos_base.specs.declared.places.Place.{Place}
use Rattle.process_checks.specs.Functionality.{Functionality, Disagreement, are_same, at_sign}
use Rattle.process_checks.specs.FunctionalityLaws.{SignsAgree, DefinitionsAgree}

pub same_lists : (ss ts : List ℕ) → are_same ss ts ≡ true → ss ≡ ts
same_lists [] [] h = refl
same_lists [] (t ∷ ts) h = let f : false ≡ true = h in absurd (cc f)
same_lists (s ∷ ss) [] h = let f : false ≡ true = h in absurd (cc f)
same_lists (s ∷ ss) (t ∷ ts) h = by (nat_eq s t) refl (same_lists ss ts) h
  where
    by : (same : Bool) → nat_eq s t ≡ same → (are_same ss ts ≡ true → ss ≡ ts) → same && are_same ss ts ≡ true → s ∷ ss ≡ t ∷ ts
    by true here rest h = ap (λ (n : ℕ). n ∷ ss) (eqb-true s t here) ∙ ap (λ (ns : List ℕ). t ∷ ns) (rest h)
    by false here rest h = let f : false ≡ true = h in absurd (cc f)

pub same_list : (ss : List ℕ) → are_same ss ss ≡ true
same_list [] = refl
same_list (s ∷ ss) = ap (λ (b : Bool). b && are_same ss ss) (eq-eqb s s refl) ∙ same_list ss

-- Lists of other lengths are not the same.
pub other_lengths : (ss ts : List ℕ) → length ss ≢ length ts → are_same ss ts ≡ false
other_lengths ss ts other = by (are_same ss ts) refl
  where
    by : (same : Bool) → are_same ss ts ≡ same → same ≡ false
    by true is = absurd (other (ap length (same_lists ss ts is)))
    by false is = refl

-- Two lists at a sign.
pub nothing_wrong : (place : Place) (ss ts : List ℕ) → at_sign place (Some ss) (Some ts) ≡ [] → ss ≡ ts
nothing_wrong place ss ts h = by (are_same ss ts) refl h
  where
    by : (same : Bool) → are_same ss ts ≡ same
        → if◌then◌else◌ {A = List Disagreement} same [] (record { place = place; left = Some ss; right = Some ts } ∷ []) ≡ [] → ss ≡ ts
    by true here h = same_lists ss ts here
    by false here h = absurd (cc h)

pub wrong_nowhere : (place : Place) (ss ts : List ℕ) → ss ≡ ts → at_sign place (Some ss) (Some ts) ≡ []
wrong_nowhere place ss ts e = by (are_same ss ts) (ap (λ (us : List ℕ). are_same ss us) (sym e) ∙ same_list ss)
  where
    by : (same : Bool) → same ≡ true
        → if◌then◌else◌ {A = List Disagreement} same [] (record { place = place; left = Some ss; right = Some ts } ∷ []) ≡ []
    by true h = refl
    by false h = absurd (cc h)

what_is_wrong : (place : Place) (left right : Functionality) (d : Disagreement) (rest : List Disagreement)
    → at_sign place left right ≡ d ∷ rest → d ≡ record { place = place; left = left; right = right }
what_is_wrong place None right d rest h = absurd (cc h)
what_is_wrong place (Some ss) None d rest h = absurd (cc h)
what_is_wrong place (Some ss) (Some ts) d rest h = by (are_same ss ts) h
  where
    by : (same : Bool)
        → if◌then◌else◌ {A = List Disagreement} same [] (record { place = place; left = Some ss; right = Some ts } ∷ []) ≡ d ∷ rest
        → d ≡ record { place = place; left = Some ss; right = Some ts }
    by true h = absurd (cc h)
    by false h = cc h

agreed_sign : (place : Place) (left right : Functionality) →
    (at_sign place left right ≡ []) ↔ ((ss ts : List ℕ) → left ≡ Some ss → right ≡ Some ts → ss ≡ ts)
agreed_sign place None right = ((λ h ss ts l r. absurd (cc l)), (λ h. refl))
agreed_sign place (Some us) None = ((λ h ss ts l r. absurd (cc r)), (λ h. refl))
agreed_sign place (Some us) (Some vs) = (
  (λ h ss ts l r. sym (same_Some us ss l) ∙ nothing_wrong place us vs h ∙ same_Some vs ts r),
  (λ h. wrong_nowhere place us vs (h us vs refl refl)),
)

pub signs_agree : SignsAgree
signs_agree = record { agreed = agreed_sign; named = what_is_wrong }

pub definitions_agree : DefinitionsAgree
definitions_agree place None declared = ((λ h ss b. absurd (cc b)), (λ h. refl))
definitions_agree place (Some us) None = ((λ h ss b. absurd (cc h)), (λ h. let e : None ≡ Some us = h us refl in absurd (cc e)))
definitions_agree place (Some us) (Some vs) = (
  (λ h ss b. ap (λ (ws : List ℕ). Some ws) (sym (nothing_wrong place us vs h) ∙ same_Some us ss b)),
  (λ h. wrong_nowhere place us vs (sym (same_Some vs us (h us refl)))),
)
