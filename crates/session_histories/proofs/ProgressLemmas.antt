-- Sessions that are stepped and undone.
use Rattle.std.proofs.Common.{◌≡◌, ℕ, ◌+◌, List, [], ◌∷◌, ◌++◌, reverse, length, refl, ap, sym, ◌∙◌, subst, length-append}
use Rattle.std.proofs.lemmas.List.{reverse-append, reverse-reverse}
use Rattle.lotos_base.proofs.Pieces.{same_heads, same_tails}
use Rattle.lotos_base.specs.Term.{Term}
use Rattle.behaviour_semantics.specs.Label.{Label}
use Rattle.behaviour_semantics.specs.Run.{at_start, one_move}
use Rattle.session_histories.specs.Session.{SessionBasis, Item, Situation, PastStep, Progress, first_of, first_situation, stepped, HasUndone}
use Rattle.session_histories.specs.Lawful.{IsSituation, IsLawfulItem, LeadTo, IsLawful, IsLawfulFrom, HasStepped}
use Rattle.session_histories.specs.SessionLaws.{LeadsBy, HaveOneStart}

-- ---- One more at the end of a list

last_first : {X : Type 0} (xs ys : List X) (x y : X) → xs ++ (x ∷ []) ≡ ys ++ (y ∷ []) → x ∷ reverse xs ≡ y ∷ reverse ys
last_first xs ys x y e = sym (reverse-append xs (x ∷ [])) ∙ (ap reverse e ∙ reverse-append ys (y ∷ []))

pub same_last : {X : Type 0} (xs ys : List X) (x y : X) → xs ++ (x ∷ []) ≡ ys ++ (y ∷ []) → x ≡ y
same_last xs ys x y e = same_heads x y (reverse xs) (reverse ys) (last_first xs ys x y e)

pub same_before : {X : Type 0} (xs ys : List X) (x y : X) → xs ++ (x ∷ []) ≡ ys ++ (y ∷ []) → xs ≡ ys
same_before xs ys x y e =
    sym (reverse-reverse xs) ∙ (ap reverse (same_tails x y (reverse xs) (reverse ys) (last_first xs ys x y e)) ∙ reverse-reverse ys)

-- ---- Steps that lead on

pub lead_on : (basis : SessionBasis) (first mid last : Situation) (steps : List PastStep) (item : Item) → LeadTo basis first steps mid
    → IsLawfulItem basis mid item last.state → IsSituation basis last
    → LeadTo basis first (steps ++ (record { item = item; before = mid } ∷ [])) last
lead_on basis first mid last [] item h lawful menu =
    (sym h, last, subst (λ (it : Situation). IsLawfulItem basis it item last.state) (sym h) lawful, menu, refl)
lead_on basis first mid last (step ∷ steps) item h lawful menu =
    (h.0, h.1, h.2, h.3, lead_on basis h.1 mid last steps item h.4 lawful menu)

pub lead_back : (basis : SessionBasis) (first last : Situation) (steps : List PastStep) (step : PastStep)
    → LeadTo basis first (steps ++ (step ∷ [])) last → LeadTo basis first steps step.before
lead_back basis first last [] step h = sym h.0
lead_back basis first last (one ∷ steps) step h = (h.0, h.1, h.2, h.3, lead_back basis h.1 last steps step h.4)

first_stepped : (last : Situation) (steps : List PastStep) (mid : Situation) (item : Item)
    → first_of last (steps ++ (record { item = item; before = mid } ∷ [])) ≡ first_of mid steps
first_stepped last [] mid item = refl
first_stepped last (step ∷ steps) mid item = refl

-- ---- Steps and undo

pub stepped_lawful : (basis : SessionBasis) (old new : Progress) (number : ℕ) (values : List Term) (label : Label) → IsLawful basis old
    → HasStepped basis old number values label new → IsLawful basis new × HaveOneStart old new
stepped_lawful basis old new number values label lawful h =
    let start : first_situation (stepped old h.item h.next) ≡ first_situation old =
    first_stepped h.next old.steps old.situation h.item in
    let made : IsLawfulFrom basis (first_situation old) (stepped old h.item h.next) = record {
      start = lawful.start;
      steps = lead_on basis (first_situation old) old.situation h.next old.steps h.item lawful.steps h.lawful h.menu;
    } in
    subst (λ (it : Progress). IsLawful basis it × HaveOneStart old it) (sym h.appended)
    (subst (λ (it : Situation). IsLawfulFrom basis it (stepped old h.item h.next)) (sym start) made, start)

pub undone_lawful : (basis : SessionBasis) (old new : Progress) → IsLawful basis old → HasUndone old new
    → IsLawful basis new × HaveOneStart old new
undone_lawful basis old new lawful h =
    let before : IsLawful basis (stepped new h.item old.situation) = subst (IsLawful basis) h.dropped lawful in
    let start : first_situation (stepped new h.item old.situation) ≡ first_situation new =
    first_stepped old.situation new.steps new.situation h.item in
    let made : IsLawfulFrom basis (first_situation (stepped new h.item old.situation)) new = record {
      start = before.start;
      steps = lead_back basis (first_situation (stepped new h.item old.situation)) old.situation new.steps
          (record { item = h.item; before = new.situation }) before.steps;
    } in (
      subst (λ (it : Situation). IsLawfulFrom basis it new) start made,
      sym start ∙ sym (ap first_situation h.dropped),
    )

-- two sessions that are one after a step each are one before it
pub same_undone : (one other : Progress) (item another : Item) (next last : Situation)
    → stepped one item next ≡ stepped other another last → one ≡ other
same_undone one other item another next last e =
    let steps : one.steps ++ (record { item = item; before = one.situation } ∷ [])
    ≡ other.steps ++ (record { item = another; before = other.situation } ∷ []) = ap (λ (it : Progress). it.steps) e in
    let before : one.steps ≡ other.steps = same_before one.steps other.steps _ _ steps in
    let situation : one.situation ≡ other.situation =
    ap (λ (it : PastStep). it.before) (same_last one.steps other.steps _ _ steps) in
    λ i. record { situation = situation i; steps = before i }

pub undone_once : (old new other : Progress) → HasUndone old new → HasUndone old other → new ≡ other
undone_once old new other h k =
    same_undone new other h.item k.item old.situation old.situation (sym h.dropped ∙ k.dropped)

pub undone_back : (basis : SessionBasis) (old new last : Progress) (number : ℕ) (values : List Term) (label : Label)
    → HasStepped basis old number values label new → HasUndone new last → last ≡ old
undone_back basis old new last number values label h k =
    same_undone last old k.item h.item new.situation h.next (sym k.dropped ∙ h.appended)

pub undone_shorter : (old new : Progress) → HasUndone old new → length new.steps + 1 ≡ length old.steps
undone_shorter old new h =
    sym (ap (λ (it : Progress). length it.steps) h.dropped
    ∙ length-append new.steps (record { item = h.item; before = new.situation } ∷ []))

-- ---- Where derivations lead

pub follow : (basis : SessionBasis) (first last : Situation) (steps : List PastStep) → LeadTo basis first steps last
    → LeadsBy basis basis.canon first.state steps last.state
follow basis first last [] h = subst (λ (it : Situation). LeadsBy basis basis.canon first.state [] it.state) h at_start
follow basis first last (step ∷ steps) h = one_move h.2.keeps (follow basis h.1 last steps h.4)
