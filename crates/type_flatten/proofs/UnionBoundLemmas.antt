-- The union of what is mentioned, from left to right.
use Rattle.std.proofs.Common.{◌≡◌, true, List, [], ◌∷◌, ◌++◌, ◌⊎◌, inl, inr, map, fold, append_assoc, refl, ap, sym, ◌∙◌, subst}
use Rattle.std.proofs.lemmas.Option.{none-some}
use Rattle.std.proofs.lemmas.List.Sums.{fold-append}
use Rattle.type_definitions.proofs.NumberLists.{among_none}
use Rattle.type_definitions.specs.Presentation.{Presentation, nothing, is_marked_number}
use Rattle.type_definitions.specs.Union.{Mentioned, with_mentioned, union_of, joined_presentation, joined_sort, joined_operation, coming_operations}
use Rattle.type_definitions.specs.UnionLaws.{IsIn}
use Rattle.type_definitions.proofs.WithNewLemmas.{first_appearances, unions}
use Rattle.type_flatten.specs.Containment.{StaysIn, LiesIn}
use Rattle.type_flatten.specs.UnionBounds.{IsBehind, sort_behind, operation_behind, coming_equations, UnionsAreBounds}
use Rattle.type_flatten.proofs.ContainmentLemmas.{no_other_marks, stays_itself, stays_further, first_stays, second_lies, lies_further}
use Rattle.type_flatten.proofs.OneToOneLemmas.{stays_one_to_one}

-- ---- What is there stays.

stays_through : (p : Presentation) (ms : List Mentioned) → StaysIn p (fold with_mentioned p ms)
stays_through p [] = stays_itself p
stays_through p (m ∷ ms) =
    stays_further p (joined_presentation p m.presentation) (fold with_mentioned (joined_presentation p m.presentation) ms)
    (first_stays p m.presentation)
    (stays_through (joined_presentation p m.presentation) ms)

together : (one more : List Mentioned) → union_of (one ++ more) ≡ fold with_mentioned (union_of one) more
together one more = fold-append with_mentioned nothing one more

first_stay : (all later : List Mentioned) → StaysIn (union_of all) (union_of (all ++ later))
first_stay all later =
    subst (λ (p : Presentation). StaysIn (union_of all) p) (sym (together all later)) (stays_through (union_of all) later)

each_lies : (before : List Mentioned) (m : Mentioned) (all : List Mentioned) → IsBehind before m all
    → LiesIn (sort_behind before m) (operation_behind before m) m.presentation (union_of all)
each_lies before m all behind =
    let now : Presentation = joined_presentation (union_of before) m.presentation in
    subst (λ (p : Presentation). LiesIn (sort_behind before m) (operation_behind before m) m.presentation p)
    (sym (ap (λ (ms : List Mentioned). union_of ms) behind.listed ∙ together before (m ∷ behind.later)))
    (lies_further (sort_behind before m) (operation_behind before m) m.presentation now (fold with_mentioned now behind.later)
    (second_lies (union_of before) m.presentation) (stays_through now behind.later))

-- ---- Nothing else is there.

-- something that a mention brings to what came before it
abbrev IsBrought : (Presentation → Presentation → Type 0) → List Mentioned → Type 0
IsBrought brings all = (before : List Mentioned) × (m : Mentioned) × IsBehind before m all × brings (union_of before) m.presentation

-- what is so of a union is so of what is there first, or is brought
only_brought : (holds : Presentation → Type 0) (brings : Presentation → Presentation → Type 0)
    → ((p q : Presentation) → holds (joined_presentation p q) → holds p ⊎ brings p q) → (before ms : List Mentioned)
    → holds (fold with_mentioned (union_of before) ms) → holds (union_of before) ⊎ IsBrought brings (before ++ ms)
only_brought holds brings step before [] h = inl h
only_brought holds brings step before (m ∷ ms) h =
    let next : List Mentioned = before ++ m ∷ [] in
    let is : union_of next ≡ joined_presentation (union_of before) m.presentation = together before (m ∷ []) in
    let same : next ++ ms ≡ before ++ m ∷ ms = append_assoc before (m ∷ []) ms in
    elim (only_brought holds brings step next ms (subst (λ (p : Presentation). holds (fold with_mentioned p ms)) (sym is) h)) [
      | inl there ↦
          elim (step (union_of before) m.presentation (subst holds is there)) [
            | inl first ↦ inl first
            | inr coming ↦ inr (before, m, record { later = ms; listed = refl }, coming)
          ]
      | inr later ↦ inr (subst (λ (ms : List Mentioned). IsBrought brings ms) same later)
    ]

brought : (holds : Presentation → Type 0) (brings : Presentation → Presentation → Type 0)
    → ((p q : Presentation) → holds (joined_presentation p q) → holds p ⊎ brings p q) → (holds nothing → ⊥) → (all : List Mentioned)
    → holds (union_of all) → IsBrought brings all
brought holds brings step none all h =
    elim (only_brought holds brings step [] all h) [ inl there ↦ absurd (none there) | inr is ↦ is ]

nothing_in : {A : Type 0} (x : A) → IsIn [] x → ⊥
nothing_in x at = none-some x at.1

pub union_bounds : UnionsAreBounds
union_bounds = record {
  first_appearances = first_stay;
  bounds = each_lies;
  one_to_one = λ before m fine. stays_one_to_one (union_of before) m.presentation fine;
  no_other_sorts = λ all s at.
      brought (λ (p : Presentation). IsIn p.signature.sorts s) (λ (p q : Presentation). IsIn q.signature.sorts s)
      (λ p q h. unions.no_other_sorts p q s h) (nothing_in s) all at;
  no_other_operations = λ all o at.
      brought (λ (p : Presentation). IsIn p.signature.operations o) (λ (p q : Presentation). IsIn (coming_operations p q) o)
      (λ p q h. unions.no_other_operations p q o h) (nothing_in o) all at;
  no_other_equations = λ all e at.
      brought (λ (p : Presentation). IsIn p.equations e) (λ (p q : Presentation). IsIn (coming_equations p q) e)
      (λ p q h. first_appearances.equations.adds_nothing p.equations (coming_equations p q) e h) (nothing_in e) all at;
  no_other_formal_sorts = λ all n h.
      brought (λ (p : Presentation). is_marked_number p.formal_sorts n ≡ true)
      (λ (p q : Presentation). is_marked_number (map (joined_sort p q) q.formal_sorts) n ≡ true)
      (λ p q is. no_other_marks p.formal_sorts (map (joined_sort p q) q.formal_sorts) n is) (among_none n) all h;
  no_other_formal_operations = λ all n h.
      brought (λ (p : Presentation). is_marked_number p.formal_operations n ≡ true)
      (λ (p q : Presentation). is_marked_number (map (joined_operation p q) q.formal_operations) n ≡ true)
      (λ p q is. no_other_marks p.formal_operations (map (joined_operation p q) q.formal_operations) n is) (among_none n) all h;
}
