-- The sides of a join may be solved before: first the left one, then the right one, step by step.
use Rattle.std.proofs.Common.{◌≡◌, ◌<◌, ◌≤◌, ◌+◌, ◌++◌, ℕ, List, length, map, Option, None, Some, option_map, Bool, true, false, ◌||◌, refl, ap, sym, ◌∙◌, arith, ne_eqb}
use Rattle.std.proofs.lemmas.List.{length-map}
use Rattle.lotos_base.specs.Term.{Term}
use Rattle.lotos_base.specs.Sorting.{IsTermOf, Occurs}
use Rattle.lotos_base.specs.Equation.{Data}
use Rattle.lotos_base.specs.Substitution.{substituted}
use Rattle.lotos_base.specs.Canon.{IsCanon}
use Rattle.behaviour_semantics.specs.Behaviour.{Test}
use Rattle.behaviour_semantics.specs.Rule.{label_values, pairwise}
use Rattle.behaviour_semantics.specs.Draft.{Draft}
use Rattle.behaviour_semantics.specs.Solving.{Entry, entry_of, canonical, differing, has_closed, tidied, first_found, first_replacement, replaced, SolvesTo, unsolvable, settled, replacing}
use Rattle.behaviour_semantics.specs.Join.{both_drafts}
use Rattle.behaviour_semantics.specs.DraftOrder.{IsLeaf, IsInOrder}
use Rattle.behaviour_semantics.proofs.DraftsInOrder.{tidied_in_order, draft_with-in}
use Rattle.behaviour_semantics.proofs.ReplacementsInOrder.{put_for, put_for-other, rests_on, replaced_in_order, was_leaf}
use Rattle.behaviour_semantics.proofs.SolvingSteps.{SameOutcomes, same_then, same_step, differing-append, first_replacement-append, has_closed-append}
use Rattle.behaviour_semantics.proofs.JoinedSides.{EachTerm, each_weaker, differing_twice, tidied-both, both_tidied, both_stepped, Stays, part_stays, tidied_twice}
use Rattle.behaviour_semantics.proofs.RenamedSolving.{by_number, renamed_found, terms_in_order, Fits, renamed_tidied, renamed_gives, renamed_closed, renamed_replaced}

-- A draft on which nothing is left to do.
pub record Finished (data_ : Data) (canon : Term → Term) (draft : Draft) : Type 0 where
  pub order : IsInOrder data_.signature draft
  pub tidy : tidied canon draft ≡ draft
  pub not_closed : has_closed draft.conditions ≡ false
  pub none : first_replacement draft.conditions ≡ None

pub are_terms : (data_ : Data) (draft : Draft) → IsInOrder data_.signature draft → EachTerm (IsTermOf data_.signature) draft
are_terms data_ draft order = terms_in_order data_ draft (IsTermOf data_.signature) (λ t h. (h.0, h.1.sorted)) order

pub tidied_again : (data_ : Data) (canon : Term → Term) → IsCanon data_ canon → (draft : Draft) → IsInOrder data_.signature draft
    → tidied canon (tidied canon draft) ≡ tidied canon draft
tidied_again data_ canon is_canon draft order = tidied_twice data_ canon is_canon draft (are_terms data_ draft order)

-- Terms whose variables have numbers from a limit on, or below it.
abbrev pub FarTerm : Data → ℕ → Term → Type 0
FarTerm data_ limit t = IsTermOf data_.signature t × ((n s : ℕ) → Occurs n s t → limit ≤ n)

abbrev pub NearTerm : Data → ℕ → Term → Type 0
NearTerm data_ limit t = IsTermOf data_.signature t × ((n s : ℕ) → Occurs n s t → n < limit)

-- What tidying leaves of a join's conditions.
conditions_tidied : (canon : Term → Term) (left right : Draft) → (tidied canon (both_drafts left right)).conditions ≡
    ((tidied canon left).conditions ++ (tidied canon right).conditions) ++ differing
    (pairwise (label_values (tidied canon left).label) (label_values (tidied canon right).label))
conditions_tidied canon left right =
    let pairs : List Test = pairwise (label_values (tidied canon left).label) (label_values (tidied canon right).label) in
    ap (λ (d : Draft). d.conditions) (tidied-both canon left right)
    ∙ (differing-append ((tidied canon left).conditions ++ (tidied canon right).conditions) pairs
    ∙ ap (λ (front : List Test). front ++ differing pairs)
    (differing-append (tidied canon left).conditions (tidied canon right).conditions
    ∙ (λ i. differing_twice (canonical canon left).conditions i ++ differing_twice (canonical canon right).conditions i)))

module _ (data_ : Data) (canon : Term → Term) (is_canon : IsCanon data_ canon) (whole : Draft) where
  -- Solving the whole comes to a draft that is the join of these sides once it is tidied.
  pub record Reaches (left right : Draft) : Type 0 where
    pub draft : Draft
    pub order : IsInOrder data_.signature draft
    pub alike : SameOutcomes canon whole draft
    pub tidy : tidied canon draft ≡ tidied canon (both_drafts left right)

  pub reach_same : (left right left' right' : Draft) → Reaches left right → tidied canon left ≡ tidied canon left'
      → tidied canon right ≡ tidied canon right' → Reaches left' right'
  reach_same left right left' right' r l k = record {
    draft = r.draft;
    order = r.order;
    alike = r.alike;
    tidy = r.tidy
        ∙ both_tidied canon left right left' right' l k;
  }

  -- a closed condition of a side ends the work
  pub reach_closed : (left right : Draft) → Reaches left right → (has_closed (tidied canon left).conditions || has_closed
      (tidied canon right).conditions) ≡ true → SolvesTo canon whole None
  reach_closed left right r closed =
      let pairs : List Test = differing (pairwise (label_values (tidied canon left).label) (label_values (tidied canon right).label)) in
      let here : has_closed (tidied canon r.draft).conditions ≡ true =
      ap (λ (d : Draft). has_closed d.conditions) r.tidy
      ∙ (ap has_closed (conditions_tidied canon left right)
      ∙ (has_closed-append ((tidied canon left).conditions ++ (tidied canon right).conditions) pairs
      ∙ (ap (λ (b : Bool). b || has_closed pairs) (has_closed-append (tidied canon left).conditions (tidied canon right).conditions)
      ∙ ap (λ (b : Bool). b || has_closed pairs) closed))) in
      (r.alike None).1 (unsolvable r.draft here)

  -- the first replacement of the sides is that of the join
  pub reach_step : (left right left' right' : Draft) (found : ℕ × Term) → Reaches left right
      → first_found (first_replacement (tidied canon left).conditions) (first_replacement (tidied canon right).conditions) ≡ Some found
      → tidied canon (canonical (substituted (put_for found)) (tidied canon left)) ≡ tidied canon left'
      → tidied canon (canonical (substituted (put_for found)) (tidied canon right)) ≡ tidied canon right' → Reaches left' right'
  reach_step left right left' right' found r gives l k =
      let pairs : List Test = differing (pairwise (label_values (tidied canon left).label) (label_values (tidied canon right).label)) in
      let here : first_replacement (tidied canon r.draft).conditions ≡ Some found =
      ap (λ (d : Draft). first_replacement d.conditions) r.tidy
      ∙ (ap first_replacement (conditions_tidied canon left right)
      ∙ (first_replacement-append ((tidied canon left).conditions ++ (tidied canon right).conditions) pairs
      ∙ (ap (λ (o : Option (ℕ × Term)). first_found o (first_replacement pairs))
      (first_replacement-append (tidied canon left).conditions (tidied canon right).conditions)
      ∙ ap (λ (o : Option (ℕ × Term)). first_found o (first_replacement pairs)) gives))) in
      record {
        draft = replaced found (tidied canon r.draft);
        order = replaced_in_order data_ (tidied canon r.draft) found (tidied_in_order data_ canon is_canon r.draft r.order) here;
        alike = same_then r.alike (same_step data_ canon is_canon r.draft found r.order here);
        tidy =
            ap (tidied canon) (sym (draft_with-in (put_for found) (tidied canon r.draft)))
            ∙ (ap (λ (d : Draft). tidied canon (canonical (substituted (put_for found)) d)) r.tidy
            ∙ (both_stepped canon (substituted (put_for found)) left right
            ∙ both_tidied canon (canonical (substituted (put_for found)) (tidied canon left))
            (canonical (substituted (put_for found)) (tidied canon right)) left' right' l k));
      }

  -- ---- The left side
  module _ (limit : ℕ) (right : Draft) (far : EachTerm (FarTerm data_ limit) right) where
    abbrev pub LeftEnd : Option Entry → Type 0
    LeftEnd None = SolvesTo canon whole None
    LeftEnd (Some entry) = (draft : Draft) × Finished data_ canon draft × (length draft.leaves ≡ limit) × (entry_of draft ≡ entry)
        × Reaches draft right

    right_stays : (found : ℕ × Term) → found.0 < limit → tidied canon (canonical (substituted (put_for found)) (tidied canon right))
        ≡ tidied canon right
    right_stays found lt =
        part_stays data_ canon is_canon (put_for found) right
        (each_weaker (FarTerm data_ limit) (Stays data_ canon is_canon (put_for found))
        (λ t h. record {
          is_term = h.0;
          stay = λ n s o. put_for-other found n s
              (ne_eqb found.0 n (λ e. let ge : limit ≤ n = h.1 n s o in omega arith));
        }) right far)

    pub left_chain : {left : Draft} {outcome : Option Entry} → SolvesTo canon left outcome → IsInOrder data_.signature left
        → length left.leaves ≡ limit → Reaches left right → LeftEnd outcome
    left_chain (unsolvable left closed) order long r = reach_closed left right r
        (ap (λ (b : Bool). b || has_closed (tidied canon right).conditions) closed)
    left_chain (settled left not_closed none) order long r = (
      tidied canon left,
      record {
        order = tidied_in_order data_ canon is_canon left order;
        tidy = tidied_again data_ canon is_canon left order;
        not_closed = not_closed;
        none = none;
      },
      length-map left.leaves canon ∙ long,
      refl,
      reach_same left right (tidied canon left) right r (sym (tidied_again data_ canon is_canon left order)) refl,
    )
    left_chain (replacing left found outcome not_closed gives rest) order long r =
        let order' : IsInOrder data_.signature (tidied canon left) = tidied_in_order data_ canon is_canon left order in
        let leaf : IsLeaf (tidied canon left).leaves found.0 (rests_on data_ (tidied canon left) found order' gives).sort =
        was_leaf data_ (tidied canon left) found order' gives in
        let lt : found.0 < length (tidied canon left).leaves = order'.below found.0
        (rests_on data_ (tidied canon left) found order' gives).sort leaf in
        let under : found.0 < limit = omega (arith, lt, length-map left.leaves canon, long) in
        left_chain rest (replaced_in_order data_ (tidied canon left) found order' gives)
        (length-map (map canon left.leaves) (substituted (put_for found)) ∙ (length-map left.leaves canon ∙ long))
        (reach_step left right (replaced found (tidied canon left)) right found r
        (ap (λ (o : Option (ℕ × Term)). first_found o (first_replacement (tidied canon right).conditions)) gives)
        (ap (tidied canon) (draft_with-in (put_for found) (tidied canon left))) (right_stays found under))

  -- ---- The right side, with its numbers raised
  module _ (limit : ℕ) (left : Draft) (finished : Finished data_ canon left) (near : EachTerm (NearTerm data_ limit) left) where
    abbrev Any : ℕ → ℕ → Type 0
    Any n s = Unit {0}

    abbrev raise : ℕ → ℕ
    raise n = n + limit

    raise_rises : (n m r s : ℕ) → Any n r → Any m s → n < m → n + limit < m + limit
    raise_rises n m r s v w lt = omega arith

    abbrev pub raised_draft : Draft → Draft
    raised_draft draft = canonical (substituted (by_number (λ (n : ℕ). n + limit))) draft

    abbrev pub RightEnd : ℕ → Option Entry → Type 0
    RightEnd count None = SolvesTo canon whole None
    RightEnd count (Some entry) = (draft : Draft) × Finished data_ canon draft × (length draft.leaves ≡ count)
        × (entry_of draft ≡ entry) × Reaches left (canonical (substituted (by_number (λ (n : ℕ). n + limit))) draft)

    fits : (draft : Draft) → IsInOrder data_.signature draft → Fits data_ canon is_canon (λ n s. Unit {0})
        (λ (n : ℕ). n + limit) raise_rises draft
    fits draft order = (order, λ n s leaf. tt)

    left_stays : (found : ℕ × Term) → limit ≤ found.0 → tidied canon (canonical (substituted (put_for found)) (tidied canon left))
        ≡ tidied canon left
    left_stays found le =
        part_stays data_ canon is_canon (put_for found) left
        (each_weaker (NearTerm data_ limit) (Stays data_ canon is_canon (put_for found))
        (λ t h. record {
          is_term = h.0;
          stay = λ n s o. put_for-other found n s
              (ne_eqb found.0 n (λ e. let lt : n < limit = h.1 n s o in omega arith));
        }) left near)

    raised_tidied : (draft : Draft) → IsInOrder data_.signature draft
        → tidied canon (canonical (substituted (by_number (λ (n : ℕ). n + limit))) draft) ≡ canonical
        (substituted (by_number (λ (n : ℕ). n + limit))) (tidied canon draft)
    raised_tidied draft order = renamed_tidied data_ canon is_canon (λ n s. Unit {0}) (λ (n : ℕ). n + limit) raise_rises draft
        (fits draft order)

    left_none : first_replacement (tidied canon left).conditions ≡ None
    left_none = ap (λ (d : Draft). first_replacement d.conditions) finished.tidy ∙ finished.none

    left_open : has_closed (tidied canon left).conditions ≡ false
    left_open = ap (λ (d : Draft). has_closed d.conditions) finished.tidy ∙ finished.not_closed

    pub right_chain : (count : ℕ) {right : Draft} {outcome : Option Entry} → SolvesTo canon right outcome
        → IsInOrder data_.signature right → length right.leaves ≡ count
        → Reaches left (canonical (substituted (by_number (λ (n : ℕ). n + limit))) right) → RightEnd count outcome
    right_chain count (unsolvable right closed) order long r =
        reach_closed left (raised_draft right) r
        (ap (λ (b : Bool). b || has_closed (tidied canon (raised_draft right)).conditions) left_open
        ∙ (renamed_closed data_ canon is_canon (λ n s. Unit {0}) (λ (n : ℕ). n + limit) raise_rises right (fits right order) ∙ closed))
    right_chain count (settled right not_closed none) order long r = (
      tidied canon right,
      record {
        order = tidied_in_order data_ canon is_canon right order;
        tidy = tidied_again data_ canon is_canon right order;
        not_closed = not_closed;
        none = none;
      },
      length-map right.leaves canon ∙ long,
      refl,
      reach_same left (raised_draft right) left (raised_draft (tidied canon right)) r refl
          (raised_tidied right order ∙ (ap (canonical (substituted (by_number (λ (n : ℕ). n + limit))))
          (sym (tidied_again data_ canon is_canon right order)) ∙ sym
          (raised_tidied (tidied canon right) (tidied_in_order data_ canon is_canon right order)))),
    )
    right_chain count (replacing right found outcome not_closed gives rest) order long r =
        let order' : IsInOrder data_.signature (tidied canon right) = tidied_in_order data_ canon is_canon right order in
        right_chain count rest (replaced_in_order data_ (tidied canon right) found order' gives)
        (length-map (map canon right.leaves) (substituted (put_for found)) ∙ (length-map right.leaves canon ∙ long))
        (reach_step left (raised_draft right) left (raised_draft (replaced found (tidied canon right)))
        (renamed_found (λ n s. Unit {0}) (λ (n : ℕ). n + limit) raise_rises found) r
        (ap (λ (o : Option (ℕ × Term)). first_found o (first_replacement (tidied canon (raised_draft right)).conditions)) left_none
        ∙ (renamed_gives data_ canon is_canon (λ n s. Unit {0}) (λ (n : ℕ). n + limit) raise_rises right (fits right order)
        ∙ ap (option_map (renamed_found (λ n s. Unit {0}) (λ (n : ℕ). n + limit) raise_rises)) gives))
        (left_stays (renamed_found (λ n s. Unit {0}) (λ (n : ℕ). n + limit) raise_rises found) (let le : limit ≤ found.0 + limit =
        omega arith in le))
        (ap (tidied canon) (renamed_replaced data_ canon is_canon (λ n s. Unit {0}) (λ (n : ℕ). n + limit) raise_rises right found
        (fits right order) gives)))
