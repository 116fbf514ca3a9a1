-- The draft of a row is made at once: each of its drafts is raised by the number of leaves on its left.
use Rattle.std.proofs.Common.{◌≡◌, ◌<◌, ◌≤◌, ◌++◌, ℕ, suc, ◌+◌, ◌-◌, List, [], ◌∷◌, drop, get_or, slice_get, length, None, Some, Bool, true, false, nat_lt, if◌then◌else◌, refl, ap, sym, ◌∙◌, subst, add-one, arith, le-ltb, ltb-false}
use Rattle.std.specs.List.{cons_option}
use Rattle.std.proofs.Math.Seq.{drop-cons}
use Rattle.std.proofs.lemmas.List.{map-append, length-map, drop_all}
use Rattle.lotos_base.specs.Signature.{Signature}
use Rattle.lotos_base.specs.Substitution.{Substitution, substituted, followed_by}
use Rattle.lotos_base.specs.Term.{Term, variable}
use Rattle.lotos_base.proofs.SubstitutionLemmas.{substituted_twice}
use Rattle.behaviour_semantics.specs.Behaviour.{SynchronisationSet}
use Rattle.behaviour_semantics.specs.Draft as plain
use Rattle.behaviour_semantics.specs.Draft.{draft_with, label_with}
use Rattle.behaviour_semantics.specs.Join.{both_drafts, raised_from}
use Rattle.behaviour_semantics.specs.Label.{Label, inner_event, gate_event, exit_event}
use Rattle.behaviour_semantics.specs.Rule.{move_together, moves_alone}
use Rattle.behaviour_semantics.specs.Shape.{left_side, right_side}
use Rattle.behaviour_semantics.specs.Solving.{canonical}
use Rattle.behaviour_semantics.specs.WellFormed.{Every}
use Rattle.behaviour_semantics.proofs.DraftsInOrder.{draft_with-in}
use Rattle.behaviour_semantics.proofs.JoinedSides.{after, canonical_twice, canonical-both}
use Rattle.behaviour_semantics.proofs.ListLemmas.{Every-append}
use Rattle.behaviour_tree.specs.MoveView.{label_of}
use Rattle.event_offers.specs.OfferView.{plain_draft}
use Rattle.event_offers.specs.Renaming.{number_renamed}
use Rattle.event_offers.specs.declared.drafts.Draft.{Draft}
use Rattle.event_offers.specs.declared.renaming.Renaming.TheVariants.{Raised}
use Rattle.event_offers.proofs.ChangedLemmas.{terms_stay, tests_stay}
use Rattle.sort_terms.specs.SortedView.{term_in}
use Rattle.draft_parts.specs.DraftRules.{draft_within}
use Rattle.draft_parts.specs.DraftTerms.{HasTermsOf}
use Rattle.draft_parts.specs.HasDrafts.{beside_drafts}
use Rattle.draft_parts.specs.Lists.{plain_drafts}
use Rattle.draft_parts.specs.Made.{AreThese}
use Rattle.draft_parts.specs.MetDrafts.{both_with}
use Rattle.draft_parts.specs.RowDrafts.{row_draft, number_of_row_leaves, joined_drafts, leftmost_in_row, draft_of_row, IsRowOf, IsOneMet, side_drafts, IsRowSideOf, IsThisSide}
use Rattle.draft_parts.specs.TurnedDrafts.{turned_draft, IsTurnedOf}
use Rattle.draft_parts.specs.declared.rows.Row.{Row}
use Rattle.draft_parts.specs.declared.rows.Side.{Side}
use Rattle.draft_parts.specs.declared.rows.Side.TheVariants.{Met}
use Rattle.draft_parts.specs.declared.turned.Turned.{Turned}
use Rattle.draft_parts.proofs.MeetingLemmas.{together_told}
use Rattle.draft_parts.proofs.PartingLemmas.{left_apart, right_apart}

-- ---- Raising twice is raising by the sum, and raising by nothing changes nothing.
module _ (first : ℕ) where
  number_twice : (a b n s : ℕ) → followed_by (raised_from first a) (raised_from first b) n s ≡ raised_from first (a + b) n s
  number_twice a b n s = go (nat_lt n first) refl
    where
      go : (low : Bool) → nat_lt n first ≡ low
          → substituted (raised_from first b) (variable (if low then n else n + a) s) ≡ variable (if low then n else n + (a + b)) s
      go true e = ap (λ (c : Bool). variable (if c then n else n + b) s) e
      go false e =
          let high : first ≤ n = ltb-false n first e in
          let higher : first ≤ n + a = omega (arith, high) in
          ap (λ (c : Bool). variable (if c then n + a else (n + a) + b) s) (le-ltb (n + a) first higher)
          ∙ ap (λ (m : ℕ). variable m s) (let sum : (n + a) + b ≡ n + (a + b) = omega arith in sum)

  term_twice : (a b : ℕ) (t : Term)
      → after (substituted (raised_from first b)) (substituted (raised_from first a)) t ≡ substituted (raised_from first (a + b)) t
  term_twice a b t =
      let same : followed_by (raised_from first a) (raised_from first b) ≡ raised_from first (a + b) = λ i n s. number_twice a b n s i in
      substituted_twice (raised_from first a) (raised_from first b) t
      ∙ ap (λ (values : Substitution). substituted values t) same

  raised_twice : (a b : ℕ) (d : plain.Draft)
      → draft_with (raised_from first b) (draft_with (raised_from first a) d) ≡ draft_with (raised_from first (a + b)) d
  raised_twice a b d =
      let same : after (substituted (raised_from first b)) (substituted (raised_from first a)) ≡ substituted (raised_from first (a + b)) =
      λ i t. term_twice a b t i in
      ap (draft_with (raised_from first b)) (sym (draft_with-in (raised_from first a) d))
      ∙ (sym (draft_with-in (raised_from first b) (canonical (substituted (raised_from first a)) d))
      ∙ (canonical_twice (substituted (raised_from first b)) (substituted (raised_from first a)) d
      ∙ (ap (λ (f : Term → Term). canonical f d) same ∙ draft_with-in (raised_from first (a + b)) d)))

  no_number : (n : ℕ) → number_renamed (Raised first 0) n ≡ n
  no_number n = go (nat_lt n first)
    where
      go : (low : Bool) → (if low then n else n + 0) ≡ n
      go true = refl
      go false = omega arith

  label_stays : (l : Label) → label_with (raised_from first 0) l ≡ l
  label_stays inner_event = refl
  label_stays (gate_event g ts) = ap (gate_event g) (sym (terms_stay (Raised first 0) no_number ts))
  label_stays (exit_event ts) = ap exit_event (sym (terms_stay (Raised first 0) no_number ts))

  raised_by_none : (d : plain.Draft) → draft_with (raised_from first 0) d ≡ d
  raised_by_none d = λ i. record {
    shape = d.shape;
    label = label_stays d.label i;
    leaves = sym (terms_stay (Raised first 0) no_number d.leaves) i;
    conditions = sym (tests_stay (Raised first 0) no_number d.conditions) i;
  }

with_both : (values : Substitution) (left right : plain.Draft)
    → draft_with values (both_drafts left right) ≡ both_drafts (draft_with values left) (draft_with values right)
with_both values left right =
    sym (draft_with-in values (both_drafts left right))
    ∙ (canonical-both (substituted values) left right
    ∙ (λ i. both_drafts (draft_with-in values left i) (draft_with-in values right i)))

-- ---- The row is joined from right to left.
row_is_joined : (first : ℕ) (right : plain.Draft) (lefts : List plain.Draft)
    → row_draft first right lefts ≡ joined_drafts first (draft_with (raised_from first (number_of_row_leaves lefts)) right) lefts
row_is_joined first right [] = sym (raised_by_none first right)
row_is_joined first right (left ∷ lefts) =
    row_is_joined first (both_with left (raised_from first (length left.leaves)) right) lefts
    ∙ ap (λ (d : plain.Draft). joined_drafts first d lefts)
    (with_both (raised_from first (number_of_row_leaves lefts)) left (draft_with (raised_from first (length left.leaves)) right)
    ∙ ap (both_drafts (draft_with (raised_from first (number_of_row_leaves lefts)) left))
    (raised_twice first (length left.leaves) (number_of_row_leaves lefts) right))

-- one more draft on the left
row_behind : (first : ℕ) (right left : plain.Draft) (lefts : List plain.Draft)
    → row_draft first right (lefts ++ left ∷ []) ≡ both_with left (raised_from first (length left.leaves)) (row_draft first right lefts)
row_behind first right left [] = refl
row_behind first right left (d ∷ lefts) = row_behind first (both_with d (raised_from first (length d.leaves)) right) left lefts

row_label : (first : ℕ) (right : Draft) (made : plain.Draft) (lefts : List Draft) → made.label ≡ label_of right.label
    → (row_draft first made (plain_drafts lefts)).label ≡ label_of (leftmost_in_row right lefts).label
row_label first right made [] e = e
row_label first right made (d ∷ lefts) e =
    row_label first d (both_with (plain_draft d) (raised_from first (length (plain_draft d).leaves)) made) lefts refl

leftmost_over : (P : Draft → Type 0) (right : Draft) (lefts : List Draft) → P right → Every P lefts → P (leftmost_in_row right lefts)
leftmost_over P right [] h k = h
leftmost_over P right (d ∷ lefts) h k = leftmost_over P d lefts k.0 k.1

-- the leftmost one is the last of the list
last_at : (right : Draft) (lefts : List Draft) (i : ℕ) (d : Draft) → length lefts ≡ suc i → Some d ≡ slice_get lefts i
    → d ≡ leftmost_in_row right lefts
last_at right [] i d count e = absurd (omega arith)
last_at right (x ∷ []) ℕ.zero d count e = cc e
last_at right (x ∷ []) (suc i) d count e = absurd (omega arith)
last_at right (x ∷ y ∷ lefts) ℕ.zero d count e = absurd (omega arith)
last_at right (x ∷ y ∷ lefts) (suc i) d count e = last_at x (y ∷ lefts) i d (omega arith) e

pub leftmost_last : (right : Draft) (lefts : List Draft) (d : Draft) → Some d ≡ slice_get lefts (length lefts - 1)
    → d ≡ leftmost_in_row right lefts
leftmost_last right [] d e = absurd (cc e)
leftmost_last right (x ∷ lefts) d e = last_at right (x ∷ lefts) (length (x ∷ lefts) - 1) d (omega arith) e

-- ---- One left draft that meets a row.
module _ (signature : Signature) (meet : SynchronisationSet) where
  apart_left : (l r : Label) → move_together signature meet l r ≡ true → moves_alone meet l ≡ false
  apart_left l r e = go (moves_alone meet l) refl
    where
      go : (b : Bool) → moves_alone meet l ≡ b → b ≡ false
      go true is = absurd (cc (e, left_apart signature meet l r is))
      go false is = refl

  apart_right : (l r : Label) → move_together signature meet l r ≡ true → moves_alone meet r ≡ false
  apart_right l r e = go (moves_alone meet r) refl
    where
      go : (b : Bool) → moves_alone meet r ≡ b → b ≡ false
      go true is = absurd (cc (e, right_apart signature meet l r is))
      go false is = refl

  one_beside : (first : ℕ) (left right : plain.Draft) → move_together signature meet left.label right.label ≡ true
      → both_with left (raised_from first (length left.leaves)) right ∷ []
      ≡ beside_drafts signature meet first (left ∷ []) (right ∷ [])
  one_beside first left right e = λ i.
      (cons_option (if sym (apart_left left.label right.label e) i then Some (draft_within left_side left) else None) []
      ++ cons_option (if sym (apart_right left.label right.label e) i then Some (draft_within right_side right) else None) [])
      ++ (cons_option (if sym e i then Some (both_with left (raised_from first (length left.leaves)) right) else None) [] ++ [])

pub row_extended : (signature : Signature) (meet : SynchronisationSet) (first : ℕ) (row more : Row) (lefts : List Draft)
    → more.right ≡ row.right → more.lefts.items ≡ row.lefts.items ++ lefts → IsOneMet meet row lefts
    → Every (HasTermsOf signature) lefts → IsRowOf signature row
    → IsThisSide signature first (beside_drafts signature meet first (plain_drafts lefts) (draft_of_row first row ∷ [])) (Met more)
row_extended signature meet first row more [] e f met h k = absurd met
row_extended signature meet first row more (left ∷ other ∷ lefts) e f met h k = absurd met
row_extended signature meet first row more (left ∷ []) e f met h k =
    let leftmost_has : HasTermsOf signature (leftmost_in_row row.right row.lefts.items) =
    leftmost_over (HasTermsOf signature) row.right row.lefts.items k.right k.lefts in
    let meets : move_together signature meet (label_of left.label) (draft_of_row first row).label ≡ true =
    ap (move_together signature meet (label_of left.label)) (row_label first row.right (plain_draft row.right) row.lefts.items refl)
    ∙ (together_told signature meet left.label (leftmost_in_row row.right row.lefts.items).label h.0.values leftmost_has.values ∙ met) in
    record {
      same = ap (λ (d : Draft). row_draft first (plain_draft d) (plain_drafts more.lefts.items) ∷ []) e
          ∙ (ap (λ (ds : List Draft). row_draft first (plain_draft row.right) (plain_drafts ds) ∷ []) f
          ∙ (ap (λ (ds : List plain.Draft). row_draft first (plain_draft row.right) ds ∷ [])
          (map-append plain_draft row.lefts.items (left ∷ []))
          ∙ (ap (λ (d : plain.Draft). d ∷ []) (row_behind first (plain_draft row.right) (plain_draft left) (plain_drafts row.lefts.items))
          ∙ one_beside signature meet first (plain_draft left) (draft_of_row first row) meets)));
      over = record {
        right = subst (HasTermsOf signature) (sym e) k.right;
        lefts = subst (λ (ds : List Draft). Every (HasTermsOf signature) ds) (sym f)
            (Every-append (HasTermsOf signature) row.lefts.items (left ∷ []) k.lefts (h.0, tt));
      };
    }

-- ---- Sides.
pub side_is : (signature : Signature) (first : ℕ) (side : Side) (expected : List plain.Draft) (made : List Draft)
    → IsThisSide signature first expected side
    → (IsRowSideOf signature side → AreThese signature (side_drafts first side) made) → AreThese signature expected made
side_is signature first side expected made h k =
    let these = k h.over in record { same = these.same ∙ h.same; over = these.over }

pub side_by : (signature : Signature) (first : ℕ) (side : Side) (expected : List plain.Draft) (made : List Draft)
    → AreThese signature expected made
    → (Every (HasTermsOf signature) made → IsThisSide signature first (plain_drafts made) side) → IsThisSide signature first expected side
side_by signature first side expected made h k =
    let this = k h.over in record { same = this.same ∙ h.same; over = this.over }

-- ---- The drafts are joined one after the other, from right to left.
pub record IsJoinedSoFar (first : ℕ) (row : Row) (rest : List Draft) (by : ℕ) (made : Turned) : Type 0 where
  pub same : joined_drafts first (turned_draft made) (plain_drafts rest) ≡ draft_of_row first row
  pub count : by ≡ number_of_row_leaves (plain_drafts rest)
  pub over : (signature : Signature) → IsRowOf signature row → IsTurnedOf signature made × Every (HasTermsOf signature) rest

pub joined_begun : (first : ℕ) (row : Row) (rest : List Draft) (by : ℕ) (lifted : Draft) (made : Turned) → rest ≡ row.lefts.items
    → by ≡ number_of_row_leaves (plain_drafts row.lefts.items)
    → plain_draft lifted ≡ draft_with (raised_from first by) (plain_draft row.right)
    → turned_draft made ≡ plain_draft lifted
    → ((signature : Signature) → HasTermsOf signature row.right → HasTermsOf signature lifted)
    → ((signature : Signature) → HasTermsOf signature lifted → IsTurnedOf signature made)
    → IsJoinedSoFar first row rest by made
joined_begun first row rest by lifted made e count l m lifted_over over = record {
  same = ap (λ (ds : List Draft). joined_drafts first (turned_draft made) (plain_drafts ds)) e
      ∙ (ap (λ (d : plain.Draft). joined_drafts first d (plain_drafts row.lefts.items)) (m ∙ l)
      ∙ (ap (λ (n : ℕ). joined_drafts first (draft_with (raised_from first n) (plain_draft row.right)) (plain_drafts row.lefts.items)) count
      ∙ sym (row_is_joined first (plain_draft row.right) (plain_drafts row.lefts.items))));
  count = count ∙ ap (λ (ds : List Draft). number_of_row_leaves (plain_drafts ds)) (sym e);
  over = λ signature h. (
    over signature (lifted_over signature h.right),
    subst (λ (ds : List Draft). Every (HasTermsOf signature) ds) (sym e) h.lefts,
  );
}

pub joined_more : (first : ℕ) (row : Row) (rest next : List Draft) (by less : ℕ) (left lifted : Draft) (made more : Turned)
    → rest ≡ left ∷ next → less ≡ by - length left.leaves.items
    → plain_draft lifted ≡ draft_with (raised_from first less) (plain_draft left)
    → turned_draft more ≡ both_drafts (plain_draft lifted) (turned_draft made)
    → ((signature : Signature) → HasTermsOf signature left → HasTermsOf signature lifted)
    → ((signature : Signature) → HasTermsOf signature lifted → IsTurnedOf signature made → IsTurnedOf signature more)
    → IsJoinedSoFar first row rest by made → IsJoinedSoFar first row next less more
joined_more first row rest next by less left lifted made more e is l m lifted_over more_over h =
    let whole : by ≡ length (plain_draft left).leaves + number_of_row_leaves (plain_drafts next) =
    h.count ∙ ap (λ (ds : List Draft). number_of_row_leaves (plain_drafts ds)) e in
    let size : length (plain_draft left).leaves ≡ length left.leaves.items = length-map left.leaves.items term_in in
    let left_over : less ≡ number_of_row_leaves (plain_drafts next) = omega (arith, is, whole, size) in
    record {
      same = ap (λ (d : plain.Draft). joined_drafts first d (plain_drafts next))
          (m ∙ (ap (λ (d : plain.Draft). both_drafts d (turned_draft made)) l
          ∙ ap (λ (n : ℕ). both_drafts (draft_with (raised_from first n) (plain_draft left)) (turned_draft made)) left_over))
          ∙ (ap (λ (ds : List Draft). joined_drafts first (turned_draft made) (plain_drafts ds)) (sym e) ∙ h.same);
      count = left_over;
      over = λ signature k.
          let before = h.over signature k in
          let rest_over : Every (HasTermsOf signature) (left ∷ next) =
          subst (λ (ds : List Draft). Every (HasTermsOf signature) ds) e before.1 in
          (more_over signature (lifted_over signature rest_over.0) before.0, rest_over.1);
    }

pub joined_done : (first : ℕ) (row : Row) (rest : List Draft) (by : ℕ) (made : Turned) → length rest ≡ 0
    → IsJoinedSoFar first row rest by made → turned_draft made ≡ draft_of_row first row
joined_done first row [] by made none h = h.same
joined_done first row (d ∷ rest) by made none h = absurd (omega arith)

-- ---- Leaves counted.
pub leaves_more : (drafts : List Draft) (i : ℕ) (d : Draft) (count sum size : ℕ) → i < length drafts → d ≡ get_or drafts i d
    → size ≡ length d.leaves.items → sum ≡ count + size
    → count + number_of_row_leaves (plain_drafts (drop i drafts)) ≡ number_of_row_leaves (plain_drafts drafts)
    → sum + number_of_row_leaves (plain_drafts (drop (i + 1) drafts)) ≡ number_of_row_leaves (plain_drafts drafts)
leaves_more drafts i d count sum size within is e s h =
    let here : drop i drafts ≡ d ∷ drop (suc i) drafts =
    drop-cons drafts i d within ∙ ap (λ (y : Draft). y ∷ drop (suc i) drafts) (sym is) in
    let opened : number_of_row_leaves (plain_drafts (drop i drafts))
    ≡ length (plain_draft d).leaves + number_of_row_leaves (plain_drafts (drop (suc i) drafts)) =
    ap (λ (ds : List Draft). number_of_row_leaves (plain_drafts ds)) here in
    let each : length (plain_draft d).leaves ≡ length d.leaves.items = length-map d.leaves.items term_in in
    ap (λ (j : ℕ). sum + number_of_row_leaves (plain_drafts (drop j drafts))) (add-one i)
    ∙ (let sums : sum + number_of_row_leaves (plain_drafts (drop (suc i) drafts)) ≡ count
    + number_of_row_leaves (plain_drafts (drop i drafts)) =
    omega (arith, opened, each, e, s) in sums ∙ h)

pub leaves_done : (drafts : List Draft) (i count : ℕ) → length drafts ≤ i
    → count + number_of_row_leaves (plain_drafts (drop i drafts)) ≡ number_of_row_leaves (plain_drafts drafts)
    → count ≡ number_of_row_leaves (plain_drafts drafts)
leaves_done drafts i count past h =
    let none : number_of_row_leaves (plain_drafts (drop i drafts)) ≡ 0 =
    ap (λ (ds : List Draft). number_of_row_leaves (plain_drafts ds)) (drop_all i drafts past) in
    (let same : count ≡ count + number_of_row_leaves (plain_drafts (drop i drafts)) = omega (arith, none) in same) ∙ h

-- ---- Lists of one draft, and what stands beside a side.
pub one_made : (signature : Signature) (made : List Draft) (d : Draft) (expected : plain.Draft) → made ≡ d ∷ []
    → plain_draft d ≡ expected → HasTermsOf signature d → AreThese signature (expected ∷ []) made
one_made signature made d expected e is h = record {
  same = ap plain_drafts e ∙ ap (λ (x : plain.Draft). x ∷ []) is;
  over = subst (λ (ds : List Draft). Every (HasTermsOf signature) ds) (sym e) (h, tt);
}

pub beside_these : (signature : Signature) (meet : SynchronisationSet) (first : ℕ) (lefts expected : List plain.Draft)
    (rights made : List Draft) → AreThese signature expected rights
    → (Every (HasTermsOf signature) rights → AreThese signature (beside_drafts signature meet first lefts (plain_drafts rights)) made)
    → AreThese signature (beside_drafts signature meet first lefts expected) made
beside_these signature meet first lefts expected rights made h k =
    let these = k h.over in
    record { same = these.same ∙ ap (beside_drafts signature meet first lefts) h.same; over = these.over }
