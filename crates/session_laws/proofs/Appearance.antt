-- An equation whose variables are numbered by first appearance keeps their numbers.
use Rattle.std.proofs.Common.{◌≡◌, ◌⊎◌, inl, inr, ℕ, zero, suc, ◌+◌, ◌<◌, ◌≤◌, Bool, true, false, ◌||◌, nat_eq, if◌then◌else◌, List, [], ◌∷◌, ◌++◌, slice_get, Some, refl, ap, sym, ◌∙◌, subst, arith}
use Rattle.std.proofs.lemmas.Bool.{eqb-true, eq-eqb}
use Rattle.std.proofs.lemmas.Option.{none-some, same_Some}
use Rattle.lotos_base.specs.Term.{Term, variable, node, Terms, no_terms, term_then}
use Rattle.rewriting_theory.specs.Numbering.{IsByAppearance}
use Rattle.rewriting_theory.specs.Numbering as theory
use Rattle.type_flatten.proofs.FlatteningOrder.{numbers_below}
use Rattle.type_definitions.specs.TypeGraph.{is_among}
use Rattle.type_definitions.specs.FlatteningOrder.{counted_from}
use Rattle.type_definitions.specs.Presentation.{with_new, first_position}
use Rattle.type_definitions.specs.DeclaredEquations.{numbers_in_term, variable_numbers_among, appearing, renumbered, renumbered_among}
use Rattle.type_definitions.proofs.NumberLists.{among_left, among_right, at_among}

-- ---- Numbers in a row

-- a number of the row stands at its own place
position_in_row : (first count n : ℕ) → first ≤ n → n < first + count
    → first_position (nat_eq n) (counted_from first count) + first ≡ n
position_in_row first zero n from below = absurd (omega (arith, from, below))
position_in_row first (suc count) n from below = by (nat_eq n first) refl (position_in_row (suc first) count n)
  where
    by : (b : Bool) → nat_eq n first ≡ b
        → (suc first ≤ n → n < suc first + count → first_position (nat_eq n) (counted_from (suc first) count) + suc first ≡ n)
        → (if b then 0 else suc (first_position (nat_eq n) (counted_from (suc first) count))) + first ≡ n
    by true is rest = let same : n ≡ first = eqb-true n first is in omega (arith, same)
    by false is rest =
        let differ : n ≡ first → ⊥ = λ same. (let other : nat_eq n first ≡ true = eq-eqb n first same in cc) in
        let later : suc first ≤ n = past differ in
        let e = rest later (omega (arith, below)) in
        omega (arith, e)
      where
        past : (n ≡ first → ⊥) → suc first ≤ n
        past differ = omega (arith, from, differ)

-- the numbers of the row
among_row : (first count n : ℕ) → first ≤ n → n < first + count → is_among (counted_from first count) n ≡ true
among_row first zero n from below = absurd (omega (arith, from, below))
among_row first (suc count) n from below = by (nat_eq n first) refl (among_row (suc first) count n)
  where
    by : (b : Bool) → nat_eq n first ≡ b
        → (suc first ≤ n → n < suc first + count → is_among (counted_from (suc first) count) n ≡ true)
        → (b || is_among (counted_from (suc first) count) n) ≡ true
    by true is rest = refl
    by false is rest =
        let differ : n ≡ first → ⊥ = λ same. (let other : nat_eq n first ≡ true = eq-eqb n first same in cc) in
        rest (omega (arith, from, differ)) (omega (arith, below))

row_more : (first count : ℕ) → counted_from first count ++ (first + count) ∷ [] ≡ counted_from first (suc count)
row_more first zero = let here : first + 0 ≡ first = omega arith in ap (λ (n : ℕ). n ∷ []) here
row_more first (suc count) =
    let further : first + suc count ≡ suc first + count = omega arith in
    ap (λ (ns : List ℕ). first ∷ ns)
    (ap (λ (n : ℕ). counted_from (suc first) count ++ n ∷ []) further ∙ row_more (suc first) count)

-- ---- First appearances

-- all numbers that are smaller than one of the list are below a number, or stand before it
abbrev Follows : ℕ → List ℕ → Type 0
Follows next ns = (i n m : ℕ) → slice_get ns i ≡ Some n → m < n → (m < next) ⊎ ((j : ℕ) × (j < i) × (slice_get ns j ≡ Some m))

-- the list is a row, and it has these numbers
record IsRow (next : ℕ) (ns made : List ℕ) : Type 0 where
  count : ℕ
  is : made ≡ counted_from 0 count
  more : next ≤ count
  below : (i n : ℕ) → slice_get ns i ≡ Some n → n < count

later : (next more k : ℕ) (ns : List ℕ) → k < more → next ≤ more → Follows next (k ∷ ns) → Follows more ns
later next more k ns small far follows = λ i n m at less. by i m (follows (suc i) n m at less)
  where
    by : (i m : ℕ) → (m < next) ⊎ ((j : ℕ) × (j < suc i) × (slice_get (k ∷ ns) j ≡ Some m))
        → (m < more) ⊎ ((j : ℕ) × (j < i) × (slice_get ns j ≡ Some m))
    by i m (inl less) = inl (omega (arith, less, far))
    by i m (inr (zero, less, at)) = let same : k ≡ m = same_Some k m at in inl (omega (arith, same, small))
    by i m (inr (suc j, less, at)) = inr (j, omega (arith, less), at)

new_next : (next k : ℕ) (ns : List ℕ) → Follows next (k ∷ ns) → is_among (counted_from 0 next) k ≡ false → k ≡ next
new_next next k ns follows not_there =
    let high : k < next → ⊥ = λ less. (let there = among_row 0 next k (omega arith) (omega (arith, less)) in cc) in
    let low : next < k → ⊥ = λ more. by (follows 0 k next refl more) in
    omega (arith, high, low)
  where
    by : (next < next) ⊎ ((j : ℕ) × (j < 0) × (slice_get (k ∷ ns) j ≡ Some next)) → ⊥
    by (inl less) = omega (arith, less)
    by (inr (j, less, at)) = omega (arith, less)

one_below : (next k : ℕ) (ns made : List ℕ) (more : ℕ) → k < more → (row : IsRow more ns made) → next ≤ more → IsRow next (k ∷ ns) made
one_below next k ns made more small row far = record {
  count = row.count;
  is = row.is;
  more = let most = row.more in omega (arith, most, far);
  below = each;
}
  where
    each : (i n : ℕ) → slice_get (k ∷ ns) i ≡ Some n → n < row.count
    each zero n at = let same : k ≡ n = same_Some k n at in let most = row.more in omega (arith, same, small, most)
    each (suc i) n at = row.below i n at

rows : (ns : List ℕ) (next : ℕ) → Follows next ns → IsRow next ns (with_new nat_eq (counted_from 0 next) ns)
rows [] next follows =
    record { count = next; is = refl; more = omega arith; below = λ i n at. absurd (none-some n at) }
rows (k ∷ ns) next follows = by (is_among (counted_from 0 next) k) refl (rows ns next) (rows ns (suc next))
  where
    by : (b : Bool) → is_among (counted_from 0 next) k ≡ b
        → (Follows next ns → IsRow next ns (with_new nat_eq (counted_from 0 next) ns))
        → (Follows (suc next) ns → IsRow (suc next) ns (with_new nat_eq (counted_from 0 (suc next)) ns))
        → IsRow next (k ∷ ns) (with_new nat_eq (if b then counted_from 0 next else counted_from 0 next ++ k ∷ []) ns)
    by true there old new =
        let low = numbers_below 0 next k there in
        let small : k < next = omega (arith, low) in
        one_below next k ns (with_new nat_eq (counted_from 0 next) ns) next small
        (old (later next next k ns small (omega arith) follows)) (omega arith)
    by false not_there old new =
        let is : k ≡ next = new_next next k ns follows not_there in
        let row : counted_from 0 next ++ k ∷ [] ≡ counted_from 0 (suc next) =
        ap (λ (n : ℕ). counted_from 0 next ++ n ∷ []) (at_end is) ∙ row_more 0 next in
        subst (λ (kept : List ℕ). IsRow next (k ∷ ns) (with_new nat_eq kept ns)) (sym row)
        (one_below next k ns (with_new nat_eq (counted_from 0 (suc next)) ns) (suc next) (omega (arith, is))
        (new (later next (suc next) k ns (omega (arith, is)) (omega arith) follows)) (omega arith))
      where
        at_end : k ≡ next → k ≡ 0 + next
        at_end is = omega (arith, is)

-- ---- Terms that stay

mutual
  same_numbers : (t : Term) → theory.variable_numbers t ≡ numbers_in_term t
  same_numbers (variable n s) = refl
  same_numbers (node f ts) = all_same_numbers ts

  all_same_numbers : (ts : Terms) → theory.all_variable_numbers ts ≡ variable_numbers_among ts
  all_same_numbers no_terms = refl
  all_same_numbers (term_then t ts) =
      ap (λ (ns : List ℕ). ns ++ theory.all_variable_numbers ts) (same_numbers t)
      ∙ ap (λ (ns : List ℕ). numbers_in_term t ++ ns) (all_same_numbers ts)

abbrev StandThere : List ℕ → List ℕ → Type 0
StandThere order ns = (n : ℕ) → is_among ns n ≡ true → first_position (nat_eq n) order ≡ n

mutual
  stays : (order : List ℕ) (t : Term) → StandThere order (numbers_in_term t) → renumbered order t ≡ t
  stays order (variable n s) there =
      let here : is_among (n ∷ []) n ≡ true = ap (λ (b : Bool). b || false) (eq-eqb n n refl) in
      ap (λ (m : ℕ). variable m s) (there n here)
  stays order (node f ts) there = ap (λ (us : Terms). node f us) (all_stay order ts there)

  all_stay : (order : List ℕ) (ts : Terms) → StandThere order (variable_numbers_among ts) → renumbered_among order ts ≡ ts
  all_stay order no_terms there = refl
  all_stay order (term_then t ts) there =
      ap (λ (u : Term). term_then u (renumbered_among order ts))
      (stays order t (λ n h. there n (among_left (numbers_in_term t) (variable_numbers_among ts) n h)))
      ∙ ap (λ (us : Terms). term_then t us)
      (all_stay order ts (λ n h. there n (among_right (numbers_in_term t) (variable_numbers_among ts) n h)))

-- both sides
pub record KeepNumbers (left right : Term) : Type 0 where
  pub left_stays : renumbered (appearing left right) left ≡ left
  pub right_stays : renumbered (appearing left right) right ≡ right

pub numbers_are_kept : (left right : Term)
    → IsByAppearance (theory.variable_numbers left ++ theory.variable_numbers right) → KeepNumbers left right
numbers_are_kept left right by_appearance = record {
  left_stays =
      stays (appearing left right) left (λ n h. there n (among_left (numbers_in_term left) (numbers_in_term right) n h));
  right_stays =
      stays (appearing left right) right (λ n h. there n (among_right (numbers_in_term left) (numbers_in_term right) n h));
}
  where
    numbers : List ℕ
    numbers = numbers_in_term left ++ numbers_in_term right

    same : theory.variable_numbers left ++ theory.variable_numbers right ≡ numbers_in_term left ++ numbers_in_term right
    same =
        ap (λ (ns : List ℕ). ns ++ theory.variable_numbers right) (same_numbers left)
        ∙ ap (λ (ns : List ℕ). numbers_in_term left ++ ns) (same_numbers right)

    row : IsRow 0 (numbers_in_term left ++ numbers_in_term right) (appearing left right)
    row =
        rows (numbers_in_term left ++ numbers_in_term right) 0
        (λ i n m at less. inr (subst IsByAppearance same by_appearance i n m at less))

    there : StandThere (appearing left right) (numbers_in_term left ++ numbers_in_term right)
    there n h =
        let at = at_among (numbers_in_term left ++ numbers_in_term right) n h in
        let less : n < row.count = row.below at.0 n at.1 in
        let e = position_in_row 0 row.count n (omega arith) (omega (arith, less)) in
        let zero_more : first_position (nat_eq n) (counted_from 0 row.count) ≡ n = omega (arith, e) in
        ap (λ (ns : List ℕ). first_position (nat_eq n) ns) row.is ∙ zero_more
