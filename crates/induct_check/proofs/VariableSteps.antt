-- Variables numbered one after another.
use Rattle.std.proofs.Common.{◌≡◌, ◌⊎◌, ◌<◌, ◌≤◌, ◌+◌, ℕ, zero, suc, List, [], ◌∷◌, ◌++◌, Some, slice_get, get_or, length, refl, ap, sym, ◌∙◌, subst, inl, inr, arith}
use Rattle.std.proofs.lemmas.Option.{same_Some, slice_get_within, slice_get-get_or}
use Rattle.std.proofs.lemmas.List.{length-append, length-map}
use Rattle.lotos_base.proofs.Members.{member_at, at_map}
use Rattle.lotos_base.specs.Name.{spelling, AreSame}
use Rattle.lotos_base.specs.Equation.{Variable}
use Rattle.lotos_base.specs.Names.{AreOneName}
use Rattle.lotos_base.specs.Signature.{Signature}
use Rattle.lotos_base.proofs.Numbers.{compared, split_last}
use Rattle.sort_terms.specs.Reading.{IsSortNamed}
use Rattle.syntax_trees.specs.TreeViews.{written_variable_of, written_variables_of}
use Rattle.syntax_trees.specs.WrittenVariable.{WrittenVariable}
use Rattle.syntax_trees.specs.declared.named.VarText.{VarText}
use Rattle.induct_check.specs.CertificateReading.{AreNumbered, HaveOwnNames}
use Rattle.induct_check.specs.VariableView.{HasEarlier}

-- The first so many are numbered, and none of them has an earlier one with its name.
pub record AreNumberedSoFar (signature : Signature) (written : List WrittenVariable) (n : ℕ) (variables : List Variable) : Type 0 where
  pub count : length variables ≡ n
  pub each : (i : ℕ) (w : WrittenVariable) (v : Variable) → slice_get written i ≡ Some w → slice_get variables i ≡ Some v
      → (v.name ≡ w.name) × (v.number ≡ i) × IsSortNamed signature v.sort w.sort
  pub apart : (k : ℕ) → k < n → HasEarlier written k → ⊥

is_at_end : (variables : List Variable) (v u : Variable) (i : ℕ) → slice_get (variables ++ v ∷ []) i ≡ Some u
    → (slice_get variables i ≡ Some u) ⊎ ((i ≡ length variables) × (u ≡ v))
is_at_end [] v u zero at = inr (refl, sym (same_Some v u at))
is_at_end [] v u (suc i) at = absurd (cc at)
is_at_end (x ∷ xs) v u zero at = inl at
is_at_end (x ∷ xs) v u (suc i) at = by (is_at_end xs v u i at)
  where
    by : (slice_get xs i ≡ Some u) ⊎ ((i ≡ length xs) × (u ≡ v))
        → (slice_get xs i ≡ Some u) ⊎ ((suc i ≡ suc (length xs)) × (u ≡ v))
    by (inl h) = inl h
    by (inr h) = inr (ap (λ (k : ℕ). suc k) h.0, h.1)

-- one more
pub one_numbered : (signature : Signature) (written : List WrittenVariable) (n : ℕ) (variables more : List Variable) (w : WrittenVariable)
    (v : Variable) → AreNumberedSoFar signature written n variables → more ≡ variables ++ v ∷ [] → slice_get written n ≡ Some w
    → (HasEarlier written n → ⊥) → v.name ≡ w.name → v.number ≡ n → IsSortNamed signature v.sort w.sort
    → AreNumberedSoFar signature written (n + 1) more
one_numbered signature written n variables more w v now is at new named numbered sorted =
    subst (λ (vs : List Variable). AreNumberedSoFar signature written (n + 1) vs) (sym is) (record {
      count = length-append variables (v ∷ []) ∙ ap (λ (k : ℕ). k + 1) now.count;
      each = λ i x u here there. each_by i x u here (is_at_end variables v u i there);
      apart = λ k below h. apart_by k below h;
    })
  where
    each_by : (i : ℕ) (x : WrittenVariable) (u : Variable) → slice_get written i ≡ Some x
        → (slice_get variables i ≡ Some u) ⊎ ((i ≡ length variables) × (u ≡ v))
        → (u.name ≡ x.name) × (u.number ≡ i) × IsSortNamed signature u.sort x.sort
    each_by i x u here (inl there) = now.each i x u here there
    each_by i x u here (inr last) =
        let place : i ≡ n = last.0 ∙ now.count in
        let one : w ≡ x = same_Some w x (sym at ∙ (ap (λ (k : ℕ). slice_get written k) (sym place) ∙ here)) in (
          ap (λ (y : Variable). y.name) last.1 ∙ (named ∙ ap (λ (y : WrittenVariable). y.name) one),
          ap (λ (y : Variable). y.number) last.1 ∙ (numbered ∙ sym place),
          subst (λ (y : Variable). IsSortNamed signature y.sort x.sort) (sym last.1)
              (subst (λ (y : WrittenVariable). IsSortNamed signature v.sort y.sort) one sorted),
        )

    apart_by : (k : ℕ) → k < n + 1 → HasEarlier written k → ⊥
    apart_by k below h = by (split_last k n below)
      where
        by : (k < n) ⊎ (k ≡ n) → ⊥
        by (inl less) = now.apart k less h
        by (inr same) = new (subst (λ (j : ℕ). HasEarlier written j) same h)

-- all of them
pub all_numbered : (signature : Signature) (written : List WrittenVariable) (n : ℕ) (variables : List Variable) → length written ≤ n
    → n ≤ length written → AreNumberedSoFar signature written n variables → AreNumbered signature written variables
all_numbered signature written n variables past within now = record {
  count = now.count ∙ omega (arith, past, within);
  each = now.each;
}

pub all_apart : (signature : Signature) (written : List WrittenVariable) (n : ℕ) (variables : List Variable) → length written ≤ n
    → AreNumberedSoFar signature written n variables → HaveOwnNames written
all_apart signature written n variables past now i j v w at there same = by (compared i j)
  where
    earlier : (k l : ℕ) (x y : WrittenVariable) → k < l → slice_get written k ≡ Some x → slice_get written l ≡ Some y
        → AreOneName x.name y.name → ⊥
    earlier k l x y below first second one =
        now.apart l (omega (arith, past, slice_get_within written l y second))
        (record { place = k; earlier = x; here = y; before = below; is_earlier = first; is_here = second; one_name = one })

    by : (i < j) ⊎ ((i ≡ j) ⊎ (j < i)) → i ≡ j
    by (inl less) = absurd (earlier i j v w less at there same)
    by (inr (inl is)) = is
    by (inr (inr more)) = absurd (earlier j i w v more there at (sym same))

pub no_sort : (signature : Signature) (written : List WrittenVariable) (n : ℕ) (w : WrittenVariable) (variables : List Variable)
    → slice_get written n ≡ Some w → ((s : ℕ) → IsSortNamed signature s w.sort → ⊥) → AreNumbered signature written variables → ⊥
no_sort signature written n w variables at none are =
    let there : (v : Variable) × (slice_get variables n ≡ Some v) =
    member_at variables n (subst (λ (k : ℕ). n < k) (sym are.count) (slice_get_within written n w at)) in
    none there.0.sort (are.each n w there.0 at there.1).2

-- ---- Earlier ones with one name

read_variable : (written : List VarText) (k : ℕ) (d : VarText) → k < length written
    → slice_get (written_variables_of written) k ≡ Some (written_variable_of (get_or written k d))
read_variable written k d within = at_map written_variable_of written k (get_or written k d) (slice_get-get_or written k d within)

pub earlier_found : (written : List VarText) (k number : ℕ) (d e : VarText) → k < number → number < length written
    → AreSame (get_or written k d).name (get_or written number e).name → HasEarlier (written_variables_of written) number
earlier_found written k number d e before within same = record {
  place = k;
  earlier = written_variable_of (get_or written k d);
  here = written_variable_of (get_or written number e);
  before = before;
  is_earlier = read_variable written k d (omega (arith, before, within));
  is_here = read_variable written number e within;
  one_name = same;
}

pub one_not_earlier : (written : List VarText) (k number : ℕ) (d e : VarText) → k < number → number < length written
    → (AreSame (get_or written k d).name (get_or written number e).name → ⊥)
    → ((j : ℕ) (v w : WrittenVariable) → j < k → slice_get (written_variables_of written) j ≡ Some v
    → slice_get (written_variables_of written) number ≡ Some w → ¬ AreOneName v.name w.name)
    → (j : ℕ) (v w : WrittenVariable) → j < k + 1 → slice_get (written_variables_of written) j ≡ Some v
    → slice_get (written_variables_of written) number ≡ Some w → ¬ AreOneName v.name w.name
one_not_earlier written k number d e before within differ so_far j v w below at here same = by (split_last j k below)
  where
    by : (j < k) ⊎ (j ≡ k) → ⊥
    by (inl less) = so_far j v w less at here same
    by (inr is) =
        let first : v ≡ written_variable_of (get_or written k d) =
        same_Some v (written_variable_of (get_or written k d))
        (sym at ∙ (ap (λ (i : ℕ). slice_get (written_variables_of written) i) is
        ∙ read_variable written k d (omega (arith, before, within)))) in
        let second : w ≡ written_variable_of (get_or written number e) =
        same_Some w (written_variable_of (get_or written number e)) (sym here ∙ read_variable written number e within) in
        differ (subst (λ (x : WrittenVariable). AreOneName x.name (spelling (get_or written number e).name)) first
        (subst (λ (y : WrittenVariable). AreOneName v.name y.name) second same))

pub numbered_done : (signature : Signature) (written : List VarText) (n : ℕ) (variables : List Variable) → length written ≤ n
    → n ≤ length written → AreNumberedSoFar signature (written_variables_of written) n variables
    → HaveOwnNames (written_variables_of written) × AreNumbered signature (written_variables_of written) variables
numbered_done signature written n variables past within now =
    let long : length (written_variables_of written) ≡ length written = length-map written written_variable_of in (
      all_apart signature (written_variables_of written) n variables (omega (arith, long, past)) now,
      all_numbered signature (written_variables_of written) n variables (omega (arith, long, past)) (omega (arith, long, within)) now,
    )
