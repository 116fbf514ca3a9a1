-- Ordered entries of choices: one alone, or two with different sorts.
use Rattle.std.proofs.Common.{◌≡◌, ◌<◌, ℕ, true, false, List, [], ◌∷◌, length, refl, sym, ◌∙◌, arith}
use Rattle.std.specs.Prelude.{Option, Some, None, slice_get}
use Rattle.std.specs.List.Sorted.{IsStrictlySortedBy}
use Rattle.std.specs.Map.{lookup, keys_of}
use Rattle.std.specs.Ordering.{nat_cmp, is_eq}
use Rattle.std.specs.Cmp.{nat_cmp_is, Equal-is}
use Rattle.std.specs.BTreeMap.{is_at}
use Rattle.std.specs.declared.cmp.Ordering.TheVariants.{Less, Equal}
use Rattle.std.proofs.lemmas.Map.Lookups.{exact_unsigned}
use Rattle.std.proofs.lemmas.Option.{same_Some}
use Rattle.std.proofs.lemmas.Bool.{false_from_ne_true}
use Rattle.sort_terms.specs.declared.choices.Choice.{Choice}

abbrev pub Entries : Type 0
Entries = List (ℕ × Choice)

-- what the entries have at a sort
abbrev pub at : ℕ → Entries → Option Choice
at s es = lookup (is_at (nat_cmp s)) es

cmp_self : (s : ℕ) → is_eq (nat_cmp s s) ≡ true
cmp_self s = (Equal-is (nat_cmp s s)).1 (sym (nat_cmp_is s s Equal refl))

cmp_same : (s k : ℕ) → is_eq (nat_cmp s k) ≡ true → s ≡ k
cmp_same s k h = exact_unsigned s k ((Equal-is (nat_cmp s k)).0 h)

pub cmp_other : (s k : ℕ) → ¬ (s ≡ k) → is_eq (nat_cmp s k) ≡ false
cmp_other s k differ = false_from_ne_true (is_eq (nat_cmp s k)) (λ same. differ (cmp_same s k same))

pub at_first : (k : ℕ) (c : Choice) (es : Entries) → at k ((k, c) ∷ es) ≡ Some c
at_first k c es = rw (cmp_self k) refl

pub at_later : (s k : ℕ) (c : Choice) (es : Entries) → ¬ (s ≡ k) → at s ((k, c) ∷ es) ≡ at s es
at_later s k c es differ = rw (cmp_other s k differ) refl

less_differs : (a b : ℕ) → nat_cmp a b ≡ Less → ¬ (a ≡ b)
less_differs a b less same =
    let equal : Equal ≡ nat_cmp a b = nat_cmp_is a b Equal same in
    let both : Equal ≡ Less = equal ∙ less in
    cc

-- two entries have different sorts
pub two_entries : (es : Entries) → 1 < length es → IsStrictlySortedBy nat_cmp (keys_of es)
    → (s : ℕ) × (r : ℕ) × (c : Choice) × (d : Choice) × (at s es ≡ Some c) × (at r es ≡ Some d) × ¬ (s ≡ r)
unfolding IsStrictlySortedBy
two_entries [] many sorted = absurd (omega arith)
two_entries (e ∷ []) many sorted = absurd (omega arith)
two_entries (e ∷ f ∷ es) many sorted =
    let differ = less_differs e.0 f.0 sorted.0.0 in (
      e.0,
      f.0,
      e.1,
      f.1,
      at_first e.0 e.1 (f ∷ es),
      at_later f.0 e.0 e.1 (f ∷ es) (λ same. differ (sym same)) ∙ at_first f.0 f.1 es,
      differ,
    )

-- one entry alone
pub one_entry : (es : Entries) (k : ℕ) (c : Choice) → ¬ (1 < length es) → slice_get es 0 ≡ Some (k, c)
    → (s : ℕ) → ¬ (s ≡ k) → at s es ≡ None
one_entry [] k c few first s differ = refl
one_entry (e ∷ []) k c few first s differ =
    let same : e ≡ (k, c) = same_Some _ _ first in
    rw same (at_later s k c [] differ)
one_entry (e ∷ f ∷ es) k c few first s differ = absurd (few (omega arith))
