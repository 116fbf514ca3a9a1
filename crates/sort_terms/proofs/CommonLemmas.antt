-- The sorts that two terms share, sort by sort.
use Rattle.std.proofs.Common.{◌≡◌, ℕ, Bool, true, false, ◌||◌, [], ◌∷◌, refl, ap, sym, ◌∙◌, subst}
use Rattle.std.specs.Prelude.{Option, Some, None, nat_eq, if◌then◌else◌}
use Rattle.std.specs.List.{AllByRecursion}
use Rattle.std.specs.List.Sorted.{IsStrictlySortedBy}
use Rattle.std.specs.Map.{keys_of}
use Rattle.std.specs.Ordering.{nat_cmp}
use Rattle.std.specs.declared.cmp.Ordering.TheVariants.{Less}
use Rattle.std.proofs.lemmas.Bool.{eqb-true, eq-eqb, both_ways}
use Rattle.std.proofs.lemmas.Option.{none-some}
use Rattle.sort_terms.specs.Choices.{both, joined_readings}
use Rattle.sort_terms.specs.declared.choices.Choice.{Choice}
use Rattle.sort_terms.proofs.ChoiceLemmas.{Entries, at, at_first, at_later}

-- the first of two that is there
abbrev pub or_else : Option Choice → Option Choice → Option Choice
or_else None other = other
or_else (Some c) other = Some c

-- what is made has the sorts that were looked at, and what is left has the others
pub record CommonSoFar (rest : Entries) (made other whole : ℕ → Option Choice) : Type 0 where
  pub sorted : IsStrictlySortedBy nat_cmp (keys_of rest)
  pub all : (s : ℕ) → both (whole s) (other s) ≡ or_else (made s) (both (at s rest) (other s))
  pub later : (s : ℕ) (c : Choice) → at s rest ≡ Some c → made s ≡ None

not_later : (k : ℕ) (es : Entries) → AllByRecursion (λ y. nat_cmp k y ≡ Less) (keys_of es) → at k es ≡ None
not_later k [] below = refl
not_later k (e ∷ es) below = rw below.0 (not_later k es below.1)

first_gone : (k : ℕ) (ch : Choice) (es : Entries) → IsStrictlySortedBy nat_cmp (k ∷ keys_of es) → at k es ≡ None
unfolding IsStrictlySortedBy
first_gone k ch es sorted = not_later k es sorted.0

rest_sorted : (k : ℕ) (es : Entries) → IsStrictlySortedBy nat_cmp (k ∷ keys_of es) → IsStrictlySortedBy nat_cmp (keys_of es)
unfolding IsStrictlySortedBy
rest_sorted k es sorted = sorted.1

differs : (s k : ℕ) → nat_eq s k ≡ false → ¬ (s ≡ k)
differs s k test same = absurd (both_ways (nat_eq s k) test (eq-eqb s k same))

both_nothing : (o : Option Choice) → both o None ≡ None
both_nothing None = refl
both_nothing (Some c) = refl

-- a sort that the other term lacks
pub common_passed : (rest es : Entries) (k : ℕ) (ch : Choice) (made other whole : ℕ → Option Choice) → rest ≡ (k, ch) ∷ es
    → None ≡ other k → CommonSoFar rest made other whole → CommonSoFar es made other whole
common_passed rest es k ch made other whole is none so_far =
    go (subst (λ (xs : Entries). CommonSoFar xs made other whole) is so_far)
  where
    go : CommonSoFar ((k, ch) ∷ es) made other whole → CommonSoFar es made other whole
    go now = record {
      sorted = rest_sorted k es now.sorted;
      all = λ s. now.all s ∙ ap (λ (c : Option Choice). or_else (made s) c) (by_sort s (nat_eq s k) refl);
      later = λ s c found. later s c found (nat_eq s k) refl;
    }
      where
        by_sort : (s : ℕ) (b : Bool) → nat_eq s k ≡ b → both (at s ((k, ch) ∷ es)) (other s) ≡ both (at s es) (other s)
        by_sort s true same =
            let nothing : other s ≡ None = ap other (eqb-true s k same) ∙ sym none in
            ap (λ (o : Option Choice). both (at s ((k, ch) ∷ es)) o) nothing ∙ both_nothing (at s ((k, ch) ∷ es))
            ∙ sym (ap (λ (o : Option Choice). both (at s es) o) nothing ∙ both_nothing (at s es))
        by_sort s false differ = ap (λ (c : Option Choice). both c (other s)) (at_later s k ch es (differs s k differ))

        later : (s : ℕ) (c : Choice) → at s es ≡ Some c → (b : Bool) → nat_eq s k ≡ b → made s ≡ None
        later s c found true same =
            absurd (none-some c (sym (ap (λ (r : ℕ). at r es) (eqb-true s k same) ∙ first_gone k ch es now.sorted) ∙ found))
        later s c found false differ = now.later s c (at_later s k ch es (differs s k differ) ∙ found)

-- a sort that both have
pub common_added : (rest es : Entries) (k : ℕ) (ch second : Choice) (several : Bool) (made new other whole : ℕ → Option Choice)
    → rest ≡ (k, ch) ∷ es → Some second ≡ other k → several ≡ (ch.several || second.several)
    → ((s : ℕ) → new s ≡ (if nat_eq s k then joined_readings (made k) ch.source several else made s))
    → CommonSoFar rest made other whole → CommonSoFar es new other whole
common_added rest es k ch second several made new other whole is there are added so_far =
    go (subst (λ (xs : Entries). CommonSoFar xs made other whole) is so_far)
  where
    go : CommonSoFar ((k, ch) ∷ es) made other whole → CommonSoFar es new other whole
    go now = record {
      sorted = rest_sorted k es now.sorted;
      all = λ s. all s (nat_eq s k) refl;
      later = λ s c found. later s c found (nat_eq s k) refl;
    }
      where
        none_made : made k ≡ None
        none_made = now.later k ch (at_first k ch es)

        new_here : new k ≡ Some (record { source = ch.source; several = several })
        new_here = added k ∙ rw (eq-eqb k k refl) (ap (λ (o : Option Choice). joined_readings o ch.source several) none_made)

        new_elsewhere : (s : ℕ) → nat_eq s k ≡ false → new s ≡ made s
        new_elsewhere s differ = added s ∙ rw differ refl

        pair_here : both (at k ((k, ch) ∷ es)) (other k) ≡ Some (record { source = ch.source; several = several })
        pair_here =
            ap (λ (c : Option Choice). both c (other k)) (at_first k ch es) ∙ ap (λ (c : Option Choice). both (Some ch) c) (sym there)
            ∙ ap (λ (b : Bool). Some (record { source = ch.source; several = b })) (sym are)

        all_here : both (whole k) (other k) ≡ or_else (new k) (both (at k es) (other k))
        all_here =
            now.all k ∙ ap (λ (c : Option Choice). or_else c (both (at k ((k, ch) ∷ es)) (other k))) none_made ∙ pair_here
            ∙ sym (ap (λ (c : Option Choice). or_else c (both (at k es) (other k))) new_here)

        all : (s : ℕ) (b : Bool) → nat_eq s k ≡ b → both (whole s) (other s) ≡ or_else (new s) (both (at s es) (other s))
        all s true same =
            subst (λ (r : ℕ). both (whole r) (other r) ≡ or_else (new r) (both (at r es) (other r))) (sym (eqb-true s k same)) all_here
        all s false differ =
            now.all s ∙ ap (λ (c : Option Choice). or_else c (both (at s ((k, ch) ∷ es)) (other s))) (sym (new_elsewhere s differ))
            ∙ ap (λ (c : Option Choice). or_else (new s) (both c (other s))) (at_later s k ch es (differs s k differ))

        later : (s : ℕ) (c : Choice) → at s es ≡ Some c → (b : Bool) → nat_eq s k ≡ b → new s ≡ None
        later s c found true same =
            absurd (none-some c (sym (ap (λ (r : ℕ). at r es) (eqb-true s k same) ∙ first_gone k ch es now.sorted) ∙ found))
        later s c found false differ = new_elsewhere s differ ∙ now.later s c (at_later s k ch es (differs s k differ) ∙ found)
