-- Where the tests say so, a variable number has one sort.
use Rattle.std.proofs.Common.{◌≡◌, ℕ, Bool, true, false, nat_eq, refl, sym, ◌∙◌, inl, inr}
use Rattle.std.specs.Prelude.{◌&&◌, if◌then◌else◌}
use Rattle.std.proofs.lemmas.Bool.{and_parts}
use Rattle.std.proofs.lemmas.Bool.Decides.{Decides-eqb}
use Rattle.lotos_base.specs.Sorting.{Occurs, OccursAmong}
use Rattle.rewriting_theory.specs.Unification.{OccursInEither}
use Rattle.sort_terms.specs.ProfiledTerm.{ProfiledTerm, ProfiledTerms, profiled_variable, profiled_node, no_profiled_terms, profiled_term_then, bare, all_bare}
use Rattle.term_match.specs.Unified.{HaveOneSortPerNumber}
use Rattle.direct_terms.specs.OneSort.{keeps_sort, all_keep_sort, agrees, all_agree}

mutual
  keeps_sound : (n s q : ℕ) (t : ProfiledTerm) → keeps_sort n s t ≡ true → Occurs n q (bare t) → q ≡ s
  keeps_sound n s q (profiled_variable m r) is o = go (nat_eq m n) refl is
    where
      go : (b : Bool) → nat_eq m n ≡ b → (if b then nat_eq r s else true) ≡ true → q ≡ s
      go true test same = sym o.1 ∙ (Decides-eqb r s).0 same
      go false test same =
          let yes : nat_eq m n ≡ true = (Decides-eqb m n).1 o.0 in
          let clash : true ≡ false = sym yes ∙ test in cc
  keeps_sound n s q (profiled_node f operation ts) is o = all_keep_sound n s q ts is o

  all_keep_sound : (n s q : ℕ) (ts : ProfiledTerms) → all_keep_sort n s ts ≡ true → OccursAmong n q (all_bare ts) → q ≡ s
  all_keep_sound n s q no_profiled_terms is o = absurd o
  all_keep_sound n s q (profiled_term_then t ts) is (inl o) =
      keeps_sound n s q t (and_parts (keeps_sort n s t) (all_keep_sort n s ts) is).0 o
  all_keep_sound n s q (profiled_term_then t ts) is (inr o) =
      all_keep_sound n s q ts (and_parts (keeps_sort n s t) (all_keep_sort n s ts) is).1 o

mutual
  agrees_sound : (left right t : ProfiledTerm) (n s : ℕ) → agrees left right t ≡ true → Occurs n s (bare t)
      → (keeps_sort n s left ≡ true) × (keeps_sort n s right ≡ true)
  agrees_sound left right (profiled_variable m r) n s is o = and_parts (keeps_sort n s left) (keeps_sort n s right) (moved ∙ is)
    where
      moved : (keeps_sort n s left && keeps_sort n s right) ≡ (keeps_sort m r left && keeps_sort m r right)
      moved i = keeps_sort (sym o.0 i) (sym o.1 i) left && keeps_sort (sym o.0 i) (sym o.1 i) right
  agrees_sound left right (profiled_node f operation ts) n s is o = all_agree_sound left right ts n s is o

  all_agree_sound : (left right : ProfiledTerm) (ts : ProfiledTerms) (n s : ℕ) → all_agree left right ts ≡ true
      → OccursAmong n s (all_bare ts) → (keeps_sort n s left ≡ true) × (keeps_sort n s right ≡ true)
  all_agree_sound left right no_profiled_terms n s is o = absurd o
  all_agree_sound left right (profiled_term_then t ts) n s is (inl o) =
      agrees_sound left right t n s (and_parts (agrees left right t) (all_agree left right ts) is).0 o
  all_agree_sound left right (profiled_term_then t ts) n s is (inr o) =
      all_agree_sound left right ts n s (and_parts (agrees left right t) (all_agree left right ts) is).1 o

pub one_sort_each : (left right : ProfiledTerm) → agrees left right left ≡ true → agrees left right right ≡ true
    → HaveOneSortPerNumber (bare left) (bare right)
one_sort_each left right first second n r q one two = go two
  where
    kept : (keeps_sort n r left ≡ true) × (keeps_sort n r right ≡ true)
    kept = from one
      where
        from : OccursInEither (bare left) (bare right) n r → (keeps_sort n r left ≡ true) × (keeps_sort n r right ≡ true)
        from (inl o) = agrees_sound left right left n r first o
        from (inr o) = agrees_sound left right right n r second o

    go : OccursInEither (bare left) (bare right) n q → r ≡ q
    go (inl o) = sym (keeps_sound n r q left kept.0 o)
    go (inr o) = sym (keeps_sound n r q right kept.1 o)
