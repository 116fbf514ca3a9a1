-- Uses as the code makes them: what its match means, and why there is no use where it finds none.
use Rattle.std.proofs.Common.{◌≡◌, ℕ, zero, suc, List, [], ◌∷◌, Bool, true, false, nat_eq, map, refl, ap, sym, ◌∙◌, subst, inl, inr}
use Rattle.std.specs.Prelude.{◌⊎◌, None, Some, slice_get, if◌then◌else◌}
use Rattle.std.specs.Bool.{Decides}
use Rattle.std.proofs.lemmas.Bool.Decides.{Decides-eqb, Decides-or}
use Rattle.std.proofs.lemmas.Option.{same_Some}
use Rattle.lotos_base.proofs.SubstitutionLemmas.{substituted_agree, substituted_sort}
use Rattle.lotos_base.proofs.SortLemmas.{one_sort}
use Rattle.lotos_base.proofs.TestLemmas.{Decides-occurs}
use Rattle.lotos_base.specs.Path.{subterm, put_at}
use Rattle.lotos_base.specs.Signature.{Signature}
use Rattle.lotos_base.specs.Sorting.{HasSort, Occurs}
use Rattle.lotos_base.specs.Substitution.{Substitution, substituted, binding, KeepsSorts}
use Rattle.lotos_base.specs.Term.{Term, variable}
use Rattle.lotos_base.specs.Tests.{occurs}
use Rattle.rewriting_theory.proofs.SortedSteps.{keeps_back}
use Rattle.sort_terms.specs.ProfiledTerm.{ProfiledTerm, profiled_variable, profiled_node, bare, head_sort, IsOf, FitsProfiles}
use Rattle.sort_terms.specs.SortedView.{profiled_in, term_in}
use Rattle.sort_terms.specs.declared.sorted.Sorted.{Sorted}
use Rattle.sort_terms.proofs.ProfiledTermLemmas.{fitting_has_sort, sorted_fits}
use Rattle.term_match.specs.Matched.{IsPair, IsMatchedBy, HasMatch}
use Rattle.term_match.specs.Numbers.{AreDistinctNumbers}
use Rattle.term_match.specs.ProfiledInstance.{profiled_binding, bare_pairs}
use Rattle.term_match.specs.SubstView.{profiled_pairs}
use Rattle.term_match.proofs.InstanceLemmas.{binding_bare}
use Rattle.term_match.proofs.MatchLemmas.{numbers_of, numbers_same}
use Rattle.term_match.proofs.StateLemmas.{binding_either}
use Rattle.certificate_theory.specs.InductionCertificate.{Statement, Source, Use}
use Rattle.certificate_theory.specs.Splits.{Theory, Case, Proving}
use Rattle.certificate_theory.specs.Uses.{taken_side, placed_side, side_at, with_side, IsOfSource, StandsForItself, IsUsed}
use Rattle.certificate_theory.proofs.CertificateTests.{each_variable, stands, masked}
use Rattle.certificate_theory.proofs.OnceLemmas.{instances_agree}
use Rattle.certificate_theory.proofs.TestedLines.{Decides-each, stands_decided, masked_fixed, masked_same}
use Rattle.induct_parts.specs.UseView.{closes}
use Rattle.induct_parts.proofs.PutLemmas.{occurring_known}

-- ---- pairs

pub value_at_pair : (pairs : List (ℕ × ProfiledTerm)) (n : ℕ) (u : ProfiledTerm) → AreDistinctNumbers (numbers_of pairs)
    → IsPair pairs n u → (s : ℕ) → profiled_binding pairs n s ≡ u
value_at_pair [] n u distinct there s = let none : None ≡ Some (n, u) = there.1 in cc
value_at_pair (pair ∷ ps) n u distinct (zero, e) s =
    let same : pair ≡ (n, u) = same_Some pair (n, u) e in
    go (nat_eq pair.0 n) ((Decides-eqb pair.0 n).1 (ap (λ (p : ℕ × ProfiledTerm). p.0) same)) (ap (λ (p : ℕ × ProfiledTerm). p.1) same)
  where
    go : (b : Bool) → b ≡ true → pair.1 ≡ u → (if b then pair.1 else profiled_binding ps n s) ≡ u
    go true test value = value
    go false test value = cc
value_at_pair (pair ∷ ps) n u distinct (suc i, e) s = go (nat_eq pair.0 n) refl (value_at_pair ps n u later (i, e) s)
  where
    later : AreDistinctNumbers (numbers_of ps)
    later k j m one other = let same : suc k ≡ suc j = distinct (suc k) (suc j) m one other in cc same

    number_at : (qs : List (ℕ × ProfiledTerm)) (k : ℕ) → slice_get qs k ≡ Some (n, u) → slice_get (numbers_of qs) k ≡ Some n
    number_at [] k at = let none : None ≡ Some (n, u) = at in cc
    number_at (q ∷ qs) zero at =
        ap (λ (m : ℕ). Some m) (ap (λ (p : ℕ × ProfiledTerm). p.0) (same_Some q (n, u) at))
    number_at (q ∷ qs) (suc k) at = number_at qs k at

    go : (b : Bool) → nat_eq pair.0 n ≡ b → profiled_binding ps n s ≡ u → (if b then pair.1 else profiled_binding ps n s) ≡ u
    go true test value =
        let first : slice_get (numbers_of (pair ∷ ps)) 0 ≡ Some n = ap (λ (m : ℕ). Some m) ((Decides-eqb pair.0 n).0 test) in
        let clash : 0 ≡ suc i = distinct 0 (suc i) n first (number_at ps i e) in
        absurd (cc clash)
    go false test value = value

-- a term whose bare form is a variable is that variable
bare_variable : (u : ProfiledTerm) (n s : ℕ) → bare u ≡ variable n s → u ≡ profiled_variable n s
bare_variable (profiled_variable m r) n s e = cc e
bare_variable (profiled_node f operation ts) n s e = absurd (cc e)

-- ---- what is known of a statement, of the part at the path, and of the pairs that match them

pub record IsMatchedPart (signature : Signature) (taken placed : Sorted) (part : ProfiledTerm) (pairs : List (ℕ × Sorted))
    : Type 0 where
  pub taken_over : IsOf signature (profiled_in taken)
  pub placed_over : IsOf signature (profiled_in placed)
  pub part_over : IsOf signature part
  pub part_fits : FitsProfiles part
  pub part_sort : taken.sort ≡ head_sort part
  pub one_sort : (n r s : ℕ) → Occurs n r (term_in taken) → Occurs n s (term_in placed) → r ≡ s
  pub matched : IsMatchedBy (profiled_in taken) part (profiled_pairs pairs)
  pub distinct : AreDistinctNumbers (map (λ (pair : ℕ × Sorted). pair.0) pairs)

abbrev pub values_of : List (ℕ × Sorted) → Substitution
values_of pairs = binding (bare_pairs (profiled_pairs pairs))

pub taken_sorted : (signature : Signature) (taken : Sorted) → IsOf signature (profiled_in taken)
    → HasSort signature (term_in taken) taken.sort
taken_sorted signature taken over =
    subst (HasSort signature (term_in taken)) taken.headed (fitting_has_sort signature (profiled_in taken) over taken.fits)

module _ {signature : Signature} {taken placed : Sorted} {part : ProfiledTerm} {pairs : List (ℕ × Sorted)}
    (is : IsMatchedPart signature taken placed part pairs) where
  part_sorted : HasSort signature (bare part) taken.sort
  part_sorted = subst (HasSort signature (bare part)) (sym is.part_sort) (fitting_has_sort signature part is.part_over is.part_fits)

  -- the values keep the sorts of the side that is taken
  pub values_keep : KeepsSorts signature (term_in taken) (values_of pairs)
  values_keep =
      keeps_back signature (values_of pairs) (term_in taken) taken.sort (taken_sorted signature taken is.taken_over)
      (subst (λ (t : Term). HasSort signature t taken.sort) (sym is.matched.makes) part_sorted)

  distinct_pairs : AreDistinctNumbers (numbers_of (profiled_pairs pairs))
  distinct_pairs = subst AreDistinctNumbers (numbers_same pairs) is.distinct

  -- what a pair has is what the values give
  pair_value : (n : ℕ) (u : ProfiledTerm) → IsPair (profiled_pairs pairs) n u → (s : ℕ) → values_of pairs n s ≡ bare u
  pair_value n u at s =
      sym (binding_bare (profiled_pairs pairs) n s) ∙ ap bare (value_at_pair (profiled_pairs pairs) n u distinct_pairs at s)

  -- a variable without a pair stays
  pub stays_or_paired : (n s : ℕ) → Occurs n s (term_in placed)
      → Occurs n s (term_in taken) ⊎ (profiled_binding (profiled_pairs pairs) n s ≡ profiled_variable n s)
  stays_or_paired n s o = go (binding_either (profiled_pairs pairs) n s)
    where
      go : ((u : ProfiledTerm) × IsPair (profiled_pairs pairs) n u × (profiled_binding (profiled_pairs pairs) n s ≡ u))
          ⊎ (profiled_binding (profiled_pairs pairs) n s ≡ profiled_variable n s)
          → Occurs n s (term_in taken) ⊎ (profiled_binding (profiled_pairs pairs) n s ≡ profiled_variable n s)
      go (inl (u, at, e)) =
          let there = is.matched.occurring n u at in
          inl (subst (λ (r : ℕ). Occurs n r (term_in taken)) (is.one_sort n there.0 s there.1 o) there.1)
      go (inr stays) = inr stays

  -- the values of the other side are of the signature and have the sorts of the variables
  pub placed_value_over : (n s : ℕ) → Occurs n s (term_in placed) → IsOf signature (profiled_binding (profiled_pairs pairs) n s)
  placed_value_over n s o = go (binding_either (profiled_pairs pairs) n s)
    where
      go : ((u : ProfiledTerm) × IsPair (profiled_pairs pairs) n u × (profiled_binding (profiled_pairs pairs) n s ≡ u))
          ⊎ (profiled_binding (profiled_pairs pairs) n s ≡ profiled_variable n s)
          → IsOf signature (profiled_binding (profiled_pairs pairs) n s)
      go (inl (u, at, e)) = subst (IsOf signature) (sym e) (is.matched.of_signature signature n u is.part_over at)
      go (inr stays) = subst (IsOf signature) (sym stays) (occurring_known signature (profiled_in placed) n s is.placed_over o)

  pub placed_value_sort : (n s : ℕ) → Occurs n s (term_in placed) → head_sort (profiled_binding (profiled_pairs pairs) n s) ≡ s
  placed_value_sort n s o = go (stays_or_paired n s o)
    where
      go : Occurs n s (term_in taken) ⊎ (profiled_binding (profiled_pairs pairs) n s ≡ profiled_variable n s)
          → head_sort (profiled_binding (profiled_pairs pairs) n s) ≡ s
      go (inl there) =
          (sorted_fits signature (profiled_binding (profiled_pairs pairs) n s) s (placed_value_over n s o)
          (subst (λ (t : Term). HasSort signature t s) (sym (binding_bare (profiled_pairs pairs) n s)) (values_keep n s there))).1
      go (inr stays) = ap head_sort stays

  -- ---- fixed variables

  -- Each pair of a variable that stands for itself has it.
  abbrev AllStand : Proving → Source → Type 0
  AllStand proving source = (n : ℕ) (u : ProfiledTerm) → IsPair (profiled_pairs pairs) n u → StandsForItself proving source n
      → (s : ℕ) × (u ≡ profiled_variable n s)

  -- so it does in the side that is taken
  pub taken_stands : (proving : Proving) (source : Source) → AllStand proving source → (n s : ℕ) → Occurs n s (term_in taken)
      → StandsForItself proving source n → values_of pairs n s ≡ variable n s
  taken_stands proving source stand n s o itself =
      let paired = is.matched.paired n (s, o) in
      let has = stand n paired.0 paired.1 itself in
      let value : values_of pairs n s ≡ variable n has.0 = pair_value n paired.0 paired.1 s ∙ ap bare has.1 in
      let sorted : HasSort signature (variable n has.0) s =
      subst (λ (t : Term). HasSort signature t s) value (values_keep n s o) in
      value ∙ ap (variable n) sorted.0

  pub masked_taken : (proving : Proving) (source : Source) → AllStand proving source → (n s : ℕ) → Occurs n s (term_in taken)
      → values_of pairs n s ≡ masked proving source (values_of pairs) n s
  masked_taken proving source stand n s o =
      masked_same proving source (values_of pairs) (values_of pairs) n s (λ itself. taken_stands proving source stand n s o itself) refl

  pub masked_placed : (proving : Proving) (source : Source) → AllStand proving source
      → ((n s : ℕ) → Occurs n s (term_in placed) → StandsForItself proving source n ⊎ Occurs n s (term_in taken))
      → (n s : ℕ) → Occurs n s (term_in placed) → values_of pairs n s ≡ masked proving source (values_of pairs) n s
  masked_placed proving source stand closed n s o = go (stays_or_paired n s o)
    where
      go : Occurs n s (term_in taken) ⊎ (profiled_binding (profiled_pairs pairs) n s ≡ profiled_variable n s)
          → values_of pairs n s ≡ masked proving source (values_of pairs) n s
      go (inl there) = masked_taken proving source stand n s there
      go (inr stays) =
          masked_same proving source (values_of pairs) (values_of pairs) n s
          (λ itself. sym (binding_bare (profiled_pairs pairs) n s) ∙ ap bare stays) refl

  -- where a use has these values, each pair of a variable that stands for itself has it
  pub told_stand : (proving : Proving) (source : Source) (values : Substitution)
      → ((n s : ℕ) → StandsForItself proving source n → values n s ≡ variable n s)
      → substituted values (term_in taken) ≡ bare part → AllStand proving source
  told_stand proving source values fixed old n u at itself =
      let there = is.matched.occurring n u at in
      let same : values n there.0 ≡ values_of pairs n there.0 =
      instances_agree values (values_of pairs) (term_in taken) (old ∙ sym is.matched.makes) n there.0 there.1 in (
        there.0,
        bare_variable u n there.0 (sym (pair_value n u at there.0) ∙ (sym same ∙ fixed n there.0 itself)),
      )

-- ---- the test of the other side

pub closes_decided : (proving : Proving) (source : Source) (taken placed : Term)
    → Decides (each_variable (closes proving source taken) placed)
    ((n s : ℕ) → Occurs n s placed → StandsForItself proving source n ⊎ Occurs n s taken)
closes_decided proving source taken placed =
    Decides-each (λ n s. StandsForItself proving source n ⊎ Occurs n s taken) (closes proving source taken)
    (λ n s. Decides-or (stands proving source n) (occurs n s taken) (stands_decided proving source n) (Decides-occurs n s taken)) placed

-- ---- there is no use where there is no match

pub told_match : (signature : Signature) (taken : Sorted) (part : ProfiledTerm) (values : Substitution)
    → IsOf signature (profiled_in taken) → IsOf signature part → FitsProfiles part → KeepsSorts signature (term_in taken) values
    → substituted values (term_in taken) ≡ bare part → HasMatch (profiled_in taken) part
told_match signature taken part values over part_over part_fits keeps old =
    let sorted : HasSort signature (bare part) taken.sort =
    subst (λ (t : Term). HasSort signature t taken.sort) old
    (substituted_sort signature values (term_in taken) taken.sort (taken_sorted signature taken over) keeps) in
    let same : taken.sort ≡ head_sort part =
    one_sort signature (bare part) taken.sort (head_sort part) sorted (fitting_has_sort signature part part_over part_fits) in
    (taken.headed ∙ same, (values, old))

-- ---- the use that is made

pub use_made : (theory : Theory) (proving : Proving) (point : Case) (use_ : Use) (statement : Statement) (taken placed : Sorted)
    (part : ProfiledTerm) (pairs : List (ℕ × Sorted)) (after : Term)
    → (is : IsMatchedPart theory.data_.signature taken placed part pairs) → IsOfSource proving point use_.source statement
    → taken_side use_.direction statement ≡ term_in taken → placed_side use_.direction statement ≡ term_in placed
    → subterm use_.path (side_at use_.side point.goal) ≡ Some (bare part)
    → ((n : ℕ) (u : ProfiledTerm) → IsPair (profiled_pairs pairs) n u → StandsForItself proving use_.source n
    → (s : ℕ) × (u ≡ profiled_variable n s))
    → ((n s : ℕ) → Occurs n s (term_in placed) → StandsForItself proving use_.source n ⊎ Occurs n s (term_in taken))
    → put_at use_.path (substituted (values_of pairs) (term_in placed)) (side_at use_.side point.goal) ≡ Some after
    → IsUsed theory proving point use_ (with_side use_.side after point.goal)
use_made theory proving point use_ statement taken placed part pairs after is there takes places at stand closed put = record {
  statement = statement;
  is_there = there;
  values = masked proving use_.source (values_of pairs);
  fixed = λ n s itself. masked_fixed proving use_.source (values_of pairs) n s itself;
  sorted = λ n s o.
      let here = subst (Occurs n s) takes o in
      subst (λ (t : Term). HasSort theory.data_.signature t s) (masked_taken is proving use_.source stand n s here)
      (values_keep is n s here);
  closed = λ n s o. closes_there n s (closed n s (subst (Occurs n s) places o));
  old = at ∙ ap (λ (t : Term). Some t) (sym is.matched.makes ∙ (taken_agree ∙ ap (substituted mask) (sym takes)));
  after = after;
  new = subst (λ (t : Term). put_at use_.path t (side_at use_.side point.goal) ≡ Some after)
      (placed_agree ∙ ap (substituted mask) (sym places)) put;
  is_result = refl;
}
  where
    mask : Substitution
    mask = masked proving use_.source (values_of pairs)

    closes_there : (n s : ℕ) → StandsForItself proving use_.source n ⊎ Occurs n s (term_in taken)
        → StandsForItself proving use_.source n ⊎ Occurs n s (taken_side use_.direction statement)
    closes_there n s (inl itself) = inl itself
    closes_there n s (inr o) = inr (subst (Occurs n s) (sym takes) o)

    taken_agree : substituted (values_of pairs) (term_in taken) ≡ substituted mask (term_in taken)
    taken_agree =
        substituted_agree (values_of pairs) mask (term_in taken) (λ n s o. masked_taken is proving use_.source stand n s o)

    placed_agree : substituted (values_of pairs) (term_in placed) ≡ substituted mask (term_in placed)
    placed_agree =
        substituted_agree (values_of pairs) mask (term_in placed) (λ n s o. masked_placed is proving use_.source stand closed n s o)
