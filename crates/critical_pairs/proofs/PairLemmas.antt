-- The critical pair of two rules at a path.
use Rattle.std.proofs.Common.{◌≡◌, ℕ, List, [], Bool, true, false, refl, ap, sym, ◌∙◌, subst, inl, inr}
use Rattle.std.specs.Prelude.{◌⊎◌, Some}
use Rattle.std.specs.Option.{option_map}
use Rattle.lotos_base.specs.Signature.{Signature}
use Rattle.lotos_base.specs.Term.{Term}
use Rattle.lotos_base.specs.Sorting.{Occurs}
use Rattle.lotos_base.specs.Path.{put_at}
use Rattle.lotos_base.specs.Substitution.{substituted, renaming, binding}
use Rattle.lotos_base.proofs.SubstitutionLemmas.{substituted_occurs}
use Rattle.rewriting_theory.specs.Rule.{Rule, IsRuleAt, IsNode}
use Rattle.rewriting_theory.specs.Unification.{IsMostGeneral, OccursInEither}
use Rattle.rewriting_theory.specs.CriticalPair.{CriticalPair, IsCriticalPair}
use Rattle.rewriting_theory.specs.Numbering.{IsNumbered}
use Rattle.rewriting_theory.proofs.UnifyLemmas.{general_elsewhere}
use Rattle.rewriting_theory.proofs.RenumberLemmas.{renamed_critical}
use Rattle.sort_terms.specs.ProfiledTerm.{ProfiledTerm, bare, IsOf}
use Rattle.term_match.specs.Matched.{TermHasOneSortPerNumber, IsPair}
use Rattle.term_match.specs.ProfiledInstance.{profiled_instance, profiled_binding, bare_pairs}
use Rattle.term_match.specs.ProfiledPath.{profiled_put_at}
use Rattle.term_match.proofs.PathLemmas.{put_bare, put_of, subterm_of}
use Rattle.term_match.proofs.InstanceLemmas.{instance_by_pairs}
use Rattle.term_match.specs.Renumbering.{profiled_renaming}
use Rattle.term_match.proofs.NumberLemmas.{renumbered_plain}
use Rattle.term_match.specs.Disagreement.{has_number}
use Rattle.term_match.specs.Unified.{IsUnifiedBy}
use Rattle.term_match.proofs.AgreeLemmas.{has_number_true, has_number_occurs}
use Rattle.term_match.proofs.StateLemmas.{Pairs, pairs_instance_of}
use Rattle.path_order.specs.RuleSides.{Sides}
use Rattle.critical_pairs.specs.TwoSides.{bare_rule, PairTerms, pair_with}
use Rattle.critical_pairs.specs.OverlapPair.{IsOverlapPair, ArePairTermsOf}
use Rattle.critical_pairs.specs.Contracted.{IsNumberedBy}
use Rattle.critical_pairs.proofs.PlaceLemmas.{moved, IsPlace, moved_occurs, part_bare, part_occurs, one_sort_both, wider, moved_of}

-- what the unifier makes of the two rules
pub record IsContracted (first second : Sides) (path : List ℕ) (number : ℕ → ℕ → ℕ) (pairs : Pairs) (terms : PairTerms)
    : Type 0 where
  pub peak : terms.peak ≡ profiled_instance (profiled_binding pairs) first.left
  pub left : terms.left ≡ profiled_instance (profiled_binding pairs) first.right
  pub right : profiled_put_at path (profiled_instance (profiled_binding pairs) (moved number second.right))
      (profiled_instance (profiled_binding pairs) first.left) ≡ Some terms.right

-- ---- The unifier is most general for both left sides

elsewhere : {signature : Signature} {first second : Sides} {path : List ℕ} {part : ProfiledTerm} {number : ℕ → ℕ → ℕ}
    → IsPlace signature first second path part number → (n r : ℕ)
    → OccursInEither (bare first.left) (bare (moved number second.left)) n r
    → OccursInEither (bare part) (bare (moved number second.left)) n r
    ⊎ ((q : ℕ) → ¬ OccursInEither (bare part) (bare (moved number second.left)) n q)
elsewhere is n r (inr o) = inl (inr o)
elsewhere {first = first} {second = second} {part = part} {number = number} is n r (inl o) = go (has_number n part) refl
  where
    go : (b : Bool) → has_number n part ≡ b
        → OccursInEither (bare part) (bare (moved number second.left)) n r
        ⊎ ((q : ℕ) → ¬ OccursInEither (bare part) (bare (moved number second.left)) n q)
    go true test =
        let there = has_number_occurs n part test in
        let sorts : there.0 ≡ r = is.first_over.numbers n there.0 r (part_occurs is n there.0 there.1) o in
        inl (inl (subst (λ (q : ℕ). Occurs n q (bare part)) sorts there.1))
    go false test = inr (λ q p. nowhere q p)
      where
        nowhere : (q : ℕ) → OccursInEither (bare part) (bare (moved number second.left)) n q → ⊥
        nowhere q (inl p) = let yes : has_number n part ≡ true = has_number_true n q part p in let clash : true ≡ false = sym yes
            ∙ test in cc
        nowhere q (inr p) =
            let from = moved_occurs number second.left n q p in
            is.clear.clear from.before q r from.occurs (subst (λ (k : ℕ). Occurs k r (bare first.left)) (sym from.is_number) o)

general_both : {signature : Signature} {first second : Sides} {path : List ℕ} {part : ProfiledTerm} {number : ℕ → ℕ → ℕ}
    → IsPlace signature first second path part number → (pairs : Pairs) → IsUnifiedBy part (moved number second.left) pairs
    → IsMostGeneral (OccursInEither (bare first.left) (substituted (renaming number) (bare second.left))) (bare part)
    (substituted (renaming number) (bare second.left)) (binding (bare_pairs pairs))
general_both {first = first} {second = second} {part = part} {number = number} is pairs unified =
    subst (λ (w : Term). IsMostGeneral (OccursInEither (bare first.left) w) (bare part) w (binding (bare_pairs pairs)))
    (renumbered_plain number second.left)
    (general_elsewhere (bare part) (bare (moved number second.left)) (bare first.left) (bare (moved number second.left))
    (binding (bare_pairs pairs)) unified.general unified.keeps (elsewhere is))

-- ---- The pair before its variables are numbered

contracted_critical : {signature : Signature} {first second : Sides} {path : List ℕ} {part : ProfiledTerm} {number : ℕ → ℕ → ℕ}
    → IsPlace signature first second path part number → IsNode (bare part) → (pairs : Pairs)
    → IsUnifiedBy part (moved number second.left) pairs → (terms : PairTerms) → IsContracted first second path number pairs terms
    → (rules : List Rule) (i j : ℕ) → IsRuleAt rules i (bare_rule first) → IsRuleAt rules j (bare_rule second)
    → (i ≡ j → path ≡ [] → ⊥) → IsCriticalPair rules (pair_with i j path terms)
contracted_critical {first = first} {second = second} {path = path} {part = part} {number = number} is is_node pairs unified terms made
    rules i j is_first is_second no_root = record {
      place = record {
        first_rule = bare_rule first;
        second_rule = bare_rule second;
        part = bare part;
        is_first = is_first;
        is_second = is_second;
        is_part = part_bare path first.left part is.is_part;
        no_variable = is_node;
        no_same_root = no_root;
      };
      number = number;
      keeps = λ n m s o p e. is.clear.tells_apart n s m s o p e;
      apart = λ n r o p.
          let from = substituted_occurs n r (renaming number) (bare second.left) p in
          is.clear.clear from.number from.sort r from.occurs
          (subst (λ (k : ℕ). Occurs k r (bare first.left)) (sym from.inside.0) o);
      values = binding (bare_pairs pairs);
      general = general_both is pairs unified;
      is_peak = sym (ap bare made.peak ∙ instance_by_pairs pairs first.left);
      is_left = sym (ap bare made.left ∙ instance_by_pairs pairs first.right);
      is_right =
          ap (λ (w : Term). put_at path (substituted (binding (bare_pairs pairs)) w) (bare terms.peak))
          (sym (renumbered_plain number second.right))
          ∙ ap (λ (w : Term). put_at path w (bare terms.peak)) (sym (instance_by_pairs pairs (moved number second.right)))
          ∙ ap (λ (w : ProfiledTerm). put_at path (bare (profiled_instance (profiled_binding pairs) (moved number second.right)))
          (bare w)) made.peak
          ∙ sym (put_bare path (profiled_instance (profiled_binding pairs) (moved number second.right))
          (profiled_instance (profiled_binding pairs) first.left))
          ∙ ap (option_map bare) made.right;
    }

-- in the peak a number has one sort
peak_single : {signature : Signature} {first second : Sides} {path : List ℕ} {part : ProfiledTerm} {number : ℕ → ℕ → ℕ}
    → IsPlace signature first second path part number → (pairs : Pairs) → IsUnifiedBy part (moved number second.left) pairs
    → (terms : PairTerms) → IsContracted first second path number pairs terms → TermHasOneSortPerNumber (bare terms.peak)
peak_single {first = first} {second = second} {part = part} {number = number} is pairs unified terms made n r q o p =
    one_sort_both is n r q (from n r o) (from n q p)
  where
    kept : (m s k a : ℕ) → Occurs m s (bare first.left) → Occurs k a (binding (bare_pairs pairs) m s)
        → OccursInEither (bare part) (bare (moved number second.left)) m s
        ⊎ ((b : ℕ) → ¬ OccursInEither (bare part) (bare (moved number second.left)) m b)
        → OccursInEither (bare first.left) (bare (moved number second.left)) k a
    kept m s k a there inside (inl matters) = wider is k a (unified.keeps.inside m s k a matters inside)
    kept m s k a there inside (inr none) =
        let same : (m ≡ k) × (s ≡ a) = subst (λ (w : Term). Occurs k a w) (unified.keeps.others_stay m s none) inside in
        inl (subst (λ (b : ℕ). Occurs b a (bare first.left)) same.0 (subst (λ (b : ℕ). Occurs m b (bare first.left)) same.1 there))

    from : (k a : ℕ) → Occurs k a (bare terms.peak) → OccursInEither (bare first.left) (bare (moved number second.left)) k a
    from k a there =
        let comes = substituted_occurs k a (binding (bare_pairs pairs)) (bare first.left)
        (subst (λ (w : Term). Occurs k a w) (ap bare made.peak ∙ instance_by_pairs pairs first.left) there) in
        kept comes.number comes.sort k a comes.occurs comes.inside (elsewhere is comes.number comes.sort (inl comes.occurs))

-- ---- The pair

pub makes_pair : {signature : Signature} {first second : Sides} {path : List ℕ} {part : ProfiledTerm} {number : ℕ → ℕ → ℕ}
    → IsPlace signature first second path part number → IsNode (bare part) → (pairs : Pairs)
    → IsUnifiedBy part (moved number second.left) pairs → (before after : PairTerms) → IsContracted first second path number pairs before
    → IsNumberedBy before after → IsOverlapPair first second path after
makes_pair {first = first} {second = second} {path = path} is is_node pairs unified before after made numbered
    rules i j is_first is_second no_root =
    let critical = contracted_critical is is_node pairs unified before made rules i j is_first is_second no_root in
    let peak : bare after.peak ≡ substituted (renaming numbered.number) (bare before.peak) =
    ap bare numbered.peak ∙ renumbered_plain numbered.number before.peak in
    let left : bare after.left ≡ substituted (renaming numbered.number) (bare before.left) =
    ap bare numbered.left ∙ renumbered_plain numbered.number before.left in
    let right : bare after.right ≡ substituted (renaming numbered.number) (bare before.right) =
    ap bare numbered.right ∙ renumbered_plain numbered.number before.right in
    let same : pair_with i j path after ≡ record {
      first = i;
      second = j;
      path = path;
      peak = substituted (renaming numbered.number) (bare before.peak);
      left = substituted (renaming numbered.number) (bare before.left);
      right = substituted (renaming numbered.number) (bare before.right);
    } = λ k. record { first = i; second = j; path = path; peak = peak k; left = left k; right = right k } in
    record {
      is_place = refl;
      critical = subst (λ (p : CriticalPair). IsCriticalPair rules p) (sym same)
          (renamed_critical (pair_with i j path before) numbered.number critical
          (λ n m s o p e. numbered.by_appearance.tells_apart n s m s o p e));
      numbered = subst (λ (w : Term). IsNumbered w) (sym peak)
          (numbered.by_appearance.numbered (peak_single is pairs unified before made));
    }

-- the terms are of the signature
pub pair_of_signature : (signature : Signature) {first second : Sides} {path : List ℕ} {part : ProfiledTerm} {number : ℕ → ℕ → ℕ}
    → IsPlace signature first second path part number → (pairs : Pairs)
    → IsUnifiedBy part (moved number second.left) pairs → (before after : PairTerms) → IsContracted first second path number pairs before
    → IsNumberedBy before after → ArePairTermsOf signature after
pair_of_signature signature {first = first} {second = second} {path = path} {part = part} {number = number} is pairs unified before after
    made
    numbered = record {
      peak = renumbered_of before.peak after.peak numbered.peak (subst (λ (w : ProfiledTerm). IsOf signature w) (sym made.peak) peak);
      left = renumbered_of before.left after.left numbered.left
          (subst (λ (w : ProfiledTerm). IsOf signature w) (sym made.left)
          (pairs_instance_of signature pairs first.right is.first_over.right_is_of all));
      right = renumbered_of before.right after.right numbered.right
          (put_of signature path (profiled_instance (profiled_binding pairs) (moved number second.right))
          (profiled_instance (profiled_binding pairs) first.left) before.right peak
          (pairs_instance_of signature pairs (moved number second.right)
          (moved_of signature number second.right is.second_over.right_is_of) all) made.right);
    }
  where
    all : (n : ℕ) (u : ProfiledTerm) → IsPair pairs n u → IsOf signature u
    all n u at =
        unified.of_signature signature n u
        (subterm_of signature path first.left part is.first_over.left_is_of is.is_part)
        (moved_of signature number second.left is.second_over.left_is_of) at

    peak : IsOf signature (profiled_instance (profiled_binding pairs) first.left)
    peak = pairs_instance_of signature pairs first.left is.first_over.left_is_of all

    renumbered_of : (t u : ProfiledTerm) → u ≡ profiled_instance (profiled_renaming numbered.number) t → IsOf signature t → IsOf signature u
    renumbered_of t u e h = subst (λ (w : ProfiledTerm). IsOf signature w) (sym e) (moved_of signature numbered.number t h)
