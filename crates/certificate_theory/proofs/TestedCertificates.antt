-- The test of a certificate says that it is right, or what its first fault is.
use Rattle.std.proofs.Common.{◌≡◌, ◌<◌, ℕ, zero, suc, ◌+◌, List, [], ◌∷◌, ◌++◌, Bool, true, false, nat_eq, not, length, refl, ap, sym, ◌∙◌, subst, inl, inr, arith}
use Rattle.std.specs.Prelude.{◌⊎◌, ◌&&◌, Option, None, Some, slice_get, IsFalse, if◌then◌else◌}
use Rattle.std.specs.Bool.{Decides}
use Rattle.std.proofs.lemmas.Bool.Decides.{Decides-eqb, Decides-and, Decides-like, not_from_Decides}
use Rattle.std.proofs.lemmas.Option.{same_Some, slice_get_within}
use Rattle.lotos_base.specs.Signature.{Signature, Operation, IsOperation}
use Rattle.lotos_base.specs.Substitution.{is_listed}
use Rattle.lotos_base.proofs.Options.{none_and_some}
use Rattle.lotos_base.proofs.Each.{Each}
use Rattle.certificate_theory.specs.InductionCertificate.{Cover, PatternTree, Lemma, Certificate}
use Rattle.certificate_theory.specs.Lines.{DealsWith, AreRightBehind, no_more, right_then, FirstIsWrong, wrong_here, wrong_later}
use Rattle.certificate_theory.specs.Covers.{IsListedIn, cover_of, HasResult, IsRightCover}
use Rattle.certificate_theory.specs.Faults.{InductionFault, bad_line}
use Rattle.certificate_theory.specs.Patterns.{first_pattern, PatternComesTo, IsWrongAtPattern}
use Rattle.certificate_theory.specs.Splits.{Theory, first_case}
use Rattle.certificate_theory.specs.Proofs.{CaseComesTo, IsWrongAtCase}
use Rattle.certificate_theory.specs.Certified.{IsCertificateOver, with_trees, IsRightTree, AreComplete, proving_of, IsRightLemma, IsCertified, IsWrongCover, IsWrongTree, IsWrongLemma, lines_of_cover, lines_of_tree, lines_of_lemma, lines_of_trees, LacksTree, IsFirstLack, IsInductionFault, in_covers, in_trees, behind_trees, in_lemmas}
use Rattle.certificate_theory.proofs.Each.{each_of}
use Rattle.certificate_theory.proofs.CertificateTests.{pattern_outcome, case_outcome, Found, one_later, first_failing, or_else, first_wrong, is_none_yet, result_is, all_results, all_once, is_right_cover, cover_found_wrong, lines_of_operation, tree_found_wrong, three_later, lemma_found_wrong, first_below, first_or, lacks_with, lacks_tree, first_lacking, first_lack, lack_or, then_look, of_lack, certificate_found_wrong}
use Rattle.certificate_theory.proofs.TestedLines.{pattern_means, case_means, DealMeans, deals_means}

-- ---- covers

decides_not_listed : (numbers : List ℕ) (n : ℕ) → Decides (not (is_listed numbers n)) (IsFalse (is_listed numbers n))
decides_not_listed numbers n = go (is_listed numbers n)
  where
    go : (b : Bool) → Decides (not b) (b ≡ false)
    go true = ((λ e. sym e), (λ e. sym e))
    go false = ((λ e. refl), (λ e. refl))

decides_none_yet : (o : Option (List ℕ)) → Decides (is_none_yet o) (o ≡ None)
decides_none_yet None = ((λ e. refl), (λ e. refl))
decides_none_yet (Some operations) = ((λ e. absurd (cc e)), (λ e. absurd (cc e)))

decides_result : (signature : Signature) (sort f : ℕ)
    → Decides (result_is sort (slice_get signature.operations f)) (HasResult signature sort f)
decides_result signature sort f = go (slice_get signature.operations f) refl
  where
    go : (o : Option Operation) → slice_get signature.operations f ≡ o → Decides (result_is sort o) (HasResult signature sort f)
    go None e = ((λ h. absurd (cc h)), (λ h. absurd (none_and_some (slice_get signature.operations f) h.0 e h.1)))
    go (Some o) e = (
      (λ h. (o, e, (Decides-eqb o.result sort).0 h)),
      (λ h. (Decides-eqb o.result sort).1
          (subst (λ (p : Operation). p.result ≡ sort) (same_Some h.0 o (sym h.1 ∙ e)) h.2)),
    )

-- Each of the operations has the sort as result, and each number is listed once.
abbrev pub AllResults : Signature → ℕ → List ℕ → Type 0
AllResults signature sort fs = (i f : ℕ) → slice_get fs i ≡ Some f → HasResult signature sort f

abbrev pub AllOnce : List ℕ → Type 0
AllOnce fs = (i j f : ℕ) → slice_get fs i ≡ Some f → slice_get fs j ≡ Some f → i ≡ j

pub decides_results : (signature : Signature) (sort : ℕ) (fs : List ℕ) → Decides (all_results signature sort fs) (AllResults signature sort fs)
decides_results signature sort [] = ((λ e i f at. absurd (cc at)), (λ all. refl))
decides_results signature sort (f ∷ fs) =
    Decides-like (result_is sort (slice_get signature.operations f) && all_results signature sort fs) joined
    (λ all. (all 0 f refl, (λ i. all (suc i))))
    (Decides-and (result_is sort (slice_get signature.operations f)) (all_results signature sort fs) (decides_result signature sort f)
    (decides_results signature sort fs))
  where
    joined : HasResult signature sort f × AllResults signature sort fs → AllResults signature sort (f ∷ fs)
    joined h zero g at = subst (HasResult signature sort) (same_Some f g at) h.0
    joined h (suc i) g at = h.1 i g at

-- the member at some index is listed, and what is listed stands at some index
pub member_among : (xs : List ℕ) (i n : ℕ) → slice_get xs i ≡ Some n → IsListedIn xs n
member_among [] i n at = absurd (cc at)
member_among (x ∷ xs) zero n at = rw ((Decides-eqb x n).1 (same_Some x n at)) refl
member_among (x ∷ xs) (suc i) n at = go (nat_eq x n) (member_among xs i n at)
  where
    go : (b : Bool) → is_listed xs n ≡ true → (if b then true else is_listed xs n) ≡ true
    go true rest = refl
    go false rest = rest

pub among_member : (xs : List ℕ) (n : ℕ) → IsListedIn xs n → (i : ℕ) × (slice_get xs i ≡ Some n)
among_member [] n among = absurd (cc among)
among_member (x ∷ xs) n among = go (nat_eq x n) refl among (λ rest. among_member xs n rest)
  where
    go : (b : Bool) → nat_eq x n ≡ b → (if b then true else is_listed xs n) ≡ true
        → (IsListedIn xs n → (i : ℕ) × (slice_get xs i ≡ Some n)) → (i : ℕ) × (slice_get (x ∷ xs) i ≡ Some n)
    go true e among later = (0, ap (λ (m : ℕ). Some m) ((Decides-eqb x n).0 e))
    go false e among later = let found = later among in (suc found.0, found.1)

pub decides_once : (fs : List ℕ) → Decides (all_once fs) (AllOnce fs)
decides_once [] = ((λ e i j f at also. absurd (cc at)), (λ all. refl))
decides_once (x ∷ xs) =
    Decides-like (not (is_listed xs x) && all_once xs) joined parted
    (Decides-and (not (is_listed xs x)) (all_once xs) (decides_not_listed xs x) (decides_once xs))
  where
    beyond : IsFalse (is_listed xs x) → (j f : ℕ) → x ≡ f → slice_get xs j ≡ Some f → ⊥
    beyond none j f same at =
        let some : is_listed xs x ≡ true = subst (λ (m : ℕ). is_listed xs m ≡ true) (sym same) (member_among xs j f at) in
        let differ : false ≡ true = sym none ∙ some in
        absurd (cc differ)

    joined : IsFalse (is_listed xs x) × AllOnce xs → AllOnce (x ∷ xs)
    joined h zero zero f at also = refl
    joined h zero (suc j) f at also = absurd (beyond h.0 j f (same_Some x f at) also)
    joined h (suc i) zero f at also = absurd (beyond h.0 i f (same_Some x f also) at)
    joined h (suc i) (suc j) f at also = ap (λ (n : ℕ). suc n) (h.1 i j f at also)

    alone : AllOnce (x ∷ xs) → (b : Bool) → is_listed xs x ≡ b → b ≡ false
    alone once true e =
        let found = among_member xs x e in
        let same : 0 ≡ suc found.0 = once 0 (suc found.0) x refl found.1 in
        absurd (omega (arith, same))
    alone once false e = refl

    parted : AllOnce (x ∷ xs) → IsFalse (is_listed xs x) × AllOnce xs
    parted once = (
      alone once (is_listed xs x) refl,
      (λ i j f at also. let same : suc i ≡ suc j = once (suc i) (suc j) f at also in omega (arith, same)),
    )

pub decides_cover : (signature : Signature) (earlier : List Cover) (cover : Cover)
    → Decides (is_right_cover signature earlier cover) (IsRightCover signature earlier cover)
decides_cover signature earlier cover =
    Decides-like
    ((is_none_yet (cover_of earlier cover.sort) && all_results signature cover.sort cover.operations) && all_once cover.operations)
    joined (λ h. ((h.only_one, h.results), h.once))
    (Decides-and (is_none_yet (cover_of earlier cover.sort) && all_results signature cover.sort cover.operations)
    (all_once cover.operations)
    (Decides-and (is_none_yet (cover_of earlier cover.sort)) (all_results signature cover.sort cover.operations)
    (decides_none_yet (cover_of earlier cover.sort)) (decides_results signature cover.sort cover.operations))
    (decides_once cover.operations))
  where
    joined : ((cover_of earlier cover.sort ≡ None) × AllResults signature cover.sort cover.operations) × AllOnce cover.operations
        → IsRightCover signature earlier cover
    joined h = record { only_one = h.0.0; results = h.0.1; once = h.1 }

-- ---- things one after another

-- What it means that a thing is wrong behind others, or right.
abbrev ThingMeans : {X : Type 0} → (List X → X → Type 0) → (List X → X → ℕ → InductionFault → Type 0) → List X → X → Found → Type 0
ThingMeans IsRight IsWrong earlier x None = IsRight earlier x
ThingMeans IsRight IsWrong earlier x (Some at) = IsWrong earlier x at.0 at.1

-- And that one of them is.
abbrev ThingsMean : {X : Type 0} → (List X → X → Type 0) → (List X → X → ℕ → InductionFault → Type 0) → (X → ℕ) → ℕ
    → List X → List X → Found → Type 0
ThingsMean IsRight IsWrong length_of begin earlier xs None = AreRightBehind IsRight earlier xs
ThingsMean IsRight IsWrong length_of begin earlier xs (Some at) = FirstIsWrong IsRight IsWrong length_of begin earlier xs at.0 at.1

things_mean : {X : Type 0} (IsRight : List X → X → Type 0) (IsWrong : List X → X → ℕ → InductionFault → Type 0) (length_of : X → ℕ)
    (judge : List X → X → Found) (Q : X → Type 0)
    → ((earlier : List X) (x : X) → Q x → ThingMeans IsRight IsWrong earlier x (judge earlier x))
    → (begin : ℕ) (earlier xs : List X) → Each Q xs
    → ThingsMean IsRight IsWrong length_of begin earlier xs (first_wrong judge length_of begin earlier xs)
things_mean IsRight IsWrong length_of judge Q means begin earlier [] q = no_more
things_mean {X = X} IsRight IsWrong length_of judge Q means begin earlier (x ∷ xs) q =
    go (judge earlier x) (means earlier x q.0) (first_wrong judge length_of (begin + length_of x) (earlier ++ x ∷ []) xs)
    (things_mean IsRight IsWrong length_of judge Q means (begin + length_of x) (earlier ++ x ∷ []) xs q.1)
  where
    go : (here : Found) → ThingMeans IsRight IsWrong earlier x here → (later : Found)
        → ThingsMean IsRight IsWrong length_of (begin + length_of x) (earlier ++ x ∷ []) xs later
        → ThingsMean IsRight IsWrong length_of begin earlier (x ∷ xs) (or_else begin here later)
    go (Some at) wrong later rest = wrong_here at.0 wrong refl
    go None right None rest = right_then right rest
    go None right (Some at) rest = wrong_later right rest

cover_means : (signature : Signature) (earlier : List Cover) (cover : Cover)
    → ThingMeans (IsRightCover signature) (IsWrongCover signature) earlier cover (cover_found_wrong signature earlier cover)
cover_means signature earlier cover = go (is_right_cover signature earlier cover) refl
  where
    go : (b : Bool) → is_right_cover signature earlier cover ≡ b
        → ThingMeans (IsRightCover signature) (IsWrongCover signature) earlier cover (if b then None else Some (zero, bad_line))
    go true e = (decides_cover signature earlier cover).0 e
    go false e =
        (not_from_Decides (is_right_cover signature earlier cover) (decides_cover signature earlier cover) e, refl, refl)

-- The operation of a tree is one of the signature.
abbrev HasOperation : Signature → PatternTree → Type 0
HasOperation signature tree = (operation : Operation) × IsOperation signature tree.operation operation

tree_means : (theory : Theory) (covers : List Cover) (earlier : List PatternTree) (tree : PatternTree)
    → HasOperation theory.data_.signature tree
    → ThingMeans (IsRightTree theory covers) (IsWrongTree theory covers) earlier tree (tree_found_wrong theory covers earlier tree)
tree_means theory covers earlier tree has = go (is_listed (with_trees earlier) tree.operation) refl
  where
    by_lines : is_listed (with_trees earlier) tree.operation ≡ false → (operation : Operation)
        → slice_get theory.data_.signature.operations tree.operation ≡ Some operation → (found : Found)
        → DealMeans (PatternComesTo theory.data_.signature theory.rules covers) (IsWrongAtPattern theory.rules covers)
        (first_pattern (record { number = tree.operation; operation = operation }) ∷ []) tree.lines found
        → ThingMeans (IsRightTree theory covers) (IsWrongTree theory covers) earlier tree (one_later found)
    by_lines e operation is None deals = (
      e,
      λ other there. subst (λ (o : Operation). DealsWith (PatternComesTo theory.data_.signature theory.rules covers)
          (first_pattern (record { number = tree.operation; operation = o }) ∷ []) tree.lines)
          (same_Some operation other (sym is ∙ there)) deals,
    )
    by_lines e operation is (Some at) fails = inr (e, (operation, at.0, is, fails, refl))

    by_operation : is_listed (with_trees earlier) tree.operation ≡ false → (o : Option Operation)
        → slice_get theory.data_.signature.operations tree.operation ≡ o
        → ThingMeans (IsRightTree theory covers) (IsWrongTree theory covers) earlier tree (lines_of_operation theory covers tree o)
    by_operation e None is =
        absurd (none_and_some (slice_get theory.data_.signature.operations tree.operation) has.0 is has.1)
    by_operation e (Some operation) is =
        by_lines e operation is
        (first_failing (pattern_outcome theory.data_.signature theory.rules covers)
        (first_pattern (record { number = tree.operation; operation = operation }) ∷ []) tree.lines)
        (deals_means (PatternComesTo theory.data_.signature theory.rules covers) (IsWrongAtPattern theory.rules covers)
        (pattern_outcome theory.data_.signature theory.rules covers) (pattern_means theory.data_.signature theory.rules covers)
        (first_pattern (record { number = tree.operation; operation = operation }) ∷ []) tree.lines)

    go : (b : Bool) → is_listed (with_trees earlier) tree.operation ≡ b
        → ThingMeans (IsRightTree theory covers) (IsWrongTree theory covers) earlier tree
        (if b then Some (zero, bad_line)
        else lines_of_operation theory covers tree (slice_get theory.data_.signature.operations tree.operation))
    go true e = inl (e, refl, refl)
    go false e = by_operation e (slice_get theory.data_.signature.operations tree.operation) refl

lemma_means : (theory : Theory) (covers : List Cover) (earlier : List Lemma) (lemma : Lemma)
    → ThingMeans (IsRightLemma theory covers) (IsWrongLemma theory covers) earlier lemma (lemma_found_wrong theory covers earlier lemma)
lemma_means theory covers earlier lemma =
    go (first_failing (case_outcome theory covers (proving_of earlier lemma)) (first_case theory lemma ∷ []) lemma.lines)
    (deals_means (CaseComesTo theory covers (proving_of earlier lemma)) (IsWrongAtCase theory covers (proving_of earlier lemma))
    (case_outcome theory covers (proving_of earlier lemma)) (case_means theory covers (proving_of earlier lemma))
    (first_case theory lemma ∷ []) lemma.lines)
  where
    go : (found : Found)
        → DealMeans (CaseComesTo theory covers (proving_of earlier lemma)) (IsWrongAtCase theory covers (proving_of earlier lemma))
        (first_case theory lemma ∷ []) lemma.lines found
        → ThingMeans (IsRightLemma theory covers) (IsWrongLemma theory covers) earlier lemma (three_later found)
    go None deals = deals
    go (Some at) fails = (at.0, fails, refl)

-- ---- operations without a tree

decides_lacks : (signature : Signature) (trees : List PatternTree) (cover : Cover) (f : ℕ)
    → Decides (lacks_tree signature trees cover f) (LacksTree signature trees cover f)
decides_lacks signature trees cover f = go (slice_get signature.operations f) refl
  where
    go : (o : Option Operation) → slice_get signature.operations f ≡ o
        → Decides (lacks_with trees cover f o) (LacksTree signature trees cover f)
    go None e = ((λ h. absurd (cc h)), (λ h. absurd (none_and_some (slice_get signature.operations f) h.operation e h.is_operation)))
    go (Some o) e =
        Decides-like
        ((nat_eq o.result cover.sort && not (is_listed cover.operations f)) && not (is_listed (with_trees trees) f)) joined parted
        (Decides-and (nat_eq o.result cover.sort && not (is_listed cover.operations f)) (not (is_listed (with_trees trees) f))
        (Decides-and (nat_eq o.result cover.sort) (not (is_listed cover.operations f)) (Decides-eqb o.result cover.sort)
        (decides_not_listed cover.operations f))
        (decides_not_listed (with_trees trees) f))
      where
        joined : ((o.result ≡ cover.sort) × IsFalse (is_listed cover.operations f)) × IsFalse (is_listed (with_trees trees) f)
            → LacksTree signature trees cover f
        joined h = record { operation = o; is_operation = e; result = h.0.0; not_covered = h.0.1; no_tree = h.1 }

        parted : LacksTree signature trees cover f
            → ((o.result ≡ cover.sort) × IsFalse (is_listed cover.operations f)) × IsFalse (is_listed (with_trees trees) f)
        parted h = (
          (
            subst (λ (p : Operation). p.result ≡ cover.sort) (same_Some h.operation o (sym h.is_operation ∙ e)) h.result,
            h.not_covered,
          ),
          h.no_tree,
        )

-- What it means that a number is the first below a bound, or none is.
abbrev FirstMeans : (ℕ → Type 0) → ℕ → Option ℕ → Type 0
FirstMeans P bound None = (g : ℕ) → g < bound → ¬ P g
FirstMeans P bound (Some f) = P f × ((g : ℕ) → g < f → ¬ P g)

first_means : (P : ℕ → Type 0) (test : ℕ → Bool) → ((n : ℕ) → Decides (test n) (P n)) → (bound : ℕ)
    → FirstMeans P bound (first_below test bound)
first_means P test decide zero = λ g less. absurd (omega (arith, less))
first_means P test decide (suc n) = go (first_below test n) (first_means P test decide n)
  where
    last : ((g : ℕ) → g < n → ¬ P g) → (P n → ⊥) → (g : ℕ) → g < suc n → ¬ P g
    last none never g less p = none g (omega (arith, less, differ)) p
      where
        differ : g ≡ n → ⊥
        differ same = never (subst P same p)

    by_test : ((g : ℕ) → g < n → ¬ P g) → (b : Bool) → test n ≡ b → FirstMeans P (suc n) (if b then Some n else None)
    by_test none true e = ((decide n).0 e, none)
    by_test none false e = last none (not_from_Decides (test n) (decide n) e)

    go : (o : Option ℕ) → FirstMeans P n o → FirstMeans P (suc n) (first_or test n o)
    go (Some f) first = first
    go None none = by_test none (test n) refl

-- The first of the covers, of which the first one has this number, that lacks a tree.
record FirstLackFrom (signature : Signature) (trees : List PatternTree) (i : ℕ) (covers : List Cover) (number f : ℕ) : Type 0 where
  index : ℕ
  is_number : number ≡ i + index
  cover : Cover
  is_cover : slice_get covers index ≡ Some cover
  lacks : LacksTree signature trees cover f
  first_operation : (g : ℕ) → g < f → ¬ LacksTree signature trees cover g
  first_cover : (j g : ℕ) (earlier : Cover) → j < index → slice_get covers j ≡ Some earlier → ¬ LacksTree signature trees earlier g

abbrev LackMeans : Signature → List PatternTree → ℕ → List Cover → Option (ℕ × ℕ) → Type 0
LackMeans signature trees i covers None = (j g : ℕ) (cover : Cover) → slice_get covers j ≡ Some cover
    → ¬ LacksTree signature trees cover g
LackMeans signature trees i covers (Some at) = FirstLackFrom signature trees i covers at.0 at.1

lack_means : (signature : Signature) (trees : List PatternTree) (i : ℕ) (covers : List Cover)
    → LackMeans signature trees i covers (first_lack signature trees i covers)
lack_means signature trees i [] = λ j g cover at lacks. absurd (cc at)
lack_means signature trees i (c ∷ cs) =
    go (first_lacking signature trees c)
    (first_means (LacksTree signature trees c) (lacks_tree signature trees c) (decides_lacks signature trees c)
    (length signature.operations))
    (first_lack signature trees (suc i) cs) (lack_means signature trees (suc i) cs)
  where
    none_here : ((g : ℕ) → g < length signature.operations → ¬ LacksTree signature trees c g) → (g : ℕ)
        → ¬ LacksTree signature trees c g
    none_here none g lacks = none g (slice_get_within signature.operations g lacks.operation lacks.is_operation) lacks

    none_at : ((g : ℕ) → ¬ LacksTree signature trees c g)
        → ((j g : ℕ) (cover : Cover) → slice_get cs j ≡ Some cover → ¬ LacksTree signature trees cover g)
        → (j g : ℕ) (cover : Cover) → slice_get (c ∷ cs) j ≡ Some cover → ¬ LacksTree signature trees cover g
    none_at none rest zero g cover at lacks =
        none g (subst (λ (d : Cover). LacksTree signature trees d g) (sym (same_Some c cover at)) lacks)
    none_at none rest (suc j) g cover at lacks = rest j g cover at lacks

    none_before : ((g : ℕ) → ¬ LacksTree signature trees c g) → (number f : ℕ)
        → (first : FirstLackFrom signature trees (suc i) cs number f)
        → (j g : ℕ) (earlier : Cover) → j < suc first.index → slice_get (c ∷ cs) j ≡ Some earlier
        → ¬ LacksTree signature trees earlier g
    none_before none number f first zero g earlier less at lacks =
        none g (subst (λ (d : Cover). LacksTree signature trees d g) (sym (same_Some c earlier at)) lacks)
    none_before none number f first (suc j) g earlier less at lacks =
        first.first_cover j g earlier (omega (arith, less)) at lacks

    go : (here : Option ℕ) → FirstMeans (LacksTree signature trees c) (length signature.operations) here → (later : Option (ℕ × ℕ))
        → LackMeans signature trees (suc i) cs later → LackMeans signature trees i (c ∷ cs) (lack_or i here later)
    go (Some f) first later rest = record {
      index = 0;
      is_number = omega arith;
      cover = c;
      is_cover = refl;
      lacks = first.0;
      first_operation = first.1;
      first_cover = λ j g earlier less at lacks. absurd (omega (arith, less));
    }
    go None none None rest = none_at (none_here none) rest
    go None none (Some at) rest =
        let number = rest.is_number in
        record {
          index = suc rest.index;
          is_number = omega (arith, number);
          cover = rest.cover;
          is_cover = rest.is_cover;
          lacks = rest.lacks;
          first_operation = rest.first_operation;
          first_cover = none_before (none_here none) at.0 at.1 rest;
        }

lack_from_start : (signature : Signature) (covers : List Cover) (trees : List PatternTree) (i f : ℕ)
    → FirstLackFrom signature trees 0 covers i f → IsFirstLack signature covers trees i f
lack_from_start signature covers trees i f first = record {
  cover = first.cover;
  is_cover = subst (λ (j : ℕ). slice_get covers j ≡ Some first.cover) same first.is_cover;
  lacks = first.lacks;
  first_operation = first.first_operation;
  first_cover = λ j g earlier less at lacks. first.first_cover j g earlier (omega (arith, less, same)) at lacks;
}
  where
    same : first.index ≡ i
    same = let number = first.is_number in omega (arith, number)

pub complete_of : (signature : Signature) (covers : List Cover) (trees : List PatternTree)
    → ((j g : ℕ) (cover : Cover) → slice_get covers j ≡ Some cover → ¬ LacksTree signature trees cover g)
    → AreComplete signature covers trees
complete_of signature covers trees none i f cover operation at is result =
    by_lists (is_listed cover.operations f) refl (is_listed (with_trees trees) f) refl
  where
    by_lists : (b : Bool) → is_listed cover.operations f ≡ b → (c : Bool) → is_listed (with_trees trees) f ≡ c
        → IsListedIn cover.operations f ⊎ IsListedIn (with_trees trees) f
    by_lists true eb c ec = inl eb
    by_lists false eb true ec = inr ec
    by_lists false eb false ec =
        absurd (none i f cover at (record {
          operation = operation;
          is_operation = is;
          result = result;
          not_covered = eb;
          no_tree = ec;
        }))

-- ---- certificates

-- What it means that a certificate has this first fault, or none.
abbrev pub CertificateMeans : Theory → Certificate → Found → Type 0
CertificateMeans theory certificate None = IsCertified theory certificate
CertificateMeans theory certificate (Some at) = IsInductionFault theory certificate at.0 at.1

pub certificate_means : (theory : Theory) (certificate : Certificate) → IsCertificateOver theory.data_.signature certificate
    → CertificateMeans theory certificate (certificate_found_wrong theory certificate)
certificate_means theory certificate over =
    by_covers (first_wrong (cover_found_wrong theory.data_.signature) lines_of_cover 1 [] certificate.covers)
    (things_mean (IsRightCover theory.data_.signature) (IsWrongCover theory.data_.signature) lines_of_cover
    (cover_found_wrong theory.data_.signature) (λ cover. Unit {0}) (λ earlier cover u. cover_means theory.data_.signature earlier cover)
    1 [] certificate.covers (each_of (λ cover. Unit {0}) certificate.covers (λ i cover at. tt)))
  where
    by_lemmas : AreRightBehind (IsRightCover theory.data_.signature) [] certificate.covers
        → AreRightBehind (IsRightTree theory certificate.covers) [] certificate.trees
        → AreComplete theory.data_.signature certificate.covers certificate.trees → (found : Found)
        → ThingsMean (IsRightLemma theory certificate.covers) (IsWrongLemma theory certificate.covers) lines_of_lemma
        (1 + length certificate.covers + lines_of_trees certificate.trees) [] certificate.lemmas found
        → CertificateMeans theory certificate found
    by_lemmas covers trees complete None lemmas =
        record { covers = covers; trees = trees; complete = complete; lemmas = lemmas }
    by_lemmas covers trees complete (Some at) wrong = in_lemmas covers trees complete wrong

    by_lack : AreRightBehind (IsRightCover theory.data_.signature) [] certificate.covers
        → AreRightBehind (IsRightTree theory certificate.covers) [] certificate.trees → (found : Option (ℕ × ℕ))
        → LackMeans theory.data_.signature certificate.trees 0 certificate.covers found
        → CertificateMeans theory certificate (then_look (of_lack found)
        (first_wrong (lemma_found_wrong theory certificate.covers) lines_of_lemma
        (1 + length certificate.covers + lines_of_trees certificate.trees) [] certificate.lemmas))
    by_lack covers trees None none =
        by_lemmas covers trees (complete_of theory.data_.signature certificate.covers certificate.trees none)
        (first_wrong (lemma_found_wrong theory certificate.covers) lines_of_lemma
        (1 + length certificate.covers + lines_of_trees certificate.trees) [] certificate.lemmas)
        (things_mean (IsRightLemma theory certificate.covers) (IsWrongLemma theory certificate.covers) lines_of_lemma
        (lemma_found_wrong theory certificate.covers) (λ lemma. Unit {0})
        (λ earlier lemma u. lemma_means theory certificate.covers earlier lemma)
        (1 + length certificate.covers + lines_of_trees certificate.trees) [] certificate.lemmas
        (each_of (λ lemma. Unit {0}) certificate.lemmas (λ i lemma at. tt)))
    by_lack covers trees (Some at) first =
        behind_trees at.0 at.1 covers trees
        (lack_from_start theory.data_.signature certificate.covers certificate.trees at.0 at.1 first) refl refl

    by_trees : AreRightBehind (IsRightCover theory.data_.signature) [] certificate.covers → (found : Found)
        → ThingsMean (IsRightTree theory certificate.covers) (IsWrongTree theory certificate.covers) lines_of_tree
        (1 + length certificate.covers) [] certificate.trees found
        → CertificateMeans theory certificate (then_look found
        (then_look (of_lack (first_lack theory.data_.signature certificate.trees zero certificate.covers))
        (first_wrong (lemma_found_wrong theory certificate.covers) lines_of_lemma
        (1 + length certificate.covers + lines_of_trees certificate.trees) [] certificate.lemmas)))
    by_trees covers None trees =
        by_lack covers trees (first_lack theory.data_.signature certificate.trees zero certificate.covers)
        (lack_means theory.data_.signature certificate.trees zero certificate.covers)
    by_trees covers (Some at) wrong = in_trees covers wrong

    by_covers : (found : Found)
        → ThingsMean (IsRightCover theory.data_.signature) (IsWrongCover theory.data_.signature) lines_of_cover
        1 [] certificate.covers found
        → CertificateMeans theory certificate (then_look found
        (then_look
        (first_wrong (tree_found_wrong theory certificate.covers) lines_of_tree (1 + length certificate.covers) [] certificate.trees)
        (then_look (of_lack (first_lack theory.data_.signature certificate.trees zero certificate.covers))
        (first_wrong (lemma_found_wrong theory certificate.covers) lines_of_lemma
        (1 + length certificate.covers + lines_of_trees certificate.trees) [] certificate.lemmas))))
    by_covers None covers =
        by_trees covers
        (first_wrong (tree_found_wrong theory certificate.covers) lines_of_tree (1 + length certificate.covers) [] certificate.trees)
        (things_mean (IsRightTree theory certificate.covers) (IsWrongTree theory certificate.covers) lines_of_tree
        (tree_found_wrong theory certificate.covers) (HasOperation theory.data_.signature) (tree_means theory certificate.covers)
        (1 + length certificate.covers) [] certificate.trees
        (each_of (HasOperation theory.data_.signature) certificate.trees over.trees))
    by_covers (Some at) wrong = in_covers wrong

-- so it is right or has a first fault
pub certificate_decided : (theory : Theory) (certificate : Certificate) → IsCertificateOver theory.data_.signature certificate
    → IsCertified theory certificate
    ⊎ ((line : ℕ) × (fault : InductionFault) × IsInductionFault theory certificate line fault)
certificate_decided theory certificate over =
    go (certificate_found_wrong theory certificate) (certificate_means theory certificate over)
  where
    go : (found : Found) → CertificateMeans theory certificate found
        → IsCertified theory certificate
        ⊎ ((line : ℕ) × (fault : InductionFault) × IsInductionFault theory certificate line fault)
    go None right = inl right
    go (Some at) fault = inr (at.0, at.1, fault)

-- and what the test finds, it is
pub certificate_is : (theory : Theory) (certificate : Certificate) (found : Found) → IsCertificateOver theory.data_.signature certificate
    → certificate_found_wrong theory certificate ≡ found → CertificateMeans theory certificate found
certificate_is theory certificate found over e =
    subst (CertificateMeans theory certificate) e (certificate_means theory certificate over)
