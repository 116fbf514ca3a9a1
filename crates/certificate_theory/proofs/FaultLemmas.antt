-- A certificate has at most one first fault, and a right one has none.
use Rattle.std.proofs.Common.{◌≡◌, ◌<◌, ℕ, suc, ◌+◌, List, [], ◌∷◌, ◌++◌, length, refl, ap, sym, ◌∙◌, subst, inl, inr}
use Rattle.std.specs.Prelude.{◌⊎◌, slice_get}
use Rattle.std.proofs.lemmas.Option.{same_Some}
use Rattle.lotos_base.specs.Signature.{Signature, Operation}
use Rattle.rewriting_theory.proofs.PairListLemmas.{neither_less}
use Rattle.certificate_theory.specs.InductionCertificate.{Cover, PatternTree, Lemma, Certificate}
use Rattle.certificate_theory.specs.Lines.{DealsWith, nothing_left, line_then, FailsToDeal, line_missing, line_surplus, line_wrong, line_later, AreRightBehind, right_then, FirstIsWrong, wrong_here, wrong_later}
use Rattle.certificate_theory.specs.Covers.{IsListedIn, IsRightCover}
use Rattle.certificate_theory.specs.Faults.{InductionFault, bad_line, no_tree}
use Rattle.certificate_theory.specs.Patterns.{first_pattern, PatternComesTo, IsWrongAtPattern}
use Rattle.certificate_theory.specs.Splits.{Theory}
use Rattle.certificate_theory.specs.Proofs.{CaseComesTo, IsWrongAtCase}
use Rattle.certificate_theory.specs.Certified.{with_trees, IsRightTree, AreComplete, proving_of, IsRightLemma, IsCertified, IsWrongCover, IsWrongTree, IsWrongLemma, lines_of_cover, lines_of_tree, lines_of_lemma, lines_of_trees, LacksTree, IsFirstLack, IsInductionFault, in_covers, in_trees, behind_trees, in_lemmas}
use Rattle.certificate_theory.proofs.OnceLemmas.{patterns_once, pattern_faults_once, pattern_right_or_wrong, cases_once, case_faults_once, case_right_or_wrong}

-- ---- lines

-- A line comes to one thing.
abbrev ComesToOne : {X L : Type 0} → (X → L → List X → Type 0) → Type 0
ComesToOne {X = X} {L = L} ComesTo = (x : X) (line : L) (parts others : List X) → ComesTo x line parts → ComesTo x line others
    → parts ≡ others

-- A line that comes to something is not wrong.
abbrev ComesToOrIsWrong : {X L F : Type 0} → (X → L → List X → Type 0) → (X → L → F → Type 0) → Type 0
ComesToOrIsWrong {X = X} {L = L} {F = F} ComesTo IsWrong = (x : X) (line : L) (parts : List X) (fault : F) → ComesTo x line parts
    → IsWrong x line fault → ⊥

-- A wrong line has one fault.
abbrev HasOneFault : {X L F : Type 0} → (X → L → F → Type 0) → Type 0
HasOneFault {X = X} {L = L} {F = F} IsWrong = (x : X) (line : L) (fault other : F) → IsWrong x line fault → IsWrong x line other
    → fault ≡ other

deals_not_fail : {X L F : Type 0} (ComesTo : X → L → List X → Type 0) (IsWrong : X → L → F → Type 0) {misplaced : F} {xs : List X}
    {lines : List L} {k : ℕ} {fault : F} → ComesToOne ComesTo → ComesToOrIsWrong ComesTo IsWrong → DealsWith ComesTo xs lines
    → FailsToDeal ComesTo IsWrong misplaced xs lines k fault → ⊥
deals_not_fail ComesTo IsWrong one apart nothing_left fails = elim fails [ ]
deals_not_fail ComesTo IsWrong one apart (line_then {x = x} {parts = parts} {line = line} comes rest) (line_wrong {fault = fault} wrong) =
    apart x line parts fault comes wrong
deals_not_fail ComesTo IsWrong one apart (line_then {x = x} {xs = xs} {parts = parts} {line = line} {lines = lines} comes rest)
    (line_later {parts = others} also later) =
    deals_not_fail ComesTo IsWrong one apart
    (subst (λ (left : List _). DealsWith ComesTo (left ++ xs) lines) (one x line parts others comes also) rest) later

fails_once : {X L F : Type 0} (ComesTo : X → L → List X → Type 0) (IsWrong : X → L → F → Type 0) {misplaced : F} {xs : List X}
    {lines : List L} {j k : ℕ} {fault other : F} → ComesToOne ComesTo → ComesToOrIsWrong ComesTo IsWrong → HasOneFault IsWrong
    → FailsToDeal ComesTo IsWrong misplaced xs lines j fault → FailsToDeal ComesTo IsWrong misplaced xs lines k other
    → (j ≡ k) × (fault ≡ other)
fails_once ComesTo IsWrong one apart faults (line_missing e) (line_missing h) = (refl, e ∙ sym h)
fails_once ComesTo IsWrong one apart faults (line_surplus e) (line_surplus h) = (refl, e ∙ sym h)
fails_once ComesTo IsWrong one apart faults (line_wrong {x = x} {line = line} {fault = fault} wrong) (line_wrong {fault = other} also) =
    (refl, faults x line fault other wrong also)
fails_once ComesTo IsWrong one apart faults (line_wrong {x = x} {line = line} {fault = fault} wrong)
    (line_later {parts = parts} comes later) =
    absurd (apart x line parts fault comes wrong)
fails_once ComesTo IsWrong one apart faults (line_later {x = x} {parts = parts} {line = line} comes later)
    (line_wrong {fault = other} wrong) =
    absurd (apart x line parts other comes wrong)
fails_once ComesTo IsWrong {misplaced = misplaced} one apart faults
    (line_later {x = x} {xs = xs} {parts = parts} {line = line} {lines = lines} comes later)
    (line_later {parts = others} {k = k} {fault = other} also after) =
    let rest = fails_once ComesTo IsWrong one apart faults later
    (subst (λ (left : List _). FailsToDeal ComesTo IsWrong misplaced (left ++ xs) lines k other)
    (sym (one x line parts others comes also)) after) in
    (ap (λ (n : ℕ). suc n) rest.0, rest.1)

-- ---- things one after another

right_not_wrong : {X F : Type 0} (IsRight : List X → X → Type 0) (IsWrong : List X → X → ℕ → F → Type 0) {length_of : X → ℕ}
    {begin line : ℕ} {earlier xs : List X} {fault : F}
    → ((before : List X) (x : X) (k : ℕ) (f : F) → IsRight before x → IsWrong before x k f → ⊥)
    → FirstIsWrong IsRight IsWrong length_of begin earlier xs line fault → AreRightBehind IsRight earlier xs → ⊥
right_not_wrong IsRight IsWrong apart (wrong_here {earlier = earlier} {x = x} {fault = fault} k wrong e) (right_then right rest) =
    apart earlier x k fault right wrong
right_not_wrong IsRight IsWrong apart (wrong_later also later) (right_then right rest) =
    right_not_wrong IsRight IsWrong apart later rest

first_wrong_once : {X F : Type 0} (IsRight : List X → X → Type 0) (IsWrong : List X → X → ℕ → F → Type 0) {length_of : X → ℕ}
    {begin line other : ℕ} {earlier xs : List X} {fault fault_there : F}
    → ((before : List X) (x : X) (k : ℕ) (f : F) → IsRight before x → IsWrong before x k f → ⊥)
    → ((before : List X) (x : X) (j k : ℕ) (f g : F) → IsWrong before x j f → IsWrong before x k g → (j ≡ k) × (f ≡ g))
    → FirstIsWrong IsRight IsWrong length_of begin earlier xs line fault
    → FirstIsWrong IsRight IsWrong length_of begin earlier xs other fault_there → (line ≡ other) × (fault ≡ fault_there)
first_wrong_once IsRight IsWrong apart one (wrong_here {begin = begin} {earlier = earlier} {x = x} {fault = fault} j wrong e)
    (wrong_here {fault = fault_there} k also h) =
    let same = one earlier x j k fault fault_there wrong also in
    (e ∙ (ap (λ (n : ℕ). begin + n) same.0 ∙ sym h), same.1)
first_wrong_once IsRight IsWrong apart one (wrong_here {earlier = earlier} {x = x} {fault = fault} j wrong e) (wrong_later right later) =
    absurd (apart earlier x j fault right wrong)
first_wrong_once IsRight IsWrong apart one (wrong_later {earlier = earlier} {x = x} right later)
    (wrong_here {fault = fault_there} k wrong h) =
    absurd (apart earlier x k fault_there right wrong)
first_wrong_once IsRight IsWrong apart one (wrong_later right later) (wrong_later also after) =
    first_wrong_once IsRight IsWrong apart one later after

-- ---- covers, trees, lemmas

cover_apart : (signature : Signature) (earlier : List Cover) (cover : Cover) (k : ℕ) (fault : InductionFault)
    → IsRightCover signature earlier cover → IsWrongCover signature earlier cover k fault → ⊥
cover_apart signature earlier cover k fault right wrong = wrong.0 right

cover_once : (signature : Signature) (earlier : List Cover) (cover : Cover) (j k : ℕ) (fault other : InductionFault)
    → IsWrongCover signature earlier cover j fault → IsWrongCover signature earlier cover k other → (j ≡ k) × (fault ≡ other)
cover_once signature earlier cover j k fault other h g = (h.1 ∙ sym g.1, h.2 ∙ sym g.2)

tree_apart : (theory : Theory) (covers : List Cover) (earlier : List PatternTree) (tree : PatternTree) (k : ℕ) (fault : InductionFault)
    → IsRightTree theory covers earlier tree → IsWrongTree theory covers earlier tree k fault → ⊥
tree_apart theory covers earlier tree k fault right (inl wrong) =
    let none = right.0 in let some = wrong.0 in cc (none, some)
tree_apart theory covers earlier tree k fault right (inr wrong) =
    deals_not_fail (PatternComesTo theory.data_.signature theory.rules covers) (IsWrongAtPattern theory.rules covers)
    (patterns_once theory.data_.signature theory.rules covers)
    (pattern_right_or_wrong theory.data_.signature theory.rules covers) (right.1 wrong.1.0 wrong.1.2) wrong.1.3

tree_once : (theory : Theory) (covers : List Cover) (earlier : List PatternTree) (tree : PatternTree) (j k : ℕ)
    (fault other : InductionFault) → IsWrongTree theory covers earlier tree j fault → IsWrongTree theory covers earlier tree k other
    → (j ≡ k) × (fault ≡ other)
tree_once theory covers earlier tree j k fault other (inl h) (inl g) = (h.1 ∙ sym g.1, h.2 ∙ sym g.2)
tree_once theory covers earlier tree j k fault other (inl h) (inr g) = let some = h.0 in let none = g.0 in absurd (cc (none, some))
tree_once theory covers earlier tree j k fault other (inr h) (inl g) = let none = h.0 in let some = g.0 in absurd (cc (none, some))
tree_once theory covers earlier tree j k fault other (inr (none, (f, i, is, fails, e))) (inr (also, (g, n, there, misses, h))) =
    let same : g ≡ f = same_Some g f (sym there ∙ is) in
    let once = fails_once (PatternComesTo theory.data_.signature theory.rules covers) (IsWrongAtPattern theory.rules covers)
    (patterns_once theory.data_.signature theory.rules covers)
    (pattern_right_or_wrong theory.data_.signature theory.rules covers) (pattern_faults_once theory.rules covers) fails
    (subst (λ (o : Operation). FailsToDeal (PatternComesTo theory.data_.signature theory.rules covers)
    (IsWrongAtPattern theory.rules covers) bad_line
    (first_pattern (record { number = tree.operation; operation = o }) ∷ []) tree.lines n other) same misses) in
    (e ∙ (ap (λ (m : ℕ). suc m) once.0 ∙ sym h), once.1)

lemma_apart : (theory : Theory) (covers : List Cover) (earlier : List Lemma) (lemma : Lemma) (k : ℕ) (fault : InductionFault)
    → IsRightLemma theory covers earlier lemma → IsWrongLemma theory covers earlier lemma k fault → ⊥
lemma_apart theory covers earlier lemma k fault right wrong =
    deals_not_fail (CaseComesTo theory covers (proving_of earlier lemma)) (IsWrongAtCase theory covers (proving_of earlier lemma))
    (cases_once theory covers (proving_of earlier lemma)) (case_right_or_wrong theory covers (proving_of earlier lemma)) right wrong.1

lemma_once : (theory : Theory) (covers : List Cover) (earlier : List Lemma) (lemma : Lemma) (j k : ℕ)
    (fault other : InductionFault) → IsWrongLemma theory covers earlier lemma j fault → IsWrongLemma theory covers earlier lemma k other
    → (j ≡ k) × (fault ≡ other)
lemma_once theory covers earlier lemma j k fault other h g =
    let once = fails_once (CaseComesTo theory covers (proving_of earlier lemma))
    (IsWrongAtCase theory covers (proving_of earlier lemma)) (cases_once theory covers (proving_of earlier lemma))
    (case_right_or_wrong theory covers (proving_of earlier lemma)) (case_faults_once theory covers (proving_of earlier lemma)) h.1 g.1 in
    (h.2 ∙ (ap (λ (m : ℕ). 3 + m) once.0 ∙ sym g.2), once.1)

-- ---- operations without a tree

complete_lacks_none : (signature : Signature) (covers : List Cover) (trees : List PatternTree) (i f : ℕ)
    → AreComplete signature covers trees → IsFirstLack signature covers trees i f → ⊥
complete_lacks_none signature covers trees i f complete lack =
    go (complete i f lack.cover lack.lacks.operation lack.is_cover lack.lacks.is_operation lack.lacks.result)
  where
    go : IsListedIn lack.cover.operations f ⊎ IsListedIn (with_trees trees) f → ⊥
    go (inl some) = let none = lack.lacks.not_covered in cc (none, some)
    go (inr some) = let none = lack.lacks.no_tree in cc (none, some)

-- Which of two numbers is less.
data Compared (j k : ℕ) : Type 0 where
  is_less : j < k → Compared j k
  is_same : j ≡ k → Compared j k
  is_more : k < j → Compared j k

lack_once : (signature : Signature) (covers : List Cover) (trees : List PatternTree) (i f j g : ℕ)
    → IsFirstLack signature covers trees i f → IsFirstLack signature covers trees j g → (i ≡ j) × (f ≡ g)
lack_once signature covers trees i f j g one other = (same, same_operation)
  where
    same : i ≡ j
    same =
        neither_less i j (λ less. other.first_cover i f one.cover less one.is_cover one.lacks)
        (λ less. one.first_cover j g other.cover less other.is_cover other.lacks)

    cover : one.cover ≡ other.cover
    cover = same_Some one.cover other.cover (sym one.is_cover ∙ (ap (λ (n : ℕ). slice_get covers n) same ∙ other.is_cover))

    same_operation : f ≡ g
    same_operation =
        neither_less f g
        (λ less. other.first_operation f less (subst (λ (c : Cover). LacksTree signature trees c f) cover one.lacks))
        (λ less. one.first_operation g less (subst (λ (c : Cover). LacksTree signature trees c g) (sym cover) other.lacks))

-- ---- certificates

module _ (theory : Theory) (certificate : Certificate) where
  covers_apart : {line : ℕ} {fault : InductionFault}
      → AreRightBehind (IsRightCover theory.data_.signature) [] certificate.covers
      → FirstIsWrong (IsRightCover theory.data_.signature) (IsWrongCover theory.data_.signature) lines_of_cover
      1 [] certificate.covers line fault → ⊥
  covers_apart right wrong =
      right_not_wrong (IsRightCover theory.data_.signature) (IsWrongCover theory.data_.signature) (cover_apart theory.data_.signature)
      wrong right

  trees_apart : {line : ℕ} {fault : InductionFault}
      → AreRightBehind (IsRightTree theory certificate.covers) [] certificate.trees
      → FirstIsWrong (IsRightTree theory certificate.covers) (IsWrongTree theory certificate.covers) lines_of_tree
      (1 + length certificate.covers) [] certificate.trees line fault → ⊥
  trees_apart right wrong =
      right_not_wrong (IsRightTree theory certificate.covers) (IsWrongTree theory certificate.covers)
      (tree_apart theory certificate.covers) wrong right

  lemmas_apart : {line : ℕ} {fault : InductionFault}
      → AreRightBehind (IsRightLemma theory certificate.covers) [] certificate.lemmas
      → FirstIsWrong (IsRightLemma theory certificate.covers) (IsWrongLemma theory certificate.covers) lines_of_lemma
      (1 + length certificate.covers + lines_of_trees certificate.trees) [] certificate.lemmas line fault → ⊥
  lemmas_apart right wrong =
      right_not_wrong (IsRightLemma theory certificate.covers) (IsWrongLemma theory certificate.covers)
      (lemma_apart theory certificate.covers) wrong right

  pub right_has_no_fault : (line : ℕ) (fault : InductionFault) → IsCertified theory certificate
      → ¬ IsInductionFault theory certificate line fault
  right_has_no_fault line fault right (in_covers wrong) = covers_apart right.covers wrong
  right_has_no_fault line fault right (in_trees covers wrong) = trees_apart right.trees wrong
  right_has_no_fault line fault right (behind_trees i f covers trees lack e h) =
      complete_lacks_none theory.data_.signature certificate.covers certificate.trees i f right.complete lack
  right_has_no_fault line fault right (in_lemmas covers trees complete wrong) = lemmas_apart right.lemmas wrong

  pub first_fault_once : (line other : ℕ) (fault fault_there : InductionFault) → IsInductionFault theory certificate line fault
      → IsInductionFault theory certificate other fault_there → (line ≡ other) × (fault ≡ fault_there)
  first_fault_once line other fault fault_there (in_covers one) (in_covers two) =
      first_wrong_once (IsRightCover theory.data_.signature) (IsWrongCover theory.data_.signature) (cover_apart theory.data_.signature)
      (cover_once theory.data_.signature) one two
  first_fault_once line other fault fault_there (in_covers one) (in_trees covers two) = absurd (covers_apart covers one)
  first_fault_once line other fault fault_there (in_covers one) (behind_trees i f covers trees lack e h) = absurd (covers_apart covers one)
  first_fault_once line other fault fault_there (in_covers one) (in_lemmas covers trees complete two) = absurd (covers_apart covers one)
  first_fault_once line other fault fault_there (in_trees covers one) (in_covers two) = absurd (covers_apart covers two)
  first_fault_once line other fault fault_there (in_trees covers one) (in_trees also two) =
      first_wrong_once (IsRightTree theory certificate.covers) (IsWrongTree theory certificate.covers)
      (tree_apart theory certificate.covers) (tree_once theory certificate.covers) one two
  first_fault_once line other fault fault_there (in_trees covers one) (behind_trees i f also trees lack e h) =
      absurd (trees_apart trees one)
  first_fault_once line other fault fault_there (in_trees covers one) (in_lemmas also trees complete two) = absurd (trees_apart trees one)
  first_fault_once line other fault fault_there (behind_trees i f covers trees lack e h) (in_covers two) =
      absurd (covers_apart covers two)
  first_fault_once line other fault fault_there (behind_trees i f covers trees lack e h) (in_trees also two) =
      absurd (trees_apart trees two)
  first_fault_once line other fault fault_there (behind_trees i f covers trees lack e h) (behind_trees j g also too more d k) =
      let same = lack_once theory.data_.signature certificate.covers certificate.trees i f j g lack more in
      (e ∙ (ap (λ (n : ℕ). suc n) same.0 ∙ sym d), h ∙ (ap no_tree same.1 ∙ sym k))
  first_fault_once line other fault fault_there (behind_trees i f covers trees lack e h) (in_lemmas also too complete two) =
      absurd (complete_lacks_none theory.data_.signature certificate.covers certificate.trees i f complete lack)
  first_fault_once line other fault fault_there (in_lemmas covers trees complete one) (in_covers two) = absurd (covers_apart covers two)
  first_fault_once line other fault fault_there (in_lemmas covers trees complete one) (in_trees also two) = absurd (trees_apart trees two)
  first_fault_once line other fault fault_there (in_lemmas covers trees complete one) (behind_trees i f also too lack e h) =
      absurd (complete_lacks_none theory.data_.signature certificate.covers certificate.trees i f complete lack)
  first_fault_once line other fault fault_there (in_lemmas covers trees complete one) (in_lemmas also too complete_there two) =
      first_wrong_once (IsRightLemma theory certificate.covers) (IsWrongLemma theory certificate.covers)
      (lemma_apart theory certificate.covers) (lemma_once theory certificate.covers) one two
