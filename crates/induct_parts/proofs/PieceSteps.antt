-- Trees and lemmas as pieces of a certificate: from the lines that deal with their first pattern or case.
use Rattle.std.proofs.Common.{◌≡◌, ℕ, suc, ◌+◌, List, [], ◌∷◌, true, refl, subst, inl, inr, arith}
use Rattle.std.specs.Prelude.{IsFalse}
use Rattle.lotos_base.specs.Signature.{Operation, IsOperation}
use Rattle.lotos_base.specs.Substitution.{is_listed}
use Rattle.certificate_theory.specs.InductionCertificate.{Cover, TreeLine, PatternTree, ProofLine, Lemma}
use Rattle.certificate_theory.specs.Faults.{InductionFault, bad_line}
use Rattle.certificate_theory.specs.Lines.{DealsWith, FailsToDeal}
use Rattle.certificate_theory.specs.Patterns.{Pattern, PatternComesTo, IsWrongAtPattern, first_pattern}
use Rattle.certificate_theory.specs.Proofs.{CaseComesTo, IsWrongAtCase}
use Rattle.certificate_theory.specs.Splits.{Theory, Case, Proving, first_case}
use Rattle.certificate_theory.specs.Certified.{with_trees, proving_of, IsRightTree, IsWrongTree, IsRightLemma, IsWrongLemma}
use Rattle.induct_parts.specs.FaultView.{HoldsOfLineFault, FromLine}
use Rattle.induct_parts.specs.declared.line_fault.LineFault.{LineFault}
use Rattle.induct_parts.specs.declared.line_fault.LineFault.TheVariants.{BadLine}
use Rattle.induct_parts.proofs.LineSteps.{fault_more}

-- ---- trees

-- the first pattern is that of the tree's operation
abbrev pub IsFirstPattern : Theory → ℕ → Pattern → Type 0
IsFirstPattern theory f first =
    (o : Operation) → IsOperation theory.data_.signature f o → first ≡ first_pattern (record { number = f; operation = o })

pub tree_right : (theory : Theory) (covers : List Cover) (earlier : List PatternTree) (tree : PatternTree) (first : Pattern)
    (lines : List TreeLine) → IsFalse (is_listed (with_trees earlier) tree.operation) → IsFirstPattern theory tree.operation first
    → lines ≡ tree.lines → DealsWith (PatternComesTo theory.data_.signature theory.rules covers) (first ∷ []) lines
    → IsRightTree theory covers earlier tree
tree_right theory covers earlier tree first lines none is same deals = (
  none,
  (λ o at. subst (λ (p : Pattern). DealsWith (PatternComesTo theory.data_.signature theory.rules covers) (p ∷ []) tree.lines) (is o at)
      (subst (λ (ls : List TreeLine). DealsWith (PatternComesTo theory.data_.signature theory.rules covers) (first ∷ []) ls) same deals)),
)

pub tree_wrong : (theory : Theory) (covers : List Cover) (earlier : List PatternTree) (tree : PatternTree) (first : Pattern)
    (lines : List TreeLine) (o : Operation) (begin line : ℕ) (fault : LineFault)
    → IsFalse (is_listed (with_trees earlier) tree.operation) → IsFirstPattern theory tree.operation first
    → IsOperation theory.data_.signature tree.operation o → lines ≡ tree.lines
    → HoldsOfLineFault (FromLine (begin + 1) (FailsToDeal (PatternComesTo theory.data_.signature theory.rules covers)
    (IsWrongAtPattern theory.rules covers) bad_line (first ∷ []) lines) line) fault
    → HoldsOfLineFault (FromLine begin (IsWrongTree theory covers earlier tree) line) fault
tree_wrong theory covers earlier tree first lines o begin line fault none is at same wrong =
    fault_more
    (FromLine (begin + 1) (FailsToDeal (PatternComesTo theory.data_.signature theory.rules covers) (IsWrongAtPattern theory.rules covers)
    bad_line (first ∷ []) lines) line)
    (FromLine begin (IsWrongTree theory covers earlier tree) line)
    (λ told h.
    let place = h.2 in
    let here : line ≡ begin + suc h.0 = omega (arith, place) in (
      suc h.0,
      inr (none, (o, h.0, at, fails told h.0 h.1, refl)),
      here,
    ))
    fault wrong
  where
    fails : (told : InductionFault) (k : ℕ)
        → FailsToDeal (PatternComesTo theory.data_.signature theory.rules covers) (IsWrongAtPattern theory.rules covers) bad_line
        (first ∷ []) lines k told
        → FailsToDeal (PatternComesTo theory.data_.signature theory.rules covers) (IsWrongAtPattern theory.rules covers) bad_line
        (first_pattern (record { number = tree.operation; operation = o }) ∷ []) tree.lines k told
    fails told k f =
        subst (λ (p : Pattern). FailsToDeal (PatternComesTo theory.data_.signature theory.rules covers)
        (IsWrongAtPattern theory.rules covers) bad_line (p ∷ []) tree.lines k told) (is o at)
        (subst (λ (ls : List TreeLine). FailsToDeal (PatternComesTo theory.data_.signature theory.rules covers)
        (IsWrongAtPattern theory.rules covers) bad_line (first ∷ []) ls k told) same f)

-- a second tree of an operation is wrong at its first line
pub second_tree : (theory : Theory) (covers : List Cover) (earlier : List PatternTree) (tree : PatternTree) (begin : ℕ)
    → is_listed (with_trees earlier) tree.operation ≡ true
    → HoldsOfLineFault (FromLine begin (IsWrongTree theory covers earlier tree) begin) BadLine
second_tree theory covers earlier tree begin listed =
    let here : begin ≡ begin + 0 = omega arith in (0, inl (listed, refl, refl), here)

-- ---- lemmas

pub lemma_right : (theory : Theory) (covers : List Cover) (earlier : List Lemma) (lemma : Lemma) (proving : Proving) (first : Case)
    (lines : List ProofLine) → proving ≡ proving_of earlier lemma → first ≡ first_case theory lemma → lines ≡ lemma.lines
    → DealsWith (CaseComesTo theory covers proving) (first ∷ []) lines → IsRightLemma theory covers earlier lemma
lemma_right theory covers earlier lemma proving first lines is begins same deals =
    subst (λ (p : Proving). DealsWith (CaseComesTo theory covers p) (first_case theory lemma ∷ []) lemma.lines) is
    (subst (λ (c : Case). DealsWith (CaseComesTo theory covers proving) (c ∷ []) lemma.lines) begins
    (subst (λ (ls : List ProofLine). DealsWith (CaseComesTo theory covers proving) (first ∷ []) ls) same deals))

pub lemma_wrong : (theory : Theory) (covers : List Cover) (earlier : List Lemma) (lemma : Lemma) (proving : Proving) (first : Case)
    (lines : List ProofLine) (begin line : ℕ) (fault : LineFault) → proving ≡ proving_of earlier lemma
    → first ≡ first_case theory lemma → lines ≡ lemma.lines
    → HoldsOfLineFault (FromLine (begin + 3) (FailsToDeal (CaseComesTo theory covers proving) (IsWrongAtCase theory covers proving) bad_line
    (first ∷ []) lines) line) fault
    → HoldsOfLineFault (FromLine begin (IsWrongLemma theory covers earlier lemma) line) fault
lemma_wrong theory covers earlier lemma proving first lines begin line fault is begins same wrong =
    fault_more
    (FromLine (begin + 3) (FailsToDeal (CaseComesTo theory covers proving) (IsWrongAtCase theory covers proving) bad_line (first ∷ [])
    lines) line)
    (FromLine begin (IsWrongLemma theory covers earlier lemma) line)
    (λ told h.
    let place = h.2 in
    let here : line ≡ begin + (3 + h.0) = omega (arith, place) in
    (3 + h.0, (h.0, fails told h.0 h.1, refl), here))
    fault wrong
  where
    fails : (told : InductionFault) (k : ℕ)
        → FailsToDeal (CaseComesTo theory covers proving) (IsWrongAtCase theory covers proving) bad_line (first ∷ []) lines k told
        → FailsToDeal (CaseComesTo theory covers (proving_of earlier lemma)) (IsWrongAtCase theory covers (proving_of earlier lemma))
        bad_line (first_case theory lemma ∷ []) lemma.lines k told
    fails told k f =
        subst (λ (p : Proving). FailsToDeal (CaseComesTo theory covers p) (IsWrongAtCase theory covers p) bad_line
        (first_case theory lemma ∷ []) lemma.lines k told) is
        (subst (λ (c : Case). FailsToDeal (CaseComesTo theory covers proving) (IsWrongAtCase theory covers proving) bad_line (c ∷ [])
        lemma.lines k told) begins
        (subst (λ (ls : List ProofLine). FailsToDeal (CaseComesTo theory covers proving) (IsWrongAtCase theory covers proving) bad_line
        (first ∷ []) ls k told) same f))
