-- Right certificates, and the first fault of one that is not right.
use Rattle.std.specs.Prelude.{◌≡◌, ◌⊎◌, ◌<◌, ◌+◌, ℕ, suc, List, [], ◌∷◌, map, Some, slice_get, length, IsFalse}
use Rattle.lotos_base.specs.Signature.{Signature, Operation, IsSort, IsOperation, IsWellFormedSignature}
use Rattle.lotos_base.specs.Sorting.{HasSort, Occurs}
use Rattle.lotos_base.specs.Substitution.{is_listed}
use Rattle.lotos_base.specs.Canon.{IsCanon}
use Rattle.rewriting_theory.specs.Rule.{AreSortedRulesOf}
use Rattle.rewriting_theory.specs.Rewriting.{Terminates}
use Rattle.certificate_theory.specs.InductionCertificate.{Cover, PatternTree, Statement, Lemma, Certificate}
use Rattle.certificate_theory.specs.Lines.{DealsWith, FailsToDeal, AreRightBehind, FirstIsWrong}
use Rattle.certificate_theory.specs.Covers.{IsListedIn, IsRightCover}
use Rattle.certificate_theory.specs.Faults.{InductionFault, bad_line, no_tree}
use Rattle.certificate_theory.specs.Patterns.{first_pattern, PatternComesTo, IsWrongAtPattern}
use Rattle.certificate_theory.specs.Splits.{Theory, Proving, first_case}
use Rattle.certificate_theory.specs.Proofs.{CaseComesTo, IsWrongAtCase}

-- What is asked of the data: a well-formed signature, rules of the data by which rewriting ends, and a function that is a
-- canon of the data.
pub record IsFit (theory : Theory) : Type 0 where
  pub signature : IsWellFormedSignature theory.data_.signature
  pub rules : AreSortedRulesOf theory.data_ theory.rules
  pub ends : Terminates theory.rules
  pub canon : IsCanon theory.data_ theory.canon

-- ---- What a certificate that was read is

-- The lemma is stated over the signature: both sides have one sort, and each variable that occurs in a side has the sort that
-- is listed for it, which is one of the signature.
pub record IsStated (signature : Signature) (lemma : Lemma) : Type 0 where
  pub sort : ℕ
  pub left : HasSort signature lemma.statement.left sort
  pub right : HasSort signature lemma.statement.right sort
  pub left_listed : (n s : ℕ) → Occurs n s lemma.statement.left → slice_get lemma.variables n ≡ Some s
  pub right_listed : (n s : ℕ) → Occurs n s lemma.statement.right → slice_get lemma.variables n ≡ Some s
  pub sorts : (n s : ℕ) → slice_get lemma.variables n ≡ Some s → IsSort signature s

-- The certificate is one over the signature: its trees are those of operations, and its lemmas are stated.
pub record IsCertificateOver (signature : Signature) (certificate : Certificate) : Type 0 where
  pub trees : (i : ℕ) (tree : PatternTree) → slice_get certificate.trees i ≡ Some tree
      → (operation : Operation) × IsOperation signature tree.operation operation
  pub lemmas : (i : ℕ) (lemma : Lemma) → slice_get certificate.lemmas i ≡ Some lemma → IsStated signature lemma

-- ---- Right certificates

-- The operations that have a tree.
abbrev pub with_trees : List PatternTree → List ℕ
with_trees trees = map (λ (tree : PatternTree). tree.operation) trees

-- The tree is right behind others: its operation has none yet, and its lines deal with the operation on variables.
abbrev pub IsRightTree : Theory → List Cover → List PatternTree → PatternTree → Type 0
IsRightTree theory covers earlier tree =
    IsFalse (is_listed (with_trees earlier) tree.operation)
    × ((operation : Operation) → IsOperation theory.data_.signature tree.operation operation
    → DealsWith (PatternComesTo theory.data_.signature theory.rules covers)
    (first_pattern (record { number = tree.operation; operation = operation }) ∷ []) tree.lines)

-- Each operation with the result of a covered sort is in its cover or has a tree.
abbrev pub AreComplete : Signature → List Cover → List PatternTree → Type 0
AreComplete signature covers trees = (i f : ℕ) (cover : Cover) (operation : Operation) → slice_get covers i ≡ Some cover
    → IsOperation signature f operation → operation.result ≡ cover.sort
    → IsListedIn cover.operations f ⊎ IsListedIn (with_trees trees) f

-- The statements of lemmas.
abbrev pub statements_of : List Lemma → List Statement
statements_of lemmas = map (λ (lemma : Lemma). lemma.statement) lemmas

-- What stays the same in the proof of a lemma behind others.
abbrev pub proving_of : List Lemma → Lemma → Proving
proving_of earlier lemma = record { earlier = statements_of earlier; free = length lemma.variables }

-- The lemma is right behind others: its lines deal with its first case.
abbrev pub IsRightLemma : Theory → List Cover → List Lemma → Lemma → Type 0
IsRightLemma theory covers earlier lemma =
    DealsWith (CaseComesTo theory covers (proving_of earlier lemma)) (first_case theory lemma ∷ []) lemma.lines

-- The certificate is right: each cover, each tree and each lemma is, and the covers and trees are complete.
pub record IsCertified (theory : Theory) (certificate : Certificate) : Type 0 where
  pub covers : AreRightBehind (IsRightCover theory.data_.signature) [] certificate.covers
  pub trees : AreRightBehind (IsRightTree theory certificate.covers) [] certificate.trees
  pub complete : AreComplete theory.data_.signature certificate.covers certificate.trees
  pub lemmas : AreRightBehind (IsRightLemma theory certificate.covers) [] certificate.lemmas

-- ---- The first fault

-- The cover is not right.
abbrev pub IsWrongCover : Signature → List Cover → Cover → ℕ → InductionFault → Type 0
IsWrongCover signature earlier cover k fault = (¬ IsRightCover signature earlier cover) × (k ≡ 0) × (fault ≡ bad_line)

-- The tree is wrong at this line, where its own line has the number 0: its operation has a tree, or its lines fail.
abbrev pub IsWrongTree : Theory → List Cover → List PatternTree → PatternTree → ℕ → InductionFault → Type 0
IsWrongTree theory covers earlier tree k fault =
    (IsListedIn (with_trees earlier) tree.operation × (k ≡ 0) × (fault ≡ bad_line))
    ⊎ (IsFalse (is_listed (with_trees earlier) tree.operation)
    × ((operation : Operation) × (j : ℕ) × IsOperation theory.data_.signature tree.operation operation
    × FailsToDeal (PatternComesTo theory.data_.signature theory.rules covers) (IsWrongAtPattern theory.rules covers) bad_line
    (first_pattern (record { number = tree.operation; operation = operation }) ∷ []) tree.lines j fault × (k ≡ suc j)))

-- The lemma is wrong at this line, where its own line has the number 0 and those of its sides have 1 and 2.
abbrev pub IsWrongLemma : Theory → List Cover → List Lemma → Lemma → ℕ → InductionFault → Type 0
IsWrongLemma theory covers earlier lemma k fault =
    (j : ℕ) × FailsToDeal (CaseComesTo theory covers (proving_of earlier lemma))
    (IsWrongAtCase theory covers (proving_of earlier lemma)) bad_line
    (first_case theory lemma ∷ []) lemma.lines j fault × (k ≡ 3 + j)

-- The numbers of lines that each of them takes.
abbrev pub lines_of_cover : Cover → ℕ
lines_of_cover cover = 1

abbrev pub lines_of_tree : PatternTree → ℕ
lines_of_tree tree = suc (length tree.lines)

abbrev pub lines_of_lemma : Lemma → ℕ
lines_of_lemma lemma = 3 + length lemma.lines

abbrev pub lines_of_trees : List PatternTree → ℕ
lines_of_trees [] = 0
lines_of_trees (tree ∷ trees) = lines_of_tree tree + lines_of_trees trees

-- The operation with this number has the result of the cover, and is neither in it nor has a tree.
pub record LacksTree (signature : Signature) (trees : List PatternTree) (cover : Cover) (f : ℕ) : Type 0 where
  pub operation : Operation
  pub is_operation : IsOperation signature f operation
  pub result : operation.result ≡ cover.sort
  pub not_covered : IsFalse (is_listed cover.operations f)
  pub no_tree : IsFalse (is_listed (with_trees trees) f)

-- The cover with this number is the first that lacks a tree, and the operation the first of the signature that it lacks one of.
pub record IsFirstLack (signature : Signature) (covers : List Cover) (trees : List PatternTree) (i f : ℕ) : Type 0 where
  pub cover : Cover
  pub is_cover : slice_get covers i ≡ Some cover
  pub lacks : LacksTree signature trees cover f
  pub first_operation : (g : ℕ) → g < f → ¬ LacksTree signature trees cover g
  pub first_cover : (j g : ℕ) (earlier : Cover) → j < i → slice_get covers j ≡ Some earlier
      → ¬ LacksTree signature trees earlier g

-- The first fault of the certificate stands at this line, counted from 1. Covers, trees and lemmas are looked at in their
-- order; that an operation lacks a tree, which stands at the line of the cover, is looked at behind the trees.
pub data IsInductionFault (theory : Theory) (certificate : Certificate) : ℕ → InductionFault → Type 0 where
  in_covers : {line : ℕ} {fault : InductionFault}
      → FirstIsWrong (IsRightCover theory.data_.signature) (IsWrongCover theory.data_.signature) lines_of_cover
      1 [] certificate.covers line fault
      → IsInductionFault theory certificate line fault
  in_trees : {line : ℕ} {fault : InductionFault}
      → AreRightBehind (IsRightCover theory.data_.signature) [] certificate.covers
      → FirstIsWrong (IsRightTree theory certificate.covers) (IsWrongTree theory certificate.covers) lines_of_tree
      (1 + length certificate.covers) [] certificate.trees line fault
      → IsInductionFault theory certificate line fault
  behind_trees : {line : ℕ} {fault : InductionFault} (i f : ℕ)
      → AreRightBehind (IsRightCover theory.data_.signature) [] certificate.covers
      → AreRightBehind (IsRightTree theory certificate.covers) [] certificate.trees
      → IsFirstLack theory.data_.signature certificate.covers certificate.trees i f
      → line ≡ suc i → fault ≡ no_tree f → IsInductionFault theory certificate line fault
  in_lemmas : {line : ℕ} {fault : InductionFault}
      → AreRightBehind (IsRightCover theory.data_.signature) [] certificate.covers
      → AreRightBehind (IsRightTree theory certificate.covers) [] certificate.trees
      → AreComplete theory.data_.signature certificate.covers certificate.trees
      → FirstIsWrong (IsRightLemma theory certificate.covers) (IsWrongLemma theory certificate.covers) lines_of_lemma
      (1 + length certificate.covers + lines_of_trees certificate.trees) [] certificate.lemmas line fault
      → IsInductionFault theory certificate line fault
