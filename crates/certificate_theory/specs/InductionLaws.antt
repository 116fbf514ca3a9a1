-- Laws of certificates of induction: what a right one shows, that a certificate is right or has one first fault, and what a
-- requirement that is met comes to.
use Rattle.std.specs.Prelude.{◌≡◌, ◌⊎◌, ℕ, ◌+◌, List, ◌++◌, Some, slice_get, length}
use Rattle.lotos_base.specs.Signature.{Signature}
use Rattle.lotos_base.specs.Equation.{Equation, IsGroundInstance}
use Rattle.lotos_base.specs.Substitution.{Substitution, substituted}
use Rattle.lotos_base.specs.Equality.{Equal}
use Rattle.rewriting_theory.specs.Rule.{Rule}
use Rattle.certificate_theory.specs.InductionCertificate.{Cover, TreeLine, ProofLine, Lemma, Certificate}
use Rattle.certificate_theory.specs.Lines.{DealsWith, LinesReach, FailsToDeal}
use Rattle.certificate_theory.specs.Covers.{IsCoveredBy}
use Rattle.certificate_theory.specs.Faults.{InductionFault, bad_line}
use Rattle.certificate_theory.specs.Patterns.{Pattern, PatternComesTo, IsWrongAtPattern}
use Rattle.certificate_theory.specs.Splits.{Theory, Case, Proving}
use Rattle.certificate_theory.specs.Proofs.{CaseComesTo, IsWrongAtCase}
use Rattle.certificate_theory.specs.Certified.{IsFit, IsCertificateOver, IsCertified, IsInductionFault}
use Rattle.certificate_theory.specs.Requirements.{HoldsByInduction, IsMetBy, IsLeftOpen}

-- in a right certificate the sort of each cover is covered by its operations
abbrev pub CoversHold : Type 0
CoversHold = (theory : Theory) (certificate : Certificate) (i : ℕ) (cover : Cover) → IsFit theory
    → IsCertificateOver theory.data_.signature certificate → IsCertified theory certificate
    → slice_get certificate.covers i ≡ Some cover
    → IsCoveredBy theory.data_.signature theory.rules cover.sort cover.operations

-- and each lemma holds at all ground values: its sides are equal by what the equations derive
abbrev pub LemmasHold : Type 0
LemmasHold = (theory : Theory) (certificate : Certificate) (i : ℕ) (lemma : Lemma) → IsFit theory
    → IsCertificateOver theory.data_.signature certificate → IsCertified theory certificate
    → slice_get certificate.lemmas i ≡ Some lemma → HoldsByInduction theory.data_ lemma.statement

-- so each ground instance of a requirement that is met is an equality
abbrev pub MetRequirementsHold : Type 0
MetRequirementsHold = (theory : Theory) (certificate : Certificate) (equation : Equation) (k : ℕ) (values : Substitution)
    → IsFit theory → IsCertificateOver theory.data_.signature certificate → IsCertified theory certificate
    → IsMetBy certificate.lemmas equation k → IsGroundInstance theory.data_.signature equation values
    → Equal theory.data_ (substituted values equation.left) (substituted values equation.right)

-- a requirement is met by at most one lemma, and is then not open
abbrev pub RequirementsAreMetOnce : Type 0
RequirementsAreMetOnce = (certificate : Certificate) (equation : Equation) (j k : ℕ) → IsMetBy certificate.lemmas equation j
    → IsMetBy certificate.lemmas equation k → j ≡ k

abbrev pub MetIsNotOpen : Type 0
MetIsNotOpen = (certificate : Certificate) (equation : Equation) (k : ℕ) → IsMetBy certificate.lemmas equation k
    → ¬ IsLeftOpen certificate.lemmas equation

-- a certificate has at most one first fault
abbrev pub FirstFaultsAreOne : Type 0
FirstFaultsAreOne = (theory : Theory) (certificate : Certificate) (line other : ℕ) (fault fault_there : InductionFault)
    → IsInductionFault theory certificate line fault → IsInductionFault theory certificate other fault_there
    → (line ≡ other) × (fault ≡ fault_there)

-- and a right one has none
abbrev pub RightOnesHaveNoFault : Type 0
RightOnesHaveNoFault = (theory : Theory) (certificate : Certificate) (line : ℕ) (fault : InductionFault)
    → IsCertified theory certificate → ¬ IsInductionFault theory certificate line fault

-- each certificate over the signature is right or has a first fault
abbrev pub CertificatesAreDecided : Type 0
CertificatesAreDecided = (theory : Theory) (certificate : Certificate)
    → IsCertificateOver theory.data_.signature certificate
    → IsCertified theory certificate
    ⊎ ((line : ℕ) × (fault : InductionFault) × IsInductionFault theory certificate line fault)

-- lines that go on where others of a proof have led deal with what these began with, or fail at their place among all
abbrev pub ProofLinesGoOn : Type 0
ProofLinesGoOn = (theory : Theory) (covers : List Cover) (proving : Proving) (before behind : List Case) (read rest : List ProofLine)
    → LinesReach (CaseComesTo theory covers proving) before read behind
    → DealsWith (CaseComesTo theory covers proving) behind rest → DealsWith (CaseComesTo theory covers proving) before (read ++ rest)

abbrev pub ProofFaultsGoOn : Type 0
ProofFaultsGoOn = (theory : Theory) (covers : List Cover) (proving : Proving) (before behind : List Case) (read rest : List ProofLine)
    (k : ℕ) (fault : InductionFault) → LinesReach (CaseComesTo theory covers proving) before read behind
    → FailsToDeal (CaseComesTo theory covers proving) (IsWrongAtCase theory covers proving) bad_line behind rest k fault
    → FailsToDeal (CaseComesTo theory covers proving) (IsWrongAtCase theory covers proving) bad_line before (read ++ rest)
    (length read + k) fault

-- and likewise of a tree
abbrev pub TreeLinesGoOn : Type 0
TreeLinesGoOn = (signature : Signature) (rules : List Rule) (covers : List Cover) (before behind : List Pattern)
    (read rest : List TreeLine) → LinesReach (PatternComesTo signature rules covers) before read behind
    → DealsWith (PatternComesTo signature rules covers) behind rest
    → DealsWith (PatternComesTo signature rules covers) before (read ++ rest)

abbrev pub TreeFaultsGoOn : Type 0
TreeFaultsGoOn = (signature : Signature) (rules : List Rule) (covers : List Cover) (before behind : List Pattern)
    (read rest : List TreeLine) (k : ℕ) (fault : InductionFault)
    → LinesReach (PatternComesTo signature rules covers) before read behind
    → FailsToDeal (PatternComesTo signature rules covers) (IsWrongAtPattern rules covers) bad_line behind rest k fault
    → FailsToDeal (PatternComesTo signature rules covers) (IsWrongAtPattern rules covers) bad_line before (read ++ rest)
    (length read + k) fault
