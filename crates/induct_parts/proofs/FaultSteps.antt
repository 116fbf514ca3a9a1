-- From the faults of covers, trees and lemmas to the first fault of a certificate, and from right ones to a right certificate.
use Rattle.std.proofs.Common.{◌≡◌, ℕ, suc, ◌+◌, [], length}
use Rattle.certificate_theory.specs.InductionCertificate.{Certificate}
use Rattle.certificate_theory.specs.Covers.{IsRightCover}
use Rattle.certificate_theory.specs.Faults.{no_tree}
use Rattle.certificate_theory.specs.Lines.{AreRightBehind, FirstIsWrong}
use Rattle.certificate_theory.specs.Splits.{Theory}
use Rattle.certificate_theory.specs.Certified.{IsFit, IsCertificateOver, IsWrongCover, IsRightTree, IsWrongTree, IsRightLemma, IsWrongLemma, AreComplete, IsCertified, IsFirstLack, IsInductionFault, in_covers, in_trees, behind_trees, in_lemmas, lines_of_cover, lines_of_tree, lines_of_trees, lines_of_lemma}
use Rattle.certificate_theory.proofs.LemmasHold.{covers_hold, lemmas_hold}
use Rattle.induct_parts.specs.FaultView.{HoldsAtLine}
use Rattle.induct_parts.specs.SettingView.{AllCovered, AllLemmasHold}
use Rattle.induct_parts.specs.declared.at_line.AtLine.{AtLine}
use Rattle.induct_parts.proofs.LineSteps.{fault_more}

module _ (theory : Theory) (certificate : Certificate) where
  pub covers_fault : (at : AtLine)
      → HoldsAtLine (FirstIsWrong (IsRightCover theory.data_.signature) (IsWrongCover theory.data_.signature) lines_of_cover 1 []
      certificate.covers) at
      → HoldsAtLine (IsInductionFault theory certificate) at
  covers_fault at wrong =
      fault_more
      (FirstIsWrong (IsRightCover theory.data_.signature) (IsWrongCover theory.data_.signature) lines_of_cover 1 [] certificate.covers
      at.line)
      (IsInductionFault theory certificate at.line) (λ fault w. in_covers w) at.fault wrong

  pub trees_fault : (at : AtLine) → AreRightBehind (IsRightCover theory.data_.signature) [] certificate.covers
      → HoldsAtLine (FirstIsWrong (IsRightTree theory certificate.covers) (IsWrongTree theory certificate.covers) lines_of_tree
      (1 + length certificate.covers) [] certificate.trees) at
      → HoldsAtLine (IsInductionFault theory certificate) at
  trees_fault at covers wrong =
      fault_more
      (FirstIsWrong (IsRightTree theory certificate.covers) (IsWrongTree theory certificate.covers) lines_of_tree
      (1 + length certificate.covers) [] certificate.trees at.line)
      (IsInductionFault theory certificate at.line) (λ fault w. in_trees covers w) at.fault wrong

  pub lack_fault : (at : AtLine) → AreRightBehind (IsRightCover theory.data_.signature) [] certificate.covers
      → AreRightBehind (IsRightTree theory certificate.covers) [] certificate.trees
      → HoldsAtLine (λ line fault. (i : ℕ) × (f : ℕ)
      × IsFirstLack theory.data_.signature certificate.covers certificate.trees i f × (line ≡ suc i) × (fault ≡ no_tree f)) at
      → HoldsAtLine (IsInductionFault theory certificate) at
  lack_fault at covers trees wrong =
      fault_more
      (λ fault. (i : ℕ) × (f : ℕ) × IsFirstLack theory.data_.signature certificate.covers certificate.trees i f × (at.line ≡ suc i)
      × (fault ≡ no_tree f))
      (IsInductionFault theory certificate at.line) (λ fault w. behind_trees w.0 w.1 covers trees w.2 w.3 w.4) at.fault wrong

  pub lemmas_fault : (at : AtLine) → AreRightBehind (IsRightCover theory.data_.signature) [] certificate.covers
      → AreRightBehind (IsRightTree theory certificate.covers) [] certificate.trees
      → AreComplete theory.data_.signature certificate.covers certificate.trees
      → HoldsAtLine (FirstIsWrong (IsRightLemma theory certificate.covers) (IsWrongLemma theory certificate.covers) lines_of_lemma
      (1 + length certificate.covers + lines_of_trees certificate.trees) [] certificate.lemmas) at
      → HoldsAtLine (IsInductionFault theory certificate) at
  lemmas_fault at covers trees complete wrong =
      fault_more
      (FirstIsWrong (IsRightLemma theory certificate.covers) (IsWrongLemma theory certificate.covers) lines_of_lemma
      (1 + length certificate.covers + lines_of_trees certificate.trees) [] certificate.lemmas at.line)
      (IsInductionFault theory certificate at.line) (λ fault w. in_lemmas covers trees complete w) at.fault wrong

  pub all_covered : IsFit theory → IsCertificateOver theory.data_.signature certificate → IsCertified theory certificate
      → AllCovered theory.data_.signature theory.rules certificate.covers
  all_covered fit over certified i cover at = covers_hold theory certificate i cover fit over certified at

  pub all_hold : IsFit theory → IsCertificateOver theory.data_.signature certificate → IsCertified theory certificate
      → AllLemmasHold theory.data_ certificate.lemmas
  all_hold fit over certified i lemma at = lemmas_hold theory certificate i lemma fit over certified at
