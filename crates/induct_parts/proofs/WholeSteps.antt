-- The whole certificate: from what the code tells of covers, trees and lemmas, over its own signature, to what is told of it.
use Rattle.std.proofs.Common.{◌≡◌, ◌+◌, ◌≤◌, ◌<◌, ◌^◌, ℕ, List, length, ap, sym, ◌∙◌, subst, arith}
use Rattle.std.proofs.lemmas.List.{length-map}
use Rattle.lotos_base.specs.Equation.{Data}
use Rattle.lotos_base.specs.Signature.{Signature}
use Rattle.lotos_base.specs.Term.{Term}
use Rattle.path_order.specs.RulesView.{plain_rules_in}
use Rattle.certificate_theory.specs.InductionCertificate.{Certificate}
use Rattle.certificate_theory.specs.Splits.{Theory}
use Rattle.certificate_theory.specs.Certified.{IsFit, IsCertificateOver, IsCertified, IsInductionFault, lines_of_trees}
use Rattle.induct_parts.specs.CertificateView.{certificate_in, covers_in, trees_in, lemmas_in, cover_in, lines_of_certificate, lines_of_lemmas}
use Rattle.induct_parts.specs.FaultView.{HoldsAtLine}
use Rattle.induct_parts.specs.SettingView.{setting_signature, theory_in, IsKnownCertificate, known_theory, AllCovered, AllLemmasHold}
use Rattle.induct_parts.specs.declared.at_line.AtLine.{AtLine}
use Rattle.induct_parts.specs.declared.certificates.Certificate.{Certificate as CodeCertificate}
use Rattle.induct_parts.specs.declared.certificates.Cover.{Cover as CodeCover}
use Rattle.induct_parts.specs.declared.certificates.PatternTree.{PatternTree as CodeTree}
use Rattle.induct_parts.specs.declared.certificates.StatedLemma.{StatedLemma}
use Rattle.induct_parts.specs.declared.setting.Setting.{Setting}
use Rattle.induct_parts.proofs.CertificateSteps.{one_theory, known_over}
use Rattle.induct_parts.proofs.FaultSteps.{all_covered, all_hold}

-- the certificate of these lists
abbrev pub of_lists : List CodeCover → List CodeTree → List StatedLemma → Certificate
of_lists covers trees lemmas = record { covers = covers_in covers; trees = trees_in trees; lemmas = lemmas_in lemmas }

pub lists_are : (certificate : CodeCertificate) (covers : List CodeCover) (trees : List CodeTree) (lemmas : List StatedLemma)
    → covers ≡ certificate.covers.items → trees ≡ certificate.trees.items → lemmas ≡ certificate.lemmas.items
    → of_lists covers trees lemmas ≡ certificate_in certificate
lists_are certificate covers trees lemmas c t l = λ i. of_lists (c i) (t i) (l i)

module _ (setting : Setting) (data_ : Data) (canon : Term → Term) (e : setting_signature setting ≡ data_.signature)
    (certificate : CodeCertificate) (other : Certificate) (same : other ≡ certificate_in certificate) where
  pub fault_known : (at : AtLine) → HoldsAtLine (IsInductionFault (theory_in setting data_ canon) other) at
      → HoldsAtLine (IsInductionFault (known_theory data_ setting.rules.now canon) (certificate_in certificate)) at
  fault_known at h =
      subst (λ (theory : Theory). HoldsAtLine (IsInductionFault theory (certificate_in certificate)) at) (one_theory setting data_ canon e)
      (subst (λ (c : Certificate). HoldsAtLine (IsInductionFault (theory_in setting data_ canon) c) at) same h)

  pub certified_known : IsCertified (theory_in setting data_ canon) other
      → IsCertified (known_theory data_ setting.rules.now canon) (certificate_in certificate)
  certified_known h =
      subst (λ (theory : Theory). IsCertified theory (certificate_in certificate)) (one_theory setting data_ canon e)
      (subst (λ (c : Certificate). IsCertified (theory_in setting data_ canon) c) same h)

  over_known : IsKnownCertificate (setting_signature setting) certificate → IsCertificateOver data_.signature (certificate_in certificate)
  over_known known =
      subst (λ (s : Signature). IsCertificateOver s (certificate_in certificate)) e
      (known_over (setting_signature setting) certificate known)

  pub covered_known : IsFit (known_theory data_ setting.rules.now canon) → IsKnownCertificate (setting_signature setting) certificate
      → IsCertified (theory_in setting data_ canon) other
      → AllCovered data_.signature (plain_rules_in setting.rules.now) (certificate_in certificate).covers
  covered_known fit known h =
      all_covered (known_theory data_ setting.rules.now canon) (certificate_in certificate) fit (over_known known) (certified_known h)

  pub hold_known : IsFit (known_theory data_ setting.rules.now canon) → IsKnownCertificate (setting_signature setting) certificate
      → IsCertified (theory_in setting data_ canon) other → AllLemmasHold data_ (certificate_in certificate).lemmas
  hold_known fit known h =
      all_hold (known_theory data_ setting.rules.now canon) (certificate_in certificate) fit (over_known known) (certified_known h)

-- ---- lines

pub trees_few : (certificate : CodeCertificate) (covers : List CodeCover) (trees : List CodeTree)
    → covers ≡ certificate.covers.items → trees ≡ certificate.trees.items → lines_of_certificate (certificate_in certificate) < 2 ^ 32
    → 1 + length covers + lines_of_trees (trees_in trees) ≤ 2 ^ 32
trees_few certificate covers trees c t few =
    let many : length (covers_in certificate.covers.items) ≡ length covers =
    length-map certificate.covers.items cover_in ∙ ap length (sym c) in
    let lines : lines_of_trees (trees_in trees) ≡ lines_of_trees (trees_in certificate.trees.items) =
    ap (λ (ts : List CodeTree). lines_of_trees (trees_in ts)) t in
    omega (arith, many, lines, few)

pub lemmas_few : (certificate : CodeCertificate) (covers : List CodeCover) (trees : List CodeTree) (lemmas : List StatedLemma) (begin : ℕ)
    → covers ≡ certificate.covers.items → trees ≡ certificate.trees.items → lemmas ≡ certificate.lemmas.items
    → lines_of_certificate (certificate_in certificate) < 2 ^ 32 → begin ≡ 1 + length covers + lines_of_trees (trees_in trees)
    → begin + lines_of_lemmas (lemmas_in lemmas) ≤ 2 ^ 32
lemmas_few certificate covers trees lemmas begin c t l few at =
    let many : length (covers_in certificate.covers.items) ≡ length covers =
    length-map certificate.covers.items cover_in ∙ ap length (sym c) in
    let lines : lines_of_trees (trees_in trees) ≡ lines_of_trees (trees_in certificate.trees.items) =
    ap (λ (ts : List CodeTree). lines_of_trees (trees_in ts)) t in
    let rest : lines_of_lemmas (lemmas_in lemmas) ≡ lines_of_lemmas (lemmas_in certificate.lemmas.items) =
    ap (λ (ls : List StatedLemma). lines_of_lemmas (lemmas_in ls)) l in
    omega (arith, many, lines, rest, few, at)

pub lemmas_begin : (covers : List CodeCover) (trees : List CodeTree) (begin : ℕ)
    → begin ≡ 1 + length covers + lines_of_trees (trees_in trees)
    → begin ≡ 1 + length (covers_in covers) + lines_of_trees (trees_in trees)
lemmas_begin covers trees begin at =
    at ∙ ap (λ (k : ℕ). 1 + k + lines_of_trees (trees_in trees)) (sym (length-map covers cover_in))
