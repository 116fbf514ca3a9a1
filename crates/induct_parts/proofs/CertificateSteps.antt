-- From covers, trees and lemmas that were looked at to the whole certificate.
use Rattle.std.proofs.Common.{◌≡◌, ℕ, List, [], sym, subst}
use Rattle.std.specs.Prelude.{Some, slice_get}
use Rattle.lotos_base.proofs.Each.{each_member}
use Rattle.lotos_base.proofs.Members.{from_map}
use Rattle.lotos_base.specs.Canon.{IsCanon}
use Rattle.lotos_base.specs.Equation.{Data}
use Rattle.lotos_base.specs.Signature.{Signature, Operation, IsOperation, IsWellFormedSignature}
use Rattle.lotos_base.specs.Term.{Term}
use Rattle.rewriting_theory.specs.Rule.{AreSortedRulesOf}
use Rattle.path_order.specs.RulesView.{plain_rules_in}
use Rattle.path_order.specs.declared.rules.Rules.{Rules}
use Rattle.path_order.proofs.RulesLemmas.{rules_end}
use Rattle.certificate_theory.specs.InductionCertificate.{Cover, PatternTree, Lemma}
use Rattle.certificate_theory.specs.Covers.{IsListedIn, HasResult, IsRightCover, cover_of}
use Rattle.certificate_theory.specs.Lines.{AreRightBehind}
use Rattle.certificate_theory.specs.Certified.{IsFit, IsStated, IsCertificateOver}
use Rattle.certificate_theory.proofs.CoverLemmas.{cover_found}
use Rattle.certificate_theory.proofs.LineLemmas.{right_at}
use Rattle.certificate_theory.proofs.TestedCertificates.{among_member}
use Rattle.induct_parts.specs.CertificateView.{trees_in, tree_in, lemmas_in, lemma_in, certificate_in}
use Rattle.induct_parts.specs.SettingView.{setting_signature, setting_covers, setting_rules, theory_in, IsSet, IsKnownLemma, IsKnownCertificate, known_theory}
use Rattle.induct_parts.specs.declared.certificates.Certificate.{Certificate as CodeCertificate}
use Rattle.induct_parts.specs.declared.certificates.PatternTree.{PatternTree as CodeTree}
use Rattle.induct_parts.specs.declared.setting.Setting.{Setting}

-- the operations of right covers have their sorts as results
pub results_of_covers : (signature : Signature) (covers : List Cover) → AreRightBehind (IsRightCover signature) [] covers
    → (s f : ℕ) (operations : List ℕ) → cover_of covers s ≡ Some operations → IsListedIn operations f → HasResult signature s f
results_of_covers signature covers right s f operations found among =
    let there = cover_found covers s operations found in
    let cover = right_at there.0 there.1 right there.2 in
    let member = among_member operations f among in
    subst (λ (q : ℕ). HasResult signature q f) there.3
    (cover.1.results member.0 f (subst (λ (fs : List ℕ). slice_get fs member.0 ≡ Some f) (sym there.4) member.1))

-- the theory with the signature of the code is that of the data
pub one_theory : (setting : Setting) (data_ : Data) (canon : Term → Term) → setting_signature setting ≡ data_.signature
    → theory_in setting data_ canon ≡ known_theory data_ setting.rules.now canon
one_theory setting data_ canon e =
    λ i. record {
      data_ = record { signature = e i; equations = data_.equations };
      rules = setting_rules setting;
      canon = canon;
    }

-- and it is fit
pub known_fit : (data_ : Data) (rules : Rules) (canon : Term → Term) → IsWellFormedSignature data_.signature
    → AreSortedRulesOf data_ (plain_rules_in rules) → IsCanon data_ canon → IsFit (known_theory data_ rules canon)
known_fit data_ rules canon well sorted is =
    record { signature = well; rules = sorted; ends = rules_end rules; canon = is }

pub setting_set : (setting : Setting) (data_ : Data) (canon : Term → Term) → setting_signature setting ≡ data_.signature
    → IsFit (known_theory data_ setting.rules.now canon)
    → AreRightBehind (IsRightCover (setting_signature setting)) [] (setting_covers setting) → IsSet setting data_ canon
setting_set setting data_ canon e fit right = record {
  signature = e;
  fit = subst IsFit (sym (one_theory setting data_ canon e)) fit;
  covers = results_of_covers (setting_signature setting) (setting_covers setting) right;
}

-- a certificate that is known is one over the signature
pub known_over : (signature : Signature) (certificate : CodeCertificate) → IsKnownCertificate signature certificate
    → IsCertificateOver signature (certificate_in certificate)
known_over signature certificate known = record { trees = trees; lemmas = lemmas }
  where
    trees : (i : ℕ) (tree : PatternTree) → slice_get (trees_in certificate.trees.items) i ≡ Some tree
        → (operation : Operation) × IsOperation signature tree.operation operation
    trees i tree at =
        let from = from_map tree_in certificate.trees.items i tree at in
        subst (λ (t : PatternTree). (operation : Operation) × IsOperation signature t.operation operation) from.2
        (each_member (λ (t : CodeTree). (operation : Operation) × IsOperation signature t.operation operation)
        certificate.trees.items i from.0 known.trees from.1)

    lemmas : (i : ℕ) (lemma : Lemma) → slice_get (lemmas_in certificate.lemmas.items) i ≡ Some lemma → IsStated signature lemma
    lemmas i lemma at =
        let from = from_map lemma_in certificate.lemmas.items i lemma at in
        subst (IsStated signature) from.2
        (each_member (IsKnownLemma signature) certificate.lemmas.items i from.0 known.lemmas from.1).stated
