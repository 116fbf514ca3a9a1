-- The theory that a setting of the code stands for, and what is asked of it.
use Rattle.std.specs.Prelude.{◌≡◌, ℕ, List, Some, slice_get}
use Rattle.lotos_base.specs.Signature.{Signature, Operation, IsOperation}
use Rattle.lotos_base.specs.Term.{Term}
use Rattle.lotos_base.specs.Equation.{Data}
use Rattle.lotos_base.proofs.Each.{Each}
use Rattle.sort_terms.specs.SignatureView.{signature_of}
use Rattle.path_order.specs.RulesView.{plain_rules_in}
use Rattle.certificate_theory.specs.InductionCertificate.{Cover, Lemma}
use Rattle.rewriting_theory.specs.Rule.{Rule}
use Rattle.certificate_theory.specs.Covers.{IsCoveredBy, IsListedIn, HasResult, cover_of}
use Rattle.certificate_theory.specs.Splits.{Theory, Proving as PlainProving}
use Rattle.certificate_theory.specs.Certified.{IsFit, IsStated, statements_of}
use Rattle.certificate_theory.specs.Requirements.{HoldsByInduction}
use Rattle.path_order.specs.declared.rules.Rules.{Rules}
use Rattle.induct_parts.specs.declared.certificates.Certificate.{Certificate}
use Rattle.induct_parts.specs.StatementView.{IsStatementOf}
use Rattle.induct_parts.specs.CertificateView.{covers_in, lemma_in, lemmas_in}
use Rattle.induct_parts.specs.declared.certificates.StatedLemma.{StatedLemma}
use Rattle.induct_parts.specs.declared.setting.Setting.{Setting}
use Rattle.induct_parts.specs.declared.setting.Proving.{Proving}

-- the signature, the rules and the covers
abbrev pub setting_signature : Setting → Signature
setting_signature setting = signature_of setting.signature.now

abbrev pub setting_rules : Setting → List Rule
setting_rules setting = plain_rules_in setting.rules.now

abbrev pub setting_covers : Setting → List Cover
setting_covers setting = covers_in setting.covers.now

-- the theory of data over the signature, with the rules, where terms are put in normal form by the canon
abbrev pub theory_in : Setting → Data → (Term → Term) → Theory
theory_in setting data_ canon = record {
  data_ = record { signature = setting_signature setting; equations = data_.equations };
  rules = setting_rules setting;
  canon = canon;
}

-- The operations of a cover have its sort as result.
abbrev pub HasCoverResults : Setting → Type 0
HasCoverResults setting = (s f : ℕ) (operations : List ℕ) → cover_of (setting_covers setting) s ≡ Some operations
    → IsListedIn operations f → HasResult (setting_signature setting) s f

-- The signature is that of the data, the theory is fit, and the operations of each cover have its sort as result.
pub record IsSet (setting : Setting) (data_ : Data) (canon : Term → Term) : Type 0 where
  pub signature : setting_signature setting ≡ data_.signature
  pub fit : IsFit (theory_in setting data_ canon)
  pub covers : HasCoverResults setting

-- The lemma is stated over the signature, and its sides are of it.
pub record IsKnownLemma (signature : Signature) (lemma : StatedLemma) : Type 0 where
  pub stated : IsStated signature (lemma_in lemma)
  pub over : IsStatementOf signature lemma.statement

-- what stays the same in a proof
abbrev pub proving_in : Proving → PlainProving
proving_in proving = record { earlier = statements_of (lemmas_in proving.earlier.now); free = proving.free }

-- the lemmas before are known
abbrev pub AreKnownBefore : Signature → Proving → Type 0
AreKnownBefore signature proving = Each (IsKnownLemma signature) proving.earlier.now

-- The operations of the trees are those of the signature, and each lemma is known.
pub record IsKnownCertificate (signature : Signature) (certificate : Certificate) : Type 0 where
  pub trees : Each (λ tree. (operation : Operation) × IsOperation signature tree.operation operation) certificate.trees.items
  pub lemmas : Each (IsKnownLemma signature) certificate.lemmas.items

-- the theory of the data with these rules, where terms are put in normal form by the canon
abbrev pub known_theory : Data → Rules → (Term → Term) → Theory
known_theory data_ rules canon = record { data_ = data_; rules = plain_rules_in rules; canon = canon }

-- the sort of each cover is covered by its operations
abbrev pub AllCovered : Signature → List Rule → List Cover → Type 0
AllCovered signature rules covers = (i : ℕ) (cover : Cover) → slice_get covers i ≡ Some cover
    → IsCoveredBy signature rules cover.sort cover.operations

-- each lemma holds by induction
abbrev pub AllLemmasHold : Data → List Lemma → Type 0
AllLemmasHold data_ lemmas = (i : ℕ) (lemma : Lemma) → slice_get lemmas i ≡ Some lemma → HoldsByInduction data_ lemma.statement
