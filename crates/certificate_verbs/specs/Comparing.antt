-- The words that check a certificate of bisimulation: two specifications are accepted, with the default order and without start
-- values, their data are the same, and the certificate is read and checked against the two behaviours in which they begin.
use Rattle.std.specs.Prelude.{◌≡◌, ◌<◌, ◌≤◌, ℕ, List, [], length, None}
use Rattle.lotos_base.specs.Limits.{text_limit}
use Rattle.lotos_base.specs.Outside.{Texts}
use Rattle.lotos_base.specs.Term.{Term}
use Rattle.bisim_check.specs.LineTexts.{ArePairLines, IsFirstBadLine}
use Rattle.certificate_theory.specs.BisimulationLaws.{IsComparable}
use Rattle.certificate_theory.specs.Certificate.{CertificateLine, CertificateFault, CertificateOutcome, accepted, refused, Comparison}
use Rattle.certificate_theory.specs.Checking.{CertificateComesTo}
use Rattle.certificate_theory.specs.SameData.{AreSameData}
use Rattle.command_words.specs.HandedOn.{Acceptance, IsAccepted, ComesOfPart, asked_acceptance, Comes, Part, Then, Has, Looks, Telling, GetsFile}
use Rattle.command_words.specs.Words.{Compared}
use Rattle.certificate_verbs.specs.Certificates.{CertificateRefusal, too_long, other_data, bad_line, faulty, refused_printed, bisimilar_printed}
use Rattle.certificate_verbs.specs.Finishing.{Print, Finish, prints, refusal_printed}
use Rattle.certificate_verbs.specs.NormalForms.{AreNormalForms}

-- ---- What is compared

-- the bodies of the two specifications, over the data of the one
abbrev pub comparison_by : (Term → Term) → (one other : Acceptance) → Comparison
comparison_by canon one other = record {
  data_ = one.data_;
  canon = canon;
  left = one.spec;
  right = other.spec;
  left_start = one.spec.body;
  right_start = other.spec.body;
}

-- by the normal forms of the data of the one, over which both are well formed, the lines come to this
pub record IsJudged (one other : Acceptance) (lines : List CertificateLine) (outcome : CertificateOutcome) : Type 0 where
  pub canon : Term → Term
  pub canonical : AreNormalForms one canon
  pub comparable : IsComparable (comparison_by canon one other)
  pub comes_to : CertificateComesTo (comparison_by canon one other) lines outcome

-- ---- Parts

-- the specification under the name is accepted; a refusal is told by this name
abbrev pub AcceptsNamed : List ℕ → Part Print Acceptance
AcceptsNamed name = Telling (refusal_printed name None) (IsAccepted (asked_acceptance name None []))

-- the data of the two are the same, or they are not
abbrev pub IsSameIn : (one other same : Acceptance) → Type 0
IsSameIn one other same = (same ≡ other) × AreSameData one.data_ other.data_

abbrev pub IsOtherIn : (one other : Acceptance) → CertificateRefusal → Type 0
IsOtherIn one other refusal = (refusal ≡ other_data) × (AreSameData one.data_ other.data_ → ⊥)

abbrev pub ComparesData : (one other : Acceptance) → Part Print Acceptance
ComparesData one other = Looks (IsSameIn one other) (IsOtherIn one other) refused_printed

-- the text is that of these lines, or it is too long, or a line has none of the forms
abbrev pub IsCertificate : List ℕ → List CertificateLine → Type 0
IsCertificate text lines = (length text ≤ text_limit) × ArePairLines text lines

abbrev pub IsNoCertificate : List ℕ → CertificateRefusal → Type 0
IsNoCertificate text too_long = text_limit < length text
IsNoCertificate text other_data = ⊥
IsNoCertificate text (bad_line line) = (length text ≤ text_limit) × IsFirstBadLine text line
IsNoCertificate text (faulty fault) = ⊥

abbrev pub ReadsCertificate : List ℕ → Part Print (List CertificateLine)
ReadsCertificate text = Looks (IsCertificate text) (IsNoCertificate text) refused_printed

-- the lines show the two bisimilar, or have a fault
abbrev pub IsProof : (one other : Acceptance) → List CertificateLine → ℕ → Type 0
IsProof one other lines number = IsJudged one other lines (accepted number)

abbrev pub IsNoProof : (one other : Acceptance) → List CertificateLine → CertificateRefusal → Type 0
IsNoProof one other lines refusal = (fault : CertificateFault) × IsJudged one other lines (refused fault) × (refusal ≡ faulty fault)

abbrev pub JudgesLines : (one other : Acceptance) → List CertificateLine → Part Print ℕ
JudgesLines one other lines = Looks (IsProof one other lines) (IsNoProof one other lines) refused_printed

-- ---- The words

-- what follows behind what is known so far: the lines; the text of the certificate; both specifications; the one
abbrev pub JudgesThen : (one other : Acceptance) → List CertificateLine → Part Print Finish
JudgesThen one other lines = Then (JudgesLines one other lines) (λ number. Has (prints (bisimilar_printed number)))

abbrev pub ReadsThen : (one other : Acceptance) → List ℕ → Part Print Finish
ReadsThen one other text = Then (ReadsCertificate text) (λ lines. JudgesThen one other lines)

abbrev pub GetsThen : (one other : Acceptance) → List ℕ → Part Print Finish
GetsThen one other pairs = Then (GetsFile pairs) (λ text. ReadsThen one other text)

abbrev pub ComparesThen : (one other : Acceptance) → List ℕ → Part Print Finish
ComparesThen one other pairs = Then (ComparesData one other) (λ _. GetsThen one other pairs)

abbrev pub AcceptsThen : (one : Acceptance) → (other pairs : List ℕ) → Part Print Finish
AcceptsThen one other pairs = Then (AcceptsNamed other) (λ second. ComparesThen one second pairs)

abbrev pub ChecksCertificate : Compared → Part Print Finish
ChecksCertificate c = Then (AcceptsNamed c.spec) (λ one. AcceptsThen one c.other c.pairs)

-- over these texts it is the one thing that comes of them there
abbrev pub IsOneCheck : Texts → Compared → Comes Print Finish → Type 0
IsOneCheck texts c comes = (other : Comes Print Finish) → ComesOfPart texts (ChecksCertificate c) other → comes ≡ other
