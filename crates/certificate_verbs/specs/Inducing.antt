-- The words that check a certificate of induction: a specification is accepted, with the default order and without start values,
-- and the certificate is read and checked over its data. What is printed then is how many lemmas it has, and which of them meets
-- each requirement of the specification's types.
use Rattle.std.specs.Prelude.{◌≡◌, ◌<◌, ◌≤◌, ◌+◌, ℕ, List, [], ◌∷◌, ◌++◌, Option, None, Some, length, codes, decimal}
use Rattle.lotos_base.specs.Equation.{Equation}
use Rattle.lotos_base.specs.Limits.{text_limit}
use Rattle.lotos_base.specs.Outside.{Texts}
use Rattle.lotos_base.specs.Signature.{Signature}
use Rattle.induct_check.specs.CheckView.{IsCertifiedText}
use Rattle.induct_check.specs.FaultTexts.{fault_text}
use Rattle.induct_check.specs.HandedOn.{Theory, Lemma, InductionFault, IsMetBy, IsLeftOpen, AllLemmasHold}
use Rattle.induct_check.specs.TextFaults.{IsTextFault}
use Rattle.command_words.specs.HandedOn.{Acceptance, ComesOfPart, AreRequirements, IsOpenedBy, Chooses, rules_of, NumberedRule, Precedence}
use Rattle.command_words.specs.HandedOn.{TextNames, place_text, Comes, Part, Then, Has, Looks, GetsFile}
use Rattle.command_words.specs.Words.{Induced}
use Rattle.certificate_verbs.specs.Comparing.{AcceptsNamed}
use Rattle.certificate_verbs.specs.Finishing.{Print, print, Finish, prints}
use Rattle.certificate_verbs.specs.declared.ended.Ended.TheVariants.{Done, CertificateRefused}

-- ---- What a certificate is checked over

-- the data of what was accepted, the rules that the items of its order make of the equations, and the normal forms by them
pub record IsTheoryOf (one : Acceptance) (theory : Theory) : Type 0 where
  pub precedence : Precedence
  pub rules : List NumberedRule
  pub data_is : theory.data_ ≡ one.data_
  pub opened : IsOpenedBy one.items one.data_ precedence rules
  pub rules_are : theory.rules ≡ rules_of rules
  pub canonical : Chooses (rules_of rules) theory.canon

-- The text is a right certificate with these lemmas, each of which holds by induction, and the sort of each cover is covered.
pub record IsCheckedCertificate (one : Acceptance) (text : List ℕ) (lemmas : List Lemma) : Type 0 where
  pub theory : Theory
  pub theory_is : IsTheoryOf one theory
  pub certified : IsCertifiedText theory text lemmas
  pub hold : AllLemmasHold theory.data_ lemmas

-- ---- What is printed

-- a lemma meets the requirement, the first that is the same equation up to the names of variables, or none does
abbrev pub HasAnswer : List Lemma → Equation → Option ℕ → Type 0
HasAnswer lemmas equation None = IsLeftOpen lemmas equation
HasAnswer lemmas equation (Some k) = IsMetBy lemmas equation k

-- lemmas are numbered from 1
abbrev pub answer_text : Option ℕ → List ℕ
answer_text None = codes " open\n"
answer_text (Some k) = codes " met by " ++ decimal (k + 1) ++ codes "\n"

abbrev pub requirement_line : TextNames → Equation → Option ℕ → List ℕ
requirement_line names equation answer = place_text names equation.place ++ answer_text answer

-- a line for each requirement
abbrev pub AreLines : TextNames → List Lemma → List Equation → List ℕ → Type 0
AreLines names lemmas [] text = text ≡ []
AreLines names lemmas (equation ∷ equations) text =
    (answer : Option ℕ) × (lines : List ℕ) × HasAnswer lemmas equation answer × AreLines names lemmas equations lines
    × (text ≡ requirement_line names equation answer ++ lines)

abbrev pub certified_counts_text : (lemmas requirements : ℕ) → List ℕ
certified_counts_text lemmas requirements =
    codes "certified " ++ decimal lemmas ++ codes " lemmas\nrequirements " ++ decimal requirements ++ codes "\n"

-- the specification by the word for it, and the libraries that were read
abbrev pub names_in : (spec : List ℕ) → Acceptance → TextNames
names_in spec one = record { spec = spec; order = []; libraries = one.libraries }

-- The report on the text of a certificate that is not too long.
pub record IsReport (spec : List ℕ) (one : Acceptance) (text report : List ℕ) : Type 0 where
  pub short : length text ≤ text_limit
  pub lemmas : List Lemma
  pub checked : IsCheckedCertificate one text lemmas
  pub requirements : List Equation
  pub required : AreRequirements one.types requirements
  pub lines : List ℕ
  pub answered : AreLines (names_in spec one) lemmas requirements lines
  pub report_is : report ≡ certified_counts_text (length lemmas) (length requirements) ++ lines

-- ---- Refusals

-- Why a certificate is refused: its text is too long, or it has this first fault, at this line.
pub data InductionRefusal : Type 0 where
  proofs_too_long : InductionRefusal
  wrong_at : (line : ℕ) (fault : InductionFault) → InductionRefusal

abbrev pub IsRefusedBy : Acceptance → List ℕ → InductionRefusal → Type 0
IsRefusedBy one text proofs_too_long = text_limit < length text
IsRefusedBy one text (wrong_at line fault) =
    (length text ≤ text_limit) × ((theory : Theory) × IsTheoryOf one theory × IsTextFault theory text line fault)

abbrev pub induction_refusal_text : Signature → InductionRefusal → List ℕ
induction_refusal_text signature proofs_too_long = codes "refused 910 TooLong\n"
induction_refusal_text signature (wrong_at line fault) = fault_text signature line fault

abbrev pub induction_refused : Signature → InductionRefusal → Print
induction_refused signature refusal = print (induction_refusal_text signature refusal) CertificateRefused

-- ---- The words

abbrev pub ChecksProofs : (spec : List ℕ) (one : Acceptance) → List ℕ → Part Print (List ℕ)
ChecksProofs spec one text =
    Looks (IsReport spec one text) (IsRefusedBy one text) (induction_refused one.data_.signature)

-- what follows behind the text of the certificate, and behind the specification
abbrev pub ReportsThen : (spec : List ℕ) (one : Acceptance) → List ℕ → Part Print Finish
ReportsThen spec one text = Then (ChecksProofs spec one text) (λ report. Has (prints (print report Done)))

abbrev pub ProvesThen : (spec : List ℕ) (one : Acceptance) → (proofs : List ℕ) → Part Print Finish
ProvesThen spec one proofs = Then (GetsFile proofs) (λ text. ReportsThen spec one text)

abbrev pub ChecksInduction : Induced → Part Print Finish
ChecksInduction i = Then (AcceptsNamed i.spec) (λ one. ProvesThen i.spec one i.proofs)

-- over these texts it is the one thing that comes of them there
abbrev pub IsOneInduction : Texts → Induced → Comes Print Finish → Type 0
IsOneInduction texts i comes = (other : Comes Print Finish) → ComesOfPart texts (ChecksInduction i) other → comes ≡ other
