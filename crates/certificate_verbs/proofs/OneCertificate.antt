-- What comes of the words that check a certificate of bisimulation is one thing: the lines of a text, its first bad line, and what
-- the lines come to.
use Rattle.std.proofs.Common.{◌≡◌, ◌⊎◌, ◌<◌, ◌≤◌, ◌^◌, inl, inr, ℕ, zero, suc, true, List, [], ◌∷◌, ◌++◌, map, slice_get, decimal, None, Some, refl, sym, ap, ◌∙◌, subst, arith}
use Rattle.std.specs.Char.{is_ascii_digit}
use Rattle.std.specs.Str.{all_ascii_digits}
use Rattle.std.specs.Str.Parse.{digits_value}
use Rattle.std.proofs.lemmas.Bool.{and_parts, cases_lt}
use Rattle.lotos_base.specs.Equation.{IsWellFormedData}
use Rattle.lotos_base.specs.Outside.{Texts}
use Rattle.lotos_base.specs.Term.{Term}
use Rattle.lotos_base.proofs.Pieces.{same_heads}
use Rattle.behaviour_semantics.specs.WellFormed.{Every}
use Rattle.bisim_check.specs.LineTexts.{two_numbers, line_text, HasSmallNumbers, IsWritten, ArePairLines, IsFirstBadLine}
use Rattle.bisim_check.proofs.NumberTexts.{written_digits, written_value, no_blank_digit}
use Rattle.certificate_theory.specs.Certificate.{CertificateLine, names_left, names_right, lists_pair, CertificateFault, CertificateOutcome, accepted, refused}
use Rattle.certificate_theory.specs.CertificateLaws.{CertificatesComeToOneThing}
use Rattle.certificate_theory.specs.Checking.{CertificateComesTo}
use Rattle.command_words.specs.HandedOn.{Acceptance, IsAccepted, got_from, ComesOfPart, asked_acceptance, GotFile, Files, Comes, goes_on, unread}
use Rattle.command_words.specs.HandedOn.{stops, wants_memory, Part, Has, Telling, Lacks, IsDetermined, IsDecided, GetsFile}
use Rattle.command_words.proofs.HandedOn.{accepted_data, normal_forms_once, one_of_part, acceptance_has_one_outcome, has_determined}
use Rattle.command_words.proofs.HandedOn.{looks_determined, then_determined, gets_determined}
use Rattle.command_words.specs.Words.{Compared}
use Rattle.certificate_verbs.specs.Certificates.{CertificateRefusal, too_long, other_data, bad_line, faulty, refused_printed, bisimilar_printed}
use Rattle.certificate_verbs.specs.Comparing.{comparison_by, IsJudged, IsSameIn, IsOtherIn, ComparesData, IsCertificate, IsNoCertificate, ReadsCertificate, IsProof, IsNoProof, JudgesLines, AcceptsNamed, JudgesThen, ReadsThen, GetsThen, ComparesThen, AcceptsThen, ChecksCertificate}
use Rattle.certificate_verbs.specs.Finishing.{Print, Finish, prints, refusal_printed}

-- ---- Lines

-- two numbers are cut at the blank between them in one way
cut_once : (ms ns ps qs : List ℕ) → all_ascii_digits ms ≡ true → all_ascii_digits ps ≡ true → ms ++ (32 ∷ ns) ≡ ps ++ (32 ∷ qs)
    → (ms ≡ ps) × (ns ≡ qs)
cut_once [] ns [] qs one other same = let rest : ns ≡ qs = cc same in (refl, rest)
cut_once [] ns (p ∷ ps) qs one other same =
    let is : 32 ≡ p = cc same in absurd (no_blank_digit p (and_parts (is_ascii_digit p) (all_ascii_digits ps) other).0 (sym is))
cut_once (m ∷ ms) ns [] qs one other same =
    let is : m ≡ 32 = cc same in absurd (no_blank_digit m (and_parts (is_ascii_digit m) (all_ascii_digits ms) one).0 is)
cut_once (m ∷ ms) ns (p ∷ ps) qs one other same =
    let first : m ≡ p = cc same in
    let rest : ms ++ (32 ∷ ns) ≡ ps ++ (32 ∷ qs) = cc same in
    let cut = cut_once ms ns ps qs (and_parts (is_ascii_digit m) (all_ascii_digits ms) one).1
    (and_parts (is_ascii_digit p) (all_ascii_digits ps) other).1 rest in
    ((λ i. first i ∷ cut.0 i), cut.1)

value_once : (m p : ℕ) → m < 2 ^ 32 → p < 2 ^ 32 → decimal m ≡ decimal p → m ≡ p
value_once m p small also same =
    sym (written_value m small) ∙ (λ i. digits_value 10 (same i)) ∙ written_value p also

numbers_once : (m n p q : ℕ) → (m < 2 ^ 32) × (n < 2 ^ 32) → (p < 2 ^ 32) × (q < 2 ^ 32) → two_numbers m n ≡ two_numbers p q
    → (m ≡ p) × (n ≡ q)
numbers_once m n p q small also same =
    let cut = cut_once (decimal m) (decimal n) (decimal p) (decimal q) (written_digits m small.0) (written_digits p also.0) same in
    (value_once m p small.0 also.0 cut.0, value_once n q small.1 also.1 cut.1)

line_once : (one other : CertificateLine) → HasSmallNumbers one → HasSmallNumbers other → line_text one ≡ line_text other → one ≡ other
line_once (names_left m n) (names_left p q) small also same =
    let rest : two_numbers m n ≡ two_numbers p q = cc same in
    let both = numbers_once m n p q small also rest in
    (λ i. names_left (both.0 i) (both.1 i))
line_once (names_right m n) (names_right p q) small also same =
    let rest : two_numbers m n ≡ two_numbers p q = cc same in
    let both = numbers_once m n p q small also rest in
    (λ i. names_right (both.0 i) (both.1 i))
line_once (lists_pair m n) (lists_pair p q) small also same =
    let rest : two_numbers m n ≡ two_numbers p q = cc same in
    let both = numbers_once m n p q small also rest in
    (λ i. lists_pair (both.0 i) (both.1 i))
line_once (names_left m n) (names_right p q) small also same =
    absurd (omega (arith, same_heads 108 114 (32 ∷ two_numbers m n) (32 ∷ two_numbers p q) same))
line_once (names_left m n) (lists_pair p q) small also same =
    absurd (omega (arith, same_heads 108 112 (32 ∷ two_numbers m n) (32 ∷ two_numbers p q) same))
line_once (names_right m n) (names_left p q) small also same =
    absurd (omega (arith, same_heads 114 108 (32 ∷ two_numbers m n) (32 ∷ two_numbers p q) same))
line_once (names_right m n) (lists_pair p q) small also same =
    absurd (omega (arith, same_heads 114 112 (32 ∷ two_numbers m n) (32 ∷ two_numbers p q) same))
line_once (lists_pair m n) (names_left p q) small also same =
    absurd (omega (arith, same_heads 112 108 (32 ∷ two_numbers m n) (32 ∷ two_numbers p q) same))
line_once (lists_pair m n) (names_right p q) small also same =
    absurd (omega (arith, same_heads 112 114 (32 ∷ two_numbers m n) (32 ∷ two_numbers p q) same))

lines_once : (one other : List CertificateLine) → Every HasSmallNumbers one → Every HasSmallNumbers other
    → map line_text one ≡ map line_text other → one ≡ other
lines_once [] [] small also same = refl
lines_once [] (l ∷ other) small also same = absurd (cc same)
lines_once (l ∷ one) [] small also same = absurd (cc same)
lines_once (l ∷ one) (m ∷ other) small also same =
    let head : line_text l ≡ line_text m = cc same in
    let tail : map line_text one ≡ map line_text other = cc same in
    let first : l ≡ m = line_once l m small.0 also.0 head in
    let rest : one ≡ other = lines_once one other small.1 also.1 tail in
    (λ i. first i ∷ rest i)

written_at : (lines : List CertificateLine) → Every HasSmallNumbers lines → (place : ℕ) (text : List ℕ)
    → slice_get (map line_text lines) place ≡ Some text → (line : CertificateLine) × IsWritten text line
written_at [] small place text at = absurd (cc at)
written_at (l ∷ lines) small zero text at =
    let is : line_text l ≡ text = cc at in (l, record { written = sym is; small = small.0 })
written_at (l ∷ lines) small (suc place) text at = written_at lines small.1 place text at

not_read_and_bad : (text : List ℕ) (lines : List CertificateLine) (number : ℕ) → ArePairLines text lines → IsFirstBadLine text number → ⊥
not_read_and_bad text lines number read bad =
    let line = written_at lines read.small bad.place bad.bad
    (subst (λ (ls : List (List ℕ)). slice_get ls bad.place ≡ Some bad.bad) read.written bad.there) in
    bad.no_line line.0 line.1

not_before : (text : List ℕ) (m n : ℕ) (one : IsFirstBadLine text m) (other : IsFirstBadLine text n) → one.place < other.place → ⊥
not_before text m n one other less =
    let line = other.earlier one.place one.bad less one.there in one.no_line line.0 line.1

bad_once : (text : List ℕ) (m n : ℕ) → IsFirstBadLine text m → IsFirstBadLine text n → m ≡ n
bad_once text m n one other = by (cases_lt one.place other.place) (cases_lt other.place one.place)
  where
    by : (one.place < other.place) ⊎ (other.place ≤ one.place) → (other.place < one.place) ⊎ (one.place ≤ other.place) → m ≡ n
    by (inl less) more = absurd (not_before text m n one other less)
    by (inr most) (inl less) = absurd (not_before text n m other one less)
    by (inr most) (inr least) = omega (arith, one.numbered, other.numbered, most, least)

-- ---- What is decided

data_decided : (one other : Acceptance) → IsDecided (IsSameIn one other) (IsOtherIn one other)
data_decided one other = record {
  one_value = λ b c is also. is.0 ∙ sym also.0;
  not_both = λ b fault is not. not.1 is.1;
  one_fault = λ fault more is also. is.0 ∙ sym also.0;
}

read_decided : (text : List ℕ) → IsDecided (IsCertificate text) (IsNoCertificate text)
read_decided text = record {
  one_value = λ b c is also. lines_once b c is.1.small also.1.small (sym is.1.written ∙ also.1.written);
  not_both = not_both;
  one_fault = one_fault;
}
  where
    not_both : (lines : List CertificateLine) (fault : CertificateRefusal) → IsCertificate text lines → IsNoCertificate text fault → ⊥
    not_both lines too_long is not = omega (arith, is.0, not)
    not_both lines other_data is not = not
    not_both lines (bad_line number) is not = not_read_and_bad text lines number is.1 not.1
    not_both lines (faulty fault) is not = not

    one_fault : (fault other : CertificateRefusal) → IsNoCertificate text fault → IsNoCertificate text other → fault ≡ other
    one_fault too_long too_long is also = refl
    one_fault too_long (bad_line number) is also = absurd (omega (arith, is, also.0))
    one_fault (bad_line number) too_long is also = absurd (omega (arith, is.0, also))
    one_fault (bad_line number) (bad_line more) is also = ap (λ (n : ℕ). bad_line n) (bad_once text number more is.1 also.1)
    one_fault other_data other is also = absurd is
    one_fault (faulty fault) other is also = absurd is
    one_fault too_long other_data is also = absurd also
    one_fault too_long (faulty fault) is also = absurd also
    one_fault (bad_line number) other_data is also = absurd also
    one_fault (bad_line number) (faulty fault) is also = absurd also

module _ (once : CertificatesComeToOneThing) where
  judged_once : (one other : Acceptance) → IsWellFormedData one.data_ → (lines : List CertificateLine) (a b : CertificateOutcome)
      → IsJudged one other lines a → IsJudged one other lines b → a ≡ b
  judged_once one other well lines a b is also =
      let same : is.canon ≡ also.canon =
      normal_forms_once one.items one.data_ well is.canonical.0 also.canonical.0 is.canonical.1 also.canonical.1 is.canonical.2
      also.canonical.2 is.canon also.canon is.canonical.3 also.canonical.3 in
      once (comparison_by is.canon one other) lines a b is.comes_to
      (subst (λ (canon : Term → Term). CertificateComesTo (comparison_by canon one other) lines b) (sym same) also.comes_to)

  judged_decided : (one other : Acceptance) → IsWellFormedData one.data_ → (lines : List CertificateLine)
      → IsDecided (IsProof one other lines) (IsNoProof one other lines)
  judged_decided one other well lines = record {
    one_value = λ b c is also. let same = judged_once one other well lines (accepted b) (accepted c) is also in cc same;
    not_both = λ b fault is not. let same = judged_once one other well lines (accepted b) (refused not.0) is not.1 in cc same;
    one_fault = λ fault more is also.
        let same = judged_once one other well lines (refused is.0) (refused also.0) is.1 also.1 in
        let faults : is.0 ≡ also.0 = cc same in
        is.2 ∙ ap (λ (f : CertificateFault). faulty f) faults ∙ sym also.2;
  }

-- ---- A part whose faults are told otherwise

abbrev told_by : {E G B : Type 0} → (E → G) → Comes E B → Comes G B
told_by tell (goes_on b) = goes_on b
told_by tell (unread name) = unread name
told_by tell (stops e) = stops (tell e)
told_by tell wants_memory = wants_memory

record Inner {E G B : Type 0} (tell : E → G) (whole : Part E B) (got : Files) (files : List GotFile) (comes : Comes G B) : Type 0 where
  pub inner : Comes E B
  pub is : whole files inner
  pub told : comes ≡ told_by tell inner
  pub lacks : Lacks got inner

inner_of : {E G B : Type 0} (tell : E → G) (whole : Part E B) (got : Files) (files : List GotFile) (comes : Comes G B)
    → Telling tell whole files comes → Lacks got comes → Inner tell whole got files comes
inner_of tell whole got files (goes_on b) is lacks = record { inner = goes_on b; is = is; told = refl; lacks = tt }
inner_of tell whole got files (unread name) is lacks = record { inner = unread name; is = is; told = refl; lacks = lacks }
inner_of tell whole got files (stops g) is lacks =
    record { inner = stops is.0; is = is.1; told = ap (λ x. stops x) is.2; lacks = tt }
inner_of tell whole got files wants_memory is lacks = absurd lacks

telling_determined : {E G B : Type 0} (tell : E → G) (whole : Part E B) (got : Files) → IsDetermined got whole
    → IsDetermined got (Telling tell whole)
telling_determined tell whole got determined files others one other is also all both lack lacks =
    let i = inner_of tell whole got files one is lack in
    let j = inner_of tell whole got others other also lacks in
    let same = determined files others i.inner j.inner i.is j.is all both i.lacks j.lacks in
    (same.0, i.told ∙ ap (λ x. told_by tell x) same.1 ∙ sym j.told)

pub named_determined : (name : List ℕ) (got : Files) → IsDetermined got (AcceptsNamed name)
named_determined name got =
    telling_determined (refusal_printed name None) (IsAccepted (asked_acceptance name None [])) got
    (acceptance_has_one_outcome (asked_acceptance name None []) got)

-- ---- The words

module _ (once : CertificatesComeToOneThing) (got : Files) where
  checks_determined : (c : Compared) → IsDetermined got (ChecksCertificate c)
  checks_determined c =
      then_determined (AcceptsNamed c.spec) (λ one. AcceptsThen one c.other c.pairs) got (named_determined c.spec got) (λ one f1 i1.
      then_determined (AcceptsNamed c.other) (λ other. ComparesThen one other c.pairs) got (named_determined c.other got) (λ other f2 i2.
      then_determined (ComparesData one other) (λ _. GetsThen one other c.pairs) got
      (looks_determined (IsSameIn one other) (IsOtherIn one other) refused_printed got (data_decided one other)) (λ same f3 i3.
      then_determined (GetsFile c.pairs) (λ text. ReadsThen one other text) got (gets_determined c.pairs got) (λ text f4 i4.
      then_determined (ReadsCertificate text) (λ lines. JudgesThen one other lines) got
      (looks_determined (IsCertificate text) (IsNoCertificate text) refused_printed got (read_decided text)) (λ lines f5 i5.
      then_determined (JudgesLines one other lines) (λ number. Has (prints (bisimilar_printed number))) got
      (looks_determined (IsProof one other lines) (IsNoProof one other lines) refused_printed got
      (judged_decided once one other (accepted_data c.spec f1 one i1) lines))
      (λ number f6 i6. has_determined (prints (bisimilar_printed number)) got))))))

pub checks_over_texts_are_one : CertificatesComeToOneThing → (texts : Texts) (c : Compared) (one other : Comes Print Finish)
    → ComesOfPart texts (ChecksCertificate c) one → ComesOfPart texts (ChecksCertificate c) other → one ≡ other
checks_over_texts_are_one once texts c one other is also =
    one_of_part texts (ChecksCertificate c) (checks_determined once (got_from texts) c) one other is also
