-- What is printed where a certificate of bisimulation is checked.
use Rattle.std.proofs.Common.{◌≡◌, ◌↔◌, ◌<◌, ◌≤◌, Bool, true, false, IsTrue, ℕ, List, [], length, map, None, Some, refl, sym, ap, ◌∙◌, subst}
use Rattle.std.specs.Prelude.{Result, Ok, Err, IfOk, MatchResult}
use Rattle.lotos_base.specs.Equation.{Data}
use Rattle.lotos_base.specs.Limits.{text_limit}
use Rattle.lotos_base.specs.Term.{Term}
use Rattle.sort_terms.specs.EquationView.{data_of}
use Rattle.behaviour_semantics.specs.Behaviour.{Specification}
use Rattle.bisim_check.specs.LineTexts.{ArePairLines, IsFirstBadLine}
use Rattle.bisim_check.specs.Faults.{TellsPairs, unmatched_on}
use Rattle.bisim_check.specs.Readings.{comparison_of}
use Rattle.certificate_theory.specs.BisimulationLaws.{IsComparable}
use Rattle.certificate_theory.specs.Certificate.{CertificateLine, CertificateFault, CertificateOutcome, accepted, refused, no_state, no_entry, open_menu, no_start_pair, Comparison}
use Rattle.certificate_theory.specs.Checking.{CertificateComesTo}
use Rattle.certificate_theory.specs.SameData.{AreSameData}
use Rattle.demo_walks.specs.HandedOn.{specification_of, state_of, AreRanksOf}
use Rattle.behaviour_semantics.specs.Rank.{RanksFall}
use Rattle.lotos_base.specs.Signature.{Signature}
use Rattle.std.proofs.lemmas.List.{length-map}
use Rattle.command_words.specs.HandedOn.{ShelfState, book_canon, book_chooses, book_is_canon, rules_in, precedence_in, Acceptance}
use Rattle.command_words.specs.HandedOn.{HoldsWithText, IsOverSame, BeginsOver, AsksBehind, Did, FileIsNotGot, goes_on, unread, stops}
use Rattle.command_words.specs.HandedOn.{wants_memory, Part, Then, Has, Looks, GetsFile, is_lacking, is_wanting, Begun, WithText}
use Rattle.command_words.specs.HandedOn.{NotAccepted, File as Lacking, Spec, NoMemory}
use Rattle.command_words.proofs.HandedOn.{body_begins, did_then, has_done, wants_nothing, looked}
use Rattle.lotos_base.specs.declared.faults.NoMemory.{NoMemory as CodeNoMemory}
use Rattle.sort_terms.specs.declared.equations.Flat.{Flat}
use Rattle.induct_check.proofs.HandedOn.{gives_nothing, some_within}
use Rattle.bisim_check.specs.declared.faults.PairsFault.{PairsFault}
use Rattle.bisim_check.specs.declared.faults.PairsFault.TheVariants as pairs_fault
use Rattle.certificate_verbs.specs.Certificates.{CertificateRefusal, too_long, other_data, bad_line, faulty, refused_printed, bisimilar_text, bisimilar_printed}
use Rattle.certificate_verbs.specs.Comparing.{comparison_by, IsJudged, IsSameIn, IsOtherIn, ComparesData, IsCertificate, IsNoCertificate, ReadsCertificate, IsProof, IsNoProof, JudgesLines, JudgesThen, ReadsThen, GetsThen, ComparesThen}
use Rattle.certificate_verbs.specs.Finishing.{Print, Finish, prints}
use Rattle.certificate_verbs.specs.Printed.{print_in, IsFaultPrinted, IsPrinted, PartCame, IsPairsFaultPrinted}
use Rattle.certificate_verbs.specs.declared.ended.Ended.TheVariants.{Done, CertificateRefused}
use Rattle.certificate_verbs.specs.declared.printing.Alone.{Alone}
use Rattle.certificate_verbs.proofs.PrintedLemmas.{print_is}
use Rattle.certificate_verbs.proofs.PartLemmas.{ended_unread, ended_stops, want_first}

-- ---- Parts that print

module _ {A : Type 0} (a b : ShelfState) (First : Part Print A) (next : A → Part Print Finish) where
  -- the first part went on
  pub printed_then : (c : ShelfState) (x : A) (alone : Alone) → Did a b First (goes_on x) → IsPrinted (next x) b c alone
      → IsPrinted (Then First next) a c alone
  printed_then c x alone did is = (is.0, did_then a b c First next x is.0 did is.1, is.2)

  pub came_then : (c : ShelfState) (x : A) → Did a b First (goes_on x) → PartCame (next x) b c → PartCame (Then First next) a c
  came_then c x did is = (is.0, did_then a b c First next x is.0 did is.1)

  -- it stopped
  pub printed_stop : (p : Print) (alone : Alone) → Did a b First (stops p) → print_in alone ≡ p → IsPrinted (Then First next) a b alone
  printed_stop p alone did is = (stops p, ended_stops a b First next p did, ap (λ (it : Print). Some it) (sym is))

  -- memory was wanted in it
  pub came_wanting : Did a b First wants_memory → PartCame (Then First next) a b
  came_wanting did = (wants_memory, want_first a b First next did)

-- a look that stopped
pub look_stops : {F B : Type 0} (now : ShelfState) (IsFine : B → Type 0) (IsFault : F → Type 0) (tell : F → Print) (fault : F)
    → IsFault fault → Did now now (Looks IsFine IsFault tell) (stops (tell fault))
look_stops now IsFine IsFault tell fault is = ([], gives_nothing now, (refl, (fault, is, refl)))

-- memory was wanted in a look
pub look_wants : {F A : Type 0} (now : ShelfState) (IsFine : A → Type 0) (IsFault : F → Type 0) (tell : F → Print)
    (next : A → Part Print Finish) → PartCame (Then (Looks IsFine IsFault tell) next) now now
look_wants now IsFine IsFault tell next =
    came_wanting now now (Looks IsFine IsFault tell) next (wants_nothing {E = Print} now (Looks IsFine IsFault tell) refl)

-- the print of a refusal
pub refusal_is : (alone : Alone) (refusal : CertificateRefusal) → alone.text.items ≡ (refused_printed refusal).text
    → alone.ended ≡ CertificateRefused → print_in alone ≡ refused_printed refusal
refusal_is alone refusal text ended = print_is alone (refused_printed refusal).text CertificateRefused text ended

-- ---- A file that is not got

module _ (name : List ℕ) (next : List ℕ → Part Print Finish) (a b : ShelfState) where
  not_got : (kept : List ℕ) → kept ≡ name → (files : Did {E = Print} a b (GetsFile name) (unread name))
      → Did a b (Then (GetsFile name) next) (unread kept)
  not_got kept same did =
      subst (λ (n : List ℕ). Did a b (Then (GetsFile name) next) (unread n)) (sym same)
      (ended_unread a b (GetsFile name) next name did)

  pub file_printed : (fault : NotAccepted) (alone : Alone) → FileIsNotGot a b name fault
      → IsFaultPrinted name None fault (print_in alone) → IsPrinted (Then (GetsFile name) next) a b alone
  file_printed (Lacking kept) alone is made = (
    unread kept.items,
    not_got kept.items is.0 ([], is.1, is_lacking),
    ap (λ (it : Print). Some it) (sym made),
  )
  file_printed (Spec r) alone is made = absurd is
  file_printed NoMemory alone is made = absurd made

  pub file_came : (fault : NotAccepted) → FileIsNotGot a b name fault → PartCame (Then (GetsFile name) next) a b
  file_came (Lacking kept) is = (unread kept.items, not_got kept.items is.0 ([], is.1, is_lacking))
  file_came (Spec r) is = absurd is
  file_came NoMemory is = came_wanting a b (GetsFile name) next (
    [],
    some_within a b [] (Unit {0}) (AsksBehind {E = Print} (GetsFile name) []) (λ asked. (name, is_lacking)) is,
    is_wanting,
  )

-- ---- Answers of the code

-- what is printed, or memory was wanted
abbrev pub IsAnswered : Part Print Finish → (before after : ShelfState) → Result Alone CodeNoMemory → Type 0
IsAnswered part before after answer = MatchResult answer (IsPrinted part before after) (λ _. PartCame part before after)

pub answered : (part : Part Print Finish) (a b : ShelfState) (Is : Alone → Type 0) (answer : Result Alone CodeNoMemory) → IfOk answer Is
    → ((alone : Alone) → Is alone → IsPrinted part a b alone) → PartCame part a b → IsAnswered part a b answer
answered part a b Is (Ok alone) is prints_ came = prints_ alone is
answered part a b Is (Err e) is prints_ came = came

pub onwards : {A : Type 0} (a b c : ShelfState) (First : Part Print A) (next : A → Part Print Finish) (x : A)
    (answer : Result Alone CodeNoMemory) → Did a b First (goes_on x) → IsAnswered (next x) b c answer
    → IsAnswered (Then First next) a c answer
onwards a b c First next x (Ok alone) did is = printed_then a b First next c x alone did is
onwards a b c First next x (Err e) did is = came_then a b First next c x did is

-- ---- The data

-- what the test says of them
pub agreed : (left right one second : Flat) (b : Bool) → left ≡ one → right ≡ second
    → IsTrue b ↔ AreSameData (data_of left) (data_of right) → b ≡ true → AreSameData (data_of one) (data_of second)
agreed left right one second b is also told same =
    subst (λ (f : Flat). AreSameData (data_of f) (data_of second)) is
    (subst (λ (f : Flat). AreSameData (data_of left) (data_of f)) also (told.0 same))

pub not_agreed : (left right one second : Flat) (b : Bool) → left ≡ one → right ≡ second
    → IsTrue b ↔ AreSameData (data_of left) (data_of right) → b ≡ false → AreSameData (data_of one) (data_of second) → ⊥
not_agreed left right one second b is also told differ same =
    let here : b ≡ true = told.1
    (subst (λ (f : Flat). AreSameData (data_of f) (data_of right)) (sym is)
    (subst (λ (f : Flat). AreSameData (data_of one) (data_of f)) (sym also) same)) in
    cc (here, differ)

-- they are not the same
pub data_differ : (first other : Acceptance) (one second : WithText) (now : ShelfState) (pairs : List ℕ)
    (answer : Result Alone CodeNoMemory) → HoldsWithText first one
    → HoldsWithText other second → (AreSameData (data_of one.accepted.book.flat) (data_of second.accepted.book.flat) → ⊥)
    → IfOk answer (λ (alone : Alone). (alone.text.items ≡ (refused_printed other_data).text) × (alone.ended ≡ CertificateRefused))
    → IsAnswered (ComparesThen first other pairs) now now answer
data_differ first other one second now pairs answer h k differ made =
    answered (ComparesThen first other pairs) now now _ answer made
    (λ alone is. printed_stop now now (ComparesData first other) (λ _. GetsThen first other pairs) (refused_printed other_data) alone
    (look_stops now (IsSameIn first other) (IsOtherIn first other) refused_printed other_data (refl, not_same))
    (refusal_is alone other_data is.0 is.1))
    (look_wants now (IsSameIn first other) (IsOtherIn first other) refused_printed (λ _. GetsThen first other pairs))
  where
    not_same : AreSameData first.data_ other.data_ → ⊥
    not_same same = differ
        (subst (λ (d : Data). AreSameData d (data_of second.accepted.book.flat)) (sym h.holds.data_is)
        (subst (λ (d : Data). AreSameData first.data_ d) (sym k.holds.data_is) same))

-- they are
pub data_agree : (first other : Acceptance) (one second : WithText) → HoldsWithText first one
    → HoldsWithText other second → AreSameData (data_of one.accepted.book.flat) (data_of second.accepted.book.flat)
    → AreSameData first.data_ other.data_
data_agree first other one second h k same =
    subst (λ (d : Data). AreSameData d other.data_) h.holds.data_is
    (subst (λ (d : Data). AreSameData (data_of one.accepted.book.flat) d) k.holds.data_is same)

pub data_same : (first other : Acceptance) (one second : WithText) (a b : ShelfState) (pairs : List ℕ)
    (answer : Result Alone CodeNoMemory) → HoldsWithText first one
    → HoldsWithText other second → AreSameData (data_of one.accepted.book.flat) (data_of second.accepted.book.flat)
    → IsAnswered (GetsThen first other pairs) a b answer → IsAnswered (ComparesThen first other pairs) a b answer
data_same first other one second a b pairs answer h k same is =
    onwards a a b (ComparesData first other) (λ _. GetsThen first other pairs) other answer
    (looked a (IsSameIn first other) (IsOtherIn first other) refused_printed other (refl, data_agree first other one second h k same)) is

fall_over : (rank : ℕ → ℕ) (one other : Specification) → one ≡ other → RanksFall one.processes rank → RanksFall other.processes rank
fall_over rank one other same fall = subst (λ (s : Specification). RanksFall s.processes rank) same fall

-- the ranks of the other one serve there too
pub ranks_over : (signature : Signature) (other : Acceptance) (second : WithText) (begun : Begun) → HoldsWithText other second
    → BeginsOver signature other begun → AreRanksOf begun.spec second.accepted.ranks
ranks_over signature other second begun k over = record {
  covers = k.holds.ranks_are.covers
      ∙ sym (length-map second.accepted.spec.processes.items _)
      ∙ ap (λ (s : Specification). length s.processes) (sym same)
      ∙ length-map begun.spec.processes.items _;
  fall = fall_over _ _ _ (sym same) k.holds.ranks_are.fall;
}
  where
    same : specification_of begun.spec ≡ specification_of second.accepted.spec
    same = over.spec_is ∙ sym k.holds.spec_is

-- what the other one is put over
pub over_same : (other : Acceptance) (one second : WithText) → HoldsWithText other second
    → AreSameData (data_of one.accepted.book.flat) (data_of second.accepted.book.flat)
    → IsOverSame second.text.items one.accepted.book.flat other
over_same other one second k same = record {
  text_is = k.text_is;
  same = subst (λ (d : Data). AreSameData (data_of one.accepted.book.flat) d) k.holds.data_is same;
}

-- ---- The text of the certificate

module _ (first other : Acceptance) (now : ShelfState) (text : List ℕ) (answer : Result Alone CodeNoMemory) where
  text_stops : (refusal : CertificateRefusal) → IsNoCertificate text refusal
      → IfOk answer (λ (alone : Alone). (alone.text.items ≡ (refused_printed refusal).text) × (alone.ended ≡ CertificateRefused))
      → IsAnswered (ReadsThen first other text) now now answer
  text_stops refusal is made =
      answered (ReadsThen first other text) now now _ answer made
      (λ alone a. printed_stop now now (ReadsCertificate text) (λ lines. JudgesThen first other lines) (refused_printed refusal) alone
      (look_stops now (IsCertificate text) (IsNoCertificate text) refused_printed refusal is)
      (refusal_is alone refusal a.0 a.1))
      (look_wants now (IsCertificate text) (IsNoCertificate text) refused_printed (λ lines. JudgesThen first other lines))

  pub text_too_long : text_limit < length text
      → IfOk answer (λ (alone : Alone). (alone.text.items ≡ (refused_printed too_long).text) × (alone.ended ≡ CertificateRefused))
      → IsAnswered (ReadsThen first other text) now now answer
  text_too_long long made = text_stops too_long long made

  pub line_bad : (line : ℕ) → length text ≤ text_limit → IsFirstBadLine text line
      → IfOk answer (λ (alone : Alone). (alone.text.items ≡ (refused_printed (bad_line line)).text) × (alone.ended ≡ CertificateRefused))
      → IsAnswered (ReadsThen first other text) now now answer
  line_bad line short is made = text_stops (bad_line line) (short, is) made

  pub text_read : (lines : List CertificateLine) → length text ≤ text_limit → ArePairLines text lines
      → IsAnswered (JudgesThen first other lines) now now answer → IsAnswered (ReadsThen first other text) now now answer
  text_read lines short is rest =
      onwards now now now (ReadsCertificate text) (λ ls. JudgesThen first other ls) lines answer
      (looked now (IsCertificate text) (IsNoCertificate text) refused_printed lines (short, is)) rest

-- ---- The lines of the certificate

pub lines_want : (first other : Acceptance) (now : ShelfState) (lines : List CertificateLine) → PartCame (JudgesThen first other lines) now now
lines_want first other now lines =
    look_wants now (IsProof first other lines) (IsNoProof first other lines) refused_printed (λ n. Has (prints (bisimilar_printed n)))

module _ (first other : Acceptance) (one : WithText) (begun : Begun) (h : HoldsWithText first one)
    (over : BeginsOver (data_of one.accepted.book.flat).signature other begun) where
  abbrev compared : Comparison
  compared =
      comparison_of (data_of one.accepted.book.flat) (book_canon one.accepted.book) one.accepted.spec begun.spec
      (state_of one.accepted.start) (state_of begun.start)

  left_begins : state_of one.accepted.start ≡ first.spec.body
  left_begins =
      h.holds.begins
      ∙ body_begins _ (map (book_canon one.accepted.book) first.values) _
      (ap (λ (s : Specification). s.parameters) h.holds.spec_is ∙ h.text_is.no_parameters)
      (ap (λ (ts : List Term). map (book_canon one.accepted.book) ts) h.text_is.no_values)
      ∙ ap (λ (s : Specification). s.body) h.holds.spec_is

  same_comparison : compared ≡ comparison_by (book_canon one.accepted.book) first other
  same_comparison =
      let data_is : data_of one.accepted.book.flat ≡ first.data_ = h.holds.data_is in
      let left : specification_of one.accepted.spec ≡ first.spec = h.holds.spec_is in
      let right : specification_of begun.spec ≡ other.spec = over.spec_is in
      let begins : state_of one.accepted.start ≡ first.spec.body = left_begins in
      let ends : state_of begun.start ≡ other.spec.body = over.begins in
      (λ i. record {
        data_ = data_is i;
        canon = book_canon one.accepted.book;
        left = left i;
        right = right i;
        left_start = begins i;
        right_start = ends i;
      })

  comparable : IsComparable compared
  comparable = record {
    left = record {
      signature = h.holds.well_formed.signature;
      is_canon = book_is_canon one.accepted.book;
      well_formed = h.holds.over.well_formed;
      closed = h.holds.state.closed;
    };
    right = record {
      signature = h.holds.well_formed.signature;
      is_canon = book_is_canon one.accepted.book;
      well_formed = over.over.well_formed;
      closed = over.state.closed;
    };
  }

  judged_so : (lines : List CertificateLine) (outcome : CertificateOutcome) → CertificateComesTo compared lines outcome
      → IsJudged first other lines outcome
  judged_so lines outcome comes = record {
    canon = book_canon one.accepted.book;
    canonical = (
      precedence_in one.accepted.book.joined.rules,
      rules_in one.accepted.book.joined.rules,
      h.holds.opened,
      book_chooses one.accepted.book,
    );
    comparable = subst (λ (c : Comparison). IsComparable c) same_comparison comparable;
    comes_to = subst (λ (c : Comparison). CertificateComesTo c lines outcome) same_comparison comes;
  }

  module _ (now : ShelfState) (lines : List CertificateLine) (answer : Result Alone CodeNoMemory) where
    pub judged_yes : (number : ℕ) → CertificateComesTo compared lines (accepted number)
        → IfOk answer (λ (alone : Alone). (alone.text.items ≡ bisimilar_text number) × (alone.ended ≡ Done))
        → IsAnswered (JudgesThen first other lines) now now answer
    judged_yes number comes made =
        answered (JudgesThen first other lines) now now _ answer made
        (λ alone is. printed_then now now (JudgesLines first other lines) (λ n. Has (prints (bisimilar_printed n))) now number alone
        (looked now (IsProof first other lines) (IsNoProof first other lines) refused_printed number
        (judged_so lines (accepted number) comes)) (
          goes_on (prints (bisimilar_printed number)),
          has_done Print now (prints (bisimilar_printed number)),
          ap (λ (it : Print). Some it) (sym (print_is alone (bisimilar_text number) Done is.0 is.1)),
        ))
        (lines_want first other now lines)

    no_with : (fault : CertificateFault) (alone : Alone) → CertificateComesTo compared lines (refused fault)
        → print_in alone ≡ refused_printed (faulty fault) → IsPrinted (JudgesThen first other lines) now now alone
    no_with fault alone comes is =
        printed_stop now now (JudgesLines first other lines) (λ n. Has (prints (bisimilar_printed n))) (refused_printed (faulty fault)) alone
        (look_stops now (IsProof first other lines) (IsNoProof first other lines) refused_printed (faulty fault)
        (fault, judged_so lines (refused fault) comes, refl)) is

    no_of : (fault : PairsFault) (alone : Alone) → TellsPairs (λ f. CertificateComesTo compared lines (refused f)) fault
        → IsPairsFaultPrinted fault (print_in alone) → IsPrinted (JudgesThen first other lines) now now alone
    no_of (pairs_fault.NoState line) alone told is = no_with (no_state line) alone told is
    no_of (pairs_fault.NoEntry line) alone told is = no_with (no_entry line) alone told is
    no_of (pairs_fault.OpenMenu line) alone told is = no_with (open_menu line) alone told is
    no_of pairs_fault.NoStartPair alone told is = no_with no_start_pair alone told is
    no_of (pairs_fault.Unmatched line right entry) alone told is = no_with (unmatched_on right line entry) alone told is
    no_of pairs_fault.NoMemory alone told is = absurd is

    pub judged_no : (fault : PairsFault) → TellsPairs (λ f. CertificateComesTo compared lines (refused f)) fault
        → IfOk answer (λ (alone : Alone). IsPairsFaultPrinted fault (print_in alone))
        → IsAnswered (JudgesThen first other lines) now now answer
    judged_no fault told made =
        answered (JudgesThen first other lines) now now _ answer made (λ alone is. no_of fault alone told is)
        (lines_want first other now lines)
