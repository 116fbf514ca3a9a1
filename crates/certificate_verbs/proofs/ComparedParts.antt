-- What comes of the words that check a certificate of bisimulation: how they stop, and how they go on.
use Rattle.std.proofs.Common.{◌≡◌, ◌⊎◌, inl, inr, ℕ, List, [], ◌∷◌, ◌++◌, None, refl, sym, ap, ◌∙◌, subst}
use Rattle.std.proofs.lemmas.List.{append-nil}
use Rattle.bisim_check.specs.LineTexts.{ArePairLines}
use Rattle.certificate_theory.specs.Certificate.{CertificateLine, accepted}
use Rattle.certificate_theory.specs.SameData.{AreSameData}
use Rattle.command_words.specs.HandedOn.{Acceptance, IsAccepted, asked_acceptance, GotFile, Comes, goes_on, unread, stops, wants_memory, Part}
use Rattle.command_words.specs.HandedOn.{Then, Has, Looks, GetsFile, is_got, is_lacking, is_wanting}
use Rattle.command_words.specs.Words.{Compared}
use Rattle.certificate_verbs.specs.Certificates.{refused_printed, bisimilar_printed}
use Rattle.certificate_verbs.specs.Comparing.{IsJudged, IsSameIn, IsOtherIn, ComparesData, IsCertificate, IsNoCertificate, ReadsCertificate, IsProof, IsNoProof, JudgesLines, AcceptsNamed, JudgesThen, ReadsThen, GetsThen, ComparesThen, AcceptsThen, ChecksCertificate}
use Rattle.certificate_verbs.specs.Finishing.{Print, Finish, prints}
use Rattle.certificate_verbs.specs.declared.ended.Ended.{Ended}
use Rattle.certificate_verbs.specs.declared.ended.Ended.TheVariants.{Done, SpecRefused, CertificateRefused}

-- ---- How the parts stop

-- a specification or the certificate is refused
abbrev pub IsRefusal : Ended → Type 0
IsRefusal status = (status ≡ SpecRefused) ⊎ (status ≡ CertificateRefused)

abbrev pub Refuses : {B : Type 0} → Part Print B → Type 0
Refuses part = (files : List GotFile) (p : Print) → part files (stops p) → IsRefusal p.status

pub no_refusal : (status : Ended) → IsRefusal status → status ≡ Done → ⊥
no_refusal status (inl is) done = cc (is, done)
no_refusal status (inr is) done = cc (is, done)

pub then_refuses : {A B : Type 0} (First : Part Print A) (next : A → Part Print B) → Refuses First → ((a : A) → Refuses (next a))
    → Refuses (Then First next)
then_refuses First next first later files p (inl ended) = first files p ended
then_refuses First next first later files p (inr then_) = later then_.0 then_.2 p then_.4

pub has_refuses : {B : Type 0} (b : B) → Refuses (Has b)
has_refuses b files p is = absurd is

pub looks_refuses : {F B : Type 0} (IsFine : B → Type 0) (IsFault : F → Type 0) (tell : F → Print)
    → ((fault : F) → IsRefusal (tell fault).status) → Refuses (Looks IsFine IsFault tell)
looks_refuses IsFine IsFault tell told files p is =
    subst (λ (it : Print). IsRefusal it.status) (sym is.1.2) (told is.1.0)

pub named_refuses : (name : List ℕ) → Refuses (AcceptsNamed name)
named_refuses name files p is = subst (λ (it : Print). IsRefusal it.status) (sym is.2) (inl refl)

-- a file that is got is not refused
abbrev IsNoStop : {E B : Type 0} → Comes E B → Type 0
IsNoStop (goes_on b) = Unit {0}
IsNoStop (unread name) = Unit {0}
IsNoStop (stops e) = ⊥
IsNoStop wants_memory = Unit {0}

gets_on : {name : List ℕ} {files : List GotFile} {comes : Comes Print (List ℕ)} → GetsFile name files comes → IsNoStop comes
gets_on (is_got bytes) = tt
gets_on is_lacking = tt
gets_on is_wanting = tt

pub gets_refuses : (name : List ℕ) → Refuses (GetsFile name)
gets_refuses name files p is = absurd (gets_on is)

judges_refuses : (one other : Acceptance) (lines : List CertificateLine) → Refuses (JudgesThen one other lines)
judges_refuses one other lines =
    then_refuses (JudgesLines one other lines) (λ number. Has (prints (bisimilar_printed number)))
    (looks_refuses (IsProof one other lines) (IsNoProof one other lines) refused_printed (λ r. inr refl))
    (λ number. has_refuses (prints (bisimilar_printed number)))

reads_refuses : (one other : Acceptance) (text : List ℕ) → Refuses (ReadsThen one other text)
reads_refuses one other text =
    then_refuses (ReadsCertificate text) (λ lines. JudgesThen one other lines)
    (looks_refuses (IsCertificate text) (IsNoCertificate text) refused_printed (λ r. inr refl))
    (λ lines. judges_refuses one other lines)

compares_refuses : (one other : Acceptance) (pairs : List ℕ) → Refuses (ComparesThen one other pairs)
compares_refuses one other pairs =
    then_refuses (ComparesData one other) (λ _. GetsThen one other pairs)
    (looks_refuses (IsSameIn one other) (IsOtherIn one other) refused_printed (λ r. inr refl))
    (λ _. then_refuses (GetsFile pairs) (λ text. ReadsThen one other text) (gets_refuses pairs)
    (λ text. reads_refuses one other text))

pub checks_refuses : (c : Compared) (files : List GotFile) (p : Print) → ChecksCertificate c files (stops p) → IsRefusal p.status
checks_refuses c =
    then_refuses (AcceptsNamed c.spec) (λ one. AcceptsThen one c.other c.pairs) (named_refuses c.spec)
    (λ one. then_refuses (AcceptsNamed c.other) (λ other. ComparesThen one other c.pairs) (named_refuses c.other)
    (λ other. compares_refuses one other c.pairs))

-- ---- How they go on

-- the first part went on, and then the next one
pub record WentOn {A B : Type 0} (First : Part Print A) (next : A → Part Print B) (files : List GotFile) (b : B) : Type 0 where
  pub a : A
  pub got : List GotFile
  pub later : List GotFile
  pub first : First got (goes_on a)
  pub then_ : next a later (goes_on b)
  pub all_files : files ≡ got ++ later

pub went_on : {A B : Type 0} (First : Part Print A) (next : A → Part Print B) (files : List GotFile) (b : B)
    → Then First next files (goes_on b) → WentOn First next files b
went_on First next files b (inl ended) = absurd ended
went_on First next files b (inr it) =
    record { a = it.0; got = it.1; later = it.2; first = it.3; then_ = it.4; all_files = it.5 }

pub joined_none : (got later : List GotFile) → got ≡ [] → later ≡ [] → got ++ later ≡ []
joined_none got later none none_later = λ i. none i ++ none_later i

joined_next : (got later : List GotFile) → got ≡ [] → got ++ later ≡ later
joined_next got later none = λ i. none i ++ later

pub joined_one : (got later files : List GotFile) → got ≡ files → later ≡ [] → got ++ later ≡ files
joined_one got later files is none = (λ i. is i ++ none i) ∙ append-nil files

pub got_file : {name : List ℕ} {files : List GotFile} {bytes : List ℕ} → GetsFile {E = Print} name files (goes_on bytes)
    → files ≡ record { name = name; bytes = bytes } ∷ []
got_file (is_got bytes) = refl

-- what was printed, and for what
pub record IsYes (c : Compared) (files : List GotFile) (finish : Finish) : Type 0 where
  pub number : ℕ
  pub finishes : finish ≡ prints (bisimilar_printed number)
  pub one : Acceptance
  pub other : Acceptance
  pub files_of_one : List GotFile
  pub files_of_other : List GotFile
  pub one_accepted : IsAccepted (asked_acceptance c.spec None []) files_of_one (goes_on one)
  pub other_accepted : IsAccepted (asked_acceptance c.other None []) files_of_other (goes_on other)
  pub same : AreSameData one.data_ other.data_
  pub text : List ℕ
  pub lines : List CertificateLine
  pub certificate : ArePairLines text lines
  pub all_files : files ≡ files_of_one ++ (files_of_other ++ (record { name = c.pairs; bytes = text } ∷ []))
  pub judged : IsJudged one other lines (accepted number)

pub checks_on : (c : Compared) (files : List GotFile) (finish : Finish) → ChecksCertificate c files (goes_on finish)
    → IsYes c files finish
checks_on c files finish came =
    let one = went_on (AcceptsNamed c.spec) (λ x. AcceptsThen x c.other c.pairs) files finish came in
    let other = went_on (AcceptsNamed c.other) (λ x. ComparesThen one.a x c.pairs) one.later finish one.then_ in
    let data_ = went_on (ComparesData one.a other.a) (λ _. GetsThen one.a other.a c.pairs) other.later finish other.then_ in
    let text = went_on (GetsFile c.pairs) (λ x. ReadsThen one.a other.a x) data_.later finish data_.then_ in
    let lines = went_on (ReadsCertificate text.a) (λ x. JudgesThen one.a other.a x) text.later finish text.then_ in
    let last = went_on (JudgesLines one.a other.a lines.a) (λ x. Has (prints (bisimilar_printed x))) lines.later finish lines.then_ in
    let none : lines.later ≡ [] = last.all_files ∙ joined_none last.got last.later last.first.0 last.then_.0 in
    let file : data_.later ≡ record { name = c.pairs; bytes = text.a } ∷ [] =
    text.all_files
    ∙ joined_one text.got text.later (record { name = c.pairs; bytes = text.a } ∷ []) (got_file text.first)
    (lines.all_files ∙ joined_none lines.got lines.later lines.first.0 none)
    in
    record {
      number = last.a;
      finishes = last.then_.1;
      one = one.a;
      other = other.a;
      files_of_one = one.got;
      files_of_other = other.got;
      one_accepted = one.first;
      other_accepted = other.first;
      same = data_.first.1.1;
      text = text.a;
      lines = lines.a;
      certificate = lines.first.1.1;
      all_files = one.all_files
          ∙ ap (λ (it : List GotFile). one.got ++ it)
          (other.all_files
          ∙ ap (λ (it : List GotFile). other.got ++ it)
          (data_.all_files ∙ joined_next data_.got data_.later data_.first.0 ∙ file));
      judged = last.first.1;
    }
