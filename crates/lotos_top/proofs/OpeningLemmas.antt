-- What is ready by what came of the acceptance.
use Rattle.std.proofs.Common.{◌≡◌, inl, inr, ℕ, zero, List, [], ◌∷◌, map, All, Option, None, Some, IfSome, IsSomeAnd, Result, Ok, Err, IfOk, MatchResult, codes, refl, sym, ap, ◌∙◌, subst, arith}
use Rattle.std.proofs.lemmas.Option.{none-some}
use Rattle.lotos_base.specs.MemShelf.{File, text_under, texts_of, shelf_state}
use Rattle.lotos_base.specs.Outside.{Texts}
use Rattle.certificate_verbs.specs.HandedOn.{ShelfState, GotFile, IsFileOf, Refused, Acceptance, Asked}
use Rattle.certificate_verbs.specs.HandedOn.{AcceptsText, IsAccepted, goes_on, unread, stops, wants_memory, Part, Has, Did, Failed}
use Rattle.certificate_verbs.specs.HandedOn.{NotAccepted, File as Lacking, Spec, NoMemory, IsSummary, demo_text, past_of, progress_of}
use Rattle.certificate_verbs.specs.HandedOn.{Course, Past, Beginning, CommandLine, check, session, demonstration, usage_text}
use Rattle.certificate_verbs.proofs.HandedOn.{did_then, has_done, wants_nothing, failed_first, gives_nothing}
use Rattle.lotos_base.specs.declared.memory_shelf.MemShelf.{MemShelf}
use Rattle.certificate_verbs.specs.Printed.{print_in, IsFaultPrinted}
use Rattle.certificate_verbs.specs.Finishing.{Print, print, prints, serves, refusal_printed}
use Rattle.certificate_verbs.specs.declared.printing.Alone.{Alone}
use Rattle.certificate_verbs.specs.declared.ended.Ended.TheVariants.{Done, WordsRefused}
use Rattle.certificate_verbs.proofs.PrintedLemmas.{print_is, goes_on_to}
use Rattle.lotos_top.specs.Opening.{SessionBegins, opening_text}
use Rattle.lotos_top.specs.Prepared.{begun, CameTo, IsReady, IsMadeReady, FailsAlone, NamesNoFile}
use Rattle.lotos_top.specs.Parts.{Finds, OpensSession}
use Rattle.lotos_top.specs.Work.{work_of}
use Rattle.lotos_top.specs.declared.opening.Opened.{Opened}
use Rattle.lotos_top.specs.declared.opening.Ready.{Ready}
use Rattle.lotos_top.specs.declared.opening.Ready.TheVariants as ready
use Rattle.lotos_top.proofs.WorkLemmas.{found, opened_on}

-- ---- A text that is made ready

-- it is ready where it was made, and memory was wanted where it was not
pub made_ready : {E : Type 0} (made : Result Alone E) (given : Result Ready E) (Is : Alone → Type 0) (P : Ready → Type 0) (Q : Type 0)
    → IsMadeReady made given → IfOk made Is → ((alone : Alone) → Is alone → P (ready.Alone alone)) → Q
    → MatchResult given P (λ _. Q)
made_ready (Ok alone) given Is P Q is held good came = subst (λ it. MatchResult it P (λ _. Q)) (sym is) (good alone held)
made_ready (Err fault) given Is P Q is held good came = subst (λ it. MatchResult it P (λ _. Q)) (sym is) came

-- ---- What was accepted is opened

-- its session begins
pub did_open : (a b : ShelfState) (accepts : Part Refused Acceptance) (acceptance : Acceptance) (begins : Beginning)
    → Did a b accepts (goes_on acceptance) → SessionBegins acceptance begins → Did a b (OpensSession accepts) (goes_on begins)
did_open a b accepts acceptance begins did is =
    did_then a b b accepts (λ (it : Acceptance). Finds (SessionBegins it)) acceptance (goes_on begins) did
    (found Refused b (SessionBegins acceptance) begins is)

-- memory was wanted for it
pub want_to_open : (a b : ShelfState) (accepts : Part Refused Acceptance) (acceptance : Acceptance) → Did a b accepts (goes_on acceptance)
    → Failed a b (OpensSession accepts) NoMemory
want_to_open a b accepts acceptance did =
    did_then a b b accepts (λ (it : Acceptance). Finds (SessionBegins it)) acceptance wants_memory did
    (wants_nothing {E = Refused} b (Finds (SessionBegins acceptance)) refl)

-- it was not accepted
pub open_failed : (a b : ShelfState) (accepts : Part Refused Acceptance) (fault : NotAccepted) → Failed a b accepts fault
    → Failed a b (OpensSession accepts) fault
open_failed a b accepts fault failed = failed_first a b accepts (λ (it : Acceptance). Finds (SessionBegins it)) fault failed

-- ---- The lines of words

-- `check` and `run` of what is accepted
pub checked_came : (asked : Asked) (before after : ShelfState) (begins : Beginning)
    → Did before after (OpensSession (IsAccepted asked)) (goes_on begins)
    → Did before after (work_of (Some (check asked))) (goes_on (prints (print (opening_text begins) Done)))
checked_came asked before after begins did =
    goes_on_to asked.spec asked.order (OpensSession (IsAccepted asked)) (λ (it : Beginning). Has (prints (print (opening_text it) Done)))
    before after begins (prints (print (opening_text begins) Done)) did (has_done Print after (prints (print (opening_text begins) Done)))

pub checked_ready : (asked : Asked) (before after : ShelfState) (opened : Opened) (alone : Alone)
    → Did before after (OpensSession (IsAccepted asked)) (goes_on (begun opened)) → alone.text.items ≡ opening_text (begun opened)
    → alone.ended ≡ Done → IsReady (Some (check asked)) before after (ready.Alone alone)
checked_ready asked before after opened alone did text ended = (
  goes_on (prints (print (opening_text (begun opened)) Done)),
  checked_came asked before after (begun opened) did,
  ap (λ (it : Print). Some it) (sym (print_is alone (opening_text (begun opened)) Done text ended)),
)

pub session_came : (asked : Asked) (before after : ShelfState) (begins : Beginning)
    → Did before after (OpensSession (IsAccepted asked)) (goes_on begins)
    → Did before after (work_of (Some (session asked))) (goes_on (serves begins))
session_came asked before after begins did =
    goes_on_to asked.spec asked.order (OpensSession (IsAccepted asked)) (λ (it : Beginning). Has (serves it)) before after begins
    (serves begins)
    did (has_done Print after (serves begins))

-- words that are no line
pub no_line_ready : (line : Option CommandLine) (now : ShelfState) (alone : Alone) → line ≡ None → alone.text.items ≡ usage_text
    → alone.ended ≡ WordsRefused → IsReady line now now (ready.Alone alone)
no_line_ready line now alone none text ended =
    subst (λ (it : Option CommandLine). IsReady it now now (ready.Alone alone)) (sym none) (
      goes_on (prints (print usage_text WordsRefused)),
      has_done Print now (prints (print usage_text WordsRefused)),
      ap (λ (it : Print). Some it) (sym (print_is alone usage_text WordsRefused text ended)),
    )

pub no_line_came : (line : Option CommandLine) (now : ShelfState) → line ≡ None → CameTo line now now
no_line_came line now none =
    subst (λ (it : Option CommandLine). CameTo it now now) (sym none)
    (wants_memory, wants_nothing now (work_of None) refl)

-- ---- A demonstration

-- a shelf that tells its texts and has none
pub record HasNoFiles (shelf : ShelfState) : Type 0 where
  pub texts : Texts
  pub told : shelf.texts ≡ Some texts
  pub none : (name : List ℕ) → texts name ≡ None

-- such is one in memory that has no files
pub no_files : (shelf : MemShelf) (files : List File) → texts_of shelf ≡ text_under files → files ≡ []
    → HasNoFiles (shelf_state shelf)
no_files shelf files texts none = record {
  texts = texts_of shelf;
  told = refl;
  none = λ name. ap (λ (f : Texts). f name) (texts ∙ ap text_under none);
}

no_text : (text : Option (List ℕ)) (P : List ℕ → Type 0) → text ≡ None → IsSomeAnd text P → ⊥
no_text None P none is = is
no_text (Some text) P none is = none-some text (sym none)

files_none : (shelf : ShelfState) (files : List GotFile) → HasNoFiles shelf → All (IsFileOf shelf.texts) files → files ≡ []
files_none shelf [] has all = refl
files_none shelf (file ∷ files) has all =
    let there : IsFileOf (Some has.texts) file =
    subst (λ (it : Option Texts). IsFileOf it file) has.told (all zero file (omega arith)) in
    absurd (no_text (has.texts file.name) _ (has.none file.name) there)

pub alone_on : {E B : Type 0} (before after : ShelfState) (part : Part E B) (b : B) → HasNoFiles before → Did before after part (goes_on b)
    → part [] (goes_on b)
alone_on before after part b has did =
    subst (λ (it : List GotFile). part it (goes_on b)) (files_none before did.0 has did.1.content) did.2

pub alone_failed : {B : Type 0} (before after : ShelfState) (part : Part Refused B) (fault : NotAccepted) → HasNoFiles before
    → Failed before after part fault → FailsAlone part fault
alone_failed before after part (Lacking name) has failed =
    subst (λ (it : List GotFile). part it (unread name.items)) (files_none before failed.0 has failed.1.content) failed.2
alone_failed before after part (Spec r) has failed = (
  failed.0,
  failed.1,
  subst (λ (it : List GotFile). part it (stops failed.0)) (files_none before failed.2.0 has failed.2.1.content) failed.2.2,
)
alone_failed before after part NoMemory has failed = tt

module _ (cells : ℕ) (now : ShelfState) where
  abbrev Accepts : Part Refused Acceptance
  Accepts = AcceptsText (demo_text cells) None []

  pub demo_ready : (opened : Opened) (alone : Alone) → OpensSession Accepts [] (goes_on (begun opened))
      → IsSummary (begun opened).basis (begun opened).progress.situation cells alone.text.items → alone.ended ≡ Done
      → IsReady (Some (demonstration cells)) now now (ready.Alone alone)
  demo_ready opened alone opens summary ended = (
    goes_on (prints (print_in alone)),
    (
      [],
      gives_nothing now,
      (refl, inr (begun opened, [], [], opens, (refl, (summary, ended)), refl)),
    ),
    refl,
  )

  pub demo_fault : (fault : NotAccepted) (alone : Alone) → FailsAlone (OpensSession Accepts) fault → NamesNoFile fault
      → IsFaultPrinted (codes "demo") None fault (print_in alone) → IsReady (Some (demonstration cells)) now now (ready.Alone alone)
  demo_fault (Lacking name) alone failed none is = absurd none
  demo_fault (Spec r) alone failed none is = (
    stops (print_in alone),
    (
      [],
      gives_nothing now,
      (
        refl,
        inl (
          failed.0,
          failed.2,
          subst (λ (found_ : Option Refused). IfSome found_ (λ it. print_in alone ≡ refusal_printed (codes "demo") None it)) failed.1 is,
        ),
      ),
    ),
    refl,
  )
  demo_fault NoMemory alone failed none is = absurd is

  pub demo_came : CameTo (Some (demonstration cells)) now now
  demo_came = (wants_memory, wants_nothing now (work_of (Some (demonstration cells))) refl)

-- the session of what was opened has taken no step
no_history : (course : Course) → (progress_of course).steps ≡ [] → course.history.items ≡ []
no_history course none = by course.history.items none
  where
    by : (pasts : List Past) → map past_of pasts ≡ [] → pasts ≡ []
    by [] e = refl
    by (past ∷ pasts) e = absurd (cc e)

pub opened_at_start : (accepts : Part Refused Acceptance) (opened : Opened) → OpensSession accepts [] (goes_on (begun opened))
    → opened.session.course.history.items ≡ []
opened_at_start accepts opened opens =
    no_history opened.session.course (opened_on accepts [] (begun opened) opens).begins.can_begin.at_start
