-- Each answer of a run comes where its cause stands.
use Rattle.std.proofs.Common.{◌≡◌, ◌⊎◌, inl, inr, ℕ, ◌+◌, ◌<◌, ◌≤◌, List, [], ◌∷◌, ◌++◌, length, Option, None, Some, IfSome, refl, sym, ap, subst, ◌∙◌, arith, length-append}
use Rattle.std.proofs.lemmas.Option.{none-some}
use Rattle.lotos_base.specs.Counts.{Rises, next_count}
use Rattle.lotos_base.specs.Outside.{Texts, Stream, Stands, Fails}
use Rattle.lotos_base.proofs.Streams.{stands_then, fails_then}
use Rattle.certificate_verbs.specs.HandedOn.{ShelfState, GotFile, Refused, Asked, Founded, IsAccepted, IsFounded, Did, Comes, goes_on}
use Rattle.certificate_verbs.specs.HandedOn.{unread, stops, wants_memory, Part, Then, Has, Telling, SessionPoint, history_machine}
use Rattle.certificate_verbs.specs.HandedOn.{Beginning, CommandLine, Compared, check, session, demonstration, flattening, bisimilarity}
use Rattle.certificate_verbs.specs.HandedOn.{Induced, induction, Gives, GivesSome, calls_after}
use Rattle.line_server.specs.Limits.{input_limit}
use Rattle.line_server.specs.Session.{SessionCame, finished, quit, input_failed, too_long, output_failed, closing_failed, wanted_memory, FailsToClose, of_failed_input, of_long_input, ReadsPastLimit}
use Rattle.line_server.specs.Turn.{around, IsReadOfInput}
use Rattle.line_server.specs.Writing.{WritesAll}
use Rattle.line_server.specs.declared.ends.SessionEnd.{SessionEnd}
use Rattle.line_server.proofs.ReadBytes.{reads_stand, all_ends, fault_fails, past_stands, past_left, past_raised}
use Rattle.certificate_verbs.specs.Certificates.{bisimilar_printed}
use Rattle.certificate_verbs.specs.Finishing.{Print, print, Finish, prints, serves, unread_printed, refusal_printed}
use Rattle.certificate_verbs.specs.declared.ended.Ended.{Ended}
use Rattle.certificate_verbs.specs.declared.ended.Ended.TheVariants.{Done, SpecRefused, WordsRefused, FileFault, InputFault, OutputFault, NoMemory, InputTooLong, CertificateRefused}
use Rattle.certificate_verbs.proofs.ComparedParts.{checks_on, checks_refuses, no_refusal}
use Rattle.certificate_verbs.proofs.InducedParts.{induces_on, induces_refuses}
use Rattle.lotos_top.specs.Causes.{GivesWay, IsReadPast, TakesPast, CallsEnd, ServesLines, IsDemonstration, IsUnread, IsUnreadPrinted, AnswersHaveCauses}
use Rattle.lotos_top.specs.Flattening.{flat_printed}
use Rattle.lotos_top.specs.Opening.{opening_text}
use Rattle.lotos_top.specs.Parts.{OpensSession}
use Rattle.lotos_top.specs.Run.{Streams, Writes, whole, in_part, nothing, Prints, ServesSession, in_front, in_want, behind, Stops, FollowsFromWork, Ran, ended_by}
use Rattle.lotos_top.specs.Work.{work_of}
use Rattle.lotos_top.proofs.CallLemmas.{Took, took_none, took_some, took_all, took_up_to, took_past, took_brought, brought_counts, not_past, calls_end, kept_stands}

-- ---- A text that is printed

-- the status has its cause, and where a cause stands it is the status
record StatusFits (line : Option CommandLine) (shelf between : ShelfState) (p : Print) : Type 0 where
  pub words : p.status ≡ WordsRefused → line ≡ None
  pub no_line : line ≡ None → p.status ≡ WordsRefused
  pub files : p.status ≡ FileFault → (name : List ℕ) × IsUnread line shelf between name × (p ≡ unread_printed name)
  pub shelf_fault : shelf.faults < between.faults → p.status ≡ FileFault
  pub input : p.status ≡ InputFault → ⊥
  pub output : p.status ≡ OutputFault → ⊥
  pub long : p.status ≡ InputTooLong → ⊥

-- nothing was asked of the shelf, and no file is lacking
record FindsNoFile (shelf between : ShelfState) (p : Print) : Type 0 where
  pub status : p.status ≡ FileFault → ⊥
  pub kept : between ≡ shelf

-- which answer a print comes to
record WroteSo (p : Print) (before after : Stream) (answer : Ended) : Type 0 where
  pub is : (answer ≡ p.status) ⊎ GivesWay answer
  pub text : (answer ≡ OutputFault → ⊥) → (answer ≡ NoMemory → ⊥) → WritesAll before.bytes after.bytes p.text
  pub output : answer ≡ OutputFault → (p.status ≡ OutputFault → ⊥) → Rises before.faults after.faults
  pub output_fault : before.faults < after.faults → answer ≡ OutputFault
  pub calls : Stands before after ⊎ Fails before after

wrote_so : (p : Print) (before after : Stream) (answer : Ended) → Writes p before after answer → WroteSo p before after answer
wrote_so p before after answer (whole is wrote same) = record {
  is = inl is;
  text = λ _ _. wrote;
  output = λ failed not. absurd (not (sym is ∙ failed));
  output_fault = λ rose. absurd (omega (arith, same.faults, rose));
  calls = inl same;
}
wrote_so p before after answer (in_part is wrote fails) = record {
  is = inr (inl is);
  text = λ not _. absurd (not is);
  output = λ failed not. fails.faults;
  output_fault = λ rose. is;
  calls = inr fails;
}
wrote_so p before after answer (nothing is same) = record {
  is = inr (inr is);
  text = λ _ not. absurd (not is);
  output = λ failed not. absurd (cc (is, failed));
  output_fault = λ rose. absurd (omega (arith, ap (λ (it : Stream). it.faults) same, rose));
  calls = inl (kept_stands before after same);
}

or_gives_way : (answer status wanted : Ended) → (answer ≡ status) ⊎ GivesWay answer → status ≡ wanted → (answer ≡ wanted) ⊎ GivesWay answer
or_gives_way answer status wanted (inl is) same = inl (is ∙ same)
or_gives_way answer status wanted (inr gives) same = inr gives

-- an answer that gives way is none of these
by_status : {P : Type 0} (answer status wanted : Ended) → (answer ≡ status) ⊎ GivesWay answer → answer ≡ wanted
    → (wanted ≡ OutputFault → ⊥) → (wanted ≡ NoMemory → ⊥) → (status ≡ wanted → P) → P
by_status answer status wanted (inl is) same no_output no_memory so = so (sym is ∙ same)
by_status answer status wanted (inr (inl is)) same no_output no_memory so = absurd (no_output (sym same ∙ is))
by_status answer status wanted (inr (inr is)) same no_output no_memory so = absurd (no_memory (sym same ∙ is))

printed_causes : (line : Option CommandLine) (shelf between shelf_after : ShelfState) (before after : Streams) (answer : Ended) (p : Print)
    → between.texts ≡ shelf.texts → StatusFits line shelf between p → (IsDemonstration line → FindsNoFile shelf between p)
    → Prints p between shelf_after before after answer → AnswersHaveCauses line shelf shelf_after before after answer
printed_causes line shelf between shelf_after before after answer p kept fits finds done =
    let so = wrote_so p before.output after.output answer done.writes in record {
      words = λ is. by_status answer p.status WordsRefused so.is is (λ e. cc e) (λ e. cc e) fits.words;
      no_line = λ none. or_gives_way answer p.status WordsRefused so.is (fits.no_line none);
      files = λ is. unread_so is (by_status answer p.status FileFault so.is is (λ e. cc e) (λ e. cc e) fits.files);
      no_file = λ demo. (
        λ is. (finds demo).status (by_status answer p.status FileFault so.is is (λ e. cc e) (λ e. cc e) (λ e. e)),
        done.shelf_kept ∙ (finds demo).kept,
      );
      shelf_fault = λ rose. by_gives (or_gives_way answer p.status FileFault so.is (fits.shelf_fault (omega (
        arith,
        rose,
        ap (λ (it : ShelfState). it.faults) done.shelf_kept,
      ))));
      input = λ is. by_status answer p.status InputFault so.is is (λ e. cc e) (λ e. cc e) (λ e. absurd (fits.input e));
      input_fault = λ rose. absurd (omega (arith, ap (λ (it : Stream). it.faults) done.input_kept, rose));
      output = λ is. so.output is fits.output;
      output_fault = so.output_fault;
      long = λ is. by_status answer p.status InputTooLong so.is is (λ e. cc e) (λ e. cc e) (λ e. absurd (fits.long e));
      long_read = λ past. absurd (not_past before.input after.input (took_none before.input after.input done.input_kept) past);
      calls = calls_end before after input_limit (omega arith) (took_none before.input after.input done.input_kept) so.calls;
      texts = inl (ap (λ (it : ShelfState). it.texts) done.shelf_kept ∙ kept);
    }
  where
    unread_so : answer ≡ FileFault → (name : List ℕ) × IsUnread line shelf between name × (p ≡ unread_printed name)
        → IsUnreadPrinted line shelf shelf_after before after
    unread_so is cause = record {
      name = cause.0;
      unread_is = subst (λ (it : ShelfState). IsUnread line shelf it cause.0) (sym done.shelf_kept) cause.1;
      printed = subst (λ (it : Print). WritesAll before.output.bytes after.output.bytes it.text) cause.2
          ((wrote_so p before.output after.output answer done.writes).text (λ e. cc (is, e)) (λ e. cc (is, e)));
      input_kept = done.input_kept;
    }

    by_gives : (answer ≡ FileFault) ⊎ GivesWay answer → (answer ≡ FileFault) ⊎ GivesWay answer ⊎ ServesLines line
    by_gives (inl is) = inl is
    by_gives (inr gives) = inr (inl gives)

-- ---- Statuses

-- a status that has no cause in the words and the outside
abbrev pub EndsPlainly : Ended → Type 0
EndsPlainly status = (status ≡ Done) ⊎ (status ≡ SpecRefused) ⊎ (status ≡ CertificateRefused)

plain_status : (line : Option CommandLine) (shelf between : ShelfState) (p : Print) → (line ≡ None → ⊥)
    → between.faults ≡ shelf.faults → EndsPlainly p.status → StatusFits line shelf between p
plain_status line shelf between p some kept is = record {
  words = λ e. absurd (neither WordsRefused is e (λ h. cc h) (λ h. cc h) (λ h. cc h));
  no_line = λ none. absurd (some none);
  files = λ e. absurd (neither FileFault is e (λ h. cc h) (λ h. cc h) (λ h. cc h));
  shelf_fault = λ rose. absurd (omega (arith, kept, rose));
  input = λ e. neither InputFault is e (λ h. cc h) (λ h. cc h) (λ h. cc h);
  output = λ e. neither OutputFault is e (λ h. cc h) (λ h. cc h) (λ h. cc h);
  long = λ e. neither InputTooLong is e (λ h. cc h) (λ h. cc h) (λ h. cc h);
}
  where
    neither : (other : Ended) → EndsPlainly p.status → p.status ≡ other → (other ≡ Done → ⊥) → (other ≡ SpecRefused → ⊥)
        → (other ≡ CertificateRefused → ⊥) → ⊥
    neither other (inl a) e no_done no_refusal no_certificate = no_done (sym e ∙ a)
    neither other (inr (inl b)) e no_done no_refusal no_certificate = no_refusal (sym e ∙ b)
    neither other (inr (inr d)) e no_done no_refusal no_certificate = no_certificate (sym e ∙ d)

words_status : (shelf between : ShelfState) (p : Print) → between.faults ≡ shelf.faults → p.status ≡ WordsRefused
    → StatusFits None shelf between p
words_status shelf between p kept is = record {
  words = λ e. refl;
  no_line = λ none. is;
  files = λ e. absurd (cc (is, e));
  shelf_fault = λ rose. absurd (omega (arith, kept, rose));
  input = λ e. cc (is, e);
  output = λ e. cc (is, e);
  long = λ e. cc (is, e);
}

file_status : (line : Option CommandLine) (shelf between : ShelfState) (name : List ℕ) → (line ≡ None → ⊥)
    → IsUnread line shelf between name → StatusFits line shelf between (unread_printed name)
file_status line shelf between name some cause = record {
  words = λ e. absurd (cc e);
  no_line = λ none. absurd (some none);
  files = λ e. (name, cause, refl);
  shelf_fault = λ rose. refl;
  input = λ e. cc e;
  output = λ e. cc e;
  long = λ e. cc e;
}

-- ---- A session

-- which answers a session comes to, each with its cause
record SessionFacts (before after : Streams) (answer : Ended) : Type 0 where
  pub words : answer ≡ WordsRefused → ⊥
  pub files : answer ≡ FileFault → ⊥
  pub input : answer ≡ InputFault → Rises before.input.faults after.input.faults
  pub input_fault : before.input.faults < after.input.faults → (answer ≡ InputFault) ⊎ (answer ≡ OutputFault)
  pub output : answer ≡ OutputFault → Rises before.output.faults after.output.faults
  pub output_fault : before.output.faults < after.output.faults → answer ≡ OutputFault
  pub long : answer ≡ InputTooLong → IsReadPast before.input after.input
  pub long_read : TakesPast before.input after.input → (answer ≡ InputTooLong) ⊎ (answer ≡ OutputFault)
  pub calls : CallsEnd before after

steady_facts : (before after : Streams) (answer : Ended) → (answer ≡ Done) ⊎ (answer ≡ NoMemory)
    → after.input.faults ≡ before.input.faults → Took before.input after.input input_limit → Stands before.output after.output
    → SessionFacts before after answer
steady_facts before after answer is input took output = record {
  words = λ e. neither WordsRefused is e (λ h. cc h) (λ h. cc h);
  files = λ e. neither FileFault is e (λ h. cc h) (λ h. cc h);
  input = λ e. absurd (neither InputFault is e (λ h. cc h) (λ h. cc h));
  input_fault = λ rose. absurd (omega (arith, input, rose));
  output = λ e. absurd (neither OutputFault is e (λ h. cc h) (λ h. cc h));
  output_fault = λ rose. absurd (omega (arith, output.faults, rose));
  long = λ e. absurd (neither InputTooLong is e (λ h. cc h) (λ h. cc h));
  long_read = λ past. absurd (not_past before.input after.input took past);
  calls = calls_end before after input_limit (omega arith) took (inl output);
}
  where
    neither : (other : Ended) → (answer ≡ Done) ⊎ (answer ≡ NoMemory) → answer ≡ other → (other ≡ Done → ⊥) → (other ≡ NoMemory → ⊥) → ⊥
    neither other (inl a) e no_done no_memory = no_done (sym e ∙ a)
    neither other (inr b) e no_done no_memory = no_memory (sym e ∙ b)

want_facts : (before after : Streams) (answer : Ended) → answer ≡ NoMemory → after ≡ before → SessionFacts before after answer
want_facts before after answer is same =
    steady_facts before after answer (inr is) (ap (λ (it : Streams). it.input.faults) same)
    (took_none before.input after.input (ap (λ (it : Streams). it.input) same))
    (kept_stands before.output after.output (ap (λ (it : Streams). it.output) same))

output_facts : (before after : Streams) (answer : Ended) (most : ℕ) → most ≤ input_limit + 1 → answer ≡ OutputFault
    → Took before.input after.input most → Fails before.output after.output → SessionFacts before after answer
output_facts before after answer most within is took fails = record {
  words = λ e. cc (is, e);
  files = λ e. cc (is, e);
  input = λ e. absurd (cc (is, e));
  input_fault = λ rose. inr is;
  output = λ e. fails.faults;
  output_fault = λ rose. is;
  long = λ e. absurd (cc (is, e));
  long_read = λ past. inr is;
  calls = calls_end before after most within took (inr fails);
}

input_facts : (before after : Streams) (answer : Ended) → answer ≡ InputFault → Rises before.input.faults after.input.faults
    → Took before.input after.input input_limit → Stands before.output after.output → SessionFacts before after answer
input_facts before after answer is rises took output = record {
  words = λ e. cc (is, e);
  files = λ e. cc (is, e);
  input = λ e. rises;
  input_fault = λ rose. inl is;
  output = λ e. absurd (cc (is, e));
  output_fault = λ rose. absurd (omega (arith, output.faults, rose));
  long = λ e. absurd (cc (is, e));
  long_read = λ past. absurd (not_past before.input after.input took past);
  calls = calls_end before after input_limit (omega arith) took (inl output);
}

past_told : (left left_after : Option (List ℕ)) (seen : List ℕ) (byte : ℕ) → IsReadOfInput left (seen ++ byte ∷ []) left_after
    → IfSome left (λ bytes. (read : List ℕ) × (rest : List ℕ)
    × (length read ≡ length seen + 1) × (bytes ≡ read ++ rest) × (left_after ≡ Some rest))
past_told None left_after seen byte read = tt
past_told (Some bytes) left_after seen byte read =
    (seen ++ byte ∷ [], read.0, length-append seen (byte ∷ []), read.1, read.2)

read_past : (before : Stream) (seen : List ℕ) (after : Stream) → ReadsPastLimit before seen after → IsReadPast before after
read_past before seen after past = record {
  count = length seen + 1;
  whole = ap (λ (n : ℕ). n + 1) past.whole;
  moved = past_raised before seen after past;
  told = past_told before.bytes after.bytes seen past.byte (past_left before seen after past);
}

long_facts : (before after : Streams) (answer : Ended) (seen : List ℕ) → answer ≡ InputTooLong
    → ReadsPastLimit before.input seen after.input → Stands before.output after.output → SessionFacts before after answer
long_facts before after answer seen is past output = record {
  words = λ e. cc (is, e);
  files = λ e. cc (is, e);
  input = λ e. absurd (cc (is, e));
  input_fault = λ rose. absurd (omega (arith, (past_stands before.input seen after.input past).faults, rose));
  output = λ e. absurd (cc (is, e));
  output_fault = λ rose. absurd (omega (arith, output.faults, rose));
  long = λ e. read_past before.input seen after.input past;
  long_read = λ _. inl is;
  calls = calls_end before after (input_limit + 1) (omega arith) (took_past before.input seen after.input past) (inl output);
}

-- the output failed at the closing line
closing_facts : (before after : Streams) (answer : Ended) (seen closing : List ℕ) → length seen ≤ input_limit → answer ≡ OutputFault
    → FailsToClose before.input seen after.input closing → Fails before.output after.output → SessionFacts before after answer
closing_facts before after answer seen closing within is (of_failed_input up_to) fails =
    output_facts before after answer input_limit (omega arith) is (took_up_to before.input seen after.input within up_to) fails
closing_facts before after answer seen closing within is (of_long_input past) fails =
    output_facts before after answer (input_limit + 1) (omega arith) is (took_past before.input seen after.input past) fails

came_facts : (start last : SessionPoint) (before after : Streams) (between : Stream) (seen : List ℕ) (end : SessionEnd) (answer : Ended)
    → length seen ≤ input_limit → Stands before.output between
    → SessionCame history_machine (around start before.input between) (around last after.input after.output) seen end
    → answer ≡ ended_by end → SessionFacts before after answer
came_facts start last before after between seen end answer within same (finished text quits read answered wrote stand) is =
    steady_facts before after answer (inl is) (all_ends before.input seen after.input read).faults
    (took_all before.input seen after.input within read) (stands_then before.output between after.output same stand)
came_facts start last before after between seen end answer within same (quit text read answered wrote stand) is =
    steady_facts before after answer (inl is) (reads_stand before.input seen after.input read).faults
    (took_some before.input seen after.input within read) (stands_then before.output between after.output same stand)
came_facts start last before after between seen end answer within same (input_failed text read answered wrote stand) is =
    input_facts before after answer is (fault_fails before.input seen after.input read).faults
    (took_up_to before.input seen after.input within read) (stands_then before.output between after.output same stand)
came_facts start last before after between seen end answer within same (too_long text read answered wrote stand) is =
    long_facts before after answer seen is read (stands_then before.output between after.output same stand)
came_facts start last before after between seen end answer within same (output_failed has) is =
    output_facts before after answer input_limit (omega arith) is
    (took_brought before.input after.input has.earlier seen has.lines within has.brings)
    (fails_then before.output between after.output same
    (fails_then between has.between.output after.output has.served.stands has.stops.1))
came_facts start last before after between seen end answer within same (closing_failed text closing to_close answered wrote fails) is =
    closing_facts before after answer seen closing within is to_close (fails_then before.output between after.output same fails)
came_facts start last before after between seen end answer within same (wanted_memory has) is =
    steady_facts before after answer (inr is) (brought_counts before.input after.input has.earlier seen has.lines has.brings)
    (took_brought before.input after.input has.earlier seen has.lines within has.brings)
    (stands_then before.output between after.output same
    (stands_then between has.between.output after.output has.served.stands has.stops.1))

serves_facts : (begun : Beginning) (shelf shelf_after : ShelfState) (before after : Streams) (answer : Ended)
    → ServesSession begun shelf shelf_after before after answer → SessionFacts before after answer
serves_facts begun shelf shelf_after before after answer (in_front kept input is wrote fails) =
    output_facts before after answer input_limit (omega arith) is (took_none before.input after.input input) fails
serves_facts begun shelf shelf_after before after answer (in_want kept same is) = want_facts before after answer is same
serves_facts begun shelf shelf_after before after answer (behind between last end wrote counts texts served is) =
    came_facts _ _ before after between served.seen end answer served.within counts served.came is

served_causes : (asked : Asked) (shelf between shelf_after : ShelfState) (before after : Streams) (answer : Ended) (begun : Beginning)
    → ServesSession begun between shelf_after before after answer
    → AnswersHaveCauses (Some (session asked)) shelf shelf_after before after answer
served_causes asked shelf between shelf_after before after answer begun serves_ =
    let facts = serves_facts begun between shelf_after before after answer serves_ in record {
      words = λ e. absurd (facts.words e);
      no_line = λ none. absurd (none-some (session asked) (sym none));
      files = λ e. absurd (facts.files e);
      shelf_fault = λ rose. inr (inr tt);
      no_file = λ demo. absurd demo;
      input = facts.input;
      input_fault = facts.input_fault;
      output = facts.output;
      output_fault = facts.output_fault;
      long = facts.long;
      long_read = facts.long_read;
      calls = facts.calls;
      texts = inr tt;
    }

-- ---- Memory was wanted

stopped_causes : (line : Option CommandLine) (shelf between shelf_after : ShelfState) (before after : Streams) (answer : Ended)
    → between.texts ≡ shelf.texts → between.faults ≡ shelf.faults → (IsDemonstration line → between ≡ shelf)
    → Stops between shelf_after before after answer → AnswersHaveCauses line shelf shelf_after before after answer
stopped_causes line shelf between shelf_after before after answer texts faults uncalled stopped =
    let facts = want_facts before after answer stopped.is stopped.kept in record {
      words = λ e. absurd (facts.words e);
      no_line = λ none. inr (inr stopped.is);
      files = λ e. absurd (facts.files e);
      shelf_fault = λ rose.
          absurd (omega (arith, rose, faults, ap (λ (it : ShelfState). it.faults) stopped.shelf_kept));
      no_file = λ demo. (λ e. facts.files e, stopped.shelf_kept ∙ uncalled demo);
      input = facts.input;
      input_fault = facts.input_fault;
      output = facts.output;
      output_fault = facts.output_fault;
      long = facts.long;
      long_read = facts.long_read;
      calls = facts.calls;
      texts = inl (ap (λ (it : ShelfState). it.texts) stopped.shelf_kept ∙ texts);
    }

-- ---- No file

abbrev telling : Option Texts → ℕ → ℕ → ShelfState
telling texts faults calls = record { texts = texts; faults = faults; calls = calls }

same_shelf : (a b : ShelfState) → b.texts ≡ a.texts → b.faults ≡ a.faults → b.calls ≡ a.calls → b ≡ a
same_shelf a b texts faults calls =
    ap (λ (it : Option Texts). telling it b.faults b.calls) texts
    ∙ (ap (λ (it : ℕ). telling a.texts it b.calls) faults ∙ ap (λ (it : ℕ). telling a.texts a.faults it) calls)

calls_none : (files : List GotFile) (calls : ℕ) → files ≡ [] → calls_after files calls ≡ calls
calls_none files calls none = ap (λ (it : List GotFile). calls_after it calls) none

given_none : (a b : ShelfState) (files : List GotFile) → files ≡ [] → Gives a b files → b ≡ a
given_none a b files none gives =
    same_shelf a b gives.texts gives.faults (gives.calls ∙ calls_none files a.calls none)

given_some : (a b : ShelfState) (files : List GotFile) (More : Type 0) → files ≡ [] → (More → ⊥) → GivesSome a b files More → b ≡ a
given_some a b files More none no_more gives = same_shelf a b gives.texts gives.faults (by gives.calls)
  where
    by : (b.calls ≡ calls_after files a.calls) ⊎ (More × (b.calls ≡ next_count (calls_after files a.calls))) → b.calls ≡ a.calls
    by (inl is) = is ∙ calls_none files a.calls none
    by (inr asks) = absurd (no_more asks.0)

-- ---- The lines of words

some_line : (line : CommandLine) → Some line ≡ None → ⊥
some_line line e = none-some line (sym e)

status_same : (p q : Print) → p ≡ q → p.status ≡ q.status
status_same p q same = ap (λ (it : Print). it.status) same

print_same : (p q : Print) → prints p ≡ prints q → p ≡ q
print_same p q e = cc e

prints_and_serves : (p : Print) (begun : Beginning) → prints p ≡ serves begun → ⊥
prints_and_serves p begun e = cc e

-- texts alone come of the part, with such statuses
record PrintsPlainly (part : Part Print Finish) : Type 0 where
  pub finishes : (files : List GotFile) (finish : Finish) → part files (goes_on finish)
      → (p : Print) × (finish ≡ prints p) × EndsPlainly p.status
  pub refuses : (files : List GotFile) (p : Print) → part files (stops p) → EndsPlainly p.status

-- so it is where something comes of a specification, and a text is printed for it
told_plainly : {A : Type 0} (tell : Refused → Print) (part : Part Refused A) (made : A → Print)
    → ((r : Refused) → EndsPlainly (tell r).status) → ((a : A) → EndsPlainly (made a).status)
    → PrintsPlainly (Then (Telling tell part) (λ a. Has (prints (made a))))
told_plainly {A} tell part made refusals texts =
    record { finishes = λ files finish came. finishes files finish came; refuses = λ files p came. refuses files p came }
  where
    finishes : (files : List GotFile) (finish : Finish)
        → Then (Telling tell part) (λ (a : A). Has (prints (made a))) files (goes_on finish)
        → (p : Print) × (finish ≡ prints p) × EndsPlainly p.status
    finishes files finish (inl ended) = absurd ended
    finishes files finish (inr then_) = (made then_.0, then_.4.1, texts then_.0)

    refuses : (files : List GotFile) (p : Print) → Then (Telling tell part) (λ (a : A). Has (prints (made a))) files (stops p)
        → EndsPlainly p.status
    refuses files p (inl ended) = subst (λ (it : Print). EndsPlainly it.status) (sym ended.2) (refusals ended.0)
    refuses files p (inr then_) = absurd then_.4

check_plainly : (asked : Asked) → PrintsPlainly (work_of (Some (check asked)))
check_plainly asked =
    told_plainly (refusal_printed asked.spec asked.order) (OpensSession (IsAccepted asked))
    (λ (begun : Beginning). print (opening_text begun) Done) (λ r. inr (inl refl)) (λ begun. inl refl)

flatten_plainly : (spec : List ℕ) (order : Option (List ℕ)) → PrintsPlainly (work_of (Some (flattening spec order)))
flatten_plainly spec order =
    told_plainly (refusal_printed spec order) (IsFounded spec order) (λ (founded : Founded). flat_printed founded) (λ r. inr (inl refl))
    (λ founded. inl refl)

certificate_plainly : (c : Compared) → PrintsPlainly (work_of (Some (bisimilarity c)))
certificate_plainly c = record {
  finishes = λ files finish came.
      let shown = checks_on c files finish came in (bisimilar_printed shown.number, shown.finishes, inl refl);
  refuses = λ files p came. inr (checks_refuses c files p came);
}

induction_plainly : (i : Induced) → PrintsPlainly (work_of (Some (induction i)))
induction_plainly i = record {
  finishes = λ files finish came.
      let shown = induces_on i files finish came in (print shown.report Done, shown.finishes, inl refl);
  refuses = λ files p came. inr (induces_refuses i files p came);
}

module _ (shelf between shelf_after : ShelfState) (before after : Streams) (answer : Ended) where
  no_line_causes : (comes : Comes Print Finish) → Did shelf between (work_of None) comes
      → FollowsFromWork comes between shelf_after before after answer
      → AnswersHaveCauses None shelf shelf_after before after answer
  no_line_causes (goes_on (prints p)) did follows =
      printed_causes None shelf between shelf_after before after answer p did.1.texts
      (words_status shelf between p did.1.faults (status_same p _ (print_same p _ did.2.1))) (λ demo. absurd demo) follows
  no_line_causes (goes_on (serves begun)) did follows = absurd (prints_and_serves _ begun (sym did.2.1))
  no_line_causes (unread name) did follows = absurd did.2
  no_line_causes (stops p) did follows = absurd did.2
  no_line_causes wants_memory did follows = stopped_causes None shelf between shelf_after before after answer did.1.texts did.1.faults
      (λ demo. absurd demo) follows

  -- a line that prints a text alone
  plain_causes : (line : CommandLine) → PrintsPlainly (work_of (Some line)) → (IsDemonstration (Some line) → ⊥) → (comes : Comes Print Finish)
      → Did shelf between (work_of (Some line)) comes → FollowsFromWork comes between shelf_after before after answer
      → AnswersHaveCauses (Some line) shelf shelf_after before after answer
  plain_causes line plainly other (goes_on finish) did follows =
      let printed = plainly.finishes did.0 finish did.2 in
      printed_causes (Some line) shelf between shelf_after before after answer printed.0 did.1.texts
      (plain_status (Some line) shelf between printed.0 (some_line line) did.1.faults printed.2) (λ demo. absurd (other demo))
      (subst (λ (it : Finish). FollowsFromWork (goes_on it) between shelf_after before after answer) printed.1 follows)
  plain_causes line plainly other (unread name) did follows =
      printed_causes (Some line) shelf between shelf_after before after answer (unread_printed name) did.1.texts
      (file_status (Some line) shelf between name (some_line line) did)
      (λ demo. absurd (other demo)) follows
  plain_causes line plainly other (stops p) did follows =
      printed_causes (Some line) shelf between shelf_after before after answer p did.1.texts
      (plain_status (Some line) shelf between p (some_line line) did.1.faults (plainly.refuses did.0 p did.2))
      (λ demo. absurd (other demo)) follows
  plain_causes line plainly other wants_memory did follows =
      stopped_causes (Some line) shelf between shelf_after before after answer did.1.texts did.1.faults (λ demo. absurd (other demo)) follows

  session_causes : (asked : Asked) (comes : Comes Print Finish) → Did shelf between (work_of (Some (session asked))) comes
      → FollowsFromWork comes between shelf_after before after answer
      → AnswersHaveCauses (Some (session asked)) shelf shelf_after before after answer
  session_causes asked (goes_on (serves begun)) did follows =
      served_causes asked shelf between shelf_after before after answer begun follows
  session_causes asked (goes_on (prints p)) (files, gives, inl ended) follows = absurd ended
  session_causes asked (goes_on (prints p)) (files, gives, inr then_) follows = absurd (prints_and_serves p _ then_.4.1)
  session_causes asked (unread name) (files, gives, came) follows =
      printed_causes (Some (session asked)) shelf between shelf_after before after answer (unread_printed name) gives.texts
      (file_status (Some (session asked)) shelf between name (some_line (session asked))
      (files, gives, came)) (λ demo. absurd demo) follows
  session_causes asked (stops p) (files, gives, inl ended) follows =
      printed_causes (Some (session asked)) shelf between shelf_after before after answer p gives.texts
      (plain_status (Some (session asked)) shelf between p (some_line (session asked)) gives.faults
      (inr (inl (status_same p _ ended.2)))) (λ demo. absurd demo) follows
  session_causes asked (stops p) (files, gives, inr then_) follows = absurd then_.4
  session_causes asked wants_memory did follows =
      stopped_causes (Some (session asked)) shelf between shelf_after before after answer did.1.texts did.1.faults (λ demo. absurd demo)
      follows

  demo_causes : (cells : ℕ) (comes : Comes Print Finish) → Did shelf between (work_of (Some (demonstration cells))) comes
      → FollowsFromWork comes between shelf_after before after answer
      → AnswersHaveCauses (Some (demonstration cells)) shelf shelf_after before after answer
  demo_causes cells (goes_on (prints p)) (files, gives, (none, inl ended)) follows = absurd ended
  demo_causes cells (goes_on (prints p)) (files, gives, (none, inr then_)) follows =
      printed_causes (Some (demonstration cells)) shelf between shelf_after before after answer p gives.texts
      (plain_status (Some (demonstration cells)) shelf between p (some_line (demonstration cells)) gives.faults (inl then_.4.1.1))
      (λ _. record { status = λ e. cc (then_.4.1.1, e); kept = given_none shelf between files none gives }) follows
  demo_causes cells (goes_on (serves begun)) (files, gives, (none, inl ended)) follows = absurd ended
  demo_causes cells (goes_on (serves begun)) (files, gives, (none, inr then_)) follows = absurd then_.4.1
  demo_causes cells (unread name) (files, gives, came) follows = absurd came
  demo_causes cells (stops p) (files, gives, (none, inl ended)) follows =
      let is : p.status ≡ SpecRefused = status_same p _ ended.2 in
      printed_causes (Some (demonstration cells)) shelf between shelf_after before after answer p gives.texts
      (plain_status (Some (demonstration cells)) shelf between p (some_line (demonstration cells)) gives.faults (inr (inl is)))
      (λ _. record { status = λ e. cc (is, e); kept = given_none shelf between files none gives }) follows
  demo_causes cells (stops p) (files, gives, (none, inr then_)) follows = absurd then_.4
  demo_causes cells wants_memory (files, gives, none) follows =
      stopped_causes (Some (demonstration cells)) shelf between shelf_after before after answer gives.texts gives.faults
      (λ _. given_some shelf between files _ none (λ asks. absurd asks.1) gives) follows

  causes_of : (line : Option CommandLine) (comes : Comes Print Finish) → Did shelf between (work_of line) comes
      → FollowsFromWork comes between shelf_after before after answer → AnswersHaveCauses line shelf shelf_after before after answer
  causes_of None comes did follows = no_line_causes comes did follows
  causes_of (Some (check asked)) comes did follows = plain_causes (check asked) (check_plainly asked) (λ demo. demo) comes did follows
  causes_of (Some (session asked)) comes did follows = session_causes asked comes did follows
  causes_of (Some (demonstration cells)) comes did follows = demo_causes cells comes did follows
  causes_of (Some (flattening spec order)) comes did follows =
      plain_causes (flattening spec order) (flatten_plainly spec order) (λ demo. demo) comes did follows
  causes_of (Some (bisimilarity c)) comes did follows = plain_causes (bisimilarity c) (certificate_plainly c) (λ demo. demo) comes did follows
  causes_of (Some (induction i)) comes did follows = plain_causes (induction i) (induction_plainly i) (λ demo. demo) comes did follows

pub causes : (line : Option CommandLine) (shelf shelf_after : ShelfState) (before after : Streams) (answer : Ended)
    → Ran line shelf shelf_after before after answer → AnswersHaveCauses line shelf shelf_after before after answer
causes line shelf shelf_after before after answer ran =
    causes_of shelf ran.between shelf_after before after answer line ran.comes ran.did ran.follows
