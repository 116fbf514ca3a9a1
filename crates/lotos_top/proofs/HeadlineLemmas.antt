-- A session of an accepted specification, where all is told and nothing outside fails.
use Rattle.std.proofs.Common.{◌≡◌, ◌⊎◌, inl, inr, ℕ, ◌≤◌, Bool, true, List, [], ◌∷◌, ◌++◌, length, Option, Some, IfSome, refl, sym, ap, subst, ◌∙◌, append_assoc, arith, length-append}
use Rattle.std.proofs.lemmas.List.{append-nil}
use Rattle.lotos_base.specs.Counts.{Rises}
use Rattle.lotos_base.specs.Outside.{Texts, Stream, Stands}
use Rattle.lotos_base.proofs.Streams.{fails_then}
use Rattle.certificate_verbs.specs.HandedOn.{ShelfState, Refused, Asked, Acceptance, IsAccepted, ComesOver, Did, Comes, goes_on, unread}
use Rattle.certificate_verbs.specs.HandedOn.{stops, wants_memory, AreAnswered, Standing, SessionPoint, point, history_machine, Beginning}
use Rattle.certificate_verbs.specs.HandedOn.{standing_at, LinesLeadOn, ServedLinesAreAnswered, CommandLine, session}
use Rattle.certificate_verbs.proofs.HandedOn.{comes_over, outcomes_over_texts_are_one}
use Rattle.line_server.specs.Answered as served
use Rattle.line_server.specs.Cutting.{complete, unfinished, last_line, lines_in}
use Rattle.line_server.specs.Limits.{input_limit}
use Rattle.line_server.specs.Session.{SessionCame, finished, quit, input_failed, too_long, output_failed, closing_failed, wanted_memory}
use Rattle.line_server.specs.Turn.{around, IsReadOfInput}
use Rattle.line_server.specs.Writing.{WritesAll}
use Rattle.line_server.proofs.Cuts.{complete-append}
use Rattle.line_server.proofs.ReadBytes.{reads_left, all_left, all_gone, past_left, fault_fails}
use Rattle.line_server.proofs.AnsweredLines.{answered_still}
use Rattle.line_server.specs.declared.ends.SessionEnd.{SessionEnd}
use Rattle.certificate_verbs.specs.Finishing.{Print, Finish}
use Rattle.certificate_verbs.specs.declared.ended.Ended.{Ended}
use Rattle.certificate_verbs.specs.declared.ended.Ended.TheVariants.{Done, NoMemory}
use Rattle.lotos_top.specs.Headline.{CountStands, IsSteady, Simulates, Headline}
use Rattle.lotos_top.specs.Opening.{SessionBegins, opening_text}
use Rattle.lotos_top.specs.Run.{Streams, ServesSession, in_front, in_want, behind, FollowsFromWork, Ran, ended_by}
use Rattle.lotos_top.specs.Work.{work_of}
use Rattle.lotos_top.proofs.RunLemmas.{follows_rise, rises_on}
use Rattle.lotos_top.proofs.WorkLemmas.{session_on, session_unread, session_stops, opened_on}

-- ---- Counts

no_rise : (before after : ℕ) → CountStands before after → ¬ Rises before after
no_rise before after stands = λ rises. by rises
  where
    by : Rises before after → ⊥
    by (inl rose) = absurd (omega (arith, stands.0, rose))
    by (inr at_end) = absurd (omega (arith, stands.1, at_end.0))

-- ---- What is written

written_after : (before between after : Option (List ℕ)) (written opening answers : List ℕ) → before ≡ Some written
    → WritesAll before between opening → WritesAll between after answers → after ≡ Some (written ++ (opening ++ answers))
written_after before between after written opening answers is one two =
    let middle : between ≡ Some (written ++ opening) = rw is at one in
    let last : after ≡ Some (written ++ opening ++ answers) = rw middle at two in
    last ∙ ap (λ (it : List ℕ). Some it) (append_assoc written opening answers)

-- ---- What was read

read_of : (before after : Option (List ℕ)) (bytes seen : List ℕ) → before ≡ Some bytes → IsReadOfInput before seen after
    → (rest : List ℕ) × (bytes ≡ seen ++ rest) × (after ≡ Some rest)
read_of before after bytes seen is read = rw is at read

read_whole : (before after : Option (List ℕ)) (bytes seen : List ℕ) → before ≡ Some bytes → IsReadOfInput before seen after
    → IfSome before (λ _. after ≡ Some []) → bytes ≡ seen
read_whole before after bytes seen is read none =
    let there = read_of before after bytes seen is read in
    let nothing : after ≡ Some [] = rw is at none in
    let rest : there.0 ≡ [] = cc (there.2, nothing) in
    there.1 ∙ (ap (λ (it : List ℕ). seen ++ it) rest ∙ append-nil seen)

-- the lines behind the bytes that were read
lines_behind : (seen rest : List ℕ)
    → lines_in (seen ++ rest)
    ≡ complete [] seen ++ (complete (unfinished [] seen) rest ++ last_line (unfinished [] (seen ++ rest)))
lines_behind seen rest =
    ap (λ (it : List (List ℕ)). it ++ last_line (unfinished [] (seen ++ rest))) (complete-append [] seen rest)
    ∙ append_assoc (complete [] seen) (complete (unfinished [] seen) rest) (last_line (unfinished [] (seen ++ rest)))

-- ---- The session

-- what a session came to, from where the specification begins
module _ (answered : ServedLinesAreAnswered) (leads : LinesLeadOn) (acceptance : Acceptance) (texts : Texts) (begun : Beginning)
    (begins : SessionBegins acceptance begun) (shelf shelf_after : ShelfState) (before after : Streams) (bytes written : List ℕ)
    (told : shelf.texts ≡ Some texts) (left : before.input.bytes ≡ Some bytes) (within : length bytes ≤ input_limit)
    (wrote : before.output.bytes ≡ Some written) (steady : IsSteady shelf shelf_after before after) where
  start : SessionPoint
  start = point (standing_at begun shelf.texts) shelf.faults shelf.calls

  -- all its lines were answered
  simulated : (between : Stream) (last : Standing) (lines : List (List ℕ)) (text : List ℕ) (quits : Bool) (answer : Ended)
      → lines ≡ lines_in bytes → last.texts ≡ shelf_after.texts
      → served.Answered history_machine start lines text (point last shelf_after.faults shelf_after.calls) quits
      → WritesAll before.output.bytes between.bytes (opening_text begun) → WritesAll between.bytes after.output.bytes text
      → answer ≡ Done → Simulates acceptance texts bytes written shelf_after after answer
  unfolding start
  simulated between last lines text quits answer are kept served_ opening rest done = record {
    begun = begun;
    begins = begins;
    answers = text;
    last = last;
    answered = subst (λ (it : Option Texts). AreAnswered begun (standing_at begun it) (lines_in bytes) text last) told
        (subst (λ (it : List (List ℕ)). AreAnswered begun (standing_at begun shelf.texts) it text last) are
        (answered begun start (point last shelf_after.faults shelf_after.calls) lines text quits begins.can_begin
        (leads.begins begun shelf.texts begins.can_begin) steady.shelf_stands.1 steady.shelf_stands.0 served_));
    left = sym kept;
    writes = written_after before.output.bytes between.bytes after.output.bytes written (opening_text begun) text wrote opening rest;
    done = done;
  }

  came_so : (between : Stream) (last : Standing) (seen : List ℕ) (end : SessionEnd) (answer : Ended)
      → WritesAll before.output.bytes between.bytes (opening_text begun) → Stands before.output between
      → last.texts ≡ shelf_after.texts
      → SessionCame history_machine (around start before.input between)
      (around (point last shelf_after.faults shelf_after.calls) after.input after.output) seen end
      → answer ≡ ended_by end → (answer ≡ NoMemory) ⊎ Simulates acceptance texts bytes written shelf_after after answer
  came_so between last seen end answer opening counts kept (finished text quits read lines rest stand) is =
      inr (simulated between last (lines_in seen) text quits answer
      (ap (λ (it : List ℕ). lines_in it) (sym (read_whole before.input.bytes after.input.bytes bytes seen left (all_left
      before.input seen after.input read)
      (all_gone before.input seen after.input read)))) kept lines
      opening
      rest is)
  came_so between last seen end answer opening counts kept (quit text read lines rest stand) is =
      let there = read_of before.input.bytes after.input.bytes bytes seen left (reads_left before.input seen after.input read) in
      inr (simulated between last
      (complete [] seen ++ (complete (unfinished [] seen) there.0 ++ last_line (unfinished [] (seen ++ there.0)))) text true answer
      (sym (lines_behind seen there.0) ∙ ap (λ (it : List ℕ). lines_in it) (sym there.1)) kept
      (answered_still history_machine start (point last shelf_after.faults shelf_after.calls) (complete [] seen)
      (complete (unfinished [] seen) there.0 ++ last_line (unfinished [] (seen ++ there.0))) text true lines refl)
      opening rest is)
  came_so between last seen end answer opening counts kept (input_failed text read lines rest output) is =
      absurd (no_rise before.input.faults after.input.faults steady.input_stands (fault_fails before.input seen after.input read).faults)
  came_so between last seen end answer opening counts kept (too_long text read lines rest stand) is =
      let there = read_of before.input.bytes after.input.bytes bytes (seen ++ read.byte ∷ []) left
      (past_left before.input seen after.input read) in
      absurd (omega (
        arith,
        ap length there.1,
        length-append (seen ++ read.byte ∷ []) there.0,
        length-append seen (read.byte ∷ []),
        read.whole,
        within,
      ))
  came_so between last seen end answer opening counts kept (output_failed has) is =
      absurd (no_rise before.output.faults after.output.faults steady.output_stands
      (fails_then before.output between after.output counts
      (fails_then between has.between.output after.output has.served.stands has.stops.1)).faults)
  came_so between last seen end answer opening counts kept (closing_failed text closing fails lines rest rises) is =
      absurd (no_rise before.output.faults after.output.faults steady.output_stands
      (fails_then before.output between after.output counts rises).faults)
  came_so between last seen end answer opening counts kept (wanted_memory has) is = inl is

  pub simulates : (answer : Ended) → ServesSession begun shelf shelf_after before after answer
      → (answer ≡ NoMemory) ⊎ Simulates acceptance texts bytes written shelf_after after answer
  unfolding start
  simulates answer (in_front kept input is beginning rises) =
      absurd (no_rise before.output.faults after.output.faults steady.output_stands rises.faults)
  simulates answer (in_want kept same is) = inl is
  simulates answer (behind between last end opening counts kept session_ is) =
      came_so between last session_.seen end answer opening counts kept session_.came is

-- ---- The run

-- what was accepted, or another thing where it was not
abbrev accepted_or : Acceptance → Comes Refused Acceptance → Acceptance
accepted_or other (goes_on acceptance) = acceptance
accepted_or other (unread name) = other
accepted_or other (stops r) = other
accepted_or other wants_memory = other

goes_and_lacks : (comes : Comes Refused Acceptance) (acceptance : Acceptance) (name : List ℕ) → comes ≡ goes_on acceptance
    → comes ≡ unread name → ⊥
goes_and_lacks comes acceptance name one other = cc (one, other)

goes_and_stops : (comes : Comes Refused Acceptance) (acceptance : Acceptance) (r : Refused) → comes ≡ goes_on acceptance → comes ≡ stops r
    → ⊥
goes_and_stops comes acceptance r one other = cc (one, other)

module _ (answered : ServedLinesAreAnswered) (leads : LinesLeadOn) (asked : Asked) (texts : Texts) (acceptance : Acceptance)
    (bytes written : List ℕ) (shelf between shelf_after : ShelfState) (before after : Streams) (answer : Ended)
    (told : shelf.texts ≡ Some texts) (over : ComesOver texts asked (goes_on acceptance)) (left : before.input.bytes ≡ Some bytes)
    (within : length bytes ≤ input_limit) (wrote : before.output.bytes ≡ Some written)
    (steady : IsSteady shelf shelf_after before after) where
  -- the count of the shelf stood
  stood : between.faults ≤ shelf_after.faults → ¬ Rises shelf.faults between.faults
  stood later rises = no_rise shelf.faults shelf_after.faults steady.shelf_stands
      (rises_on shelf.faults between.faults shelf_after.faults later rises)

  over_shelf : (comes : Comes Print Finish) → Did shelf between (work_of (Some (session asked))) comes
      → FollowsFromWork comes between shelf_after before after answer
      → (answer ≡ NoMemory) ⊎ Simulates acceptance texts bytes written shelf_after after answer
  over_shelf (goes_on finish) did follows =
      let on = session_on asked did.0 finish did.2 in
      let opened = opened_on (IsAccepted asked) did.0 on.0 on.2 in
      let came : Did shelf between (IsAccepted asked) (goes_on opened.acceptance) = (did.0, did.1, opened.accepted) in
      let same : goes_on acceptance ≡ goes_on opened.acceptance =
      outcomes_over_texts_are_one texts asked (goes_on acceptance) (goes_on opened.acceptance) over
      (comes_over texts asked shelf between (goes_on opened.acceptance) told
      (λ rises. no_rise shelf.faults shelf_after.faults steady.shelf_stands
      (rises_on shelf.faults between.faults shelf_after.faults
      (follows_rise (goes_on finish) between shelf_after before after answer follows) rises)) tt came) in
      let one : acceptance ≡ opened.acceptance = ap (λ (it : Comes Refused Acceptance). accepted_or acceptance it) same in
      simulates answered leads acceptance texts on.0
      (subst (λ (it : Acceptance). SessionBegins it on.0) (sym one) opened.begins) between shelf_after before after bytes written
      (did.1.texts ∙ told) left within wrote
      (record {
        shelf_stands = (steady.shelf_stands.0 ∙ sym did.1.faults, omega (arith, did.1.faults, steady.shelf_stands.1));
        input_stands = steady.input_stands;
        output_stands = steady.output_stands;
      })
      answer (subst (λ (it : Finish). FollowsFromWork (goes_on it) between shelf_after before after answer) on.1 follows)
  over_shelf (unread name) did follows =
      let came : Did shelf between (IsAccepted asked) (unread name) = (did.0, did.1, session_unread asked did.0 name did.2) in
      absurd (goes_and_lacks (goes_on acceptance) acceptance name refl
      (outcomes_over_texts_are_one texts asked (goes_on acceptance) (unread name) over
      (comes_over texts asked shelf between (unread name) told
      (stood (follows_rise (unread name) between shelf_after before after answer follows)) tt came)))
  over_shelf (stops p) did follows =
      let refused = session_stops asked did.0 p did.2 in
      let came : Did shelf between (IsAccepted asked) (stops refused.0) = (did.0, did.1, refused.1) in
      absurd (goes_and_stops (goes_on acceptance) acceptance refused.0 refl
      (outcomes_over_texts_are_one texts asked (goes_on acceptance) (stops refused.0) over
      (comes_over texts asked shelf between (stops refused.0) told
      (stood (follows_rise (stops p) between shelf_after before after answer follows)) tt came)))
  over_shelf wants_memory did follows = inl follows.is

pub headline : ServedLinesAreAnswered → LinesLeadOn → (line : Option CommandLine) (shelf shelf_after : ShelfState) (before after : Streams)
    (answer : Ended) → Ran line shelf shelf_after before after answer → Headline line shelf shelf_after before after answer
headline answered leads line shelf shelf_after before after answer ran asked texts acceptance bytes written is told over left within wrote
    steady =
    over_shelf answered leads asked texts acceptance bytes written shelf ran.between shelf_after before after answer told over left within
    wrote steady ran.comes
    (subst (λ (it : Option CommandLine). Did shelf ran.between (work_of it) ran.comes) is ran.did) ran.follows
