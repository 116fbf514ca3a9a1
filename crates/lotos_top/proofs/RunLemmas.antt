-- What a run does with what came of its work.
use Rattle.std.proofs.Common.{◌≡◌, ◌⊎◌, inl, inr, ℕ, ◌<◌, ◌≤◌, List, [], ◌∷◌, Option, Some, refl, sym, ap, subst, arith}
use Rattle.std.proofs.lemmas.Bool.{cases_lt}
use Rattle.std.proofs.lemmas.Option.{same_Some, none-some}
use Rattle.lotos_base.specs.Counts.{Rises}
use Rattle.lotos_base.specs.Outside.{Stream, Stands, Fails}
use Rattle.certificate_verbs.specs.HandedOn.{ShelfState, Did, Comes, goes_on, unread, stops, wants_memory, Part, moment_of}
use Rattle.certificate_verbs.specs.HandedOn.{IsBeforeOrBehind, SessionPoint, LineLeaves, history_machine, Beginning, CommandLine}
use Rattle.line_server.specs.Answered.{FailedAt, WantedAt, LeftAt}
use Rattle.line_server.specs.Session.{HasStopped, SessionCame, finished, quit, input_failed, too_long, output_failed, closing_failed, wanted_memory}
use Rattle.line_server.specs.Request.{request_of}
use Rattle.line_server.specs.Turn.{Surroundings}
use Rattle.line_server.specs.Writing.{WritesAll, WritesBeginning}
use Rattle.certificate_verbs.proofs.HandedOn.{counts_rise, count_rises}
use Rattle.line_server.specs.declared.ends.SessionEnd.{SessionEnd}
use Rattle.line_server.specs.declared.ends.Stop.{Stop}
use Rattle.line_server.specs.declared.ends.Stop.TheVariants.{OutputFailed, NoMemory as WantsMemory}
use Rattle.certificate_verbs.specs.Printed.{print_in, printed_by}
use Rattle.certificate_verbs.specs.Finishing.{Print, Finish, prints, serves, unread_printed}
use Rattle.certificate_verbs.specs.declared.ended.Ended.{Ended}
use Rattle.certificate_verbs.specs.declared.ended.Ended.TheVariants.{NoMemory, OutputFault}
use Rattle.certificate_verbs.specs.declared.printing.Alone.{Alone}
use Rattle.lotos_top.specs.Prepared.{begun, CameTo, IsReady}
use Rattle.lotos_top.specs.Run.{Streams, Writes, whole, in_part, nothing, Prints, ServesSession, in_front, in_want, behind, FollowsFromWork, Ran}
use Rattle.lotos_top.specs.declared.opening.Opened.{Opened}
use Rattle.lotos_top.specs.declared.opening.Ready.TheVariants as ready

-- ---- What follows

-- a text was printed
pub follows_printed : (comes : Comes Print Finish) (p : Print) (shelf shelf_after : ShelfState) (before after : Streams) (answer : Ended)
    → printed_by comes ≡ Some p → Prints p shelf shelf_after before after answer
    → FollowsFromWork comes shelf shelf_after before after answer
follows_printed (goes_on (prints q)) p shelf shelf_after before after answer is done =
    subst (λ (it : Print). Prints it shelf shelf_after before after answer) (sym (same_Some q p is)) done
follows_printed (goes_on (serves begun)) p shelf shelf_after before after answer is done = absurd (none-some p is)
follows_printed (unread name) p shelf shelf_after before after answer is done =
    subst (λ (it : Print). Prints it shelf shelf_after before after answer) (sym (same_Some (unread_printed name) p is)) done
follows_printed (stops q) p shelf shelf_after before after answer is done =
    subst (λ (it : Print). Prints it shelf shelf_after before after answer) (sym (same_Some q p is)) done
follows_printed wants_memory p shelf shelf_after before after answer is done = absurd (none-some p is)

-- memory was wanted before anything was written
printed_none : (p : Print) (shelf : ShelfState) (now : Streams) → Prints p shelf shelf now now NoMemory
printed_none p shelf now = record { shelf_kept = refl; input_kept = refl; writes = nothing refl refl }

pub follows_want : (comes : Comes Print Finish) (shelf : ShelfState) (now : Streams) → FollowsFromWork comes shelf shelf now now NoMemory
follows_want (goes_on (prints p)) shelf now = printed_none p shelf now
follows_want (goes_on (serves begun)) shelf now = in_want refl refl refl
follows_want (unread name) shelf now = printed_none (unread_printed name) shelf now
follows_want (stops p) shelf now = printed_none p shelf now
follows_want wants_memory shelf now = record { is = refl; shelf_kept = refl; kept = refl }

-- ---- What a run did

pub ran_alone : (line : Option CommandLine) (shelf between : ShelfState) (alone : Alone) (before after : Streams) (answer : Ended)
    → IsReady line shelf between (ready.Alone alone) → after.input ≡ before.input
    → Writes (print_in alone) before.output after.output answer → Ran line shelf between before after answer
ran_alone line shelf between alone before after answer is kept writes = record {
  comes = is.0;
  between = between;
  did = is.1;
  follows =
      follows_printed is.0 (print_in alone) between between before after answer is.2
      (record { shelf_kept = refl; input_kept = kept; writes = writes });
}

pub ran_served : (line : Option CommandLine) (shelf between shelf_after : ShelfState) (opened : Opened) (before after : Streams)
    (answer : Ended) → IsReady line shelf between (ready.Session opened)
    → ServesSession (begun opened) between shelf_after before after answer → Ran line shelf shelf_after before after answer
ran_served line shelf between shelf_after opened before after answer is served =
    record { comes = goes_on (serves (begun opened)); between = between; did = is.0; follows = served }

pub ran_wanted : (line : Option CommandLine) (shelf between shelf_after : ShelfState) (opened : Opened) (before after : Streams)
    → IsReady line shelf between (ready.Session opened) → shelf_after ≡ between → after ≡ before
    → Ran line shelf shelf_after before after NoMemory
ran_wanted line shelf between shelf_after opened before after is kept same =
    ran_served line shelf between shelf_after opened before after NoMemory is (in_want kept same refl)

pub ran_nothing : (line : Option CommandLine) (shelf between : ShelfState) (now : Streams) → CameTo line shelf between
    → Ran line shelf between now now NoMemory
ran_nothing line shelf between now came =
    record { comes = came.0; between = between; did = came.1; follows = follows_want came.0 between now }

-- a text was written
pub wrote_whole : (p : Print) (before after : Stream) (text : List ℕ) → text ≡ p.text → WritesAll before.bytes after.bytes text
    → Stands before after → Writes p before after p.status
wrote_whole p before after text same wrote counts =
    whole refl (subst (λ (it : List ℕ). WritesAll before.bytes after.bytes it) same wrote) counts

pub wrote_part : (p : Print) (before after : Stream) (text : List ℕ) → text ≡ p.text → WritesBeginning before.bytes after.bytes text
    → Fails before after → Writes p before after OutputFault
wrote_part p before after text same wrote rises =
    in_part refl (subst (λ (it : List ℕ). WritesBeginning before.bytes after.bytes it) same wrote) rises

-- ---- What the shelf tells

pub did_texts : {E B : Type 0} (before after : ShelfState) (part : Part E B) (comes : Comes E B) → Did before after part comes
    → after.texts ≡ before.texts
did_texts before after part (goes_on b) did = did.1.texts
did_texts before after part (unread name) did = did.1.texts
did_texts before after part (stops e) did = did.1.texts
did_texts before after part wants_memory did = did.1.texts

-- the count of faults of the shelf, along a session that was served
leaves_rise : (before after : SessionPoint) (line : List ℕ) → LineLeaves before line after → before.faults ≤ after.faults
leaves_rise before after line leaves = by leaves.is
  where
    by : IsBeforeOrBehind (moment_of before.standing before.faults) (request_of line) (moment_of after.standing after.faults)
        → before.faults ≤ after.faults
    by (inl same) = omega (arith, same.faults)
    by (inr answered) = count_rises answered.1.it.faulty before.faults after.faults answered.1.counted

left_rise : (between after : SessionPoint) (later : List (List ℕ)) → LeftAt history_machine between later after
    → between.faults ≤ after.faults
left_rise between after [] left = omega (arith, ap (λ (it : SessionPoint). it.faults) left)
left_rise between after (line ∷ later) (inl left) = omega (arith, ap (λ (it : SessionPoint). it.faults) left)
left_rise between after (line ∷ later) (inr leaves) = leaves_rise between after line leaves

failed_rise : (before after : SessionPoint) (lines : List (List ℕ)) (written written_after : Option (List ℕ))
    → FailedAt history_machine before lines written written_after after → before.faults ≤ after.faults
failed_rise before after lines written written_after failed =
    omega (
      arith,
      counts_rise before failed.between failed.answered.first failed.text _ failed.answered.answered,
      count_rises failed.comes.it.faulty failed.between.faults failed.reply.next.faults failed.comes.counted,
      ap (λ (it : SessionPoint). it.faults) failed.left,
    )

wanted_rise : (before after : SessionPoint) (lines : List (List ℕ)) (written written_after : Option (List ℕ))
    → WantedAt history_machine before lines written written_after after → before.faults ≤ after.faults
wanted_rise before after lines written written_after wanted =
    omega (
      arith,
      counts_rise before wanted.between wanted.answered.first wanted.text _ wanted.answered.answered,
      left_rise wanted.between after wanted.later wanted.left,
    )

stopped_rise : (before after : Surroundings SessionPoint) (seen : List ℕ) (why : Stop) → HasStopped history_machine before after seen why
    → before.state.faults ≤ after.state.faults
stopped_rise before after seen OutputFailed has =
    omega (
      arith,
      counts_rise before.state has.between.state _ has.served.text _ has.served.answered,
      failed_rise has.between.state after.state _ _ _ has.stops.0,
    )
stopped_rise before after seen WantsMemory has =
    omega (
      arith,
      counts_rise before.state has.between.state _ has.served.text _ has.served.answered,
      wanted_rise has.between.state after.state _ _ _ has.stops.0,
    )

came_rises : (before after : Surroundings SessionPoint) (seen : List ℕ) (end : SessionEnd)
    → SessionCame history_machine before after seen end → before.state.faults ≤ after.state.faults
came_rises before after seen end (finished text quits read answered wrote stand) =
    counts_rise before.state after.state _ text quits answered
came_rises before after seen end (quit text read answered wrote stand) = counts_rise before.state after.state _ text _ answered
came_rises before after seen end (input_failed text read answered wrote output) =
    counts_rise before.state after.state _ text _ answered
came_rises before after seen end (too_long text read answered wrote stand) =
    counts_rise before.state after.state _ text _ answered
came_rises before after seen end (output_failed has) = stopped_rise before after seen _ has
came_rises before after seen end (closing_failed text closing fails answered wrote rises) =
    counts_rise before.state after.state _ text _ answered
came_rises before after seen end (wanted_memory has) = stopped_rise before after seen _ has

serves_rise : (begun : Beginning) (shelf shelf_after : ShelfState) (before after : Streams) (answer : Ended)
    → ServesSession begun shelf shelf_after before after answer → shelf.faults ≤ shelf_after.faults
serves_rise begun shelf shelf_after before after answer (in_front kept input is wrote rises) =
    omega (arith, ap (λ (it : ShelfState). it.faults) kept)
serves_rise begun shelf shelf_after before after answer (in_want kept same is) =
    omega (arith, ap (λ (it : ShelfState). it.faults) kept)
serves_rise begun shelf shelf_after before after answer (behind between last end wrote counts texts served is) =
    came_rises _ _ served.seen end served.came

-- it never falls behind the work
pub follows_rise : (comes : Comes Print Finish) (shelf shelf_after : ShelfState) (before after : Streams) (answer : Ended)
    → FollowsFromWork comes shelf shelf_after before after answer → shelf.faults ≤ shelf_after.faults
follows_rise (goes_on (prints p)) shelf shelf_after before after answer done =
    omega (arith, ap (λ (it : ShelfState). it.faults) done.shelf_kept)
follows_rise (goes_on (serves begun)) shelf shelf_after before after answer done =
    serves_rise begun shelf shelf_after before after answer done
follows_rise (unread name) shelf shelf_after before after answer done =
    omega (arith, ap (λ (it : ShelfState). it.faults) done.shelf_kept)
follows_rise (stops p) shelf shelf_after before after answer done =
    omega (arith, ap (λ (it : ShelfState). it.faults) done.shelf_kept)
follows_rise wants_memory shelf shelf_after before after answer done =
    omega (arith, ap (λ (it : ShelfState). it.faults) done.shelf_kept)

-- a count that rose before rose in all
pub rises_on : (before between after : ℕ) → between ≤ after → Rises before between → Rises before after
rises_on before between after later (inl rose) = inl (omega (arith, later, rose))
rises_on before between after later (inr at_end) = by (cases_lt between after)
  where
    by : (between < after) ⊎ (after ≤ between) → Rises before after
    by (inl more) = inl (omega (arith, at_end.0, at_end.1, more))
    by (inr same) = inr (at_end.0, omega (arith, at_end.1, same, later))
