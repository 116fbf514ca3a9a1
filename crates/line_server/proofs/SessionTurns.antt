-- What the turns of a session come to.
use Rattle.std.proofs.Common.{◌≡◌, ℕ, ◌+◌, ◌≤◌, true, false, List, [], ◌∷◌, ◌++◌, length, refl, sym, ap, subst, ◌∙◌, arith, length-append}
use Rattle.lotos_base.proofs.Streams.{stands_then, fails_then}
use Rattle.line_server.specs.Limits.{input_limit}
use Rattle.line_server.specs.Cutting.{complete, unfinished, last_line}
use Rattle.line_server.specs.Machine.{Machine}
use Rattle.line_server.specs.Answered.{Answered}
use Rattle.line_server.specs.Serving.{HasServed}
use Rattle.line_server.specs.Turn.{Surroundings, Turning, turning, moment_in, Gives, GivesNone, GivesFault, TurnGoesOn, EndsIn, at_end, input_failed, past_limit, in_piece, LinesEndWith, all_served, stopped_at, EndsInPiece, by_line, by_stop, SessionCloses, closed, broken_off, failed_text, too_long_text, end_at}
use Rattle.line_server.specs.Session as session
use Rattle.line_server.specs.Session.{Turns, last_turn, one_turn, Reads, no_call, one_call, ReadsAll, ReadsUpToFault, ReadsPastLimit, AnsweredWhole, gave, found_none, HasStopped, IsSessionServed, of_failed_input, of_long_input}
use Rattle.line_server.specs.declared.ends.SessionEnd.{SessionEnd}
use Rattle.line_server.specs.declared.ends.SessionEnd.TheVariants.{InputFailed, InputTooLong}
use Rattle.line_server.specs.declared.ends.Stop.{Stop}
use Rattle.line_server.specs.declared.ends.Stop.TheVariants.{OutputFailed, NoMemory}
use Rattle.line_server.proofs.Cuts.{unfinished-append}
use Rattle.line_server.proofs.WrittenTexts.{writes_then, begins_behind}
use Rattle.line_server.proofs.AnsweredLines.{answered_then}
use Rattle.line_server.proofs.ServedBytes.{nothing_served, served_then}

-- so many bytes were read and served
record Reached {State : Type 0} (machine : Machine State) (start : Surroundings State) (now : Turning State) : Type 0 where
  pub read : List ℕ
  pub count : length read ≡ now.total
  pub within : now.total ≤ input_limit
  pub reads : Reads start.input read now.around.input
  pub served : HasServed machine [] (moment_in start) read (moment_in now.around) false
  pub line : now.line ≡ unfinished [] read

reached_nothing : {State : Type 0} (machine : Machine State) (start : Surroundings State) → Reached machine start (turning start [] 0)
reached_nothing machine start = record {
  read = [];
  count = refl;
  within = omega arith;
  reads = no_call [] start.input refl refl;
  served = nothing_served machine [] (moment_in start);
  line = refl;
}

reached_on : {State : Type 0} (machine : Machine State) (start : Surroundings State) (now next : Turning State)
    → Reached machine start now → TurnGoesOn machine now next → Reached machine start next
reached_on machine start now next reached on = record {
  read = reached.read ++ on.bytes;
  count = omega (arith, length-append reached.read on.bytes, reached.count, on.total);
  within = on.within;
  reads = one_call reached.read on.bytes (reached.read ++ on.bytes) now.around.input next.around.input reached.reads on.gives refl;
  served = served_then machine [] now.line (moment_in start) (moment_in now.around) (moment_in next.around) reached.read on.bytes false
      reached.served reached.line on.served;
  line = on.line ∙ (ap (λ (it : List ℕ). unfinished it on.bytes) reached.line ∙ sym (unfinished-append [] reached.read on.bytes));
}

-- serving stopped at one of the lines that were left to be served
stopped : {State : Type 0} (machine : Machine State) (start after : Surroundings State) (seen : List ℕ) (why : Stop)
    → length seen ≤ input_limit → HasStopped machine start after seen why → IsSessionServed machine start after (end_at why)
stopped machine start after seen OutputFailed within has =
    record { seen = seen; within = within; came = session.output_failed has }
stopped machine start after seen NoMemory within has = record { seen = seen; within = within; came = session.wanted_memory has }

-- the last line was served
ends_at_end : {State : Type 0} (machine : Machine State) (start : Surroundings State) (now : Turning State) (after : Surroundings State)
    (end : SessionEnd) → Reached machine start now → GivesNone now.around.input after.input
    → LinesEndWith machine (last_line now.line) (moment_in now.around) (moment_in after) end → IsSessionServed machine start after end
ends_at_end machine start now after end reached none (all_served text quits answered wrote stands) = record {
  seen = reached.read;
  within = omega (arith, reached.count, reached.within);
  came = session.finished (reached.served.text ++ text) quits
      (record { between = now.around.input; reads = reached.reads; none = none })
      (answered_then machine start.state now.around.state after.state (complete [] reached.read)
      (last_line (unfinished [] reached.read))
      reached.served.text text false quits reached.served.answered refl
      (subst (λ (it : List ℕ). Answered machine now.around.state (last_line it) text after.state quits) reached.line answered))
      (writes_then start.output.bytes now.around.output.bytes after.output.bytes reached.served.text text reached.served.wrote wrote)
      (stands_then start.output now.around.output after.output reached.served.stands stands);
}
ends_at_end machine start now after end reached none (stopped_at why stops) =
    stopped machine start after reached.read why (omega (arith, reached.count, reached.within)) (record {
      earlier = reached.read;
      between = moment_in now.around;
      lines = last_line now.line;
      served = reached.served;
      brings = found_none (record { between = now.around.input; reads = reached.reads; none = none }) refl (ap last_line reached.line);
      stops = stops;
    })

left_there : {State : Type 0} (machine : Machine State) (start : Surroundings State) (now : Turning State) (after : Surroundings State)
    (reached : Reached machine start now) → after.state ≡ now.around.state
    → AnsweredWhole machine start reached.read reached.served.text after
left_there {State} machine start now after reached same =
    subst (λ (it : State). Answered machine start.state (complete [] reached.read) reached.served.text it false) (sym same)
    reached.served.answered

-- the input failed
ends_failed : {State : Type 0} (machine : Machine State) (start : Surroundings State) (now : Turning State) (after : Surroundings State)
    (end : SessionEnd) → Reached machine start now → GivesFault now.around.input after.input → after.state ≡ now.around.state
    → SessionCloses failed_text InputFailed now.around.output after.output end → IsSessionServed machine start after end
ends_failed machine start now after end reached fault same (closed wrote stands) = record {
  seen = reached.read;
  within = omega (arith, reached.count, reached.within);
  came = session.input_failed reached.served.text
      (record { between = now.around.input; reads = reached.reads; fault = fault })
      (left_there machine start now after reached same)
      (writes_then start.output.bytes now.around.output.bytes after.output.bytes reached.served.text failed_text reached.served.wrote wrote)
      (stands_then start.output now.around.output after.output reached.served.stands stands);
}
ends_failed machine start now after end reached fault same (broken_off wrote failed) = record {
  seen = reached.read;
  within = omega (arith, reached.count, reached.within);
  came = session.closing_failed reached.served.text failed_text
      (of_failed_input (record { between = now.around.input; reads = reached.reads; fault = fault }))
      (left_there machine start now after reached same)
      (begins_behind start.output.bytes now.around.output.bytes after.output.bytes reached.served.text failed_text reached.served.wrote
      wrote)
      (fails_then start.output now.around.output after.output reached.served.stands failed);
}

-- a byte past the limit was read
ends_long : {State : Type 0} (machine : Machine State) (start : Surroundings State) (now : Turning State) (after : Surroundings State)
    (end : SessionEnd) → Reached machine start now → (byte : ℕ) → now.total ≡ input_limit
    → Gives now.around.input after.input (byte ∷ []) → after.state ≡ now.around.state
    → SessionCloses too_long_text InputTooLong now.around.output after.output end → IsSessionServed machine start after end
ends_long machine start now after end reached byte whole gives same (closed wrote stands) = record {
  seen = reached.read;
  within = omega (arith, reached.count, reached.within);
  came = session.too_long reached.served.text
      (record { between = now.around.input; byte = byte; whole = reached.count ∙ whole; reads = reached.reads; more = gives })
      (left_there machine start now after reached same)
      (writes_then start.output.bytes now.around.output.bytes after.output.bytes reached.served.text too_long_text reached.served.wrote
      wrote)
      (stands_then start.output now.around.output after.output reached.served.stands stands);
}
ends_long machine start now after end reached byte whole gives same (broken_off wrote failed) = record {
  seen = reached.read;
  within = omega (arith, reached.count, reached.within);
  came = session.closing_failed reached.served.text too_long_text
      (of_long_input
      (record { between = now.around.input; byte = byte; whole = reached.count ∙ whole; reads = reached.reads; more = gives }))
      (left_there machine start now after reached same)
      (begins_behind start.output.bytes now.around.output.bytes after.output.bytes reached.served.text too_long_text reached.served.wrote
      wrote)
      (fails_then start.output now.around.output after.output reached.served.stands failed);
}

-- a line ended the session, or serving stopped at one
ends_in_piece : {State : Type 0} (machine : Machine State) (start : Surroundings State) (now : Turning State) (after : Surroundings State)
    (end : SessionEnd) → Reached machine start now → (bytes : List ℕ)
    → Gives now.around.input after.input bytes → now.total + length bytes ≤ input_limit
    → EndsInPiece machine now.line bytes (moment_in now.around) (moment_in after) end → IsSessionServed machine start after end
ends_in_piece machine start now after end reached bytes gives within (by_line served) =
    let all = served_then machine [] now.line (moment_in start) (moment_in now.around) (moment_in after) reached.read bytes true
    reached.served reached.line served in record {
      seen = reached.read ++ bytes;
      within = omega (arith, length-append reached.read bytes, reached.count, within);
      came = session.quit all.text (one_call reached.read bytes (reached.read ++ bytes) now.around.input after.input
          reached.reads gives refl)
          all.answered all.wrote all.stands;
    }
ends_in_piece machine start now after end reached bytes gives within (by_stop why stops) =
    stopped machine start after (reached.read ++ bytes) why (omega (arith, length-append reached.read bytes, reached.count, within))
    (record {
      earlier = reached.read;
      between = moment_in now.around;
      lines = complete now.line bytes;
      served = reached.served;
      brings = gave now.around.input bytes reached.reads gives refl (ap (λ (it : List ℕ). complete it bytes) reached.line);
      stops = stops;
    })

ends : {State : Type 0} (machine : Machine State) (start : Surroundings State) (now : Turning State) (after : Surroundings State)
    (end : SessionEnd) → Reached machine start now → EndsIn machine now after end → IsSessionServed machine start after end
ends machine start now after end reached (at_end none with_) = ends_at_end machine start now after end reached none with_
ends machine start now after end reached (input_failed fault same closes) =
    ends_failed machine start now after end reached fault same closes
ends machine start now after end reached (past_limit byte whole gives same closes) =
    ends_long machine start now after end reached byte whole gives same closes
ends machine start now after end reached (in_piece bytes gives within how) =
    ends_in_piece machine start now after end reached bytes gives within how

come_on : {State : Type 0} (machine : Machine State) (start after : Surroundings State) (end : SessionEnd) (now : Turning State)
    → Reached machine start now → Turns machine after end now → IsSessionServed machine start after end
come_on machine start after end now reached (last_turn _ last) = ends machine start now after end reached last
come_on machine start after end now reached (one_turn _ next on later) =
    come_on machine start after end next (reached_on machine start now next reached on) later

pub turns_serve : {State : Type 0} (machine : Machine State) (start after : Surroundings State) (end : SessionEnd)
    → Turns machine after end (turning start [] 0) → IsSessionServed machine start after end
turns_serve machine start after end turns = come_on machine start after end (turning start [] 0) (reached_nothing machine start) turns
