-- What bytes behind bytes do to a session.
use Rattle.std.proofs.Common.{◌≡◌, ◌≢◌, inr, ℕ, ◌+◌, ◌<◌, Bool, true, false, List, [], ◌∷◌, ◌++◌, Option, take, drop, get_or, length, refl, sym, ap, subst, ◌∙◌}
use Rattle.std.proofs.lemmas.List.{append-nil, take_more, take-append-drop}
use Rattle.lotos_base.specs.Outside.{Stream, Stands, Fails}
use Rattle.lotos_base.proofs.Streams.{stands_still, stands_then, fails_then}
use Rattle.line_server.specs.Cutting.{complete, unfinished}
use Rattle.line_server.specs.Machine.{Machine}
use Rattle.line_server.specs.Answered.{Answered, no_line, ended_by, behind_one}
use Rattle.line_server.specs.Writing.{WritesAll, WritesBeginning}
use Rattle.line_server.specs.Serving.{ServesLine, Moment, moment, HasServed, StopsAt}
use Rattle.line_server.specs.declared.lines.Answer.{Answer}
use Rattle.line_server.specs.declared.ends.Stop.{Stop}
use Rattle.line_server.specs.declared.ends.Stop.TheVariants.{OutputFailed, NoMemory}
use Rattle.line_server.proofs.Cuts.{complete-append, completes_none}
use Rattle.line_server.proofs.WrittenTexts.{writes_then, writes_none, begins_alone}
use Rattle.line_server.proofs.AnsweredLines.{answered_then, answered_still, failed_then, failed_still, wanted_then, wanted_still}

-- ---- One byte

pub nothing_served : {State : Type 0} (machine : Machine State) (line : List ℕ) (now : Moment State)
    → HasServed machine line now [] now false
nothing_served machine line now = record {
  text = [];
  answered = no_line now.state;
  wrote = writes_none now.output.bytes now.output.bytes refl;
  stands = stands_still now.output;
}

pub byte_joined : {State : Type 0} (machine : Machine State) (line : List ℕ) (now : Moment State) (byte : ℕ) → byte ≢ 10
    → HasServed machine line now (byte ∷ []) now false
byte_joined machine line now byte plain = record {
  text = [];
  answered = subst (λ (it : List (List ℕ)). Answered machine now.state it [] now.state false) (sym (completes_none line byte plain))
      (no_line now.state);
  wrote = writes_none now.output.bytes now.output.bytes refl;
  stands = stands_still now.output;
}

-- a line was answered, and the answer written
pub line_served : {State : Type 0} (machine : Machine State) (line : List ℕ) (state state_after : State)
    (output output_after : Stream) (answer : Answer)
    → ServesLine machine state line state_after answer → WritesAll output.bytes output_after.bytes answer.text.items
    → Stands output output_after
    → HasServed machine line (moment state output) (10 ∷ []) (moment state_after output_after) answer.quits
line_served {State} machine line state state_after output output_after answer serves wrote stands =
    by answer.quits refl
  where
    whole : WritesAll output.bytes output_after.bytes serves.reply.text
    whole = subst (λ (it : List ℕ). WritesAll output.bytes output_after.bytes it) serves.text wrote

    by : (quits : Bool) → answer.quits ≡ quits
        → HasServed machine line (moment state output) (10 ∷ []) (moment state_after output_after) quits
    by true is = record {
      text = serves.reply.text;
      answered = subst (λ (it : State). Answered machine state (line ∷ []) serves.reply.text it true) (sym serves.next)
          (ended_by state line [] serves.reply serves.comes (sym serves.quits ∙ is));
      wrote = whole;
      stands = stands;
    }
    by false is = record {
      text = serves.reply.text ++ [];
      answered = subst (λ (it : State). Answered machine state (line ∷ []) (serves.reply.text ++ []) it false) (sym serves.next)
          (behind_one state serves.reply.next line [] serves.reply [] false serves.comes (sym serves.quits ∙ is)
          (no_line serves.reply.next));
      wrote = subst (λ (it : List ℕ). WritesAll output.bytes output_after.bytes it) (sym (append-nil serves.reply.text)) whole;
      stands = stands;
    }

-- the output failed at its answer
pub line_failed : {State : Type 0} (machine : Machine State) (line : List ℕ) (later : List (List ℕ)) (state state_after : State)
    (output output_after : Stream) (answer : Answer)
    → ServesLine machine state line state_after answer → WritesBeginning output.bytes output_after.bytes answer.text.items
    → Fails output output_after
    → StopsAt OutputFailed machine (line ∷ later) (moment state output) (moment state_after output_after)
line_failed machine line later state state_after output output_after answer serves wrote fails = (
  record {
    text = [];
    between = state;
    line = line;
    later = later;
    answered = record { first = []; are = refl; answered = no_line state };
    reply = serves.reply;
    comes = serves.comes;
    left = serves.next;
    wrote = begins_alone output.bytes output_after.bytes serves.reply.text
        (subst (λ (it : List ℕ). WritesBeginning output.bytes output_after.bytes it) serves.text wrote);
  },
  fails,
)

-- memory was wanted for it
pub line_wanted : {State : Type 0} (machine : Machine State) (line : List ℕ) (later : List (List ℕ)) (state state_after : State)
    (output : Stream) → machine.leaves state line state_after
    → StopsAt NoMemory machine (line ∷ later) (moment state output) (moment state_after output)
line_wanted machine line later state state_after output leaves = (
  record {
    text = [];
    between = state;
    later = line ∷ later;
    answered = record { first = []; are = refl; answered = no_line state };
    left = inr leaves;
    wrote = writes_none output.bytes output.bytes refl;
  },
  stands_still output,
)

-- and before any
pub none_wanted : {State : Type 0} (machine : Machine State) (now : Moment State) → StopsAt NoMemory machine [] now now
none_wanted machine now = (
  record {
    text = [];
    between = now.state;
    later = [];
    answered = record { first = []; are = refl; answered = no_line now.state };
    left = refl;
    wrote = writes_none now.output.bytes now.output.bytes refl;
  },
  stands_still now.output,
)

-- ---- Bytes behind bytes

pub served_then : {State : Type 0} (machine : Machine State) (line line_between : List ℕ) (one two three : Moment State)
    (bytes others : List ℕ)
    (quits : Bool) → HasServed machine line one bytes two false → line_between ≡ unfinished line bytes
    → HasServed machine line_between two others three quits → HasServed machine line one (bytes ++ others) three quits
served_then machine line line_between one two three bytes others quits first is second = record {
  text = first.text ++ second.text;
  answered = subst (λ (it : List (List ℕ)). Answered machine one.state it (first.text ++ second.text) three.state quits)
      (sym (complete-append line bytes others))
      (answered_then machine one.state two.state three.state (complete line bytes) (complete (unfinished line bytes) others) first.text
      second.text false quits first.answered refl
      (subst (λ (it : List ℕ). Answered machine two.state (complete it others) second.text three.state quits) is second.answered));
  wrote = writes_then one.output.bytes two.output.bytes three.output.bytes first.text second.text first.wrote second.wrote;
  stands = stands_then one.output two.output three.output first.stands second.stands;
}

pub served_still : {State : Type 0} (machine : Machine State) (line : List ℕ) (one two : Moment State) (bytes others : List ℕ)
    → HasServed machine line one bytes two true → HasServed machine line one (bytes ++ others) two true
served_still machine line one two bytes others first = record {
  text = first.text;
  answered = subst (λ (it : List (List ℕ)). Answered machine one.state it first.text two.state true)
      (sym (complete-append line bytes others))
      (answered_still machine one.state two.state (complete line bytes)
      (complete (unfinished line bytes) others) first.text true first.answered
      refl);
  wrote = first.wrote;
  stands = first.stands;
}

-- serving stops at one of the lines behind these
pub lines_stop : {State : Type 0} (why : Stop) (machine : Machine State) (lines more : List (List ℕ)) (one two three : Moment State)
    (text : List ℕ) → Answered machine one.state lines text two.state false → WritesAll one.output.bytes two.output.bytes text
    → Stands one.output two.output → StopsAt why machine more two three → StopsAt why machine (lines ++ more) one three
lines_stop OutputFailed machine lines more one two three text answered wrote stands stops = (
  failed_then machine one.state two.state three.state lines more text one.output.bytes two.output.bytes three.output.bytes answered wrote
      stops.0,
  fails_then one.output two.output three.output stands stops.1,
)
lines_stop NoMemory machine lines more one two three text answered wrote stands stops = (
  wanted_then machine one.state two.state three.state lines more text one.output.bytes two.output.bytes three.output.bytes answered wrote
      stops.0,
  stands_then one.output two.output three.output stands stops.1,
)

pub lines_stop_still : {State : Type 0} (why : Stop) (machine : Machine State) (lines more : List (List ℕ)) (one two : Moment State)
    → StopsAt why machine lines one two → StopsAt why machine (lines ++ more) one two
lines_stop_still OutputFailed machine lines more one two stops =
    (failed_still machine one.state two.state lines more one.output.bytes two.output.bytes stops.0, stops.1)
lines_stop_still NoMemory machine lines more one two stops =
    (wanted_still machine one.state two.state lines more one.output.bytes two.output.bytes stops.0, stops.1)

pub stops_then : {State : Type 0} (why : Stop) (machine : Machine State) (line line_between : List ℕ) (one two three : Moment State)
    (bytes others : List ℕ) → HasServed machine line one bytes two false → line_between ≡ unfinished line bytes
    → StopsAt why machine (complete line_between others) two three → StopsAt why machine (complete line (bytes ++ others)) one three
stops_then why machine line line_between one two three bytes others first is stops =
    subst (λ (it : List (List ℕ)). StopsAt why machine it one three) (sym (complete-append line bytes others))
    (lines_stop why machine (complete line bytes) (complete (unfinished line bytes) others) one two three first.text first.answered
    first.wrote
    first.stands (subst (λ (it : List ℕ). StopsAt why machine (complete it others) two three) is stops))

pub stops_still : {State : Type 0} (why : Stop) (machine : Machine State) (line : List ℕ) (one two : Moment State) (bytes others : List ℕ)
    → StopsAt why machine (complete line bytes) one two → StopsAt why machine (complete line (bytes ++ others)) one two
stops_still why machine line one two bytes others stops =
    subst (λ (it : List (List ℕ)). StopsAt why machine it one two) (sym (complete-append line bytes others))
    (lines_stop_still why machine (complete line bytes) (complete (unfinished line bytes) others) one two stops)

-- ---- Along a piece

byte_and_rest : (piece : List ℕ) (i : ℕ) → i < length piece → take i piece ++ get_or piece i 0 ∷ [] ++ drop (i + 1) piece ≡ piece
byte_and_rest piece i within =
    ap (λ (it : List ℕ). it ++ drop (i + 1) piece) (sym (take_more piece i 0 within)) ∙ take-append-drop (i + 1) piece

pub byte_served : {State : Type 0} (machine : Machine State) (line line_between : List ℕ) (one two three : Moment State) (piece : List ℕ)
    (i : ℕ)
    → i < length piece → HasServed machine line one (take i piece) two false → line_between ≡ unfinished line (take i piece)
    → HasServed machine line_between two (get_or piece i 0 ∷ []) three false → HasServed machine line one (take (i + 1) piece) three false
byte_served machine line line_between one two three piece i within first is second =
    subst (λ (it : List ℕ). HasServed machine line one it three false) (sym (take_more piece i 0 within))
    (served_then machine line line_between one two three (take i piece) (get_or piece i 0 ∷ []) false first is second)

pub byte_quit : {State : Type 0} (machine : Machine State) (line line_between : List ℕ) (one two three : Moment State) (piece : List ℕ)
    (i : ℕ)
    → i < length piece → HasServed machine line one (take i piece) two false → line_between ≡ unfinished line (take i piece)
    → HasServed machine line_between two (get_or piece i 0 ∷ []) three true → HasServed machine line one piece three true
byte_quit machine line line_between one two three piece i within first is second =
    subst (λ (it : List ℕ). HasServed machine line one it three true) (byte_and_rest piece i within)
    (served_still machine line one three (take i piece ++ get_or piece i 0 ∷ []) (drop (i + 1) piece)
    (served_then machine line line_between one two three (take i piece) (get_or piece i 0 ∷ []) true first is second))

pub byte_stopped : {State : Type 0} (why : Stop) (machine : Machine State) (line line_between : List ℕ) (one two three : Moment State)
    (piece : List ℕ) (i : ℕ)
    → i < length piece → HasServed machine line one (take i piece) two false → line_between ≡ unfinished line (take i piece)
    → StopsAt why machine (complete line_between (get_or piece i 0 ∷ [])) two three → StopsAt why machine (complete line piece) one three
byte_stopped why machine line line_between one two three piece i within first is stops =
    subst (λ (it : List ℕ). StopsAt why machine (complete line it) one three) (byte_and_rest piece i within)
    (stops_still why machine line one three (take i piece ++ get_or piece i 0 ∷ []) (drop (i + 1) piece)
    (stops_then why machine line line_between one two three (take i piece) (get_or piece i 0 ∷ []) first is stops))
