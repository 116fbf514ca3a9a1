-- What one turn reads, and the last line.
use Rattle.std.proofs.Common.{◌≡◌, ◌≢◌, ℕ, ◌+◌, ◌<◌, ◌≤◌, false, List, [], ◌∷◌, ◌++◌, take, drop, get_or, length, Option, Some, None, IfSome, refl, sym, ap, subst, ◌∙◌, arith}
use Rattle.std.specs.List.{All}
use Rattle.std.proofs.lemmas.List.{length-take-le, take-append-drop}
use Rattle.lotos_base.specs.Outside.{Stream, Stands, Fails, IsCall, MovesInCall, FailsInCall, MovesInto}
use Rattle.lotos_base.proofs.Streams.{stands_still}
use Rattle.line_server.specs.Limits.{piece_limit, input_limit}
use Rattle.line_server.specs.Cutting.{last_line}
use Rattle.line_server.specs.Machine.{Machine}
use Rattle.line_server.specs.Answered.{no_line}
use Rattle.line_server.specs.Writing.{WritesAll, WritesBeginning}
use Rattle.line_server.specs.Serving.{ServesLine, Moment, moment}
use Rattle.line_server.specs.Turn.{IsReadOfInput, IsAtEnd, Gives, GivesNone, GivesFault, LinesEndWith, all_served, stopped_at}
use Rattle.line_server.specs.declared.lines.Answer.{Answer}
use Rattle.line_server.specs.declared.ends.SessionEnd.TheVariants.{Finished, OutputFailed, NoMemory}
use Rattle.line_server.specs.declared.ends.Stop.TheVariants as stop
use Rattle.line_server.proofs.WrittenTexts.{writes_none}
use Rattle.line_server.proofs.ServedBytes.{line_served, line_failed, line_wanted}

-- ---- What was read

is_read : (left left_after : Option (List ℕ)) (buffer : List ℕ) (count : ℕ)
    → IfSome left (λ bytes. MovesInto bytes left_after buffer count) → IsReadOfInput left (take count buffer) left_after
is_read None left_after buffer count moved = tt
is_read (Some bytes) left_after buffer count moved = (
  drop count bytes,
  sym (ap (λ (it : List ℕ). it ++ drop count bytes) moved.moved ∙ take-append-drop count bytes),
  moved.rest,
)

none_read : (left left_after : Option (List ℕ)) → IfSome left (λ bytes. left_after ≡ Some bytes) → IsReadOfInput left [] left_after
none_read None left_after kept = tt
none_read (Some bytes) left_after kept = (bytes, refl, kept)

is_at_end : (left left_after : Option (List ℕ)) (buffer : List ℕ) (count : ℕ) → count ≡ 0
    → IfSome left (λ bytes. MovesInto bytes left_after buffer count) → IsAtEnd left left_after
is_at_end None left_after buffer count none moved = tt
is_at_end (Some bytes) left_after buffer count none moved =
    let nothing : bytes ≡ [] = moved.ended.0 none in (
      nothing,
      moved.rest ∙ ap (λ (n : ℕ). Some (drop n bytes)) none ∙ ap (λ (it : List ℕ). Some it) nothing,
    )

-- so many bytes
some_taken : (buffer : List ℕ) (count : ℕ) → count ≢ 0 → count ≤ length buffer → take count buffer ≢ []
some_taken buffer count some within none =
    let same : length (take count buffer) ≡ 0 = ap length none in some (omega (arith, length-take-le count buffer within, same))

pub one_taken : (buffer : List ℕ) (count : ℕ) → count ≡ 1 → 1 ≤ length buffer → take count buffer ≡ get_or buffer 0 0 ∷ []
one_taken [] count one within = absurd (omega (arith, within))
one_taken (byte ∷ bytes) count one within = ap (λ (n : ℕ). take n (byte ∷ bytes)) one

-- what was read fits the piece and the limit
pub some_within : (buffer before : List ℕ) (count room total : ℕ) → count ≤ room → room ≤ piece_limit
    → (total < input_limit → total + room ≤ input_limit) → length buffer ≡ length before → length before ≡ piece_limit
    → total ≤ input_limit → total ≢ input_limit
    → (count ≤ length buffer) × (count ≤ piece_limit) × (total + length (take count buffer) ≤ input_limit)
some_within buffer before count room total asked fits within same whole limit below =
    let there : count ≤ length buffer = omega (arith, asked, fits, same, whole) in (
      there,
      omega (arith, asked, fits),
      omega (arith, asked, within, limit, below, length-take-le count buffer there),
    )

-- one call gave these bytes
pub gives_taken : (before after : Stream) (buffer : List ℕ) (count : ℕ) → count ≢ 0 → count ≤ length buffer → count ≤ piece_limit
    → IfSome before.bytes (λ bytes. MovesInto bytes after.bytes buffer count) → MovesInCall before after count
    → Gives before after (take count buffer)
gives_taken before after buffer count some within short moved counted = record {
  some = some_taken buffer count some within;
  short = omega (arith, length-take-le count buffer within, short);
  read = is_read before.bytes after.bytes buffer count moved;
  call = subst (λ (n : ℕ). IsCall before after n) (sym (length-take-le count buffer within)) counted.call;
  stands = counted.some some;
}

-- it found nothing left
pub gives_none : (before after : Stream) (buffer : List ℕ) (count : ℕ) → count ≡ 0
    → IfSome before.bytes (λ bytes. MovesInto bytes after.bytes buffer count) → MovesInCall before after count → GivesNone before after
gives_none before after buffer count none moved counted = record {
  none = is_at_end before.bytes after.bytes buffer count none moved;
  call = subst (λ (n : ℕ). IsCall before after n) none counted.call;
  ends = counted.none none;
}

-- it failed
pub gives_fault : (before after : Stream) → IfSome before.bytes (λ bytes. after.bytes ≡ Some bytes) → FailsInCall before after
    → GivesFault before after
gives_fault before after kept fails = record { kept = none_read before.bytes after.bytes kept; fails = fails }

-- ---- The last line

pub last_none : {State : Type 0} (machine : Machine State) (line : List ℕ) (now : Moment State) → line ≡ []
    → LinesEndWith machine (last_line line) now now Finished
last_none machine line now none =
    subst (λ (it : List ℕ). LinesEndWith machine (last_line it) now now Finished) (sym none)
    (all_served [] false (no_line now.state) (writes_none now.output.bytes now.output.bytes refl) (stands_still now.output))

one_last : (line : List ℕ) → line ≢ [] → last_line line ≡ line ∷ []
one_last [] some = absurd (some refl)
one_last (byte ∷ line) some = refl

pub last_served : {State : Type 0} (machine : Machine State) (line : List ℕ) (state state_after : State)
    (output output_after : Stream) (answer : Answer) → line ≢ []
    → ServesLine machine state line state_after answer → WritesAll output.bytes output_after.bytes answer.text.items
    → Stands output output_after
    → LinesEndWith machine (last_line line) (moment state output) (moment state_after output_after) Finished
last_served machine line state state_after output output_after answer some serves wrote stands =
    let served = line_served machine line state state_after output output_after answer serves wrote stands in
    subst (λ (it : List (List ℕ)). LinesEndWith machine it (moment state output) (moment state_after output_after) Finished)
    (sym (one_last line some)) (all_served served.text answer.quits served.answered served.wrote served.stands)

pub last_failed : {State : Type 0} (machine : Machine State) (line : List ℕ) (state state_after : State)
    (output output_after : Stream) (answer : Answer) → line ≢ []
    → ServesLine machine state line state_after answer → WritesBeginning output.bytes output_after.bytes answer.text.items
    → Fails output output_after
    → LinesEndWith machine (last_line line) (moment state output) (moment state_after output_after) OutputFailed
last_failed machine line state state_after output output_after answer some serves wrote fails =
    subst (λ (it : List (List ℕ)). LinesEndWith machine it (moment state output) (moment state_after output_after) OutputFailed)
    (sym (one_last line some))
    (stopped_at stop.OutputFailed (line_failed machine line [] state state_after output output_after answer serves wrote fails))

pub last_wanted : {State : Type 0} (machine : Machine State) (line : List ℕ) (state state_after : State) (output : Stream) → line ≢ []
    → machine.leaves state line state_after
    → LinesEndWith machine (last_line line) (moment state output) (moment state_after output) NoMemory
last_wanted machine line state state_after output some leaves =
    subst (λ (it : List (List ℕ)). LinesEndWith machine it (moment state output) (moment state_after output) NoMemory)
    (sym (one_last line some)) (stopped_at stop.NoMemory (line_wanted machine line [] state state_after output leaves))

pub all_none : (P : ℕ → Type 0) (items : List ℕ) → items ≡ [] → All P items
all_none P items none = λ k d below. absurd (omega (arith, ap length none, below))
