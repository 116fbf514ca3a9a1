-- What the lines come to that save the trace and replay a text. Each makes one call of the shelf at most.
use Rattle.std.specs.Prelude.{◌≡◌, ℕ, ◌<◌, ◌≤◌, List, ◌++◌, length, Option, None, Some, IfSome, IsSomeAnd, codes, decimal}
use Rattle.lotos_base.specs.Outside.{Texts, KeepsOthers, Puts}
use Rattle.session_log.specs.HandedOn.{SessionBasis, Progress, first_situation, ReplayRefusal, ReplayIs, goes_on, stops}
use Rattle.history_lines.specs.Standing.{Standing, shown_menu, shown_trace}
use Rattle.history_lines.specs.CommandRefusal.{CommandRefusal, unread, unwritten, trace_too_long, no_replay, command_refusal_text}
use Rattle.history_lines.specs.Befallen.{Befallen, says, says_faulty, come_to, with_texts}

-- a trace has so many bytes at most
abbrev pub trace_limit : ℕ
trace_limit = 268435456

-- the line of a refusal in a session
abbrev pub refusal_in : Standing → CommandRefusal → List ℕ
refusal_in standing refusal = command_refusal_text standing.basis.data_.signature refusal

-- ---- Saving

-- where the shelf tells its texts, it has afterwards exactly these bytes under the name, and under the others what it had
abbrev pub HasPut : Option Texts → Option Texts → (name bytes : List ℕ) → Type 0
HasPut before after name bytes = IfSome before (λ told. IsSomeAnd after (λ told_after. Puts told told_after name bytes))

-- where the shelf tells its texts, it has under the other names what it had
abbrev pub MayHavePut : Option Texts → Option Texts → (name : List ℕ) → Type 0
MayHavePut before after name = IfSome before (λ told. IsSomeAnd after (λ told_after. KeepsOthers told told_after name))

abbrev pub saved_text : List ℕ → List ℕ
saved_text name = codes "saved " ++ name ++ codes "\n"

-- What the line comes to that saves the trace under a name. A trace that is too long is refused before the shelf is called; it
-- is refused as unwritten exactly where the shelf counted a fault, which may have left any text, or none, under the name.
pub data SaveComesTo (standing : Standing) (name : List ℕ) : Befallen → Type 0 where
  is_too_long :
      trace_limit < length (shown_trace standing.basis standing.progress) →
      SaveComesTo standing name (says standing (refusal_in standing (trace_too_long name)))
  is_unwritten :
      (after : Option Texts) →
      length (shown_trace standing.basis standing.progress) ≤ trace_limit →
      MayHavePut standing.texts after name →
      SaveComesTo standing name (says_faulty (with_texts standing after) (refusal_in standing (unwritten name)))
  is_saved :
      (after : Option Texts) →
      length (shown_trace standing.basis standing.progress) ≤ trace_limit →
      HasPut standing.texts after name (shown_trace standing.basis standing.progress) →
      SaveComesTo standing name (says (with_texts standing after) (saved_text name))

-- ---- Replay

-- the text stands under the name, where the shelf tells its texts
abbrev pub StandsUnder : Option Texts → (name text : List ℕ) → Type 0
StandsUnder texts name text = IfSome texts (λ told. told name ≡ Some text)

-- the shelf tells its texts and has none under the name
abbrev pub IsMissing : Option Texts → (name : List ℕ) → Type 0
IsMissing texts name = IsSomeAnd texts (λ told. told name ≡ None)

-- how many steps were replayed, and the menu behind them
abbrev pub replayed_text : SessionBasis → Progress → List ℕ
replayed_text basis new = codes "replayed " ++ decimal (length new.steps) ++ codes "\n" ++ shown_menu basis new

-- What the line comes to that replays the text with a name, from the state in which the session began. It is refused as unread
-- exactly where the shelf counted a fault or has no such text, then where the text is too long, and then for what the text
-- comes to.
pub data ReplayComesTo (standing : Standing) (name : List ℕ) : Befallen → Type 0 where
  is_failed :
      ReplayComesTo standing name (says_faulty standing (refusal_in standing (unread name)))
  is_missing :
      IsMissing standing.texts name →
      ReplayComesTo standing name (says standing (refusal_in standing (unread name)))
  is_long :
      (text : List ℕ) →
      StandsUnder standing.texts name text →
      trace_limit < length text →
      ReplayComesTo standing name (says standing (refusal_in standing (trace_too_long name)))
  is_refused :
      (text : List ℕ) (refusal : ReplayRefusal) →
      StandsUnder standing.texts name text →
      length text ≤ trace_limit →
      ReplayIs standing.basis (first_situation standing.progress) text (stops refusal) →
      ReplayComesTo standing name (says standing (refusal_in standing (no_replay standing.basis.specification.name refusal)))
  is_replayed :
      (text : List ℕ) (new : Progress) →
      StandsUnder standing.texts name text →
      length text ≤ trace_limit →
      ReplayIs standing.basis (first_situation standing.progress) text (goes_on new) →
      ReplayComesTo standing name (says (come_to standing new) (replayed_text standing.basis new))
