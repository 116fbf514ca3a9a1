-- What a session of an accepted specification comes to, where all is told and nothing outside fails.
use Rattle.std.specs.Prelude.{◌≡◌, ◌⊎◌, ℕ, ◌<◌, ◌≤◌, List, ◌++◌, length, Option, Some}
use Rattle.lotos_base.specs.Counts.{last_count}
use Rattle.lotos_base.specs.Outside.{Texts}
use Rattle.certificate_verbs.specs.HandedOn.{ShelfState, Asked, Acceptance, goes_on, ComesOver, Beginning, standing_at, Standing}
use Rattle.certificate_verbs.specs.HandedOn.{AreAnswered, CommandLine, session}
use Rattle.line_server.specs.Limits.{input_limit}
use Rattle.line_server.specs.Cutting.{lines_in}
use Rattle.certificate_verbs.specs.declared.ended.Ended.{Ended}
use Rattle.certificate_verbs.specs.declared.ended.Ended.TheVariants.{Done, NoMemory}
use Rattle.lotos_top.specs.Opening.{SessionBegins, opening_text}
use Rattle.lotos_top.specs.Run.{Streams}

-- a count stands, below its last value
abbrev pub CountStands : ℕ → ℕ → Type 0
CountStands before after = (after ≡ before) × (before < last_count)

-- no fault of shelf, input and output was counted
pub record IsSteady (shelf shelf_after : ShelfState) (before after : Streams) : Type 0 where
  pub shelf_stands : CountStands shelf.faults shelf_after.faults
  pub input_stands : CountStands before.input.faults after.input.faults
  pub output_stands : CountStands before.output.faults after.output.faults

-- The session begins as the acceptance says; the lines of the input are answered one after another, each by what it comes to in
-- the state that is reached, and leads to a state that is reached; the head of the report, the menu and all answers are written;
-- the shelf has the texts that the last line leaves there; and the work is done.
pub record Simulates (acceptance : Acceptance) (texts : Texts) (bytes written : List ℕ) (shelf_after : ShelfState) (after : Streams)
    (answer : Ended) : Type 0 where
  pub begun : Beginning
  pub begins : SessionBegins acceptance begun
  pub answers : List ℕ
  pub last : Standing
  pub answered : AreAnswered begun (standing_at begun (Some texts)) (lines_in bytes) answers last
  pub left : shelf_after.texts ≡ last.texts
  pub writes : after.output.bytes ≡ Some (written ++ (opening_text begun ++ answers))
  pub done : answer ≡ Done

-- For every specification that the texts of the shelf accept and every list of lines, the session is simulated, or memory was
-- wanted.
abbrev pub Headline : Option CommandLine → (shelf shelf_after : ShelfState) → (before after : Streams) → Ended → Type 0
Headline line shelf shelf_after before after answer =
    (asked : Asked) (texts : Texts) (acceptance : Acceptance) (bytes written : List ℕ) →
    line ≡ Some (session asked) →
    shelf.texts ≡ Some texts →
    ComesOver texts asked (goes_on acceptance) →
    before.input.bytes ≡ Some bytes →
    length bytes ≤ input_limit →
    before.output.bytes ≡ Some written →
    IsSteady shelf shelf_after before after →
    (answer ≡ NoMemory) ⊎ Simulates acceptance texts bytes written shelf_after after answer
