-- How often a line calls the shelf.
use Rattle.std.specs.Prelude.{◌≡◌, ◌⊎◌, ℕ, ◌<◌, ◌≤◌, length}
use Rattle.lotos_base.specs.Counts.{next_count}
use Rattle.line_server.specs.Request.{Request, save, replay}
use Rattle.history_lines.specs.ShelfAnswer.{trace_limit}
use Rattle.history_lines.specs.Standing.{Standing, shown_trace}

-- One that replays calls it once; one that saves calls it once, unless the trace is too long; and no other line calls it.
abbrev pub CallsShelf : Standing → Request → (before after : ℕ) → Type 0
CallsShelf standing (replay name) before after = after ≡ next_count before
CallsShelf standing (save name) before after =
    ((trace_limit < length (shown_trace standing.basis standing.progress)) × (after ≡ before))
    ⊎ ((length (shown_trace standing.basis standing.progress) ≤ trace_limit) × (after ≡ next_count before))
CallsShelf standing _ before after = after ≡ before

-- Where memory was wanted, a line that saves may not have come to its call.
abbrev pub MayCallShelf : Request → (before after : ℕ) → Type 0
MayCallShelf (replay name) before after = after ≡ next_count before
MayCallShelf (save name) before after = (after ≡ before) ⊎ (after ≡ next_count before)
MayCallShelf _ before after = after ≡ before
