use Rattle.std.proofs.Common.{◌≡◌, ◌≢◌, ◌-◌, ◌≤◌, [], length}
use Rattle.std.specs.List.{All}
use Rattle.line_server.specs.Limits.{input_limit, piece_limit}
use Rattle.line_server.specs.Turn.{Surroundings, around, turning}
use Rattle.line_server.specs.Session.{Turns}
use Rattle.line_server.specs.declared.ends.SessionEnd.{SessionEnd}
use Rattle.line_server.proofs.session.serve_turns.Given as goal

-- the turns to come are the last ones of the session
abbrev pub invariant-loop-count : goal.invariant-loop-count
invariant-loop-count g l =
    ((after : Surroundings g.L.Lines.State) (end : SessionEnd)
    → Turns g.L.Lines.machine after end
    (turning (around (g.L.Lines.state l.lines (g.F.Shelf.state l.shelf))
    (g.S.Source.state l.input) (g.K.Sink.state l.output))
    l.line.items l.total)
    → Turns g.L.Lines.machine after end
    (turning (around (g.L.Lines.state l.initial.lines (g.F.Shelf.state l.initial.shelf)) (g.S.Source.state l.initial.input)
    (g.K.Sink.state l.initial.output)) [] 0))
    × All (λ byte. byte ≢ 10) l.line.items
    × (length l.line.items ≤ l.total)
    × (l.total ≤ input_limit)
    × (length l.piece ≡ piece_limit)
    × g.L.Lines.is_ready l.lines

abbrev pub decreases-loop-count : goal.decreases-loop-count
decreases-loop-count g l = input_limit - l.total
