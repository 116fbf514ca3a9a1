use Rattle.std.proofs.Common.{◌≡◌, ◌≢◌, ◌+◌, ◌≤◌, take, length, false}
use Rattle.std.specs.List.{All}
use Rattle.line_server.specs.Cutting.{unfinished}
use Rattle.line_server.specs.Serving.{moment, HasServed}
use Rattle.line_server.proofs.piece.serve_piece.Given as goal

-- the bytes so far were served
abbrev pub invariant-loop-byte : goal.invariant-loop-byte
invariant-loop-byte g l =
    HasServed g.L.Lines.machine l.initial.line.items
    (moment (g.L.Lines.state l.initial.lines (g.F.Shelf.state l.initial.shelf)) (g.K.Sink.state l.initial.output))
    (take l.byte-index l.piece)
    (moment (g.L.Lines.state l.lines (g.F.Shelf.state l.shelf))
    (g.K.Sink.state l.output)) false
    × (l.line.items ≡ unfinished l.initial.line.items (take l.byte-index l.piece))
    × All (λ byte. byte ≢ 10) l.line.items
    × (length l.line.items ≤ length l.initial.line.items + l.byte-index)
    × g.L.Lines.is_ready l.lines
