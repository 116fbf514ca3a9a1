use Rattle.std.proofs.Common.{ℕ, List, sym, subst, ◌∙◌}
use Rattle.line_server.specs.Serving.{moment, StopsAt}
use Rattle.line_server.specs.declared.ends.Stop.TheVariants.{NoMemory}
use Rattle.line_server.proofs.Cuts.{joins, completes_none}
use Rattle.line_server.proofs.ServedBytes.{byte_joined, none_wanted}
use Rattle.line_server.proofs.piece.serve_byte.Goals as goal

pub returns-in-Ok-clause-served : goal.returns-in-Ok-clause-served
returns-in-Ok-clause-served g c = byte_joined g.L.Lines.machine c.args.line.now.items _ c.args.byte c.if-byte-eq10.false

pub returns-in-Err-clause-served : goal.returns-in-Err-clause-served
returns-in-Err-clause-served g c =
    subst (λ (it : List (List ℕ)). StopsAt NoMemory g.L.Lines.machine it
    (moment (g.L.Lines.state c.args.lines.now (g.F.Shelf.state c.args.shelf.now)) (g.K.Sink.state c.args.output.now))
    (moment (g.L.Lines.state c.args.lines.now (g.F.Shelf.state c.args.shelf.now)) (g.K.Sink.state c.args.output.now)))
    (sym (completes_none c.args.line.now.items c.args.byte c.if-byte-eq10.false)) (none_wanted g.L.Lines.machine _)

pub returns-in-Ok-clause-begins : goal.returns-in-Ok-clause-begins
returns-in-Ok-clause-begins g c = c.in-Ok.ensures.items ∙ sym (joins c.args.line.now.items c.args.byte c.if-byte-eq10.false)
