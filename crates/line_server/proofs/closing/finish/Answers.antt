use Rattle.std.proofs.Common.{◌≡◌, length, ap, arith}
use Rattle.std.proofs.lemmas.List.{nil_from_length}
use Rattle.line_server.proofs.TurnLemmas.{last_none, last_served, last_failed, last_wanted}
use Rattle.line_server.proofs.closing.finish.Goals as goal

pub returns-then-is_empty-clause-served : goal.returns-then-is_empty-clause-served
returns-then-is_empty-clause-served g c =
    last_none g.L.Lines.machine c.args.line.now _ (nil_from_length c.args.line.now (grind
    (arith, c.is_empty.ensures, c.if-is_empty.ensures, c.if-is_empty.true)))

pub returns-in-Err-clause-served : goal.returns-in-Err-clause-served
returns-in-Err-clause-served g c =
    last_wanted g.L.Lines.machine c.args.line.now _ _ (g.K.Sink.state c.args.output.now)
    (λ none. let nothing : length c.args.line.now ≡ 0 = ap length none in grind
    (arith, nothing, c.is_empty.ensures, c.if-is_empty.ensures, c.if-is_empty.false)) c.in-Err.ensures.served

pub returns-in-Ok-write_whole-clause-served : goal.returns-in-Ok-write_whole-clause-served
returns-in-Ok-write_whole-clause-served g c =
    last_served g.L.Lines.machine c.args.line.now _ _ (g.K.Sink.state c.args.output.now) (g.K.Sink.state c.write_whole.new.output)
    c.in-Ok.answer
    (λ none. let nothing : length c.args.line.now ≡ 0 = ap length none in grind
    (arith, nothing, c.is_empty.ensures, c.if-is_empty.ensures, c.if-is_empty.false))
    c.in-Ok.ensures.served (rw c.as_slice.ensures.value at c.in-Ok-write_whole.ensures.written) c.in-Ok-write_whole.ensures.counts

pub returns-clause-served : goal.returns-clause-served
returns-clause-served g c =
    last_failed g.L.Lines.machine c.args.line.now _ _ (g.K.Sink.state c.args.output.now) (g.K.Sink.state c.write_whole.new.output)
    c.in-Ok.answer
    (λ none. let nothing : length c.args.line.now ≡ 0 = ap length none in grind
    (arith, nothing, c.is_empty.ensures, c.if-is_empty.ensures, c.if-is_empty.false))
    c.in-Ok.ensures.served (rw c.as_slice.ensures.value at c.in-Err-write_whole.ensures.written) c.in-Err-write_whole.ensures.counts
