use Rattle.std.proofs.Common.{◌≢◌, ℕ, List, length, ap, subst, ◌∙◌, arith}
use Rattle.line_server.specs.Turn.{around, turning}
use Rattle.line_server.specs.Session.{Turns, last_turn, one_turn}
use Rattle.line_server.proofs.TurnLemmas.{all_none}
use Rattle.line_server.proofs.session.serve_turns.Goals as goal

pub loop-count-init : goal.loop-count-init
loop-count-init g c = (
  λ after end turns. subst (λ (it : List ℕ). Turns g.L.Lines.machine after end
      (turning (around (g.L.Lines.state c.args.lines.now (g.F.Shelf.state c.args.shelf.now)) (g.S.Source.state c.args.input.now)
      (g.K.Sink.state c.args.output.now)) it 0)) c.new-line.ensures.items turns,
  all_none (λ byte. byte ≢ 10) c.new-line.result.items c.new-line.ensures.items,
  omega (arith, ap length c.new-line.ensures.items),
  omega arith,
  c.requires.piece,
  c.requires.ready,
)

pub returns-in-Err-clause-turns : goal.returns-in-Err-clause-turns
returns-in-Err-clause-turns g c = c.loop-count.invariant.0 _ _ (last_turn _ c.in-Err.ensures.turned)

pub loop-count-preserved : goal.loop-count-preserved
loop-count-preserved g c = (
  λ after end turns. c.loop-count.invariant.0 after end (one_turn _ _ c.in-Ok.ensures.turned turns),
  c.in-Ok.ensures.plain,
  c.in-Ok.ensures.short,
  c.in-Ok.ensures.within,
  c.in-Ok.ensures.piece ∙ c.loop-count.invariant.4,
  c.in-Ok.ensures.ready,
)
