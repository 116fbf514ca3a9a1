use Rattle.std.proofs.Common.{ℕ, List, take, get_or, [], ◌∷◌, ap, refl, sym, ◌∙◌, arith}
use Rattle.std.proofs.lemmas.List.{take_more}
use Rattle.line_server.specs.Cutting.{unfinished}
use Rattle.line_server.proofs.Cuts.{unfinished-append}
use Rattle.line_server.proofs.ServedBytes.{nothing_served, byte_served, byte_quit, byte_stopped}
use Rattle.line_server.proofs.piece.serve_piece.Goals as goal

pub loop-byte-init : goal.loop-byte-init
loop-byte-init g c =
    (nothing_served g.L.Lines.machine c.args.line.now.items _, refl, c.requires.plain, omega arith, c.requires.ready)

pub returns-in-Ok-true-clause-served : goal.returns-in-Ok-true-clause-served
returns-in-Ok-true-clause-served g c =
    byte_quit g.L.Lines.machine c.args.line.now.items c.loop-byte.line.items _ _ _ c.args.piece.now c.loop-byte.byte-index
    c.loop-byte-test.true c.loop-byte.invariant.0 c.loop-byte.invariant.1
    (rw c.in-Ok-true.field-0-test at c.in-Ok-true.ensures.served)

pub returns-in-Err-clause-served : goal.returns-in-Err-clause-served
returns-in-Err-clause-served g c =
    byte_stopped c.in-Err.stop g.L.Lines.machine c.args.line.now.items c.loop-byte.line.items _ _ _ c.args.piece.now c.loop-byte.byte-index
    c.loop-byte-test.true c.loop-byte.invariant.0 c.loop-byte.invariant.1 c.in-Err.ensures.served

pub loop-byte-preserved : goal.loop-byte-preserved
loop-byte-preserved g c = (
  byte_served g.L.Lines.machine c.args.line.now.items c.loop-byte.line.items _ _ _ c.args.piece.now c.loop-byte.byte-index
      c.loop-byte-test.true c.loop-byte.invariant.0 c.loop-byte.invariant.1
      (rw c.in-Ok-false.field-0-test at c.in-Ok-false.ensures.served),
  rw c.in-Ok-false.field-0-test at c.in-Ok-false.ensures.begins
      ∙ (ap (λ (it : List ℕ). unfinished it (get_or c.args.piece.now c.loop-byte.byte-index 0 ∷ [])) c.loop-byte.invariant.1
      ∙ (sym (unfinished-append c.args.line.now.items (take c.loop-byte.byte-index c.args.piece.now) (get_or c.args.piece.now
      c.loop-byte.byte-index 0 ∷ []))
      ∙ ap (λ (it : List ℕ). unfinished c.args.line.now.items it) (sym (take_more c.args.piece.now c.loop-byte.byte-index 0
      c.loop-byte-test.true)))),
  c.in-Ok-false.ensures.plain,
  omega (arith, c.in-Ok-false.ensures.short, c.loop-byte.invariant.3),
  c.in-Ok-false.ensures.ready,
)
