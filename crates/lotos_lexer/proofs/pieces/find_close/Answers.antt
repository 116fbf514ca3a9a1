use Rattle.std.proofs.Common.{sym, ◌∙◌}
use Rattle.std.proofs.lemmas.List.{take_rest}
use Rattle.lotos_lexer.proofs.Comments.{close_at-later}
use Rattle.lotos_lexer.proofs.pieces.find_close.Goals as goal

pub loop-index-preserved : goal.loop-index-preserved
loop-index-preserved c =
    let bytes = c.args.bytes.now in
    let index = c.loop-index.index in
    c.loop-index.invariant ∙ close_at-later bytes index c.loop-index-test.true
    (sym (rw (take_rest bytes index) at c.if-starts_with.ensures.value))
