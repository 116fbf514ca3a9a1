use Rattle.std.proofs.Common.{◌∙◌, ◌++◌, ◌-◌, ap, take, reverse, arith}
use Rattle.syntax_trees.proofs.ReversedLists.{overlaid}
use Rattle.syntax_trees.proofs.firsts.overlaid.Goals as goal

pub returns : goal.returns
returns c =
    let many = c.len-3.result - c.len-4.result in
    ap reverse
    (c.in_ok-extend_from_slice.ensures.items ∙ ap (λ it. it ++ c.deref.result.now) c.truncate.ensures.items
    ∙ ap (λ it. take many c.args.under.items ++ it) c.deref.ensures.value)
    ∙ overlaid c.args.over.items c.args.under.items many (omega (arith, c.args.over.ok.0, c.args.under.ok.0))
