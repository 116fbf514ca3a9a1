use Rattle.std.proofs.Common.{nat_eq, ◌∙◌}
use Rattle.path_order.proofs.CodeLemmas.{alike}
use Rattle.path_order.proofs.comparing.are_alike.Goals as goal

-- one operation: the lengths decide
pub returns : goal.returns
returns c =
    (λ i. nat_eq ((c.len.ensures ∙ c.args.arguments.now.ok.0) i) ((c.len-2.ensures ∙ c.args.others.now.ok.0) i))
    ∙ alike c.args.op c.args.other c.args.arguments.now.items c.args.others.now.items c.if-op-other.false
