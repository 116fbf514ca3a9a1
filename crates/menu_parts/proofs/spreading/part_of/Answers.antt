use Rattle.std.proofs.lemmas.Result.{IfOk-weaker}
use Rattle.menu_parts.proofs.SpreadKept.{entries_given}
use Rattle.menu_parts.proofs.spreading.part_of.Goals as goal

pub returns : goal.returns
returns c =
    IfOk-weaker c.of.result _ _ (λ made e signature h.
    entries_given signature c.args.items.now.items c.in_ok-entries.entries.items _ e c.in_ok-entries.ensures.same
    c.in_ok-entries.ensures.terms h) c.of.ensures
