use Rattle.std.proofs.lemmas.Result.{IfOk-weaker}
use Rattle.draft_parts.proofs.MadeLemmas.{two_lists, by_rule}
use Rattle.draft_parts.proofs.parts.either.Goals as goal

pub returns : goal.returns
returns c =
    IfOk-weaker c.joined.result _ _ (λ made e signature h k.
    two_lists signature c.in_ok-first.first.items c.in_ok-second.second.items made.items _ _
    (by_rule signature _ c.args.lefts.items c.in_ok-first.first.items (c.in_ok-first.ensures signature tt h))
    (by_rule signature _ c.args.rights.items c.in_ok-second.second.items (c.in_ok-second.ensures signature tt k)) e) c.joined.ensures
