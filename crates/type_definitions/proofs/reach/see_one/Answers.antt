use Rattle.std.proofs.Common.{◌∷◌, [], ℕ, List, set, true, sym, subst}
use Rattle.type_definitions.specs.Reaching.{Sees}
use Rattle.type_definitions.proofs.ReachLemmas.{seen_already, seen_now}
use Rattle.type_definitions.proofs.reach.see_one.Goals as goal

pub returns-then-seen-number : goal.returns-then-seen-number
returns-then-seen-number c = seen_already c.args.seen.now c.args.work.now.items c.args.number c.if-seen-number.true

pub returns : goal.returns
returns c =
    subst (λ (ws : List ℕ). Sees (c.args.number ∷ []) c.args.seen.now c.args.work.now.items (set c.args.seen.now c.args.number true) ws)
    (sym c.in_ok-push.ensures.items)
    (seen_now c.args.seen.now c.args.work.now.items c.args.number c.requires c.if-seen-number.false)
