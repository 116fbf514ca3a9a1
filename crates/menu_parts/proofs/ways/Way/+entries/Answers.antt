use Rattle.std.proofs.lemmas.Result.{IfOk-weaker}
use Rattle.menu_parts.proofs.WayLemmas.{left_up, right_up, top_up, under_up}
use Rattle.menu_parts.proofs.ways.Way.+entries.Goals as goal

pub returns-in-Top : goal.returns-in-Top
returns-in-Top t c =
    IfOk-weaker c.apply_to_all.result _ _ (λ made e signature h.
    top_up signature c.args.self.now c.args.items.now.items made.items c.in-Top.is (e signature h)) c.apply_to_all.ensures

pub returns-in_ok-made-in-Left : goal.returns-in_ok-made-in-Left
returns-in_ok-made-in-Left t c =
    IfOk-weaker c.entries.result _ _ (λ made e signature h.
    let between = c.in_ok-made-in-Left.ensures signature h in
    left_up signature c.args.self.now c.args.items.now.items made.items c.in-Left.above c.in_ok-made-in-Left.made.items
    (e signature between.terms) c.in-Left.is between) c.entries.ensures

pub returns-in_ok-made-in-Right : goal.returns-in_ok-made-in-Right
returns-in_ok-made-in-Right t c =
    IfOk-weaker c.entries-in-Right.result _ _ (λ made e signature h.
    let between = c.in_ok-made-in-Right.ensures signature h in
    right_up signature c.args.self.now c.args.items.now.items made.items c.in-Right.above c.in_ok-made-in-Right.made.items
    (e signature between.terms) c.in-Right.is between) c.entries-in-Right.ensures

pub returns-in_ok-made-in-Under : goal.returns-in_ok-made-in-Under
returns-in_ok-made-in-Under t c =
    IfOk-weaker c.entries-in-Under.result _ _ (λ made e signature h.
    let between = c.in_ok-made-in-Under.ensures signature h in
    under_up signature c.args.self.now c.args.items.now.items made.items c.in-Under.above c.in_ok-made-in-Under.made.items
    (e signature between.terms) c.in-Under.pairs c.in-Under.is between) c.entries-in-Under.ensures
