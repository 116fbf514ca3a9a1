use Rattle.std.proofs.Common.{◌<◌, ◌≤◌, ◌++◌, ℕ, [], ◌∷◌, length, ap, ◌∙◌, arith}
use Rattle.draft_parts.proofs.MadeLemmas.{pairs_turn, pairs_without_actuals, pairs_without_formals}
use Rattle.draft_parts.proofs.gates.Call.relabelled.Goals as goal

pub loop-i-preserved : goal.loop-i-preserved
loop-i-preserved c =
    let within : c.loop-i.i < length c.args.self.now.formals.now.items = omega arith in
    let inside : c.loop-i.i < length c.args.self.now.actuals.now.items = omega arith in
    pairs_turn c.args.self.now.formals.now.items c.args.self.now.actuals.now.items c.args.pairs.now c.loop-i.made.items
    c.push.new.self.items c.loop-i.i c.index.result.now c.index-in-loop-i.result.now within inside c.index.ensures c.index-in-loop-i.ensures
    (c.in_ok-push.ensures.items
    ∙ ap (λ (g : ℕ). c.loop-i.made.items ++ ((c.index.result.now, g) ∷ [])) c.gate_under.ensures)
    c.loop-i.invariant

pub returns-then-i-len : goal.returns-then-i-len
returns-then-i-len c =
    let past : length c.args.self.now.actuals.now.items ≤ c.loop-i.i = omega arith in
    pairs_without_actuals c.args.self.now.formals.now.items c.args.self.now.actuals.now.items c.args.pairs.now c.loop-i.made.items
    c.loop-i.i past c.loop-i.invariant

pub returns : goal.returns
returns c =
    let past : length c.args.self.now.formals.now.items ≤ c.loop-i.i = omega arith in
    pairs_without_formals c.args.self.now.formals.now.items c.args.self.now.actuals.now.items c.args.pairs.now c.loop-i.made.items
    c.loop-i.i past c.loop-i.invariant
