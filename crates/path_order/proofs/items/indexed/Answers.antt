use Rattle.std.proofs.Common.{◌≡◌, ℕ, List, length, get_or, take, map, sym, ap, ◌∙◌, arith}
use Rattle.std.proofs.lemmas.List.{take_more, length-take-le}
use Rattle.std.proofs.Math.Seq.{take-length}
use Rattle.lotos_base.specs.Name.{spelling}
use Rattle.sort_terms.specs.Positions.{positions_of}
use Rattle.sort_terms.specs.declared.operations.Op.{Op}
use Rattle.sort_terms.proofs.ScopeLemmas.{pushed_positions}
use Rattle.path_order.proofs.items.indexed.Goals as goal

pub loop-number-preserved : goal.loop-number-preserved
loop-number-preserved c = λ key.
    pushed_positions (λ (x : Op). spelling x.name) key (take c.loop-number.number c.args.ops.now) _
    (get_or c.args.ops.now c.loop-number.number c.index-ops-number.result) _ _ c.loop-number.number
    (take_more c.args.ops.now c.loop-number.number c.index-ops-number.result (omega arith))
    (c.loop-number.invariant key) (sym (length-take-le c.loop-number.number c.args.ops.now (omega arith))) (c.in_ok-add.ensures.added key)

pub returns : goal.returns
returns c = λ key.
    let whole : c.loop-number.number ≡ length c.args.ops.now = omega arith in
    c.loop-number.invariant key
    ∙ ap (λ (xs : List Op). positions_of key (map (λ (x : Op). spelling x.name) xs))
    (ap (λ (n : ℕ). take n c.args.ops.now) whole ∙ take-length c.args.ops.now)
