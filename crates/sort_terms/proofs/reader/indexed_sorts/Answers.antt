use Rattle.std.proofs.Common.{◌≡◌, ℕ, List, length, get_or, take, map, sym, ap, ◌∙◌, arith}
use Rattle.std.proofs.lemmas.List.{take_more, length-take-le}
use Rattle.std.proofs.Math.Seq.{take-length}
use Rattle.lotos_base.specs.Name.{spelling}
use Rattle.sort_terms.specs.Positions.{positions_of}
use Rattle.sort_terms.specs.declared.operations.Sort.{Sort}
use Rattle.sort_terms.proofs.ScopeLemmas.{pushed_positions}
use Rattle.sort_terms.proofs.reader.indexed_sorts.Goals as goal

pub loop-number-preserved : goal.loop-number-preserved
loop-number-preserved c = λ key.
    pushed_positions (λ (x : Sort). spelling x.name) key (take c.loop-number.number c.args.sorts.now) _
    (get_or c.args.sorts.now c.loop-number.number c.index-sorts-number.result) _ _ c.loop-number.number
    (take_more c.args.sorts.now c.loop-number.number c.index-sorts-number.result (omega arith))
    (c.loop-number.invariant key) (sym (length-take-le c.loop-number.number c.args.sorts.now (omega arith))) (c.in_ok-add.ensures.added key)

pub returns : goal.returns
returns c = λ key.
    let whole : c.loop-number.number ≡ length c.args.sorts.now = omega arith in
    c.loop-number.invariant key
    ∙ ap (λ (xs : List Sort). positions_of key (map (λ (x : Sort). spelling x.name) xs))
    (ap (λ (n : ℕ). take n c.args.sorts.now) whole ∙ take-length c.args.sorts.now)
