use Rattle.std.proofs.lemmas.List.FromFn.{map-range_with_len_more, length-map-range_with_len}
use Rattle.std.proofs.Common.{ℕ, ◌∙◌, sym, arith, ap, ◌/◌, ◌%◌, length}
use Rattle.ll_engine.specs.Related.{next_related}
use Rattle.ll_engine.proofs.relation.Relation.next.Goals as goal

pub loop-cell-preserved : goal.loop-cell-preserved
loop-cell-preserved c =
    rw (c.in_ok-push.ensures.items, c.loop-cell.invariant, c.next_has.ensures)
    (sym (map-range_with_len_more (λ (cell : ℕ). next_related c.args.self.now (cell / c.part_column-width.result)
    (cell % c.part_column-width.result)) 0 c.loop-cell.cell c.loop-cell.cell (omega arith)))

pub invariant_of-result : goal.invariant_of-result
invariant_of-result c =
    let len = ap length c.loop-cell.invariant ∙ length-map-range_with_len
    (λ (cell : ℕ). next_related c.args.self.now (cell / c.part_column-width.result) (cell % c.part_column-width.result)) 0
    c.loop-cell.cell in
    record { full = omega (arith, len, c.loop-cell.bits.ok.0, c.cell_count-cell-end.ensures) }
