use Rattle.std.proofs.lemmas.List.FromFn.{map-range_with_len_more, length-map-range_with_len}
use Rattle.std.proofs.Common.{◌≡◌, ℕ, ◌*◌, refl, ◌∙◌, sym, arith, ap, ◌/◌, ◌%◌, length}
use Rattle.ll_engine.specs.Computed.{is_marked, part_column, has_follower}
use Rattle.ll_engine.specs.Related.{related}
use Rattle.ll_engine.proofs.prediction.followers.Goals as goal

pub loop-cell-preserved : goal.loop-cell-preserved
loop-cell-preserved c =
    rw (c.in_ok-push.ensures.items, c.loop-cell.invariant, c.has_follower.ensures)
    (sym (map-range_with_len_more (λ (cell : ℕ). has_follower c.args.rows.now (is_marked c.args.nullable.now) (related c.args.first.now)
    c.args.first.now.tokens c.args.start (cell / c.part_column-width.result) (cell % c.part_column-width.result)) 0 c.loop-cell.cell
    c.loop-cell.cell (omega arith)))

pub invariant_of-result : goal.invariant_of-result
invariant_of-result c =
    let len = ap length c.loop-cell.invariant ∙ length-map-range_with_len
    (λ (cell : ℕ). has_follower c.args.rows.now (is_marked c.args.nullable.now) (related c.args.first.now) c.args.first.now.tokens
    c.args.start (cell / c.part_column-width.result) (cell % c.part_column-width.result)) 0 c.loop-cell.cell in
    record { full = omega (arith, len, c.loop-cell.bits.ok.0, c.cell_count-cell-end.ensures) }

pub returns : goal.returns
returns c =
    let e : c.loop-cell.cell ≡ c.args.parts * part_column c.args.first.now.tokens c.args.parts =
    omega (arith, c.cell_count-cell-end.ensures) in
    let i = rw (c.part_column-width.ensures, e) at c.loop-cell.invariant in
    record { same_parts = refl; same_tokens = refl; bits_are = i }
