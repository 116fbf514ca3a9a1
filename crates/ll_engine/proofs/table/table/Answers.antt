use Rattle.std.proofs.Common.{◌≡◌, ◌∙◌, ℕ, ◌+◌, ◌*◌, ◌/◌, ◌%◌, ◌<◌, ap, subst, arith}
use Rattle.std.proofs.lemmas.List.{length_push}
use Rattle.ll_engine.specs.Computed.{is_marked, is_candidate, IsTableEntry}
use Rattle.ll_engine.specs.Related.{related}
use Rattle.ll_engine.specs.Table.{width_of, IsConflictEntry}
use Rattle.ll_engine.proofs.Entries.{AreEntries-more, IsTableFault-at}
use Rattle.ll_engine.proofs.table.table.Goals as goal

pub returns-in-Err : goal.returns-in-Err
returns-in-Err c =
    let test = is_candidate (is_marked c.args.nullable.now) (related c.args.first.now) (related c.args.follow.now)
    c.args.first.now.tokens in
    let width : c.from-width.result + 1 ≡ width_of c.args.first.now.tokens = ap (λ (t : ℕ). t + 1) c.from-width.ensures in
    let lt : c.loop-cell.cell < c.args.parts * width_of c.args.first.now.tokens = rw (← width, ← c.from.ensures) c.loop-cell-test.true in
    IsTableFault-at test c.args.rows.now c.args.parts c.args.first.now.tokens c.loop-cell.cell c.loop-cell.table.items c.in-Err.fault lt
    c.loop-cell.invariant.1
    (subst (λ (w : ℕ). IsConflictEntry (test (c.loop-cell.cell / w) (c.loop-cell.cell % w)) c.args.rows.now (c.loop-cell.cell / w)
    (c.loop-cell.cell % w) c.in-Err.fault) width c.in-Err.ensures)

pub loop-cell-preserved : goal.loop-cell-preserved
loop-cell-preserved c =
    let test = is_candidate (is_marked c.args.nullable.now) (related c.args.first.now) (related c.args.follow.now)
    c.args.first.now.tokens in
    let width : c.from-width.result + 1 ≡ width_of c.args.first.now.tokens = ap (λ (t : ℕ). t + 1) c.from-width.ensures in
    let here = subst (λ (w : ℕ). IsTableEntry (test (c.loop-cell.cell / w) (c.loop-cell.cell % w)) c.args.rows.now c.in-Ok.row) width
    c.in-Ok.ensures in
    rw c.in_ok-push-in-Ok.ensures.items (
      length_push c.loop-cell.table.items c.in-Ok.row ∙ ap (λ (n : ℕ). n + 1) c.loop-cell.invariant.0,
      AreEntries-more test c.args.rows.now c.args.first.now.tokens c.loop-cell.table.items c.loop-cell.cell c.in-Ok.row
          c.loop-cell.invariant.0 c.loop-cell.invariant.1 here,
    )

pub returns : goal.returns
returns c =
    let width : c.from-width.result + 1 ≡ width_of c.args.first.now.tokens = ap (λ (t : ℕ). t + 1) c.from-width.ensures in
    let end : c.loop-cell.cell ≡ c.args.parts * width_of c.args.first.now.tokens = rw (← width, ← c.from.ensures) (omega arith) in
    record { one_each = c.loop-cell.invariant.0 ∙ end; entries = rw (← end) c.loop-cell.invariant.1 }
