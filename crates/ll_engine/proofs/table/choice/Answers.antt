use Rattle.std.proofs.Common.{◌≡◌, ◌∙◌, sym, refl, arith, length}
use Rattle.std.specs.Prelude.{Some, slice_get}
use Rattle.std.proofs.lemmas.Option.{slice_get_read}
use Rattle.ll_engine.specs.Computed.{is_marked, is_candidate}
use Rattle.ll_engine.specs.Related.{related}
use Rattle.ll_engine.proofs.Choices.{FoundBelow-fails, FoundBelow-next, AreSeveral-next, IsChoice-none, IsOnly-below}
use Rattle.ll_engine.proofs.table.choice.Goals as goal
use Rattle.ll_engine.proofs.table.choice.Goals.{then-is_candidate+else-is_some, else-is_candidate}

pub returns-then-is_some : goal.returns-then-is_some
returns-then-is_some c =
    let test = is_candidate (is_marked c.args.nullable.now) (related c.args.first.now) (related c.args.follow.now) c.args.first.now.tokens
    c.args.part c.args.token in
    let is : slice_get c.args.rows.now c.loop-number.number ≡ Some c.index-rows-number.result =
    slice_get_read c.args.rows.now (length c.args.rows.now) c.loop-number.number c.index-rows-number.result refl (omega arith)
    c.index-rows-number.is in
    AreSeveral-next test c.args.rows.now c.loop-number.number c.index-rows-number.result is c.loop-number.found (cc) c.loop-number.invariant
    (sym c.is_candidate.ensures ∙ c.if-is_candidate.true)

pub loop-number-preserved : goal.loop-number-preserved
loop-number-preserved c =
    let test = is_candidate (is_marked c.args.nullable.now) (related c.args.first.now) (related c.args.follow.now) c.args.first.now.tokens
    c.args.part c.args.token in
    let is : slice_get c.args.rows.now c.loop-number.number ≡ Some c.index-rows-number.result =
    slice_get_read c.args.rows.now (length c.args.rows.now) c.loop-number.number c.index-rows-number.result refl (omega arith)
    c.index-rows-number.is in
    elim c.if-is_candidate.branch [
      | then-is_candidate+else-is_some w ↦
          rw w.found-is (FoundBelow-next test c.args.rows.now c.loop-number.number c.index-rows-number.result is c.loop-number.found (cc)
          c.loop-number.invariant (sym c.is_candidate.ensures ∙ w.if-is_candidate.true))
      | else-is_candidate w ↦
          rw w.found-is (FoundBelow-fails test c.args.rows.now c.loop-number.number c.index-rows-number.result is c.loop-number.found
          c.loop-number.invariant (sym c.is_candidate.ensures ∙ w.if-is_candidate.false))
    ]

pub returns-in-None : goal.returns-in-None
returns-in-None c =
    let test = is_candidate (is_marked c.args.nullable.now) (related c.args.first.now) (related c.args.follow.now) c.args.first.now.tokens
    c.args.part c.args.token in
    IsChoice-none test c.args.rows.now c.loop-number.number (omega arith) (rw c.in-None.is at c.loop-number.invariant)

pub returns-in-Some : goal.returns-in-Some
returns-in-Some c =
    let test = is_candidate (is_marked c.args.nullable.now) (related c.args.first.now) (related c.args.follow.now) c.args.first.now.tokens
    c.args.part c.args.token in
    IsOnly-below test c.args.rows.now c.loop-number.number c.in-Some.row (omega arith) (rw c.in-Some.is at c.loop-number.invariant)
