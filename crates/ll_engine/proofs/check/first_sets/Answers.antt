use Rattle.std.proofs.Common.{ℕ, subst}
use Rattle.std.proofs.lemmas.Result.{IfOk-weaker}
use Rattle.ll_engine.specs.Computed.{is_marked, has_corner}
use Rattle.ll_engine.specs.Related.{related, HasCells, IsFirstSets, IsClosureOf}
use Rattle.ll_engine.proofs.check.first_sets.Goals as goal

pub returns : goal.returns
returns c =
    let cells = subst (λ (t : ℕ). HasCells c.in_ok-corners.corners
    (has_corner c.args.rows.now (is_marked c.args.nullable.now) (related c.empty-none.result) t) c.args.parts t)
    c.empty-none.ensures.shape c.in_ok-corners.ensures in
    IfOk-weaker c.closed.result (IsClosureOf c.in_ok-corners.corners)
    (IsFirstSets c.args.rows.now c.args.parts c.args.tokens (is_marked c.args.nullable.now))
    (λ first h. record {
      none = related c.empty-none.result;
      none_is = c.empty-none.ensures.none;
      corners = c.in_ok-corners.corners;
      corners_are = cells;
      closed = h;
    })
    c.closed.ensures
