use Rattle.std.proofs.Common.{◌∙◌}
use Rattle.lotos_base.specs.Equation.{Data}
use Rattle.lotos_base.specs.Term.{Term}
use Rattle.history_lines.specs.HandedOn.{basis_over}
use Rattle.history_lines.proofs.HandedOn.{held_before, holds_after, keeps_both}
use Rattle.demo_walks.specs.DemoWalk.{Goes, cell_step}
use Rattle.demo_walks.specs.WalkView.{AreGivenValues, IsOnWalk, walk_reached, walk_values_of}
use Rattle.demo_walks.proofs.WalkLemmas.{one_cell, over_same_spec}
use Rattle.demo_walks.proofs.walking.round.Goals as goal

pub visit-requires-clause-on_walk : goal.visit-requires-clause-on_walk
visit-requires-clause-on_walk g c =
    holds_after (λ (d : Data) (k : Term → Term). IsOnWalk g.M.MenuMaker.suits d k c.loop-cell.session c.loop-cell.tally)
    c.loop-cell.invariant.same_known c.loop-cell.invariant.on_walk

pub visit-requires-clause-given : goal.visit-requires-clause-given
visit-requires-clause-given g c =
    holds_after (λ (d : Data) (k : Term → Term). AreGivenValues d.signature c.args.values.now) c.loop-cell.invariant.same_known
    c.requires.given

pub loop-cell-preserved : goal.loop-cell-preserved
loop-cell-preserved g c =
    let known = g.D.Deciding.known_data c.args.data.now in
    let canon = g.D.Deciding.canon c.args.data.now in
    let spec = c.args.session.now.spec in
    let values = walk_values_of c.args.values.now in
    let same = c.loop-cell.invariant.same_known in
    record {
      leads = one_cell (basis_over known canon spec) values c.loop-cell.cell (walk_reached c.args.session.now)
          (walk_reached c.loop-cell.session) (walk_reached c.visit.new.session) c.loop-cell.invariant.leads
          (over_same_spec known _ canon _ spec _ (λ basis. Goes basis (cell_step values c.loop-cell.cell) (walk_reached c.loop-cell.session)
          (walk_reached c.visit.new.session)) same.same_data same.same_canon c.loop-cell.invariant.same_spec c.in_ok-visit.ensures.goes);
      on_walk = held_before (λ (d : Data) (k : Term → Term). IsOnWalk g.M.MenuMaker.suits d k c.visit.new.session c.visit.new.tally) same
          c.in_ok-visit.ensures.on_walk_after;
      same_spec = c.in_ok-visit.ensures.same_spec ∙ c.loop-cell.invariant.same_spec;
      same_known = keeps_both same c.in_ok-visit.ensures.same_known;
    }
