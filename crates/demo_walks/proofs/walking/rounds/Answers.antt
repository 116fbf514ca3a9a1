use Rattle.std.proofs.Common.{◌∙◌}
use Rattle.lotos_base.specs.Equation.{Data}
use Rattle.lotos_base.specs.Term.{Term}
use Rattle.history_lines.specs.HandedOn.{basis_over}
use Rattle.history_lines.proofs.HandedOn.{held_before, holds_after, keeps_both}
use Rattle.demo_walks.specs.DemoWalk.{GoesThrough, round_steps}
use Rattle.demo_walks.specs.WalkView.{AreGivenValues, IsOnWalk, walk_reached, walk_values_of}
use Rattle.demo_walks.proofs.WalkLemmas.{one_round, over_same_spec}
use Rattle.demo_walks.proofs.walking.rounds.Goals as goal

pub round-requires-clause-on_walk : goal.round-requires-clause-on_walk
round-requires-clause-on_walk g c =
    holds_after (λ (d : Data) (k : Term → Term). IsOnWalk g.M.MenuMaker.suits d k c.loop.session c.loop.tally)
    c.loop.invariant.same_known c.loop.invariant.on_walk

pub round-requires-clause-given : goal.round-requires-clause-given
round-requires-clause-given g c =
    holds_after (λ (d : Data) (k : Term → Term). AreGivenValues d.signature c.args.values.now) c.loop.invariant.same_known
    c.requires.given

pub loop-preserved : goal.loop-preserved
loop-preserved g c =
    let known = g.D.Deciding.known_data c.args.data.now in
    let canon = g.D.Deciding.canon c.args.data.now in
    let spec = c.args.session.now.spec in
    let values = walk_values_of c.args.values.now in
    let same = c.loop.invariant.same_known in
    record {
      leads = one_round (basis_over known canon spec) values c.args.cells c.loop.counter (walk_reached c.args.session.now)
          (walk_reached c.loop.session) (walk_reached c.round.new.session) c.loop.invariant.leads
          (over_same_spec known _ canon _ spec _ (λ basis. GoesThrough basis (round_steps values c.args.cells) (walk_reached c.loop.session)
          (walk_reached c.round.new.session)) same.same_data same.same_canon c.loop.invariant.same_spec c.in_ok-round.ensures.leads);
      on_walk = held_before (λ (d : Data) (k : Term → Term). IsOnWalk g.M.MenuMaker.suits d k c.round.new.session c.round.new.tally) same
          c.in_ok-round.ensures.on_walk_after;
      same_spec = c.in_ok-round.ensures.same_spec ∙ c.loop.invariant.same_spec;
      same_known = keeps_both same c.in_ok-round.ensures.same_known;
    }
