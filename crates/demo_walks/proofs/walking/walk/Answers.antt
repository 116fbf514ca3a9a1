use Rattle.std.proofs.Common.{List, Some, subst}
use Rattle.std.proofs.lemmas.Result.{on_ok_weaker}
use Rattle.history_lines.proofs.HandedOn.{over_same, held_before, holds_after}
use Rattle.lotos_base.specs.Equation.{Data}
use Rattle.lotos_base.specs.Term.{Term}
use Rattle.sort_terms.specs.declared.sorted.Sorted.{Sorted}
use Rattle.history_lines.specs.HandedOn.{basis_over, terms_of}
use Rattle.demo_walks.specs.DemoWalk.{Goes, rounds_steps, store_step}
use Rattle.demo_walks.specs.WalkView.{IsOnWalk, walk_reached, walk_values_of}
use Rattle.demo_walks.proofs.WalkLemmas.{goes_once, over_same_spec}
use Rattle.demo_walks.proofs.walking.walk.Goals as goal

pub step-requires-clause-on_walk : goal.step-requires-clause-on_walk
step-requires-clause-on_walk g c =
    holds_after (λ (d : Data) (k : Term → Term). IsOnWalk g.M.MenuMaker.suits d k c.rounds.new.session c.rounds.new.tally)
    c.in_ok-rounds.ensures.same_known c.in_ok-rounds.ensures.on_walk_after

pub returns-clause-leads : goal.returns-clause-leads
returns-clause-leads g c =
    let known = g.D.Deciding.known_data c.args.data.now in
    let canon = g.D.Deciding.canon c.args.data.now in
    let spec = c.args.session.now.spec in
    let values = walk_values_of c.args.values.now in
    on_ok_weaker c.step.result (λ goes.
    goes_once (basis_over known canon spec) (rounds_steps values c.args.cells 4) store_step (walk_reached c.args.session.now)
    (walk_reached c.rounds.new.session) (walk_reached c.step.new.session) c.in_ok-rounds.ensures.leads
    (subst (λ (given : List Sorted). Goes (basis_over known canon spec) (record { number = 1; values = Some (terms_of given) })
    (walk_reached c.rounds.new.session) (walk_reached c.step.new.session)) c.new.ensures.items
    (over_same_spec known _ canon _ spec _ (λ basis. Goes basis (record { number = 1; values = Some (terms_of c.new.result.items) })
    (walk_reached c.rounds.new.session) (walk_reached c.step.new.session)) c.in_ok-rounds.ensures.same_known.same_data
    c.in_ok-rounds.ensures.same_known.same_canon
    c.in_ok-rounds.ensures.same_spec goes))) c.step.ensures.goes

pub returns-clause-on_walk_after : goal.returns-clause-on_walk_after
returns-clause-on_walk_after g c =
    on_ok_weaker c.step.result (λ on.
    held_before (λ (d : Data) (k : Term → Term). IsOnWalk g.M.MenuMaker.suits d k c.step.new.session c.step.new.tally)
    c.in_ok-rounds.ensures.same_known on) c.step.ensures.on_walk_after
