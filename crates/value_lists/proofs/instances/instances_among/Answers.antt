-- The tuple with each number is tried.
use Rattle.std.proofs.Common.{ℕ, ◌≡◌, ◌<◌, map, arith, sym, subst}
use Rattle.lotos_base.specs.Equation.{Data}
use Rattle.event_offers.specs.Instances.{AreValuesOver}
use Rattle.event_offers.proofs.KeepingLemmas.{keeps_both}
use Rattle.sort_terms.specs.SortedView.{term_in}
use Rattle.value_lists.specs.InstanceList.{AreTuplesOver, term_lists_of, profiled_lists_in}
use Rattle.value_lists.specs.Tried.{IsTried}
use Rattle.value_lists.specs.Tuples.{tuple_count}
use Rattle.value_lists.proofs.InstanceLemmas.{all_tuples, sifted_more, SiftedUpTo, tuple_values}
use Rattle.value_lists.proofs.instances.instances_among.Goals as goal

pub add_if_met-requires-clause-values : goal.add_if_met-requires-clause-values
add_if_met-requires-clause-values g c =
    let less : c.loop-number.number < tuple_count (profiled_lists_in c.args.choices.now) =
    omega (arith, c.loop-number-test.true, c.requires.count) in
    subst (λ (d : Data). AreValuesOver d.signature c.args.entry.now.vars.items c.in_ok-one.one.items)
    (sym c.loop-number.invariant.2.same_data)
    (tuple_values (g.D.Deciding.known_data c.args.decider.now).signature c.args.entry.now.vars.items c.args.choices.now
    c.loop-number.number c.in_ok-one.one.items c.requires.choices less c.in_ok-one.ensures)

pub loop-number-preserved : goal.loop-number-preserved
loop-number-preserved g c =
    let same = c.loop-number.invariant.2.same_data in (
      sifted_more (g.D.Deciding.known_data c.args.decider.now) c.args.entry.now c.args.choices.now c.loop-number.number
          c.in_ok-one.one.items c.loop-number.found.items c.add_if_met.new.found.items c.loop-number.invariant.0 c.in_ok-one.ensures
          (subst (λ (d : Data). IsTried d c.args.entry.now (map term_in c.in_ok-one.one.items) (term_lists_of c.loop-number.found.items)
          (term_lists_of c.add_if_met.new.found.items)) same c.in_ok-add_if_met.ensures.tried),
      subst (λ (d : Data). AreTuplesOver d.signature c.args.entry.now.vars.items c.add_if_met.new.found.items) same
          (c.in_ok-add_if_met.ensures.values
          (subst (λ (d : Data). AreTuplesOver d.signature c.args.entry.now.vars.items c.loop-number.found.items) (sym same)
          c.loop-number.invariant.1)),
      keeps_both c.loop-number.invariant.2 c.in_ok-add_if_met.ensures.same_known,
    )

pub returns-clause-instances : goal.returns-clause-instances
returns-clause-instances g c =
    let done : c.loop-number.number ≡ c.args.count = omega arith in
    all_tuples (g.D.Deciding.known_data c.args.decider.now) c.args.entry.now c.args.choices.now c.args.count c.loop-number.found.items
    c.requires.count c.requires.tested
    (subst (λ (n : ℕ). SiftedUpTo (g.D.Deciding.known_data c.args.decider.now) c.args.entry.now c.args.choices.now n
    c.loop-number.found.items)
    done c.loop-number.invariant.0)
