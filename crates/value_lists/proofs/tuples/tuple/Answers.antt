-- The place is below the number of tuples of the lists that are left.
use Rattle.std.proofs.Common.{ℕ, ◌≡◌, ◌+◌, ◌/◌, ◌%◌, ◌<◌, ◌++◌, drop, length, get_or, arith, sym, ◌∙◌, subst}
use Rattle.behaviour_tree.specs.BehaviourTerms.{profiles_of}
use Rattle.sort_terms.specs.ProfiledTerm.{profiled_variable}
use Rattle.value_lists.specs.InstanceList.{profiled_lists_in}
use Rattle.value_lists.specs.TupleNumbers.{tuple_at}
use Rattle.value_lists.specs.Tuples.{tuple_count}
use Rattle.value_lists.proofs.TupleCodeLemmas.{next_of, tuple_step}
use Rattle.value_lists.proofs.tuples.tuple.Goals as goal

pub nonzero_div-rest : goal.nonzero_div-rest
nonzero_div-rest c =
    let some = (next_of c.args.choices.now c.loop-choice.choice-index c.loop-choice.rest c.loop-choice.place c.choice-item.result
    c.loop-choice-test.true c.choice-item.is
    (record { rest_is = c.loop-choice.invariant.0; below = c.loop-choice.invariant.1 })).some in
    omega (arith, some, c.len.ensures, c.choice-item.result.ok.0)

pub nonzero_div-place : goal.nonzero_div-place
nonzero_div-place c =
    let same : c.len.result ≡ length c.choice-item.result.items = c.len.ensures ∙ c.choice-item.result.ok.0 in
    subst (λ (n : ℕ). 0 < c.loop-choice.rest / n) (sym same)
    (next_of c.args.choices.now c.loop-choice.choice-index c.loop-choice.rest c.loop-choice.place c.choice-item.result
    c.loop-choice-test.true c.choice-item.is
    (record { rest_is = c.loop-choice.invariant.0; below = c.loop-choice.invariant.1 })).positive

pub index-requires : goal.index-requires
index-requires c =
    let same : c.len.result ≡ length c.choice-item.result.items = c.len.ensures ∙ c.choice-item.result.ok.0 in
    let first = (next_of c.args.choices.now c.loop-choice.choice-index c.loop-choice.rest c.loop-choice.place c.choice-item.result
    c.loop-choice-test.true c.choice-item.is
    (record { rest_is = c.loop-choice.invariant.0; below = c.loop-choice.invariant.1 })).first in
    subst (λ (m : ℕ). c.loop-choice.place / (c.loop-choice.rest / c.len.result) < m) (sym c.choice-item.result.ok.0)
    (subst (λ (n : ℕ). c.loop-choice.place / (c.loop-choice.rest / n) < length c.choice-item.result.items) (sym same) first)

pub nonzero_rem-place : goal.nonzero_rem-place
nonzero_rem-place c =
    let same : c.len.result ≡ length c.choice-item.result.items = c.len.ensures ∙ c.choice-item.result.ok.0 in
    subst (λ (n : ℕ). 0 < c.loop-choice.rest / n) (sym same)
    (next_of c.args.choices.now c.loop-choice.choice-index c.loop-choice.rest c.loop-choice.place c.choice-item.result
    c.loop-choice-test.true c.choice-item.is
    (record { rest_is = c.loop-choice.invariant.0; below = c.loop-choice.invariant.1 })).positive

pub loop-choice-preserved : goal.loop-choice-preserved
loop-choice-preserved c =
    let same : c.len.result ≡ length c.choice-item.result.items = c.len.ensures ∙ c.choice-item.result.ok.0 in
    let next = next_of c.args.choices.now c.loop-choice.choice-index c.loop-choice.rest c.loop-choice.place c.choice-item.result
    c.loop-choice-test.true c.choice-item.is
    (record { rest_is = c.loop-choice.invariant.0; below = c.loop-choice.invariant.1 }) in
    subst (λ (n : ℕ). (c.loop-choice.rest / n ≡ tuple_count (drop (c.loop-choice.choice-index + 1) (profiled_lists_in c.args.choices.now)))
    × (c.loop-choice.place % (c.loop-choice.rest / n) < c.loop-choice.rest / n)
    × (profiles_of c.push.new.self.items ++ tuple_at (drop (c.loop-choice.choice-index + 1) (profiled_lists_in c.args.choices.now))
    (c.loop-choice.place % (c.loop-choice.rest / n)) (profiled_variable 0 0)
    ≡ tuple_at (profiled_lists_in c.args.choices.now) c.args.number (profiled_variable 0 0))) (sym same) (
      next.width,
      next.below,
      tuple_step c.args.choices.now c.loop-choice.choice-index c.loop-choice.rest c.loop-choice.place c.choice-item.result
          c.loop-choice.tuple.items c.push.new.self.items c.in_ok-copy.field-0 c.index.result.now
          (tuple_at (profiled_lists_in c.args.choices.now) c.args.number (profiled_variable 0 0)) c.loop-choice-test.true c.choice-item.is
          (record { rest_is = c.loop-choice.invariant.0; below = c.loop-choice.invariant.1 }) c.in_ok-push.ensures.items
          c.in_ok-copy.ensures
          (subst (λ (n : ℕ). c.index.result.now ≡ get_or c.choice-item.result.items (c.loop-choice.place / (c.loop-choice.rest / n))
          c.index.result.now)
          same c.index.ensures)
          c.loop-choice.invariant.2,
    )
