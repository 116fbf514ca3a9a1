-- The product so far and that of the other lists are together the whole one.
use Rattle.std.proofs.Common.{ℕ, ◌≡◌, ◌+◌, ◌*◌, ◌<◌, ◌≤◌, drop, length, arith, ap, sym, ◌∙◌, subst}
use Rattle.value_lists.specs.InstanceList.{profiled_lists_in}
use Rattle.value_lists.specs.Tuples.{tuple_count}
use Rattle.value_lists.specs.declared.limits.TheConstants.{MAX_INSTANCES}
use Rattle.value_lists.proofs.TupleLemmas.{count_zero}
use Rattle.value_lists.proofs.TupleCodeLemmas.{list_too_long, count_too_large, count_step, product_some, list_some}
use Rattle.value_lists.proofs.tuples.count.Goals as goal

pub returns-then-some_is_empty : goal.returns-then-some_is_empty
returns-then-some_is_empty c =
    (sym (count_zero (profiled_lists_in c.args.choices.now) (sym c.some_is_empty.ensures ∙ c.if-some_is_empty.true)), omega arith)

pub returns-then-len-gt-MAX_INSTANCES : goal.returns-then-len-gt-MAX_INSTANCES
returns-then-len-gt-MAX_INSTANCES c =
    let long : MAX_INSTANCES < length c.choice-item.result.items =
    omega (arith, c.if-len-gt-MAX_INSTANCES.true, c.len.ensures, c.choice-item.result.ok.0) in
    list_too_long c.args.choices.now c.loop-choice.choice-index c.loop-choice.count (tuple_count (profiled_lists_in c.args.choices.now))
    MAX_INSTANCES c.choice-item.result (sym c.some_is_empty.ensures ∙ c.if-some_is_empty.false) c.loop-choice-test.true
    c.choice-item.is c.loop-choice.invariant.1 long c.loop-choice.invariant.0

pub returns-then-count-gt-MAX_INSTANCES : goal.returns-then-count-gt-MAX_INSTANCES
returns-then-count-gt-MAX_INSTANCES c =
    let same : c.len-count.result ≡ length c.choice-item.result.items = c.len-count.ensures ∙ c.choice-item.result.ok.0 in
    let large : MAX_INSTANCES < c.loop-choice.count * length c.choice-item.result.items =
    subst (λ (n : ℕ). MAX_INSTANCES < c.loop-choice.count * n) same c.if-count-gt-MAX_INSTANCES.true in
    count_too_large c.args.choices.now c.loop-choice.choice-index c.loop-choice.count (tuple_count (profiled_lists_in c.args.choices.now))
    MAX_INSTANCES c.choice-item.result (sym c.some_is_empty.ensures ∙ c.if-some_is_empty.false) c.loop-choice-test.true
    c.choice-item.is large c.loop-choice.invariant.0

pub loop-choice-preserved : goal.loop-choice-preserved
loop-choice-preserved c =
    let same : c.len-count.result ≡ length c.choice-item.result.items = c.len-count.ensures ∙ c.choice-item.result.ok.0 in
    let some = list_some c.args.choices.now c.loop-choice.choice-index c.choice-item.result
    (sym c.some_is_empty.ensures ∙ c.if-some_is_empty.false) c.loop-choice-test.true c.choice-item.is in (
      ap (λ (n : ℕ). c.loop-choice.count * n * tuple_count (drop (c.loop-choice.choice-index + 1) (profiled_lists_in c.args.choices.now)))
          same
          ∙ count_step c.args.choices.now c.loop-choice.choice-index c.loop-choice.count
          (tuple_count (profiled_lists_in c.args.choices.now))
          c.choice-item.result c.loop-choice-test.true c.choice-item.is c.loop-choice.invariant.0,
      product_some c.loop-choice.count c.len-count.result c.loop-choice.invariant.1 (omega (arith, some, same)),
      c.if-count-gt-MAX_INSTANCES.false,
    )
