use Rattle.std.proofs.Common.{◌≡◌, ◌<◌, ◌-◌, ℕ, List, [], Vec, Global, length, true, ap, sym, ◌∙◌, subst, refl}
use Rattle.sort_terms.specs.ProfiledTerm.{ProfiledTerm, head_sort}
use Rattle.sort_terms.specs.SortedView.{profiled_in}
use Rattle.sort_terms.specs.TermView.{profiled_of}
use Rattle.sort_terms.specs.declared.sorted.Sorted.{Sorted}
use Rattle.term_match.specs.Numbers.{AreDistinctNumbers}
use Rattle.term_match.specs.SubstView.{profiled_pairs}
use Rattle.term_match.proofs.MatchLemmas.{numbers_same}
use Rattle.term_match.specs.Disagreement.{clashes, disagreement}
use Rattle.term_match.specs.DemandView.{demand_of}
use Rattle.term_match.specs.Solving.{asked, nothing_more, given_up, put_for}
use Rattle.term_match.specs.Unified.{IsUnifiedBy}
use Rattle.term_match.proofs.StateLemmas.{solving_first, left_is_left, right_is_left}
use Rattle.term_match.proofs.UnifierLemmas.{room, step_single, pair_within, solving_bound, solved_unified, failed_none, failed_none_sorted, clash_none, clash_none_sorted, room_shrinks, solving_moved, pair_of_code}
use Rattle.term_match.proofs.unification.unify.Goals as goal

pub loop-state-init : goal.loop-state-init
loop-state-init c =
    let heads : head_sort (profiled_in c.args.left.now) ≡ head_sort (profiled_in c.args.right.now) =
    c.args.left.now.headed ∙ sym c.sort.ensures ∙ c.if-sort.false ∙ c.sort-2.ensures ∙ sym c.args.right.now.headed in
    solving_moved (profiled_in c.args.left.now) (profiled_in c.args.right.now) [] (profiled_pairs c.new.result.items)
    (profiled_in c.args.left.now) (profiled_in c.args.right.now) (profiled_in c.in_ok-copy.field-0) (profiled_in c.in_ok-copy-2.field-0)
    (ap profiled_pairs c.new.ensures.items) c.in_ok-copy.ensures c.in_ok-copy-2.ensures
    (solving_first (profiled_in c.args.left.now) (profiled_in c.args.right.now) heads)

pub of-requires : goal.of-requires
of-requires c =
    subst (λ (ns : List ℕ). AreDistinctNumbers ns) (sym (numbers_same c.loop-state.state.pairs.items)) c.loop-state.invariant.distinct

pub returns-in-Solved-clause-none : goal.returns-in-Solved-clause-none
returns-in-Solved-clause-none c =
    let heads : head_sort (profiled_in c.args.left.now) ≡ head_sort (profiled_in c.args.right.now) =
    c.args.left.now.headed ∙ sym c.sort.ensures ∙ c.if-sort.false ∙ c.sort-2.ensures ∙ sym c.args.right.now.headed in
    let done : asked (disagreement (profiled_in c.loop-state.state.left) (profiled_in c.loop-state.state.right)) ≡ nothing_more =
    sym c.in_ok-demanded_by.ensures ∙ ap demand_of c.in-Solved.is in
    λ signature one two. (
      (λ none. cc),
      (λ no. absurd (no (
        heads,
        (
          _,
          (solved_unified (profiled_in c.args.left.now) (profiled_in c.args.right.now) (profiled_pairs c.loop-state.state.pairs.items)
              (profiled_in c.loop-state.state.left) (profiled_in c.loop-state.state.right) heads c.requires.one_sort
              c.loop-state.invariant done).general.unifies,
        ),
      ))),
    )

pub returns-in-Solved-clause-some : goal.returns-in-Solved-clause-some
returns-in-Solved-clause-some c =
    let heads : head_sort (profiled_in c.args.left.now) ≡ head_sort (profiled_in c.args.right.now) =
    c.args.left.now.headed ∙ sym c.sort.ensures ∙ c.if-sort.false ∙ c.sort-2.ensures ∙ sym c.args.right.now.headed in
    let done : asked (disagreement (profiled_in c.loop-state.state.left) (profiled_in c.loop-state.state.right)) ≡ nothing_more =
    sym c.in_ok-demanded_by.ensures ∙ ap demand_of c.in-Solved.is in
    subst (λ (v : Vec (ℕ × Sorted) Global). IsUnifiedBy (profiled_in c.args.left.now) (profiled_in c.args.right.now)
    (profiled_pairs v.items))
    (sym c.of.ensures)
    (solved_unified (profiled_in c.args.left.now) (profiled_in c.args.right.now) (profiled_pairs c.loop-state.state.pairs.items)
    (profiled_in c.loop-state.state.left) (profiled_in c.loop-state.state.right) heads c.requires.one_sort c.loop-state.invariant done)

pub returns-in-Failed-clause-none : goal.returns-in-Failed-clause-none
returns-in-Failed-clause-none c =
    let failed : asked (disagreement (profiled_in c.loop-state.state.left) (profiled_in c.loop-state.state.right)) ≡ given_up =
    sym c.in_ok-demanded_by.ensures ∙ ap demand_of c.in-Failed.is in
    λ signature one two. (
      (λ none unifier.
          failed_none (profiled_in c.args.left.now) (profiled_in c.args.right.now) (profiled_pairs c.loop-state.state.pairs.items)
          (profiled_in c.loop-state.state.left) (profiled_in c.loop-state.state.right) c.requires.one_sort c.loop-state.state.left.fits
          c.loop-state.state.right.fits c.loop-state.invariant failed signature one two unifier),
      (λ no. refl),
    )

pub returns-in-Failed-clause-none_sorted : goal.returns-in-Failed-clause-none_sorted
returns-in-Failed-clause-none_sorted c =
    let failed : asked (disagreement (profiled_in c.loop-state.state.left) (profiled_in c.loop-state.state.right)) ≡ given_up =
    sym c.in_ok-demanded_by.ensures ∙ ap demand_of c.in-Failed.is in
    failed_none_sorted (profiled_in c.args.left.now) (profiled_in c.args.right.now) (profiled_pairs c.loop-state.state.pairs.items)
    (profiled_in c.loop-state.state.left) (profiled_in c.loop-state.state.right) c.requires.one_sort c.loop-state.invariant failed

pub returns-then-clash-clause-none : goal.returns-then-clash-clause-none
returns-then-clash-clause-none c =
    let clash : clashes (profiled_in c.args.left.now) (profiled_in c.args.right.now) ≡ true =
    (λ i. clashes (profiled_of (sym c.term.ensures i)) (profiled_of (sym c.term-2.ensures i))) ∙ sym c.clash.ensures ∙ c.if-clash.true in
    λ signature one two. (
      (λ none. clash_none (profiled_in c.args.left.now) (profiled_in c.args.right.now) clash),
      (λ no. refl),
    )

pub returns-then-clash-clause-none_sorted : goal.returns-then-clash-clause-none_sorted
returns-then-clash-clause-none_sorted c =
    let clash : clashes (profiled_in c.args.left.now) (profiled_in c.args.right.now) ≡ true =
    (λ i. clashes (profiled_of (sym c.term.ensures i)) (profiled_of (sym c.term-2.ensures i))) ∙ sym c.clash.ensures ∙ c.if-clash.true in
    clash_none_sorted (profiled_in c.args.left.now) (profiled_in c.args.right.now) clash

pub with_value-requires-clause-left : goal.with_value-requires-clause-left
with_value-requires-clause-left c = λ r o.
    let next : asked (disagreement (profiled_in c.loop-state.state.left) (profiled_in c.loop-state.state.right))
    ≡ put_for c.in-Bind.number (profiled_in c.in-Bind.value) = sym c.in_ok-demanded_by.ensures ∙ ap demand_of c.in-Bind.is in
    step_single (profiled_in c.args.left.now) (profiled_in c.args.right.now) (profiled_pairs c.loop-state.state.pairs.items)
    (profiled_in c.loop-state.state.left) (profiled_in c.loop-state.state.right) c.in-Bind.number (profiled_in c.in-Bind.value)
    (profiled_in c.loop-state.state.left) c.requires.one_sort c.loop-state.invariant next
    (λ m q p. (left_is_left c.loop-state.invariant m q p).0) r o
    ∙ c.in-Bind.value.headed

pub with_value-requires-clause-right : goal.with_value-requires-clause-right
with_value-requires-clause-right c = λ r o.
    let next : asked (disagreement (profiled_in c.loop-state.state.left) (profiled_in c.loop-state.state.right))
    ≡ put_for c.in-Bind.number (profiled_in c.in-Bind.value) = sym c.in_ok-demanded_by.ensures ∙ ap demand_of c.in-Bind.is in
    step_single (profiled_in c.args.left.now) (profiled_in c.args.right.now) (profiled_pairs c.loop-state.state.pairs.items)
    (profiled_in c.loop-state.state.left) (profiled_in c.loop-state.state.right) c.in-Bind.number (profiled_in c.in-Bind.value)
    (profiled_in c.loop-state.state.right) c.requires.one_sort c.loop-state.invariant next
    (λ m q p. (right_is_left c.loop-state.invariant m q p).0) r o
    ∙ c.in-Bind.value.headed

pub with_value-requires-clause-pairs : goal.with_value-requires-clause-pairs
with_value-requires-clause-pairs c = λ i pair at r o.
    let next : asked (disagreement (profiled_in c.loop-state.state.left) (profiled_in c.loop-state.state.right))
    ≡ put_for c.in-Bind.number (profiled_in c.in-Bind.value) = sym c.in_ok-demanded_by.ensures ∙ ap demand_of c.in-Bind.is in
    step_single (profiled_in c.args.left.now) (profiled_in c.args.right.now) (profiled_pairs c.loop-state.state.pairs.items)
    (profiled_in c.loop-state.state.left) (profiled_in c.loop-state.state.right) c.in-Bind.number (profiled_in c.in-Bind.value)
    (profiled_in pair.1) c.requires.one_sort c.loop-state.invariant next
    (pair_within c.loop-state.invariant pair.0 (profiled_in pair.1) (pair_of_code c.loop-state.state.pairs.items i pair at)) r o
    ∙ c.in-Bind.value.headed

pub loop-state-smaller : goal.loop-state-smaller
loop-state-smaller c =
    let next : asked (disagreement (profiled_in c.loop-state.state.left) (profiled_in c.loop-state.state.right))
    ≡ put_for c.in-Bind.number (profiled_in c.in-Bind.value) = sym c.in_ok-demanded_by.ensures ∙ ap demand_of c.in-Bind.is in
    subst (λ (ps : List (ℕ × ProfiledTerm)). room (profiled_in c.args.left.now) (profiled_in c.args.right.now) - length ps
    < room (profiled_in c.args.left.now) (profiled_in c.args.right.now) - length (profiled_pairs c.loop-state.state.pairs.items))
    (sym c.in_ok-state-in-Bind.ensures.pairs)
    (room_shrinks (profiled_in c.args.left.now) (profiled_in c.args.right.now) (profiled_pairs c.loop-state.state.pairs.items)
    (profiled_in c.loop-state.state.left) (profiled_in c.loop-state.state.right) c.in-Bind.number (profiled_in c.in-Bind.value)
    c.requires.one_sort c.loop-state.invariant next)

pub loop-state-preserved : goal.loop-state-preserved
loop-state-preserved c =
    let next : asked (disagreement (profiled_in c.loop-state.state.left) (profiled_in c.loop-state.state.right))
    ≡ put_for c.in-Bind.number (profiled_in c.in-Bind.value) = sym c.in_ok-demanded_by.ensures ∙ ap demand_of c.in-Bind.is in
    solving_moved (profiled_in c.args.left.now) (profiled_in c.args.right.now)
    _ _ _ _ _ _
    c.in_ok-state-in-Bind.ensures.pairs c.in_ok-state-in-Bind.ensures.left c.in_ok-state-in-Bind.ensures.right
    (solving_bound (profiled_in c.args.left.now) (profiled_in c.args.right.now) (profiled_pairs c.loop-state.state.pairs.items)
    (profiled_in c.loop-state.state.left) (profiled_in c.loop-state.state.right) c.in-Bind.number (profiled_in c.in-Bind.value)
    c.requires.one_sort c.loop-state.invariant next)
