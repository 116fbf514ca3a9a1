use Rattle.std.proofs.Common.{ℕ, List, ◌≡◌, ◌+◌, ◌<◌, ◌++◌, length, ap, refl, sym, ◌∙◌, subst, arith}
use Rattle.std.proofs.lemmas.List.{length_push}
use Rattle.sort_terms.specs.ProfiledTerm.{ProfiledTerm}
use Rattle.value_lists.specs.TrialView.{found_next, values_in}
use Rattle.value_lists.proofs.CodeLemmas.{fault_handed, has_place, late_at, loop_starts, part_more, tested_at, through_is, value_full, with_late}
use Rattle.value_lists.proofs.trials.Trial.+search.Goals as goal

pub search_behind-loop-value-init : goal.search_behind-loop-value-init
search_behind-loop-value-init t c = (
  refl,
  loop_starts c.args.self.now c.args.chosen.now.items c.args.left (values_in c.args.found.now.items) c.args.self.now.smaller.now
      (has_place c.args.self.now c.args.chosen.now.items c.args.chosen.now.items c.args.left c.len-at.result c.arity-all.result refl
      c.requires.part (c.len-at.ensures ∙ c.args.chosen.now.ok.0) c.arity-all.ensures c.if-at-all.false)
      refl,
  c.requires.room,
)

pub search_behind-returns-in_err-search_with-clause-fault : goal.search_behind-returns-in_err-search_with-clause-fault
search_behind-returns-in_err-search_with-clause-fault t c =
    fault_handed c.from_residual.result c.in_err-search_with.field-0.0 _ _ c.from_residual.ensures.1
    (value_full c.args.self.now c.args.chosen.now.items c.loop-value.chosen.items c.args.left c.loop-value.value-index
    c.value-item.result (values_in c.loop-value.found.items)
    (values_in c.args.found.now.items ++ found_next c.args.self.now c.args.chosen.now.items c.args.left) c.args.self.now.room
    c.loop-value.invariant.0 c.loop-value-test.true c.value-item.is c.loop-value.invariant.1)
    c.in_err-search_with.ensures.fault

pub search_with-returns-then-leaves_over-clause-found : goal.search_with-returns-then-leaves_over-clause-found
search_with-returns-then-leaves_over-clause-found t c =
    with_late c.args.self.now c.args.chosen.now.items c.args.left c.args.value.now (values_in c.args.found.now.items)
    c.suits_next.result c.leaves_over.result
    (tested_at c.args.self.now c.args.chosen.now.items c.args.left c.len.result c.args.value.now c.suits_next.result
    (c.len.ensures ∙ c.args.chosen.now.ok.0) c.suits_next.ensures)
    c.if-not-suits_next.false
    (late_at c.args.self.now c.args.chosen.now.items c.args.left c.len-2.result c.args.value.now c.leaves_over.result
    (c.len-2.ensures ∙ c.args.chosen.now.ok.0) c.leaves_over.ensures)
    c.if-leaves_over.true

pub search_with-search_behind-requires : goal.search_with-search_behind-requires
search_with-search_behind-requires t c =
    let count : length c.push.new.self.items ≡ length c.args.chosen.now.items + 1 =
    ap length c.in_ok-push.ensures.items ∙ length_push c.args.chosen.now.items c.in_ok-copy.field-0 in (
      omega (arith, count, c.requires.place, c.decreases),
      (
        part_more c.args.self.now c.args.chosen.now.items c.push.new.self.items c.args.left c.args.value.now c.in_ok-copy.field-0
            c.suits_next.result c.in_ok-push.ensures.items c.in_ok-copy.ensures
            (tested_at c.args.self.now c.args.chosen.now.items c.args.left c.len.result c.args.value.now c.suits_next.result
            (c.len.ensures ∙ c.args.chosen.now.ok.0) c.suits_next.ensures)
            c.if-not-suits_next.false c.requires.part c.requires.place,
        c.requires.room,
      ),
    )

pub search_with-returns-in_err-search_behind-clause-fault : goal.search_with-returns-in_err-search_behind-clause-fault
search_with-returns-in_err-search_behind-clause-fault t c =
    fault_handed c.from_residual-in_err-search_behind.result c.in_err-search_behind.field-0.0 _ _
    c.from_residual-in_err-search_behind.ensures.1
    (λ full. subst (λ (ts : List ProfiledTerm). c.args.self.now.room < length (values_in c.args.found.now.items ++ ts))
    (through_is c.args.self.now c.args.chosen.now.items c.push.new.self.items c.args.left c.args.value.now c.in_ok-copy.field-0
    c.suits_next.result c.in_ok-push.ensures.items c.in_ok-copy.ensures
    (tested_at c.args.self.now c.args.chosen.now.items c.args.left c.len.result c.args.value.now c.suits_next.result
    (c.len.ensures ∙ c.args.chosen.now.ok.0) c.suits_next.ensures)
    c.if-not-suits_next.false) full)
    c.in_err-search_behind.ensures.fault

pub search_with-returns-clause-found : goal.search_with-returns-clause-found
search_with-returns-clause-found t c =
    c.in_ok-search_behind.ensures.found
    ∙ ap (λ (ts : List ProfiledTerm). values_in c.args.found.now.items ++ ts)
    (through_is c.args.self.now c.args.chosen.now.items c.push.new.self.items c.args.left c.args.value.now c.in_ok-copy.field-0
    c.suits_next.result c.in_ok-push.ensures.items c.in_ok-copy.ensures
    (tested_at c.args.self.now c.args.chosen.now.items c.args.left c.len.result c.args.value.now c.suits_next.result
    (c.len.ensures ∙ c.args.chosen.now.ok.0) c.suits_next.ensures)
    c.if-not-suits_next.false)
