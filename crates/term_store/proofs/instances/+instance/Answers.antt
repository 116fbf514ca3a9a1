use Rattle.std.proofs.Common.{arith, refl, ap, ◌∙◌, ◌≡◌, ◌≤◌, ◌<◌, ◌+◌, ◌*◌, subst, sym, ℕ, List, [], ◌∷◌, ◌++◌, length, drop}
use Rattle.sort_terms.specs.Operations.{operation_of}
use Rattle.sort_terms.specs.TermView.{profiled_of, all_profiled}
use Rattle.sort_terms.specs.declared.terms.Term.{Term}
use Rattle.sort_terms.proofs.BuiltLists.{node_with_items, profiled_Var}
use Rattle.term_store.specs.Cells.{numbered_operation_key, variable_key}
use Rattle.term_store.specs.Numbered.{TakeIn, AreInstancesOf, numbers_in, numbered_substitution}
use Rattle.term_store.specs.SharedView.{keys_in}
use Rattle.term_store.proofs.NumberingLemmas.{known_number, variable_taken, variable_number, readied_behind, operation_taken, operation_number, IsNumberedSoFar, numbered_one, numbered_not, numbered_taken, numbered_all, below_grown}
use Rattle.term_store.proofs.SizeLemmas.{size, sizes, member_size}
use Rattle.term_store.proofs.ValueLemmas.{profiled_rest, profiled_end}
use Rattle.term_store.proofs.instances.+instance.Goals as goal

pub instance-returns-in-Some-clause-number : goal.instance-returns-in-Some-clause-number
instance-returns-in-Some-clause-number t c =
    known_number c.args.pairs.now (profiled_of c.args.term.now) c.in-Var.number c.in-Var.sort (keys_in c.args.shared.now) c.in-Some.known
    c.in-Some.ensures (ap profiled_of c.in-Var.is ∙ profiled_Var c.in-Var.number c.in-Var.sort) c.requires

pub instance-returns-in-None-clause-takes : goal.instance-returns-in-None-clause-takes
instance-returns-in-None-clause-takes t c =
    variable_taken (profiled_of c.args.term.now) c.in-Var.number c.in-Var.sort (keys_in c.args.shared.now)
    (variable_key c.in-Var.number c.in-Var.sort) (keys_in c.variable.new.shared)
    (ap profiled_of c.in-Var.is ∙ profiled_Var c.in-Var.number c.in-Var.sort) refl c.variable.ensures.more

pub instance-returns-in-None-clause-number : goal.instance-returns-in-None-clause-number
instance-returns-in-None-clause-number t c =
    variable_number c.args.pairs.now (profiled_of c.args.term.now) c.in-Var.number c.in-Var.sort (keys_in c.args.shared.now)
    (variable_key c.in-Var.number c.in-Var.sort) (keys_in c.variable.new.shared) c.variable.result c.in-None.ensures
    (ap profiled_of c.in-Var.is ∙ profiled_Var c.in-Var.number c.in-Var.sort) refl c.variable.ensures.more
    c.variable.ensures.stands

pub instance-returns-in_ok-add_instances-in-Node-clause-takes : goal.instance-returns-in_ok-add_instances-in-Node-clause-takes
instance-returns-in_ok-add_instances-in-Node-clause-takes t c =
    let values = numbered_substitution c.args.pairs.now (keys_in c.args.shared.now) in
    let start : c.len-start.result ≡ length c.args.numbers.now.items = omega (arith, c.len-start.ensures, c.args.numbers.now.ok.0) in
    operation_taken values (profiled_of c.args.term.now) c.in-Node.op (operation_of c.in-Node.profile.value)
    (all_profiled c.items.result.now.items) (keys_in c.args.shared.now) (keys_in c.add_instances.new.shared)
    (numbered_operation_key c.in-Node.op (drop c.len-start.result c.add_instances.new.numbers.items)) (keys_in c.number_behind.new.shared)
    (node_with_items _ c.in-Node.op c.in-Node.profile c.in-Node.arguments c.items.result.now.items c.in-Node.is c.items.ensures)
    (readied_behind values c.in-Node.op (all_profiled c.items.result.now.items) (keys_in c.args.shared.now)
    (keys_in c.add_instances.new.shared) c.args.numbers.now.items c.add_instances.new.numbers.items c.len-start.result
    start c.add_instances.ensures.takes c.in_ok-add_instances-in-Node.ensures.numbers)
    c.number_behind.ensures.more

pub instance-returns-in_ok-add_instances-in-Node-clause-number : goal.instance-returns-in_ok-add_instances-in-Node-clause-number
instance-returns-in_ok-add_instances-in-Node-clause-number t c =
    let values = numbered_substitution c.args.pairs.now (keys_in c.args.shared.now) in
    let start : c.len-start.result ≡ length c.args.numbers.now.items = omega (arith, c.len-start.ensures, c.args.numbers.now.ok.0) in
    operation_number values (profiled_of c.args.term.now) c.in-Node.op (operation_of c.in-Node.profile.value)
    (all_profiled c.items.result.now.items) (keys_in c.args.shared.now) (keys_in c.add_instances.new.shared)
    (numbered_operation_key c.in-Node.op (drop c.len-start.result c.add_instances.new.numbers.items)) (keys_in c.number_behind.new.shared) c.number_behind.result
    (node_with_items _ c.in-Node.op c.in-Node.profile c.in-Node.arguments c.items.result.now.items c.in-Node.is c.items.ensures)
    (readied_behind values c.in-Node.op (all_profiled c.items.result.now.items) (keys_in c.args.shared.now)
    (keys_in c.add_instances.new.shared) c.args.numbers.now.items c.add_instances.new.numbers.items c.len-start.result
    start c.add_instances.ensures.takes c.in_ok-add_instances-in-Node.ensures.numbers)
    c.number_behind.ensures.more c.number_behind.ensures.stands

pub add_instances-instance-requires : goal.add_instances-instance-requires
add_instances-instance-requires t c =
    let part = member_size c.deref-term-items.result.now c.loop-term.term-index c.term-item.result c.loop-term-test.true
    c.term-item.is in
    let less = subst (λ (terms : List Term). 2 * size (profiled_of c.term-item.result) < 2 * sizes (all_profiled terms) + 1)
    c.deref-term-items.ensures.value part in (
      omega (arith, less, c.decreases),
      below_grown (keys_in c.args.shared.now) (keys_in c.loop-term.shared) (numbers_in c.args.pairs.now) c.loop-term.invariant.grows
          c.requires,
    )

pub add_instances-returns-in_err-number-clause-takes : goal.add_instances-returns-in_err-number-clause-takes
add_instances-returns-in_err-number-clause-takes t c =
    let xs = c.deref-term-items.result.now in
    let i = c.loop-term.term-index in
    subst (λ (terms : List Term). TakeIn (all_profiled terms) (keys_in c.args.shared.now) (keys_in c.instance.new.shared))
    c.deref-term-items.ensures.value
    (numbered_not c.args.pairs.now (profiled_of c.term-item.result) (all_profiled xs) (all_profiled (drop i xs))
    (all_profiled (drop (i + 1) xs)) (keys_in c.args.shared.now) (keys_in c.loop-term.shared) (keys_in c.instance.new.shared)
    c.args.numbers.now.items c.loop-term.numbers.items (profiled_rest xs i c.term-item.result c.loop-term-test.true c.term-item.is)
    c.loop-term.invariant c.instance.ensures.takes)

pub add_instances-returns-in_err-push-clause-takes : goal.add_instances-returns-in_err-push-clause-takes
add_instances-returns-in_err-push-clause-takes t c =
    let xs = c.deref-term-items.result.now in
    let i = c.loop-term.term-index in
    subst (λ (terms : List Term). TakeIn (all_profiled terms) (keys_in c.args.shared.now) (keys_in c.instance.new.shared))
    c.deref-term-items.ensures.value
    (numbered_not c.args.pairs.now (profiled_of c.term-item.result) (all_profiled xs) (all_profiled (drop i xs))
    (all_profiled (drop (i + 1) xs)) (keys_in c.args.shared.now) (keys_in c.loop-term.shared) (keys_in c.instance.new.shared)
    c.args.numbers.now.items c.loop-term.numbers.items (profiled_rest xs i c.term-item.result c.loop-term-test.true c.term-item.is)
    c.loop-term.invariant c.instance.ensures.takes)

pub add_instances-loop-term-preserved : goal.add_instances-loop-term-preserved
add_instances-loop-term-preserved t c =
    let xs = c.deref-term-items.result.now in
    let i = c.loop-term.term-index in
    subst (λ (key : List ℕ). IsNumberedSoFar c.args.pairs.now (all_profiled xs) (all_profiled (drop (i + 1) xs))
    (keys_in c.args.shared.now) (keys_in c.instance.new.shared) c.args.numbers.now.items key) (sym (c.in_ok-push.ensures.items
    ∙ ap (λ (key : List ℕ). key ++ c.in_ok-number.number ∷ []) c.in_ok-number.ensures.same))
    (numbered_one c.args.pairs.now (profiled_of c.term-item.result) (all_profiled xs) (all_profiled (drop i xs))
    (all_profiled (drop (i + 1) xs)) (keys_in c.args.shared.now) (keys_in c.loop-term.shared) (keys_in c.instance.new.shared)
    c.args.numbers.now.items c.loop-term.numbers.items c.in_ok-number.number c.requires
    (profiled_rest xs i c.term-item.result c.loop-term-test.true c.term-item.is) c.loop-term.invariant c.instance.ensures.takes
    c.in_ok-number.ensures.number)

pub add_instances-returns-clause-takes : goal.add_instances-returns-clause-takes
add_instances-returns-clause-takes t c =
    let xs = c.deref-term-items.result.now in
    subst (λ (terms : List Term). TakeIn (all_profiled terms) (keys_in c.args.shared.now) (keys_in c.loop-term.shared))
    c.deref-term-items.ensures.value
    (numbered_taken c.args.pairs.now (all_profiled xs) (all_profiled (drop c.loop-term.term-index xs)) (keys_in c.args.shared.now)
    (keys_in c.loop-term.shared) c.args.numbers.now.items c.loop-term.numbers.items c.loop-term.invariant)

pub add_instances-returns-clause-numbers : goal.add_instances-returns-clause-numbers
add_instances-returns-clause-numbers t c =
    let xs = c.deref-term-items.result.now in
    let i = c.loop-term.term-index in
    let end : length xs ≤ i = omega (arith, c.loop-term-test.false) in
    subst (λ (terms : List Term). AreInstancesOf (numbered_substitution c.args.pairs.now (keys_in c.args.shared.now)) (all_profiled terms)
    (keys_in c.args.shared.now) (keys_in c.loop-term.shared) c.args.numbers.now.items c.loop-term.numbers.items) c.deref-term-items.ensures.value
    (numbered_all c.args.pairs.now (all_profiled xs) (all_profiled (drop i xs)) (keys_in c.args.shared.now) (keys_in c.loop-term.shared)
    c.args.numbers.now.items c.loop-term.numbers.items (profiled_end xs i end) c.loop-term.invariant)
