use Rattle.std.proofs.lemmas.Result.{err_from_is_err_and}
use Rattle.lotos_base.specs.WrittenView.{placed_name_of}
use Rattle.type_definitions.proofs.HoldsLemmas.{holds_weaker}
use Rattle.type_definitions.proofs.WalkLemmas.{begins, goes, fails, ends, next_of, none_of}
use Rattle.type_presentations.proofs.DeclareLemmas.{sorts_fault}
use Rattle.type_presentations.proofs.sorts.declare_sorts.Goals as goal

pub loop-named-init : goal.loop-named-init
loop-named-init c = (c.requires.sound, c.requires.within, begins _ _ _ _)

pub loop-named-preserved : goal.loop-named-preserved
loop-named-preserved c =
    let made = c.in_ok-declare_sort.ensures in
    let next =
    next_of placed_name_of c.args.declared.now c.loop-named.named-index c.named-item.result c.loop-named-test.true c.named-item.is in
    (made.2, made.3, goes _ _ _ _ _ _ _ _ (placed_name_of c.named-item.result) c.loop-named.invariant.2 next made.0 made.1)

pub declare_sort-requires-clause-sound : goal.declare_sort-requires-clause-sound
declare_sort-requires-clause-sound c = c.loop-named.invariant.0

pub declare_sort-requires-clause-within : goal.declare_sort-requires-clause-within
declare_sort-requires-clause-within c = c.loop-named.invariant.1

pub returns-in_err-declare_sort : goal.returns-in_err-declare_sort
returns-in_err-declare_sort c =
    let p = err_from_is_err_and c.from_residual.result c.from_residual.ensures.1 in
    let next =
    next_of placed_name_of c.args.declared.now c.loop-named.named-index c.named-item.result c.loop-named-test.true c.named-item.is in
    rw (p.1, p.2)
    (sorts_fault _ _ _ _ _
    (holds_weaker _ _ c.in_err-declare_sort.field-0.0
    (λ f found. fails _ _ _ _ _ _ _ (placed_name_of c.named-item.result) f c.loop-named.invariant.2 next found)
    c.in_err-declare_sort.ensures))

pub returns : goal.returns
returns c =
    let e =
    ends _ _ _ _ _ _ c.loop-named.invariant.2
    (none_of placed_name_of c.args.declared.now c.loop-named.named-index c.loop-named-test.false) in
    record { none = e.0; made = e.1; sound = c.loop-named.invariant.0; within = c.loop-named.invariant.1 }
