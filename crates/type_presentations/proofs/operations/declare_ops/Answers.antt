use Rattle.std.proofs.Common.{ℕ, List, ap, sym, subst}
use Rattle.type_presentations.specs.NamesView.{HasNames}
use Rattle.type_definitions.specs.Presentation.{Presentation}
use Rattle.type_presentations.specs.DeclaredOperation.{sort_names}
use Rattle.std.proofs.lemmas.Result.{err_from_is_err_and}
use Rattle.syntax_trees.specs.TreeViews.{written_operation_of}
use Rattle.type_definitions.proofs.HoldsLemmas.{holds_weaker}
use Rattle.type_definitions.proofs.WalkLemmas.{begins, goes, fails, ends, next_of, none_of}
use Rattle.type_presentations.proofs.DeclareLemmas.{operations_fault}
use Rattle.type_presentations.proofs.operations.declare_ops.Goals as goal

pub loop-op-init : goal.loop-op-init
loop-op-init c = (c.requires.sound, c.requires.within, c.requires.named, begins _ _ _ _)

pub loop-op-preserved : goal.loop-op-preserved
loop-op-preserved c =
    let made = c.in_ok-declare_op.ensures in
    let next =
    next_of written_operation_of c.args.declared.now c.loop-op.op-index c.op-item.result c.loop-op-test.true c.op-item.is in (
      made.2,
      made.3,
      subst (λ (ns : List (List ℕ)). HasNames c.args.sorts.now ns) (sym (ap (λ
          (p : Presentation). sort_names p) made.1)) c.loop-op.invariant.2,
      goes _ _ _ _ _ _ _ _ (written_operation_of c.op-item.result) c.loop-op.invariant.3 next made.0 made.1,
    )

pub declare_op-requires-clause-sound : goal.declare_op-requires-clause-sound
declare_op-requires-clause-sound c = c.loop-op.invariant.0

pub declare_op-requires-clause-within : goal.declare_op-requires-clause-within
declare_op-requires-clause-within c = c.loop-op.invariant.1

pub returns-in_err-declare_op : goal.returns-in_err-declare_op
returns-in_err-declare_op c =
    let p = err_from_is_err_and c.from_residual.result c.from_residual.ensures.1 in
    let next =
    next_of written_operation_of c.args.declared.now c.loop-op.op-index c.op-item.result c.loop-op-test.true c.op-item.is in
    rw (p.1, p.2)
    (operations_fault _ _ _ _ _
    (holds_weaker _ _ c.in_err-declare_op.field-0.0
    (λ f found. fails _ _ _ _ _ _ _ (written_operation_of c.op-item.result) f c.loop-op.invariant.3 next found)
    c.in_err-declare_op.ensures))

pub returns : goal.returns
returns c =
    let e =
    ends _ _ _ _ _ _ c.loop-op.invariant.3
    (none_of written_operation_of c.args.declared.now c.loop-op.op-index c.loop-op-test.false) in
    record { none = e.0; made = e.1; sound = c.loop-op.invariant.0; within = c.loop-op.invariant.1 }

pub declare_op-requires-clause-named : goal.declare_op-requires-clause-named
declare_op-requires-clause-named c = c.loop-op.invariant.2
