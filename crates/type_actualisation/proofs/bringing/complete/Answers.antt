use Rattle.std.proofs.lemmas.Result.{err_from_is_err_and}
use Rattle.lotos_base.specs.WrittenView.{placed_name_of}
use Rattle.type_definitions.specs.declared.type_faults.TypeFault.TheVariants.{NoMemory}
use Rattle.type_actualisation.proofs.BringingLemmas.{brought, brought_as, completed, coming_refused, kept_refused, many_refused_at}
use Rattle.type_actualisation.proofs.bringing.complete.Goals as goal

pub returns-in_err-refuse_kept : goal.returns-in_err-refuse_kept
returns-in_err-refuse_kept c =
    let e = err_from_is_err_and c.from_residual.result c.from_residual.ensures.1 in
    rw (e.1, e.2)
    (λ a at came.
    kept_refused a c.args.base.now c.args.actual.now c.args.sorts.now c.args.ops.now c.in_err-refuse_kept.field-0.0 came
    c.in_err-refuse_kept.ensures)

pub bring_equations-requires : goal.bring_equations-requires
bring_equations-requires c = (
  c.requires.0,
  brought_as c.requires.0 c.args.base.now c.args.actual.now c.args.sorts.now.numbers.items c.args.ops.now.numbers.items
      c.as_slice.result.now c.as_slice-2.result.now c.as_slice.ensures.value c.as_slice-2.ensures.value
      (brought c.requires.0 c.args.base.now c.args.actual.now c.args.sorts.now c.args.ops.now c.requires.1 c.in_ok-refuse_kept.ensures),
)

pub returns-in_err-bring_equations : goal.returns-in_err-bring_equations
returns-in_err-bring_equations c =
    let e = err_from_is_err_and c.from_residual-in_err-bring_equations.result c.from_residual-in_err-bring_equations.ensures.1 in
    rw (e.1, e.2) (λ a at came. coming_refused a NoMemory tt)

pub returns-in_err-refuse_many_equations : goal.returns-in_err-refuse_many_equations
returns-in_err-refuse_many_equations c =
    let e =
    err_from_is_err_and c.from_residual-in_err-refuse_many_equations.result c.from_residual-in_err-refuse_many_equations.ensures.1 in
    rw (e.1, e.2)
    (λ a at came.
    let made =
    c.in_ok-bring_equations.ensures a
    (brought_as a c.args.base.now c.args.actual.now c.args.sorts.now.numbers.items c.args.ops.now.numbers.items c.as_slice.result.now
    c.as_slice-2.result.now c.as_slice.ensures.value c.as_slice-2.ensures.value
    (brought a c.args.base.now c.args.actual.now c.args.sorts.now c.args.ops.now came c.in_ok-refuse_kept.ensures)) in
    many_refused_at a (placed_name_of c.args.mention.now) c.args.base.now c.args.actual.now c.bring_equations.new.presentation
    c.args.sorts.now c.args.ops.now c.in_err-refuse_many_equations.field-0.0 at came c.in_ok-refuse_kept.ensures made.0
    c.in_err-refuse_many_equations.ensures)

pub returns : goal.returns
returns c = λ a at came.
    let made =
    c.in_ok-bring_equations.ensures a
    (brought_as a c.args.base.now c.args.actual.now c.args.sorts.now.numbers.items c.args.ops.now.numbers.items c.as_slice.result.now
    c.as_slice-2.result.now c.as_slice.ensures.value c.as_slice-2.ensures.value
    (brought a c.args.base.now c.args.actual.now c.args.sorts.now c.args.ops.now came c.in_ok-refuse_kept.ensures)) in
    completed a c.args.base.now c.args.actual.now c.bring_equations.new.presentation c.args.sorts.now c.args.ops.now came
    c.in_ok-refuse_kept.ensures made.0 made.1 c.in_ok-refuse_many_equations.ensures
