use Rattle.std.proofs.Common.{◌≡◌, ◌<◌, List, length, map, refl, ap, ◌∙◌, subst, arith}
use Rattle.std.specs.Prelude.{◌^◌}
use Rattle.lotos_base.proofs.Pieces.{take_whole}
use Rattle.lotos_base.specs.Name.{spelling}
use Rattle.lotos_base.specs.Signature.{Operation}
use Rattle.sort_terms.specs.Operations.{operation_of}
use Rattle.type_presentations.specs.NamesView.{HasNames}
use Rattle.type_definitions.specs.Actualisation.{marked_from}
use Rattle.type_definitions.proofs.FaultLemmas.{few_members}
use Rattle.type_presentations.proofs.SizeLemmas.{within_limits}
use Rattle.type_presentations.specs.MarksView.{marks_in}
use Rattle.type_presentations.specs.PresentationView.{presentation_of}
use Rattle.type_renaming.proofs.MarkedNames.{names_next, count_small, number_small}
use Rattle.type_renaming.proofs.formal_names.formal_op_names.Goals as goal

pub loop-number-init : goal.loop-number-init
loop-number-init c = (c.new-names.ensures, refl)

pub overflow_cast-number : goal.overflow_cast-number
overflow_cast-number c =
    let small : c.loop-number.number < 2 ^ 32 =
    number_small (λ op. operation_of op.value) c.ops-ops.result.now _ c.loop-number.number c.ops-ops.ensures
    (within_limits (presentation_of c.args.base.now) c.requires.within).operations c.loop-number-test.true in
    omega (arith, small)

pub add_if-requires : goal.add_if-requires
add_if-requires c =
    count_small (λ op. operation_of op.value) (λ (o : Operation). o.name) (marks_in c.args.base.now.formal_ops) c.ops-ops.result.now
    c.loop-number.number
    c.loop-number.count (2 ^ 32) c.loop-number-test.true
    (few_members (λ op. operation_of op.value) c.ops-ops.result.now _ c.ops-ops.ensures
    (within_limits (presentation_of c.args.base.now) c.requires.within).operations)
    c.loop-number.invariant.1

pub loop-number-preserved : goal.loop-number-preserved
loop-number-preserved c =
    names_next (λ op. operation_of op.value) (λ (o : Operation). o.name) (marks_in c.args.base.now.formal_ops) c.ops-ops.result.now
    c.loop-number.number
    c.index-ops-number.result (spelling c.deref.result.now.name) c.has-is_formal.result c.add_if.new.names c.in_ok-many.many
    c.loop-number-test.true c.index-ops-number.is c.has-is_formal.ensures
    (ap (λ o. spelling o.name) c.deref.ensures)
    (c.in_ok-many.ensures _ c.loop-number.invariant.0 c.loop-number.invariant.1)

pub returns : goal.returns
returns c =
    let all : c.loop-number.number ≡ length c.ops-ops.result.now = omega arith in
    subst (λ (ss : List Operation). HasNames c.loop-number.names
    (map (λ (o : Operation). o.name) (marked_from (marks_in c.args.base.now.formal_ops) 0 ss)))
    (ap (λ xs. map (λ op. operation_of op.value) xs) (take_whole c.ops-ops.result.now c.loop-number.number all) ∙ c.ops-ops.ensures)
    c.loop-number.invariant.0
