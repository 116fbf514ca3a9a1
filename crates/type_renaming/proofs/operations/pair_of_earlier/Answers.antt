use Rattle.std.proofs.Common.{List, ap, sym, refl, ◌∙◌}
use Rattle.lotos_base.specs.Signature.{Operation}
use Rattle.sort_terms.specs.Operations.{operation_of}
use Rattle.type_renaming.proofs.PartLemmas.{shared}
use Rattle.sort_terms.specs.declared.operations.Op.{Op}
use Rattle.sort_terms.specs.WellFormedTest.{are_one_operation}
use Rattle.syntax_trees.specs.TreeViews.{pair_of}
use Rattle.type_definitions.specs.TypeFault.{double_operation}
use Rattle.type_definitions.specs.Renaming.{pair_for, renamed_operation}
use Rattle.type_definitions.proofs.WalkLemmas.{none_of}
use Rattle.type_renaming.specs.Clashes.{giving_operation, operation_clash}
use Rattle.type_renaming.specs.RenamerView.{operation_pairs_in, type_name_in}
use Rattle.type_renaming.proofs.ClashLemmas.{walks_on, stops, none_further}
use Rattle.type_renaming.proofs.PairLemmas.{operation_given, operation_not_given}
use Rattle.type_renaming.proofs.operations.pair_of_earlier.Goals as goal

pub loop-other-init : goal.loop-other-init
loop-other-init c = (c.requires.apart, refl)

pub returns-in-Some : goal.returns-in-Some
returns-in-Some c =
    let t = type_name_in c.args.renamer.now in
    let ps = operation_pairs_in c.args.renamer.now in
    let given =
    operation_given t ps (shared c.other-item.result) (operation_of c.args.op.now) (pair_of c.in-Some.pair.now) c.requires.own
    (ap (λ (o : Op). giving_operation (pair_for ps.operation_pairs (operation_of o).name) (operation_of o) (operation_of c.args.op.now))
    (sym c.deref.ensures)
    ∙ sym (rw c.in-Some.is at c.in_ok-found.ensures)) in
    sym c.loop-other.invariant.1
    ∙ stops (λ (one : Operation) (other : Operation). are_one_operation (renamed_operation t ps one) (renamed_operation t ps other))
    (λ (o : Operation). pair_for ps.operation_pairs o.name) double_operation shared c.args.earlier.now c.loop-other.other-index
    c.other-item.result
    (operation_of c.args.op.now) (pair_of c.in-Some.pair.now) c.loop-other-test.true c.other-item.is given.1 c.requires.own given.0

pub loop-other-preserved : goal.loop-other-preserved
loop-other-preserved c =
    let t = type_name_in c.args.renamer.now in
    let ps = operation_pairs_in c.args.renamer.now in
    let rest =
    none_further (are_one_operation (operation_of c.args.op.now)) shared c.args.earlier.now c.loop-other.other-index c.other-item.result
    c.loop-other-test.true c.other-item.is c.loop-other.invariant.0 in
    let other =
    operation_not_given t ps (shared c.other-item.result) (operation_of c.args.op.now) c.requires.own
    (ap (λ (o : Op). giving_operation (pair_for ps.operation_pairs (operation_of o).name) (operation_of o) (operation_of c.args.op.now))
    (sym c.deref.ensures)
    ∙ sym (rw c.in_default.is at c.in_ok-found.ensures)) rest.0 in (
      rest.1,
      walks_on (λ (one : Operation) (other : Operation). are_one_operation (renamed_operation t ps one) (renamed_operation t ps other))
          (λ (o : Operation). pair_for ps.operation_pairs o.name) double_operation shared c.args.earlier.now c.loop-other.other-index
          c.other-item.result (operation_of c.args.op.now) c.loop-other-test.true c.other-item.is other
          ∙ c.loop-other.invariant.1,
    )

pub returns : goal.returns
returns c =
    sym c.loop-other.invariant.1
    ∙ ap (λ (os : List Operation).
    operation_clash (type_name_in c.args.renamer.now) (operation_pairs_in c.args.renamer.now) os (operation_of c.args.op.now))
    (none_of shared c.args.earlier.now c.loop-other.other-index c.loop-other-test.false)
