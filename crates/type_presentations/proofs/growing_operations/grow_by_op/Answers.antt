use Rattle.std.proofs.Common.{List, [], ◌∷◌, length, ap, sym, ◌∙◌}
use Rattle.std.proofs.lemmas.List.{length-map}
use Rattle.lotos_base.proofs.Truth.{second_alone}
use Rattle.lotos_base.specs.Signature.{Operation}
use Rattle.sort_terms.specs.Operations.{operation_of}
use Rattle.sort_terms.specs.declared.operations.Op.{Op as CodeOp}
use Rattle.sort_terms.specs.WellFormedTest.{are_one_operation}
use Rattle.type_presentations.specs.OperationListView.{operations_in}
use Rattle.type_presentations.specs.SortListView.{sorts_in}
use Rattle.type_presentations.specs.EquationListView.{equations_in}
use Rattle.type_presentations.proofs.AddedLemmas.{by_profile}
use Rattle.type_presentations.proofs.KeyedLemmas.{mutual_by_key}
use Rattle.type_definitions.specs.Presentation.{Presentation, is_same_operation, with_new}
use Rattle.type_presentations.specs.PresentationView.{presentation_of}
use Rattle.type_presentations.proofs.GrowthLemmas.{grown_by, one_operation_clashes, operations_differ, stand_with_operation, first_alone}
use Rattle.type_presentations.proofs.growing_operations.grow_by_op.Goals as goal

abbrev with_operations : List Operation → Presentation → Presentation
with_operations operations p = record {
  signature = record { sorts = p.signature.sorts; operations = operations };
  equations = p.equations;
  formal_sorts = p.formal_sorts;
  formal_operations = p.formal_operations;
}

pub returns-then-added-clause-clash : goal.returns-then-added-clause-clash
returns-then-added-clause-clash c =
    let g =
    grown_by is_same_operation are_one_operation one_operation_clashes (mutual_by_key by_profile.key by_profile.same by_profile.tell)
    (operations_in c.args.presentation.now.ops)
    (operations_in c.add.new.self) (operation_of c.args.op) c.in_ok-added.added.clashes (length c.ops-before.result.now)
    (length c.ops-after.result.now)
    (c.in_ok-added.ensures.members ∙ ap (λ (o : CodeOp). with_new is_same_operation (operations_in c.args.presentation.now.ops)
    (operation_of o ∷ [])) c.in_ok-new.ensures.ok)
    c.in_ok-added.ensures.clashes
    (operations_differ (presentation_of c.args.presentation.now).signature c.requires.sound.data_.signature)
    (sym (length-map c.ops-before.result.now (λ op. operation_of op.value)) ∙ ap (λ (xs : List Operation). length xs) c.ops-before.ensures)
    (sym (length-map c.ops-after.result.now (λ op. operation_of op.value)) ∙ ap (λ (xs : List Operation). length xs) c.ops-after.ensures) in
    g.told ∙ first_alone c.in_ok-added.added.clashes _ c.if-added.true

pub returns-else-added-clause-clash : goal.returns-else-added-clause-clash
returns-else-added-clause-clash c =
    let g =
    grown_by is_same_operation are_one_operation one_operation_clashes (mutual_by_key by_profile.key by_profile.same by_profile.tell)
    (operations_in c.args.presentation.now.ops)
    (operations_in c.add.new.self) (operation_of c.args.op) c.in_ok-added.added.clashes (length c.ops-before.result.now)
    (length c.ops-after.result.now)
    (c.in_ok-added.ensures.members ∙ ap (λ (o : CodeOp). with_new is_same_operation (operations_in c.args.presentation.now.ops)
    (operation_of o ∷ [])) c.in_ok-new.ensures.ok)
    c.in_ok-added.ensures.clashes
    (operations_differ (presentation_of c.args.presentation.now).signature c.requires.sound.data_.signature)
    (sym (length-map c.ops-before.result.now (λ op. operation_of op.value)) ∙ ap (λ (xs : List Operation). length xs) c.ops-before.ensures)
    (sym (length-map c.ops-after.result.now (λ op. operation_of op.value)) ∙ ap (λ (xs : List Operation). length xs) c.ops-after.ensures) in
    g.told ∙ second_alone c.in_ok-added.added.clashes _ c.if-added.false

pub returns-else-added-clause-grown : goal.returns-else-added-clause-grown
returns-else-added-clause-grown c = λ none.
    let g =
    grown_by is_same_operation are_one_operation one_operation_clashes (mutual_by_key by_profile.key by_profile.same by_profile.tell)
    (operations_in c.args.presentation.now.ops)
    (operations_in c.add.new.self) (operation_of c.args.op) c.in_ok-added.added.clashes (length c.ops-before.result.now)
    (length c.ops-after.result.now)
    (c.in_ok-added.ensures.members ∙ ap (λ (o : CodeOp). with_new is_same_operation (operations_in c.args.presentation.now.ops)
    (operation_of o ∷ [])) c.in_ok-new.ensures.ok)
    c.in_ok-added.ensures.clashes
    (operations_differ (presentation_of c.args.presentation.now).signature c.requires.sound.data_.signature)
    (sym (length-map c.ops-before.result.now (λ op. operation_of op.value)) ∙ ap (λ (xs : List Operation). length xs) c.ops-before.ensures)
    (sym (length-map c.ops-after.result.now (λ op. operation_of op.value)) ∙ ap (λ (xs : List Operation). length xs) c.ops-after.ensures) in
    let second = second_alone c.in_ok-added.added.clashes _ c.if-added.false ∙ none in
    let longer = g.grown second in
    let stand =
    stand_with_operation (sorts_in c.args.presentation.now.sorts) (operations_in c.args.presentation.now.ops) (operations_in c.add.new.self)
    (operation_of c.args.op) c.args.presentation.now.equations.equations.items (equations_in c.args.presentation.now.equations) longer
    c.requires.known (g.told ∙ second) c.requires.sound.sides c.requires.sound.data_ in (
      ap (λ (xs : List Operation). with_operations xs (presentation_of c.args.presentation.now)) longer,
      record {
        sorts = c.requires.sound.sorts;
        ops = c.in_ok-added.ensures.keyed;
        equations = c.requires.sound.equations;
        formal_sorts = c.requires.sound.formal_sorts;
        formal_ops = c.requires.sound.formal_ops;
        sides = stand.0;
        data_ = stand.1;
      },
    )
