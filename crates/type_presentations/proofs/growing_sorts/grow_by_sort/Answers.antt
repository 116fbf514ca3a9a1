use Rattle.std.proofs.Common.{List, [], ◌∷◌, length, ap, sym, ◌∙◌}
use Rattle.std.proofs.lemmas.List.{length-map}
use Rattle.lotos_base.proofs.Truth.{second_alone}
use Rattle.lotos_base.specs.Signature.{Sort}
use Rattle.sort_terms.specs.Operations.{sort_of}
use Rattle.sort_terms.specs.WellFormedTest.{are_one_sort}
use Rattle.type_presentations.specs.SortListView.{sorts_in}
use Rattle.type_presentations.specs.OperationListView.{operations_in}
use Rattle.type_presentations.specs.EquationListView.{equations_in}
use Rattle.type_presentations.proofs.AddedLemmas.{by_name}
use Rattle.type_presentations.proofs.KeyedLemmas.{mutual_by_key}
use Rattle.type_definitions.specs.Presentation.{Presentation, is_same_sort, with_new}
use Rattle.type_presentations.specs.PresentationView.{presentation_of}
use Rattle.type_presentations.proofs.GrowthLemmas.{grown_by, one_sort_clashes, sorts_differ, stand_with_sort, first_alone}
use Rattle.type_presentations.proofs.growing_sorts.grow_by_sort.Goals as goal

abbrev with_sorts : List Sort → Presentation → Presentation
with_sorts sorts p = record {
  signature = record { sorts = sorts; operations = p.signature.operations };
  equations = p.equations;
  formal_sorts = p.formal_sorts;
  formal_operations = p.formal_operations;
}

pub returns-then-added-clause-clash : goal.returns-then-added-clause-clash
returns-then-added-clause-clash c =
    let g =
    grown_by is_same_sort are_one_sort one_sort_clashes (mutual_by_key by_name.key by_name.same by_name.tell)
    (sorts_in c.args.presentation.now.sorts)
    (sorts_in c.add.new.self) (sort_of c.args.sort.now) c.in_ok-added.added.clashes (length c.sorts-before.result.now)
    (length c.sorts-after.result.now)
    (c.in_ok-added.ensures.members ∙ ap (λ (s : Sort). with_new is_same_sort (sorts_in c.args.presentation.now.sorts) (s ∷ []))
    c.in_ok-copy.ensures)
    c.in_ok-added.ensures.clashes
    (sorts_differ (presentation_of c.args.presentation.now).signature c.requires.sound.data_.signature)
    (sym (length-map c.sorts-before.result.now sort_of) ∙ ap (λ (xs : List Sort). length xs) c.sorts-before.ensures)
    (sym (length-map c.sorts-after.result.now sort_of) ∙ ap (λ (xs : List Sort). length xs) c.sorts-after.ensures) in
    g.told ∙ first_alone c.in_ok-added.added.clashes _ c.if-added.true

pub returns-else-added-clause-clash : goal.returns-else-added-clause-clash
returns-else-added-clause-clash c =
    let g =
    grown_by is_same_sort are_one_sort one_sort_clashes (mutual_by_key by_name.key by_name.same by_name.tell)
    (sorts_in c.args.presentation.now.sorts)
    (sorts_in c.add.new.self) (sort_of c.args.sort.now) c.in_ok-added.added.clashes (length c.sorts-before.result.now)
    (length c.sorts-after.result.now)
    (c.in_ok-added.ensures.members ∙ ap (λ (s : Sort). with_new is_same_sort (sorts_in c.args.presentation.now.sorts) (s ∷ []))
    c.in_ok-copy.ensures)
    c.in_ok-added.ensures.clashes
    (sorts_differ (presentation_of c.args.presentation.now).signature c.requires.sound.data_.signature)
    (sym (length-map c.sorts-before.result.now sort_of) ∙ ap (λ (xs : List Sort). length xs) c.sorts-before.ensures)
    (sym (length-map c.sorts-after.result.now sort_of) ∙ ap (λ (xs : List Sort). length xs) c.sorts-after.ensures) in
    g.told ∙ second_alone c.in_ok-added.added.clashes _ c.if-added.false

pub returns-else-added-clause-grown : goal.returns-else-added-clause-grown
returns-else-added-clause-grown c = λ none.
    let g =
    grown_by is_same_sort are_one_sort one_sort_clashes (mutual_by_key by_name.key by_name.same by_name.tell)
    (sorts_in c.args.presentation.now.sorts)
    (sorts_in c.add.new.self) (sort_of c.args.sort.now) c.in_ok-added.added.clashes (length c.sorts-before.result.now)
    (length c.sorts-after.result.now)
    (c.in_ok-added.ensures.members ∙ ap (λ (s : Sort). with_new is_same_sort (sorts_in c.args.presentation.now.sorts) (s ∷ []))
    c.in_ok-copy.ensures)
    c.in_ok-added.ensures.clashes
    (sorts_differ (presentation_of c.args.presentation.now).signature c.requires.sound.data_.signature)
    (sym (length-map c.sorts-before.result.now sort_of) ∙ ap (λ (xs : List Sort). length xs) c.sorts-before.ensures)
    (sym (length-map c.sorts-after.result.now sort_of) ∙ ap (λ (xs : List Sort). length xs) c.sorts-after.ensures) in
    let second = second_alone c.in_ok-added.added.clashes _ c.if-added.false ∙ none in
    let longer = g.grown second in
    let stand =
    stand_with_sort (sorts_in c.args.presentation.now.sorts) (sorts_in c.add.new.self) (operations_in c.args.presentation.now.ops)
    (sort_of c.args.sort.now) c.args.presentation.now.equations.equations.items (equations_in c.args.presentation.now.equations) longer
    (g.told ∙ second) c.requires.sound.sides c.requires.sound.data_ in (
      ap (λ (xs : List Sort). with_sorts xs (presentation_of c.args.presentation.now)) longer,
      record {
        sorts = c.in_ok-added.ensures.keyed;
        ops = c.requires.sound.ops;
        equations = c.requires.sound.equations;
        formal_sorts = c.requires.sound.formal_sorts;
        formal_ops = c.requires.sound.formal_ops;
        sides = stand.0;
        data_ = stand.1;
      },
    )
