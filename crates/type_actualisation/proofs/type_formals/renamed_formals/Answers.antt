use Rattle.std.proofs.Common.{◌≡◌, ℕ, List, ◌++◌, map, ap, refl, sym, subst, ◌∙◌}
use Rattle.lotos_base.specs.Equation.{Equation}
use Rattle.lotos_base.specs.Name.{spelling}
use Rattle.sort_terms.specs.Operations.{sort_of}
use Rattle.syntax_trees.specs.WrittenItem.{WrittenPairs}
use Rattle.type_definitions.proofs.FaultLemmas.{few_members}
use Rattle.type_definitions.specs.Flattened.{presentation_named}
use Rattle.type_definitions.specs.FormalEquations.{FlattenedType, mentioned_in}
use Rattle.type_definitions.specs.Images.{equation_image}
use Rattle.type_definitions.specs.Presentation.{Presentation}
use Rattle.type_definitions.specs.ProfiledImage.{number_in}
use Rattle.type_definitions.specs.Renaming.{renamed_presentation}
use Rattle.type_presentations.proofs.SizeLemmas.{within_limits}
use Rattle.type_presentations.specs.EquationListView.{equations_in}
use Rattle.type_presentations.specs.OperationListView.{operations_in}
use Rattle.type_presentations.specs.PresentationView.{presentation_of}
use Rattle.type_presentations.specs.SortListView.{sorts_in}
use Rattle.type_renaming.proofs.KeptLemmas.{as_long, is_signature_map}
use Rattle.type_renaming.proofs.PartLemmas.{shared}
use Rattle.type_renaming.specs.SameNumbers.{KeepNumbers}
use Rattle.type_actualisation.proofs.FormalListLemmas.{none_over}
use Rattle.type_actualisation.proofs.OneFormalLemmas.{all_stay, renaming_keeps}
use Rattle.type_actualisation.proofs.TypesLemmas.{over_found, presentation_is}
use Rattle.type_actualisation.proofs.type_formals.renamed_formals.Goals as goal

pub formals_named-requires : goal.formals_named-requires
formals_named-requires c = (c.requires.0, c.requires.3)

pub named-requires : goal.named-requires
named-requires c = c.requires.3.sound

pub numbers_below-requires : goal.numbers_below-requires
numbers_below-requires c = record {
  few = few_members sort_of c.sorts.result.now (sorts_in c.in_ok-renamed.renamed.now.sorts) c.sorts.ensures
      (within_limits (presentation_of c.in_ok-renamed.renamed.now) c.in_ok-renamed.ensures.sound.1).sorts;
}

pub numbers_below-requires-2 : goal.numbers_below-requires-2
numbers_below-requires-2 c = record {
  few = few_members shared c.ops.result.now (operations_in c.in_ok-renamed.renamed.now.ops) c.ops.ensures
      (within_limits (presentation_of c.in_ok-renamed.renamed.now) c.in_ok-renamed.ensures.sound.1).operations;
}

pub append_images-requires : goal.append_images-requires
append_images-requires c =
    let all = c.requires.0 in
    let name = c.requires.1 in
    let pairs = c.requires.2 in
    let are = c.requires.3 in
    let presented = c.requires.4 in
    let base = presentation_of c.in_ok-renamed.renamed.now in
    let p = presentation_of c.args.presentation.now in
    let keep : KeepNumbers base.signature c.as_slice-sort_numbers.result.now c.as_slice-op_numbers.result.now =
    record {
      sorts = as_long sort_of c.sorts.result.now (sorts_in c.in_ok-renamed.renamed.now.sorts) c.in_ok-sorts.sorts.items
          c.as_slice-sort_numbers.result.now c.sorts.ensures c.as_slice-sort_numbers.ensures.value c.in_ok-sorts.ensures;
      operations = as_long shared c.ops.result.now (operations_in c.in_ok-renamed.renamed.now.ops) c.in_ok-ops.ops.items
          c.as_slice-op_numbers.result.now c.ops.ensures c.as_slice-op_numbers.ensures.value c.in_ok-ops.ensures;
    } in
    let base_is : base ≡ presentation_named (mentioned_in all) (spelling c.args.base.now.1) =
    presentation_is all c.args.types.now (spelling c.args.base.now.1) c.in_ok-renamed.renamed.now are
    c.in_ok-renamed.ensures.presentation in
    let alike =
    renaming_keeps base p name pairs
    (ap (λ (q : Presentation). renamed_presentation q name pairs) base_is ∙ presented.1) in (
      base.signature,
      p.signature,
      record {
        maps = is_signature_map base.signature p.signature c.as_slice-sort_numbers.result.now c.as_slice-op_numbers.result.now
            c.in_ok-renamed.ensures.sound.0.data_.signature alike keep;
        profiles_are = refl;
        formals = over_found all c.args.types.now (spelling c.args.base.now.1) c.in_ok-renamed.renamed.now
            c.in_ok-formals.formals.now are c.in_ok-renamed.ensures.presentation (c.in_ok-formals.ensures all are);
      },
      none_over p.signature c.new-list.result c.new-list.ensures.keyed c.new-list.ensures.equations,
    )

pub returns : goal.returns
returns c = λ (all : List FlattenedType) (name : List ℕ) (pairs : WrittenPairs) are presented.
    let base = presentation_of c.in_ok-renamed.renamed.now in
    let p = presentation_of c.args.presentation.now in
    let keep : KeepNumbers base.signature c.as_slice-sort_numbers.result.now c.as_slice-op_numbers.result.now =
    record {
      sorts = as_long sort_of c.sorts.result.now (sorts_in c.in_ok-renamed.renamed.now.sorts) c.in_ok-sorts.sorts.items
          c.as_slice-sort_numbers.result.now c.sorts.ensures c.as_slice-sort_numbers.ensures.value c.in_ok-sorts.ensures;
      operations = as_long shared c.ops.result.now (operations_in c.in_ok-renamed.renamed.now.ops) c.in_ok-ops.ops.items
          c.as_slice-op_numbers.result.now c.ops.ensures c.as_slice-op_numbers.ensures.value c.in_ok-ops.ensures;
    } in
    let base_is : base ≡ presentation_named (mentioned_in all) (spelling c.args.base.now.1) =
    presentation_is all c.args.types.now (spelling c.args.base.now.1) c.in_ok-renamed.renamed.now are
    c.in_ok-renamed.ensures.presentation in
    let alike =
    renaming_keeps base p name pairs
    (ap (λ (q : Presentation). renamed_presentation q name pairs) base_is ∙ presented.1) in
    let named = c.in_ok-formals.ensures all are in
    let formals =
    over_found all c.args.types.now (spelling c.args.base.now.1) c.in_ok-renamed.renamed.now c.in_ok-formals.formals.now are
    c.in_ok-renamed.ensures.presentation named in
    record {
      are = sym (c.in_ok-append_images.ensures.equations
          ∙ ap (λ (es : List Equation).
          es ++ map (equation_image (number_in c.as_slice-sort_numbers.result.now) (number_in c.as_slice-op_numbers.result.now))
          (equations_in c.in_ok-formals.formals.now)) c.new-list.ensures.equations
          ∙ all_stay base.signature c.as_slice-sort_numbers.result.now c.as_slice-op_numbers.result.now c.in_ok-formals.formals.now keep
          formals
          ∙ named.0);
      over = c.in_ok-append_images.ensures.over base.signature p.signature
          (record {
            maps = is_signature_map base.signature p.signature c.as_slice-sort_numbers.result.now c.as_slice-op_numbers.result.now
                c.in_ok-renamed.ensures.sound.0.data_.signature alike keep;
            profiles_are = refl;
            formals = formals;
          })
          (none_over p.signature c.new-list.result c.new-list.ensures.keyed c.new-list.ensures.equations);
    }
