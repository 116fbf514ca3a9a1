use Rattle.std.proofs.Common.{List, ℕ, ap, sym, ◌∙◌}
use Rattle.std.specs.Prelude.{Some}
use Rattle.lotos_base.specs.Name.{spelling}
use Rattle.lotos_base.specs.WrittenView.{text_place_of}
use Rattle.sort_terms.specs.Operations.{sort_of}
use Rattle.type_definitions.specs.TypeFault.{double_sort, too_large}
use Rattle.type_definitions.specs.Presentation.{Presentation, is_too_large}
use Rattle.type_presentations.specs.PresentationView.{presentation_of}
use Rattle.type_presentations.specs.Growth.{with_one_sort}
use Rattle.type_presentations.proofs.DeclareLemmas.{sorts_first, size_last, nothing_wrong, no_operation_clash}
use Rattle.type_presentations.proofs.sorts.add_sort.Goals as goal

pub returns-then-is_second : goal.returns-then-is_second
returns-then-is_second c =
    sorts_first (text_place_of c.args.place) (spelling c.args.name.now)
    (with_one_sort (presentation_of c.args.presentation.now) (sort_of c.args.sort.now))
    (c.in_ok-is_second.ensures.clash ∙ c.if-is_second.true)
    ∙ ap (λ (n : List ℕ). Some (double_sort (text_place_of c.args.place) n)) (sym c.in_ok-copy.ensures)

pub returns-then-is_too_large : goal.returns-then-is_too_large
returns-then-is_too_large c =
    let grown = c.in_ok-is_second.ensures.grown c.if-is_second.false in
    size_last (text_place_of c.args.place) (spelling c.args.name.now)
    (with_one_sort (presentation_of c.args.presentation.now) (sort_of c.args.sort.now))
    (c.in_ok-is_second.ensures.clash ∙ c.if-is_second.false)
    (no_operation_clash (presentation_of c.args.presentation.now) (sort_of c.args.sort.now) c.requires.sound.data_.signature)
    (sym (ap (λ (p : Presentation). is_too_large p) grown.0) ∙ sym c.is_too_large-is_too_large.ensures ∙ c.if-is_too_large.true)
    ∙ ap (λ (n : List ℕ). Some (too_large (text_place_of c.args.place) n)) (sym c.in_ok-copy-2.ensures)

pub returns : goal.returns
returns c =
    let grown = c.in_ok-is_second.ensures.grown c.if-is_second.false in
    let small = sym c.is_too_large-is_too_large.ensures ∙ c.if-is_too_large.false in (
      nothing_wrong (text_place_of c.args.place) (spelling c.args.name.now)
          (with_one_sort (presentation_of c.args.presentation.now) (sort_of c.args.sort.now))
          (c.in_ok-is_second.ensures.clash ∙ c.if-is_second.false)
          (no_operation_clash (presentation_of c.args.presentation.now) (sort_of c.args.sort.now) c.requires.sound.data_.signature)
          (sym (ap (λ (p : Presentation). is_too_large p) grown.0) ∙ small),
      grown.0,
      grown.1,
      small,
    )
