use Rattle.std.proofs.Common.{List, ℕ, length, ap, sym, ◌∙◌}
use Rattle.std.proofs.lemmas.List.{length-map}
use Rattle.std.proofs.lemmas.Result.{err_from_is_err_and}
use Rattle.lotos_base.specs.Name.{spelling}
use Rattle.lotos_base.specs.WrittenView.{placed_name_of}
use Rattle.lotos_base.specs.Signature.{Sort}
use Rattle.sort_terms.specs.Operations.{sort_of}
use Rattle.type_definitions.proofs.HoldsLemmas.{holds_weaker}
use Rattle.type_definitions.specs.Presentation.{Presentation, is_too_large}
use Rattle.type_presentations.specs.PresentationView.{presentation_of}
use Rattle.type_presentations.specs.Growth.{with_sort_mark}
use Rattle.type_presentations.proofs.DeclareLemmas.{sort_fault_is, with_sort_is}
use Rattle.type_presentations.proofs.sorts.declare_sort.Goals as goal

pub returns-in_err-add_sort : goal.returns-in_err-add_sort
returns-in_err-add_sort c =
    let e = err_from_is_err_and c.from_residual-in_err-add_sort.result c.from_residual-in_err-add_sort.ensures.1 in
    rw (e.1, e.2)
    (holds_weaker _ _ c.in_err-add_sort.field-0.0
    (λ f found.
    sym (sort_fault_is (spelling c.args.type_name.now) c.args.is_formal (presentation_of c.args.presentation.now)
    (placed_name_of c.args.named.now) (spelling c.in_ok-copy.field-0) (spelling c.in_ok-copy-2.field-0) c.in_ok-copy.ensures
    c.in_ok-copy-2.ensures)
    ∙ found)
    c.in_err-add_sort.ensures)

pub returns : goal.returns
returns c =
    let made = c.in_ok-add_sort.ensures in
    let number : ℕ = length c.sorts.result.now in
    let whole =
    c.in_ok-mark_sort.ensures.marked ∙ ap (λ (q : Presentation). with_sort_mark q c.args.is_formal number) made.1
    ∙ with_sort_is (spelling c.args.type_name.now) c.args.is_formal (presentation_of c.args.presentation.now)
    (placed_name_of c.args.named.now) (spelling c.in_ok-copy.field-0) (spelling c.in_ok-copy-2.field-0) number c.in_ok-copy.ensures
    c.in_ok-copy-2.ensures
    (sym (length-map c.sorts.result.now sort_of) ∙ ap (λ (xs : List Sort). length xs) c.sorts.ensures) in (
      sym (sort_fault_is (spelling c.args.type_name.now) c.args.is_formal (presentation_of c.args.presentation.now)
          (placed_name_of c.args.named.now) (spelling c.in_ok-copy.field-0) (spelling c.in_ok-copy-2.field-0) c.in_ok-copy.ensures
          c.in_ok-copy-2.ensures)
          ∙ made.0,
      whole,
      c.in_ok-mark_sort.ensures.sound,
      ap (λ (p : Presentation). is_too_large p) c.in_ok-mark_sort.ensures.marked ∙ made.3,
    )
