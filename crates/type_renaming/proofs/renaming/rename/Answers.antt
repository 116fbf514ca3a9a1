use Rattle.std.proofs.Common.{◌≡◌, ℕ, List, map, sym, ◌∙◌}
use Rattle.std.specs.Prelude.{None}
use Rattle.std.proofs.lemmas.Result.{err_from_is_err_and, MatchResult-weaker}
use Rattle.type_presentations.proofs.DeclareLemmas.{later_fails}
use Rattle.lotos_base.specs.Name.{spelling}
use Rattle.syntax_trees.specs.TreeViews.{pair_of, pairs_of}
use Rattle.syntax_trees.specs.WrittenItem.{WrittenPairs}
use Rattle.type_definitions.proofs.HoldsLemmas.{holds_weaker}
use Rattle.type_definitions.specs.FaultView.{IsFaultFound}
use Rattle.type_definitions.specs.declared.type_faults.TypeFault.{TypeFault as CodeFault}
use Rattle.type_definitions.specs.declared.type_faults.TypeFault.TheVariants.{NoMemory}
use Rattle.type_definitions.specs.Presentation.{Presentation}
use Rattle.type_definitions.specs.Renaming.{renamed_presentation, renaming_fault}
use Rattle.type_definitions.proofs.FaultLemmas.{first_fails}
use Rattle.type_presentations.specs.PresentationView.{IsSound, IsWithinLimits, presentation_of}
use Rattle.type_presentations.specs.declared.presentations.Presentation.{Presentation as CodePresentation}
use Rattle.type_presentations.proofs.NameLemmas.{sorts_named, operations_named}
use Rattle.type_renaming.specs.Renamed.{IsRenamed, IsRenamingFault}
use Rattle.type_presentations.specs.PairIndexView.{pairs_in}
use Rattle.type_renaming.proofs.RenameLemmas.{clashes_are, images_are}
use Rattle.type_renaming.proofs.renaming.rename.Goals as goal

refused : (base : Presentation) (t : List ℕ) (pairs : WrittenPairs) (fault : CodeFault)
    → IsFaultFound (renaming_fault base t pairs) fault → IsRenamingFault base t pairs fault
refused base t pairs fault h = record { found = h }

is_renamed : (base : Presentation) (t : List ℕ) (pairs : WrittenPairs) (p : CodePresentation) → renaming_fault base t pairs ≡ None
    → presentation_of p ≡ renamed_presentation base t pairs → IsSound p → IsWithinLimits p → IsRenamed base t pairs p
is_renamed base t pairs p none made sound within = record { none = none; made = made; sound = sound; within = within }

pub returns-in_err-sort_names : goal.returns-in_err-sort_names
returns-in_err-sort_names c =
    let e = err_from_is_err_and c.from_residual.result c.from_residual.ensures.1 in
    rw (e.1, e.2)
    (refused (presentation_of c.args.base.now) (spelling c.args.type_name.now) (pairs_of c.args.sort_pairs.now c.args.op_pairs.now)
    NoMemory tt)

pub returns-in_err-op_names : goal.returns-in_err-op_names
returns-in_err-op_names c =
    let e = err_from_is_err_and c.from_residual-in_err-op_names.result c.from_residual-in_err-op_names.ensures.1 in
    rw (e.1, e.2)
    (refused (presentation_of c.args.base.now) (spelling c.args.type_name.now) (pairs_of c.args.sort_pairs.now c.args.op_pairs.now)
    NoMemory tt)

pub returns-in_err-sort_index : goal.returns-in_err-sort_index
returns-in_err-sort_index c =
    let e = err_from_is_err_and c.from_residual-in_err-sort_index.result c.from_residual-in_err-sort_index.ensures.1 in
    let base = presentation_of c.args.base.now in
    rw (e.1, e.2)
    (refused base (spelling c.args.type_name.now) (pairs_of c.args.sort_pairs.now c.args.op_pairs.now) _
    (holds_weaker _ _ c.in_err-sort_index.field-0.0 (λ f found. first_fails _ _ f found)
    (c.in_err-sort_index.ensures base.signature (sorts_named c.in_ok-sort_names.sort_names _ _ c.sorts.ensures
    c.in_ok-sort_names.ensures))))

pub returns-in_err-op_index : goal.returns-in_err-op_index
returns-in_err-op_index c =
    let e = err_from_is_err_and c.from_residual-in_err-op_index.result c.from_residual-in_err-op_index.ensures.1 in
    let base = presentation_of c.args.base.now in
    let sorts = c.in_ok-sort_index.ensures base.signature (sorts_named c.in_ok-sort_names.sort_names _ _ c.sorts.ensures
    c.in_ok-sort_names.ensures) in
    rw (e.1, e.2)
    (refused base (spelling c.args.type_name.now) (pairs_of c.args.sort_pairs.now c.args.op_pairs.now) _
    (holds_weaker _ _ c.in_err-op_index.field-0.0 (λ f found. later_fails _ _ f sorts.0 (first_fails _ _ f found))
    (c.in_err-op_index.ensures base.signature (operations_named c.in_ok-op_names.op_names _ _ c.ops.ensures c.in_ok-op_names.ensures))))

pub returns : goal.returns
returns c =
    let base = presentation_of c.args.base.now in
    let t = spelling c.args.type_name.now in
    let sorts = c.in_ok-sort_index.ensures base.signature (sorts_named c.in_ok-sort_names.sort_names _ _ c.sorts.ensures
    c.in_ok-sort_names.ensures) in
    let ops = c.in_ok-op_index.ensures base.signature (operations_named c.in_ok-op_names.op_names _ _ c.ops.ensures
    c.in_ok-op_names.ensures) in
    let clashes =
    clashes_are t base (pairs_in c.in_ok-sort_index.sort_index) (pairs_in c.in_ok-op_index.op_index) (map pair_of c.args.sort_pairs.now)
    (map pair_of c.args.op_pairs.now) sorts.0 ops.0 sorts.1 ops.1 in
    let images =
    images_are t base (pairs_in c.in_ok-sort_index.sort_index) (pairs_in c.in_ok-op_index.op_index) (map pair_of c.args.sort_pairs.now)
    (map pair_of c.args.op_pairs.now) sorts.1 ops.1 in
    MatchResult-weaker c.made.result c.made.ensures (λ p image.
    is_renamed base t (pairs_of c.args.sort_pairs.now c.args.op_pairs.now) p (sym clashes ∙ image.none) (image.made ∙ images) image.sound
    image.within)
    (λ fault clash.
    refused base t (pairs_of c.args.sort_pairs.now c.args.op_pairs.now) fault
    (holds_weaker _ _ fault (λ f e. sym clashes ∙ e) clash.found))
