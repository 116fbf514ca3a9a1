use Rattle.std.proofs.Common.{ℕ, List, map, length, ap, sym, ◌∙◌}
use Rattle.std.specs.List.{list_all}
use Rattle.std.proofs.lemmas.List.{length-map}
use Rattle.std.proofs.lemmas.Result.{err_from_is_err_and}
use Rattle.lotos_base.specs.Signature.{Operation}
use Rattle.sort_terms.specs.WellFormedTest.{all_differ, are_one_operation, has_known_sorts}
use Rattle.type_presentations.specs.OperationListView.{operations_in}
use Rattle.type_presentations.proofs.GrowthLemmas.{operations_differ, known_sorts}
use Rattle.type_definitions.specs.FaultView.{IsFaultFound}
use Rattle.type_definitions.specs.declared.type_faults.TypeFault.{TypeFault as CodeFault}
use Rattle.type_definitions.specs.declared.type_faults.TypeFault.TheVariants.{NoMemory}
use Rattle.type_definitions.proofs.HoldsLemmas.{holds_weaker}
use Rattle.type_definitions.specs.Presentation.{Presentation, is_too_large, presentation_limit}
use Rattle.type_definitions.specs.Renaming.{renamed_operation, renamed_operation_clash}
use Rattle.type_presentations.specs.PresentationView.{presentation_of}
use Rattle.type_presentations.proofs.SizeLemmas.{within_limits}
use Rattle.type_renaming.specs.ImageOfBase.{IsOperationClash}
use Rattle.type_renaming.specs.Parts.{operations_alone}
use Rattle.type_renaming.specs.RenamerView.{type_name_in, operation_pairs_in}
use Rattle.type_renaming.specs.declared.renamer.Renamer.{Renamer}
use Rattle.type_renaming.proofs.PartLemmas.{shared, at_most, images_keep_profiles}
use Rattle.type_renaming.proofs.RenameLemmas.{completed, completed_within}
use Rattle.type_renaming.proofs.renaming.complete.Goals as goal

clashes : (base : Presentation) (operations : Renamer) (fault : CodeFault)
    → IsFaultFound (renamed_operation_clash base (type_name_in operations) (operation_pairs_in operations)) fault
    → IsOperationClash base operations fault
clashes base operations fault h = record { found = h }

pub rename_ops-requires-clause-none : goal.rename_ops-requires-clause-none
rename_ops-requires-clause-none c = ap (λ (p : Presentation). p.signature.operations) c.requires.alone.alone

pub rename_ops-requires-clause-few : goal.rename_ops-requires-clause-few
rename_ops-requires-clause-few c =
    at_most (length c.ops.result.now) (length (operations_in c.args.base.now.ops)) presentation_limit
    (sym (length-map c.ops.result.now shared) ∙ ap (λ (os : List Operation). length os) c.ops.ensures)
    (within_limits (presentation_of c.args.base.now) c.requires.few).operations

pub rename_ops-requires-clause-known : goal.rename_ops-requires-clause-known
rename_ops-requires-clause-known c =
    let signature = (presentation_of c.args.base.now).signature in
    ap (λ (n : ℕ). list_all (has_known_sorts n) (map shared c.ops.result.now)) c.requires.alone.sorts
    ∙ ap (λ (os : List Operation). list_all (has_known_sorts (length signature.sorts)) os) c.ops.ensures
    ∙ known_sorts signature c.requires.whole.data_.signature

pub rename_ops-requires-clause-apart : goal.rename_ops-requires-clause-apart
rename_ops-requires-clause-apart c =
    ap (λ (os : List Operation). all_differ are_one_operation os) c.ops.ensures
    ∙ operations_differ (presentation_of c.args.base.now).signature c.requires.whole.data_.signature

pub returns-in_err-rename_ops : goal.returns-in_err-rename_ops
returns-in_err-rename_ops c =
    let e = err_from_is_err_and c.from_residual.result c.from_residual.ensures.1 in
    let u = type_name_in c.args.ops.now in
    let qs = operation_pairs_in c.args.ops.now in
    rw (e.1, e.2)
    (clashes (presentation_of c.args.base.now) c.args.ops.now _
    (holds_weaker _ _ c.in_err-rename_ops.field-0.0
    (λ f found. sym (ap (λ (os : List Operation). renamed_operation_clash (operations_alone os) u qs) c.ops.ensures) ∙ found)
    c.in_err-rename_ops.ensures))

pub returns-in_err-keep_equations : goal.returns-in_err-keep_equations
returns-in_err-keep_equations c =
    let e = err_from_is_err_and c.from_residual-in_err-keep_equations.result c.from_residual-in_err-keep_equations.ensures.1 in
    rw (e.1, e.2) (clashes (presentation_of c.args.base.now) c.args.ops.now NoMemory tt)

pub returns-in_err-keep_marks : goal.returns-in_err-keep_marks
returns-in_err-keep_marks c =
    let e = err_from_is_err_and c.from_residual-in_err-keep_marks.result c.from_residual-in_err-keep_marks.ensures.1 in
    rw (e.1, e.2) (clashes (presentation_of c.args.base.now) c.args.ops.now NoMemory tt)

pub keep_equations-requires-clause-sound : goal.keep_equations-requires-clause-sound
keep_equations-requires-clause-sound c = c.in_ok-rename_ops.ensures.2

pub keep_equations-requires-clause-profiles : goal.keep_equations-requires-clause-profiles
keep_equations-requires-clause-profiles c =
    let u = type_name_in c.args.ops.now in
    let qs = operation_pairs_in c.args.ops.now in
    images_keep_profiles u qs (presentation_of c.args.base.now).signature _
    (ap (λ (p : Presentation). length p.signature.sorts) c.in_ok-rename_ops.ensures.1 ∙ c.requires.alone.sorts)
    (ap (λ (p : Presentation). p.signature.operations) c.in_ok-rename_ops.ensures.1
    ∙ ap (λ (os : List Operation). map (renamed_operation u qs) os) c.ops.ensures)

pub returns : goal.returns
returns c =
    let u = type_name_in c.args.ops.now in
    let qs = operation_pairs_in c.args.ops.now in
    let base = presentation_of c.args.base.now in
    let whole =
    completed u qs base (presentation_of c.args.renamed.now) _ _ _ (map shared c.ops.result.now) c.ops.ensures
    c.in_ok-rename_ops.ensures.1 c.in_ok-keep_equations.ensures.kept c.in_ok-keep_marks.ensures.kept in record {
      none = sym (ap (λ (os : List Operation). renamed_operation_clash (operations_alone os) u qs) c.ops.ensures)
          ∙ c.in_ok-rename_ops.ensures.0;
      made = whole;
      sound = c.in_ok-keep_marks.ensures.sound;
      within = ap (λ (p : Presentation). is_too_large p) whole
          ∙ completed_within u qs base (presentation_of c.args.renamed.now) c.requires.alone.sorts c.requires.alone.alone c.requires.few;
    }
