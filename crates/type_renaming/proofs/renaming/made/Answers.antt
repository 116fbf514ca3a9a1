use Rattle.std.proofs.Common.{◌≡◌, List, map, length, ap, sym, ◌∙◌}
use Rattle.std.proofs.lemmas.List.{length-map}
use Rattle.std.proofs.lemmas.Result.{err_from_is_err_and}
use Rattle.type_presentations.proofs.DeclareLemmas.{later_fails, none_fails}
use Rattle.lotos_base.specs.Signature.{Sort}
use Rattle.sort_terms.specs.Operations.{sort_of}
use Rattle.sort_terms.specs.WellFormedTest.{all_differ, are_one_sort}
use Rattle.type_presentations.specs.SortListView.{sorts_in}
use Rattle.type_presentations.proofs.GrowthLemmas.{sorts_differ}
use Rattle.type_definitions.specs.FaultView.{IsFaultFound}
use Rattle.type_definitions.specs.declared.type_faults.TypeFault.{TypeFault as CodeFault}
use Rattle.type_definitions.proofs.HoldsLemmas.{holds_weaker}
use Rattle.type_definitions.specs.Presentation.{Presentation, presentation_limit}
use Rattle.type_definitions.specs.Renaming.{renamed_sort, renamed_sort_clash}
use Rattle.type_definitions.proofs.FaultLemmas.{first_fails}
use Rattle.type_presentations.specs.PresentationView.{presentation_of}
use Rattle.type_presentations.proofs.SizeLemmas.{within_limits}
use Rattle.type_renaming.specs.ImageOfBase.{clash_in, IsClash}
use Rattle.type_renaming.specs.Parts.{sorts_alone}
use Rattle.type_renaming.specs.RenamerView.{type_name_in, sort_pairs_in, operation_pairs_in}
use Rattle.type_renaming.specs.declared.renamer.Renamer.{Renamer}
use Rattle.type_renaming.proofs.PartLemmas.{at_most}
use Rattle.type_renaming.proofs.RenameLemmas.{whole_image}
use Rattle.type_renaming.proofs.renaming.made.Goals as goal

clashes : (base : Presentation) (sorts operations : Renamer) (fault : CodeFault) → IsFaultFound (clash_in base sorts operations) fault
    → IsClash base sorts operations fault
clashes base sorts operations fault h = record { found = h }

-- a presentation that is sorts alone
alone : (p : Presentation) (ss : List Sort) → p ≡ sorts_alone ss → p ≡ sorts_alone p.signature.sorts
alone p ss is = is ∙ ap (λ (q : Presentation). sorts_alone q.signature.sorts) (sym is)

pub rename_sorts-requires-clause-few : goal.rename_sorts-requires-clause-few
rename_sorts-requires-clause-few c =
    at_most (length c.sorts.result.now) (length (sorts_in c.args.base.now.sorts)) presentation_limit
    (sym (length-map c.sorts.result.now sort_of) ∙ ap (λ (ss : List Sort). length ss) c.sorts.ensures)
    (within_limits (presentation_of c.args.base.now) c.requires.within).sorts

pub rename_sorts-requires-clause-apart : goal.rename_sorts-requires-clause-apart
rename_sorts-requires-clause-apart c =
    ap (λ (ss : List Sort). all_differ are_one_sort ss) c.sorts.ensures
    ∙ sorts_differ (presentation_of c.args.base.now).signature c.requires.sound.data_.signature

pub returns-in_err-renamed : goal.returns-in_err-renamed
returns-in_err-renamed c =
    let e = err_from_is_err_and c.from_residual.result c.from_residual.ensures.1 in
    let t = type_name_in c.args.sorts.now in
    let ps = sort_pairs_in c.args.sorts.now in
    rw (e.1, e.2)
    (clashes (presentation_of c.args.base.now) c.args.sorts.now c.args.ops.now _
    (holds_weaker _ _ c.in_err-renamed.field-0.0
    (λ f found.
    first_fails _ _ f (sym (ap (λ (ss : List Sort). renamed_sort_clash (sorts_alone ss) t ps) c.sorts.ensures) ∙ found))
    c.in_err-renamed.ensures))

pub complete-requires-clause-sound : goal.complete-requires-clause-sound
complete-requires-clause-sound c = c.in_ok-renamed.ensures.2

pub complete-requires-clause-within : goal.complete-requires-clause-within
complete-requires-clause-within c = c.in_ok-renamed.ensures.3

pub complete-requires-clause-alone : goal.complete-requires-clause-alone
complete-requires-clause-alone c =
    let t = type_name_in c.args.sorts.now in
    let ps = sort_pairs_in c.args.sorts.now in record {
      sorts = ap (λ (p : Presentation). length p.signature.sorts) c.in_ok-renamed.ensures.1
          ∙ length-map (map sort_of c.sorts.result.now) (renamed_sort t ps) ∙ ap (λ (ss : List Sort). length ss) c.sorts.ensures;
      alone = alone (presentation_of c.in_ok-renamed.renamed) (map (renamed_sort t ps) (map sort_of c.sorts.result.now))
          c.in_ok-renamed.ensures.1;
    }

pub returns-in_err-complete : goal.returns-in_err-complete
returns-in_err-complete c =
    let e = err_from_is_err_and c.from_residual-in_err-complete.result c.from_residual-in_err-complete.ensures.1 in
    let t = type_name_in c.args.sorts.now in
    let ps = sort_pairs_in c.args.sorts.now in
    rw (e.1, e.2)
    (clashes (presentation_of c.args.base.now) c.args.sorts.now c.args.ops.now _
    (holds_weaker _ _ c.in_err-complete.field-0.0
    (λ f found.
    later_fails _ _ f
    (sym (ap (λ (ss : List Sort). renamed_sort_clash (sorts_alone ss) t ps) c.sorts.ensures) ∙ c.in_ok-renamed.ensures.0) found)
    c.in_err-complete.ensures.found))

pub returns : goal.returns
returns c =
    let t = type_name_in c.args.sorts.now in
    let ps = sort_pairs_in c.args.sorts.now in
    let u = type_name_in c.args.ops.now in
    let qs = operation_pairs_in c.args.ops.now in
    let base = presentation_of c.args.base.now in
    let whole =
    whole_image t u ps qs base _ _ (map sort_of c.sorts.result.now) c.sorts.ensures c.in_ok-renamed.ensures.1
    c.in_ok-complete.ensures.made in record {
      none = none_fails _ _
          (sym (ap (λ (ss : List Sort). renamed_sort_clash (sorts_alone ss) t ps) c.sorts.ensures) ∙ c.in_ok-renamed.ensures.0)
          c.in_ok-complete.ensures.none;
      made = whole;
      sound = c.in_ok-complete.ensures.sound;
      within = c.in_ok-complete.ensures.within;
    }
