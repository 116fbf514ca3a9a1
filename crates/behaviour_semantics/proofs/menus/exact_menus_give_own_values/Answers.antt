-- The entry is the solved form of a shape's draft, and its leaves are equal to those of the derivation.
use Rattle.std.specs.Prelude.{◌≡◌, Some}
use Rattle.behaviour_semantics.specs.Draft.{Draft, draft_of}
use Rattle.behaviour_semantics.specs.Solving.{SolvesTo}
use Rattle.behaviour_semantics.specs.SolvingLaws.{IsSolved}
use Rattle.behaviour_semantics.proofs.DraftFineness.{FineDraft, fine_draft}
use Rattle.behaviour_semantics.proofs.ShapeEntries.{shape_entry, own_value}
use Rattle.behaviour_semantics.proofs.SolvingAnyDraft.{solving_any}
use Rattle.behaviour_semantics.proofs.menus.exact_menus_give_own_values.Goals as goal

pub returns : goal.returns
returns c = λ data_ canon specification b entries over exact d label found.
    let solved : (draft : Draft) × (draft_of data_ canon specification.processes found.entry.shape b ≡ Some draft)
    × SolvesTo canon draft (Some found.entry) = exact.solved found.entry found.listed in
    let f : FineDraft data_ solved.0 = fine_draft data_ canon specification b over found.entry.shape solved.0 solved.1 in
    let is : IsSolved canon found.entry = shape_entry data_ canon solved.0 found.entry f
    (solving_any.solved data_ canon solved.0 found.entry over.is_canon f.order solved.2) in
    record { places = is.places; own = is.own; equal = own_value data_ found.entry is.places found.values d.leaves is.own found.leaves }
