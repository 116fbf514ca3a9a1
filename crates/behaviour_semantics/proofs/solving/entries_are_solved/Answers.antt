-- What solving obeys on any draft in order, for the drafts of shapes, whose variables are their own leaves.
use Rattle.behaviour_semantics.proofs.DraftFineness.{FineDraft, fine_draft}
use Rattle.behaviour_semantics.proofs.ShapeEntries.{shape_entry, own_value}
use Rattle.behaviour_semantics.proofs.SolvingAnyDraft.{solving_any}
use Rattle.behaviour_semantics.proofs.solving.entries_are_solved.Goals as goal

pub returns : goal.returns
returns c = record {
  solved = λ data_ canon specification b over shape draft entry e solves.
      let f : FineDraft data_ draft = fine_draft data_ canon specification b over shape draft e in
      shape_entry data_ canon draft entry f (solving_any.solved data_ canon draft entry over.is_canon f.order solves);
  own_values = own_value;
}
