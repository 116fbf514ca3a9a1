-- What solving obeys on any draft in order, for the drafts of shapes.
use Rattle.behaviour_semantics.specs.DraftOrder.{LeavesMeet, label_from}
use Rattle.behaviour_semantics.specs.DraftOrderLaws.{ValuesFor}
use Rattle.behaviour_semantics.specs.Menu.{EqualLabels, label_at, derivation_at}
use Rattle.behaviour_semantics.proofs.SolvedValues.{equal_labels_then}
use Rattle.behaviour_semantics.proofs.SolvingAnyDraft.{solving_any}
use Rattle.behaviour_semantics.proofs.DraftFineness.{FineDraft, fine_draft, meets_leaves, leaves_meets, label_by_number}
use Rattle.behaviour_semantics.proofs.menus.solving_keeps_the_values.Goals as goal

pub returns : goal.returns
returns c = record {
  outcome = λ data_ canon specification b over shape draft e.
      let f : FineDraft data_ draft = fine_draft data_ canon specification b over shape draft e in
      let o = solving_any.outcome data_ canon draft over.is_canon f.order in
      (o.0, o.1);
  nothing = λ data_ canon specification b over shape draft e solves leaves meets.
      let f : FineDraft data_ draft = fine_draft data_ canon specification b over shape draft e in
      solving_any.nothing data_ canon draft leaves over.is_canon f.order solves (meets_leaves data_ draft f leaves meets);
  sound = λ data_ canon specification b over shape draft entry e solves values meets.
      let f : FineDraft data_ draft = fine_draft data_ canon specification b over shape draft e in
      let s : LeavesMeet data_ draft (derivation_at entry values).leaves
      × EqualLabels data_ (label_at entry values) (label_from draft (derivation_at entry values).leaves) =
      solving_any.sound data_ canon draft entry values over.is_canon f.order solves meets in
      (leaves_meets data_ draft f _ s.0, equal_labels_then data_ _ _ _ s.1 (label_by_number data_ draft f _ s.0));
  complete = λ data_ canon specification b over shape draft entry e solves leaves meets.
      let f : FineDraft data_ draft = fine_draft data_ canon specification b over shape draft e in
      let given : LeavesMeet data_ draft leaves = meets_leaves data_ draft f leaves meets in
      let c : ValuesFor data_ draft entry leaves = solving_any.complete data_ canon draft entry leaves over.is_canon f.order solves given in
      (c.values, c.meets, c.leaves_equal, equal_labels_then data_ _ _ _ c.labels_equal (label_by_number data_ draft f leaves given));
}
