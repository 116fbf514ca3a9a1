use Rattle.behaviour_semantics.proofs.RaisedDrafts.{later_variable, later_leaf, same_drafts}
use Rattle.behaviour_semantics.proofs.RaisedInside.{later_leaf_inside}
use Rattle.behaviour_semantics.proofs.JoinedDrafts.{joined_drafts}
use Rattle.behaviour_semantics.proofs.numbering.numbering_makes_no_difference.Goals as goal

pub returns : goal.returns
returns c = record {
  from_a_later_variable = later_variable;
  from_a_later_leaf = later_leaf;
  inside = later_leaf_inside;
  drafts = same_drafts;
  both = joined_drafts;
}
