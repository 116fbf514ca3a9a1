use Rattle.behaviour_semantics.specs.Rule.{as_given}
use Rattle.behaviour_semantics.proofs.RelatedTerms.{canon_represents, given_represents}
use Rattle.behaviour_semantics.proofs.EqualLeaves.{like_move}
use Rattle.behaviour_semantics.proofs.instances.equal_leaves_give_like_moves.Goals as goal

pub returns : goal.returns
returns c = record {
  kept_from_derived = λ data_ canon specification b over. like_move data_ canon as_given canon specification b over
      (given_represents data_) (canon_represents data_ canon over.is_canon);
  derived_from_kept = λ data_ canon specification b over. like_move data_ canon canon as_given specification b over
      (canon_represents data_ canon over.is_canon) (given_represents data_);
  derived = λ data_ canon specification b over. like_move data_ canon as_given as_given specification b over (given_represents data_)
      (given_represents data_);
  kept = λ data_ canon specification b over. like_move data_ canon canon canon specification b over
      (canon_represents data_ canon over.is_canon) (canon_represents data_ canon over.is_canon);
}
