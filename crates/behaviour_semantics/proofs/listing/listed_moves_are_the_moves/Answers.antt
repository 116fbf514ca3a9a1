use Rattle.std.proofs.Common.{◌≡◌, Some, subst}
use Rattle.behaviour_semantics.specs.Move.{move_of}
use Rattle.behaviour_semantics.specs.Listing.{ShapedMove}
use Rattle.behaviour_semantics.proofs.ListLemmas.{EachOf, Within, Every-among}
use Rattle.behaviour_semantics.proofs.ListingLemmas.{listed}
use Rattle.behaviour_semantics.proofs.ListingSoundness.{are_moves}
use Rattle.behaviour_semantics.proofs.ListingOrder.{shapes_rise}
use Rattle.behaviour_semantics.proofs.ListedOnce.{one_list}
use Rattle.behaviour_semantics.proofs.listing.listed_moves_are_the_moves.Goals as goal

pub returns : goal.returns
returns c = record {
  sound = λ setting leaves depth next b moves e x among.
      Every-among (λ (y : ShapedMove). move_of setting leaves y.shape next b ≡ Some y.move) moves x
      (subst (EachOf (λ (y : ShapedMove). move_of setting leaves y.shape next b ≡ Some y.move)) e (are_moves setting leaves depth next b))
      among;
  complete = λ setting leaves depth next b moves e x is.
      subst (Within x) e (listed setting leaves depth x.shape next b x.move is);
  rising = shapes_rise;
  determined = λ setting leaves depth other next b. one_list setting leaves next b depth other;
}
