-- What the tables of a draft that is being solved tell.
use Rattle.std.specs.Prelude.{◌≡◌, length}
use Rattle.lotos_base.specs.Equation.{Data}
use Rattle.lotos_base.specs.Term.{Term}
use Rattle.event_offers.specs.OfferView.{condition_profiles, plain_draft}
use Rattle.event_offers.specs.Offers.{AreConditionsOf}
use Rattle.draft_solving.specs.Conditions.{AreOpen, GiveNoneBefore}
use Rattle.draft_solving.specs.OnTheWay.{IsNamedWay}
use Rattle.draft_solving.specs.Putting.{tests_in}
use Rattle.draft_solving.specs.Standing.{AreAllNoted, room}
use Rattle.draft_solving.specs.declared.putting.Work.{Work}

-- The draft is on the way, and the tables tell what they are to tell.
pub record IsUnderWay (data_ : Data) (canon : Term → Term) (work : Work) : Type 0 where
  pub named : IsNamedWay data_ canon (plain_draft work.draft) work.names.items (tests_in work)
  pub is_of : AreConditionsOf data_.signature (condition_profiles work.spread.items)
  pub size : length work.names.items ≡ length work.draft.leaves.items
  pub same_room : room work.places ≡ length work.names.items
  pub noted : AreAllNoted work.places (tests_in work)
  pub open_still : AreOpen (tests_in work)
  pub passed : GiveNoneBefore work.next (tests_in work)
