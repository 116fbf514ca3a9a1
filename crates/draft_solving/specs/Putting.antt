-- The conditions of a draft that is being solved.
use Rattle.std.specs.Prelude.{List}
use Rattle.behaviour_semantics.specs.Behaviour.{Test}
use Rattle.event_offers.specs.OfferView.{conditions_of}
use Rattle.draft_solving.specs.declared.putting.Work.{Work}

-- the terms, spread
abbrev pub tests_in : Work → List Test
tests_in work = conditions_of work.spread.items
