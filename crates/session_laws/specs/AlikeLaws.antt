-- A text that stands for the same as an accepted specification is accepted too, and what is accepted alike runs alike.
use Rattle.std.specs.Prelude.{◌≡◌, ℕ, List, Option, Some}
use Rattle.lotos_base.specs.Outside.{Texts}
use Rattle.lotos_top.specs.HandedOn.{Beginning, Acceptance, Founded, IsFounded, ComesOfPart, ComesOver, asked_acceptance, Comes, goes_on, stops, Refused, check, session, Print, prints, serves}
use Rattle.lotos_top.specs.Work.{work_of}
use Rattle.session_laws.specs.ReadBack.{IsReadBack, IsGotUnder}
use Rattle.session_laws.specs.Alike.{AreFoundedAlike, AreAcceptedAlike, BeginAlike}

-- this comes of the specification with the order file up to the book of its data
abbrev pub FoundedOver : Texts → (spec : List ℕ) (order : Option (List ℕ)) → Founded → Type 0
FoundedOver texts spec order founded = ComesOfPart texts (IsFounded spec order) (goes_on founded)

-- Where a specification is accepted with an order file, and a text stands for the same, whatever comes of that text with that order
-- file is an acceptance that is alike, up to the book of its data.
abbrev pub TextsReadBackAreAccepted : Type 0
TextsReadBackAreAccepted = (texts others : Texts) (spec again : List ℕ) (order : Option (List ℕ)) (founded : Founded) (text : List ℕ)
    (comes : Comes Refused Founded)
    → FoundedOver texts spec order founded
    → IsGotUnder texts others again order text
    → IsReadBack founded text
    → ComesOfPart others (IsFounded again order) comes
    → (other : Founded) × (comes ≡ goes_on other) × AreFoundedAlike founded other

-- Two specifications are accepted alike, each over its texts and under its name.
pub record RunAlike (texts others : Texts) (spec again : List ℕ) (order other_order : Option (List ℕ)) : Type 0 where
  -- with words as start values the one is accepted where the other is, and the words have the same values
  pub acceptances :
      (values : List (List ℕ)) (acceptance : Acceptance) →
      ComesOver texts (asked_acceptance spec order values) (goes_on acceptance) →
      (other : Acceptance) × ComesOver others (asked_acceptance again other_order values) (goes_on other)
      × AreAcceptedAlike acceptance other
  -- and where words are refused as start values of the one, they are refused for the same as those of the other
  pub refusals :
      (values : List (List ℕ)) (told : Refused) →
      ComesOver texts (asked_acceptance spec order values) (stops told) →
      (other : Refused) × ComesOver others (asked_acceptance again other_order values) (stops other) × (told.refusal ≡ other.refusal)
  -- `check` prints the very same report
  pub reports :
      (values : List (List ℕ)) (report : Print) →
      ComesOfPart texts (work_of (Some (check (asked_acceptance spec order values)))) (goes_on (prints report)) →
      ComesOfPart others (work_of (Some (check (asked_acceptance again other_order values)))) (goes_on (prints report))
  -- and the sessions that `run` serves begin alike
  pub sessions :
      (values : List (List ℕ)) (begun : Beginning) →
      ComesOfPart texts (work_of (Some (session (asked_acceptance spec order values)))) (goes_on (serves begun)) →
      (other : Beginning) × ComesOfPart others (work_of (Some (session (asked_acceptance again other_order values))))
      (goes_on (serves other))
      × BeginAlike begun other

-- It is so, both ways, where what is known up to the book is alike.
abbrev pub WhatIsFoundedAlikeRunsAlike : Type 0
WhatIsFoundedAlikeRunsAlike = (texts others : Texts) (spec again : List ℕ) (order other_order : Option (List ℕ)) (founded other : Founded)
    → FoundedOver texts spec order founded
    → FoundedOver others again other_order other
    → AreFoundedAlike founded other
    → RunAlike texts others spec again order other_order × RunAlike others texts again spec other_order order
