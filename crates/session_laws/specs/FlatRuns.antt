-- What flattening prints is a text that stands for the same as the specification that was flattened, is accepted with the same order
-- file wherever that is accepted, and runs alike.
use Rattle.std.specs.Prelude.{◌≡◌, ◌≤◌, ℕ, List, Option, Some, length}
use Rattle.lotos_base.specs.Limits.{text_limit}
use Rattle.lotos_base.specs.Outside.{Texts}
use Rattle.flat_text.specs.FlatText.{flat_text}
use Rattle.lotos_top.specs.Flattening.{flat_printed}
use Rattle.lotos_top.specs.HandedOn.{Beginning, Acceptance, Founded, IsFounded, ComesOfPart, ComesOver, asked_acceptance, Comes, goes_on, stops, Refused, check, session, flattening, Print, Finish, prints, serves}
use Rattle.lotos_top.specs.Settled.{WorkOver}
use Rattle.session_laws.specs.Alike.{AreFoundedAlike, AreAcceptedAlike, BeginAlike}
use Rattle.session_laws.specs.AlikeLaws.{FoundedOver}
use Rattle.session_laws.specs.ReadBack.{IsReadBack}

-- Where a specification is accepted, up to the book of its data, its flat text stands for the same, if it is no longer than texts
-- may be.
abbrev pub FlattenedTextsStandForTheSame : Type 0
FlattenedTextsStandForTheSame = (texts : Texts) (spec : List ℕ) (order : Option (List ℕ)) (founded : Founded)
    → FoundedOver texts spec order founded
    → length (flat_text founded.data_ founded.spec) ≤ text_limit
    → IsReadBack founded (flat_text founded.data_ founded.spec)

-- Texts of a shelf have this text under this name, and the same order file as the first texts, if one is asked for.
pub record HasTextOfName (texts others : Texts) (name : List ℕ) (order : Option (List ℕ)) (text : List ℕ) : Type 0 where
  pub there : others name ≡ Some text
  pub same_order : (file : List ℕ) → order ≡ Some file → others file ≡ texts file

-- What comes of a text under its name, over the other texts, is what came of the specification that was flattened, over the first ones.
-- Nothing is said here of want of memory: where it is wanted, nothing comes.
pub record ComesAlike (texts others : Texts) (spec name : List ℕ) (order : Option (List ℕ)) (founded : Founded) : Type 0 where
  -- it is accepted with the order file, with the same data, specification and order
  pub founds :
      (comes : Comes Refused Founded) →
      ComesOfPart others (IsFounded name order) comes →
      (other : Founded) × (comes ≡ goes_on other) × AreFoundedAlike founded other
  -- with the words with which the first was accepted as start values, and the same values
  pub accepts :
      (values : List (List ℕ)) (acceptance : Acceptance) (comes : Comes Refused Acceptance) →
      ComesOver texts (asked_acceptance spec order values) (goes_on acceptance) →
      ComesOver others (asked_acceptance name order values) comes →
      (other : Acceptance) × (comes ≡ goes_on other) × AreAcceptedAlike acceptance other
  -- and it is refused for the same with those with which the first was refused
  pub refuses :
      (values : List (List ℕ)) (told : Refused) (comes : Comes Refused Acceptance) →
      ComesOver texts (asked_acceptance spec order values) (stops told) →
      ComesOver others (asked_acceptance name order values) comes →
      (other : Refused) × (comes ≡ stops other) × (told.refusal ≡ other.refusal)
  -- a run of `check` does the very same: it prints the same report
  pub checks :
      (values : List (List ℕ)) (report : Print) (comes : Comes Print Finish) →
      WorkOver texts (Some (check (asked_acceptance spec order values))) (goes_on (prints report)) →
      WorkOver others (Some (check (asked_acceptance name order values))) comes →
      comes ≡ goes_on (prints report)
  -- and one of `run` serves a session that begins alike, so that the same steps are lawful in both, with the same menus and labels
  pub runs :
      (values : List (List ℕ)) (begun : Beginning) (comes : Comes Print Finish) →
      WorkOver texts (Some (session (asked_acceptance spec order values))) (goes_on (serves begun)) →
      WorkOver others (Some (session (asked_acceptance name order values))) comes →
      (other : Beginning) × (comes ≡ goes_on (serves other)) × BeginAlike begun other

-- What a run prints that flattens a specification, with an order file or without one, is the flat text of what is accepted; and where
-- this text is no longer than texts may be, and stands under a name on whichever shelf, with the same order file, all comes alike.
pub record FlattenedRunsAlike (texts : Texts) (spec : List ℕ) (order : Option (List ℕ)) (report : Print) : Type 0 where
  pub founded : Founded
  pub over : FoundedOver texts spec order founded
  pub is_flat : report ≡ flat_printed founded
  pub again :
      length report.text ≤ text_limit →
      (others : Texts) (name : List ℕ) →
      HasTextOfName texts others name order report.text →
      ComesAlike texts others spec name order founded

abbrev pub FlatTextsRunAlike : Type 0
FlatTextsRunAlike = (texts : Texts) (spec : List ℕ) (order : Option (List ℕ)) (report : Print)
    → WorkOver texts (Some (flattening spec order)) (goes_on (prints report))
    → FlattenedRunsAlike texts spec order report
