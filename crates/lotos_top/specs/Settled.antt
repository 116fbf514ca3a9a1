-- Over texts that a shelf tells a run does what comes of its work over them.
use Rattle.std.specs.Prelude.{◌≡◌, ◌⊎◌, ℕ, List, Option, Some}
use Rattle.lotos_base.specs.Counts.{Rises}
use Rattle.lotos_base.specs.Outside.{Texts}
use Rattle.certificate_verbs.specs.HandedOn.{ShelfState, Refused, Asked, Acceptance, ComesOfPart, ComesOver, Comes, goes_on, unread, stops}
use Rattle.certificate_verbs.specs.HandedOn.{Beginning, CommandLine, Compared, check, session, flattening, bisimilarity, Induced, induction}
use Rattle.certificate_verbs.specs.Comparing.{IsOneCheck}
use Rattle.certificate_verbs.specs.Inducing.{IsOneInduction}
use Rattle.certificate_verbs.specs.Finishing.{Print, print, Finish, prints, serves, refusal_printed}
use Rattle.certificate_verbs.specs.declared.ended.Ended.{Ended}
use Rattle.certificate_verbs.specs.declared.ended.Ended.TheVariants.{Done, NoMemory}
use Rattle.lotos_top.specs.Flattening.{IsByFounding}
use Rattle.lotos_top.specs.Opening.{SessionBegins, opening_text}
use Rattle.lotos_top.specs.Run.{Streams, FollowsFromWork}
use Rattle.lotos_top.specs.Work.{work_of}

-- this comes of the work of the line over these texts, where memory is there
abbrev pub WorkOver : Texts → Option CommandLine → Comes Print Finish → Type 0
WorkOver texts line comes = ComesOfPart texts (work_of line) comes

-- what is done for an accepted specification, by the line
abbrev pub IsFinishFor : Option CommandLine → Asked → Beginning → Finish → Type 0
IsFinishFor (Some (check one)) asked begun finish = (one ≡ asked) × (finish ≡ prints (print (opening_text begun) Done))
IsFinishFor (Some (session one)) asked begun finish = (one ≡ asked) × (finish ≡ serves begun)
IsFinishFor line asked begun finish = ⊥

-- What comes of the work by what comes of the acceptance of what is asked for: an accepted specification is answered by the head of
-- its report and the first menu, or by its session; a file that could not be got and a first fault by their lines.
abbrev pub IsByAcceptance : Option CommandLine → Asked → Comes Refused Acceptance → Comes Print Finish → Type 0
IsByAcceptance line asked (goes_on acceptance) (goes_on finish) =
    (begun : Beginning) × SessionBegins acceptance begun × IsFinishFor line asked begun finish
IsByAcceptance line asked (unread name) (unread other) = other ≡ name
IsByAcceptance line asked (stops r) (stops p) = p ≡ refusal_printed asked.spec asked.order r
IsByAcceptance line asked comes other = ⊥

-- the line asks for this specification
abbrev pub AsksFor : Option CommandLine → Asked → Type 0
AsksFor (Some (check one)) asked = one ≡ asked
AsksFor (Some (session one)) asked = one ≡ asked
AsksFor line asked = ⊥

-- The run did what comes of the work over these texts, which are still there between the work and what follows from it. Where a
-- specification is asked for, that is by the one thing that comes of its acceptance over them; where it is flattened, by the one
-- thing that comes of it up to the book of its data; and one thing comes of each certificate that is checked.
pub record DoesWorkOver (texts : Texts) (line : Option CommandLine) (shelf_after : ShelfState) (before after : Streams) (answer : Ended)
    : Type 0 where
  pub comes : Comes Print Finish
  pub work : WorkOver texts line comes
  pub by_acceptance :
      (asked : Asked) (outcome : Comes Refused Acceptance) → AsksFor line asked → ComesOver texts asked outcome
      → IsByAcceptance line asked outcome comes
  pub by_founding : (spec : List ℕ) (order : Option (List ℕ)) → line ≡ Some (flattening spec order) → IsByFounding texts spec order comes
  pub by_certificate : (c : Compared) → line ≡ Some (bisimilarity c) → IsOneCheck texts c comes
  pub by_induction : (i : Induced) → line ≡ Some (induction i) → IsOneInduction texts i comes
  pub between : ShelfState
  pub texts_between : between.texts ≡ Some texts
  pub follows : FollowsFromWork comes between shelf_after before after answer

-- Where the shelf tells its texts and counts no fault, the run did what comes of the work over these texts; or memory was wanted.
abbrev pub IsSettled : Option CommandLine → (shelf shelf_after : ShelfState) → (before after : Streams) → Ended → Type 0
IsSettled line shelf shelf_after before after answer =
    (texts : Texts) → shelf.texts ≡ Some texts → ¬ Rises shelf.faults shelf_after.faults
    → (answer ≡ NoMemory) ⊎ DoesWorkOver texts line shelf_after before after answer
