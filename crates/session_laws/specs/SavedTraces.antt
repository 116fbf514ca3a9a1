-- A trace that is saved in a session is replayed to that session, in the same run or in a later one.
use Rattle.std.specs.Prelude.{◌≡◌, ℕ, ◌<◌, false, List, Option, Some}
use Rattle.lotos_base.specs.Counts.{last_count}
use Rattle.lotos_base.specs.Outside.{Texts}
use Rattle.line_server.specs.Answered as served
use Rattle.line_server.specs.Machine.{Reply}
use Rattle.line_server.specs.Request.{save, replay, request_of}
use Rattle.session_histories.specs.Session.{Progress}
use Rattle.lotos_top.specs.HandedOn.{SessionPoint, point, LineIs, history_machine, saved_text, replayed_text, Beginning, standing_at, Asked, Acceptance, IsAccepted, goes_on, GotFile}
use Rattle.lotos_top.specs.Opening.{SessionBegins}

-- The session that began so stands there, behind lines that were answered beside some shelf. The shelf may have counted faults on
-- the way, and lines may have been refused.
pub record SessionComesTo (begun : Beginning) (now : SessionPoint) : Type 0 where
  pub texts : Option Texts
  pub faults : ℕ
  pub calls : ℕ
  pub lines : List (List ℕ)
  pub text : List ℕ
  pub answered : served.Answered history_machine (point (standing_at begun texts) faults calls) lines text now false

-- The next line saves the trace of the session under the name: it is answered by `saved`, beside a shelf that tells its texts and
-- has these afterwards.
pub record Saves (begun : Beginning) (name : List ℕ) (progress : Progress) (after : Texts) : Type 0 where
  pub now : SessionPoint
  pub comes_to : SessionComesTo begun now
  pub progress_is : now.standing.progress ≡ progress
  pub before : Texts
  pub tells : now.standing.texts ≡ Some before
  pub line : List ℕ
  pub reply : Reply SessionPoint
  pub asks : request_of line ≡ save name
  pub comes : LineIs now line reply
  pub says : reply.text ≡ saved_text name
  pub leaves : reply.next.standing.texts ≡ Some after

-- The next line replays the text with the name, beside a shelf that tells these texts and counts no fault at it.
pub record Replays (begun : Beginning) (name : List ℕ) (told : Texts) (reply : Reply SessionPoint) : Type 0 where
  pub now : SessionPoint
  pub comes_to : SessionComesTo begun now
  pub tells : now.standing.texts ≡ Some told
  pub line : List ℕ
  pub asks : request_of line ≡ replay name
  pub comes : LineIs now line reply
  pub below : now.faults < last_count
  pub steady : reply.next.faults ≡ now.faults

-- It is answered by the number of the steps and the menu of the saved session, which stands there with its state, its menu and its
-- history; and it does not end the session.
pub record ReplaysTo (begun : Beginning) (progress : Progress) (reply : Reply SessionPoint) : Type 0 where
  pub session : reply.next.standing.progress ≡ progress
  pub text : reply.text ≡ replayed_text begun.basis progress
  pub stays : reply.quits ≡ false

-- Both sessions are of one accepted specification: of two runs, or of one. The text that was saved stands still under the name.
pub record SavedTracesAreReplayed : Type 0 where
  pub replayed :
      (asked : Asked) (files : List GotFile) (acceptance : Acceptance) (saving replaying : Beginning)
      (name : List ℕ) (progress : Progress) (saved told : Texts) (reply : Reply SessionPoint) →
      IsAccepted asked files (goes_on acceptance) →
      SessionBegins acceptance saving →
      SessionBegins acceptance replaying →
      Saves saving name progress saved →
      told name ≡ saved name →
      Replays replaying name told reply →
      ReplaysTo saving progress reply
