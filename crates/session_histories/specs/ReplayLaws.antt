-- What replay obeys.
use Rattle.std.specs.Prelude.{◌≡◌, ℕ, List}
use Rattle.session_histories.specs.Session.{SessionBasis, Situation, Progress, first_situation}
use Rattle.session_histories.specs.Lawful.{IsSituation, IsLawful}
use Rattle.session_histories.specs.Replay.{LinesOutcome, ReplayRefusal, goes_on, ReplayIs}
use Rattle.session_histories.specs.SessionLaws.{IsStateOver}

-- A trace comes to one thing at most, and where it is replayed, to a lawful session from the same situation on.
pub record ReplayIsExact : Type 0 where
  pub once :
      (basis : SessionBasis) (first : Situation) (text : List ℕ) (one other : LinesOutcome ReplayRefusal) →
      IsStateOver basis first.state →
      IsSituation basis first →
      ReplayIs basis first text one →
      ReplayIs basis first text other →
      one ≡ other
  pub lawful :
      (basis : SessionBasis) (first : Situation) (text : List ℕ) (new : Progress) →
      IsSituation basis first →
      ReplayIs basis first text (goes_on new) →
      IsLawful basis new × (first_situation new ≡ first)
