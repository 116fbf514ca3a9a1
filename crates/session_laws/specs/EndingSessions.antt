-- How the sessions of an accepted specification end: as it declares, or never.
use Rattle.std.specs.Prelude.{List}
use Rattle.lotos_base.specs.Term.{Term}
use Rattle.behaviour_semantics.specs.Behaviour.{Behaviour}
use Rattle.behaviour_semantics.specs.Label.{exit_event}
use Rattle.behaviour_semantics.specs.Transition.{Transition}
use Rattle.session_laws.specs.HasFunctionality.{EndsWithin}
use Rattle.session_laws.specs.ExitLaws.{EndsWith}
use Rattle.lotos_top.specs.HandedOn.{Beginning, Standing, IsReached, Asked, Acceptance, IsAccepted, goes_on, GotFile}
use Rattle.lotos_top.specs.Opening.{SessionBegins}

-- Where the session stands, the state has the functionality that the specification declares, or `noexit`; and each termination that
-- the rules derive has values of the declared sorts. So where `noexit` is declared there is none.
pub record EndsAsDeclared (acceptance : Acceptance) (standing : Standing) : Type 0 where
  pub functionality :
      EndsWithin acceptance.data_.signature acceptance.spec.processes standing.progress.situation.state acceptance.spec.exit
  pub ends :
      (values : List Term) (target : Behaviour) →
      Transition acceptance.data_ acceptance.spec.processes standing.progress.situation.state (exit_event values) target →
      EndsWith acceptance.data_.signature acceptance.spec.exit values

-- it is so in every state that a session of an accepted specification reaches
abbrev pub SessionsEndAsDeclared : Type 0
SessionsEndAsDeclared = (asked : Asked) (files : List GotFile) (acceptance : Acceptance) (begun : Beginning) (standing : Standing)
    → IsAccepted asked files (goes_on acceptance)
    → SessionBegins acceptance begun
    → IsReached begun standing
    → EndsAsDeclared acceptance standing
