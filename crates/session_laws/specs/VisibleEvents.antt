-- The events that a session shows are at gates that its specification declares, and these have distinct names.
use Rattle.std.specs.Prelude.{List}
use Rattle.behaviour_semantics.specs.Behaviour.{Behaviour}
use Rattle.behaviour_semantics.specs.Label.{Label}
use Rattle.behaviour_semantics.specs.Transition.{Transition}
use Rattle.behaviour_semantics.specs.Solving.{Entry}
use Rattle.behaviour_semantics.specs.Menu.{IsEntry}
use Rattle.declaration_laws.specs.VisibleGates.{IsOneOf, IsAt}
use Rattle.declaration_laws.specs.DeclaredGates.{HasDistinctGates}
use Rattle.lotos_top.specs.HandedOn.{Beginning, Standing, IsReached, Asked, Acceptance, IsAccepted, goes_on, GotFile}
use Rattle.lotos_top.specs.Opening.{SessionBegins}

-- Where the session stands, each transition is the inner event, a termination, or at a gate that the specification declares; and so
-- is each entry of the menu, whether it has an instance or not. No two of these gates have one name, so that a printed name tells
-- the gate.
pub record ShowsDeclaredGates (acceptance : Acceptance) (standing : Standing) : Type 0 where
  pub transitions :
      (label : Label) (target : Behaviour) →
      Transition acceptance.data_ acceptance.spec.processes standing.progress.situation.state label target →
      IsAt (IsOneOf acceptance.spec.gates) label
  pub entries :
      (entry : Entry) →
      IsEntry standing.progress.situation.menu entry →
      IsAt (IsOneOf acceptance.spec.gates) entry.label
  pub names : HasDistinctGates acceptance.spec

-- it is so in every state that a session of an accepted specification reaches
abbrev pub SessionsShowDeclaredGates : Type 0
SessionsShowDeclaredGates = (asked : Asked) (files : List GotFile) (acceptance : Acceptance) (begun : Beginning) (standing : Standing)
    → IsAccepted asked files (goes_on acceptance)
    → SessionBegins acceptance begun
    → IsReached begun standing
    → ShowsDeclaredGates acceptance standing
