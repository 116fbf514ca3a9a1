-- Which states a session reaches.
use Rattle.std.specs.Prelude.{◌≡◌, List}
use Rattle.behaviour_semantics.specs.Alike.{Alike}
use Rattle.behaviour_semantics.specs.Behaviour.{Behaviour}
use Rattle.behaviour_semantics.specs.Menu.{Exact}
use Rattle.behaviour_semantics.specs.Rule.{as_given}
use Rattle.behaviour_semantics.specs.Solving.{Entry}
use Rattle.session_log.specs.HandedOn.{SessionBasis, Situation, first_situation, IsLawful, IsSituation, LeadsBy}
use Rattle.history_lines.specs.Standing.{Standing}
use Rattle.history_lines.specs.Beginning.{Beginning}

-- The menu is the one list that is exact for the state.
pub record HasOneExactMenu (basis : SessionBasis) (situation : Situation) : Type 0 where
  pub exact : IsSituation basis situation
  pub one :
      (entries : List Entry) →
      Exact basis.data_ basis.canon basis.specification.processes situation.state entries →
      entries ≡ situation.menu

-- The derivations of the steps, taken by the rules of the standard with values as they are given, reach a behaviour that is
-- alike the state.
pub record IsDerivedStanding (begun : Beginning) (standing : Standing) : Type 0 where
  pub other : Behaviour
  pub reached : LeadsBy begun.basis as_given begun.progress.situation.state standing.progress.steps other
  pub alike : Alike begun.basis.data_ standing.progress.situation.state other

-- The session stands where lawful steps lead from its beginning, so that its state is the one that the rules derive, with the one
-- exact menu of it.
pub record IsReached (begun : Beginning) (standing : Standing) : Type 0 where
  pub basis : standing.basis ≡ begun.basis
  pub start : first_situation standing.progress ≡ begun.progress.situation
  pub lawful : IsLawful begun.basis standing.progress
  pub menu : HasOneExactMenu begun.basis standing.progress.situation
  pub derived : IsDerivedStanding begun standing
