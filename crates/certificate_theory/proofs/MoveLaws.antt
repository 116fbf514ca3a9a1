-- The laws of moves that the lemmas use.
use Rattle.behaviour_semantics.specs.TransitionLaws.{TransitionsAreDerived, MovesAreDetermined}
use Rattle.behaviour_semantics.specs.InstanceLaws.{DraftsAreDerivations}
use Rattle.behaviour_semantics.specs.SolvingLaws.{EntriesAreSolved}
use Rattle.behaviour_semantics.specs.TargetLaws.{TargetsAreWellFormed}
use Rattle.behaviour_semantics.specs.OrderLaws.{AtMostOneMenuIsExact}

pub record MoveLaws : Type 0 where
  pub derived : TransitionsAreDerived
  pub determined : MovesAreDetermined
  pub drafts : DraftsAreDerivations
  pub solved : EntriesAreSolved
  pub targets : TargetsAreWellFormed
  pub one_menu : AtMostOneMenuIsExact
