-- What lawful sessions obey.
use Rattle.std.specs.Prelude.{◌≡◌, ℕ, List, length, ◌+◌}
use Rattle.lotos_base.specs.Term.{Term}
use Rattle.behaviour_semantics.specs.Alike.{Alike}
use Rattle.behaviour_semantics.specs.Behaviour.{Behaviour}
use Rattle.behaviour_semantics.specs.Label.{Label}
use Rattle.behaviour_semantics.specs.Rule.{as_given}
use Rattle.behaviour_semantics.specs.Run.{Reaches}
use Rattle.behaviour_semantics.specs.WellFormed.{AreOver}
use Rattle.session_histories.specs.Session.{SessionBasis, Situation, PastStep, Progress, opened_progress, first_situation, derivations_of, HasUndone}
use Rattle.session_histories.specs.Lawful.{IsSituation, IsLawful, LeadTo, HasStepped}

-- The state is closed and well formed over the specification, and the data have a canon.
abbrev pub IsStateOver : SessionBasis → Behaviour → Type 0
IsStateOver basis state = AreOver basis.data_ basis.canon basis.specification state

-- The derivations lead from one state to the other, with values represented by these terms on the way.
abbrev pub LeadsBy : SessionBasis → (Term → Term) → Behaviour → List PastStep → Behaviour → Type 0
LeadsBy basis represent first steps last =
    Reaches basis.data_ represent basis.specification.processes first (derivations_of steps) last

-- A session goes where its derivations go.
pub record SessionsFollowDerivations : Type 0 where
  -- its last state is the one that the derivations reach with canonical values
  pub kept :
      (basis : SessionBasis) (first last : Situation) (steps : List PastStep) →
      LeadTo basis first steps last →
      LeadsBy basis basis.canon first.state steps last.state
  -- and it is alike one that they reach by the rules, with values as they are given
  pub derived :
      (basis : SessionBasis) (first last : Situation) (steps : List PastStep) →
      IsStateOver basis first.state →
      LeadTo basis first steps last →
      (other : Behaviour) × LeadsBy basis as_given first.state steps other × Alike basis.data_ last.state other
  -- it is closed and well formed again
  pub over :
      (basis : SessionBasis) (first last : Situation) (steps : List PastStep) →
      IsStateOver basis first.state →
      LeadTo basis first steps last →
      IsStateOver basis last.state

-- Two sessions stand at the same first situation.
abbrev pub HaveOneStart : Progress → Progress → Type 0
HaveOneStart old new = first_situation new ≡ first_situation old

-- Steps and undo keep a session lawful, and its first situation.
pub record SessionsStayLawful : Type 0 where
  pub at_start : (basis : SessionBasis) (first : Situation) → IsSituation basis first → IsLawful basis (opened_progress first)
  pub stepped :
      (basis : SessionBasis) (old new : Progress) (number : ℕ) (values : List Term) (label : Label) →
      IsLawful basis old →
      HasStepped basis old number values label new →
      IsLawful basis new × HaveOneStart old new
  pub undone :
      (basis : SessionBasis) (old new : Progress) →
      IsLawful basis old →
      HasUndone old new →
      IsLawful basis new × HaveOneStart old new
  -- undo behind a step leads back
  pub back :
      (basis : SessionBasis) (old new last : Progress) (number : ℕ) (values : List Term) (label : Label) →
      HasStepped basis old number values label new →
      HasUndone new last →
      last ≡ old
  -- undo leads to one place at most, and drops one step
  pub once : (old new other : Progress) → HasUndone old new → HasUndone old other → new ≡ other
  pub shorter : (old new : Progress) → HasUndone old new → length new.steps + 1 ≡ length old.steps
