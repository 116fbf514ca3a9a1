-- Which steps a session can take: a step is refused exactly where there is no lawful item for it, and leads to one place.
use Rattle.std.specs.Prelude.{◌≡◌, ℕ, List, None}
use Rattle.lotos_base.specs.Term.{Term}
use Rattle.lotos_base.specs.Sorting.{IsGroundOf}
use Rattle.behaviour_semantics.specs.Behaviour.{Behaviour}
use Rattle.behaviour_semantics.specs.Label.{Label}
use Rattle.behaviour_semantics.specs.WellFormed.{Every}
use Rattle.session_histories.specs.Session.{SessionBasis, Item, Situation, Progress}
use Rattle.session_histories.specs.Refusal.{step_refusal}
use Rattle.session_histories.specs.Lawful.{IsSituation, IsLawfulItem, HasStepped}
use Rattle.session_histories.specs.SessionLaws.{IsStateOver}

-- The terms are ground terms of the signature.
abbrev pub AreGroundTerms : SessionBasis → List Term → Type 0
AreGroundTerms basis values = Every (λ (v : Term). (sort : ℕ) × IsGroundOf basis.data_.signature sort v) values

-- A lawful item with this number and these values, and where it leads.
pub record HasItem (basis : SessionBasis) (before : Situation) (number : ℕ) (values : List Term) : Type 0 where
  pub item : Item
  pub next : Behaviour
  pub numbered : item.number ≡ number
  pub valued : item.values ≡ values
  pub lawful : IsLawfulItem basis before item next

pub record StepsAreExact : Type 0 where
  -- a step that is not refused has a lawful item
  pub taken :
      (basis : SessionBasis) (before : Situation) (number : ℕ) (values : List Term) →
      IsStateOver basis before.state →
      IsSituation basis before →
      AreGroundTerms basis values →
      step_refusal basis before.menu number values ≡ None →
      HasItem basis before number values
  -- a step that has one is not refused
  pub not_refused :
      (basis : SessionBasis) (before : Situation) (item : Item) (next : Behaviour) →
      IsStateOver basis before.state →
      IsSituation basis before →
      IsLawfulItem basis before item next →
      step_refusal basis before.menu item.number item.values ≡ None
  -- a step leads to one session at most, with one label
  pub once :
      (basis : SessionBasis) (old new other : Progress) (number : ℕ) (values : List Term) (label another : Label) →
      HasStepped basis old number values label new →
      HasStepped basis old number values another other →
      (new ≡ other) × (label ≡ another)
