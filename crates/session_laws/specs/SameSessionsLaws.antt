-- What sessions over the same obey: the very same situations, items and steps are lawful in both. Each clause holds the other way
-- round too, since such bases are the same the other way round.
use Rattle.std.specs.Prelude.{ℕ, List}
use Rattle.lotos_base.specs.Term.{Term}
use Rattle.behaviour_semantics.specs.Behaviour.{Behaviour}
use Rattle.behaviour_semantics.specs.Label.{Label}
use Rattle.session_histories.specs.Session.{SessionBasis, Item, Situation, PastStep, Progress}
use Rattle.session_histories.specs.Lawful.{IsSituation, IsLawfulItem, LeadTo, IsLawful, HasStepped}
use Rattle.session_histories.specs.SessionLaws.{IsStateOver}
use Rattle.session_laws.specs.SameBases.{AreSameBases}

pub record SessionsOverTheSameAgree : Type 0 where
  pub mutual_bases : (basis other : SessionBasis) → AreSameBases basis other → AreSameBases other basis
  -- a state is closed and well formed over both, which have the canon
  pub states :
      (basis other : SessionBasis) (state : Behaviour) →
      AreSameBases basis other →
      IsStateOver basis state →
      IsStateOver other state
  -- a menu is the exact one of its state
  pub situations :
      (basis other : SessionBasis) (situation : Situation) →
      AreSameBases basis other →
      IsSituation basis situation →
      IsSituation other situation
  -- an item is lawful and leads to the same state
  pub items :
      (basis other : SessionBasis) (before : Situation) (item : Item) (next : Behaviour) →
      AreSameBases basis other →
      IsLawfulItem basis before item next →
      IsLawfulItem other before item next
  -- steps lead to the same situation
  pub steps :
      (basis other : SessionBasis) (first last : Situation) (steps : List PastStep) →
      AreSameBases basis other →
      LeadTo basis first steps last →
      LeadTo other first steps last
  -- a session is lawful
  pub lawful :
      (basis other : SessionBasis) (progress : Progress) →
      AreSameBases basis other →
      IsLawful basis progress →
      IsLawful other progress
  -- a step by the same entry with the same values has the same label and leads to the same progress, with the same menu
  pub stepped :
      (basis other : SessionBasis) (old new : Progress) (number : ℕ) (values : List Term) (label : Label) →
      AreSameBases basis other →
      HasStepped basis old number values label new →
      HasStepped other old number values label new
