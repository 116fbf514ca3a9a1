-- Lawful sessions: each step was taken by an entry of the menu of its state, and leads where its derivation leads.
use Rattle.std.specs.Prelude.{◌≡◌, ℕ, List, [], ◌∷◌, Some}
use Rattle.lotos_base.specs.Term.{Term}
use Rattle.behaviour_semantics.specs.Behaviour.{Behaviour}
use Rattle.behaviour_semantics.specs.Derives.{DerivesCanonically}
use Rattle.behaviour_semantics.specs.Label.{Label}
use Rattle.behaviour_semantics.specs.Menu.{Exact, Meets}
use Rattle.behaviour_semantics.specs.Solving.{Entry}
use Rattle.printed_texts.specs.HandedOn.{canonical_derivation}
use Rattle.session_histories.specs.Session.{SessionBasis, Item, Situation, PastStep, Progress, first_situation, stepped}
use Rattle.session_histories.specs.Refusal.{entry_numbered}

-- The menu is the exact one of the state.
abbrev pub IsSituation : SessionBasis → Situation → Type 0
IsSituation basis situation =
    Exact basis.data_ basis.canon basis.specification.processes situation.state situation.menu

-- The item is lawful in the situation and leads to the state: the menu has the entry with its number; the values are ground,
-- one for each variable of the entry, of its sort, and meet its conditions; the derivation is the entry's with these values, in
-- canonical form; and it keeps canonical values on its way to the label and the state.
pub record IsLawfulItem (basis : SessionBasis) (before : Situation) (item : Item) (next : Behaviour) : Type 0 where
  pub entry : Entry
  pub listed : entry_numbered before.menu item.number ≡ Some entry
  pub meets : Meets basis.data_ entry item.values
  pub derivation : item.derivation ≡ canonical_derivation basis.canon entry item.values
  pub keeps : DerivesCanonically basis.data_ basis.canon basis.specification.processes before.state item.derivation item.label next

-- The steps lead from the first situation to the last one: each was taken, by a lawful item, where the one before it leads.
abbrev pub LeadTo : SessionBasis → Situation → List PastStep → Situation → Type 0
LeadTo basis first [] last = first ≡ last
LeadTo basis first (step ∷ steps) last =
    (step.before ≡ first) × (next : Situation) × IsLawfulItem basis first step.item next.state × IsSituation basis next
    × LeadTo basis next steps last

-- The session is lawful from this situation on.
pub record IsLawfulFrom (basis : SessionBasis) (first : Situation) (progress : Progress) : Type 0 where
  pub start : IsSituation basis first
  pub steps : LeadTo basis first progress.steps progress.situation

-- The session is lawful: it is so from the oldest situation that it keeps.
abbrev pub IsLawful : SessionBasis → Progress → Type 0
IsLawful basis progress = IsLawfulFrom basis (first_situation progress) progress

-- A step by the entry with this number and these values appends a lawful item with this label.
pub record HasStepped (basis : SessionBasis) (old : Progress) (number : ℕ) (values : List Term) (label : Label) (new : Progress)
    : Type 0 where
  pub item : Item
  pub next : Situation
  pub numbered : item.number ≡ number
  pub valued : item.values ≡ values
  pub labelled : item.label ≡ label
  pub lawful : IsLawfulItem basis old.situation item next.state
  pub menu : IsSituation basis next
  pub appended : new ≡ stepped old item next
