-- The very same situations, items and steps are lawful in sessions over the same.
use Rattle.std.proofs.Common.{ℕ, List, [], ◌∷◌, ap, sym, ◌∙◌, subst}
use Rattle.lotos_base.specs.Term.{Term}
use Rattle.behaviour_semantics.specs.Behaviour.{Behaviour}
use Rattle.behaviour_semantics.specs.Derives.{DerivesCanonically}
use Rattle.behaviour_semantics.specs.Label.{Label}
use Rattle.behaviour_semantics.specs.Menu.{Exact}
use Rattle.behaviour_semantics.specs.WellFormed.{AreOver}
use Rattle.certificate_theory.proofs.InterchangeableData.{data_turned}
use Rattle.session_histories.specs.Session.{SessionBasis, Item, Situation, PastStep, Progress, first_situation}
use Rattle.session_histories.specs.Lawful.{IsSituation, IsLawfulItem, LeadTo, IsLawful, HasStepped}
use Rattle.session_histories.specs.SessionLaws.{IsStateOver}
use Rattle.printed_texts.specs.HandedOn.{canonical_derivation}
use Rattle.session_laws.specs.SameBases.{AreSameBases}
use Rattle.session_laws.specs.SameSessionsLaws.{SessionsOverTheSameAgree}
use Rattle.session_laws.proofs.SameMenus.{turned, meets_over, move_over, menu_over}
use Rattle.session_laws.proofs.SameStates.{over_like}

pub bases_turned : (basis other : SessionBasis) → AreSameBases basis other → AreSameBases other basis
bases_turned basis other same = record {
  same_data = data_turned basis.data_ other.data_ same.same_data;
  same_canon = sym same.same_canon;
  same_specification = turned basis.specification other.specification same.same_specification;
}

module _ (basis other : SessionBasis) (same : AreSameBases basis other) where
  state_over : (state : Behaviour) → IsStateOver basis state → IsStateOver other state
  state_over state is =
      subst (λ (canon : Term → Term). AreOver other.data_ canon other.specification state) same.same_canon
      (over_like basis.data_ other.data_ basis.canon basis.specification other.specification state same.same_data
      same.same_specification is)

  situation_over : (situation : Situation) → IsSituation basis situation → IsSituation other situation
  situation_over situation is =
      subst (λ (canon : Term → Term).
      Exact other.data_ canon other.specification.processes situation.state situation.menu) same.same_canon
      (menu_over basis.data_ other.data_ basis.canon basis.specification.processes other.specification.processes situation.state
      situation.menu same.same_data same.same_specification.processes is)

  item_over : (before : Situation) (item : Item) (next : Behaviour) → IsLawfulItem basis before item next
      → IsLawfulItem other before item next
  item_over before item next is = record {
    entry = is.entry;
    listed = is.listed;
    meets = meets_over basis.data_ other.data_ same.same_data is.entry item.values is.meets;
    derivation =
        is.derivation ∙ ap (λ (canon : Term → Term). canonical_derivation canon is.entry item.values) same.same_canon;
    keeps =
        subst (λ (canon : Term → Term).
        DerivesCanonically other.data_ canon other.specification.processes before.state item.derivation item.label next)
        same.same_canon
        (move_over basis.data_ other.data_ same.same_data basis.specification.processes other.specification.processes
        same.same_specification.processes basis.canon before.state item.derivation item.label next is.keeps);
  }

  steps_over : (first last : Situation) (steps : List PastStep) → LeadTo basis first steps last → LeadTo other first steps last
  steps_over first last [] lead = lead
  steps_over first last (step ∷ steps) lead = (
    lead.0,
    lead.1,
    item_over first step.item lead.1.state lead.2,
    situation_over lead.1 lead.3,
    steps_over lead.1 last steps lead.4,
  )

  lawful_over : (progress : Progress) → IsLawful basis progress → IsLawful other progress
  lawful_over progress is = record {
    start = situation_over (first_situation progress) is.start;
    steps = steps_over (first_situation progress) progress.situation progress.steps is.steps;
  }

  stepped_over : (old new : Progress) (number : ℕ) (values : List Term) (label : Label)
      → HasStepped basis old number values label new → HasStepped other old number values label new
  stepped_over old new number values label is = record {
    item = is.item;
    next = is.next;
    numbered = is.numbered;
    valued = is.valued;
    labelled = is.labelled;
    lawful = item_over old.situation is.item is.next.state is.lawful;
    menu = situation_over is.next is.menu;
    appended = is.appended;
  }

pub sessions_agree : SessionsOverTheSameAgree
sessions_agree = record {
  mutual_bases = bases_turned;
  states = λ basis other state same. state_over basis other same state;
  situations = λ basis other situation same. situation_over basis other same situation;
  items = λ basis other before item next same. item_over basis other same before item next;
  steps = λ basis other first last steps same. steps_over basis other same first last steps;
  lawful = λ basis other progress same. lawful_over basis other same progress;
  stepped = λ basis other old new number values label same. stepped_over basis other same old new number values label;
}
