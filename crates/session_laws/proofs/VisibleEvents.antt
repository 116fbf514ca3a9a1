-- The events that a session shows are at gates that its specification declares.
use Rattle.std.proofs.Common.{List, sym, subst}
use Rattle.lotos_base.specs.Equation.{Data}
use Rattle.lotos_base.specs.Term.{Term}
use Rattle.syntax_trees.specs.TakenItems.{without_items}
use Rattle.behaviour_semantics.specs.Behaviour.{Behaviour, Specification}
use Rattle.behaviour_semantics.specs.Label.{Label}
use Rattle.behaviour_semantics.specs.Menu.{IsEntry}
use Rattle.behaviour_semantics.specs.Run.{Reaches, at_start, one_move}
use Rattle.behaviour_semantics.specs.Rule.{as_given}
use Rattle.behaviour_semantics.specs.Shape.{Derivation}
use Rattle.behaviour_semantics.specs.Solving.{Entry}
use Rattle.behaviour_semantics.specs.Transition.{Transition}
use Rattle.behaviour_semantics.specs.TransitionLaws.{TransitionsAreDerived}
use Rattle.behaviour_semantics.specs.WellFormed.{IsSpecification}
use Rattle.declaration_laws.specs.VisibleGates.{IsOneOf, IsAt, UsesOnly, MovesStayAtGates}
use Rattle.declaration_laws.specs.DeclaredGates.{HasDistinctGates, HasDeclaredGates, TextsHaveDeclaredGates}
use Rattle.declaration_laws.specs.EntryGates.{EntriesStayAtGates}
use Rattle.session_histories.specs.Lawful.{LeadTo}
use Rattle.session_histories.specs.Session.{Situation, derivations_of}
use Rattle.session_histories.specs.SessionLaws.{SessionsFollowDerivations, IsStateOver}
use Rattle.declaration_laws.proofs.GateLemmas.{put_in}
use Rattle.lotos_top.specs.HandedOn.{Beginning, Standing, IsReached, Asked, Acceptance, IsAccepted, goes_on, GotFile}
use Rattle.lotos_top.specs.Opening.{SessionBegins}
use Rattle.session_laws.specs.VisibleEvents.{SessionsShowDeclaredGates}
use Rattle.session_laws.proofs.AcceptedParts.{StandsOn, accepted_on}

-- ---- The specification

pub declared : TextsHaveDeclaredGates → (asked : Asked) (files : List GotFile) (acceptance : Acceptance) (begun : Beginning)
    → IsAccepted asked files (goes_on acceptance) → SessionBegins acceptance begun → HasDeclaredGates acceptance.spec
declared texts asked files acceptance begun accepted begins =
    let on : StandsOn acceptance.data_ acceptance.spec = accepted_on asked files acceptance accepted in
    texts acceptance.data_.signature (without_items on.tree) acceptance.spec on.stands_for
    (subst (λ (it : Data). IsSpecification it.signature acceptance.spec) begins.data_is
    (subst (IsSpecification begun.basis.data_.signature) begins.specification_is begins.can_begin.over.well_formed))

-- ---- On the way

pub reached_uses : MovesStayAtGates → (data_ : Data) (canon : Term → Term) (spec : Specification) → HasDeclaredGates spec
    → (first last : Behaviour) (ds : List Derivation) → Reaches data_ canon spec.processes first ds last
    → UsesOnly (IsOneOf spec.gates) spec.processes first → UsesOnly (IsOneOf spec.gates) spec.processes last
reached_uses stay data_ canon spec has first _ _ at_start uses = uses
reached_uses stay data_ canon spec has first last _ (one_move {next = next} {d = d} {ds = ds} {label = label} move more) uses =
    reached_uses stay data_ canon spec has next last ds more
    (stay data_ canon spec.processes spec.gates first d label next has.processes uses move).1

-- what is shown, over data and a specification
record ShowsHere (data_ : Data) (spec : Specification) (standing : Standing) : Type 0 where
  pub transitions :
      (label : Label) (target : Behaviour) → Transition data_ spec.processes standing.progress.situation.state label target
      → IsAt (IsOneOf spec.gates) label
  pub entries :
      (entry : Entry) → IsEntry standing.progress.situation.menu entry → IsAt (IsOneOf spec.gates) entry.label
  pub names : HasDistinctGates spec

module _ (follow : SessionsFollowDerivations) (derived : TransitionsAreDerived) (stay : MovesStayAtGates) (at_entries : EntriesStayAtGates)
    (begun : Beginning)
    (has : HasDeclaredGates begun.basis.specification) (standing : Standing) (over : IsStateOver begun.basis begun.progress.situation.state)
    (is : IsReached begun standing)
    (starts : UsesOnly (IsOneOf begun.basis.specification.gates) begun.basis.specification.processes begun.progress.situation.state) where
  abbrev state : Behaviour
  state = standing.progress.situation.state

  abbrev spec : Specification
  spec = begun.basis.specification

  state_uses : UsesOnly (IsOneOf spec.gates) spec.processes state
  state_uses =
      reached_uses stay begun.basis.data_ begun.basis.canon spec has begun.progress.situation.state state
      (derivations_of standing.progress.steps)
      (follow.kept begun.basis begun.progress.situation standing.progress.situation standing.progress.steps
      (subst (λ (first : Situation). LeadTo begun.basis first standing.progress.steps standing.progress.situation) is.start
      is.lawful.steps))
      starts

  shown : (label : Label) (target : Behaviour) → Transition begun.basis.data_ spec.processes state label target
      → IsAt (IsOneOf spec.gates) label
  shown label target transition =
      let d = (derived begun.basis.data_ spec.processes state label target).0 transition in
      (stay begun.basis.data_ as_given spec.processes spec.gates state d.0 label target has.processes state_uses d.1).0

  entry_shown : (entry : Entry) → IsEntry standing.progress.situation.menu entry → IsAt (IsOneOf spec.gates) entry.label
  entry_shown entry listed =
      at_entries begun.basis.data_ begun.basis.canon spec.processes spec.gates state standing.progress.situation.menu has.processes
      state_uses is.menu.exact entry listed

  shows : HasDeclaredGates spec → ShowsHere begun.basis.data_ spec standing
  shows declares = record { transitions = shown; entries = entry_shown; names = declares.names }

pub body_uses : (acceptance : Acceptance) (begun : Beginning) → SessionBegins acceptance begun → HasDeclaredGates acceptance.spec
    → UsesOnly (IsOneOf begun.basis.specification.gates) begun.basis.specification.processes begun.progress.situation.state
body_uses acceptance begun begins has =
    subst (λ (it : Specification). UsesOnly (IsOneOf it.gates) it.processes begun.progress.situation.state) (sym begins.specification_is)
    (subst (UsesOnly (IsOneOf acceptance.spec.gates) acceptance.spec.processes) (sym begins.state_is)
    (put_in acceptance.spec.processes acceptance.spec.body _ (IsOneOf acceptance.spec.gates) has.body))

pub sessions_show_declared_gates : SessionsFollowDerivations → TransitionsAreDerived → MovesStayAtGates → EntriesStayAtGates
    → TextsHaveDeclaredGates → SessionsShowDeclaredGates
sessions_show_declared_gates follow derived stay at_entries texts asked files acceptance begun standing accepted begins is =
    let has : HasDeclaredGates acceptance.spec = declared texts asked files acceptance begun accepted begins in
    let here : HasDeclaredGates begun.basis.specification = subst HasDeclaredGates (sym begins.specification_is) has in
    let there = shows follow derived stay at_entries begun here standing begins.can_begin.over is (body_uses acceptance begun begins has)
    here in
    let at : ShowsHere acceptance.data_ acceptance.spec standing =
    subst (λ (it : Data). ShowsHere it acceptance.spec standing) begins.data_is
    (subst (λ (it : Specification). ShowsHere begun.basis.data_ it standing) begins.specification_is there) in
    record { transitions = at.transitions; entries = at.entries; names = at.names }
