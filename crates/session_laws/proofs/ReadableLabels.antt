-- The labels that a session shows are read back.
use Rattle.std.proofs.Common.{sym, subst}
use Rattle.lotos_base.specs.Equation.{Data, IsWellFormedData}
use Rattle.type_definitions.specs.DeclaredTypes.{types_of}
use Rattle.behaviour_semantics.specs.Behaviour.{Behaviour, Specification}
use Rattle.declaration_laws.specs.VisibleGates.{IsOneOf, UsesOnly, MovesStayAtGates}
use Rattle.session_laws.specs.LabelLaws.{HasReadableNames}
use Rattle.session_laws.specs.MenuReadings.{IsShownMenu, MenuIsReadBack, MenusAreReadBack}
use Rattle.declaration_laws.specs.DeclaredGates.{HasDeclaredGates, TextsHaveDeclaredGates}
use Rattle.session_histories.specs.Lawful.{LeadTo}
use Rattle.session_histories.specs.Session.{Situation, derivations_of}
use Rattle.session_histories.specs.SessionLaws.{SessionsFollowDerivations}
use Rattle.lotos_top.specs.HandedOn.{Beginning, Standing, IsReached, Acceptance, DataAreWellFormed}
use Rattle.lotos_top.specs.Opening.{SessionBegins}
use Rattle.session_laws.specs.AcceptedNames.{HasAcceptedNames, AcceptedNamesAreOfText}
use Rattle.session_laws.specs.ReadableLabels.{SessionsShowReadableLabels}
use Rattle.session_laws.proofs.AcceptedParts.{StandsOn, accepted_on}
use Rattle.session_laws.proofs.VisibleEvents.{declared, reached_uses, body_uses}

-- where the session stands
menu_there : SessionsFollowDerivations → MovesStayAtGates → (begun : Beginning) (standing : Standing) → IsWellFormedData begun.basis.data_
    → HasReadableNames begun.basis.data_.signature begun.basis.specification → HasDeclaredGates begun.basis.specification
    → IsReached begun standing
    → (UsesOnly (IsOneOf begun.basis.specification.gates) begun.basis.specification.processes begun.progress.situation.state)
    → (acceptance : Acceptance) → SessionBegins acceptance begun
    → IsShownMenu begun.basis.data_ begun.basis.canon begun.basis.specification standing.progress.situation.state
    standing.progress.situation.menu
menu_there follow stay begun standing fine names has is starts acceptance begins = record {
  fine = fine;
  over =
      follow.over begun.basis begun.progress.situation standing.progress.situation standing.progress.steps begins.can_begin.over leads;
  exact = is.menu.exact;
  names = names;
  processes = has.processes;
  uses =
      reached_uses stay begun.basis.data_ begun.basis.canon begun.basis.specification has begun.progress.situation.state
      standing.progress.situation.state (derivations_of standing.progress.steps)
      (follow.kept begun.basis begun.progress.situation standing.progress.situation standing.progress.steps leads) starts;
}
  where
    leads : LeadTo begun.basis begun.progress.situation standing.progress.steps standing.progress.situation
    leads =
        subst (λ (first : Situation). LeadTo begun.basis first standing.progress.steps standing.progress.situation) is.start
        is.lawful.steps

pub sessions_show_readable_labels : AcceptedNamesAreOfText → DataAreWellFormed → SessionsFollowDerivations → MovesStayAtGates
    → TextsHaveDeclaredGates → MenusAreReadBack → SessionsShowReadableLabels
sessions_show_readable_labels named fine follow stay texts menus asked files acceptance begun standing accepted begins is =
    let on : StandsOn acceptance.data_ acceptance.spec = accepted_on asked files acceptance accepted in
    let well : IsWellFormedData acceptance.data_ = fine (types_of on.gathered.types) acceptance.data_ on.has_data in
    let names : HasAcceptedNames acceptance = named asked files acceptance accepted in
    let has : HasDeclaredGates acceptance.spec = declared texts asked files acceptance begun accepted begins in
    let readable : HasReadableNames acceptance.data_.signature acceptance.spec =
    record { well_formed = well.signature; spelled = names.signature; gates = names.gates; distinct = has.names } in
    let menu = menu_there follow stay begun standing (subst IsWellFormedData (sym begins.data_is) well)
    (subst (λ (it : Data). HasReadableNames it.signature begun.basis.specification) (sym begins.data_is)
    (subst (HasReadableNames acceptance.data_.signature) (sym begins.specification_is) readable))
    (subst HasDeclaredGates (sym begins.specification_is) has) is (body_uses acceptance begun begins has) acceptance begins in
    let state : Behaviour = standing.progress.situation.state in
    subst (λ (it : Data). MenuIsReadBack it acceptance.spec state standing.progress.situation.menu) begins.data_is
    (subst (λ (it : Specification). MenuIsReadBack begun.basis.data_ it state standing.progress.situation.menu) begins.specification_is
    (menus begun.basis.data_ begun.basis.canon begun.basis.specification state standing.progress.situation.menu menu))
