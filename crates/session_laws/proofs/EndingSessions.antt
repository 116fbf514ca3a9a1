-- The sessions of an accepted specification end as it declares.
use Rattle.std.proofs.Common.{ℕ, List, map, length, Option, refl, sym, subst}
use Rattle.lotos_base.specs.Equation.{Data}
use Rattle.lotos_base.specs.Term.{Term}
use Rattle.lotos_base.proofs.CanonLemmas.{canon_ground}
use Rattle.syntax_trees.specs.WrittenDefinition.{WrittenSpecification}
use Rattle.behaviour_semantics.specs.Behaviour.{Behaviour, Specification, sorts_of}
use Rattle.behaviour_semantics.specs.Label.{exit_event}
use Rattle.behaviour_semantics.specs.Rule.{AreValues, as_given}
use Rattle.behaviour_semantics.specs.Transition.{Transition}
use Rattle.behaviour_semantics.specs.TransitionLaws.{TransitionsAreDerived}
use Rattle.behaviour_semantics.specs.WellFormed.{IsSpecification}
use Rattle.behaviour_semantics.proofs.SupplyLemmas.{canon_values}
use Rattle.session_histories.specs.Lawful.{LeadTo}
use Rattle.session_histories.specs.Session.{Situation, derivations_of}
use Rattle.session_laws.specs.HasFunctionality.{EndsWithin, AllAgree}
use Rattle.session_laws.specs.ExitLaws.{EndsWith, ExitsHaveTheirSorts}
use Rattle.session_laws.specs.AgreementLaws.{NoDisagreementIsAgreement}
use Rattle.session_histories.specs.SessionLaws.{SessionsFollowDerivations, IsStateOver}
use Rattle.lotos_top.specs.HandedOn.{Beginning, Standing, IsReached, Asked, Founded, FoundedBy, Acceptance, IsAccepted, start_of, goes_on, StartValuesAreGround, GotFile}
use Rattle.lotos_top.specs.Opening.{SessionBegins}
use Rattle.session_laws.specs.EndingSessions.{SessionsEndAsDeclared}
use Rattle.session_laws.proofs.AcceptedParts.{second}

-- ---- What was accepted

founded_agrees : NoDisagreementIsAgreement → (order : Option (List ℕ)) (tree : WrittenSpecification) (files : List GotFile)
    (founded : Founded)
    → FoundedBy order tree files (goes_on founded) → AllAgree founded.data_.signature founded.spec
founded_agrees agreement order tree files founded by =
    let gathers = second by in
    let flattens = second gathers.4 in
    let resolves = second flattens.4 in
    let agrees = second resolves.4 in
    let guarded = second agrees.4 in
    let orders = second guarded.4 in
    let opens = second orders.4 in
    let kept = agrees.3.1.1 in
    let all : AllAgree flattens.0.signature resolves.0 =
    subst (AllAgree flattens.0.signature) kept.1.same ((agreement.whole flattens.0.signature kept.0 kept.1.over).0 kept.2) in
    subst (λ (it : Founded). AllAgree it.data_.signature it.spec) (sym opens.4.1) all

-- all functionalities agree, and the start values have the sorts of the parameters
record IsSound (acceptance : Acceptance) : Type 0 where
  pub agrees : AllAgree acceptance.data_.signature acceptance.spec
  pub values : AreValues acceptance.data_.signature (sorts_of acceptance.spec.parameters) acceptance.values

accepted_sound : NoDisagreementIsAgreement → StartValuesAreGround → (asked : Asked) (files : List GotFile) (acceptance : Acceptance)
    → IsAccepted asked files (goes_on acceptance) → IsSound acceptance
accepted_sound agreement ground asked files acceptance is =
    let got = second is in
    let founds = second got.4 in
    let reads = second founds.3 in
    let values = second founds.4 in
    subst IsSound (sym values.4.1) (record {
      agrees = founded_agrees agreement asked.order reads.0 reads.2 founds.0 reads.4;
      values = ground (start_of founds.0.data_ founds.0.spec asked.values) values.0 values.3.1;
    })

-- ---- Where the session stands

module _ (exits : ExitsHaveTheirSorts) (follow : SessionsFollowDerivations) (derived : TransitionsAreDerived) (begun : Beginning)
    (standing : Standing) (over : IsStateOver begun.basis begun.progress.situation.state) (is : IsReached begun standing)
    (agrees : AllAgree begun.basis.data_.signature begun.basis.specification)
    (starts : EndsWithin begun.basis.data_.signature begun.basis.specification.processes begun.progress.situation.state
    begun.basis.specification.exit)
  where
    abbrev data_there : Data
    data_there = begun.basis.data_

    abbrev spec : Specification
    spec = begun.basis.specification

    abbrev state : Behaviour
    state = standing.progress.situation.state

    leads : LeadTo begun.basis begun.progress.situation standing.progress.steps standing.progress.situation
    leads =
        subst (λ (first : Situation). LeadTo begun.basis first standing.progress.steps standing.progress.situation) is.start
        is.lawful.steps

    state_ends : EndsWithin data_there.signature spec.processes state spec.exit
    state_ends =
        exits.reached data_there begun.basis.canon spec begun.progress.situation.state spec.exit over.well_formed agrees
        (λ t s ground. canon_ground data_there begun.basis.canon t s over.is_canon ground) over.closed starts
        (derivations_of standing.progress.steps) state
        (follow.kept begun.basis begun.progress.situation standing.progress.situation standing.progress.steps leads)

    state_over : IsStateOver begun.basis state
    state_over = follow.over begun.basis begun.progress.situation standing.progress.situation standing.progress.steps over leads

    exit_sorts : (values : List Term) (target : Behaviour) → Transition data_there spec.processes state (exit_event values) target
        → EndsWith data_there.signature spec.exit values
    exit_sorts values target transition =
        let d = (derived data_there spec.processes state (exit_event values) target).0 transition in
        (exits.moves data_there as_given spec state spec.exit over.well_formed agrees (λ t s ground. ground) state_over.closed state_ends
        d.0 (exit_event values) target d.1).ends values refl

-- what is said of the data and the specification that the session goes over is said of those that were accepted
record EndsHere (data_ : Data) (spec : Specification) (standing : Standing) : Type 0 where
  pub functionality : EndsWithin data_.signature spec.processes standing.progress.situation.state spec.exit
  pub ends :
      (values : List Term) (target : Behaviour) → Transition data_ spec.processes standing.progress.situation.state
      (exit_event values) target
      → EndsWith data_.signature spec.exit values

body_ends : ExitsHaveTheirSorts → (acceptance : Acceptance) (begun : Beginning) → SessionBegins acceptance begun → IsSound acceptance
    → EndsWithin begun.basis.data_.signature begun.basis.specification.processes begun.progress.situation.state
    begun.basis.specification.exit
body_ends exits acceptance begun begins sound =
    subst (λ (it : Specification). EndsWithin begun.basis.data_.signature it.processes begun.progress.situation.state it.exit)
    (sym begins.specification_is)
    (subst (λ (b : Behaviour). EndsWithin begun.basis.data_.signature acceptance.spec.processes b acceptance.spec.exit)
    (sym begins.state_is)
    (exits.closed_by_values begun.basis.data_.signature (length acceptance.spec.gate_names) acceptance.spec.processes
    acceptance.spec.parameters (map begun.basis.canon acceptance.values) acceptance.spec.body acceptance.spec.exit fine.whole.behaviour
    (canon_values begun.basis.data_ begun.basis.canon begins.can_begin.over.is_canon (sorts_of acceptance.spec.parameters) acceptance.values
    values) agrees.whole))
  where
    fine : IsSpecification begun.basis.data_.signature acceptance.spec
    fine = subst (IsSpecification begun.basis.data_.signature) begins.specification_is begins.can_begin.over.well_formed

    agrees : AllAgree begun.basis.data_.signature acceptance.spec
    agrees = subst (λ (it : Data). AllAgree it.signature acceptance.spec) (sym begins.data_is) sound.agrees

    values : AreValues begun.basis.data_.signature (sorts_of acceptance.spec.parameters) acceptance.values
    values = subst (λ (it : Data). AreValues it.signature (sorts_of acceptance.spec.parameters) acceptance.values)
        (sym begins.data_is) sound.values

pub sessions_end_as_declared : NoDisagreementIsAgreement → ExitsHaveTheirSorts → StartValuesAreGround → SessionsFollowDerivations
    → TransitionsAreDerived → SessionsEndAsDeclared
sessions_end_as_declared agreement exits ground follow derived asked files acceptance begun standing accepted begins is =
    let sound : IsSound acceptance = accepted_sound agreement ground asked files acceptance accepted in
    let agrees : AllAgree begun.basis.data_.signature begun.basis.specification =
    subst (λ (it : Data). AllAgree it.signature begun.basis.specification) (sym begins.data_is)
    (subst (AllAgree acceptance.data_.signature) (sym begins.specification_is) sound.agrees) in
    let starts = body_ends exits acceptance begun begins sound in
    let here : EndsHere begun.basis.data_ begun.basis.specification standing = record {
      functionality = state_ends exits follow derived begun standing begins.can_begin.over is agrees starts;
      ends = exit_sorts exits follow derived begun standing begins.can_begin.over is agrees starts;
    } in
    let at : EndsHere acceptance.data_ acceptance.spec standing =
    subst (λ (it : Data). EndsHere it acceptance.spec standing) begins.data_is
    (subst (λ (it : Specification). EndsHere begun.basis.data_ it standing) begins.specification_is here) in
    record { functionality = at.functionality; ends = at.ends }
