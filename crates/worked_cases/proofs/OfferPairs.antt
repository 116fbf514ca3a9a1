-- The menus of small behaviours without processes, and where their certificates are matched or not.
use Rattle.std.proofs.Common.{List, [], ◌∷◌, refl}
use Rattle.behaviour_semantics.specs.Behaviour.{Behaviour, stop, choice, give, ask}
use Rattle.behaviour_semantics.specs.Label.{gate_event}
use Rattle.behaviour_semantics.specs.Shape.{act, left_side, right_side}
use Rattle.behaviour_semantics.specs.Solving.{Entry, settled}
use Rattle.behaviour_semantics.specs.Menu.{Exact}
use Rattle.certificate_theory.specs.Certificate.{compared_side_of}
use Rattle.certificate_theory.specs.Agreement.{AreOneGate}
use Rattle.certificate_theory.specs.NamedStates.{HasClosedMenu}
use Rattle.certificate_theory.specs.MatchedPairs.{AreMatched}
use Rattle.worked_cases.specs.BehaviourSamples.{sample_data, sample_canon, nat_sort, one, nat, nat_variable, offering, event}
use Rattle.worked_cases.specs.ValueCases.{sum}
use Rattle.worked_cases.specs.BisimulationCases.{offering_specification}
use Rattle.worked_cases.specs.Showing.{as_it_is, event_line, entry}
use Rattle.worked_cases.proofs.ShownMenus.{menu}
use Rattle.worked_cases.proofs.CertificateTests.{plain_entry, closed_menu, all_match}

-- `a` and `b` on the two sides.
pub same_gate : (body other : Behaviour) → AreOneGate (offering_specification body) (offering_specification other) 0 0
same_gate body other = record { name = _; other_name = _; named = refl; other_named = refl; same = refl }

-- The exact menus, where there are no processes.
abbrev ExactAlone : Behaviour → List Entry → Type 0
ExactAlone b menu = Exact sample_data sample_canon [] b menu

pub exact_stop : ExactAlone stop []
exact_stop = (menu [] stop 9 [] refl refl refl tt).exact

pub closed_stop : (body : Behaviour) → HasClosedMenu (compared_side_of sample_data sample_canon (offering_specification body)) stop
closed_stop body = closed_menu (offering_specification body) stop [] exact_stop tt

-- Behaviours that stop are matched, whatever is listed.
pub stops_match : (body other : Behaviour) (Listed : Behaviour → Behaviour → Type 0)
    → AreMatched (compared_side_of sample_data sample_canon (offering_specification body))
    (compared_side_of sample_data sample_canon (offering_specification other)) Listed stop stop
stops_match body other Listed =
    all_match (offering_specification body) (offering_specification other) Listed stop stop [] [] exact_stop exact_stop tt

abbrev pub offers_one : List Entry
offers_one = plain_entry act (gate_event 0 (one ∷ [])) ∷ []

pub exact_sum : ExactAlone (offering 0 (give sum ∷ []) stop) offers_one
exact_sum =
    (menu [] (offering 0 (give sum ∷ []) stop) 9 (as_it_is act (gate_event 0 (one ∷ [])) [] [] [] ∷ []) refl refl refl
    (settled _ refl refl, tt)).exact

pub exact_one : ExactAlone (offering 0 (give one ∷ []) stop) offers_one
exact_one =
    (menu [] (offering 0 (give one ∷ []) stop) 9 (as_it_is act (gate_event 0 (one ∷ [])) [] [] [] ∷ []) refl refl refl
    (settled _ refl refl, tt)).exact

abbrev pub one_event : List Entry
one_event = plain_entry act (gate_event 0 []) ∷ []

abbrev pub two_events : List Entry
two_events = plain_entry (left_side act) (gate_event 0 []) ∷ plain_entry (right_side act) (gate_event 1 []) ∷ []

pub exact_event : ExactAlone (event 0 stop) one_event
exact_event =
    (menu [] (event 0 stop) 9 (event_line act (gate_event 0 []) ∷ []) refl refl refl (settled _ refl refl, tt)).exact

pub exact_events : ExactAlone (choice (event 0 stop) (event 1 stop)) two_events
exact_events =
    (menu [] (choice (event 0 stop) (event 1 stop)) 9
    (event_line (left_side act) (gate_event 0 []) ∷ event_line (right_side act) (gate_event 1 []) ∷ []) refl refl refl
    (settled _ refl refl, (settled _ refl refl, tt))).exact

-- `a ?x:Nat; stop`
abbrev pub asking : Behaviour
asking = offering 0 (ask (nat_variable 0) ∷ []) stop

abbrev pub asking_entry : Entry
asking_entry = entry act (gate_event 0 (nat 0 ∷ [])) (nat_sort ∷ []) (nat 0 ∷ []) []

pub exact_asking : ExactAlone asking (asking_entry ∷ [])
exact_asking =
    (menu [] asking 9 (as_it_is act (gate_event 0 (nat 0 ∷ [])) (nat_sort ∷ []) (nat 0 ∷ []) [] ∷ []) refl refl refl
    (settled _ refl refl, tt)).exact
