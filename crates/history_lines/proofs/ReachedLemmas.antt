-- States that a line leads to.
use Rattle.std.proofs.Common.{◌≡◌, ℕ, List, [], Option, refl, sym, ap, subst, ◌∙◌}
use Rattle.session_log.proofs.CourseLemmas.{situation_now}
use Rattle.lotos_base.specs.Outside.{Texts}
use Rattle.behaviour_semantics.specs.Alike.{Alike}
use Rattle.behaviour_semantics.specs.Behaviour.{Behaviour}
use Rattle.behaviour_semantics.specs.Rule.{as_given}
use Rattle.line_server.specs.Request.{Request, skip, show_menu, show_behaviour, show_trace, undo, leave, no_request, take_step, save, replay, show_normal, compare, list_values, list_instances, request_of}
use Rattle.session_log.specs.HandedOn.{SessionBasis, Situation, PastStep, first_of, first_situation, IsSituation, LeadTo, IsLawful}
use Rattle.session_log.specs.HandedOn.{IsLawfulFrom, HasStepped, ReplayIs, goes_on, LeadsBy, HaveOneStart, SessionsFollowDerivations}
use Rattle.session_log.specs.HandedOn.{SessionsStayLawful}
use Rattle.session_log.proofs.HandedOn.{one_menu, replay_lawful}
use Rattle.history_lines.specs.Standing.{Standing}
use Rattle.history_lines.specs.Befallen.{Befallen}
use Rattle.history_lines.specs.StepAnswer.{StepAnswer, StepComesTo, is_unread, is_miscounted, is_misread, is_unmet, is_taken}
use Rattle.history_lines.specs.ShelfAnswer.{SaveComesTo, is_too_long, is_unwritten, is_saved, ReplayComesTo, is_failed, is_missing, is_long, is_refused, is_replayed}
use Rattle.history_lines.specs.Answer.{RequestComesTo, LineComesTo, after_step, UndoComesTo, is_undone, is_at_start}
use Rattle.history_lines.specs.Beginning.{Beginning, CanBegin, standing_at}
use Rattle.history_lines.specs.Reached.{IsDerivedStanding, IsReached}

-- ---- By lawful steps

-- the session goes over what it began over, and lawful steps lead from its beginning
pub record IsLed (begun : Beginning) (standing : Standing) : Type 0 where
  pub basis : standing.basis ≡ begun.basis
  pub start : first_situation standing.progress ≡ begun.progress.situation
  pub lawful : IsLawful begun.basis standing.progress

led : (begun : Beginning) (standing : Standing) → IsReached begun standing → IsLed begun standing
led begun standing reached = record { basis = reached.basis; start = reached.start; lawful = reached.lawful }

derived : SessionsFollowDerivations → (begun : Beginning) (standing : Standing) → CanBegin begun → IsLed begun standing
    → IsDerivedStanding begun standing
derived follow begun standing can is =
    let lead : LeadTo begun.basis begun.progress.situation standing.progress.steps standing.progress.situation =
    subst (λ (first : Situation). LeadTo begun.basis first standing.progress.steps standing.progress.situation) is.start
    is.lawful.steps in
    let found : (other : Behaviour) × LeadsBy begun.basis as_given begun.progress.situation.state standing.progress.steps other
    × Alike begun.basis.data_ standing.progress.situation.state other =
    follow.derived begun.basis begun.progress.situation standing.progress.situation standing.progress.steps can.over lead in
    record { other = found.0; reached = found.1; alike = found.2 }

reached : SessionsFollowDerivations → (begun : Beginning) (standing : Standing) → CanBegin begun → IsLed begun standing
    → IsReached begun standing
reached follow begun standing can is =
    let menu : IsSituation begun.basis standing.progress.situation =
    situation_now begun.basis (first_situation standing.progress) standing.progress.situation standing.progress.steps is.lawful.start
    is.lawful.steps in
    record {
      basis = is.basis;
      start = is.start;
      lawful = is.lawful;
      menu = record {
        exact = menu;
        one = λ entries exact. one_menu begun.basis.data_ begun.basis.canon begun.basis.specification.processes
            standing.progress.situation.state entries standing.progress.situation.menu exact menu;
      };
      derived = derived follow begun standing can is;
    }

first_here : (situation : Situation) (steps : List PastStep) → steps ≡ [] → first_of situation steps ≡ situation
first_here situation steps none = ap (first_of situation) none

pub begins_reached : SessionsFollowDerivations → (begun : Beginning) (texts : Option Texts) → CanBegin begun
    → IsReached begun (standing_at begun texts)
begins_reached follow begun texts can =
    reached follow begun (standing_at begun texts) can (record {
      basis = refl;
      start = first;
      lawful = subst (λ (it : Situation). IsLawfulFrom begun.basis it begun.progress) (sym first) (record {
        start = can.menu_is;
        steps = subst (λ (steps : List PastStep). LeadTo begun.basis begun.progress.situation steps begun.progress.situation)
            (sym can.at_start) refl;
      });
    })
  where
    first : first_situation begun.progress ≡ begun.progress.situation
    first = first_here begun.progress.situation begun.progress.steps can.at_start

-- ---- By lines

-- the session goes on from where it stands
led_on : (begun : Beginning) (standing next : Standing) → IsLed begun standing → next.basis ≡ standing.basis
    → IsLawful begun.basis next.progress → HaveOneStart standing.progress next.progress → IsLed begun next
led_on begun standing next is same lawful start =
    record { basis = same ∙ is.basis; start = start ∙ is.start; lawful = lawful }

-- or stays there
led_still : (begun : Beginning) (standing next : Standing) → IsLed begun standing → next.basis ≡ standing.basis
    → next.progress ≡ standing.progress → IsLed begun next
led_still begun standing next is same stays =
    led_on begun standing next is same (subst (IsLawful begun.basis) (sym stays) is.lawful) (ap first_situation stays)

step_led : SessionsStayLawful → (begun : Beginning) (standing : Standing) (number : ℕ) (terms : List ℕ) → IsLed begun standing
    → (answer : StepAnswer) → StepComesTo standing.basis standing.progress number terms answer
    → IsLed begun (after_step standing answer).reply.next
step_led stay begun standing number terms is answer (is_unread fault unread) = is
step_led stay begun standing number terms is answer (is_miscounted written refusal are refuses) = is
step_led stay begun standing number terms is answer (is_misread entry written refusal counted first) = is
step_led stay begun standing number terms is answer (is_unmet entry values refusal valued refuses) = is
step_led stay begun standing number terms is answer (is_taken entry values label new valued stepped) =
    let on : IsLawful begun.basis new × HaveOneStart standing.progress new =
    stay.stepped begun.basis standing.progress new number values label is.lawful
    (subst (λ (it : SessionBasis). HasStepped it standing.progress number values label new) is.basis stepped) in
    led_on begun standing _ is refl on.0 on.1

undo_led : SessionsStayLawful → (begun : Beginning) (standing : Standing) (it : Befallen) → IsLed begun standing
    → UndoComesTo standing it → IsLed begun it.reply.next
undo_led stay begun standing it is (is_undone new undone) =
    let on : IsLawful begun.basis new × HaveOneStart standing.progress new =
    stay.undone begun.basis standing.progress new is.lawful undone in
    led_on begun standing _ is refl on.0 on.1
undo_led stay begun standing it is (is_at_start none) = is

save_led : (begun : Beginning) (standing : Standing) (name : List ℕ) (it : Befallen) → IsLed begun standing
    → SaveComesTo standing name it → IsLed begun it.reply.next
save_led begun standing name it is (is_too_long long) = is
save_led begun standing name it is (is_unwritten after short may) = led_still begun standing _ is refl refl
save_led begun standing name it is (is_saved after short put) = led_still begun standing _ is refl refl

replay_led : (begun : Beginning) (standing : Standing) (name : List ℕ) (it : Befallen) → IsLed begun standing
    → ReplayComesTo standing name it → IsLed begun it.reply.next
replay_led begun standing name it is is_failed = is
replay_led begun standing name it is (is_missing missing) = is
replay_led begun standing name it is (is_long text stands long) = is
replay_led begun standing name it is (is_refused text refusal stands short comes) = is
replay_led begun standing name it is (is_replayed text new stands short comes) =
    let on : IsLawful begun.basis new × (first_situation new ≡ first_situation standing.progress) =
    replay_lawful begun.basis (first_situation standing.progress) text new is.lawful.start
    (subst (λ (it : SessionBasis). ReplayIs it (first_situation standing.progress) text (goes_on new)) is.basis comes) in
    led_on begun standing _ is refl on.0 on.1

-- what a line comes to that leaves the session where it stands
stays_led : (begun : Beginning) (standing : Standing) (it other : Befallen) → IsLed begun standing → it ≡ other
    → other.reply.next ≡ standing → IsLed begun it.reply.next
stays_led begun standing it other is same stays =
    subst (IsLed begun) (sym (ap (λ (b : Befallen). b.reply.next) same ∙ stays)) is

request_led : SessionsStayLawful → (begun : Beginning) (standing : Standing) (request : Request) (it : Befallen) → IsLed begun standing
    → RequestComesTo standing request it → IsLed begun it.reply.next
request_led stay begun standing skip it is comes = stays_led begun standing it _ is comes refl
request_led stay begun standing show_menu it is comes = stays_led begun standing it _ is comes refl
request_led stay begun standing show_behaviour it is comes = stays_led begun standing it _ is comes refl
request_led stay begun standing show_trace it is comes = stays_led begun standing it _ is comes refl
request_led stay begun standing undo it is comes = undo_led stay begun standing it is comes
request_led stay begun standing leave it is comes = stays_led begun standing it _ is comes refl
request_led stay begun standing no_request it is comes = stays_led begun standing it _ is comes refl
request_led stay begun standing (take_step number terms) it is comes =
    subst (λ (b : Befallen). IsLed begun b.reply.next) (sym comes.2)
    (step_led stay begun standing number terms is comes.0 comes.1)
request_led stay begun standing (save name) it is comes = save_led begun standing name it is comes
request_led stay begun standing (replay name) it is comes = replay_led begun standing name it is comes
request_led stay begun standing (show_normal terms) it is comes = stays_led begun standing it _ is comes.2 refl
request_led stay begun standing (compare terms) it is comes = stays_led begun standing it _ is comes.2 refl
request_led stay begun standing (list_values name size) it is comes = stays_led begun standing it _ is comes.2 refl
request_led stay begun standing (list_instances number size) it is comes = stays_led begun standing it _ is comes.2 refl

pub line_reached : SessionsFollowDerivations → SessionsStayLawful → (begun : Beginning) (standing : Standing) (line : List ℕ)
    (it : Befallen) → CanBegin begun → IsReached begun standing → LineComesTo standing line it → IsReached begun it.reply.next
line_reached follow stay begun standing line it can is answers =
    reached follow begun it.reply.next can (request_led stay begun standing (request_of line) it (led begun standing is) answers)
