-- A line of a session comes to one thing at most.
use Rattle.std.proofs.Common.{◌≡◌, ◌<◌, ◌≤◌, ℕ, Bool, true, false, List, [], ◌∷◌, ◌++◌, length, Option, None, Some, bytes_eq, refl, ap, sym, ◌∙◌, subst, arith}
use Rattle.std.proofs.lemmas.Slice.Eq.{bytes_eq-Decides}
use Rattle.std.proofs.lemmas.Bool.{true≢false}
use Rattle.session_log.proofs.CourseLemmas.{situation_now}
use Rattle.lotos_base.specs.Outside.{Texts, Puts}
use Rattle.line_server.specs.Request.{Request, skip, show_menu, show_behaviour, show_trace, undo, leave, no_request, take_step, save, replay, show_normal, compare, list_values, list_instances}
use Rattle.session_log.specs.HandedOn.{TextsHaveOneOutcome, normal_text, comparison_text, QuestionsHaveOneAnswer, PastStep, Progress}
use Rattle.session_log.specs.HandedOn.{first_situation, HasUndone, ReplayRefusal, LinesOutcome, goes_on, stops, ReplayIs, ReplayIsExact}
use Rattle.session_log.specs.HandedOn.{SessionsFollowDerivations, SessionsStayLawful, StepsAreExact}
use Rattle.sort_terms.specs.ReadingLaws.{ReadingComesToOneThing}
use Rattle.behaviour_semantics.proofs.OptionLemmas.{some_value}
use Rattle.session_log.proofs.HandedOn.{no_stop}
use Rattle.session_log.specs.HandedOn.question_answers as questions
use Rattle.value_lists.specs.ListLineLaws.{InstancesHaveOneAnswer, ValuesHaveOneAnswer}
use Rattle.value_lists.specs.ListOutcome.{ListOutcome, EntryInstances}
use Rattle.value_lists.specs.ListText.{instances_text, listed_values_text}
use Rattle.lotos_base.specs.Term.{Term}
use Rattle.history_lines.specs.OutcomeLaws.{IsLawfulStanding, AreAlike}
use Rattle.history_lines.specs.Standing.{Standing, shown_trace}
use Rattle.history_lines.specs.CommandRefusal.{no_replay}
use Rattle.history_lines.specs.Befallen.{Befallen, says, come_to, with_texts}
use Rattle.history_lines.specs.ShelfAnswer.{trace_limit, refusal_in, HasPut, saved_text, SaveComesTo, is_too_long, is_unwritten, is_saved, StandsUnder, IsMissing, replayed_text, ReplayComesTo, is_failed, is_missing, is_long, is_refused, is_replayed}
use Rattle.history_lines.specs.StepAnswer.{StepAnswer, took, declined}
use Rattle.history_lines.specs.Answer.{after_step, undone_text, UndoComesTo, is_undone, is_at_start, RequestComesTo}
use Rattle.history_lines.proofs.StepOnceLemmas.{IsReady, step_once}

-- ---- Undo

no_steps_left : (steps : List PastStep) (step : PastStep) → steps ++ (step ∷ []) ≡ [] → ⊥
no_steps_left [] step e = cc e
no_steps_left (one ∷ steps) step e = cc e

not_at_start : (old new : Progress) → HasUndone old new → old.steps ≡ [] → ⊥
not_at_start old new h e =
    no_steps_left new.steps (record { item = h.item; before = new.situation }) (sym (ap (λ (it : Progress). it.steps) h.dropped) ∙ e)

undo_once : SessionsStayLawful → (standing : Standing) (one other : Befallen) → UndoComesTo standing one → UndoComesTo standing other
    → one ≡ other
undo_once stay standing _ _ (is_undone new h) (is_undone other k) =
    ap (λ (it : Progress). says (come_to standing it) (undone_text standing.basis it)) (stay.once standing.progress new other h k)
undo_once stay standing _ _ (is_undone new h) (is_at_start e) = absurd (not_at_start standing.progress new h e)
undo_once stay standing _ _ (is_at_start e) (is_undone new h) = absurd (not_at_start standing.progress new h e)
undo_once stay standing _ _ (is_at_start e) (is_at_start f) = refl

-- ---- Saving

-- what a shelf has after a put
puts_once : (told one other : Texts) (name bytes : List ℕ) → Puts told one name bytes → Puts told other name bytes → one ≡ other
puts_once told one other name bytes h k = λ i key. by key (bytes_eq key name) refl i
  where
    by : (key : List ℕ) (b : Bool) → bytes_eq key name ≡ b → one key ≡ other key
    by key true e =
        let same : key ≡ name = (bytes_eq-Decides key name).0 e in
        ap one same ∙ (h.stored ∙ (sym k.stored ∙ sym (ap other same)))
    by key false e =
        h.others key (λ same. true≢false (sym ((bytes_eq-Decides key name).1 same) ∙ e))
        ∙ sym (k.others key (λ same. true≢false (sym ((bytes_eq-Decides key name).1 same) ∙ e)))

put_once : (before one other : Option Texts) (told : Texts) (name bytes : List ℕ) → before ≡ Some told → HasPut before one name bytes
    → HasPut before other name bytes → one ≡ other
put_once None one other told name bytes tells h k = absurd (cc tells)
put_once (Some texts) None other told name bytes tells h k = absurd h
put_once (Some texts) (Some one) None told name bytes tells h k = absurd k
put_once (Some texts) (Some one) (Some other) told name bytes tells h k =
    ap (λ (it : Texts). Some it) (puts_once texts one other name bytes h k)

long_and_short : (limit count : ℕ) → limit < count → count ≤ limit → ⊥
long_and_short limit count long short = absurd (omega (arith, long, short))

save_once : (standing : Standing) (told : Texts) (name : List ℕ) → standing.texts ≡ Some told → (one other : Befallen)
    → SaveComesTo standing name one → SaveComesTo standing name other → one.faulty ≡ false → other.faulty ≡ false → one ≡ other
save_once standing told name tells _ _ (is_too_long long) (is_too_long other) f g = refl
save_once standing told name tells _ _ (is_too_long long) (is_unwritten after short may) f g = absurd (true≢false g)
save_once standing told name tells _ _ (is_too_long long) (is_saved after short put) f g =
    absurd (long_and_short trace_limit (length (shown_trace standing.basis standing.progress)) long short)
save_once standing told name tells _ _ (is_unwritten after short may) other f g = absurd (true≢false f)
save_once standing told name tells _ _ (is_saved after short put) (is_too_long long) f g =
    absurd (long_and_short trace_limit (length (shown_trace standing.basis standing.progress)) long short)
save_once standing told name tells _ _ (is_saved after short put) (is_unwritten other short' may) f g = absurd (true≢false g)
save_once standing told name tells _ _ (is_saved after short put) (is_saved other short' put') f g =
    ap (λ (it : Option Texts). says (with_texts standing it) (saved_text name))
    (put_once standing.texts after other told name (shown_trace standing.basis standing.progress) tells put put')

-- ---- Replay

stands_once : (texts : Option Texts) (told : Texts) (name one other : List ℕ) → texts ≡ Some told → StandsUnder texts name one
    → StandsUnder texts name other → one ≡ other
stands_once None told name one other tells h k = absurd (cc tells)
stands_once (Some texts) told name one other tells h k = some_value (sym h ∙ k)

not_missing : (texts : Option Texts) (name text : List ℕ) → IsMissing texts name → StandsUnder texts name text → ⊥
not_missing None name text missing stands = missing
not_missing (Some texts) name text missing stands = absurd (cc (missing, stands))

same_stop : (one other : ReplayRefusal) → stops one ≡ stops other → one ≡ other
same_stop one other e = cc e

abbrev on : Progress → LinesOutcome ReplayRefusal
on progress = goes_on progress

same_way : (one other : Progress) → on one ≡ on other → one ≡ other
same_way one other e = cc e

module _ (exact : ReplayIsExact) (standing : Standing) (told : Texts) (name : List ℕ) (lawful : IsLawfulStanding standing)
    (tells : standing.texts ≡ Some told) where
  abbrev TextIs : List ℕ → LinesOutcome ReplayRefusal → Type 0
  TextIs text outcome = ReplayIs standing.basis (first_situation standing.progress) text outcome

  -- two texts under the name come to one thing
  come_once : (text other : List ℕ) (one two : LinesOutcome ReplayRefusal) → StandsUnder standing.texts name text
      → StandsUnder standing.texts name other → TextIs text one → TextIs other two → one ≡ two
  come_once text other one two stands stands' is is' =
      exact.once standing.basis (first_situation standing.progress) text one two lawful.over lawful.lawful.start is
      (subst (λ (it : List ℕ). TextIs it two) (sym (stands_once standing.texts told name text other tells stands stands')) is')

  -- no text is too long and not
  length_once : (text other : List ℕ) → StandsUnder standing.texts name text → StandsUnder standing.texts name other
      → trace_limit < length text → length other ≤ trace_limit → ⊥
  length_once text other stands stands' long short =
      long_and_short trace_limit (length text) long
      (subst (λ (it : List ℕ). length it ≤ trace_limit) (sym (stands_once standing.texts told name text other tells stands stands')) short)

  replay_once : (one other : Befallen) → ReplayComesTo standing name one → ReplayComesTo standing name other → one.faulty ≡ false
      → other.faulty ≡ false → one ≡ other
  replay_once _ _ is_failed other f g = absurd (true≢false f)
  replay_once _ _ (is_missing missing) is_failed f g = absurd (true≢false g)
  replay_once _ _ (is_missing missing) (is_missing missing') f g = refl
  replay_once _ _ (is_missing missing) (is_long text stands long) f g = absurd (not_missing standing.texts name text missing stands)
  replay_once _ _ (is_missing missing) (is_refused text refusal stands short is) f g =
      absurd (not_missing standing.texts name text missing stands)
  replay_once _ _ (is_missing missing) (is_replayed text new stands short is) f g =
      absurd (not_missing standing.texts name text missing stands)
  replay_once _ _ (is_long text stands long) is_failed f g = absurd (true≢false g)
  replay_once _ _ (is_long text stands long) (is_missing missing) f g = absurd (not_missing standing.texts name text missing stands)
  replay_once _ _ (is_long text stands long) (is_long text' stands' long') f g = refl
  replay_once _ _ (is_long text stands long) (is_refused text' refusal stands' short is) f g =
      absurd (length_once text text' stands stands' long short)
  replay_once _ _ (is_long text stands long) (is_replayed text' new stands' short is) f g =
      absurd (length_once text text' stands stands' long short)
  replay_once _ _ (is_refused text refusal stands short is) is_failed f g = absurd (true≢false g)
  replay_once _ _ (is_refused text refusal stands short is) (is_missing missing) f g =
      absurd (not_missing standing.texts name text missing stands)
  replay_once _ _ (is_refused text refusal stands short is) (is_long text' stands' long) f g =
      absurd (length_once text' text stands' stands long short)
  replay_once _ _ (is_refused text refusal stands short is) (is_refused text' refusal' stands' short' is') f g =
      ap (λ (it : ReplayRefusal). says standing (refusal_in standing (no_replay standing.basis.specification.name it)))
      (same_stop refusal refusal' (come_once text text' (stops refusal) (stops refusal') stands stands' is is'))
  replay_once _ _ (is_refused text refusal stands short is) (is_replayed text' new stands' short' is') f g =
      absurd (no_stop new refusal (come_once text' text (goes_on new) (stops refusal) stands' stands is' is))
  replay_once _ _ (is_replayed text new stands short is) is_failed f g = absurd (true≢false g)
  replay_once _ _ (is_replayed text new stands short is) (is_missing missing) f g =
      absurd (not_missing standing.texts name text missing stands)
  replay_once _ _ (is_replayed text new stands short is) (is_long text' stands' long) f g =
      absurd (length_once text' text stands' stands long short)
  replay_once _ _ (is_replayed text new stands short is) (is_refused text' refusal stands' short' is') f g =
      absurd (no_stop new refusal (come_once text text' (goes_on new) (stops refusal) stands stands' is is'))
  replay_once _ _ (is_replayed text new stands short is) (is_replayed text' other stands' short' is') f g =
      ap (λ (it : Progress). says (come_to standing it) (replayed_text standing.basis it))
      (same_way new other (come_once text text' (goes_on new) (goes_on other) stands stands' is is'))

-- ---- All lines

ready : SessionsFollowDerivations → (standing : Standing) → IsLawfulStanding standing → IsReady standing.basis standing.progress
ready follow standing h = record {
  over = follow.over standing.basis (first_situation standing.progress) standing.progress.situation standing.progress.steps h.over
      h.lawful.steps;
  menu = situation_now standing.basis (first_situation standing.progress) standing.progress.situation standing.progress.steps
      h.lawful.start h.lawful.steps;
}

module _ (follow : SessionsFollowDerivations) (stay : SessionsStayLawful) (steps : StepsAreExact) (exact : ReplayIsExact)
    (texts : TextsHaveOneOutcome) (readings : ReadingComesToOneThing) (answers : QuestionsHaveOneAnswer) (values : ValuesHaveOneAnswer)
    (instances : InstancesHaveOneAnswer) where
  pub line_once : (standing : Standing) (told : Texts) (request : Request) (one other : Befallen) → IsLawfulStanding standing
      → standing.texts ≡ Some told → RequestComesTo standing request one → RequestComesTo standing request other → one.faulty ≡ false
      → other.faulty ≡ false → one ≡ other
  line_once standing told skip one other lawful tells h k f g = h ∙ sym k
  line_once standing told show_menu one other lawful tells h k f g = h ∙ sym k
  line_once standing told show_behaviour one other lawful tells h k f g = h ∙ sym k
  line_once standing told show_trace one other lawful tells h k f g = h ∙ sym k
  line_once standing told undo one other lawful tells h k f g = undo_once stay standing one other h k
  line_once standing told leave one other lawful tells h k f g = h ∙ sym k
  line_once standing told no_request one other lawful tells h k f g = h ∙ sym k
  line_once standing told (take_step number terms) one other lawful tells h k f g =
      h.2
      ∙ (ap (after_step standing)
      (step_once texts readings steps standing.basis standing.progress number terms (ready follow standing lawful) h.0 k.0 h.1 k.1)
      ∙ sym k.2)
  line_once standing told (save name) one other lawful tells h k f g = save_once standing told name tells one other h k f g
  line_once standing told (replay name) one other lawful tells h k f g =
      replay_once exact standing told name lawful tells one other h k f g
  line_once standing told (show_normal terms) one other lawful tells h k f g =
      h.2
      ∙ (ap (λ (it : questions.QuestionOutcome Term). says standing (normal_text standing.basis.data_.signature it))
      (answers.normal standing.basis.data_.signature standing.basis.canon terms h.0 k.0 h.1 k.1)
      ∙ sym k.2)
  line_once standing told (compare terms) one other lawful tells h k f g =
      h.2
      ∙ (ap (λ (it : questions.QuestionOutcome Bool). says standing (comparison_text it))
      (answers.comparison standing.basis.data_ terms h.0 k.0 h.1 k.1)
      ∙ sym k.2)
  line_once standing told (list_values name size) one other lawful tells h k f g =
      h.2
      ∙ (ap (λ (it : ListOutcome (List Term)). says standing (listed_values_text standing.basis it))
      (values standing.basis name size h.0 k.0 lawful.over.signature h.1 k.1)
      ∙ sym k.2)
  line_once standing told (list_instances number size) one other lawful tells h k f g =
      h.2
      ∙ (ap (λ (it : ListOutcome EntryInstances). says standing (instances_text standing.basis number it))
      (instances standing.basis standing.progress.situation.menu number size h.0 k.0 h.1 k.1)
      ∙ sym k.2)

-- ---- Faults of the shelf

-- what is said without a fault has none
said_well : (standing : Standing) (it said : Befallen) → it ≡ said → said.faulty ≡ false → it.faulty ≡ true → ⊥
said_well standing it said same well f = true≢false (sym f ∙ (ap (λ (it : Befallen). it.faulty) same ∙ well))

step_well : (standing : Standing) (answer : StepAnswer) → (after_step standing answer).faulty ≡ false
step_well standing (took label new) = refl
step_well standing (declined refusal) = refl

undo_well : (standing : Standing) (it : Befallen) → UndoComesTo standing it → it.faulty ≡ true → ⊥
undo_well standing _ (is_undone new h) f = true≢false (sym f)
undo_well standing _ (is_at_start e) f = true≢false (sym f)

save_failed : (standing : Standing) (name : List ℕ) (one other : Befallen) → SaveComesTo standing name one → SaveComesTo standing name other
    → one.faulty ≡ true → other.faulty ≡ true → AreAlike standing one other
save_failed standing name _ _ (is_too_long long) other f g = absurd (true≢false (sym f))
save_failed standing name _ _ (is_saved after short put) other f g = absurd (true≢false (sym f))
save_failed standing name _ _ (is_unwritten after short may) (is_too_long long) f g = absurd (true≢false (sym g))
save_failed standing name _ _ (is_unwritten after short may) (is_saved other short' put) f g = absurd (true≢false (sym g))
save_failed standing name _ _ (is_unwritten after short may) (is_unwritten other short' may') f g =
    record { text = refl; quits = refl; basis = refl; progress = refl }

replay_failed : (standing : Standing) (name : List ℕ) (one other : Befallen) → ReplayComesTo standing name one
    → ReplayComesTo standing name other → one.faulty ≡ true → other.faulty ≡ true → AreAlike standing one other
replay_failed standing name _ _ (is_missing missing) other f g = absurd (true≢false (sym f))
replay_failed standing name _ _ (is_long text stands long) other f g = absurd (true≢false (sym f))
replay_failed standing name _ _ (is_refused text refusal stands short is) other f g = absurd (true≢false (sym f))
replay_failed standing name _ _ (is_replayed text new stands short is) other f g = absurd (true≢false (sym f))
replay_failed standing name _ _ is_failed (is_missing missing) f g = absurd (true≢false (sym g))
replay_failed standing name _ _ is_failed (is_long text stands long) f g = absurd (true≢false (sym g))
replay_failed standing name _ _ is_failed (is_refused text refusal stands short is) f g = absurd (true≢false (sym g))
replay_failed standing name _ _ is_failed (is_replayed text new stands short is) f g = absurd (true≢false (sym g))
replay_failed standing name _ _ is_failed is_failed f g = record { text = refl; quits = refl; basis = refl; progress = refl }

pub line_failed : (standing : Standing) (request : Request) (one other : Befallen) → RequestComesTo standing request one
    → RequestComesTo standing request other → one.faulty ≡ true → other.faulty ≡ true → AreAlike standing one other
line_failed standing skip one other h k f g = absurd (said_well standing one _ h refl f)
line_failed standing show_menu one other h k f g = absurd (said_well standing one _ h refl f)
line_failed standing show_behaviour one other h k f g = absurd (said_well standing one _ h refl f)
line_failed standing show_trace one other h k f g = absurd (said_well standing one _ h refl f)
line_failed standing undo one other h k f g = absurd (undo_well standing one h f)
line_failed standing leave one other h k f g = absurd (said_well standing one _ h refl f)
line_failed standing no_request one other h k f g = absurd (said_well standing one _ h refl f)
line_failed standing (take_step number terms) one other h k f g = absurd (said_well standing one _ h.2 (step_well standing h.0) f)
line_failed standing (save name) one other h k f g = save_failed standing name one other h k f g
line_failed standing (replay name) one other h k f g = replay_failed standing name one other h k f g
line_failed standing (show_normal terms) one other h k f g = absurd (said_well standing one _ h.2 refl f)
line_failed standing (compare terms) one other h k f g = absurd (said_well standing one _ h.2 refl f)
line_failed standing (list_values name size) one other h k f g = absurd (said_well standing one _ h.2 refl f)
line_failed standing (list_instances number size) one other h k f g = absurd (said_well standing one _ h.2 refl f)
