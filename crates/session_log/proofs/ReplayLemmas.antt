-- What comes of the lines of a trace.
use Rattle.std.proofs.Common.{◌≡◌, ◌≢◌, ◌<◌, ◌≤◌, ◌+◌, ℕ, List, [], ◌∷◌, map, length, Bool, true, false, nat_eq, Option, Some, None, refl, ap, sym, ◌∙◌, subst, arith}
use Rattle.std.proofs.lemmas.List.{length-map}
use Rattle.std.proofs.lemmas.Option.{none-some}
use Rattle.lotos_base.specs.Signature.{Signature}
use Rattle.lotos_base.specs.Term.{Term}
use Rattle.lotos_base.specs.Equation.{Data}
use Rattle.lotos_base.specs.WrittenTerm.{WrittenTerm}
use Rattle.lotos_base.specs.WrittenView.{written_term_of}
use Rattle.lotos_base.specs.Name.{spelling}
use Rattle.lotos_base.specs.declared.written_terms.Written.{Written}
use Rattle.session_lines.specs.HandedOn.{IsTermsReading, IsTermsFault, ReadFault, NoMemory, label_text, written_label, state_text}
use Rattle.session_lines.specs.HandedOn.read_faults as text_fault
use Rattle.sort_terms.specs.Reading.{IsScopeOver}
use Rattle.sort_terms.proofs.ReadsLemmas.{reads_sorted}
use Rattle.sort_terms.specs.SignatureView.{signature_of}
use Rattle.sort_terms.specs.declared.signatures.Signature.{Signature as CodeSignature}
use Rattle.session_lines.specs.declared.refusals.Refusal.{Refusal}
use Rattle.session_lines.specs.declared.refusals.Refusal.TheVariants as values_refusal
use Rattle.sort_terms.specs.ReadingOutcome.{IsReading, one_name}
use Rattle.sort_terms.specs.SortedView.{term_in}
use Rattle.sort_terms.specs.declared.sorted.Sorted.{Sorted}
use Rattle.behaviour_semantics.specs.Fault.{first_of_two}
use Rattle.behaviour_semantics.specs.Rule.{AreValues}
use Rattle.behaviour_semantics.specs.Label as plain_label
use Rattle.behaviour_semantics.specs.Solving.{Entry as PlainEntry}
use Rattle.behaviour_tree.specs.BehaviourView.{terms_of}
use Rattle.session_histories.specs.Session.{SessionBasis, Situation, Progress, first_situation}
use Rattle.session_histories.specs.Lawful.{HasStepped}
use Rattle.menu_builder.specs.HandedOn.{plain_entry, Entry, Menu}
use Rattle.behaviour_tree.specs.MoveView.{label_of}
use Rattle.behaviour_tree.specs.declared.definitions.Spec.{Spec}
use Rattle.behaviour_tree.specs.declared.moves.Label.{Label}
use Rattle.std.specs.Prelude.{Result, MatchResult}
use Rattle.std.proofs.lemmas.Result.{MatchResult-weaker}
use Rattle.sort_terms.proofs.OutcomeLemmas.{read_ground, is_reading}
use Rattle.behaviour_semantics.proofs.SupplyLemmas.{length-values}
use Rattle.menu_builder.specs.Menus.{entries_in}
use Rattle.session_histories.specs.Refusal as plain
use Rattle.session_histories.specs.Refusal.{StepRefusal, entry_numbered, count_refusal, number_refusal, condition_refusal, value_refusal, step_refusal}
use Rattle.session_histories.specs.Replay.{has_no_form, LineRefusal, bad_line, step_refused, label_differs, state_differs, LinesOutcome, goes_on, stops, ReplayRefusal, in_line, other_specification, AreRead, IsReadStep, shown_label, LineComesTo, is_not_read, is_miscounted, is_misread, is_unmet, is_mislabelled, is_replayed, LinesComeTo, all_done, one_stops, one_goes_on, StateComesTo, is_missing, has_no_state, is_elsewhere, is_there, first_line, shown_state, StatedLinesComeTo, all_stated, step_stops, state_stops, both_go_on, refuses_heading, ComeBehindName, ComeBehind, TraceComesTo, ReplayIs}
use Rattle.behaviour_tree.specs.DefinitionView.{specification_of}
use Rattle.behaviour_tree.specs.StateView.{state_of}
use Rattle.session_histories.specs.TraceLine.{StepLine, step_line, lines_of, kept_state, TraceHeading, no_heading, of_steps, of_states, trace_heading_of}
use Rattle.session_histories.proofs.RefusalLemmas.{free_of_count, fit_sorts}
use Rattle.session_log.proofs.EntryLemmas.{entry_there}
use Rattle.session_log.specs.Entries.{IsEntryAt}
use Rattle.session_log.specs.RefusalView.{TellsStep, TellsLine, TellsReplay, replay_fault_at, IsInLine, line_fault_of, line_fault_of_text, line_fault_of_values}
use Rattle.session_log.specs.CourseView.{basis_over, pasts_of, progress_of, situation_of}
use Rattle.session_log.specs.declared.courses.Course.{Course}
use Rattle.session_log.specs.declared.courses.Past.{Past}
use Rattle.session_log.specs.Lines.{said_by}
use Rattle.session_log.specs.Values.{IsFirstMisread, TellsMisread}
use Rattle.session_log.proofs.ValueLemmas.{one_is_misread}
use Rattle.session_log.specs.Replayed.{written_state, IsStateRefusal, keeps_none, keeps_other, IsStatedBehind, AreReadAt, IsReadRefusal, are_miscounted, are_misread}
use Rattle.session_log.specs.declared.lines.StepLine.{StepLine as CodeLine}
use Rattle.session_log.specs.declared.refusals.LineFault.{LineFault}
use Rattle.session_log.specs.declared.refusals.LineFault.TheVariants as line_fault
use Rattle.session_log.specs.declared.refusals.ReplayFault.{ReplayFault}
use Rattle.session_log.specs.declared.refusals.ReplayFault.TheVariants as replay
use Rattle.session_log.specs.declared.refusals.StepRefusal.{StepRefusal as CodeRefusal}
use Rattle.session_log.specs.declared.refusals.StepRefusal.TheVariants as step

-- ---- Faults of lines with their numbers

pub told_at : (Is : LineRefusal → Type 0) (line : ℕ) (fault : LineFault) → TellsLine Is fault
    → TellsReplay (IsInLine line Is) (replay_fault_at fault line)
told_at Is line line_fault.BadLine h = (refl, h)
told_at Is line (line_fault.LabelDiffers kept found) h = (refl, h)
told_at Is line (line_fault.StateDiffers kept found) h = (refl, h)
told_at Is line (line_fault.Step refusal) h = (h.0, h.1, (refl, h.2))
told_at Is line line_fault.NoMemory h = tt

pub told_as : (Is : LineRefusal → Type 0) (line : ℕ) (fault : LineFault) (told : ReplayFault) → told ≡ replay_fault_at fault line
    → TellsLine Is fault → TellsReplay (IsInLine line Is) told
told_as Is line fault told is h = subst (TellsReplay (IsInLine line Is)) (sym is) (told_at Is line fault h)

pub tells_line : (Is Other : LineRefusal → Type 0) → ((why : LineRefusal) → Is why → Other why) → (fault : LineFault) → TellsLine Is fault
    → TellsLine Other fault
tells_line Is Other so line_fault.BadLine h = so bad_line h
tells_line Is Other so (line_fault.LabelDiffers kept found) h = so (label_differs kept.items found.items) h
tells_line Is Other so (line_fault.StateDiffers kept found) h = so (state_differs kept.items found.items) h
tells_line Is Other so (line_fault.Step refusal) h = (h.0, h.1, so (step_refused h.0) h.2)
tells_line Is Other so line_fault.NoMemory h = tt

-- ---- Terms of a line that are read or not

pub terms_told : (text : List ℕ) (fault : ReadFault) → IsTermsFault 0 text fault
    → TellsLine (λ (why : LineRefusal). (why ≡ bad_line) × (other : ReadFault) × IsTermsFault 0 text other × (other ≢ NoMemory))
    (line_fault_of_text fault)
terms_told text text_fault.TooLong h = (refl, text_fault.TooLong, h, λ e. absurd (cc e))
terms_told text (text_fault.BadByte place) h = (refl, text_fault.BadByte place, h, λ e. absurd (cc e))
terms_told text (text_fault.OpenComment place) h = (refl, text_fault.OpenComment place, h, λ e. absurd (cc e))
terms_told text (text_fault.Syntax place) h = (refl, text_fault.Syntax place, h, λ e. absurd (cc e))
terms_told text (text_fault.TooDeep place) h = (refl, text_fault.TooDeep place, h, λ e. absurd (cc e))
terms_told text text_fault.NoMemory h = tt

-- ---- Why values are not read

counts_told : (signature : Signature) (menu : Menu) (number : ℕ) (terms : List WrittenTerm) (refusal : CodeRefusal)
    → TellsStep (number_refusal (entries_in menu) number (length terms)) refusal
    → TellsLine (IsReadRefusal signature menu number terms) (line_fault_of refusal)
counts_told signature menu number terms (step.NoEntry n count) h =
    (plain.no_entry n count, refl, are_miscounted (plain.no_entry n count) h)
counts_told signature menu number terms (step.ValueCount wanted found) h =
    (plain.value_count wanted found, refl, are_miscounted (plain.value_count wanted found) h)
counts_told signature menu number terms (step.ValueSort at) h =
    (plain.value_sort at, refl, are_miscounted (plain.value_sort at) h)
counts_told signature menu number terms (step.Unmet left right) h =
    (plain.unmet (term_in left) (term_in right), refl, are_miscounted (plain.unmet (term_in left) (term_in right)) h)
counts_told signature menu number terms step.NoMemory h = tt

pub count_told : (signature : Signature) (menu : Menu) (number : ℕ) (terms : List Written) (refusal : CodeRefusal)
    → TellsStep (number_refusal (entries_in menu) number (length terms)) refusal
    → TellsLine (IsReadRefusal signature menu number (map written_term_of terms)) (line_fault_of refusal)
count_told signature menu number terms refusal h =
    counts_told signature menu number (map written_term_of terms) refusal
    (subst (λ (n : ℕ). TellsStep (number_refusal (entries_in menu) number n) refusal) (sym (length-map terms written_term_of)) h)

pub entry_misread : (signature : Signature) (menu : Menu) (number : ℕ) (entry : Entry) (terms : List Written) → IsEntryAt menu number entry
    → length terms ≡ length entry.vars.items → (refusal : Refusal)
    → TellsMisread (IsFirstMisread signature entry.vars.items (map written_term_of terms)) refusal
    → TellsLine (IsReadRefusal signature menu number (map written_term_of terms)) (line_fault_of_values refusal)
entry_misread signature menu number entry terms listed counted values_refusal.BadCommand h = absurd h
entry_misread signature menu number entry terms listed counted (values_refusal.BadTerm code) h =
    are_misread (plain_entry entry) (entry_there menu number entry listed) (length-map terms written_term_of ∙ counted)
    (one_is_misread signature entry.vars.items (map written_term_of terms) h.0 h.1)
entry_misread signature menu number entry terms listed counted values_refusal.NoMemory h = tt

-- ---- What a line comes to

pub no_scope : (signature : Signature) → IsScopeOver signature []
no_scope signature i v e = absurd (none-some _ e)

-- values that are read are ground terms of their sorts
pub read_values : (signature : Signature) (sorts : List ℕ) (terms : List WrittenTerm) (values : List Term)
    → AreRead signature sorts terms values → AreValues signature sorts values
read_values signature [] [] [] h = tt
read_values signature [] [] (value ∷ values) h = absurd h
read_values signature [] (term ∷ terms) values h = absurd h
read_values signature (sort ∷ sorts) [] values h = absurd h
read_values signature (sort ∷ sorts) (term ∷ terms) [] h = absurd h
read_values signature (sort ∷ sorts) (term ∷ terms) (value ∷ values) h =
    let is : IsReading signature [] term (Some sort) (record { term = value; sort = sort }) =
    is_reading _ _ (IsReading signature [] term (Some sort)) (record { term = value; sort = sort }) h.0 in (
      record {
        ground = read_ground signature term value sort is.0;
        sorted = reads_sorted signature [] (no_scope signature) term value sort is.0;
      },
      read_values signature sorts terms values h.1,
    )

module _ (basis : SessionBasis) (progress : Progress) (line : List ℕ) (said : StepLine) (form : step_line line ≡ Some said) where
  pub stops_unread : (why : LineRefusal)
      → (why ≡ bad_line) × (fault : ReadFault) × IsTermsFault 0 said.terms fault × (fault ≢ NoMemory)
      → LineComesTo basis progress line (stops why)
  stops_unread why h =
      subst (λ (it : LineRefusal). LineComesTo basis progress line (stops it)) (sym h.0) (is_not_read said h.1 form h.2 h.3)

  module _ (terms : List WrittenTerm) (read : IsTermsReading 0 said.terms terms) where
    pub stops_misread : (menu : Menu) → progress.situation.menu ≡ entries_in menu → (why : LineRefusal)
        → IsReadRefusal basis.data_.signature menu said.number terms why → LineComesTo basis progress line (stops why)
    stops_misread menu same _ (are_miscounted refusal e) =
        is_miscounted said terms refusal (record { form = form; read = read })
        (subst (λ (it : List PlainEntry). number_refusal it said.number (length terms) ≡ Some refusal) (sym same) e)
    stops_misread menu same _ (are_misread entry listed counted mis) =
        is_misread said terms entry (record { form = form; read = read })
        (subst (λ (it : List PlainEntry). entry_numbered it said.number ≡ Some entry) (sym same) listed) counted mis

    module _ (entry : PlainEntry) (values : List Term) (listed : entry_numbered progress.situation.menu said.number ≡ Some entry)
        (given : AreRead basis.data_.signature entry.variables terms values) where
      is_step : IsReadStep basis progress.situation.menu line said entry values
      is_step = record { terms = terms; is_line = record { form = form; read = read }; listed = listed; read = given }

      sorted : AreValues basis.data_.signature entry.variables values
      sorted = read_values basis.data_.signature entry.variables terms values given

      -- nothing but a condition can refuse the step
      conditions_alone : step_refusal basis progress.situation.menu said.number values ≡ condition_refusal basis.canon entry values
      conditions_alone =
          ap (λ (it : Option PlainEntry). first_of_two (count_refusal said.number (length progress.situation.menu) it (length values))
          (value_refusal basis.data_.signature basis.canon it values)) listed
          ∙ (ap (λ (it : Option StepRefusal). first_of_two it (value_refusal basis.data_.signature basis.canon (Some entry) values))
          (free_of_count said.number (length progress.situation.menu) entry (length values)
          (length-values basis.data_.signature entry.variables values sorted))
          ∙ ap (λ (it : Option StepRefusal). first_of_two it (condition_refusal basis.canon entry values))
          (fit_sorts basis.data_.signature 0 entry.variables values sorted))

      pub stops_refused : (why : StepRefusal) → step_refusal basis progress.situation.menu said.number values ≡ Some why
          → LineComesTo basis progress line (stops (step_refused why))
      stops_refused why e = is_unmet said entry values why is_step (sym conditions_alone ∙ e)

      pub step_told : (refusal : CodeRefusal) → TellsStep (step_refusal basis progress.situation.menu said.number values) refusal
          → TellsLine (λ (why : LineRefusal). LineComesTo basis progress line (stops why)) (line_fault_of refusal)
      step_told (step.NoEntry number count) h = (plain.no_entry number count, refl, stops_refused (plain.no_entry number count) h)
      step_told (step.ValueCount wanted found) h = (plain.value_count wanted found, refl, stops_refused (plain.value_count wanted found) h)
      step_told (step.ValueSort at) h = (plain.value_sort at, refl, stops_refused (plain.value_sort at) h)
      step_told (step.Unmet left right) h =
          (plain.unmet (term_in left) (term_in right), refl, stops_refused (plain.unmet (term_in left) (term_in right)) h)
      step_told step.NoMemory h = tt

      module _ (label : plain_label.Label) (new : Progress) (stepped : HasStepped basis progress said.number values label new) where
        pub goes_on_replayed : said.label ≡ shown_label basis label → LineComesTo basis progress line (goes_on new)
        goes_on_replayed same = is_replayed said entry values label new is_step stepped same

        pub stops_mislabelled : (shown : List ℕ) → shown ≡ shown_label basis label → (why : LineRefusal)
            → (said.label ≢ shown) × (why ≡ label_differs said.label shown) → LineComesTo basis progress line (stops why)
        stops_mislabelled shown is why h =
            subst (λ (it : LineRefusal). LineComesTo basis progress line (stops it))
            (sym (h.1 ∙ ap (λ (it : List ℕ). label_differs said.label it) is))
            (is_mislabelled said entry values label new is_step stepped (λ e. h.0 (e ∙ sym is)))

-- ---- What a line of the code comes to

pub no_form : (basis : SessionBasis) (progress : Progress) (line : List ℕ) (why : LineRefusal) → (why ≡ bad_line) × (step_line line ≡ None)
    → LineComesTo basis progress line (stops why)
no_form basis progress line why h =
    subst (λ (it : LineRefusal). LineComesTo basis progress line (stops it)) (sym h.0) (has_no_form h.1)

pub label_shown : (data_ : Data) (canon : Term → Term) (spec : Spec) (signature : CodeSignature) (label : Label)
    → signature_of signature ≡ data_.signature
    → written_label signature spec.gate_names.items label ≡ shown_label (basis_over data_ canon spec) (label_of label)
label_shown data_ canon spec signature label same =
    ap (λ (it : Signature). label_text it (map spelling spec.gate_names.items) (label_of label)) same

module _ (data_ : Data) (canon : Term → Term) (spec : Spec) (progress : Progress) (line : List ℕ) (said : CodeLine)
    (form : step_line line ≡ Some (said_by said)) (terms : List WrittenTerm) (read : IsTermsReading 0 said.terms.now terms) (menu : Menu)
    (same : progress.situation.menu ≡ entries_in menu) (values : List Sorted)
    (at : AreReadAt data_.signature menu said.number terms values) where
  there : entry_numbered progress.situation.menu said.number ≡ Some (plain_entry at.entry)
  there = ap (λ (it : List PlainEntry). entry_numbered it said.number) same ∙ entry_there menu said.number at.entry at.listed

  pub step_told_of_line : (refusal : CodeRefusal)
      → TellsStep (step_refusal (basis_over data_ canon spec) progress.situation.menu said.number (terms_of values)) refusal
      → TellsLine (λ (why : LineRefusal). LineComesTo (basis_over data_ canon spec) progress line (stops why)) (line_fault_of refusal)
  step_told_of_line refusal h =
      step_told (basis_over data_ canon spec) progress line (said_by said) form terms read (plain_entry at.entry) (terms_of values) there
      at.read refusal h

  pub label_told_of_line : (signature : CodeSignature) → signature_of signature ≡ data_.signature → (label : Label) (new : Progress)
      → HasStepped (basis_over data_ canon spec) progress said.number (terms_of values) (label_of label) new
      → {T : Type 0} (r : Result T LineFault)
      → MatchResult r (λ _. said.label.now ≡ written_label signature spec.gate_names.items label)
      (TellsLine (λ (why : LineRefusal). (said.label.now ≢ written_label signature spec.gate_names.items label)
      × (why ≡ label_differs said.label.now (written_label signature spec.gate_names.items label))))
      → MatchResult r (λ _. LineComesTo (basis_over data_ canon spec) progress line (goes_on new))
      (TellsLine (λ (why : LineRefusal). LineComesTo (basis_over data_ canon spec) progress line (stops why)))
  label_told_of_line signature printed label new stepped r h =
      MatchResult-weaker r h
      (λ _ e. goes_on_replayed (basis_over data_ canon spec) progress line (said_by said) form terms read (plain_entry at.entry)
      (terms_of values) there at.read (label_of label) new stepped (e ∙ label_shown data_ canon spec signature label printed))
      (λ fault k. tells_line (λ (why : LineRefusal). (said.label.now ≢ written_label signature spec.gate_names.items label)
      × (why ≡ label_differs said.label.now (written_label signature spec.gate_names.items label)))
      (λ (why : LineRefusal). LineComesTo (basis_over data_ canon spec) progress line (stops why))
      (stops_mislabelled (basis_over data_ canon spec) progress line (said_by said) form terms read (plain_entry at.entry)
      (terms_of values) there at.read (label_of label) new stepped (written_label signature spec.gate_names.items label)
      (label_shown data_ canon spec signature label printed)) fault k)

-- ---- What lines come to

-- What lines come to by their number, where the session stands, and what they are.
abbrev pub Lines : Type 1
Lines = ℕ → Progress → List (List ℕ) → LinesOutcome ReplayRefusal → Type 0

-- What is left of the lines decides what the whole trace comes to.
abbrev pub Decides : Lines → ℕ → Progress → List ℕ → (LinesOutcome ReplayRefusal → Type 0) → Type 0
Decides Comes number progress rest Whole =
    (outcome : LinesOutcome ReplayRefusal) → Comes number progress (lines_of rest) outcome → Whole outcome

pub line_done : (basis : SessionBasis) (number : ℕ) (progress new : Progress) (line rest more : List ℕ)
    (Whole : LinesOutcome ReplayRefusal → Type 0) → Decides (LinesComeTo basis) number progress rest Whole
    → lines_of rest ≡ line ∷ lines_of more → LineComesTo basis progress line (goes_on new)
    → Decides (LinesComeTo basis) (number + 1) new more Whole
line_done basis number progress new line rest more Whole decides cut is = λ outcome h.
    decides outcome (subst (λ (it : List (List ℕ)). LinesComeTo basis number progress it outcome) (sym cut) (one_goes_on is h))

pub line_refused : (basis : SessionBasis) (number : ℕ) (progress : Progress) (line rest more : List ℕ) (why : LineRefusal)
    (Whole : LinesOutcome ReplayRefusal → Type 0) → Decides (LinesComeTo basis) number progress rest Whole
    → lines_of rest ≡ line ∷ lines_of more → LineComesTo basis progress line (stops why) → Whole (stops (in_line number why))
line_refused basis number progress line rest more why Whole decides cut is =
    decides (stops (in_line number why))
    (subst (λ (it : List (List ℕ)). LinesComeTo basis number progress it (stops (in_line number why))) (sym cut) (one_stops is))

-- where no line is left, the whole goes on
pub ended_so : (Comes : Lines) → ((number : ℕ) (progress : Progress) → Comes number progress [] (goes_on progress)) → (number : ℕ)
    (progress : Progress) (rest : List ℕ) (Whole : LinesOutcome ReplayRefusal → Type 0) → Decides Comes number progress rest Whole
    → length rest < 1 → Whole (goes_on progress)
ended_so Comes none number progress [] Whole decides short = decides (goes_on progress) (none number progress)
ended_so Comes none number progress (byte ∷ rest) Whole decides short = absurd (omega (arith, short))

pub lines_ended : (basis : SessionBasis) (number : ℕ) (progress : Progress) (rest : List ℕ) (Whole : LinesOutcome ReplayRefusal → Type 0)
    → Decides (LinesComeTo basis) number progress rest Whole → length rest < 1 → Whole (goes_on progress)
lines_ended basis number progress rest Whole decides short =
    ended_so (LinesComeTo basis) (λ n p. all_done) number progress rest Whole decides short

pub stated_ended : (basis : SessionBasis) (number : ℕ) (progress : Progress) (rest : List ℕ) (Whole : LinesOutcome ReplayRefusal → Type 0)
    → Decides (StatedLinesComeTo basis) number progress rest Whole → length rest < 1 → Whole (goes_on progress)
stated_ended basis number progress rest Whole decides short =
    ended_so (StatedLinesComeTo basis) (λ n p. all_stated) number progress rest Whole decides short

-- the faults of a line as those of the trace
pub faults_told : (Is Other : ReplayRefusal → Type 0) → ((refusal : ReplayRefusal) → Is refusal → Other refusal) → (fault : ReplayFault)
    → TellsReplay Is fault → TellsReplay Other fault
faults_told Is Other so (replay.BadLine line) h = so (in_line line bad_line) h
faults_told Is Other so (replay.OtherSpecification kept) h = so (other_specification kept.items) h
faults_told Is Other so (replay.LabelDiffers line kept found) h = so (in_line line (label_differs kept.items found.items)) h
faults_told Is Other so (replay.StateDiffers line kept found) h = so (in_line line (state_differs kept.items found.items)) h
faults_told Is Other so (replay.Step line refusal) h = (h.0, h.1, so (in_line line (step_refused h.0)) h.2)
faults_told Is Other so replay.NoMemory h = tt

-- a refusal in a line stops the trace, where it does for each reason
pub refused_so : (number : ℕ) (Is : LineRefusal → Type 0) (Whole : LinesOutcome ReplayRefusal → Type 0)
    → ((why : LineRefusal) → Is why → Whole (stops (in_line number why))) → (fault : ReplayFault)
    → TellsReplay (IsInLine number Is) fault → TellsReplay (λ (refusal : ReplayRefusal). Whole (stops refusal)) fault
refused_so number Is Whole so fault h =
    faults_told (IsInLine number Is) (λ (refusal : ReplayRefusal). Whole (stops refusal)) told fault h
  where
    told : (refusal : ReplayRefusal) → IsInLine number Is refusal → Whole (stops refusal)
    told (in_line line why) k = subst (λ (n : ℕ). Whole (stops (in_line n why))) (sym k.0) (so why k.1)
    told (other_specification kept) k = absurd k

-- a line that is refused stops the trace
pub refused_at : (basis : SessionBasis) (number : ℕ) (progress : Progress) (line rest more : List ℕ)
    (Whole : LinesOutcome ReplayRefusal → Type 0) → Decides (LinesComeTo basis) number progress rest Whole
    → lines_of rest ≡ line ∷ lines_of more → (fault : ReplayFault)
    → TellsReplay (IsInLine number (λ why. LineComesTo basis progress line (stops why))) fault
    → TellsReplay (λ (refusal : ReplayRefusal). Whole (stops refusal)) fault
refused_at basis number progress line rest more Whole decides cut fault h =
    refused_so number (λ why. LineComesTo basis progress line (stops why)) Whole
    (λ why is. line_refused basis number progress line rest more why Whole decides cut is) fault h

-- ---- Lines of steps and states

pub both_done : (basis : SessionBasis) (number after : ℕ) (progress new : Progress) (line rest more last : List ℕ)
    (Whole : LinesOutcome ReplayRefusal → Type 0) → after ≡ number + 2 → Decides (StatedLinesComeTo basis) number progress rest Whole
    → lines_of rest ≡ line ∷ lines_of more → LineComesTo basis progress line (goes_on new) → IsStatedBehind basis new more last
    → Decides (StatedLinesComeTo basis) after new last Whole
both_done basis number after progress new line rest more last Whole counted decides cut is stated = λ outcome h.
    decides outcome
    (subst (λ (it : List (List ℕ)). StatedLinesComeTo basis number progress it outcome)
    (sym (cut ∙ ap (λ (it : List (List ℕ)). line ∷ it) stated.cut))
    (both_go_on is stated.is (subst (λ (n : ℕ). StatedLinesComeTo basis n new (lines_of last) outcome) counted h)))

pub step_refused_at : (basis : SessionBasis) (number : ℕ) (progress : Progress) (line rest more : List ℕ)
    (Whole : LinesOutcome ReplayRefusal → Type 0) → Decides (StatedLinesComeTo basis) number progress rest Whole
    → lines_of rest ≡ line ∷ lines_of more → (fault : ReplayFault)
    → TellsReplay (IsInLine number (λ why. LineComesTo basis progress line (stops why))) fault
    → TellsReplay (λ (refusal : ReplayRefusal). Whole (stops refusal)) fault
step_refused_at basis number progress line rest more Whole decides cut fault h =
    refused_so number (λ why. LineComesTo basis progress line (stops why)) Whole
    (λ why is. decides (stops (in_line number why))
    (subst (λ (it : List (List ℕ)). StatedLinesComeTo basis number progress it (stops (in_line number why))) (sym cut)
    (step_stops is))) fault h

pub state_refused_at : (basis : SessionBasis) (number after : ℕ) (progress new : Progress) (line rest more : List ℕ)
    (Whole : LinesOutcome ReplayRefusal → Type 0) → after ≡ number + 1 → Decides (StatedLinesComeTo basis) number progress rest Whole
    → lines_of rest ≡ line ∷ lines_of more → LineComesTo basis progress line (goes_on new) → (fault : ReplayFault)
    → TellsReplay (IsInLine after (λ why. StateComesTo basis new (first_line (lines_of more)) (stops why))) fault
    → TellsReplay (λ (refusal : ReplayRefusal). Whole (stops refusal)) fault
state_refused_at basis number after progress new line rest more Whole counted decides cut goes fault h =
    refused_so after (λ why. StateComesTo basis new (first_line (lines_of more)) (stops why)) Whole
    (λ why is. subst (λ (n : ℕ). Whole (stops (in_line n why))) (sym counted) (decides (stops (in_line (number + 1) why))
    (subst (λ (it : List (List ℕ)). StatedLinesComeTo basis number progress it (stops (in_line (number + 1) why))) (sym cut)
    (state_stops goes is)))) fault h

-- ---- The line of a state

pub state_shown : (data_ : Data) (canon : Term → Term) (spec : Spec) (signature : CodeSignature) (course : Course)
    → signature_of signature ≡ data_.signature
    → written_state signature spec course.state ≡ shown_state (basis_over data_ canon spec) (progress_of course)
state_shown data_ canon spec signature course same =
    ap (λ (it : Signature). state_text it (specification_of spec) (state_of course.state)) same

pub none_kept : (line text : List ℕ) (why : LineRefusal) → (why ≡ bad_line) × (kept_state line ≡ None) → IsStateRefusal line text why
none_kept line text why h = subst (IsStateRefusal line text) (sym h.0) (keeps_none h.1)

pub other_kept : (line kept found text : List ℕ) → kept_state line ≡ Some kept → found ≡ text → (why : LineRefusal)
    → (kept ≢ found) × (why ≡ state_differs kept found) → IsStateRefusal line text why
other_kept line kept found text keeps same why h =
    subst (IsStateRefusal line text) (sym h.1)
    (subst (λ (it : List ℕ). IsStateRefusal line text (state_differs kept it)) (sym same)
    (keeps_other kept keeps (λ e. h.0 (e ∙ sym same))))

pub some_there : (rest : List ℕ) → nat_eq (length rest) 0 ≡ false → 0 < length rest
some_there [] is = let never : true ≡ false = is in absurd (cc never)
some_there (byte ∷ rest) is = omega arith

pub state_kept : (basis : SessionBasis) (progress : Progress) (rest line more text : List ℕ) → lines_of rest ≡ line ∷ lines_of more
    → text ≡ shown_state basis progress → kept_state line ≡ Some text → IsStatedBehind basis progress rest more
state_kept basis progress rest line more text cut shown keeps = record {
  state = line;
  cut = cut;
  is = is_there (keeps ∙ ap (λ (it : List ℕ). Some it) shown);
}

pub state_refused : (basis : SessionBasis) (progress : Progress) (line text : List ℕ) (lines : List (List ℕ)) → text ≡ shown_state basis progress
    → (why : LineRefusal) → IsStateRefusal line text why → StateComesTo basis progress (first_line (line ∷ lines)) (stops why)
state_refused basis progress line text lines shown _ (keeps_none none) = has_no_state none
state_refused basis progress line text lines shown _ (keeps_other kept keeps other) =
    subst (λ (it : List ℕ). StateComesTo basis progress (Some line) (stops (state_differs kept it))) (sym shown)
    (is_elsewhere kept keeps (λ same. other (same ∙ sym shown)))

pub none_left : (basis : SessionBasis) (progress : Progress) (number : ℕ) (rest : List ℕ) → rest ≡ []
    → IsInLine number (λ why. StateComesTo basis progress (first_line (lines_of rest)) (stops why)) (in_line number bad_line)
none_left basis progress number rest none =
    (refl, subst (λ (it : List ℕ). StateComesTo basis progress (first_line (lines_of it)) (stops bad_line)) (sym none) is_missing)

pub state_told : (basis : SessionBasis) (progress : Progress) (number : ℕ) (rest line more text : List ℕ)
    → lines_of rest ≡ line ∷ lines_of more → text ≡ shown_state basis progress → (fault : LineFault) (told : ReplayFault)
    → told ≡ replay_fault_at fault number → TellsLine (IsStateRefusal line text) fault
    → TellsReplay (IsInLine number (λ why. StateComesTo basis progress (first_line (lines_of rest)) (stops why))) told
state_told basis progress number rest line more text cut shown fault told is h =
    told_as (λ why. StateComesTo basis progress (first_line (lines_of rest)) (stops why)) number fault told is
    (tells_line (IsStateRefusal line text) (λ why. StateComesTo basis progress (first_line (lines_of rest)) (stops why))
    (λ why k. subst (λ (it : List (List ℕ)). StateComesTo basis progress (first_line it) (stops why)) (sym cut)
    (state_refused basis progress line text (lines_of more) shown why k)) fault h)

-- what holds over data that have not changed
pub over_same : (data_ other : Data) (canon also : Term → Term) (P : Data → (Term → Term) → Type 0) → other ≡ data_ → also ≡ canon
    → P other also → P data_ canon
over_same data_ other canon also P same same_canon h = subst (λ (d : Data). P d canon) same (subst (P other) same_canon h)

-- ---- A trace with its heading

-- what comes behind the first line is what the whole comes to
pub behind_first : (basis : SessionBasis) (first : Situation) (text line rest : List ℕ) (outcome : LinesOutcome ReplayRefusal)
    → (0 < length text → lines_of text ≡ line ∷ lines_of rest) → 0 < length text
    → ComeBehind basis first (trace_heading_of line) (lines_of rest) outcome → ReplayIs basis first text outcome
behind_first basis first text line rest outcome cut some h =
    subst (λ (it : List (List ℕ)). TraceComesTo basis first it outcome) (sym (cut some)) h

-- a text without a heading, which may be empty
pub bad_heading : (basis : SessionBasis) (first : Situation) (text line rest : List ℕ)
    → (0 < length text → lines_of text ≡ line ∷ lines_of rest) → trace_heading_of line ≡ no_heading
    → ReplayIs basis first text refuses_heading
bad_heading basis first [] line rest cut none = refl
bad_heading basis first (byte ∷ text) line rest cut none =
    behind_first basis first (byte ∷ text) line rest refuses_heading cut (omega arith)
    (subst (λ (it : TraceHeading). ComeBehind basis first it (lines_of rest) refuses_heading) (sym none) refl)

-- a heading has a byte
pub heading_some : (line text : List ℕ) → (trace_heading_of line ≡ no_heading → ⊥) → length line ≤ length text → 0 < length text
heading_some [] text heading within = absurd (heading refl)
heading_some (byte ∷ line) text heading within = omega (arith, within)

-- lines of steps behind their heading
pub replayed_behind : (basis : SessionBasis) (course : Course) (text line rest : List ℕ)
    → (0 < length text → lines_of text ≡ line ∷ lines_of rest) → length line ≤ length text → trace_heading_of line ≡ of_steps
    → course.history.items ≡ [] → (outcome : LinesOutcome ReplayRefusal)
    → LinesComeTo basis 2 (progress_of course) (lines_of rest) outcome
    → ReplayIs basis (situation_of course.state course.menu) text outcome
replayed_behind basis course text line rest cut within heading none outcome h =
    behind_first basis (situation_of course.state course.menu) text line rest outcome cut
    (heading_some line text (λ other. absurd (cc (other, heading))) within)
    (subst (λ (it : TraceHeading). ComeBehind basis (situation_of course.state course.menu) it (lines_of rest) outcome) (sym heading)
    (subst (λ (it : List Past). LinesComeTo basis 2 (record { situation = situation_of course.state course.menu; steps = pasts_of it })
    (lines_of rest) outcome) none h))

-- lines of steps and states behind a heading with a name
pub named_behind : (basis : SessionBasis) (course : Course) (text line rest kept : List ℕ)
    → (0 < length text → lines_of text ≡ line ∷ lines_of rest) → length line ≤ length text → trace_heading_of line ≡ of_states kept
    → course.history.items ≡ [] → (outcome : LinesOutcome ReplayRefusal)
    → ComeBehindName basis (situation_of course.state course.menu) (one_name kept basis.specification.name) kept (lines_of rest) outcome
    → ReplayIs basis (situation_of course.state course.menu) text outcome
named_behind basis course text line rest kept cut within heading none outcome h =
    behind_first basis (situation_of course.state course.menu) text line rest outcome cut
    (heading_some line text (λ other. absurd (cc (other, heading))) within)
    (subst (λ (it : TraceHeading). ComeBehind basis (situation_of course.state course.menu) it (lines_of rest) outcome) (sym heading) h)

pub stated_behind : (basis : SessionBasis) (course : Course) (rest kept : List ℕ)
    → one_name kept basis.specification.name ≡ true → course.history.items ≡ [] → (outcome : LinesOutcome ReplayRefusal)
    → StatedLinesComeTo basis 2 (progress_of course) (lines_of rest) outcome
    → ComeBehindName basis (situation_of course.state course.menu) (one_name kept basis.specification.name) kept (lines_of rest) outcome
stated_behind basis course rest kept same none outcome h =
    subst (λ (it : Bool). ComeBehindName basis (situation_of course.state course.menu) it kept (lines_of rest) outcome) (sym same)
    (subst (λ (it : List Past). StatedLinesComeTo basis 2
    (record { situation = situation_of course.state course.menu; steps = pasts_of it }) (lines_of rest) outcome) none h)

pub other_behind : (basis : SessionBasis) (first : Situation) (kept : List ℕ) (lines : List (List ℕ))
    → one_name kept basis.specification.name ≡ false
    → ComeBehindName basis first (one_name kept basis.specification.name) kept lines (stops (other_specification kept))
other_behind basis first kept lines other =
    subst (λ (it : Bool). ComeBehindName basis first it kept lines (stops (other_specification kept))) (sym other) refl

-- ---- A replay from the beginning of a session

pub replayed_here : (data_ other : Data) (canon also : Term → Term) (spec : Spec) (old begun : Course) (text : List ℕ) → other ≡ data_
    → also ≡ canon → situation_of begun.state begun.menu ≡ first_situation (progress_of old) → (outcome : LinesOutcome ReplayRefusal)
    → ReplayIs (basis_over other also spec) (situation_of begun.state begun.menu) text outcome
    → ReplayIs (basis_over data_ canon spec) (first_situation (progress_of old)) text outcome
replayed_here data_ other canon also spec old begun text same same_canon start outcome h =
    subst (λ (it : Situation). ReplayIs (basis_over data_ canon spec) it text outcome) start
    (over_same data_ other canon also (λ (d : Data) (k : Term → Term). ReplayIs (basis_over d k spec)
    (situation_of begun.state begun.menu) text outcome) same same_canon h)

pub replay_told_here : (data_ other : Data) (canon also : Term → Term) (spec : Spec) (old begun : Course) (text : List ℕ) → other ≡ data_
    → also ≡ canon → situation_of begun.state begun.menu ≡ first_situation (progress_of old) → (fault : ReplayFault)
    → TellsReplay (λ (why : ReplayRefusal). ReplayIs (basis_over other also spec) (situation_of begun.state begun.menu) text (stops why))
    fault
    → TellsReplay (λ (why : ReplayRefusal). ReplayIs (basis_over data_ canon spec) (first_situation (progress_of old)) text (stops why))
    fault
replay_told_here data_ other canon also spec old begun text same same_canon start fault h =
    faults_told
    (λ (why : ReplayRefusal). ReplayIs (basis_over other also spec) (situation_of begun.state begun.menu) text (stops why))
    (λ (why : ReplayRefusal). ReplayIs (basis_over data_ canon spec) (first_situation (progress_of old)) text (stops why))
    (λ why k. replayed_here data_ other canon also spec old begun text same same_canon start (stops why) k) fault h
