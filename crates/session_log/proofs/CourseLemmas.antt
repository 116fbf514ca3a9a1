-- Courses that are begun, stepped and undone.
use Rattle.std.proofs.Common.{◌≡◌, ◌≢◌, ℕ, zero, suc, ◌+◌, drop, List, [], ◌∷◌, ◌++◌, Some, None, length, append-nil, false, refl, ap, ap₂, sym, ◌∙◌, subst}
use Rattle.std.proofs.lemmas.List.{map-append, nil_from_length, length-map}
use Rattle.std.proofs.lemmas.Option.{none-some}
use Rattle.lotos_base.specs.Signature.{Signature}
use Rattle.lotos_base.specs.Term.{Term}
use Rattle.lotos_base.specs.Equation.{Data}
use Rattle.lotos_base.specs.Canon.{IsCanon}
use Rattle.behaviour_semantics.specs.Derives.{DerivesCanonically}
use Rattle.behaviour_semantics.specs.Fault.{fault_of}
use Rattle.behaviour_semantics.specs.Label as plain
use Rattle.behaviour_semantics.specs.Menu.{Exact, Meets}
use Rattle.behaviour_semantics.specs.Shape as plain_shape
use Rattle.behaviour_semantics.specs.WellFormed.{Every, IsClosedBehaviour}
use Rattle.behaviour_semantics.proofs.OptionLemmas.{some_value}
use Rattle.behaviour_semantics.proofs.FaultLemmas.{faultless_where_kept}
use Rattle.behaviour_semantics.proofs.ListLemmas.{Every-append}
use Rattle.behaviour_tree.specs.BehaviourTerms.{profiles_of}
use Rattle.behaviour_tree.specs.BehaviourView.{terms_of}
use Rattle.behaviour_tree.specs.Closed.{IsClosedNode}
use Rattle.behaviour_tree.specs.DefinitionView.{specification_of}
use Rattle.behaviour_tree.specs.MoveView.{derivation_of, label_of}
use Rattle.behaviour_tree.specs.Over.{AreTermsOf}
use Rattle.behaviour_tree.specs.StateView.{node_profiles, state_of}
use Rattle.behaviour_tree.specs.declared.definitions.Spec.{Spec}
use Rattle.behaviour_tree.specs.declared.moves.Derivation.{Derivation}
use Rattle.behaviour_tree.specs.declared.moves.Label.{Label}
use Rattle.behaviour_tree.specs.declared.states.State.{State}
use Rattle.menu_builder.specs.HandedOn.{canonical_derivation, label_profiles, plain_entry, Menu, Entry, Ranks}
use Rattle.menu_builder.specs.Menus.{entries_in}
use Rattle.sort_terms.specs.declared.sorted.Sorted.{Sorted}
use Rattle.session_histories.specs.Session.{SessionBasis, Situation, PastStep, Progress, first_of, first_situation, stepped, HasUndone}
use Rattle.session_histories.specs.Refusal.{entry_numbered, number_refusal, value_refusal, step_refusal}
use Rattle.session_histories.specs.Lawful.{IsSituation, LeadTo, IsLawful, HasStepped}
use Rattle.session_histories.specs.SessionLaws.{IsStateOver}
use Rattle.session_histories.specs.StepLaws.{HasItem}
use Rattle.session_histories.proofs.ProgressLemmas.{stepped_lawful, undone_lawful}
use Rattle.session_histories.proofs.StepLemmas.{equal_leaves, lawful_item, met_where_kept, one_situation}
use Rattle.session_log.specs.CourseView.{basis_over, past_item_of, situation_of, past_of, pasts_of, progress_of}
use Rattle.session_log.specs.Courses.{AreClosedStates, IsGoneOn, IsUndone, oldest_state, first_state_of, behind_state}
use Rattle.session_log.specs.Entries.{AreGiven, IsDerivationFor, IsEntryAt}
use Rattle.session_log.specs.Kept.{AreSuited, IsKeptCourse, IsKeptMenu, IsKeptPast, IsKeptState}
use Rattle.session_log.specs.declared.courses.Course.{Course}
use Rattle.session_log.specs.declared.courses.Past.{Past}
use Rattle.session_log.proofs.EntryLemmas.{entry_there, values_told, well_counted}
use Rattle.session_log.specs.RefusalView.{TellsStep}
use Rattle.session_log.specs.declared.refusals.StepRefusal.{StepRefusal}
use Rattle.sort_terms.specs.SortedView.{term_in}
use Rattle.step_taker.specs.HandedOn.{StepFault, UnlessMemory}
use Rattle.step_taker.specs.HandedOn.step_fault
use Rattle.step_taker.specs.Taken.{IsTaken, IsStepFault, ground_of}

-- ---- Courses as sessions

-- a course that has taken one step more
pub one_more : (old new : Course) (past : Past) → new.history.items ≡ old.history.items ++ (past ∷ []) → past.state ≡ old.state
    → past.menu ≡ old.menu → progress_of new ≡ stepped (progress_of old) (past_item_of past) (situation_of new.state new.menu)
one_more old new past longer same_state same_menu =
    let steps : pasts_of new.history.items ≡ pasts_of old.history.items ++ (past_of past ∷ []) =
    ap pasts_of longer ∙ map-append past_of old.history.items (past ∷ []) in
    let before : past_of past ≡ record { item = past_item_of past; before = situation_of old.state old.menu } =
    λ i. record { item = past_item_of past; before = situation_of (same_state i) (same_menu i) } in
    λ i. record {
      situation = situation_of new.state new.menu;
      steps = (steps ∙ ap (λ (it : PastStep). pasts_of old.history.items ++ (it ∷ [])) before) i;
    }

pub same_progress : (old new : Course) → new.state ≡ old.state → new.menu ≡ old.menu → new.history.items ≡ old.history.items
    → progress_of new ≡ progress_of old
same_progress old new state menu history =
    λ i. record { situation = situation_of (state i) (menu i); steps = pasts_of (history i) }

-- ---- The beginning of a course

pub begun : (data_ : Data) (canon : Term → Term) (spec : Spec) (course : Course) → IsKeptState data_.signature spec course.state
    → IsKeptMenu data_.signature course.menu
    → Exact data_ canon (specification_of spec).processes (state_of course.state) (entries_in course.menu)
    → course.history.items ≡ [] → IsKeptCourse data_ canon spec course
begun data_ canon spec course state menu exact none = record {
  state = state;
  menu = menu;
  history = subst (Every (IsKeptPast data_.signature spec)) (sym none) tt;
  lawful =
      subst (λ (it : List Past). IsLawful (basis_over data_ canon spec)
      (record { situation = situation_of course.state course.menu; steps = pasts_of it })) (sym none)
      (record { start = exact; steps = refl });
}

-- ---- The derivation of a step has no fault exactly where the values meet the entry

pub state_over : {M : Type 0} (suits : M → Spec → Data → (Term → Term) → Type 0) (data_ : Data) (canon : Term → Term) (spec : Spec)
    (ranks : Ranks) (maker : M) (course : Course) → IsCanon data_ canon → AreSuited suits data_ canon spec ranks maker
    → IsKeptCourse data_ canon spec course → IsStateOver (basis_over data_ canon spec) (state_of course.state)
state_over suits data_ canon spec ranks maker course is_canon suited kept = record {
  signature = suited.signature;
  is_canon = is_canon;
  well_formed = suited.over.well_formed;
  closed = kept.state.over.closed;
}

-- the menu of a lawful session is that of its state
pub situation_now : (basis : SessionBasis) (first last : Situation) (steps : List PastStep) → IsSituation basis first
    → LeadTo basis first steps last → IsSituation basis last
situation_now basis first last [] menu h = subst (IsSituation basis) h menu
situation_now basis first last (step ∷ steps) menu h = situation_now basis h.1 last steps h.3 h.4

pub kept_situation : (data_ : Data) (canon : Term → Term) (spec : Spec) (course : Course) → IsKeptCourse data_ canon spec course
    → IsSituation (basis_over data_ canon spec) (situation_of course.state course.menu)
kept_situation data_ canon spec course kept =
    situation_now (basis_over data_ canon spec) _ (situation_of course.state course.menu) (pasts_of course.history.items)
    kept.lawful.start kept.lawful.steps

-- a derivation of an entry with values that meet it has no fault
pub free_where_met : (data_ : Data) (canon : Term → Term) (spec : Spec) (course : Course) (number : ℕ) (entry : Entry)
    (values : List Sorted) (derivation : Derivation) → IsStateOver (basis_over data_ canon spec) (state_of course.state)
    → IsKeptCourse data_ canon spec course → IsEntryAt course.menu number entry
    → IsDerivationFor data_ canon entry values derivation → Meets data_ (plain_entry entry) (terms_of values)
    → fault_of data_ canon (specification_of spec).processes (state_of course.state) (derivation_of derivation) ≡ None
free_where_met data_ canon spec course number entry values derivation over kept at derived meets =
    let listed : entry_numbered (entries_in course.menu) number ≡ Some (plain_entry entry) = entry_there course.menu number entry at in
    let made : HasItem (basis_over data_ canon spec) (situation_of course.state course.menu) number (terms_of values) =
    lawful_item equal_leaves (basis_over data_ canon spec) (situation_of course.state course.menu) over
    (kept_situation data_ canon spec course kept) number (terms_of values) (plain_entry entry) listed meets in
    let free : fault_of data_ canon (specification_of spec).processes (state_of course.state) made.item.derivation ≡ None =
    faultless_where_kept data_ canon (specification_of spec) (state_of course.state) over made.item.derivation made.item.label
    made.next made.lawful.keeps in
    let entries : made.lawful.entry ≡ plain_entry entry =
    some_value (sym made.lawful.listed ∙ (ap (entry_numbered (entries_in course.menu)) made.numbered ∙ listed)) in
    let same : made.item.derivation ≡ derivation_of derivation =
    made.lawful.derivation ∙ (ap₂ (canonical_derivation canon) entries made.valued ∙ sym derived.same) in
    subst (λ (it : plain_shape.Derivation). fault_of data_ canon (specification_of spec).processes (state_of course.state) it ≡ None) same
    free

-- values with whose derivation a step was taken meet the entry
pub met_where_taken : (data_ : Data) (canon : Term → Term) (spec : Spec) (course : Course) (number : ℕ) (entry : Entry)
    (values : List Sorted) (derivation : Derivation) (label : Label) (target : State)
    → IsStateOver (basis_over data_ canon spec) (state_of course.state) → IsKeptCourse data_ canon spec course
    → IsEntryAt course.menu number entry → IsDerivationFor data_ canon entry values derivation
    → IsTaken (ground_of data_ canon spec) course.state derivation label target → Meets data_ (plain_entry entry) (terms_of values)
met_where_taken data_ canon spec course number entry values derivation label target over kept at derived taken =
    met_where_kept equal_leaves (basis_over data_ canon spec) (situation_of course.state course.menu) over
    (kept_situation data_ canon spec course kept) number (terms_of values) (plain_entry entry)
    (entry_there course.menu number entry at) derived.sorted (label_of label) (state_of target)
    (subst (λ (it : plain_shape.Derivation). DerivesCanonically data_ canon (specification_of spec).processes (state_of course.state) it
    (label_of label) (state_of target)) derived.same taken.keeps)

-- ---- A step that was taken

-- `next` has the item of the step, and the state and the menu that it leads to.
pub record IsStep (data_ : Data) (canon : Term → Term) (spec : Spec) (old : Course) (number : ℕ) (values : List Sorted) (label : Label)
    (next : Past) (new : Course) : Type 0 where
  pub entry : Entry
  pub listed : IsEntryAt old.menu number entry
  pub derived : IsDerivationFor data_ canon entry values next.derivation
  pub taken : IsTaken (ground_of data_ canon spec) old.state next.derivation label next.state
  pub exact : Exact data_ canon (specification_of spec).processes (state_of next.state) (entries_in next.menu)
  pub entries : IsKeptMenu data_.signature next.menu
  pub numbered : next.number ≡ number
  pub valued : next.values.items ≡ values
  pub labelled : label_of next.label ≡ label_of label
  pub profiled : label_profiles next.label ≡ label_profiles label
  pub gone : IsGoneOn old next new

-- the step as it is kept
abbrev kept_past : Course → Past → Past
kept_past old next = record next { state = old.state; menu = old.menu }

pub has_stepped : (data_ : Data) (canon : Term → Term) (spec : Spec) (old : Course) (number : ℕ) (values : List Sorted) (label : Label)
    (next : Past) (new : Course) → IsStateOver (basis_over data_ canon spec) (state_of old.state) → IsKeptCourse data_ canon spec old
    → IsStep data_ canon spec old number values label next new
    → HasStepped (basis_over data_ canon spec) (progress_of old) number (terms_of values) (label_of label) (progress_of new)
has_stepped data_ canon spec old number values label next new over kept h = record {
  item = past_item_of next;
  next = situation_of new.state new.menu;
  numbered = h.numbered;
  valued = ap terms_of h.valued;
  labelled = h.labelled;
  lawful = record {
    entry = plain_entry h.entry;
    listed = ap (entry_numbered (entries_in old.menu)) h.numbered ∙ entry_there old.menu number h.entry h.listed;
    meets = subst (λ (it : List Sorted). Meets data_ (plain_entry h.entry) (terms_of it)) (sym h.valued)
        (met_where_taken data_ canon spec old number h.entry values next.derivation label next.state over kept h.listed h.derived h.taken);
    derivation = h.derived.same
        ∙ ap (λ (it : List Sorted). canonical_derivation canon (plain_entry h.entry) (terms_of it)) (sym h.valued);
    keeps = subst (λ (it : State). DerivesCanonically data_ canon (specification_of spec).processes (state_of old.state)
        (derivation_of next.derivation) (label_of next.label) (state_of it)) (sym h.gone.state)
        (subst (λ (it : plain.Label). DerivesCanonically data_ canon (specification_of spec).processes (state_of old.state)
        (derivation_of next.derivation) it (state_of next.state)) (sym h.labelled) h.taken.keeps);
  };
  menu = subst (λ (it : State). Exact data_ canon (specification_of spec).processes (state_of it) (entries_in new.menu))
      (sym h.gone.state)
      (subst (λ (it : Menu). Exact data_ canon (specification_of spec).processes (state_of next.state) (entries_in it))
      (sym h.gone.menu) h.exact);
  appended = one_more old new (kept_past old next) h.gone.history refl refl;
}

pub kept_stepped : (data_ : Data) (canon : Term → Term) (spec : Spec) (old : Course) (number : ℕ) (values : List Sorted) (label : Label)
    (next : Past) (new : Course) → IsStateOver (basis_over data_ canon spec) (state_of old.state) → IsKeptCourse data_ canon spec old
    → AreGiven data_.signature values → IsStep data_ canon spec old number values label next new → IsKeptCourse data_ canon spec new
kept_stepped data_ canon spec old number values label next new over kept given h = record {
  state = subst (IsKeptState data_.signature spec) (sym h.gone.state) (record { over = h.taken.over; closed = h.taken.closed });
  menu = subst (IsKeptMenu data_.signature) (sym h.gone.menu) h.entries;
  history = subst (Every (IsKeptPast data_.signature spec)) (sym h.gone.history)
      (Every-append (IsKeptPast data_.signature spec) old.history.items (kept_past old next ∷ []) kept.history (
        record {
          state = kept.state;
          menu = kept.menu;
          values = subst (λ (it : List Sorted). AreTermsOf data_.signature (profiles_of it)) (sym h.valued) given.terms;
          label = subst (AreTermsOf data_.signature) (sym h.profiled) h.taken.values;
        },
        tt,
      ));
  lawful = (stepped_lawful (basis_over data_ canon spec) (progress_of old) (progress_of new) number (terms_of values) (label_of label)
      kept.lawful (has_stepped data_ canon spec old number values label next new over kept h)).0;
}

-- ---- A step that was undone

-- how far a course has come that has this state, this menu and these steps
abbrev progress_at : State → Menu → List Past → Progress
progress_at state menu history = record { situation = situation_of state menu; steps = pasts_of history }

pub dropped_last : (old : Course) (past : Past) (history : List Past) → old.history.items ≡ history ++ (past ∷ [])
    → HasUndone (progress_of old) (progress_at past.state past.menu history)
dropped_last old past history longer =
    let steps : pasts_of old.history.items ≡ pasts_of history ++ (past_of past ∷ []) =
    ap pasts_of longer ∙ map-append past_of history (past ∷ []) in
    record {
      item = past_item_of past;
      dropped = λ i. record { situation = situation_of old.state old.menu; steps = steps i };
    }

pub has_undone : (old new : Course) (past : Past) → old.history.items ≡ new.history.items ++ (past ∷ []) → new.state ≡ past.state
    → new.menu ≡ past.menu → HasUndone (progress_of old) (progress_of new)
has_undone old new past longer state menu =
    record { item = past_item_of past; dropped = one_more new old past longer (sym state) (sym menu) }

every_before : {X : Type 0} (P : X → Type 0) (xs : List X) (x : X) → Every P (xs ++ (x ∷ [])) → Every P xs × P x
every_before P [] x h = (tt, h.0)
every_before P (y ∷ xs) x h = let rest : Every P xs × P x = every_before P xs x h.1 in ((h.0, rest.0), rest.1)

pub kept_undone : (data_ : Data) (canon : Term → Term) (spec : Spec) (old new : Course) (past : Past)
    → old.history.items ≡ new.history.items ++ (past ∷ []) → new.state ≡ past.state → new.menu ≡ past.menu
    → IsKeptCourse data_ canon spec old → IsKeptCourse data_ canon spec new
kept_undone data_ canon spec old new past longer state menu kept =
    let parts : Every (IsKeptPast data_.signature spec) new.history.items × IsKeptPast data_.signature spec past =
    every_before (IsKeptPast data_.signature spec) new.history.items past
    (subst (Every (IsKeptPast data_.signature spec)) longer kept.history) in
    record {
      state = subst (IsKeptState data_.signature spec) (sym state) parts.1.state;
      menu = subst (IsKeptMenu data_.signature) (sym menu) parts.1.menu;
      history = parts.0;
      lawful = (undone_lawful (basis_over data_ canon spec) (progress_of old) (progress_of new) kept.lawful
          (has_undone old new past longer state menu)).0;
    }

-- a session that is the same is lawful too
pub kept_same : (data_ : Data) (canon : Term → Term) (spec : Spec) (old new : Course) → new.state ≡ old.state → new.menu ≡ old.menu
    → new.history.items ≡ old.history.items → IsKeptCourse data_ canon spec old → IsKeptCourse data_ canon spec new
kept_same data_ canon spec old new state menu history kept = record {
  state = subst (IsKeptState data_.signature spec) (sym state) kept.state;
  menu = subst (IsKeptMenu data_.signature) (sym menu) kept.menu;
  history = subst (Every (IsKeptPast data_.signature spec)) (sym history) kept.history;
  lawful = subst (IsLawful (basis_over data_ canon spec)) (sym (same_progress old new state menu history)) kept.lawful;
}

-- ---- The oldest state

oldest_is : (state : State) (menu : Menu) (history : List Past)
    → (first_of (situation_of state menu) (pasts_of history)).state ≡ state_of (oldest_state state history)
oldest_is state menu [] = refl
oldest_is state menu (past ∷ history) = refl

pub first_is : (course : Course) → (first_situation (progress_of course)).state ≡ state_of (first_state_of course)
first_is course = oldest_is course.state course.menu course.history.items

oldest_kept : (signature : Signature) (spec : Spec) (state : State) (history : List Past) → IsKeptState signature spec state
    → Every (IsKeptPast signature spec) history → IsKeptState signature spec (oldest_state state history)
oldest_kept signature spec state [] now kept = now
oldest_kept signature spec state (past ∷ history) now kept = kept.0.state

pub first_kept : (data_ : Data) (canon : Term → Term) (spec : Spec) (course : Course) → IsKeptCourse data_ canon spec course
    → IsKeptState data_.signature spec (first_state_of course)
first_kept data_ canon spec course kept = oldest_kept data_.signature spec course.state course.history.items kept.state kept.history

-- ---- Closed states

closed_pasts : (signature : Signature) (spec : Spec) (history : List Past) → Every (IsKeptPast signature spec) history
    → Every (λ (past : Past). IsClosedNode past.state.node) history
closed_pasts signature spec [] h = tt
closed_pasts signature spec (past ∷ history) h = (h.0.state.closed, closed_pasts signature spec history h.1)

pub closed_states : (data_ : Data) (canon : Term → Term) (spec : Spec) (course : Course) → IsKeptCourse data_ canon spec course
    → AreClosedStates course
closed_states data_ canon spec course kept =
    record { state = kept.state.closed; history = closed_pasts data_.signature spec course.history.items kept.history }

oldest_closed : (state : State) (history : List Past) → IsClosedNode state.node
    → Every (λ (past : Past). IsClosedNode past.state.node) history → IsClosedNode (oldest_state state history).node
oldest_closed state [] now h = now
oldest_closed state (past ∷ history) now h = h.0

closed_behind : (index : ℕ) (history : List Past) → Every (λ (past : Past). IsClosedNode past.state.node) history
    → Every (λ (past : Past). IsClosedNode past.state.node) (drop index history)
closed_behind zero history h = h
closed_behind (suc index) [] h = tt
closed_behind (suc index) (past ∷ history) h = closed_behind index history h.1

-- so is the state behind each step
pub behind_closed : (course : Course) (index : ℕ) → AreClosedStates course → IsClosedNode (behind_state course index).node
behind_closed course index closed =
    oldest_closed course.state (drop (index + 1) course.history.items) closed.state
    (closed_behind (index + 1) course.history.items closed.history)

-- ---- The beginning of another course

-- a copy of a state of the specification is one
pub copied_kept : (signature : Signature) (spec : Spec) (state copy : State) → state_of copy ≡ state_of state
    → node_profiles copy.node ≡ node_profiles state.node → (IsClosedNode state.node → IsClosedNode copy.node)
    → IsKeptState signature spec state → IsKeptState signature spec copy
copied_kept signature spec state copy same terms closed kept = record {
  over = record {
    closed = subst (IsClosedBehaviour signature (specification_of spec)) (sym same) kept.over.closed;
    terms = subst (AreTermsOf signature) (sym terms) kept.over.terms;
  };
  closed = closed kept.closed;
}

-- a course that begins in the first state of another begins in its first situation
pub same_beginning : (data_ : Data) (canon : Term → Term) (spec : Spec) (old new : Course) → IsKeptCourse data_ canon spec old
    → IsKeptCourse data_ canon spec new → state_of new.state ≡ state_of (first_state_of old)
    → situation_of new.state new.menu ≡ first_situation (progress_of old)
same_beginning data_ canon spec old new kept begun same =
    one_situation (basis_over data_ canon spec) (situation_of new.state new.menu) (first_situation (progress_of old))
    (same ∙ sym (first_is old)) (kept_situation data_ canon spec new begun) kept.lawful.start

-- ---- Nothing to undo

pub nothing_undone : (old : Course) (history : List Past) → length old.history.items ≡ 0 → old.history.items ≡ history ++ []
    → IsUndone false (progress_of old) (progress_at old.state old.menu history)
nothing_undone old history none items = (
  ap pasts_of (nil_from_length old.history.items none),
  (λ i. record {
    situation = situation_of old.state old.menu;
    steps = pasts_of ((sym (append-nil history) ∙ sym items) i);
  }),
)

pub kept_nothing : (data_ : Data) (canon : Term → Term) (spec : Spec) (old new : Course)
    → old.history.items ≡ new.history.items ++ [] → new.state ≡ old.state → new.menu ≡ old.menu → IsKeptCourse data_ canon spec old
    → IsKeptCourse data_ canon spec new
kept_nothing data_ canon spec old new items state menu kept =
    kept_same data_ canon spec old new state menu (sym (append-nil new.history.items) ∙ sym items) kept

-- ---- Steps over data that have not changed

pub chosen_told : (data_ : Data) (canon : Term → Term) (menu : Menu) (number : ℕ) (values : List Sorted) (entry : Entry)
    → IsEntryAt menu number entry → length values ≡ length entry.vars.items → (refusal : StepRefusal)
    → TellsStep (value_refusal data_.signature canon (Some (plain_entry entry)) (terms_of values)) refusal → (spec : Spec)
    → TellsStep (step_refusal (basis_over data_ canon spec) (entries_in menu) number (terms_of values)) refusal
chosen_told data_ canon menu number values entry listed counted refusal h spec =
    values_told (basis_over data_ canon spec) (entries_in menu) number (terms_of values) (plain_entry entry)
    (entry_there menu number entry listed)
    (subst (λ (n : ℕ). number_refusal (entries_in menu) number n ≡ None) (sym (length-map values term_in))
    (well_counted menu number (length values) entry listed counted)) refusal h

-- a fault that is not want of memory
told_unless_memory : (P : StepFault → Type 0) (fault : StepFault) → UnlessMemory P fault → fault ≢ step_fault.NoMemory → P fault
told_unless_memory P step_fault.NoMemory h other = absurd (other refl)
told_unless_memory P (step_fault.NotFitting node) h other = h
told_unless_memory P (step_fault.BadValue leaf) h other = h
told_unless_memory P (step_fault.Unmet node left right) h other = h

-- values with whose derivation a step has a fault do not meet the entry
pub unmet_where_refused : (data_ : Data) (canon : Term → Term) (spec : Spec) (state : State) (entry : Entry) (values : List Sorted)
    (derivation : Derivation) (fault : StepFault) → (Meets data_ (plain_entry entry) (terms_of values)
    → fault_of data_ canon (specification_of spec).processes (state_of state) (derivation_of derivation) ≡ None)
    → UnlessMemory (IsStepFault (ground_of data_ canon spec) state derivation) fault → fault ≢ step_fault.NoMemory
    → Meets data_ (plain_entry entry) (terms_of values) → ⊥
unmet_where_refused data_ canon spec state entry values derivation fault free told other meets =
    let h : IsStepFault (ground_of data_ canon spec) state derivation fault =
    told_unless_memory (IsStepFault (ground_of data_ canon spec) state derivation) fault told other in
    none-some h.first (sym (free meets) ∙ h.is)

pub taken_over : (data_ other : Data) (canon also : Term → Term) (spec : Spec) (state target : State) (derivation : Derivation)
    (label : Label) → other ≡ data_ → also ≡ canon → IsTaken (ground_of other also spec) state derivation label target
    → IsTaken (ground_of data_ canon spec) state derivation label target
taken_over data_ other canon also spec state target derivation label same same_canon h =
    subst (λ (d : Data). IsTaken (ground_of d canon spec) state derivation label target) same
    (subst (λ (k : Term → Term). IsTaken (ground_of other k spec) state derivation label target) same_canon h)

pub exact_over : (data_ other : Data) (canon also : Term → Term) (spec : Spec) (state : State) (menu : Menu) → other ≡ data_
    → also ≡ canon → Exact other also (specification_of spec).processes (state_of state) (entries_in menu)
    → Exact data_ canon (specification_of spec).processes (state_of state) (entries_in menu)
exact_over data_ other canon also spec state menu same same_canon h =
    subst (λ (d : Data). Exact d canon (specification_of spec).processes (state_of state) (entries_in menu)) same
    (subst (λ (k : Term → Term). Exact other k (specification_of spec).processes (state_of state) (entries_in menu)) same_canon h)
