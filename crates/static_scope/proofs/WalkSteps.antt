-- The frames of the walk, as the code keeps them.
use Rattle.std.proofs.Common.{◌≡◌, ℕ, List, [], ◌∷◌, ◌++◌, length, map, refl, ap, sym, ◌∙◌, subst}
use Rattle.std.specs.Prelude.{Option, None, Some, Result, Ok, Err, IsErrAnd, IfErr}
use Rattle.std.proofs.lemmas.List.{map-append, append-nil, append_assoc}
use Rattle.behaviour_semantics.specs.Behaviour as plain
use Rattle.behaviour_semantics.specs.WellFormed.{Every}
use Rattle.behaviour_tree.specs.DefinitionView.{process_of}
use Rattle.behaviour_tree.specs.declared.definitions.Process.{Process}
use Rattle.scope_parts.specs.FaultView.{FaultIs}
use Rattle.scope_parts.specs.Scope.{Binding, Callable}
use Rattle.scope_parts.specs.ScopeFault as faults
use Rattle.scope_parts.specs.declared.scope_faults.ScopeFault.{ScopeFault}
use Rattle.scope_parts.proofs.FormedDefinitions.{every_both}
use Rattle.syntax_trees.specs.TreeViews.{inner_of}
use Rattle.syntax_trees.specs.WrittenDefinition.{WrittenInners}
use Rattle.syntax_trees.specs.declared.definitions.InnerText.{InnerText}
use Rattle.lotos_base.specs.Equation.{Place}
use Rattle.static_scope.specs.KeptPlaces.{places_of_process, places_of_processes}
use Rattle.static_scope.specs.Points.{Point}
use Rattle.static_scope.specs.Sizes.{BeginsAt, sizes_of_all}
use Rattle.static_scope.specs.SizesView.{written_inners}
use Rattle.static_scope.specs.Walk.{Task, WalkGoesOn, declaration_in_front}
use Rattle.static_scope.specs.WalkView.{task_of, tasks_in, process_listed, processes_made, places_of_made}
use Rattle.static_scope.specs.declared.frames.Frame.{Frame}
use Rattle.static_scope.proofs.SizeSteps.{none_left}
use Rattle.static_scope.proofs.StackLemmas.{pushed}
use Rattle.static_scope.proofs.WalkLemmas.{standing, ended, first_task, own_task, left_task, not_gone, gone_on, ready_first}

-- the next declaration in front of those that are left
pub task_front : (list rest : List InnerText) (first : InnerText) (before : List Binding) (outside : ℕ) → list ≡ first ∷ rest
    → record { inners = written_inners list; before = before; outside = outside }
    ≡ declaration_in_front (inner_of first) (record { inners = written_inners rest; before = before; outside = outside })
task_front list rest first before outside are =
    ap (λ (xs : List InnerText). record { inners = written_inners xs; before = before; outside = outside }) are

pub tasks_pushed : (before after : List Frame) (frame : Frame) → after ≡ before ++ frame ∷ []
    → tasks_in after ≡ task_of frame ∷ tasks_in before
tasks_pushed before after frame are = pushed task_of before after frame are

-- the frames where a process was entered
pub frames_entered : (old between new : List Frame) (left own : Frame) (task : Task) (name : List ℕ) (visible : List Callable)
    (list : List InnerText) → between ≡ old ++ left ∷ [] → new ≡ between ++ own ∷ []
    → task_of left ≡ left_task name task → task_of own ≡ own_task (written_inners list) visible
    → tasks_in new ≡ own_task (written_inners list) visible ∷ left_task name task ∷ tasks_in old
frames_entered old between new left own task name visible list one two is inside =
    tasks_pushed between new own two
    ∙ ap (λ (ts : List Task). task_of own ∷ ts) (tasks_pushed old between left one)
    ∙ ap (λ (t : Task). task_of own ∷ t ∷ tasks_in old) is
    ∙ ap (λ (t : Task). t ∷ left_task name task ∷ tasks_in old) inside

pub own_frame : (rest : List InnerText) (before : List Binding) (outside : ℕ) (list : List InnerText) (visible : List Callable)
    → rest ≡ list → before ≡ [] → outside ≡ length visible
    → record { inners = written_inners rest; before = before; outside = outside } ≡ own_task (written_inners list) visible
own_frame rest before outside list visible are none many =
    ap (λ (xs : List InnerText). record { inners = written_inners xs; before = before; outside = outside }) are
    ∙ ap (λ (bs : List Binding). record { inners = written_inners list; before = bs; outside = outside }) none
    ∙ ap (λ (n : ℕ). record { inners = written_inners list; before = []; outside = n }) many

-- ---- What was made

pub listed_made : (made : List Process) (definition : Option Process) → map process_of (made ++ process_listed definition)
    ≡ map process_of made ++ processes_made definition
listed_made made None = ap (map process_of) (append-nil made) ∙ sym (append-nil (map process_of made))
listed_made made (Some p) = map-append process_of made (p ∷ [])

places_append : (made : List Process) (p : Process)
    → places_of_processes (made ++ p ∷ []) ≡ places_of_processes made ++ places_of_process p
places_append [] p = append-nil (places_of_process p)
places_append (q ∷ made) p =
    ap (λ (ps : List Place). places_of_process q ++ ps) (places_append made p)
    ∙ sym (append_assoc (places_of_process q) (places_of_processes made) (places_of_process p))

pub listed_places : (made : List Process) (definition : Option Process)
    → places_of_processes (made ++ process_listed definition) ≡ places_of_processes made ++ places_of_made definition
listed_places made None = ap places_of_processes (append-nil made) ∙ sym (append-nil (places_of_processes made))
listed_places made (Some p) = places_append made p

pub listed_every : (P : Process → Type 0) (made : List Process) (definition : Option Process) → Every P made
    → ((p : Process) → definition ≡ Some p → P p) → Every P (made ++ process_listed definition)
listed_every P made None first later = subst (Every P) (sym (append-nil made)) first
listed_every P made (Some p) first later = every_both P made (p ∷ []) first (later p refl, tt)

-- ---- The loop over the frames

abbrev pub Since : List ℕ → Point → WrittenInners → Point → List Task → List plain.Process → List Place → Type 0
Since sizes first inners now tasks made places =
    WalkGoesOn sizes (standing first (first_task inners ∷ [])) (standing now tasks) made places

pub walk_started : (sizes : List ℕ) (point : Point) (list : List InnerText) (before after : List Frame) (frame : Frame)
    (made : List Process) → before ≡ [] → after ≡ before ++ frame ∷ [] → made ≡ [] → task_of frame ≡ first_task (written_inners list)
    → BeginsAt (sizes_of_all (written_inners list)) point.process sizes
    → Since sizes point (written_inners list) point (tasks_in after) (map process_of made) (places_of_processes made)
walk_started sizes point list before after frame made none are nothing is begins =
    subst
    (λ (ts : List Task). Since sizes point (written_inners list) point ts (map process_of made) (places_of_processes made))
    (sym (tasks_pushed before after frame are ∙ ap (λ (fs : List Frame). task_of frame ∷ tasks_in fs) none
    ∙ ap (λ (t : Task). t ∷ []) is))
    (subst
    (λ (ps : List Process). Since sizes point (written_inners list) point (first_task (written_inners list) ∷ []) (map process_of ps)
    (places_of_processes ps))
    (sym nothing)
    (not_gone sizes (standing point (first_task (written_inners list) ∷ [])) (ready_first sizes point (written_inners list) begins)))

pub walk_stepped : (sizes : List ℕ) (first now next : Point) (inners : WrittenInners) (popped before after : List Frame) (frame : Frame)
    (made more : List Process) (definition : Option Process) → before ≡ popped ++ frame ∷ [] → more ≡ made ++ process_listed definition
    → Since sizes first inners now (tasks_in before) (map process_of made) (places_of_processes made)
    → WalkGoesOn sizes (standing now (task_of frame ∷ tasks_in popped)) (standing next (tasks_in after)) (processes_made definition)
    (places_of_made definition)
    → Since sizes first inners next (tasks_in after) (map process_of more) (places_of_processes more)
walk_stepped sizes first now next inners popped before after frame made more definition are added since step =
    let whole =
    gone_on sizes (standing first (first_task inners ∷ [])) (standing now (task_of frame ∷ tasks_in popped))
    (standing next (tasks_in after)) (map process_of made) (processes_made definition) (places_of_processes made)
    (places_of_made definition)
    (subst
    (λ (ts : List Task). Since sizes first inners now ts (map process_of made) (places_of_processes made))
    (tasks_pushed popped before frame are) since)
    step in
    subst
    (λ (ps : List plain.Process). Since sizes first inners next (tasks_in after) ps (places_of_processes more))
    (sym (ap (map process_of) added ∙ listed_made made definition))
    (subst
    (λ (ps : List Place). Since sizes first inners next (tasks_in after) (map process_of made ++ processes_made definition) ps)
    (sym (ap places_of_processes added ∙ listed_places made definition)) whole)

pub walk_ended : (sizes : List ℕ) (first now : Point) (inners : WrittenInners) (frames : List Frame) (made : List plain.Process)
    (places : List Place) → frames ≡ [] → Since sizes first inners now (tasks_in frames) made places
    → Since sizes first inners now [] made places
walk_ended sizes first now inners frames made places none since =
    subst (λ (fs : List Frame). Since sizes first inners now (tasks_in fs) made places) none since

pub frame_ended : (list : List InnerText) (before : List Binding) (outside : ℕ) → length list ≡ 0
    → record { inners = written_inners list; before = before; outside = outside } ≡ ended before outside
frame_ended list before outside none =
    ap (λ (xs : List InnerText). record { inners = written_inners xs; before = before; outside = outside }) (none_left list none)

-- a fault that is handed on
pub fault_handed : {T : Type 0} (result : Result T ScopeFault) (fault : ScopeFault) (P : faults.ScopeFault → Type 0)
    → IsErrAnd result (λ e. e ≡ fault) → FaultIs fault P → IfErr result (λ e. FaultIs e P)
fault_handed (Ok x) fault P is means = absurd is
fault_handed (Err e) fault P is means = subst (λ (x : ScopeFault). FaultIs x P) (sym is) means
