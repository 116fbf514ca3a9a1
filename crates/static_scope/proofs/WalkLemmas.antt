-- The steps of the walk over the definitions of a text.
use Rattle.std.proofs.Common.{◌≡◌, ◌<◌, ℕ, suc, ◌+◌, ◌-◌, List, [], ◌∷◌, ◌++◌, length, drop, inl, inr, refl, ap, sym, ◌∙◌, subst, arith}
use Rattle.std.proofs.Math.Seq.{drop-append_seam}
use Rattle.std.proofs.lemmas.List.{append-nil, append_assoc, length-append}
use Rattle.std.specs.Prelude.{Option, None, Some, is_some, if◌then◌else◌}
use Rattle.lotos_base.specs.Names.{folded}
use Rattle.lotos_base.specs.Equation.{Place}
use Rattle.lotos_base.specs.Signature.{Signature}
use Rattle.syntax_trees.specs.WrittenBehaviour.{WrittenBehaviour}
use Rattle.syntax_trees.specs.WrittenDefinition.{WrittenHeading, WrittenInner, WrittenInners, inner_item, process, no_inner, inner_then}
use Rattle.syntax_trees.specs.WrittenItem.{WrittenItem}
use Rattle.behaviour_semantics.specs.Behaviour.{Behaviour, Process}
use Rattle.behaviour_scopes.specs.Places.{places_written}
use Rattle.scope_parts.specs.ScopeFault.{ScopeFault, double_name}
use Rattle.scope_parts.specs.Resolution.{Resolution, resolved, faulty, Made}
use Rattle.scope_parts.specs.Scope.{Binding, Callable, bind, bound_to}
use Rattle.scope_parts.specs.Numbering.{Numbers, processes_count, own_gates, inners_gates, past_own, past_inner}
use Rattle.scope_parts.specs.Definitions.{Heading, DefinitionIs, InnerIs, InnersAre, callables, new_process, past_name, process_with, with_name}
use Rattle.static_scope.specs.Points.{Point, numbers_of_point, past_definition, past_number, with_processes}
use Rattle.static_scope.specs.Sizes.{BeginsAt, sizes_of_all}
use Rattle.static_scope.specs.TextPlaces.{inners_text_places}
use Rattle.static_scope.specs.Walk.{Task, outermost, TasksAre, Fit, gates_left, sizes_left, places_left, steps_of, Walk, WalkIs, AreSizesKnown, behind_those, WalkGoesOn, declaration_in_front}
use Rattle.static_scope.proofs.PointLemmas.{numbers_past}
use Rattle.static_scope.proofs.SizeLemmas.{begins_inside, begins_front, begins_so}

abbrev pub standing : Point → List Task → Walk
standing point tasks = record { point = point; tasks = tasks }

-- ---- Steps one after another

behind_both : (first later : List Process) (o : Resolution (List Process))
    → behind_those first (behind_those later o) ≡ behind_those (first ++ later) o
behind_both first later (resolved ps) = ap resolved (sym (append_assoc first later ps))
behind_both first later (faulty f) = refl

behind_none : (o : Resolution (List Process)) → behind_those [] o ≡ o
behind_none (resolved ps) = refl
behind_none (faulty f) = refl

pub not_gone : (sizes : List ℕ) (walk : Walk) → AreSizesKnown sizes walk → WalkGoesOn sizes walk walk [] []
not_gone sizes walk ready = record {
  ready = ready;
  leads = λ o is. subst (WalkIs walk) (sym (behind_none o)) is;
  signature = refl;
  gates = refl;
  places = refl;
}

pub gone_on : (sizes : List ℕ) (first between last : Walk) (made more : List Process) (places others : List Place)
    → WalkGoesOn sizes first between made places → WalkGoesOn sizes between last more others
    → WalkGoesOn sizes first last (made ++ more) (places ++ others)
gone_on sizes first between last made more places others one two = record {
  ready = two.ready;
  leads = λ o is. subst (WalkIs first) (behind_both made more o) (one.leads (behind_those more o) (two.leads o is));
  signature = two.signature ∙ one.signature;
  gates = two.gates ∙ one.gates;
  places =
      append_assoc places others (places_left last.tasks) ∙ ap (λ (ps : List Place). places ++ ps) two.places ∙ one.places;
}

-- ---- An item

item_inners : (signature : Signature) (visible : List Callable) (before : List Binding) (numbers : Numbers) (item : WrittenItem)
    (others : WrittenInners) (o : Resolution (List Process)) → InnersAre signature visible before numbers others o
    → InnersAre signature visible before numbers (inner_then (inner_item item) others) o
item_inners signature visible before numbers item others (resolved ps) is = ([], refl, (ps, is, refl))
item_inners signature visible before numbers item others (faulty f) is = inr ([], refl, is)

pub item_leads : (signature : Signature) (visible : List Callable) (numbers : Numbers) (item : WrittenItem) (task : Task)
    (tasks : List Task) (o : Resolution (List Process)) → TasksAre signature visible numbers (task ∷ tasks) o
    → TasksAre signature visible numbers (declaration_in_front (inner_item item) task ∷ tasks) o
item_leads signature visible numbers item task tasks (resolved ps) is =
    (is.0, item_inners signature visible task.before numbers item task.inners (resolved is.0) is.1, is.2)
item_leads signature visible numbers item task tasks (faulty f) (inl is) =
    inl (item_inners signature visible task.before numbers item task.inners (faulty f) is)
item_leads signature visible numbers item task tasks (faulty f) (inr is) =
    inr (is.0, item_inners signature visible task.before numbers item task.inners (resolved is.0) is.1, is.2)

pub past_item : (sizes : List ℕ) (point : Point) (item : WrittenItem) (task : Task) (tasks : List Task)
    → AreSizesKnown sizes (standing point (declaration_in_front (inner_item item) task ∷ tasks))
    → WalkGoesOn sizes (standing point (declaration_in_front (inner_item item) task ∷ tasks)) (standing point (task ∷ tasks)) [] []
past_item sizes point item task tasks ready = record {
  ready = record { fit = ready.fit; sizes = ready.sizes };
  leads = λ o is.
      item_leads point.signature point.processes (numbers_of_point point) item task tasks (behind_those [] o)
      (subst (λ (r : Resolution (List Process)). WalkIs (standing point (task ∷ tasks)) r) (sym (behind_none o)) is);
  signature = refl;
  gates = refl;
  places = refl;
}

pub item_less : (item : WrittenItem) (task : Task) (tasks : List Task)
    → steps_of (task ∷ tasks) < steps_of (declaration_in_front (inner_item item) task ∷ tasks)
item_less item task tasks = omega arith

-- ---- The end of a `where`

abbrev pub cut_off : ℕ → Point → Point
cut_off size point = record {
  signature = point.signature;
  names = point.names;
  processes = outermost size point.processes;
  variable = point.variable;
  process = point.process;
}

abbrev pub ended : List Binding → ℕ → Task
ended before outside = record { inners = no_inner; before = before; outside = outside }

end_leads : (signature : Signature) (visible : List Callable) (numbers : Numbers) (before : List Binding) (outside : ℕ) (tasks : List Task)
    (o : Resolution (List Process)) → TasksAre signature (outermost outside visible) numbers tasks o
    → TasksAre signature visible numbers (ended before outside ∷ tasks) o
end_leads signature visible numbers before outside tasks (resolved ps) is = ([], refl, (ps, is, refl))
end_leads signature visible numbers before outside tasks (faulty f) is = inr ([], refl, is)

pub past_end : (sizes : List ℕ) (point : Point) (before : List Binding) (outside : ℕ) (tasks : List Task)
    → AreSizesKnown sizes (standing point (ended before outside ∷ tasks))
    → WalkGoesOn sizes (standing point (ended before outside ∷ tasks)) (standing (cut_off outside point) tasks) [] []
past_end sizes point before outside tasks ready = record {
  ready = record { fit = ready.fit.1; sizes = ready.sizes };
  leads = λ o is.
      subst (λ (r : Resolution (List Process)). WalkIs (standing point (ended before outside ∷ tasks)) r) (sym (behind_none o))
      (end_leads point.signature point.processes (numbers_of_point point) before outside tasks o is);
  signature = refl;
  gates = refl;
  places = refl;
}

-- ---- A process

-- its own `where`, and what is left of the one that it stands in
abbrev pub own_task : WrittenInners → List Callable → Task
own_task inner visible = record { inners = inner; before = []; outside = length visible }

abbrev pub left_task : List ℕ → Task → Task
left_task name task = record { inners = task.inners; before = bind name 0 task.before; outside = task.outside }

-- behind the process, beside those of its own `where`
abbrev pub entered : WrittenHeading → WrittenBehaviour → WrittenInners → Point → Point
entered heading body inner point =
    past_definition heading body (with_processes (callables point.signature (suc point.process) inner) (past_number point))

outer_again : (added visible : List Callable) → outermost (length visible) (added ++ visible) ≡ visible
outer_again added visible =
    let both : length (added ++ visible) ≡ length added + length visible = length-append added visible in
    let many : length (added ++ visible) - length visible ≡ length added = omega (arith, both) in
    ap (λ (n : ℕ). drop n (added ++ visible)) many ∙ drop-append_seam added visible

left_again : (signature : Signature) (added visible : List Callable) (numbers : Numbers) (tasks : List Task) (o : Resolution (List Process))
    → TasksAre signature (outermost (length visible) (added ++ visible)) numbers tasks o → TasksAre signature visible numbers tasks o
left_again signature added visible numbers tasks o =
    subst (λ (v : List Callable). TasksAre signature v numbers tasks o) (outer_again added visible)

-- what the rest of a `where` comes to, behind a process that stands with those in it
abbrev Inside : Signature → List Callable → Numbers → WrittenInner → Task → List Process → Type 0
Inside signature visible numbers inner task ps =
    InnerIs signature visible task.before numbers inner (resolved ps)

rest_leads : (signature : Signature) (visible : List Callable) (numbers : Numbers) (inner : WrittenInner) (task : Task) (tasks : List Task)
    (before : List Binding) (ps : List Process) (f : ScopeFault) → before ≡ with_name inner task.before
    → Inside signature visible numbers inner task ps
    → TasksAre signature visible (past_inner inner numbers)
    (record { inners = task.inners; before = before; outside = task.outside } ∷ tasks) (faulty f)
    → TasksAre signature visible numbers (declaration_in_front inner task ∷ tasks) (faulty f)
rest_leads signature visible numbers inner task tasks before ps f same first (inl is) =
    inl (inr (
      ps,
      first,
      subst (λ (b : List Binding). InnersAre signature visible b (past_inner inner numbers) task.inners (faulty f)) same is,
    ))
rest_leads signature visible numbers inner task tasks before ps f same first (inr is) =
    inr (
      ps ++ is.0,
      (
        ps,
        first,
        (
          is.0,
          subst (λ (b : List Binding). InnersAre signature visible b (past_inner inner numbers) task.inners (resolved is.0)) same is.1,
          refl,
        ),
      ),
      is.2,
    )

-- what stands where a process was entered makes what stands before it
process_leads : (signature : Signature) (visible : List Callable) (numbers : Numbers) (heading : WrittenHeading) (body : WrittenBehaviour)
    (inner : WrittenInners) (task : Task) (tasks : List Task) (name : List ℕ) (d : Heading × Behaviour) (o : Resolution (List Process))
    → resolved name ≡ new_process task.before heading
    → DefinitionIs signature (callables signature (suc numbers.process) inner ++ visible) (past_name numbers) heading body (resolved d)
    → TasksAre signature (callables signature (suc numbers.process) inner ++ visible) (past_own heading body (past_name numbers))
    (own_task inner visible ∷ left_task heading.name task ∷ tasks) o
    → TasksAre signature visible numbers (declaration_in_front (process heading body inner) task ∷ tasks)
    (behind_those (process_with heading d ∷ []) o)
process_leads signature visible numbers heading body inner task tasks name d (resolved ps) named defined is =
    let later =
    left_again signature (callables signature (suc numbers.process) inner) visible
    (past_inner (process heading body inner) numbers) (left_task heading.name task ∷ tasks) (resolved is.2.0) is.2.1 in
    let p = process_with heading d in (
      (p ∷ is.0) ++ later.0,
      (p ∷ is.0, (name, named, (d, defined, (is.0, is.1, refl))), (later.0, later.1, refl)),
      (
        later.2.0,
        later.2.1,
        ap (λ (qs : List Process). p ∷ qs)
            (is.2.2 ∙ ap (λ (qs : List Process). is.0 ++ qs) later.2.2 ∙ sym (append_assoc is.0 later.0 later.2.0)),
      ),
    )
process_leads signature visible numbers heading body inner task tasks name d (faulty f) named defined (inl is) =
    inl (inl (inr (name, named, inr (d, defined, is))))
process_leads signature visible numbers heading body inner task tasks name d (faulty f) named defined (inr is) =
    rest_leads signature visible numbers (process heading body inner) task tasks (bind heading.name 0 task.before)
    (process_with heading d ∷ is.0) f refl (name, named, (d, defined, (is.0, is.1, refl)))
    (left_again signature (callables signature (suc numbers.process) inner) visible
    (past_inner (process heading body inner) numbers) (left_task heading.name task ∷ tasks) (faulty f) is.2)

sizes_inside : (n : ℕ) (own others left : List ℕ) (position : ℕ) (sizes : List ℕ)
    → BeginsAt ((((n ∷ []) ++ own) ++ others) ++ left) position sizes → BeginsAt (own ++ (others ++ left)) (suc position) sizes
sizes_inside n own others left position sizes begins =
    begins_so ((own ++ others) ++ left) (own ++ (others ++ left)) (suc position) sizes (append_assoc own others left)
    (begins_inside n ((own ++ others) ++ left) position sizes begins)

gates_entered : (names own inner others left : List (List ℕ))
    → (names ++ own) ++ (inner ++ (others ++ left)) ≡ names ++ (((own ++ inner) ++ others) ++ left)
gates_entered names own inner others left =
    append_assoc names own (inner ++ (others ++ left))
    ∙ ap (λ (xs : List (List ℕ)). names ++ xs)
    (sym (append_assoc own inner (others ++ left)) ∙ sym (append_assoc (own ++ inner) others left))

places_entered : (own inner others left : List Place) → own ++ (inner ++ (others ++ left)) ≡ ((own ++ inner) ++ others) ++ left
places_entered own inner others left =
    sym (append_assoc own inner (others ++ left)) ∙ sym (append_assoc (own ++ inner) others left)

fit_entered : (added visible : List Callable) (task : Task) (inner : WrittenInners) (name : List ℕ) (tasks : List Task)
    → Fit visible (task ∷ tasks) → Fit (added ++ visible) (own_task inner visible ∷ left_task name task ∷ tasks)
fit_entered added visible task inner name tasks fit =
    let both : length (added ++ visible) ≡ length added + length visible = length-append added visible in (
      omega (arith, both),
      subst (λ (v : List Callable). Fit v (left_task name task ∷ tasks)) (sym (outer_again added visible)) fit,
    )

pub past_process : (sizes : List ℕ) (point : Point) (heading : WrittenHeading) (body : WrittenBehaviour) (inner : WrittenInners)
    (task : Task) (tasks : List Task) (name : List ℕ) (made : Process)
    → AreSizesKnown sizes (standing point (declaration_in_front (process heading body inner) task ∷ tasks))
    → resolved name ≡ new_process task.before heading
    → Made (process_with heading)
    (DefinitionIs point.signature (callables point.signature (suc point.process) inner ++ point.processes)
    (numbers_of_point (past_number point)) heading body) (resolved made)
    → WalkGoesOn sizes (standing point (declaration_in_front (process heading body inner) task ∷ tasks))
    (standing (entered heading body inner point) (own_task inner point.processes ∷ left_task heading.name task ∷ tasks))
    (made ∷ []) (heading.place ∷ places_written body)
past_process sizes point heading body inner task tasks name made ready named defined = record {
  ready = record {
    fit =
        fit_entered (callables point.signature (suc point.process) inner) point.processes task inner heading.name tasks ready.fit;
    sizes =
        sizes_inside (suc (processes_count inner)) (sizes_of_all inner) (sizes_of_all task.inners) (sizes_left tasks)
        point.process sizes ready.sizes;
  };
  leads = λ o is.
      subst
      (λ (p : Process). WalkIs (standing point (declaration_in_front (process heading body inner) task ∷ tasks)) (behind_those (p ∷ []) o))
      (sym defined.2)
      (process_leads point.signature point.processes (numbers_of_point point) heading body inner task tasks name defined.0 o named defined.1
      (subst
      (λ (n : Numbers). TasksAre point.signature (callables point.signature (suc point.process) inner ++ point.processes) n
      (own_task inner point.processes ∷ left_task heading.name task ∷ tasks) o)
      (numbers_past heading body
      (with_processes (callables point.signature (suc point.process) inner) (past_number point))) is));
  signature = refl;
  gates =
      gates_entered point.names (own_gates heading body) (inners_gates inner) (inners_gates task.inners) (gates_left tasks);
  places =
      places_entered (heading.place ∷ places_written body) (inners_text_places inner) (inners_text_places task.inners) (places_left tasks);
}

pub process_less : (heading : WrittenHeading) (body : WrittenBehaviour) (inner : WrittenInners) (visible : List Callable) (task : Task)
    (tasks : List Task)
    → steps_of (own_task inner visible ∷ left_task heading.name task ∷ tasks)
    < steps_of (declaration_in_front (process heading body inner) task ∷ tasks)
process_less heading body inner visible task tasks = omega arith

-- faults at a process
pub name_fails : (point : Point) (heading : WrittenHeading) (body : WrittenBehaviour) (inner : WrittenInners)
    (task : Task) (tasks : List Task) (f : ScopeFault) → faulty f ≡ new_process task.before heading
    → WalkIs (standing point (declaration_in_front (process heading body inner) task ∷ tasks)) (faulty f)
name_fails point heading body inner task tasks f is = inl (inl (inl is))

pub definition_fails : (point : Point) (heading : WrittenHeading) (body : WrittenBehaviour) (inner : WrittenInners)
    (task : Task) (tasks : List Task) (name : List ℕ) (f : ScopeFault) → resolved name ≡ new_process task.before heading
    → DefinitionIs point.signature (callables point.signature (suc point.process) inner ++ point.processes)
    (numbers_of_point (past_number point)) heading body (faulty f)
    → WalkIs (standing point (declaration_in_front (process heading body inner) task ∷ tasks)) (faulty f)
definition_fails point heading body inner task tasks name f named is = inl (inl (inr (name, named, inl is)))

-- ---- The whole `where`

abbrev pub first_task : WrittenInners → Task
first_task inners = record { inners = inners; before = []; outside = 0 }

one_task : (signature : Signature) (visible : List Callable) (numbers : Numbers) (inners : WrittenInners)
    (o : Resolution (List Process)) → TasksAre signature visible numbers (first_task inners ∷ []) o
    → InnersAre signature visible [] numbers inners o
one_task signature visible numbers inners (resolved ps) is =
    let none : is.2.0 ≡ [] = same_value is.2.0 is.2.1 in
    subst (λ (qs : List Process). InnersAre signature visible [] numbers inners (resolved qs))
    (sym (is.2.2 ∙ ap (λ (qs : List Process). is.0 ++ qs) none ∙ append-nil is.0)) is.1
  where
    same_value : (qs : List Process) → resolved qs ≡ resolved [] → qs ≡ []
    same_value qs is = cc
one_task signature visible numbers inners (faulty f) (inl is) = is
one_task signature visible numbers inners (faulty f) (inr is) = absurd (let no : faulty f ≡ resolved [] = is.2 in cc)

pub ready_first : (sizes : List ℕ) (point : Point) (inners : WrittenInners) → BeginsAt (sizes_of_all inners) point.process sizes
    → AreSizesKnown sizes (standing point (first_task inners ∷ []))
ready_first sizes point inners begins = record {
  fit = (omega arith, tt);
  sizes =
      begins_so (sizes_of_all inners) (sizes_of_all inners ++ []) point.process sizes (sym (append-nil (sizes_of_all inners))) begins;
}

pub all_gone : (sizes : List ℕ) (first last : Point) (inners : WrittenInners) (made : List Process) (places : List Place)
    → WalkGoesOn sizes (standing first (first_task inners ∷ [])) (standing last []) made places
    → InnersAre first.signature first.processes [] (numbers_of_point first) inners (resolved made)
all_gone sizes first last inners made places on =
    one_task first.signature first.processes (numbers_of_point first) inners (resolved made)
    (subst (λ (ps : List Process). WalkIs (standing first (first_task inners ∷ [])) (resolved ps)) (append-nil made)
    (on.leads (resolved []) refl))

pub fault_gone : (sizes : List ℕ) (first between : Point) (tasks : List Task) (inners : WrittenInners) (made : List Process)
    (places : List Place) (f : ScopeFault) → WalkGoesOn sizes (standing first (first_task inners ∷ [])) (standing between tasks) made places
    → WalkIs (standing between tasks) (faulty f)
    → InnersAre first.signature first.processes [] (numbers_of_point first) inners (faulty f)
fault_gone sizes first between tasks inners made places f on is =
    one_task first.signature first.processes (numbers_of_point first) inners (faulty f) (on.leads (faulty f) is)

pub gates_gone : (sizes : List ℕ) (first last : Point) (inners : WrittenInners) (made : List Process) (places : List Place)
    → WalkGoesOn sizes (standing first (first_task inners ∷ [])) (standing last []) made places
    → last.names ≡ first.names ++ inners_gates inners
gates_gone sizes first last inners made places on =
    sym (append-nil last.names) ∙ on.gates ∙ ap (λ (xs : List (List ℕ)). first.names ++ xs) (append-nil (inners_gates inners))

pub places_gone : (sizes : List ℕ) (first last : Point) (inners : WrittenInners) (made : List Process) (places : List Place)
    → WalkGoesOn sizes (standing first (first_task inners ∷ [])) (standing last []) made places → places ≡ inners_text_places inners
places_gone sizes first last inners made places on =
    sym (append-nil places) ∙ on.places ∙ append-nil (inners_text_places inners)

-- ---- A process, as it is entered step by step

behind_name : (first second : Point) (third : Point) (inner : WrittenInners) → second ≡ past_number first
    → third ≡ with_processes (callables second.signature second.process inner) second
    → third ≡ with_processes (callables first.signature (suc first.process) inner) (past_number first)
behind_name first second third inner numbered seen =
    seen ∙ ap (λ (p : Point). with_processes (callables p.signature p.process inner) p) numbered

pub entered_so : (sizes : List ℕ) (first second third last : Point) (heading : WrittenHeading) (body : WrittenBehaviour)
    (inner : WrittenInners) (task : Task) (tasks now : List Task) (name : List ℕ) (made : Process) (places : List Place)
    → AreSizesKnown sizes (standing first (declaration_in_front (process heading body inner) task ∷ tasks))
    → resolved name ≡ new_process task.before heading
    → second ≡ past_number first → third ≡ with_processes (callables second.signature second.process inner) second
    → Made (process_with heading) (DefinitionIs third.signature third.processes (numbers_of_point third) heading body) (resolved made)
    → last ≡ past_definition heading body third
    → now ≡ own_task inner first.processes ∷ left_task heading.name task ∷ tasks → places ≡ heading.place ∷ places_written body
    → WalkGoesOn sizes (standing first (declaration_in_front (process heading body inner) task ∷ tasks)) (standing last now)
    (made ∷ []) places
entered_so sizes first second third last heading body inner task tasks now name made places ready named numbered seen defined behind are
    at =
    let so = behind_name first second third inner numbered seen in
    let here =
    past_process sizes first heading body inner task tasks name made ready named
    (subst
    (λ (p : Point). Made (process_with heading) (DefinitionIs p.signature p.processes (numbers_of_point p) heading body) (resolved made))
    so defined) in
    subst
    (λ (p : Point). WalkGoesOn sizes (standing first (declaration_in_front (process heading body inner) task ∷ tasks))
    (standing p now) (made ∷ [])
    places)
    (sym (behind ∙ ap (past_definition heading body) so))
    (subst
    (λ (ts : List Task). WalkGoesOn sizes (standing first (declaration_in_front (process heading body inner) task ∷ tasks))
    (standing (entered heading body inner first) ts) (made ∷ []) places)
    (sym are)
    (subst
    (λ (ps : List Place). WalkGoesOn sizes (standing first (declaration_in_front (process heading body inner) task ∷ tasks))
    (standing (entered heading body inner first) (own_task inner first.processes ∷ left_task heading.name task ∷ tasks)) (made ∷ []) ps)
    (sym at) here))

pub entering_fails : (first second third : Point) (heading : WrittenHeading) (body : WrittenBehaviour)
    (inner : WrittenInners) (task : Task) (tasks : List Task) (name : List ℕ) (f : ScopeFault)
    → resolved name ≡ new_process task.before heading
    → second ≡ past_number first → third ≡ with_processes (callables second.signature second.process inner) second
    → DefinitionIs third.signature third.processes (numbers_of_point third) heading body (faulty f)
    → WalkIs (standing first (declaration_in_front (process heading body inner) task ∷ tasks)) (faulty f)
entering_fails first second third heading body inner task tasks name f named numbered seen fails =
    definition_fails first heading body inner task tasks name f named
    (subst (λ (p : Point). DefinitionIs p.signature p.processes (numbers_of_point p) heading body (faulty f))
    (behind_name first second third inner numbered seen) fails)

-- the sizes of what a process declares are known where it is entered
pub own_sizes : (sizes : List ℕ) (first second : Point) (heading : WrittenHeading) (body : WrittenBehaviour) (inner : WrittenInners)
    (task : Task) (tasks : List Task) → second ≡ past_number first
    → AreSizesKnown sizes (standing first (declaration_in_front (process heading body inner) task ∷ tasks))
    → BeginsAt (sizes_of_all inner) second.process sizes
own_sizes sizes first second heading body inner task tasks numbered ready =
    subst (λ (p : Point). BeginsAt (sizes_of_all inner) p.process sizes) (sym numbered)
    (begins_front (sizes_of_all inner) (sizes_of_all task.inners ++ sizes_left tasks) (suc first.process) sizes
    (sizes_inside (suc (processes_count inner)) (sizes_of_all inner) (sizes_of_all task.inners) (sizes_left tasks)
    first.process sizes ready.sizes))

-- with this number for the next process
abbrev pub with_number : ℕ → Point → Point
with_number number point = record {
  signature = point.signature;
  names = point.names;
  processes = point.processes;
  variable = point.variable;
  process = number;
}

-- an item is passed over, and a `where` ends, as they stand on the walk
pub item_gone : (sizes : List ℕ) (point : Point) (x : WrittenInner) (item : WrittenItem) (task : Task) (tasks now : List Task)
    → x ≡ inner_item item → now ≡ task ∷ tasks → AreSizesKnown sizes (standing point (declaration_in_front x task ∷ tasks))
    → WalkGoesOn sizes (standing point (declaration_in_front x task ∷ tasks)) (standing point now) [] []
item_gone sizes point x item task tasks now is are ready =
    subst (λ (ts : List Task). WalkGoesOn sizes (standing point (declaration_in_front x task ∷ tasks)) (standing point ts) [] []) (sym are)
    (subst (λ (y : WrittenInner). WalkGoesOn sizes (standing point (declaration_in_front y task ∷ tasks))
    (standing point (task ∷ tasks)) [] [])
    (sym is)
    (past_item sizes point item task tasks
    (subst (λ (y : WrittenInner). AreSizesKnown sizes (standing point (declaration_in_front y task ∷ tasks))) is ready)))

pub item_steps : (x : WrittenInner) (item : WrittenItem) (task : Task) (tasks now : List Task)
    → x ≡ inner_item item → now ≡ task ∷ tasks → steps_of now < steps_of (declaration_in_front x task ∷ tasks)
item_steps x item task tasks now is are =
    subst (λ (ts : List Task). steps_of ts < steps_of (declaration_in_front x task ∷ tasks)) (sym are)
    (subst (λ (y : WrittenInner). steps_of (task ∷ tasks) < steps_of (declaration_in_front y task ∷ tasks)) (sym is)
    (item_less item task tasks))

pub end_gone : (sizes : List ℕ) (point next : Point) (task : Task) (before : List Binding) (outside : ℕ) (tasks : List Task)
    → task ≡ ended before outside → next ≡ cut_off outside point → AreSizesKnown sizes (standing point (task ∷ tasks))
    → WalkGoesOn sizes (standing point (task ∷ tasks)) (standing next tasks) [] []
end_gone sizes point next task before outside tasks is are ready =
    subst (λ (p : Point). WalkGoesOn sizes (standing point (task ∷ tasks)) (standing p tasks) [] []) (sym are)
    (subst (λ (t : Task). WalkGoesOn sizes (standing point (t ∷ tasks)) (standing (cut_off outside point) tasks) [] []) (sym is)
    (past_end sizes point before outside tasks (subst (λ (t : Task). AreSizesKnown sizes (standing point (t ∷ tasks))) is ready)))

pub end_steps : (task : Task) (tasks : List Task) → steps_of tasks < steps_of (task ∷ tasks)
end_steps task tasks = omega arith

-- ---- The name of a process

pub name_doubled : (before : List Binding) (heading : WrittenHeading) (name : List ℕ) (n : ℕ)
    → bound_to before (folded heading.name) ≡ Some n → name ≡ heading.name
    → faulty (double_name heading.place name) ≡ new_process before heading
name_doubled before heading name n found same =
    ap (λ (x : List ℕ). faulty (double_name heading.place x)) same
    ∙ sym
    (ap
    (λ (o : Option ℕ). if is_some o then faulty (double_name heading.place heading.name) else resolved heading.name)
    found)

pub name_new : (before : List Binding) (heading : WrittenHeading) → bound_to before (folded heading.name) ≡ None
    → resolved heading.name ≡ new_process before heading
name_new before heading none =
    sym
    (ap
    (λ (o : Option ℕ). if is_some o then faulty (double_name heading.place heading.name) else resolved heading.name)
    none)
