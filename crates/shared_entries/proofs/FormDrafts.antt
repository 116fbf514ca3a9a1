-- The forms of behaviours with the rules by which their parts move.
use Rattle.std.proofs.Common.{◌≡◌, ◌≤◌, ℕ, zero, suc, List, [], ◌∷◌, map, zip, slice_get, Bool, true, false, not, None, Some, option_map, option_and_then, if◌then◌else◌, refl, ap, sym, ◌∙◌, subst, append-nil, length, arith}
use Rattle.std.proofs.lemmas.Option.{same_Some}
use Rattle.lotos_base.specs.Signature.{Signature}
use Rattle.lotos_base.specs.Term.{Term, variable}
use Rattle.lotos_base.specs.Equation.{Data, Variable}
use Rattle.lotos_base.proofs.CanonLemmas.{canon_ground}
use Rattle.behaviour_semantics.specs.Behaviour.{Behaviour, stop, exit_with, action, inner_action, guard, choice, parallel, hide, enable, disable, let_be, choose_value, choose_gate, par_gate, call, relabel, SynchronisationSet, Process, Relabelling, Specification, sorts_of, let_variables, let_terms}
use Rattle.behaviour_semantics.specs.Label.{Label, inner_event, gate_event, exit_event, under}
use Rattle.behaviour_semantics.specs.Replacement.{with_values, binding_of}
use Rattle.behaviour_semantics.specs.Rule.{is_exit, still_disabled, copies}
use Rattle.behaviour_semantics.specs.Shape.{Shape, left_side, right_side, let_bound, at_gate, called, relabelled, in_left, in_right, in_let, in_gate, in_called, in_relabelled}
use Rattle.behaviour_semantics.specs.Move.{Move, alone, hiding, passing, enabling, disabling, relabelling}
use Rattle.behaviour_semantics.specs.Draft.{above, above_processes, first_apart, draft_of, draft_by, leaves_from}
use Rattle.behaviour_semantics.specs.NumberingLaws.{open_move}
use Rattle.behaviour_semantics.specs.WellFormed.{IsBehaviour, IsClosedBehaviour, IsDefinition, IsCall, AreTermsIn, AreOver}
use Rattle.behaviour_semantics.proofs.RaisedDrafts.{same_drafts}
use Rattle.behaviour_semantics.proofs.OpenedLemmas.{move_of-copies}
use Rattle.behaviour_semantics.proofs.ClosedTargets.{represented_terms, opened_closed}
use Rattle.behaviour_semantics.proofs.ListLemmas.{Every-at}
use Rattle.behaviour_semantics.proofs.PutTerms.{closed_by}
use Rattle.menu_builder.proofs.MenuNumberLemmas.{above-with}
use Rattle.behaviour_semantics.specs.Fault.{ends_with}
use Rattle.shared_entries.specs.PartRule.{passing_on, alone_rule, under_rule, hide_rule, enabled_rule, passed_rule}
use Rattle.shared_entries.specs.PartMenus.{called_body, let_body}
use Rattle.shared_entries.proofs.RuleLabels.{passing_on_fair, alone_fair, under_fair, hide_fair, enabled_fair, passed_fair}
use Rattle.shared_entries.proofs.RuleDrafts.{IsRow, mapped_row, plain_row, MovesBy, moves_by}

-- ---- Numbers that are bound

above_body : (processes : List Process) (number : ℕ) (process : Process) → slice_get processes number ≡ Some process
    → above process.body ≤ above_processes processes
above_body [] number process e = absurd (cc e)
above_body (p ∷ processes) zero process e =
    let same : above p.body ≡ above process.body = ap (λ (q : Process). above q.body) (same_Some p process e) in
    omega (arith, same)
above_body (p ∷ processes) (suc number) process e =
    let rest : above process.body ≤ above_processes processes = above_body processes number process e in
    omega (arith, rest)

above_under : (b : Behaviour) (pairs : Relabelling) → above (under b pairs) ≤ above b
above_under stop pairs = omega arith
above_under (call number gates arguments) pairs = omega arith
above_under (exit_with results) pairs = omega arith
above_under (action g offers test b) pairs = omega arith
above_under (inner_action b) pairs = omega arith
above_under (guard test b) pairs = omega arith
above_under (choice b c) pairs = omega arith
above_under (parallel meet b c) pairs = omega arith
above_under (hide gates b) pairs = omega arith
above_under (enable b variables c) pairs = omega arith
above_under (disable b c) pairs = omega arith
above_under (let_be bindings b) pairs = omega arith
above_under (choose_value x b) pairs = omega arith
above_under (choose_gate g gates b) pairs = omega arith
above_under (par_gate g gates meet b) pairs = omega arith
above_under (relabel inner b) pairs = omega arith

above_copies : (g : ℕ) (gates : List ℕ) (meet : SynchronisationSet) (b : Behaviour) → above (copies g gates meet b) ≤ above b
above_copies g [] meet b = omega arith
above_copies g (a ∷ []) meet b = above_under b ((g, a) ∷ [])
above_copies g (a ∷ a' ∷ gates) meet b =
    let first : above (under b ((g, a) ∷ [])) ≤ above b = above_under b ((g, a) ∷ []) in
    let rest : above (copies g (a' ∷ gates) meet b) ≤ above b = above_copies g (a' ∷ gates) meet b in
    omega (arith, first, rest)

-- ---- Rows

passing_on_row : (variant : Shape → Shape) → IsRow (passing_on variant) (λ m. Some m)
passing_on_row variant = record { target = λ m. m.target; is = λ m. refl }

alone_row : (meet : SynchronisationSet) (variant : Shape → Shape) (beside : Behaviour → Behaviour)
    → IsRow (alone_rule meet variant) (alone meet beside)
alone_row meet variant beside = record { target = λ m. beside m.target; is = λ m. refl }

hide_row : (gates : List ℕ) → IsRow (hide_rule gates) (λ m. Some (hiding gates m))
hide_row gates = record { target = λ m. hide gates m.target; is = λ m. refl }

under_row : (variant : Shape → Shape) (pairs : Relabelling) → IsRow (under_rule variant pairs) (λ m. Some (relabelling pairs m))
under_row variant pairs = record { target = λ m. under m.target pairs; is = λ m. refl }

disabling_row : (c : Behaviour) → IsRow (passing_on left_side) (λ m. Some (disabling c m))
disabling_row c = record { target = λ m. still_disabled m.label m.target c; is = λ m. refl }

abbrev enabled_target : List Variable → Behaviour → Label → Behaviour
enabled_target variables c (exit_event values) = with_values (binding_of variables values) c
enabled_target variables c inner_event = c
enabled_target variables c (gate_event g values) = c

enabling_is : (signature : Signature) (variables : List Variable) (c : Behaviour) (m : Move) (label : Label)
    → enabling signature variables c m label ≡ (
    if ends_with signature (sorts_of variables) label
    then Some (record { label = inner_event; target = enabled_target variables c label; asked = m.asked; sorts = m.sorts })
    else None)
enabling_is signature variables c m inner_event = refl
enabling_is signature variables c m (gate_event g values) = refl
enabling_is signature variables c m (exit_event values) = refl

enabled_row : (signature : Signature) (variables : List Variable) (c : Behaviour)
    → IsRow (enabled_rule signature (sorts_of variables)) (λ m. enabling signature variables c m m.label)
enabled_row signature variables c = record {
  target = λ m. enabled_target variables c m.label;
  is = λ m. enabling_is signature variables c m m.label;
}

passing_is : (test : Bool) (m : Move) → (if test then None else Some m) ≡ (if not test then Some m else None)
passing_is true m = refl
passing_is false m = refl

passed_row : (variables : List Variable) (c : Behaviour) → IsRow passed_rule (passing variables c)
passed_row variables c = record {
  target = λ m. enable m.target variables c;
  is = λ m. passing_is (is_exit m.label) (record m { target = enable m.target variables c });
}

-- ---- Forms

module _ (data_ : Data) (canon : Term → Term) (specification : Specification) where
  -- A part over the same data and specification.
  pub over_part : (whole part : Behaviour) → AreOver data_ canon specification whole
      → IsClosedBehaviour data_.signature specification part → AreOver data_ canon specification part
  over_part whole part over closed =
      record { signature = over.signature; is_canon = over.is_canon; well_formed = over.well_formed; closed = closed }

  pub choice_left : (b c : Behaviour) → AreOver data_ canon specification (choice b c)
      → MovesBy data_ canon specification (passing_on left_side) (choice b c) b
  choice_left b c over =
      moves_by data_ canon specification (passing_on left_side) (choice b c) b (λ m. Some m)
      (passing_on_fair data_.signature left_side (λ s t before. in_left before)) (passing_on_row left_side)
      (over_part (choice b c) b over over.closed.0) (omega arith) (λ s. plain_row _)

  pub choice_right : (b c : Behaviour) → AreOver data_ canon specification (choice b c)
      → MovesBy data_ canon specification (passing_on right_side) (choice b c) c
  choice_right b c over =
      moves_by data_ canon specification (passing_on right_side) (choice b c) c (λ m. Some m)
      (passing_on_fair data_.signature right_side (λ s t before. in_right before)) (passing_on_row right_side)
      (over_part (choice b c) c over over.closed.1) (omega arith) (λ s. plain_row _)

  pub disable_left : (b c : Behaviour) → AreOver data_ canon specification (disable b c)
      → MovesBy data_ canon specification (passing_on left_side) (disable b c) b
  disable_left b c over =
      moves_by data_ canon specification (passing_on left_side) (disable b c) b (λ m. Some (disabling c m))
      (passing_on_fair data_.signature left_side (λ s t before. in_left before)) (disabling_row c)
      (over_part (disable b c) b over over.closed.0) (omega arith) (λ s. mapped_row (disabling c) _)

  pub disable_right : (b c : Behaviour) → AreOver data_ canon specification (disable b c)
      → MovesBy data_ canon specification (passing_on right_side) (disable b c) c
  disable_right b c over =
      moves_by data_ canon specification (passing_on right_side) (disable b c) c (λ m. Some m)
      (passing_on_fair data_.signature right_side (λ s t before. in_right before)) (passing_on_row right_side)
      (over_part (disable b c) c over over.closed.1) (omega arith) (λ s. plain_row _)

  pub parallel_left : (meet : SynchronisationSet) (b c : Behaviour) → AreOver data_ canon specification (parallel meet b c)
      → MovesBy data_ canon specification (alone_rule meet left_side) (parallel meet b c) b
  parallel_left meet b c over =
      moves_by data_ canon specification (alone_rule meet left_side) (parallel meet b c) b (alone meet (λ target. parallel meet target c))
      (alone_fair data_.signature meet left_side (λ s t before. in_left before))
      (alone_row meet left_side (λ target. parallel meet target c))
      (over_part (parallel meet b c) b over over.closed.1) (omega arith) (λ s. refl)

  pub parallel_right : (meet : SynchronisationSet) (b c : Behaviour) → AreOver data_ canon specification (parallel meet b c)
      → MovesBy data_ canon specification (alone_rule meet right_side) (parallel meet b c) c
  parallel_right meet b c over =
      moves_by data_ canon specification (alone_rule meet right_side) (parallel meet b c) c (alone meet (λ target. parallel meet b target))
      (alone_fair data_.signature meet right_side (λ s t before. in_right before))
      (alone_row meet right_side (λ target. parallel meet b target))
      (over_part (parallel meet b c) c over over.closed.2) (omega arith) (λ s. refl)

  pub hide_part : (gates : List ℕ) (b : Behaviour) → AreOver data_ canon specification (hide gates b)
      → MovesBy data_ canon specification (hide_rule gates) (hide gates b) b
  hide_part gates b over =
      moves_by data_ canon specification (hide_rule gates) (hide gates b) b (λ m. Some (hiding gates m))
      (hide_fair data_.signature gates) (hide_row gates)
      (over_part (hide gates b) b over over.closed.1) (omega arith) (λ s. mapped_row (hiding gates) _)

  pub relabel_part : (pairs : Relabelling) (b : Behaviour) → AreOver data_ canon specification (relabel pairs b)
      → MovesBy data_ canon specification (under_rule relabelled pairs) (relabel pairs b) b
  relabel_part pairs b over =
      moves_by data_ canon specification (under_rule relabelled pairs) (relabel pairs b) b (λ m. Some (relabelling pairs m))
      (under_fair data_.signature relabelled pairs (λ s t before. in_relabelled before)) (under_row relabelled pairs)
      (over_part (relabel pairs b) b over over.closed.1) (omega arith) (λ s. mapped_row (relabelling pairs) _)

  pub enabled_part : (b : Behaviour) (variables : List Variable) (c : Behaviour) → AreOver data_ canon specification (enable b variables c)
      → MovesBy data_ canon specification (enabled_rule data_.signature (sorts_of variables)) (enable b variables c) b
  enabled_part b variables c over =
      moves_by data_ canon specification (enabled_rule data_.signature (sorts_of variables)) (enable b variables c) b
      (λ m. enabling data_.signature variables c m m.label) (enabled_fair data_.signature (sorts_of variables))
      (enabled_row data_.signature variables c)
      (over_part (enable b variables c) b over over.closed.0) (omega arith) (λ s. refl)

  pub passed_part : (b : Behaviour) (variables : List Variable) (c : Behaviour) → AreOver data_ canon specification (enable b variables c)
      → MovesBy data_ canon specification passed_rule (enable b variables c) b
  passed_part b variables c over =
      moves_by data_ canon specification passed_rule (enable b variables c) b (passing variables c)
      (passed_fair data_.signature) (passed_row variables c)
      (over_part (enable b variables c) b over over.closed.0) (omega arith) (λ s. refl)

  pub gate_part : (g : ℕ) (gates : List ℕ) (b : Behaviour) (k a : ℕ) → slice_get gates k ≡ Some a
      → AreOver data_ canon specification (choose_gate g gates b)
      → MovesBy data_ canon specification (under_rule (at_gate k) ((g, a) ∷ [])) (choose_gate g gates b) b
  gate_part g gates b k a at over =
      moves_by data_ canon specification (under_rule (at_gate k) ((g, a) ∷ [])) (choose_gate g gates b) b
      (λ m. Some (relabelling ((g, a) ∷ []) m))
      (under_fair data_.signature (at_gate k) ((g, a) ∷ []) (λ s t before. in_gate before)) (under_row (at_gate k) ((g, a) ∷ []))
      (over_part (choose_gate g gates b) b over over.closed.2) (omega arith)
      (λ s. ap (option_and_then (λ (a' : ℕ). option_map (relabelling ((g, a') ∷ []))
      (open_move data_ canon specification.processes (first_apart specification.processes (choose_gate g gates b)) s 0 b))) at
      ∙ mapped_row (relabelling ((g, a) ∷ [])) _)

  -- ---- Bodies with values put in

  closed_inside : (variables : List Variable) (terms : List Term) (b whole : Behaviour) → AreOver data_ canon specification whole
      → AreTermsIn data_.signature [] variables terms
      → IsBehaviour data_.signature (length specification.gate_names) specification.processes variables b
      → IsClosedBehaviour data_.signature specification (with_values (binding_of variables (map canon terms)) b)
  closed_inside variables terms b whole over are body =
      closed_by data_.signature (length specification.gate_names) specification.processes variables (map canon terms) b
      (represented_terms data_.signature canon (λ t s h. canon_ground data_ canon t s over.is_canon h) variables terms are) body

  pub let_part : (bindings : List (Variable × Term)) (b : Behaviour) → AreOver data_ canon specification (let_be bindings b)
      → MovesBy data_ canon specification (passing_on let_bound) (let_be bindings b) (let_body canon bindings b)
  let_part bindings b over =
      let same : above (let_body canon bindings b) ≡ above b =
      above-with (binding_of (let_variables bindings) (map canon (let_terms bindings))) b in
      moves_by data_ canon specification (passing_on let_bound) (let_be bindings b) (let_body canon bindings b) (λ m. Some m)
      (passing_on_fair data_.signature let_bound (λ s t before. in_let before)) (passing_on_row let_bound)
      (over_part (let_be bindings b) (let_body canon bindings b) over
      (closed_inside (let_variables bindings) (let_terms bindings) b (let_be bindings b) over over.closed.1
      (subst (λ (scope : List Variable). IsBehaviour data_.signature (length specification.gate_names) specification.processes scope b)
      (append-nil (let_variables bindings)) over.closed.2)))
      (omega (arith, same)) (λ s. plain_row _)

  abbrev Defined : Process → Type 0
  Defined p = IsDefinition data_.signature (length specification.gate_names) specification.processes p.gates p.parameters p.exit p.body

  call_terms : (number : ℕ) (gates : List ℕ) (arguments : List Term) (process : Process)
      → slice_get specification.processes number ≡ Some process
      → IsCall data_.signature specification.processes [] number gates arguments
      → AreTermsIn data_.signature [] process.parameters arguments
  call_terms number gates arguments process at is =
      subst (λ (p : Process). AreTermsIn data_.signature [] p.parameters arguments)
      (same_Some is.process process (sym is.exists ∙ at)) is.values

  pub call_part : (number : ℕ) (gates : List ℕ) (arguments : List Term) (process : Process)
      → slice_get specification.processes number ≡ Some process
      → AreOver data_ canon specification (call number gates arguments)
      → MovesBy data_ canon specification (under_rule called (zip process.gates gates)) (call number gates arguments)
      (called_body canon process arguments)
  call_part number gates arguments process at over =
      let same : above (called_body canon process arguments) ≡ above process.body =
      above-with (binding_of process.parameters (map canon arguments)) process.body in
      let le : above process.body ≤ above_processes specification.processes = above_body specification.processes number process at in
      let defined : Defined process = Every-at Defined specification.processes number process over.well_formed.each at in
      moves_by data_ canon specification (under_rule called (zip process.gates gates)) (call number gates arguments)
      (called_body canon process arguments) (λ m. Some (relabelling (zip process.gates gates) m))
      (under_fair data_.signature called (zip process.gates gates) (λ s t before. in_called before))
      (under_row called (zip process.gates gates))
      (over_part (call number gates arguments) (called_body canon process arguments) over
      (closed_inside process.parameters arguments process.body (call number gates arguments) over
      (call_terms number gates arguments process at over.closed.1) defined.behaviour))
      (omega (arith, same, le))
      (λ s. ap (option_and_then (λ (p : Process). option_map (relabelling (zip p.gates gates))
      (open_move data_ canon specification.processes (first_apart specification.processes (call number gates arguments)) s 0
      (called_body canon p arguments)))) at
      ∙ mapped_row (relabelling (zip process.gates gates)) _)

  -- ---- Copies

  pub copies_over : (g : ℕ) (gates : List ℕ) (meet : SynchronisationSet) (b : Behaviour)
      → AreOver data_ canon specification (par_gate g gates meet b) → AreOver data_ canon specification (copies g gates meet b)
  copies_over g gates meet b over =
      over_part (par_gate g gates meet b) (copies g gates meet b) over
      (opened_closed data_ specification over.well_formed canon (λ t s h. canon_ground data_ canon t s over.is_canon h) variable
      (par_gate g gates meet b) over.closed)

  -- A gate `par` has the drafts of its copies.
  pub copies_drafts : (g : ℕ) (gates : List ℕ) (meet : SynchronisationSet) (b : Behaviour)
      → AreOver data_ canon specification (par_gate g gates meet b) → (s : Shape)
      → draft_of data_ canon specification.processes s (par_gate g gates meet b)
      ≡ draft_of data_ canon specification.processes s (copies g gates meet b)
  copies_drafts g gates meet b over s =
      let base : ℕ = first_apart specification.processes (par_gate g gates meet b) in
      let low : above (copies g gates meet b) ≤ above b = above_copies g gates meet b in
      let le : first_apart specification.processes (copies g gates meet b) ≤ first_apart specification.processes (par_gate g gates meet b) =
      omega (arith, low) in
      sym (same_drafts data_ canon specification (copies g gates meet b) (copies_over g gates meet b over)
      (first_apart specification.processes (par_gate g gates meet b)) s le
      ∙ ap (option_map (draft_by s (first_apart specification.processes (par_gate g gates meet b))))
      (move_of-copies (record { signature = data_.signature; represent = canon; processes = specification.processes })
      (leaves_from (first_apart specification.processes (par_gate g gates meet b))) s 0 g gates meet b))
