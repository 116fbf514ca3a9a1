-- Moves end as the functionality says, and go on to behaviours that do.
use Rattle.std.proofs.Common.{◌≡◌, inl, inr, ℕ, suc, ◌+◌, List, [], ◌∷◌, ◌++◌, length, map, zip, slice_get, Bool, true, false, if◌then◌else◌, Option, None, Some, option_map, option_and_then, refl, ap, sym, ◌∙◌, subst}
use Rattle.std.proofs.lemmas.List.{append-nil}
use Rattle.lotos_base.proofs.Options.{mapped, chained}
use Rattle.lotos_base.proofs.SortLemmas.{one_sort}
use Rattle.lotos_base.specs.Signature.{Signature}
use Rattle.lotos_base.specs.Sorting.{IsGroundOf}
use Rattle.lotos_base.specs.Term.{Term}
use Rattle.lotos_base.specs.Equation.{Data, Variable}
use Rattle.lotos_base.specs.Substitution.{Substitution, is_listed}
use Rattle.behaviour_semantics.specs.Behaviour.{Behaviour, exit_with, action, inner_action, guard, choice, parallel, hide, enable, disable, let_be, choose_value, choose_gate, call, relabel, ExitValue, exit_value, any_of, SynchronisationSet, Process, Specification, Relabelling, asked_variables, open_sorts, sorts_of, let_variables, let_terms}
use Rattle.behaviour_semantics.specs.Label.{Label, inner_event, gate_event, exit_event, label_under}
use Rattle.behaviour_semantics.specs.Replacement.{with_values, binding_of}
use Rattle.behaviour_semantics.specs.Rule.{results_of, moves_alone, have_sorts, move_together, label_values, pairwise, hidden_label, is_exit, still_disabled, AreValues}
use Rattle.behaviour_semantics.specs.Run.{Reaches, at_start, one_move}
use Rattle.behaviour_semantics.specs.Shape.{Shape, act, quit, inner_step, guarded, left_side, right_side, both_sides, hidden, enabled, passed, let_bound, with_value, at_gate, called, relabelled, Derivation}
use Rattle.behaviour_semantics.specs.Move.{Setting, Move, move_of, taken, opened, alone, together, passing, enabling, disabling, hiding, asking, relabelling, after_leaf, act_move, quit_move, inner_move, guarded_move, left_move, right_move, both_move, hidden_move, enabled_move, passed_move, let_move, value_move, gate_move, called_move, relabelled_move}
use Rattle.behaviour_semantics.specs.Derives.{GivesMove, leaves_in}
use Rattle.behaviour_semantics.specs.WellFormed.{Every, AreTermsIn, IsExitValue, IsBehaviour, IsDefinition, IsSpecification, IsClosedBehaviour}
use Rattle.behaviour_semantics.proofs.ClosedTargets.{ground_of, represented_values, represented_terms, opened_closed, inside, closed_move}
use Rattle.behaviour_semantics.proofs.ListLemmas.{Every-at}
use Rattle.behaviour_semantics.proofs.OptionLemmas.{some_value, tested, tested_not}
use Rattle.behaviour_semantics.proofs.PutTerms.{bound_puts, closed_by}
use Rattle.behaviour_semantics.proofs.SupplyLemmas.{Supplied, Supplied-append, Supplied-leaves_in, AreValues-taken}
use Rattle.session_laws.specs.HasFunctionality.{HaveExitSorts, IsDeclaredOrNone, EndsWithin, AllAgree}
use Rattle.session_laws.specs.ExitLaws.{EndsWith, RepresentsSorted, MoveKeeps, ExitsHaveTheirSorts}
use Rattle.session_laws.proofs.Ending.{Functionality, Together, Ends, ends_more, within_ends, found_of, under_ends, opened_ends, put_ends}

-- the values of an `exit` have its sorts
result_sorts : (signature : Signature) (represent : Term → Term) → RepresentsSorted signature represent → (results : List ExitValue)
    (chosen : List Term)
    (sorts : List ℕ) → Every (IsExitValue signature []) results → AreValues signature (open_sorts results) chosen
    → HaveExitSorts signature results sorts → AreValues signature sorts (results_of represent results chosen)
result_sorts signature represent keeps [] chosen [] fine values has = tt
result_sorts signature represent keeps [] chosen (s ∷ sorts) fine values has = absurd has
result_sorts signature represent keeps (exit_value t ∷ results) chosen [] fine values has = absurd has
result_sorts signature represent keeps (exit_value t ∷ results) chosen (s ∷ sorts) fine values has = (
  keeps t s (subst (λ (r : ℕ). IsGroundOf signature r t) (one_sort signature t fine.0.0 s fine.0.1.sorted has.0)
      (ground_of signature fine.0.0 t fine.0.1)),
  result_sorts signature represent keeps results chosen sorts fine.1 values has.1,
)
result_sorts signature represent keeps (any_of r ∷ results) chosen [] fine values has = absurd has
result_sorts signature represent keeps (any_of r ∷ results) [] (s ∷ sorts) fine values has = absurd values
result_sorts signature represent keeps (any_of r ∷ results) (v ∷ chosen) (s ∷ sorts) fine values has = (
  subst (λ (q : ℕ). IsGroundOf signature q (represent v)) has.0 (keeps v r values.0),
  result_sorts signature represent keeps results chosen sorts fine.1 values.1 has.1,
)

module _ (data_ : Data) (specification : Specification) (well_formed : IsSpecification data_.signature specification)
    (agree : AllAgree data_.signature specification) (represent : Term → Term) (keeps : RepresentsSorted data_.signature represent)
    (leaves : Substitution) where
  abbrev names : ℕ
  names = length specification.gate_names

  abbrev setting : Setting
  setting = record { signature = data_.signature; represent = represent; processes = specification.processes }

  abbrev Closed : Behaviour → Type 0
  Closed b = IsClosedBehaviour data_.signature specification b

  abbrev EndsHere : Functionality → Behaviour → Type 0
  EndsHere k b = Ends data_.signature specification.processes k b

  -- a termination has values of the sorts
  abbrev LabelEnds : Functionality → Label → Type 0
  LabelEnds k inner_event = Unit {0}
  LabelEnds k (gate_event g values) = Unit {0}
  LabelEnds k (exit_event values) = EndsWith data_.signature k values

  record IsGood (k : Functionality) (m : Move) : Type 0 where
    pub label : LabelEnds k m.label
    pub target : EndsHere k m.target

  abbrev Good : ℕ → Functionality → Move → Type 0
  Good next k m = Supplied data_.signature leaves next m.sorts → IsGood k m

  abbrev AreGood : ℕ → (Behaviour → Option Move) → Type 0
  AreGood next moves = (b : Behaviour) (m : Move) (k : Functionality) → Closed b → EndsHere k b → moves b ≡ Some m → Good next k m

  -- what is put in for the variables of a scope
  put_inside : (variables : List Variable) (terms : List Term) (b : Behaviour) (k : Functionality)
      → AreValues data_.signature (sorts_of variables) terms
      → IsBehaviour data_.signature names specification.processes (variables ++ []) b → EndsHere k b
      → EndsHere k (with_values (binding_of variables terms) b)
  put_inside variables terms b k values fine ends =
      put_ends data_.signature specification.processes names variables [] (binding_of variables terms)
      (bound_puts data_.signature variables terms values) b k
      (subst (λ (scope : List Variable). IsBehaviour data_.signature names specification.processes scope b)
      (append-nil variables) fine) ends

  act_good : (next : ℕ) → AreGood next (act_move setting leaves next)
  act_good next (action g offers test b) m k c ends e =
      subst (Good next k) (some_value e) (λ sorted.
      let variables : List Variable = asked_variables offers in
      let chosen : List Term = taken leaves next (sorts_of variables) in
      let values : AreValues data_.signature (sorts_of variables) chosen =
      AreValues-taken data_.signature leaves next (sorts_of variables) sorted in
      record {
        label = tt;
        target = put_inside variables (map represent chosen) b k
            (represented_values data_.signature represent keeps (sorts_of variables) chosen values) c.4 ends;
      })
  act_good next _ m k c ends e = absurd (cc e)

  quit_good : (next : ℕ) → AreGood next (quit_move setting leaves next)
  quit_good next (exit_with results) m k c ends e =
      subst (Good next k) (some_value e) (λ sorted. record {
        label = record {
          sorts = ends.0;
          functionality = ends.1;
          sorted = result_sorts data_.signature represent keeps results (taken leaves next (open_sorts results)) ends.0 c
              (AreValues-taken data_.signature leaves next (open_sorts results) sorted) ends.2;
        };
        target = tt;
      })
  quit_good next _ m k c ends e = absurd (cc e)

  inner_good : (next : ℕ) → AreGood next inner_move
  inner_good next (inner_action b) m k c ends e = subst (Good next k) (some_value e) (λ sorted. record { label = tt; target = ends })
  inner_good next _ m k c ends e = absurd (cc e)

  guarded_good : (next : ℕ) (moves : Behaviour → Option Move) → AreGood next moves → AreGood next (guarded_move moves)
  guarded_good next moves good (guard test b) m k c ends e =
      let from : _ = mapped (asking test) (moves b) e in
      subst (Good next k) from.2 (λ sorted.
      let g : IsGood k from.0 = good b from.0 k c.1 ends from.1 sorted in record { label = g.label; target = g.target })
  guarded_good next moves good _ m k c ends e = absurd (cc e)

  -- a side that moves alone does not end
  alone_label : (meet : SynchronisationSet) (label : Label) (k : Functionality) → moves_alone meet label ≡ true → LabelEnds k label
  alone_label meet inner_event k e = tt
  alone_label meet (gate_event g values) k e = tt
  alone_label meet (exit_event values) k e = let never : false ≡ true = e in absurd (cc never)

  still_ends : (label : Label) (target c : Behaviour) (k : Functionality) → EndsHere k target → EndsHere k c
      → EndsHere k (still_disabled label target c)
  still_ends inner_event target c k ends too = (ends, too)
  still_ends (gate_event g values) target c k ends too = (ends, too)
  still_ends (exit_event values) target c k ends too = ends

  left_good : (next : ℕ) (moves : Behaviour → Option Move) → AreGood next moves → AreGood next (left_move moves)
  left_good next moves good (choice b d) m k c ends e = λ sorted. good b m k c.0 ends.0 e sorted
  left_good next moves good (parallel meet b d) m k c ends e =
      let from : _ = chained (alone meet (λ target. parallel meet target d)) (moves b) e in
      let test : _ = tested (moves_alone meet from.0.label) (record from.0 { target = parallel meet from.0.target d }) from.2 in
      subst (Good next k) test.1 (λ sorted.
      let g : IsGood ends.0 from.0 = good b from.0 ends.0 c.1 ends.2 from.1 sorted in
      record { label = alone_label meet from.0.label k test.0; target = (ends.0, ends.1, g.target, ends.3, ends.4) })
  left_good next moves good (disable b d) m k c ends e =
      let from : _ = mapped (disabling d) (moves b) e in
      subst (Good next k) from.2 (λ sorted.
      let g : IsGood k from.0 = good b from.0 k c.0 ends.0 from.1 sorted in
      record { label = g.label; target = still_ends from.0.label from.0.target d k g.target ends.1 })
  left_good next moves good _ m k c ends e = absurd (cc e)

  right_good : (next : ℕ) (moves : Behaviour → Option Move) → AreGood next moves → AreGood next (right_move moves)
  right_good next moves good (choice b d) m k c ends e = λ sorted. good d m k c.1 ends.1 e sorted
  right_good next moves good (parallel meet b d) m k c ends e =
      let from : _ = chained (alone meet (λ target. parallel meet b target)) (moves d) e in
      let test : _ = tested (moves_alone meet from.0.label) (record from.0 { target = parallel meet b from.0.target }) from.2 in
      subst (Good next k) test.1 (λ sorted.
      let g : IsGood ends.1 from.0 = good d from.0 ends.1 c.2 ends.3 from.1 sorted in
      record { label = alone_label meet from.0.label k test.0; target = (ends.0, ends.1, ends.2, g.target, ends.4) })
  right_good next moves good (disable b d) m k c ends e = λ sorted. good d m k c.1 ends.1 e sorted
  right_good next moves good _ m k c ends e = absurd (cc e)

  -- two sides that end together
  none_ends : (f : Functionality) (values : List Term) {A : Type 0} → f ≡ None → EndsWith data_.signature f values → A
  none_ends f values none is = let never : Some is.sorts ≡ None = sym is.functionality ∙ none in absurd (cc never)

  both_label : (meet : SynchronisationSet) (one other : Label) (left right k : Functionality)
      → move_together data_.signature meet one other ≡ true → LabelEnds left one → LabelEnds right other → Together left right k
      → LabelEnds k one
  both_label meet inner_event other left right k e one too ends = tt
  both_label meet (gate_event g values) other left right k e one too ends = tt
  both_label meet (exit_event values) inner_event left right k e one too ends = let never : false ≡ true = e in absurd (cc never)
  both_label meet (exit_event values) (gate_event g others) left right k e one too ends = let never : false ≡ true = e in absurd (cc never)
  both_label meet (exit_event values) (exit_event others) left right k e one too (inl none) = none_ends left values none one
  both_label meet (exit_event values) (exit_event others) left right k e one too (inr (inl none)) = none_ends right others none too
  both_label meet (exit_event values) (exit_event others) left right k e one too (inr (inr (same, also))) =
      subst (λ (f : Functionality). EndsWith data_.signature f values) same one

  both_good : (next : ℕ) (moves : Behaviour → Option Move) → AreGood next moves → (others : ℕ → Behaviour → Option Move)
      → ((n : ℕ) → AreGood n (others n)) → AreGood next (both_move setting next moves others)
  both_good next moves good others goods (parallel meet b d) m k c ends e =
      let from : _ = chained (λ (n : Move). option_and_then (together data_.signature meet n) (others (next + length n.sorts) d))
      (moves b) e in
      let n : Move = from.0 in
      let then_ : _ = chained (together data_.signature meet n) (others (next + length n.sorts) d) from.2 in
      let o : Move = then_.0 in
      let test : _ =
      tested (move_together data_.signature meet n.label o.label)
      (record {
        label = n.label;
        target = parallel meet n.target o.target;
        asked = n.asked ++ o.asked ++ pairwise (label_values n.label)
            (label_values o.label);
        sorts = n.sorts ++ o.sorts;
      }) then_.2 in
      subst (Good next k) test.1 (λ sorted.
      let supplied : _ × _ = Supplied-append data_.signature leaves next n.sorts o.sorts sorted in
      let left : IsGood ends.0 n = good b n ends.0 c.1 ends.2 from.1 supplied.0 in
      let right : IsGood ends.1 o = goods (next + length n.sorts) d o ends.1 c.2 ends.3 then_.1 supplied.1 in
      record {
        label = both_label meet n.label o.label ends.0 ends.1 k test.0 left.label right.label ends.4;
        target = (ends.0, ends.1, left.target, right.target, ends.4);
      })
  both_good next moves good others goods _ m k c ends e = absurd (cc e)

  hidden_ends : (gates : List ℕ) (label : Label) (k : Functionality) → LabelEnds k label → LabelEnds k (hidden_label gates label)
  hidden_ends gates inner_event k l = tt
  hidden_ends gates (gate_event g values) k l = by (is_listed gates g)
    where
      by : (b : Bool) → LabelEnds k (if b then inner_event else gate_event g values)
      by true = tt
      by false = tt
  hidden_ends gates (exit_event values) k l = l

  hidden_good : (next : ℕ) (moves : Behaviour → Option Move) → AreGood next moves → AreGood next (hidden_move moves)
  hidden_good next moves good (hide gates b) m k c ends e =
      let from : _ = mapped (hiding gates) (moves b) e in
      subst (Good next k) from.2 (λ sorted.
      let g : IsGood k from.0 = good b from.0 k c.1 ends from.1 sorted in
      record { label = hidden_ends gates from.0.label k g.label; target = g.target })
  hidden_good next moves good _ m k c ends e = absurd (cc e)

  -- what `>>` hands over has the sorts that the right side accepts
  handed : (sorts : List ℕ) (values : List Term) → EndsWith data_.signature (Some sorts) values → AreValues data_.signature sorts values
  handed sorts values is = subst (λ (ss : List ℕ). AreValues data_.signature ss values) (sym (some_value is.functionality)) is.sorted

  enabling_good : (variables : List Variable) (d : Behaviour) (n m : Move) (label : Label) (k : Functionality)
      → LabelEnds (Some (sorts_of variables)) label → IsBehaviour data_.signature names specification.processes (variables ++ []) d
      → EndsHere k d → enabling data_.signature variables d n label ≡ Some m → IsGood k m
  enabling_good variables d n m (exit_event values) k l c ends e =
      let test : _ = tested (have_sorts data_.signature values (sorts_of variables))
      (record n { label = inner_event; target = with_values (binding_of variables values) d }) e in
      subst (IsGood k) test.1 (record {
        label = tt;
        target = put_inside variables values d k
            (handed (sorts_of variables) values l) c ends;
      })
  enabling_good variables d n m _ k l c ends e = absurd (cc e)

  enabling_sorts : (variables : List Variable) (d : Behaviour) (n m : Move) (label : Label)
      → enabling data_.signature variables d n label ≡ Some m → m.sorts ≡ n.sorts
  enabling_sorts variables d n m (exit_event values) e =
      let test : _ = tested (have_sorts data_.signature values (sorts_of variables))
      (record n { label = inner_event; target = with_values (binding_of variables values) d }) e in
      ap (λ (o : Move). o.sorts) (sym test.1)
  enabling_sorts variables d n m _ e = absurd (cc e)

  enabled_good : (next : ℕ) (moves : Behaviour → Option Move) → AreGood next moves → AreGood next (enabled_move setting moves)
  enabled_good next moves good (enable b variables d) m k c ends e =
      let from : _ = chained (λ (n : Move). enabling data_.signature variables d n n.label) (moves b) e in λ sorted.
      let g : IsGood (Some (sorts_of variables)) from.0 =
      good b from.0 (Some (sorts_of variables)) c.0 ends.0 from.1
      (subst (Supplied data_.signature leaves next) (enabling_sorts variables d from.0 m from.0.label from.2) sorted) in
      enabling_good variables d from.0 m from.0.label k g.label c.2 ends.1 from.2
  enabled_good next moves good _ m k c ends e = absurd (cc e)

  not_ending : (label : Label) (k : Functionality) → is_exit label ≡ false → LabelEnds k label
  not_ending inner_event k e = tt
  not_ending (gate_event g values) k e = tt
  not_ending (exit_event values) k e = let never : true ≡ false = e in absurd (cc never)

  passed_good : (next : ℕ) (moves : Behaviour → Option Move) → AreGood next moves → AreGood next (passed_move moves)
  passed_good next moves good (enable b variables d) m k c ends e =
      let from : _ = chained (passing variables d) (moves b) e in
      let test : _ = tested_not (is_exit from.0.label) (record from.0 { target = enable from.0.target variables d }) from.2 in
      subst (Good next k) test.1 (λ sorted.
      let g : IsGood (Some (sorts_of variables)) from.0 = good b from.0 (Some (sorts_of variables)) c.0 ends.0 from.1 sorted in
      record { label = not_ending from.0.label k test.0; target = (g.target, ends.1) })
  passed_good next moves good _ m k c ends e = absurd (cc e)

  let_good : (next : ℕ) (moves : Behaviour → Option Move) → AreGood next moves → AreGood next (let_move setting moves)
  let_good next moves good (let_be bindings b) m k c ends e =
      let values = represented_terms data_.signature represent keeps (let_variables bindings) (let_terms bindings) c.1 in
      good (with_values (binding_of (let_variables bindings) (map represent (let_terms bindings))) b) m k
      (inside data_ specification well_formed represent keeps leaves (let_variables bindings)
      (map represent (let_terms bindings)) b values c.2)
      (put_inside (let_variables bindings) (map represent (let_terms bindings)) b k values c.2 ends) e
  let_good next moves good _ m k c ends e = absurd (cc e)

  value_good : (next : ℕ) (moves : Behaviour → Option Move) → AreGood (suc next) moves → AreGood next (value_move setting leaves next moves)
  value_good next moves good (choose_value x b) m k c ends e =
      let within : Behaviour = with_values (binding_of (x ∷ []) (represent (leaves next x.sort) ∷ [])) b in
      let from : _ = mapped (after_leaf x.sort) (moves within) e in
      subst (Good next k) from.2 (λ sorted.
      let values : AreValues data_.signature (sorts_of (x ∷ [])) (represent (leaves next x.sort) ∷ []) =
      (keeps (leaves next x.sort) x.sort sorted.0, tt) in
      let g : IsGood k from.0 = good within from.0 k
      (inside data_ specification well_formed represent keeps leaves (x ∷ []) (represent (leaves next x.sort) ∷ []) b values c.1)
      (put_inside (x ∷ []) (represent (leaves next x.sort) ∷ []) b k values c.1 ends) from.1 sorted.1 in
      record { label = g.label; target = g.target })
  value_good next moves good _ m k c ends e = absurd (cc e)

  label_ends_under : (pairs : Relabelling) (label : Label) (k : Functionality) → LabelEnds k label → LabelEnds k (label_under pairs label)
  label_ends_under pairs inner_event k l = tt
  label_ends_under pairs (gate_event g values) k l = tt
  label_ends_under pairs (exit_event values) k l = l

  relabelled_good : (pairs : Relabelling) (m : Move) (k : Functionality) → IsGood k m → IsGood k (relabelling pairs m)
  relabelled_good pairs m k g = record {
    label = label_ends_under pairs m.label k g.label;
    target = under_ends data_.signature specification.processes m.target pairs k g.target;
  }

  gate_good : (i next : ℕ) (moves : Behaviour → Option Move) → AreGood next moves → AreGood next (gate_move i moves)
  gate_good i next moves good (choose_gate g gates b) m k c ends e =
      let at : _ = chained (λ (a : ℕ). option_map (relabelling ((g, a) ∷ [])) (moves b)) (slice_get gates i) e in
      let from : _ = mapped (relabelling ((g, at.0) ∷ [])) (moves b) at.2 in
      subst (Good next k) from.2 (λ sorted. relabelled_good ((g, at.0) ∷ []) from.0 k (good b from.0 k c.2 ends from.1 sorted))
  gate_good i next moves good _ m k c ends e = absurd (cc e)

  abbrev Defined : Process → Type 0
  Defined p = IsDefinition data_.signature names specification.processes p.gates p.parameters p.exit p.body

  abbrev Agrees : Process → Type 0
  Agrees p = EndsWithin data_.signature specification.processes p.body p.exit

  called_good : (next : ℕ) (moves : Behaviour → Option Move) → AreGood next moves → AreGood next (called_move setting moves)
  called_good next moves good (call number gates arguments) m k c ends e =
      let at : _ = chained (λ (process : Process). option_map (relabelling (zip process.gates gates))
      (moves (with_values (binding_of process.parameters (map represent arguments)) process.body)))
      (slice_get specification.processes number) e in
      let process : Process = at.0 in
      let same : c.1.process ≡ process = some_value (sym c.1.exists ∙ at.1) in
      let defined : Defined process = Every-at Defined specification.processes number process well_formed.each at.1 in
      let agrees : Agrees process = Every-at Agrees specification.processes number process agree.each at.1 in
      let declares : IsDeclaredOrNone process.exit k = subst (λ (p : Process). IsDeclaredOrNone p.exit k)
      (some_value (sym ends.1 ∙ at.1)) ends.2 in
      let body : EndsHere k process.body = ends_more data_.signature specification.processes process.body process.exit k declares
      (within_ends data_.signature specification.processes process.body process.exit agrees) in
      let within : Behaviour = with_values (binding_of process.parameters (map represent arguments)) process.body in
      let from : _ = mapped (relabelling (zip process.gates gates)) (moves within) at.2 in
      let terms : AreTermsIn data_.signature [] process.parameters arguments = subst
      (λ (p : Process). AreTermsIn data_.signature [] p.parameters arguments) same c.1.values in
      let values = represented_terms data_.signature represent keeps process.parameters arguments terms in
      subst (Good next k) from.2 (λ sorted.
      relabelled_good (zip process.gates gates) from.0 k
      (good within from.0 k (closed_by data_.signature names specification.processes process.parameters
      (map represent arguments) process.body values defined.behaviour)
      (put_ends data_.signature specification.processes names process.parameters []
      (binding_of process.parameters (map represent arguments))
      (bound_puts data_.signature process.parameters (map represent arguments) values) process.body k defined.behaviour body)
      from.1 sorted))
  called_good next moves good _ m k c ends e = absurd (cc e)

  relabelled_row : (next : ℕ) (moves : Behaviour → Option Move) → AreGood next moves → AreGood next (relabelled_move moves)
  relabelled_row next moves good (relabel pairs b) m k c ends e =
      let from : _ = mapped (relabelling pairs) (moves b) e in
      subst (Good next k) from.2 (λ sorted. relabelled_good pairs from.0 k (good b from.0 k c.1 ends from.1 sorted))
  relabelled_row next moves good _ m k c ends e = absurd (cc e)

  -- what a gate `par` stands for ends as it does
  at_opened : (next : ℕ) (moves : Behaviour → Option Move) → AreGood next moves → AreGood next (λ b. moves (opened b))
  at_opened next moves good b m k c ends e =
      good (opened b) m k (opened_closed data_ specification well_formed represent keeps leaves b c)
      (opened_ends data_.signature specification.processes b k ends) e

  good_moves : (s : Shape) (next : ℕ) → AreGood next (move_of setting leaves s next)
  good_moves act next = at_opened next (act_move setting leaves next) (act_good next)
  good_moves quit next = at_opened next (quit_move setting leaves next) (quit_good next)
  good_moves inner_step next = at_opened next inner_move (inner_good next)
  good_moves (guarded s) next =
      at_opened next (guarded_move (move_of setting leaves s next)) (guarded_good next (move_of setting leaves s next) (good_moves s next))
  good_moves (left_side s) next =
      at_opened next (left_move (move_of setting leaves s next)) (left_good next (move_of setting leaves s next) (good_moves s next))
  good_moves (right_side s) next =
      at_opened next (right_move (move_of setting leaves s next)) (right_good next (move_of setting leaves s next) (good_moves s next))
  good_moves (both_sides s t) next =
      at_opened next (both_move setting next (move_of setting leaves s next) (move_of setting leaves t))
      (both_good next (move_of setting leaves s next) (good_moves s next) (move_of setting leaves t) (good_moves t))
  good_moves (hidden s) next =
      at_opened next (hidden_move (move_of setting leaves s next)) (hidden_good next (move_of setting leaves s next) (good_moves s next))
  good_moves (enabled s) next =
      at_opened next (enabled_move setting (move_of setting leaves s next))
      (enabled_good next (move_of setting leaves s next) (good_moves s next))
  good_moves (passed s) next =
      at_opened next (passed_move (move_of setting leaves s next)) (passed_good next (move_of setting leaves s next) (good_moves s next))
  good_moves (let_bound s) next =
      at_opened next (let_move setting (move_of setting leaves s next)) (let_good next (move_of setting leaves s next) (good_moves s next))
  good_moves (with_value s) next =
      at_opened next (value_move setting leaves next (move_of setting leaves s (suc next)))
      (value_good next (move_of setting leaves s (suc next)) (good_moves s (suc next)))
  good_moves (at_gate i s) next =
      at_opened next (gate_move i (move_of setting leaves s next)) (gate_good i next (move_of setting leaves s next) (good_moves s next))
  good_moves (called s) next =
      at_opened next (called_move setting (move_of setting leaves s next))
      (called_good next (move_of setting leaves s next) (good_moves s next))
  good_moves (relabelled s) next =
      at_opened next (relabelled_move (move_of setting leaves s next))
      (relabelled_row next (move_of setting leaves s next) (good_moves s next))

  exit_of : (label : Label) (values : List Term) (k : Functionality) → LabelEnds k label → label ≡ exit_event values
      → EndsWith data_.signature k values
  exit_of label values k is e = subst (LabelEnds k) e is

move_keeps : (data_ : Data) (represent : Term → Term) (specification : Specification) (b : Behaviour) (declared : Functionality)
    → IsSpecification data_.signature specification → AllAgree data_.signature specification → RepresentsSorted data_.signature represent
    → IsClosedBehaviour data_.signature specification b → EndsWithin data_.signature specification.processes b declared
    → (d : Derivation) (label : Label) (target : Behaviour) → GivesMove data_ represent specification.processes b d label target
    → MoveKeeps data_.signature specification.processes declared label target
move_keeps data_ represent specification b declared fine agree keeps closed ends d label target gives = record {
  ends = λ values e. exit_of data_ specification fine agree represent keeps (leaves_in d.leaves) label values declared good.label e;
  goes_on = found_of data_.signature specification.processes target declared good.target;
}
  where
    good : IsGood data_ specification fine agree represent keeps (leaves_in d.leaves) declared
        (record { label = label; target = target; asked = gives.asked; sorts = gives.sorts })
    good =
        good_moves data_ specification fine agree represent keeps (leaves_in d.leaves) d.shape 0 b
        (record { label = label; target = target; asked = gives.asked; sorts = gives.sorts }) declared closed
        (within_ends data_.signature specification.processes b declared ends) gives.move
        (Supplied-leaves_in data_.signature gives.sorts d.leaves gives.leaves)

-- along derivations
run_keeps : (data_ : Data) (represent : Term → Term) (specification : Specification) (b : Behaviour) (declared : Functionality)
    → IsSpecification data_.signature specification → AllAgree data_.signature specification → RepresentsSorted data_.signature represent
    → IsClosedBehaviour data_.signature specification b → EndsWithin data_.signature specification.processes b declared
    → (ds : List Derivation) (target : Behaviour) → Reaches data_ represent specification.processes b ds target
    → EndsWithin data_.signature specification.processes target declared
run_keeps data_ represent specification b declared fine agree keeps closed ends _ _ at_start = ends
run_keeps data_ represent specification b declared fine agree keeps closed ends _ _
    (one_move {next = next} {target = target} {d = d} {ds = ds} {label = label} move rest) =
    run_keeps data_ represent specification next declared fine agree keeps
    (closed_move data_ specification represent fine keeps b closed d label next move).1
    (move_keeps data_ represent specification b declared fine agree keeps closed ends d label next move).goes_on ds target rest

body_keeps : (signature : Signature) (names : ℕ) (processes : List Process) (parameters : List Variable) (values : List Term)
    (b : Behaviour)
    (declared : Functionality) → IsBehaviour signature names processes parameters b → AreValues signature (sorts_of parameters) values
    → EndsWithin signature processes b declared → EndsWithin signature processes (with_values (binding_of parameters values) b) declared
body_keeps signature names processes parameters values b declared fine fit ends =
    found_of signature processes (with_values (binding_of parameters values) b) declared
    (put_ends signature processes names parameters [] (binding_of parameters values) (bound_puts signature parameters values fit) b declared
    fine (within_ends signature processes b declared ends))

pub exits_have_sorts : ExitsHaveTheirSorts
exits_have_sorts = record {
  moves = move_keeps;
  reached = run_keeps;
  closed_by_values = body_keeps;
  never = λ data_ represent specification b fine agree keeps closed has d values target gives.
      let is = (move_keeps data_ represent specification b None fine agree keeps closed
      (record { found = None; has = has; within = inl refl })
      d (exit_event values) target gives).ends values refl in
      let none : Some is.sorts ≡ None = sym is.functionality in cc none;
}
