-- Moves lead from closed well-formed behaviours to closed well-formed behaviours, and have closed labels: by induction
-- on the shape, and for each variant by cases on the behaviour.
use Rattle.std.proofs.Common.{◌≡◌, ◌<◌, ℕ, suc, ◌+◌, List, [], ◌∷◌, ◌++◌, length, map, zip, slice_get, Bool, true, false, if◌then◌else◌, Option, None, Some, option_map, option_and_then, refl, ap, sym, ◌∙◌, subst, eqb-true}
use Rattle.std.specs.Cmp.{first_so, second_so}
use Rattle.std.proofs.lemmas.List.{append-nil}
use Rattle.lotos_base.proofs.Options.{mapped, chained}
use Rattle.lotos_base.specs.Signature.{Signature}
use Rattle.lotos_base.specs.Term.{Term}
use Rattle.lotos_base.specs.Sorting.{head_sort_of, IsGroundOf}
use Rattle.lotos_base.specs.Equation.{Data, Variable}
use Rattle.lotos_base.specs.Substitution.{Substitution, is_listed}
use Rattle.lotos_base.proofs.SubstitutionLemmas.{no_variable_ground}
use Rattle.lotos_base.proofs.SortLemmas.{sort_of_sorted}
use Rattle.behaviour_semantics.specs.Behaviour.{Behaviour, stop, exit_with, action, inner_action, guard, choice, parallel, hide, enable, disable, let_be, choose_value, choose_gate, par_gate, call, relabel, Offer, give, ask, ExitValue, exit_value, any_of, SynchronisationSet, Process, Specification, Relabelling, asked_variables, open_sorts, sorts_of, let_variables, let_terms}
use Rattle.behaviour_semantics.specs.Label.{Label, inner_event, gate_event, exit_event, label_under, gate_under, under}
use Rattle.behaviour_semantics.specs.Replacement.{with_values, binding_of}
use Rattle.behaviour_semantics.specs.Rule.{offered, results_of, moves_alone, is_same_known_sort, have_sorts, move_together, label_values, pairwise, hidden_label, is_exit, still_disabled, copies, AreValues}
use Rattle.behaviour_semantics.specs.Shape.{Shape, act, quit, inner_step, guarded, left_side, right_side, both_sides, hidden, enabled, passed, let_bound, with_value, at_gate, called, relabelled, Derivation}
use Rattle.behaviour_semantics.specs.Move.{Setting, Move, move_of, taken, opened, alone, together, passing, enabling, disabling, hiding, asking, relabelling, after_leaf, act_move, quit_move, inner_move, guarded_move, left_move, right_move, both_move, hidden_move, enabled_move, passed_move, let_move, value_move, gate_move, called_move, relabelled_move}
use Rattle.behaviour_semantics.specs.Derives.{GivesMove, leaves_in}
use Rattle.behaviour_semantics.specs.WellFormed.{Every, IsTermIn, AreTermsIn, IsOffer, IsExitValue, AreGates, IsSynchronisationSet, IsRelabelling, IsBehaviour, IsDefinition, IsSpecification, IsClosedLabel, IsClosedBehaviour}
use Rattle.behaviour_semantics.proofs.OptionLemmas.{some_value, tested, tested_not}
use Rattle.behaviour_semantics.proofs.ListLemmas.{Every-at}
use Rattle.behaviour_semantics.proofs.SupplyLemmas.{Supplied, Supplied-append, Supplied-leaves_in, AreValues-taken}
use Rattle.behaviour_semantics.proofs.PutTerms.{closed_by}
use Rattle.behaviour_semantics.proofs.DistinctGates.{gate_named, gates_named, composed, of_call, of_gate}

-- The form keeps ground terms ground and of their sort.
abbrev pub KeepsGround : Signature → (Term → Term) → Type 0
KeepsGround signature represent = (t : Term) (s : ℕ) → IsGroundOf signature s t → IsGroundOf signature s (represent t)

abbrev pub IsValue : Signature → Term → Type 0
IsValue signature v = (sort : ℕ) × IsGroundOf signature sort v

pub ground_of : (signature : Signature) (s : ℕ) (t : Term) → IsTermIn signature [] s t → IsGroundOf signature s t
ground_of signature s t h = record { ground = no_variable_ground t (λ n r o. absurd (cc (h.bound n r o))); sorted = h.sorted }

pub same_sort : (o : Option ℕ) (s : ℕ) → is_same_known_sort o (Some s) ≡ true → o ≡ Some s
same_sort None s e = absurd (cc e)
same_sort (Some r) s e = ap (λ (n : ℕ). Some n) (eqb-true r s e)

module _ (signature : Signature) (represent : Term → Term) (keeps : KeepsGround signature represent) where
  pub represented_values : (sorts : List ℕ) (terms : List Term) → AreValues signature sorts terms
      → AreValues signature sorts (map represent terms)
  represented_values [] [] h = tt
  represented_values (s ∷ sorts) (t ∷ terms) h = (keeps t s h.0, represented_values sorts terms h.1)
  represented_values [] (t ∷ terms) h = absurd h
  represented_values (s ∷ sorts) [] h = absurd h

  pub represented_terms : (variables : List Variable) (terms : List Term) → AreTermsIn signature [] variables terms
      → AreValues signature (sorts_of variables) (map represent terms)
  represented_terms [] [] h = tt
  represented_terms (x ∷ variables) (t ∷ terms) h = (
    keeps t x.sort (ground_of signature x.sort t h.0),
    represented_terms variables terms h.1,
  )
  represented_terms [] (t ∷ terms) h = absurd h
  represented_terms (x ∷ variables) [] h = absurd h

  offered_values : (offers : List Offer) (chosen : List Term) → Every (IsOffer signature []) offers
      → AreValues signature (sorts_of (asked_variables offers)) chosen → Every (IsValue signature) (offered represent offers chosen)
  offered_values [] chosen h values = tt
  offered_values (give t ∷ offers) chosen h values = (
    (h.0.0, keeps t h.0.0 (ground_of signature h.0.0 t h.0.1)),
    offered_values offers chosen h.1 values,
  )
  offered_values (ask x ∷ offers) [] h values = absurd values
  offered_values (ask x ∷ offers) (v ∷ chosen) h values = ((x.sort, keeps v x.sort values.0), offered_values offers chosen h.1 values.1)

  result_values : (results : List ExitValue) (chosen : List Term) → Every (IsExitValue signature []) results
      → AreValues signature (open_sorts results) chosen → Every (IsValue signature) (results_of represent results chosen)
  result_values [] chosen h values = tt
  result_values (exit_value t ∷ results) chosen h values =
      ((h.0.0, keeps t h.0.0 (ground_of signature h.0.0 t h.0.1)), result_values results chosen h.1 values)
  result_values (any_of s ∷ results) [] h values = absurd values
  result_values (any_of s ∷ results) (v ∷ chosen) h values = ((s, keeps v s values.0), result_values results chosen h.1 values.1)

  -- values of the sorts of variables
  sorted_values : (values : List Term) (variables : List Variable) → Every (IsValue signature) values
      → have_sorts signature values (sorts_of variables) ≡ true → AreValues signature (sorts_of variables) values
  sorted_values [] [] h e = tt
  sorted_values (v ∷ values) (x ∷ variables) h e =
      let known : head_sort_of signature v ≡ Some x.sort = same_sort (head_sort_of signature v) x.sort
      (first_so (is_same_known_sort (head_sort_of signature v) (Some x.sort)) _ e) in
      let same : h.0.0 ≡ x.sort = some_value (sym (sort_of_sorted signature v h.0.0 h.0.1.sorted) ∙ known) in (
        subst (λ (s : ℕ). IsGroundOf signature s v) same h.0.1,
        sorted_values values variables h.1 (second_so (is_same_known_sort (head_sort_of signature v) (Some x.sort)) _ e),
      )
  sorted_values [] (x ∷ variables) h e = absurd (cc e)
  sorted_values (v ∷ values) [] h e = absurd (cc e)

module _ (data_ : Data) (specification : Specification) (well_formed : IsSpecification data_.signature specification) (represent : Term
    → Term) (keeps : KeepsGround data_.signature represent) (leaves : Substitution) where
  abbrev names : ℕ
  names = length specification.gate_names

  abbrev setting : Setting
  setting = record { signature = data_.signature; represent = represent; processes = specification.processes }

  abbrev Closed : Behaviour → Type 0
  Closed b = IsClosedBehaviour data_.signature specification b

  abbrev IsGood : Move → Type 0
  IsGood m = IsClosedLabel data_.signature specification m.label × Closed m.target

  -- The moves of closed behaviours are good, where their leaves are values.
  abbrev AreGood : ℕ → (Behaviour → Option Move) → Type 0
  AreGood next moves = (b : Behaviour) (m : Move) → Closed b → moves b ≡ Some m → Supplied data_.signature leaves next m.sorts → IsGood m

  abbrev Good : ℕ → Move → Type 0
  Good next m = Supplied data_.signature leaves next m.sorts → IsGood m

  label_closed : (pairs : Relabelling) (label : Label) → IsRelabelling names pairs → IsClosedLabel data_.signature specification label
      → IsClosedLabel data_.signature specification (label_under pairs label)
  label_closed pairs inner_event h l = tt
  label_closed pairs (gate_event g values) h l = (gate_named names pairs g h.1 l.0, l.1)
  label_closed pairs (exit_event values) h l = l

  under_closed : (b : Behaviour) (pairs : Relabelling) → IsRelabelling names pairs → Closed b → Closed (under b pairs)
  under_closed stop pairs h c = tt
  under_closed (call number gates arguments) pairs h c = (
    gates_named names pairs gates h.1 c.0,
    record {
      process = c.1.process;
      exists = c.1.exists;
      gate_count = same_length gates ∙ c.1.gate_count;
      values = c.1.values;
    },
  )
    where
      same_length : (gs : List ℕ) → length (map (gate_under pairs) gs) ≡ length gs
      same_length [] = refl
      same_length (g ∷ gs) = ap suc (same_length gs)
  under_closed (relabel inner b) pairs h c = (composed names inner pairs c.0 h, c.1)
  under_closed (exit_with results) pairs h c = (h, c)
  under_closed (action g offers test b) pairs h c = (h, c)
  under_closed (inner_action b) pairs h c = (h, c)
  under_closed (guard test b) pairs h c = (h, c)
  under_closed (choice b d) pairs h c = (h, c)
  under_closed (parallel meet b d) pairs h c = (h, c)
  under_closed (hide gates b) pairs h c = (h, c)
  under_closed (enable b variables d) pairs h c = (h, c)
  under_closed (disable b d) pairs h c = (h, c)
  under_closed (let_be bindings b) pairs h c = (h, c)
  under_closed (choose_value x b) pairs h c = (h, c)
  under_closed (choose_gate g gates b) pairs h c = (h, c)
  under_closed (par_gate g gates meet b) pairs h c = (h, c)

  relabelled_good : (pairs : Relabelling) (m : Move) → IsRelabelling names pairs → IsGood m → IsGood (relabelling pairs m)
  relabelled_good pairs m h good = (label_closed pairs m.label h good.0, under_closed m.target pairs h good.1)

  copies_closed : (g : ℕ) (gates : List ℕ) (meet : SynchronisationSet) (b : Behaviour) → g < names → AreGates names gates
      → IsSynchronisationSet names meet → Closed b → Closed (copies g gates meet b)
  copies_closed g [] meet b lt h m c = tt
  copies_closed g (a ∷ []) meet b lt h m c = under_closed b ((g, a) ∷ []) (of_gate names g a lt h.0) c
  copies_closed g (a ∷ a' ∷ gates) meet b lt h m c = (
    m,
    under_closed b ((g, a) ∷ []) (of_gate names g a lt h.0) c,
    copies_closed g (a' ∷ gates) meet b lt h.1 m c,
  )

  pub opened_closed : (b : Behaviour) → Closed b → Closed (opened b)
  opened_closed (par_gate g gates meet b) c = copies_closed g gates meet b c.0 c.2 c.3 c.4
  opened_closed stop c = c
  opened_closed (exit_with results) c = c
  opened_closed (action g offers test b) c = c
  opened_closed (inner_action b) c = c
  opened_closed (guard test b) c = c
  opened_closed (choice b d) c = c
  opened_closed (parallel meet b d) c = c
  opened_closed (hide gates b) c = c
  opened_closed (enable b variables d) c = c
  opened_closed (disable b d) c = c
  opened_closed (let_be bindings b) c = c
  opened_closed (choose_value x b) c = c
  opened_closed (choose_gate g gates b) c = c
  opened_closed (call number gates arguments) c = c
  opened_closed (relabel pairs b) c = c

  -- A behaviour in the scope of variables is closed by values for them.
  pub inside : (variables : List Variable) (terms : List Term) (b : Behaviour) → AreValues data_.signature (sorts_of variables) terms
      → IsBehaviour data_.signature names specification.processes (variables ++ []) b
      → Closed (with_values (binding_of variables terms) b)
  inside variables terms b values h =
      closed_by data_.signature names specification.processes variables terms b values
      (subst (λ (scope : List Variable). IsBehaviour data_.signature names specification.processes scope b) (append-nil variables) h)

  -- The rows of the table.

  act_good : (next : ℕ) → AreGood next (act_move setting leaves next)
  act_good next (action g offers test b) m c e =
      subst (Good next) (some_value e) (λ sorted.
      let variables : List Variable = asked_variables offers in
      let chosen : List Term = taken leaves next (sorts_of variables) in
      let values : AreValues data_.signature (sorts_of variables) chosen =
      AreValues-taken data_.signature leaves next (sorts_of variables) sorted in (
        (c.0, offered_values data_.signature represent keeps offers chosen c.1 values),
        inside variables (map represent chosen) b (represented_values data_.signature represent keeps
            (sorts_of variables) chosen values) c.4,
      ))
  act_good next _ m c e = absurd (cc e)

  quit_good : (next : ℕ) → AreGood next (quit_move setting leaves next)
  quit_good next (exit_with results) m c e =
      subst (Good next) (some_value e) (λ sorted. (
        result_values data_.signature represent keeps results (taken leaves next (open_sorts results)) c
            (AreValues-taken data_.signature leaves next (open_sorts results) sorted),
        tt,
      ))
  quit_good next _ m c e = absurd (cc e)

  inner_good : (next : ℕ) → AreGood next inner_move
  inner_good next (inner_action b) m c e = subst (Good next) (some_value e) (λ sorted. (tt, c))
  inner_good next _ m c e = absurd (cc e)

  guarded_good : (next : ℕ) (moves : Behaviour → Option Move) → AreGood next moves → AreGood next (guarded_move moves)
  guarded_good next moves good (guard test b) m c e =
      let from : _ = mapped (asking test) (moves b) e in
      subst (Good next) from.2 (λ sorted. good b from.0 c.1 from.1 sorted)
  guarded_good next moves good _ m c e = absurd (cc e)

  disabled_closed : (label : Label) (target c : Behaviour) → Closed target → Closed c → Closed (still_disabled label target c)
  disabled_closed inner_event target c t d = (t, d)
  disabled_closed (gate_event g values) target c t d = (t, d)
  disabled_closed (exit_event values) target c t d = t

  left_good : (next : ℕ) (moves : Behaviour → Option Move) → AreGood next moves → AreGood next (left_move moves)
  left_good next moves good (choice b d) m c e = λ sorted. good b m c.0 e sorted
  left_good next moves good (parallel meet b d) m c e =
      let from : _ = chained (alone meet (λ target. parallel meet target d)) (moves b) e in
      let test : _ = tested (moves_alone meet from.0.label) (record from.0 { target = parallel meet from.0.target d }) from.2 in
      subst (Good next) test.1 (λ sorted. let g : IsGood from.0 = good b from.0 c.1 from.1 sorted in (g.0, (c.0, g.1, c.2)))
  left_good next moves good (disable b d) m c e =
      let from : _ = mapped (disabling d) (moves b) e in
      subst (Good next) from.2 (λ sorted. let g : IsGood from.0 =
      good b from.0 c.0 from.1 sorted in (g.0, disabled_closed from.0.label from.0.target d g.1 c.1))
  left_good next moves good _ m c e = absurd (cc e)

  right_good : (next : ℕ) (moves : Behaviour → Option Move) → AreGood next moves → AreGood next (right_move moves)
  right_good next moves good (choice b d) m c e = λ sorted. good d m c.1 e sorted
  right_good next moves good (parallel meet b d) m c e =
      let from : _ = chained (alone meet (λ target. parallel meet b target)) (moves d) e in
      let test : _ = tested (moves_alone meet from.0.label) (record from.0 { target = parallel meet b from.0.target }) from.2 in
      subst (Good next) test.1 (λ sorted. let g : IsGood from.0 = good d from.0 c.2 from.1 sorted in (g.0, (c.0, c.1, g.1)))
  right_good next moves good (disable b d) m c e = λ sorted. good d m c.1 e sorted
  right_good next moves good _ m c e = absurd (cc e)

  both_good : (next : ℕ) (moves : Behaviour → Option Move) → AreGood next moves → (others : ℕ → Behaviour → Option Move)
      → ((n : ℕ) → AreGood n (others n)) → AreGood next (both_move setting next moves others)
  both_good next moves good others goods (parallel meet b d) m c e =
      let from : _ = chained (λ (n : Move). option_and_then (together data_.signature meet n) (others (next + length n.sorts) d)) (moves b)
      e in
      let n : Move = from.0 in
      let then_ : _ = chained (together data_.signature meet n) (others (next + length n.sorts) d) from.2 in
      let k : Move = then_.0 in
      let test : _ =
      tested (move_together data_.signature meet n.label k.label)
      (record {
        label = n.label;
        target = parallel meet n.target k.target;
        asked = n.asked ++ k.asked ++ pairwise (label_values n.label) (label_values k.label);
        sorts = n.sorts ++ k.sorts;
      }) then_.2 in
      subst (Good next) test.1 (λ sorted.
      let supplied : _ × _ = Supplied-append data_.signature leaves next n.sorts k.sorts sorted in
      let left : IsGood n = good b n c.1 from.1 supplied.0 in
      let right : IsGood k = goods (next + length n.sorts) d k c.2 then_.1 supplied.1 in
      (left.0, (c.0, left.1, right.1)))
  both_good next moves good others goods _ m c e = absurd (cc e)

  hidden_closed : (gates : List ℕ) (label : Label) → IsClosedLabel data_.signature specification label
      → IsClosedLabel data_.signature specification (hidden_label gates label)
  hidden_closed gates inner_event l = tt
  hidden_closed gates (gate_event g values) l = by (is_listed gates g)
    where
      by : (b : Bool) → IsClosedLabel data_.signature specification (if b then inner_event else gate_event g values)
      by true = tt
      by false = l
  hidden_closed gates (exit_event values) l = l

  hidden_good : (next : ℕ) (moves : Behaviour → Option Move) → AreGood next moves → AreGood next (hidden_move moves)
  hidden_good next moves good (hide gates b) m c e =
      let from : _ = mapped (hiding gates) (moves b) e in
      subst (Good next) from.2 (λ sorted. let g : IsGood from.0 =
      good b from.0 c.1 from.1 sorted in (hidden_closed gates from.0.label g.0, (c.0, g.1)))
  hidden_good next moves good _ m c e = absurd (cc e)

  enabling_good : (variables : List Variable) (d : Behaviour) (n m : Move) (label : Label)
      → IsClosedLabel data_.signature specification label → IsBehaviour data_.signature names specification.processes (variables ++ []) d
      → enabling data_.signature variables d n label ≡ Some m → IsGood m
  enabling_good variables d n m (exit_event values) l c e =
      let test : _ = tested (have_sorts data_.signature values (sorts_of variables))
      (record n { label = inner_event; target = with_values (binding_of variables values) d }) e in
      subst IsGood test.1 (tt, inside variables values d (sorted_values data_.signature represent keeps values variables l test.0) c)
  enabling_good variables d n m _ l c e = absurd (cc e)

  enabling_sorts : (variables : List Variable) (d : Behaviour) (n m : Move) (label : Label)
      → enabling data_.signature variables d n label ≡ Some m → m.sorts ≡ n.sorts
  enabling_sorts variables d n m (exit_event values) e =
      let test : _ = tested (have_sorts data_.signature values (sorts_of variables))
      (record n { label = inner_event; target = with_values (binding_of variables values) d }) e in
      ap (λ (k : Move). k.sorts) (sym test.1)
  enabling_sorts variables d n m _ e = absurd (cc e)

  enabled_good : (next : ℕ) (moves : Behaviour → Option Move) → AreGood next moves → AreGood next (enabled_move setting moves)
  enabled_good next moves good (enable b variables d) m c e =
      let from : _ = chained (λ (n : Move). enabling data_.signature variables d n n.label) (moves b) e in λ sorted.
      let g : IsGood from.0 = good b from.0 c.0 from.1 (subst (Supplied data_.signature leaves next)
      (enabling_sorts variables d from.0 m from.0.label from.2) sorted) in
      enabling_good variables d from.0 m from.0.label g.0 c.2 from.2
  enabled_good next moves good _ m c e = absurd (cc e)

  passed_good : (next : ℕ) (moves : Behaviour → Option Move) → AreGood next moves → AreGood next (passed_move moves)
  passed_good next moves good (enable b variables d) m c e =
      let from : _ = chained (passing variables d) (moves b) e in
      let test : _ = tested_not (is_exit from.0.label) (record from.0 { target = enable from.0.target variables d }) from.2 in
      subst (Good next) test.1 (λ sorted. let g : IsGood from.0 = good b from.0 c.0 from.1 sorted in (g.0, (g.1, c.1, c.2)))
  passed_good next moves good _ m c e = absurd (cc e)

  let_good : (next : ℕ) (moves : Behaviour → Option Move) → AreGood next moves → AreGood next (let_move setting moves)
  let_good next moves good (let_be bindings b) m c e =
      good (with_values (binding_of (let_variables bindings) (map represent (let_terms bindings))) b) m
      (inside (let_variables bindings) (map represent (let_terms bindings)) b
      (represented_terms data_.signature represent keeps (let_variables bindings) (let_terms bindings) c.1) c.2) e
  let_good next moves good _ m c e = absurd (cc e)

  value_good : (next : ℕ) (moves : Behaviour → Option Move) → AreGood (suc next) moves → AreGood next (value_move setting leaves next moves)
  value_good next moves good (choose_value x b) m c e =
      let within : Behaviour = with_values (binding_of (x ∷ []) (represent (leaves next x.sort) ∷ [])) b in
      let from : _ = mapped (after_leaf x.sort) (moves within) e in
      subst (Good next) from.2 (λ sorted.
      good within from.0 (inside (x ∷ []) (represent (leaves next x.sort) ∷ []) b (keeps (leaves next x.sort) x.sort sorted.0, tt) c.1)
      from.1 sorted.1)
  value_good next moves good _ m c e = absurd (cc e)

  gate_good : (k next : ℕ) (moves : Behaviour → Option Move) → AreGood next moves → AreGood next (gate_move k moves)
  gate_good k next moves good (choose_gate g gates b) m c e =
      let at : _ = chained (λ (a : ℕ). option_map (relabelling ((g, a) ∷ [])) (moves b)) (slice_get gates k) e in
      let from : _ = mapped (relabelling ((g, at.0) ∷ [])) (moves b) at.2 in
      subst (Good next) from.2 (λ sorted. relabelled_good ((g, at.0) ∷ []) from.0
      (of_gate names g at.0 c.0 (Every-at (λ (a : ℕ). a < names) gates k at.0 c.1 at.1)) (good b from.0 c.2 from.1 sorted))
  gate_good k next moves good _ m c e = absurd (cc e)

  abbrev Defined : Process → Type 0
  Defined p = IsDefinition data_.signature names specification.processes p.gates p.parameters p.exit p.body

  called_good : (next : ℕ) (moves : Behaviour → Option Move) → AreGood next moves → AreGood next (called_move setting moves)
  called_good next moves good (call number gates arguments) m c e =
      let at : _ = chained (λ (process : Process). option_map (relabelling (zip process.gates gates))
      (moves (with_values (binding_of process.parameters (map represent arguments)) process.body)))
      (slice_get specification.processes number) e in
      let process : Process = at.0 in
      let same : c.1.process ≡ process = some_value (sym c.1.exists ∙ at.1) in
      let defined : Defined process = Every-at Defined specification.processes number process well_formed.each at.1 in
      let within : Behaviour = with_values (binding_of process.parameters (map represent arguments)) process.body in
      let from : _ = mapped (relabelling (zip process.gates gates)) (moves within) at.2 in
      let terms : AreTermsIn data_.signature [] process.parameters arguments =
      subst (λ (p : Process). AreTermsIn data_.signature [] p.parameters arguments) same c.1.values in
      let count : length gates ≡ length process.gates = subst (λ (p : Process). length gates ≡ length p.gates) same c.1.gate_count in
      subst (Good next) from.2 (λ sorted.
      relabelled_good (zip process.gates gates) from.0 (of_call names process.gates gates defined.distinct_gates defined.named_gates c.0
      count)
      (good within from.0 (closed_by data_.signature names specification.processes process.parameters
      (map represent arguments) process.body (represented_terms data_.signature represent keeps process.parameters arguments terms)
      defined.behaviour) from.1 sorted))
  called_good next moves good _ m c e = absurd (cc e)

  relabelled_row : (next : ℕ) (moves : Behaviour → Option Move) → AreGood next moves → AreGood next (relabelled_move moves)
  relabelled_row next moves good (relabel pairs b) m c e =
      let from : _ = mapped (relabelling pairs) (moves b) e in
      subst (Good next) from.2 (λ sorted. relabelled_good pairs from.0 c.0 (good b from.0 c.1 from.1 sorted))
  relabelled_row next moves good _ m c e = absurd (cc e)

  pub good_moves : (s : Shape) (next : ℕ) → AreGood next (move_of setting leaves s next)
  good_moves act next b m c e = act_good next (opened b) m (opened_closed b c) e
  good_moves quit next b m c e = quit_good next (opened b) m (opened_closed b c) e
  good_moves inner_step next b m c e = inner_good next (opened b) m (opened_closed b c) e
  good_moves (guarded s) next b m c e = guarded_good next (move_of setting leaves s next) (good_moves s next) (opened b) m
      (opened_closed b c) e
  good_moves (left_side s) next b m c e = left_good next (move_of setting leaves s next) (good_moves s next) (opened b) m
      (opened_closed b c) e
  good_moves (right_side s) next b m c e = right_good next (move_of setting leaves s next) (good_moves s next) (opened b) m
      (opened_closed b c) e
  good_moves (both_sides s t) next b m c e = both_good next (move_of setting leaves s next) (good_moves s next) (move_of setting leaves t)
      (good_moves t) (opened b) m (opened_closed b c) e
  good_moves (hidden s) next b m c e = hidden_good next (move_of setting leaves s next) (good_moves s next) (opened b) m (opened_closed b c)
      e
  good_moves (enabled s) next b m c e = enabled_good next (move_of setting leaves s next) (good_moves s next) (opened b) m
      (opened_closed b c) e
  good_moves (passed s) next b m c e = passed_good next (move_of setting leaves s next) (good_moves s next) (opened b) m (opened_closed b c)
      e
  good_moves (let_bound s) next b m c e = let_good next (move_of setting leaves s next) (good_moves s next) (opened b) m (opened_closed b c)
      e
  good_moves (with_value s) next b m c e = value_good next (move_of setting leaves s (suc next)) (good_moves s (suc next)) (opened b) m
      (opened_closed b c) e
  good_moves (at_gate k s) next b m c e = gate_good k next (move_of setting leaves s next) (good_moves s next) (opened b) m
      (opened_closed b c) e
  good_moves (called s) next b m c e = called_good next (move_of setting leaves s next) (good_moves s next) (opened b) m (opened_closed b c)
      e
  good_moves (relabelled s) next b m c e = relabelled_row next (move_of setting leaves s next) (good_moves s next) (opened b) m
      (opened_closed b c) e

pub closed_move : (data_ : Data) (specification : Specification) (represent : Term → Term)
    → IsSpecification data_.signature specification → KeepsGround data_.signature represent → (b : Behaviour)
    → IsClosedBehaviour data_.signature specification b → (d : Derivation) (label : Label) (target : Behaviour)
    → GivesMove data_ represent specification.processes b d label target → IsClosedLabel data_.signature specification label
    × IsClosedBehaviour data_.signature specification target
closed_move data_ specification represent well_formed keeps b closed d label target m =
    good_moves data_ specification well_formed represent keeps (leaves_in d.leaves) d.shape 0 b
    (record { label = label; target = target; asked = m.asked; sorts = m.sorts }) closed m.move
    (Supplied-leaves_in data_.signature m.sorts d.leaves m.leaves)
