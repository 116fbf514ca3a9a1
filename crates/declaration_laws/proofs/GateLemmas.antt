-- Moves stay at the gates of a behaviour.
use Rattle.std.proofs.Common.{◌≡◌, ◌⊎◌, inl, inr, ℕ, suc, ◌+◌, Bool, true, false, nat_eq, if◌then◌else◌, List, [], ◌∷◌, ◌++◌, map, zip, length, slice_get, Option, None, Some, option_map, option_and_then, refl, ap, sym, ◌∙◌, subst, arith}
use Rattle.std.proofs.lemmas.Bool.{eq-eqb}
use Rattle.lotos_base.proofs.Options.{mapped, chained}
use Rattle.lotos_base.specs.Term.{Term}
use Rattle.lotos_base.specs.Equation.{Data, Variable}
use Rattle.lotos_base.specs.Substitution.{Substitution, is_listed, without}
use Rattle.behaviour_semantics.specs.Behaviour.{Behaviour, stop, exit_with, action, inner_action, guard, choice, parallel, hide, enable, disable, let_be, choose_value, choose_gate, par_gate, call, relabel, Process, Relabelling, SynchronisationSet, asked_variables, numbers_of, sorts_of, let_variables}
use Rattle.behaviour_semantics.specs.Label.{Label, inner_event, gate_event, exit_event, gate_under, label_under, then_relabelling, under}
use Rattle.behaviour_semantics.specs.Replacement.{with_values, binding_of}
use Rattle.behaviour_semantics.specs.Rule.{moves_alone, move_together, label_values, pairwise, have_sorts, hidden_label, is_exit, copies}
use Rattle.behaviour_semantics.specs.Shape.{Shape, Derivation, act, quit, inner_step, guarded, left_side, right_side, both_sides, hidden, enabled, passed, let_bound, with_value, at_gate, called, relabelled}
use Rattle.behaviour_semantics.specs.Move.{Setting, Move, move_of, opened, alone, together, passing, enabling, disabling, hiding, asking, relabelling, after_leaf, act_move, quit_move, inner_move, guarded_move, left_move, right_move, both_move, hidden_move, enabled_move, passed_move, let_move, value_move, gate_move, called_move, relabelled_move}
use Rattle.behaviour_semantics.specs.Derives.{leaves_in, GivesMove}
use Rattle.behaviour_semantics.specs.WellFormed.{Every}
use Rattle.behaviour_semantics.proofs.OptionLemmas.{some_value}
use Rattle.behaviour_semantics.proofs.EveryLemmas.{every_map}
use Rattle.behaviour_semantics.proofs.InstanceLemmas.{every_at}
use Rattle.behaviour_semantics.proofs.RelabellingLemmas.{gate_under-then}
use Rattle.declaration_laws.specs.VisibleGates.{IsOneOf, IsAt, UsesOnly, UsesFormals, MovesStayAtGates}

-- ---- Kinds of gates

pub either_more : {A B C D : Type 0} → (A → C) → (B → D) → A ⊎ B → C ⊎ D
either_more f g (inl a) = inl (f a)
either_more f g (inr b) = inr (g b)

same_kind : {A : Type 0} → A → A
same_kind a = a

module _ (processes : List Process) where
  -- what uses gates of one kind uses gates of a wider one
  pub wider : (b : Behaviour) (One Other : ℕ → Type 0) → ((g : ℕ) → One g → Other g) → UsesOnly One processes b → UsesOnly Other processes b
  wider stop One Other more uses = tt
  wider (exit_with results) One Other more uses = tt
  wider (action g offers test b) One Other more uses = (more g uses.0, wider b One Other more uses.1)
  wider (inner_action b) One Other more uses = wider b One Other more uses
  wider (guard test b) One Other more uses = wider b One Other more uses
  wider (choice b c) One Other more uses = (wider b One Other more uses.0, wider c One Other more uses.1)
  wider (parallel meet b c) One Other more uses = (wider b One Other more uses.0, wider c One Other more uses.1)
  wider (hide gates b) One Other more uses =
      wider b (λ g. One g ⊎ IsOneOf gates g) (λ g. Other g ⊎ IsOneOf gates g) (λ g is. either_more (more g) same_kind is) uses
  wider (enable b variables c) One Other more uses = (wider b One Other more uses.0, wider c One Other more uses.1)
  wider (disable b c) One Other more uses = (wider b One Other more uses.0, wider c One Other more uses.1)
  wider (let_be bindings b) One Other more uses = wider b One Other more uses
  wider (choose_value x b) One Other more uses = wider b One Other more uses
  wider (choose_gate h gates b) One Other more uses = (
    every_map One Other more gates uses.0,
    wider b (λ g. One g ⊎ (g ≡ h)) (λ g. Other g ⊎ (g ≡ h)) (λ g is. either_more (more g) same_kind is) uses.1,
  )
  wider (par_gate h gates meet b) One Other more uses = (
    every_map One Other more gates uses.0,
    wider b (λ g. One g ⊎ (g ≡ h)) (λ g. Other g ⊎ (g ≡ h)) (λ g is. either_more (more g) same_kind is) uses.1,
  )
  wider (call number gates arguments) One Other more uses = (every_map One Other more gates uses.0, uses.1)
  wider (relabel pairs b) One Other more uses =
      wider b (λ g. One (gate_under pairs g)) (λ g. Other (gate_under pairs g)) (λ g is. more (gate_under pairs g) is) uses

  -- terms that are put in are no gates
  pub put_in : (b : Behaviour) (values : Substitution) (IsGate : ℕ → Type 0) → UsesOnly IsGate processes b
      → UsesOnly IsGate processes (with_values values b)
  put_in stop values IsGate uses = tt
  put_in (exit_with results) values IsGate uses = tt
  put_in (action g offers test b) values IsGate uses =
      (uses.0, put_in b (without (numbers_of (asked_variables offers)) values) IsGate uses.1)
  put_in (inner_action b) values IsGate uses = put_in b values IsGate uses
  put_in (guard test b) values IsGate uses = put_in b values IsGate uses
  put_in (choice b c) values IsGate uses = (put_in b values IsGate uses.0, put_in c values IsGate uses.1)
  put_in (parallel meet b c) values IsGate uses = (put_in b values IsGate uses.0, put_in c values IsGate uses.1)
  put_in (hide gates b) values IsGate uses = put_in b values (λ g. IsGate g ⊎ IsOneOf gates g) uses
  put_in (enable b variables c) values IsGate uses =
      (put_in b values IsGate uses.0, put_in c (without (numbers_of variables) values) IsGate uses.1)
  put_in (disable b c) values IsGate uses = (put_in b values IsGate uses.0, put_in c values IsGate uses.1)
  put_in (let_be bindings b) values IsGate uses = put_in b (without (numbers_of (let_variables bindings)) values) IsGate uses
  put_in (choose_value x b) values IsGate uses = put_in b (without (x.number ∷ []) values) IsGate uses
  put_in (choose_gate h gates b) values IsGate uses = (uses.0, put_in b values (λ g. IsGate g ⊎ (g ≡ h)) uses.1)
  put_in (par_gate h gates meet b) values IsGate uses = (uses.0, put_in b values (λ g. IsGate g ⊎ (g ≡ h)) uses.1)
  put_in (call number gates arguments) values IsGate uses = uses
  put_in (relabel pairs b) values IsGate uses = put_in b values (λ g. IsGate (gate_under pairs g)) uses

  -- ---- Relabelling

  mapped_gates : (pairs : Relabelling) (gates : List ℕ) (IsGate : ℕ → Type 0) → Every (λ g. IsGate (gate_under pairs g)) gates
      → Every IsGate (map (gate_under pairs) gates)
  mapped_gates pairs [] IsGate all = tt
  mapped_gates pairs (g ∷ gates) IsGate all = (all.0, mapped_gates pairs gates IsGate all.1)

  mapped_length : (pairs : Relabelling) (gates : List ℕ) → length (map (gate_under pairs) gates) ≡ length gates
  mapped_length pairs [] = refl
  mapped_length pairs (g ∷ gates) = ap suc (mapped_length pairs gates)

  pub under_uses : (b : Behaviour) (pairs : Relabelling) (IsGate : ℕ → Type 0) → UsesOnly (λ g. IsGate (gate_under pairs g)) processes b
      → UsesOnly IsGate processes (under b pairs)
  under_uses stop pairs IsGate uses = tt
  under_uses (exit_with results) pairs IsGate uses = tt
  under_uses (action g offers test b) pairs IsGate uses = uses
  under_uses (inner_action b) pairs IsGate uses = uses
  under_uses (guard test b) pairs IsGate uses = uses
  under_uses (choice b c) pairs IsGate uses = uses
  under_uses (parallel meet b c) pairs IsGate uses = uses
  under_uses (hide gates b) pairs IsGate uses = uses
  under_uses (enable b variables c) pairs IsGate uses = uses
  under_uses (disable b c) pairs IsGate uses = uses
  under_uses (let_be bindings b) pairs IsGate uses = uses
  under_uses (choose_value x b) pairs IsGate uses = uses
  under_uses (choose_gate h gates b) pairs IsGate uses = uses
  under_uses (par_gate h gates meet b) pairs IsGate uses = uses
  under_uses (call number gates arguments) pairs IsGate uses =
      (mapped_gates pairs gates IsGate uses.0, λ process there. uses.1 process there ∙ sym (mapped_length pairs gates))
  under_uses (relabel first b) pairs IsGate uses =
      wider b (λ g. IsGate (gate_under pairs (gate_under first g))) (λ g. IsGate (gate_under (then_relabelling first pairs) g))
      (λ g is. subst IsGate (sym (gate_under-then first pairs g)) is) uses

label_at_under : (label : Label) (pairs : Relabelling) (IsGate : ℕ → Type 0) → IsAt (λ g. IsGate (gate_under pairs g)) label
    → IsAt IsGate (label_under pairs label)
label_at_under inner_event pairs IsGate is = tt
label_at_under (gate_event g values) pairs IsGate is = is
label_at_under (exit_event values) pairs IsGate is = tt

label_wider : (label : Label) (One Other : ℕ → Type 0) → ((g : ℕ) → One g → Other g) → IsAt One label → IsAt Other label
label_wider inner_event One Other more is = tt
label_wider (gate_event g values) One Other more is = more g is
label_wider (exit_event values) One Other more is = tt

-- one gate put for another one
one_under : (h a g : ℕ) (IsGate : ℕ → Type 0) → IsGate a → IsGate g ⊎ (g ≡ h) → IsGate (gate_under ((h, a) ∷ []) g)
one_under h a g IsGate is there = by (nat_eq h g) refl there
  where
    by : (same : Bool) → nat_eq h g ≡ same → IsGate g ⊎ (g ≡ h) → IsGate (if same then a else g)
    by true same there = is
    by false other (inl found) = found
    by false other (inr same) = let yes : nat_eq h g ≡ true = eq-eqb h g (sym same) in absurd (cc (other, yes))

-- gates put for formal gates, as many
all_under : (formals gates : List ℕ) (g : ℕ) (IsGate : ℕ → Type 0) → length formals ≡ length gates → Every IsGate gates
    → is_listed formals g ≡ true → IsGate (gate_under (zip formals gates) g)
all_under [] gates g IsGate count all listed = absurd (cc listed)
all_under (f ∷ formals) [] g IsGate count all listed = absurd (omega (arith, count))
all_under (f ∷ formals) (a ∷ gates) g IsGate count all listed =
    by (nat_eq f g) listed (λ later. all_under formals gates g IsGate (let c = count in omega (arith, c)) all.1 later)
  where
    by : (same : Bool) → (if same then true else is_listed formals g) ≡ true
        → (is_listed formals g ≡ true → IsGate (gate_under (zip formals gates) g))
        → IsGate (if same then a else gate_under (zip formals gates) g)
    by true listed later = all.0
    by false listed later = later listed

-- ---- Moves

module _ (setting : Setting) (leaves : Substitution) (bodies : Every (UsesFormals setting.processes) setting.processes) where
  abbrev Uses : (ℕ → Type 0) → Behaviour → Type 0
  Uses IsGate b = UsesOnly IsGate setting.processes b

  -- the label is at such a gate, and the target uses such gates alone
  record StaysAt (IsGate : ℕ → Type 0) (m : Move) : Type 0 where
    pub label : IsAt IsGate m.label
    pub target : Uses IsGate m.target

  abbrev Stay : (Behaviour → Option Move) → Type 1
  Stay moves = (b : Behaviour) (IsGate : ℕ → Type 0) (m : Move) → moves b ≡ Some m → Uses IsGate b → StaysAt IsGate m

  stays : (IsGate : ℕ → Type 0) (m n : Move) → m ≡ n → StaysAt IsGate m → StaysAt IsGate n
  stays IsGate m n same is = subst (StaysAt IsGate) same is

  act_stays : (next : ℕ) → Stay (act_move setting leaves next)
  act_stays next (action g offers test b) IsGate m e uses =
      stays IsGate _ m (some_value e) (record { label = uses.0; target = put_in setting.processes b _ IsGate uses.1 })
  act_stays next _ IsGate m e uses = absurd cc

  quit_stays : (next : ℕ) → Stay (quit_move setting leaves next)
  quit_stays next (exit_with results) IsGate m e uses = stays IsGate _ m (some_value e) (record { label = tt; target = tt })
  quit_stays next _ IsGate m e uses = absurd cc

  inner_stays : Stay inner_move
  inner_stays (inner_action b) IsGate m e uses = stays IsGate _ m (some_value e) (record { label = tt; target = uses })
  inner_stays _ IsGate m e uses = absurd cc

  guarded_stays : (moves : Behaviour → Option Move) → Stay moves → Stay (guarded_move moves)
  guarded_stays moves stay (guard test b) IsGate m e uses =
      let from : (n : Move) × (moves b ≡ Some n) × (asking test n ≡ m) = mapped (asking test) (moves b) e in
      let is = stay b IsGate from.0 from.1 uses in
      stays IsGate _ m from.2 (record { label = is.label; target = is.target })
  guarded_stays moves stay _ IsGate m e uses = absurd cc

  alone_stays : (meet : SynchronisationSet) (beside : Behaviour → Behaviour) (n m : Move) (IsGate : ℕ → Type 0)
      → alone meet beside n ≡ Some m → StaysAt IsGate n → (Uses IsGate n.target → Uses IsGate (beside n.target)) → StaysAt IsGate m
  alone_stays meet beside n m IsGate e is uses = by (moves_alone meet n.label) e
    where
      by : (may : Bool) → (if may then Some (record n { target = beside n.target }) else None) ≡ Some m → StaysAt IsGate m
      by true e = stays IsGate _ m (some_value e) (record { label = is.label; target = uses is.target })
      by false e = absurd (cc e)

  disabling_stays : (c : Behaviour) (n : Move) (IsGate : ℕ → Type 0) → StaysAt IsGate n → Uses IsGate c → StaysAt IsGate (disabling c n)
  disabling_stays c n IsGate is uses = record { label = is.label; target = by (is_exit n.label) }
    where
      by : (ends : Bool) → Uses IsGate (if ends then n.target else disable n.target c)
      by true = is.target
      by false = (is.target, uses)

  left_stays : (moves : Behaviour → Option Move) → Stay moves → Stay (left_move moves)
  left_stays moves stay (choice b c) IsGate m e uses = stay b IsGate m e uses.0
  left_stays moves stay (parallel meet b c) IsGate m e uses =
      let from : (n : Move) × (moves b ≡ Some n) × (alone meet (λ target. parallel meet target c) n ≡ Some m) =
      chained (alone meet (λ target. parallel meet target c)) (moves b) e in
      alone_stays meet (λ target. parallel meet target c) from.0 m IsGate from.2 (stay b IsGate from.0 from.1 uses.0)
      (λ target. (target, uses.1))
  left_stays moves stay (disable b c) IsGate m e uses =
      let from : (n : Move) × (moves b ≡ Some n) × (disabling c n ≡ m) = mapped (disabling c) (moves b) e in
      stays IsGate _ m from.2 (disabling_stays c from.0 IsGate (stay b IsGate from.0 from.1 uses.0) uses.1)
  left_stays moves stay _ IsGate m e uses = absurd cc

  right_stays : (moves : Behaviour → Option Move) → Stay moves → Stay (right_move moves)
  right_stays moves stay (choice b c) IsGate m e uses = stay c IsGate m e uses.1
  right_stays moves stay (parallel meet b c) IsGate m e uses =
      let from : (n : Move) × (moves c ≡ Some n) × (alone meet (λ target. parallel meet b target) n ≡ Some m) =
      chained (alone meet (λ target. parallel meet b target)) (moves c) e in
      alone_stays meet (λ target. parallel meet b target) from.0 m IsGate from.2 (stay c IsGate from.0 from.1 uses.1)
      (λ target. (uses.0, target))
  right_stays moves stay (disable b c) IsGate m e uses = stay c IsGate m e uses.1
  right_stays moves stay _ IsGate m e uses = absurd cc

  -- what is there if a test says so
  there_if : (made m : Move) (IsGate : ℕ → Type 0) (may : Bool) → (if may then Some made else None) ≡ Some m → StaysAt IsGate made
      → StaysAt IsGate m
  there_if made m IsGate true e is = stays IsGate made m (some_value e) is
  there_if made m IsGate false e is = absurd (cc e)

  together_stays : (meet : SynchronisationSet) (n o m : Move) (IsGate : ℕ → Type 0) → together setting.signature meet n o ≡ Some m
      → StaysAt IsGate n → StaysAt IsGate o → StaysAt IsGate m
  together_stays meet n o m IsGate e is also =
      there_if (record {
        label = n.label;
        target = parallel meet n.target o.target;
        asked = n.asked ++ o.asked ++ pairwise (label_values n.label) (label_values o.label);
        sorts = n.sorts ++ o.sorts;
      }) m IsGate (move_together setting.signature meet n.label o.label) e (record { label = is.label; target = (is.target, also.target) })

  both_stays : (next : ℕ) (lefts : Behaviour → Option Move) (rights : ℕ → Behaviour → Option Move) → Stay lefts
      → ((n : ℕ) → Stay (rights n)) → Stay (both_move setting next lefts rights)
  both_stays next lefts rights stay also (parallel meet b c) IsGate m e uses =
      let from = chained (λ (n : Move). option_and_then (together setting.signature meet n) (rights (next + length n.sorts) c))
      (lefts b) e in
      let then_ = chained (together setting.signature meet from.0) (rights (next + length from.0.sorts) c) from.2 in
      together_stays meet from.0 then_.0 m IsGate then_.2 (stay b IsGate from.0 from.1 uses.0)
      (also (next + length from.0.sorts) c IsGate then_.0 then_.1 uses.1)
  both_stays next lefts rights stay also _ IsGate m e uses = absurd cc

  hidden_at : (gates : List ℕ) (label : Label) (IsGate : ℕ → Type 0) → IsAt (λ g. IsGate g ⊎ IsOneOf gates g) label
      → IsAt IsGate (hidden_label gates label)
  hidden_at gates inner_event IsGate is = tt
  hidden_at gates (gate_event g values) IsGate is = by (is_listed gates g) refl is
    where
      by : (listed : Bool) → is_listed gates g ≡ listed → IsGate g ⊎ IsOneOf gates g
          → IsAt IsGate (if listed then inner_event else gate_event g values)
      by true listed is = tt
      by false other (inl is) = is
      by false other (inr listed) = absurd (cc (other, listed))
  hidden_at gates (exit_event values) IsGate is = tt

  hidden_stays : (moves : Behaviour → Option Move) → Stay moves → Stay (hidden_move moves)
  hidden_stays moves stay (hide gates b) IsGate m e uses =
      let from : (n : Move) × (moves b ≡ Some n) × (hiding gates n ≡ m) = mapped (hiding gates) (moves b) e in
      let is = stay b (λ g. IsGate g ⊎ IsOneOf gates g) from.0 from.1 uses in
      stays IsGate _ m from.2 (record { label = hidden_at gates from.0.label IsGate is.label; target = is.target })
  hidden_stays moves stay _ IsGate m e uses = absurd cc

  enabling_stays : (variables : List Variable) (c : Behaviour) (n m : Move) (label : Label) (IsGate : ℕ → Type 0)
      → enabling setting.signature variables c n label ≡ Some m → Uses IsGate c → StaysAt IsGate m
  enabling_stays variables c n m inner_event IsGate e uses = absurd (cc e)
  enabling_stays variables c n m (gate_event g values) IsGate e uses = absurd (cc e)
  enabling_stays variables c n m (exit_event values) IsGate e uses =
      there_if (record n { label = inner_event; target = with_values (binding_of variables values) c }) m IsGate
      (have_sorts setting.signature values (sorts_of variables)) e
      (record { label = tt; target = put_in setting.processes c (binding_of variables values) IsGate uses })

  enabled_stays : (moves : Behaviour → Option Move) → Stay (enabled_move setting moves)
  enabled_stays moves (enable b variables c) IsGate m e uses =
      let from = chained (λ (n : Move). enabling setting.signature variables c n n.label) (moves b) e in
      enabling_stays variables c from.0 m from.0.label IsGate from.2 uses.1
  enabled_stays moves _ IsGate m e uses = absurd cc

  passing_stays : (variables : List Variable) (c : Behaviour) (n m : Move) (IsGate : ℕ → Type 0) → passing variables c n ≡ Some m
      → StaysAt IsGate n → Uses IsGate c → StaysAt IsGate m
  passing_stays variables c n m IsGate e is uses = by (is_exit n.label) e
    where
      by : (ends : Bool) → (if ends then None else Some (record n { target = enable n.target variables c })) ≡ Some m → StaysAt IsGate m
      by true e = absurd (cc e)
      by false e = stays IsGate _ m (some_value e) (record { label = is.label; target = (is.target, uses) })

  passed_stays : (moves : Behaviour → Option Move) → Stay moves → Stay (passed_move moves)
  passed_stays moves stay (enable b variables c) IsGate m e uses =
      let from = chained (passing variables c) (moves b) e in
      passing_stays variables c from.0 m IsGate from.2 (stay b IsGate from.0 from.1 uses.0) uses.1
  passed_stays moves stay _ IsGate m e uses = absurd cc

  let_stays : (moves : Behaviour → Option Move) → Stay moves → Stay (let_move setting moves)
  let_stays moves stay (let_be bindings b) IsGate m e uses = stay _ IsGate m e (put_in setting.processes b _ IsGate uses)
  let_stays moves stay _ IsGate m e uses = absurd cc

  value_stays : (next : ℕ) (moves : Behaviour → Option Move) → Stay moves → Stay (value_move setting leaves next moves)
  value_stays next moves stay (choose_value x b) IsGate m e uses =
      let from = mapped (after_leaf x.sort) (moves _) e in
      let is = stay _ IsGate from.0 from.1 (put_in setting.processes b _ IsGate uses) in
      stays IsGate _ m from.2 (record { label = is.label; target = is.target })
  value_stays next moves stay _ IsGate m e uses = absurd cc

  relabelling_stays : (pairs : Relabelling) (n : Move) (Inner IsGate : ℕ → Type 0)
      → ((g : ℕ) → Inner g → IsGate (gate_under pairs g)) → StaysAt Inner n → StaysAt IsGate (relabelling pairs n)
  relabelling_stays pairs n Inner IsGate more is = record {
    label = label_at_under n.label pairs IsGate (label_wider n.label Inner (λ g. IsGate (gate_under pairs g)) more is.label);
    target =
        under_uses setting.processes n.target pairs IsGate
        (wider setting.processes n.target Inner (λ g. IsGate (gate_under pairs g)) more is.target);
  }

  gate_stays : (k : ℕ) (moves : Behaviour → Option Move) → Stay moves → Stay (gate_move k moves)
  gate_stays k moves stay (choose_gate h gates b) IsGate m e uses =
      let at = chained (λ (a : ℕ). option_map (relabelling ((h, a) ∷ [])) (moves b)) (slice_get gates k) e in
      let from = mapped (relabelling ((h, at.0) ∷ [])) (moves b) at.2 in
      let is = stay b (λ g. IsGate g ⊎ (g ≡ h)) from.0 from.1 uses.1 in
      stays IsGate _ m from.2
      (relabelling_stays ((h, at.0) ∷ []) from.0 (λ g. IsGate g ⊎ (g ≡ h)) IsGate
      (λ g there. one_under h at.0 g IsGate (every_at IsGate gates k at.0 uses.0 at.1) there) is)
  gate_stays k moves stay _ IsGate m e uses = absurd cc

  called_stays : (moves : Behaviour → Option Move) → Stay moves → Stay (called_move setting moves)
  called_stays moves stay (call number gates arguments) IsGate m e uses =
      let at = chained (λ (process : Process). option_map (relabelling (zip process.gates gates)) (moves _))
      (slice_get setting.processes number) e in
      let from = mapped (relabelling (zip at.0.gates gates)) (moves _) at.2 in
      let body : Uses (IsOneOf at.0.gates) at.0.body =
      every_at (UsesFormals setting.processes) setting.processes number at.0 bodies at.1 in
      let is = stay _ (IsOneOf at.0.gates) from.0 from.1 (put_in setting.processes at.0.body _ (IsOneOf at.0.gates) body) in
      stays IsGate _ m from.2
      (relabelling_stays (zip at.0.gates gates) from.0 (IsOneOf at.0.gates) IsGate
      (λ g listed. all_under at.0.gates gates g IsGate (uses.1 at.0 at.1) uses.0 listed) is)
  called_stays moves stay _ IsGate m e uses = absurd cc

  relabelled_stays : (moves : Behaviour → Option Move) → Stay moves → Stay (relabelled_move moves)
  relabelled_stays moves stay (relabel pairs b) IsGate m e uses =
      let from = mapped (relabelling pairs) (moves b) e in
      stays IsGate _ m from.2
      (relabelling_stays pairs from.0 (λ g. IsGate (gate_under pairs g)) IsGate (λ g is. is)
      (stay b (λ g. IsGate (gate_under pairs g)) from.0 from.1 uses))
  relabelled_stays moves stay _ IsGate m e uses = absurd cc

  -- ---- A gate `par` as its copies

  copy_uses : (h a : ℕ) (b : Behaviour) (IsGate : ℕ → Type 0) → IsGate a → Uses (λ g. IsGate g ⊎ (g ≡ h)) b
      → Uses IsGate (under b ((h, a) ∷ []))
  copy_uses h a b IsGate is uses =
      under_uses setting.processes b ((h, a) ∷ []) IsGate
      (wider setting.processes b (λ g. IsGate g ⊎ (g ≡ h)) (λ g. IsGate (gate_under ((h, a) ∷ []) g))
      (λ g there. one_under h a g IsGate is there) uses)

  copies_use : (h : ℕ) (gates : List ℕ) (meet : SynchronisationSet) (b : Behaviour) (IsGate : ℕ → Type 0) → Every IsGate gates
      → Uses (λ g. IsGate g ⊎ (g ≡ h)) b → Uses IsGate (copies h gates meet b)
  copies_use h [] meet b IsGate all uses = tt
  copies_use h (a ∷ []) meet b IsGate all uses = copy_uses h a b IsGate all.0 uses
  copies_use h (a ∷ c ∷ gates) meet b IsGate all uses =
      (copy_uses h a b IsGate all.0 uses, copies_use h (c ∷ gates) meet b IsGate all.1 uses)

  opened_uses : (b : Behaviour) (IsGate : ℕ → Type 0) → Uses IsGate b → Uses IsGate (opened b)
  opened_uses (par_gate h gates meet b) IsGate uses = copies_use h gates meet b IsGate uses.0 uses.1
  opened_uses stop IsGate uses = uses
  opened_uses (exit_with results) IsGate uses = uses
  opened_uses (action g offers test b) IsGate uses = uses
  opened_uses (inner_action b) IsGate uses = uses
  opened_uses (guard test b) IsGate uses = uses
  opened_uses (choice b c) IsGate uses = uses
  opened_uses (parallel meet b c) IsGate uses = uses
  opened_uses (hide gates b) IsGate uses = uses
  opened_uses (enable b variables c) IsGate uses = uses
  opened_uses (disable b c) IsGate uses = uses
  opened_uses (let_be bindings b) IsGate uses = uses
  opened_uses (choose_value x b) IsGate uses = uses
  opened_uses (choose_gate h gates b) IsGate uses = uses
  opened_uses (call number gates arguments) IsGate uses = uses
  opened_uses (relabel pairs b) IsGate uses = uses

  all_stay : (s : Shape) (next : ℕ) → Stay (move_of setting leaves s next)
  all_stay act next b IsGate m e uses = act_stays next (opened b) IsGate m e (opened_uses b IsGate uses)
  all_stay quit next b IsGate m e uses = quit_stays next (opened b) IsGate m e (opened_uses b IsGate uses)
  all_stay inner_step next b IsGate m e uses = inner_stays (opened b) IsGate m e (opened_uses b IsGate uses)
  all_stay (guarded s) next b IsGate m e uses =
      guarded_stays (move_of setting leaves s next) (all_stay s next) (opened b) IsGate m e (opened_uses b IsGate uses)
  all_stay (left_side s) next b IsGate m e uses =
      left_stays (move_of setting leaves s next) (all_stay s next) (opened b) IsGate m e (opened_uses b IsGate uses)
  all_stay (right_side s) next b IsGate m e uses =
      right_stays (move_of setting leaves s next) (all_stay s next) (opened b) IsGate m e (opened_uses b IsGate uses)
  all_stay (both_sides s t) next b IsGate m e uses =
      both_stays next (move_of setting leaves s next) (move_of setting leaves t) (all_stay s next) (all_stay t) (opened b) IsGate m e
      (opened_uses b IsGate uses)
  all_stay (hidden s) next b IsGate m e uses =
      hidden_stays (move_of setting leaves s next) (all_stay s next) (opened b) IsGate m e (opened_uses b IsGate uses)
  all_stay (enabled s) next b IsGate m e uses =
      enabled_stays (move_of setting leaves s next) (opened b) IsGate m e (opened_uses b IsGate uses)
  all_stay (passed s) next b IsGate m e uses =
      passed_stays (move_of setting leaves s next) (all_stay s next) (opened b) IsGate m e (opened_uses b IsGate uses)
  all_stay (let_bound s) next b IsGate m e uses =
      let_stays (move_of setting leaves s next) (all_stay s next) (opened b) IsGate m e (opened_uses b IsGate uses)
  all_stay (with_value s) next b IsGate m e uses =
      value_stays next (move_of setting leaves s (suc next)) (all_stay s (suc next)) (opened b) IsGate m e (opened_uses b IsGate uses)
  all_stay (at_gate k s) next b IsGate m e uses =
      gate_stays k (move_of setting leaves s next) (all_stay s next) (opened b) IsGate m e (opened_uses b IsGate uses)
  all_stay (called s) next b IsGate m e uses =
      called_stays (move_of setting leaves s next) (all_stay s next) (opened b) IsGate m e (opened_uses b IsGate uses)
  all_stay (relabelled s) next b IsGate m e uses =
      relabelled_stays (move_of setting leaves s next) (all_stay s next) (opened b) IsGate m e (opened_uses b IsGate uses)

-- the label of a move, whatever stands for its leaves
pub label_stays : (setting : Setting) (leaves : Substitution) (shape : Shape) (next : ℕ) (b : Behaviour) (IsGate : ℕ → Type 0) (m : Move)
    → Every (UsesFormals setting.processes) setting.processes → UsesOnly IsGate setting.processes b
    → move_of setting leaves shape next b ≡ Some m → IsAt IsGate m.label
label_stays setting leaves shape next b IsGate m bodies uses is = (all_stay setting leaves bodies shape next b IsGate m is uses).label

pub stay_at_gates : (data_ : Data) (represent : Term → Term) (processes : List Process) (IsGate : ℕ → Type 0) (b : Behaviour)
    (d : Derivation) (label : Label) (target : Behaviour) → Every (UsesFormals processes) processes → UsesOnly IsGate processes b
    → GivesMove data_ represent processes b d label target → IsAt IsGate label × UsesOnly IsGate processes target
stay_at_gates data_ represent processes IsGate b d label target bodies uses gives =
    let is = all_stay (record { signature = data_.signature; represent = represent; processes = processes }) (leaves_in d.leaves) bodies
    d.shape 0 b IsGate _ gives.move uses in
    (is.label, is.target)

pub moves_stay_at_gates : MovesStayAtGates
moves_stay_at_gates data_ represent processes gates b d label target bodies uses gives =
    stay_at_gates data_ represent processes (IsOneOf gates) b d label target bodies uses gives
