-- Where the recursion of the processes is guarded, the moves of each behaviour can be listed.
use Rattle.std.proofs.Common.{◌≡◌, ◌<◌, ◌≤◌, ℕ, zero, suc, ◌+◌, max, List, [], ◌∷◌, ◌++◌, length, map, zip, filter_map, slice_get, Option, None, Some, option_map, option_and_then, refl, ap, sym, subst, arith}
use Rattle.lotos_base.specs.Signature.{Signature}
use Rattle.lotos_base.specs.Term.{Term}
use Rattle.lotos_base.specs.Substitution.{Substitution, without}
use Rattle.behaviour_semantics.specs.Behaviour.{Behaviour, stop, exit_with, action, inner_action, guard, choice, parallel, hide, enable, disable, let_be, choose_value, choose_gate, par_gate, call, relabel, SynchronisationSet, Process, Relabelling, numbers_of, let_variables, let_terms}
use Rattle.behaviour_semantics.specs.Label.{under}
use Rattle.behaviour_semantics.specs.Replacement.{with_values, binding_of}
use Rattle.behaviour_semantics.specs.Rule.{copies}
use Rattle.behaviour_semantics.specs.Shape.{left_side, right_side, both_sides, guarded, hidden, let_bound, with_value, at_gate, called, relabelled}
use Rattle.behaviour_semantics.specs.Move.{Setting, opened, alone, together, hiding, disabling, asking, relabelling, after_leaf}
use Rattle.behaviour_semantics.specs.WellFormed.{Every}
use Rattle.behaviour_semantics.specs.Guardedness.{unguarded_calls, IsWalk, IsGuarded}
use Rattle.behaviour_semantics.specs.Listing.{ShapedMove, Parts, below, each_below, below_enable, one_behind, both_below, at_gates_below, called_below, moves_by_form, listed_moves}
use Rattle.behaviour_semantics.proofs.ListLemmas.{Every-append}
use Rattle.behaviour_semantics.proofs.OptionLemmas.{some_value}
use Rattle.behaviour_semantics.proofs.GuardedWalks.{walks_end}

-- There is a list.
abbrev Ends : Option (List ShapedMove) → Type 0
Ends None = ⊥
Ends (Some moves) = Unit {0}

Ends-one_behind : (o p : Option (List ShapedMove)) → Ends o → Ends p → Ends (one_behind o p)
Ends-one_behind None p h k = absurd h
Ends-one_behind (Some xs) None h k = absurd k
Ends-one_behind (Some xs) (Some ys) h k = tt

Ends-each : (f : ShapedMove → Option ShapedMove) (o : Option (List ShapedMove)) → Ends o → Ends (option_map (filter_map f) o)
Ends-each f None h = absurd h
Ends-each f (Some xs) h = tt

Ends-both : (signature : Signature) (meet : SynchronisationSet) (next : ℕ) (rights : ℕ → Option (List ShapedMove))
    → ((n : ℕ) → Ends (rights n)) → (lefts : List ShapedMove) → Ends (both_below signature meet next rights lefts)
Ends-both signature meet next rights h [] = tt
Ends-both signature meet next rights h (x ∷ lefts) =
    Ends-one_behind (each_below (both_sides x.shape) (together signature meet x.move) (rights (next + length x.move.sorts)))
    (both_below signature meet next rights lefts)
    (Ends-each (below (both_sides x.shape) (together signature meet x.move)) (rights (next + length x.move.sorts))
    (h (next + length x.move.sorts)))
    (Ends-both signature meet next rights h lefts)

Ends-both_in : (signature : Signature) (meet : SynchronisationSet) (next : ℕ) (rights : ℕ → Option (List ShapedMove))
    → ((n : ℕ) → Ends (rights n)) → (o : Option (List ShapedMove)) → Ends o
    → Ends (option_and_then (both_below signature meet next rights) o)
Ends-both_in signature meet next rights h None k = absurd k
Ends-both_in signature meet next rights h (Some lefts) k = Ends-both signature meet next rights h lefts

Ends-gates : (g j : ℕ) (gates : List ℕ) (o : Option (List ShapedMove)) → Ends o → Ends (at_gates_below g j gates o)
Ends-gates g j [] o h = tt
Ends-gates g j (a ∷ gates) o h =
    Ends-one_behind (each_below (at_gate j) (λ m. Some (relabelling ((g, a) ∷ []) m)) o) (at_gates_below g (suc j) gates o)
    (Ends-each (below (at_gate j) (λ m. Some (relabelling ((g, a) ∷ []) m))) o h)
    (Ends-gates g (suc j) gates o h)

-- How deep the list of a behaviour goes, where a call goes so deep.
abbrev height : ℕ → Behaviour → ℕ
height cost stop = 0
height cost (exit_with results) = 0
height cost (action g offers test b) = 0
height cost (inner_action b) = 0
height cost (guard test b) = suc (height cost b)
height cost (choice b c) = suc (max (height cost b) (height cost c))
height cost (parallel meet b c) = suc (max (height cost b) (height cost c))
height cost (hide gates b) = suc (height cost b)
height cost (enable b variables c) = suc (height cost b)
height cost (disable b c) = suc (max (height cost b) (height cost c))
height cost (let_be bindings b) = suc (height cost b)
height cost (choose_value x b) = suc (height cost b)
height cost (choose_gate g gates b) = suc (height cost b)
height cost (par_gate g gates meet b) = length gates + suc (height cost b)
height cost (call number gates arguments) = suc cost
height cost (relabel pairs b) = suc (height cost b)

-- How deep a call goes whose walks have fewer edges than this number.
abbrev highest : ℕ → List Process → ℕ
highest cost [] = 0
highest cost (process ∷ processes) = max (height cost process.body) (highest cost processes)

abbrev cost_of : List Process → ℕ → ℕ
cost_of processes zero = 0
cost_of processes (suc n) = highest (cost_of processes n) processes

height-le_highest : (cost : ℕ) (processes : List Process) (number : ℕ) (process : Process) → slice_get processes number ≡ Some process
    → height cost process.body ≤ highest cost processes
height-le_highest cost [] number process at = absurd (cc at)
height-le_highest cost (p ∷ processes) zero process at =
    let same : height cost p.body ≡ height cost process.body = ap (λ (q : Process). height cost q.body) (some_value at) in omega arith
height-le_highest cost (p ∷ processes) (suc number) process at = let rest : _ =
    height-le_highest cost processes number process at in omega (arith, rest)

-- Values change neither depth nor calls.
height-with_values : (cost : ℕ) (values : Substitution) (b : Behaviour) → height cost (with_values values b) ≡ height cost b
height-with_values cost values stop = refl
height-with_values cost values (exit_with results) = refl
height-with_values cost values (action g offers test b) = refl
height-with_values cost values (inner_action b) = refl
height-with_values cost values (guard test b) = ap suc (height-with_values cost values b)
height-with_values cost values (choice b c) = λ i. suc (max (height-with_values cost values b i) (height-with_values cost values c i))
height-with_values cost values (parallel meet b c) = λ i.
    suc (max (height-with_values cost values b i) (height-with_values cost values c i))
height-with_values cost values (hide gates b) = ap suc (height-with_values cost values b)
height-with_values cost values (enable b variables c) = ap suc (height-with_values cost values b)
height-with_values cost values (disable b c) = λ i. suc (max (height-with_values cost values b i) (height-with_values cost values c i))
height-with_values cost values (let_be bindings b) = ap suc
    (height-with_values cost (without (numbers_of (let_variables bindings)) values) b)
height-with_values cost values (choose_value x b) = ap suc (height-with_values cost (without (x.number ∷ []) values) b)
height-with_values cost values (choose_gate g gates b) = ap suc (height-with_values cost values b)
height-with_values cost values (par_gate g gates meet b) = ap (λ n. length gates + suc n) (height-with_values cost values b)
height-with_values cost values (call number gates arguments) = refl
height-with_values cost values (relabel pairs b) = ap suc (height-with_values cost values b)

calls-with_values : (values : Substitution) (b : Behaviour) → unguarded_calls (with_values values b) ≡ unguarded_calls b
calls-with_values values stop = refl
calls-with_values values (exit_with results) = refl
calls-with_values values (action g offers test b) = refl
calls-with_values values (inner_action b) = refl
calls-with_values values (guard test b) = calls-with_values values b
calls-with_values values (choice b c) = λ i. calls-with_values values b i ++ calls-with_values values c i
calls-with_values values (parallel meet b c) = λ i. calls-with_values values b i ++ calls-with_values values c i
calls-with_values values (hide gates b) = calls-with_values values b
calls-with_values values (enable b variables c) = calls-with_values values b
calls-with_values values (disable b c) = λ i. calls-with_values values b i ++ calls-with_values values c i
calls-with_values values (let_be bindings b) = calls-with_values (without (numbers_of (let_variables bindings)) values) b
calls-with_values values (choose_value x b) = calls-with_values (without (x.number ∷ []) values) b
calls-with_values values (choose_gate g gates b) = calls-with_values values b
calls-with_values values (par_gate g gates meet b) = calls-with_values values b
calls-with_values values (call number gates arguments) = refl
calls-with_values values (relabel pairs b) = calls-with_values values b

-- Nor do copies go deeper than the gate `par` or call anything else.
height-under : (cost : ℕ) (b : Behaviour) (pairs : Relabelling) → height cost (under b pairs) ≤ suc (height cost b)
height-under cost stop pairs = omega arith
height-under cost (call number gates arguments) pairs = omega arith
height-under cost (relabel inner b) pairs = omega arith
height-under cost _ pairs = omega arith

height-copies : (cost g : ℕ) (gates : List ℕ) (meet : SynchronisationSet) (b : Behaviour)
    → height cost (copies g gates meet b) ≤ length gates + suc (height cost b)
height-copies cost g [] meet b = omega arith
height-copies cost g (a ∷ []) meet b = let one : _ = height-under cost b ((g, a) ∷ []) in omega (arith, one)
height-copies cost g (a ∷ a' ∷ gates) meet b =
    let one : _ = height-under cost b ((g, a) ∷ []) in
    let rest : _ = height-copies cost g (a' ∷ gates) meet b in
    omega (arith, one, rest)

module _ (P : ℕ → Type 0) where
  Every-under : (b : Behaviour) (pairs : Relabelling) → Every P (unguarded_calls b) → Every P (unguarded_calls (under b pairs))
  Every-under stop pairs h = h
  Every-under (call number gates arguments) pairs h = h
  Every-under (relabel inner b) pairs h = h
  Every-under _ pairs h = h

  Every-copies : (g : ℕ) (gates : List ℕ) (meet : SynchronisationSet) (b : Behaviour) → Every P (unguarded_calls b)
      → Every P (unguarded_calls (copies g gates meet b))
  Every-copies g [] meet b h = tt
  Every-copies g (a ∷ []) meet b h = Every-under b ((g, a) ∷ []) h
  Every-copies g (a ∷ a' ∷ gates) meet b h =
      Every-append P (unguarded_calls (under b ((g, a) ∷ []))) (unguarded_calls (copies g (a' ∷ gates) meet b))
      (Every-under b ((g, a) ∷ []) h) (Every-copies g (a' ∷ gates) meet b h)

  Every-first : (xs ys : List ℕ) → Every P (xs ++ ys) → Every P xs
  Every-first [] ys h = tt
  Every-first (x ∷ xs) ys h = (h.0, Every-first xs ys h.1)

  Every-second : (xs ys : List ℕ) → Every P (xs ++ ys) → Every P ys
  Every-second [] ys h = h
  Every-second (x ∷ xs) ys h = Every-second xs ys h.1

  Every-from_each : (xs : List ℕ) → ((k n : ℕ) → slice_get xs k ≡ Some n → P n) → Every P xs
  Every-from_each [] h = tt
  Every-from_each (x ∷ xs) h = (h 0 x refl, Every-from_each xs (λ k n at. h (suc k) n at))

module _ (setting : Setting) (leaves : Substitution) where
  -- Each walk from the process has fewer edges than the number.
  abbrev WalksBelow : ℕ → ℕ → Type 0
  WalksBelow n from = (walk : List ℕ) → IsWalk setting.processes from walk → length walk < n

  abbrev CallsBelow : ℕ → Behaviour → Type 0
  CallsBelow n b = Every (WalksBelow n) (unguarded_calls b)

  -- The lists of the parts that are lower end.
  abbrev PartsEnd : ℕ → Parts → Type 0
  PartsEnd depth parts = (n next : ℕ) (b : Behaviour) → height (cost_of setting.processes n) b < depth → CallsBelow n b
      → Ends (parts next b)

  calls_of_process : (n number : ℕ) (process : Process) → slice_get setting.processes number ≡ Some process → WalksBelow (suc n) number
      → CallsBelow n process.body
  calls_of_process n number process at below_ =
      Every-from_each (WalksBelow n) (unguarded_calls process.body)
      (λ k to called_ walk w. let longer : length (to ∷ walk) < suc n =
      below_ (to ∷ walk) ((process, at, (k, called_)), w) in omega arith)

  module _ (depth : ℕ) (parts : Parts) (ends : PartsEnd depth parts) where
    call_ends : (n next number : ℕ) (gates : List ℕ) (arguments : List Term)
        → height (cost_of setting.processes n) (call number gates arguments) < suc depth → WalksBelow n number → (o : Option Process)
        → slice_get setting.processes number ≡ o → Ends (called_below setting next parts gates arguments o)
    call_ends n next number gates arguments lt below_ None at = tt
    call_ends zero next number gates arguments lt below_ (Some process) at = let none : 0 < 0 = below_ [] tt in absurd (omega arith)
    call_ends (suc n) next number gates arguments lt below_ (Some process) at =
        let values : Substitution = binding_of process.parameters (map setting.represent arguments) in
        let lower : _ = height-le_highest (cost_of setting.processes n) setting.processes number process at in
        let same : height (cost_of setting.processes n) (with_values values process.body)
        ≡ height (cost_of setting.processes n) process.body = height-with_values (cost_of setting.processes n) values process.body in
        Ends-each (below called (λ m. Some (relabelling (zip process.gates gates) m))) (parts next (with_values values process.body))
        (ends n next (with_values values process.body) (omega (arith, lower, same, lt))
        (subst (Every (WalksBelow n)) (sym (calls-with_values values process.body)) (calls_of_process n number process at below_)))

    inside_ends : (n next : ℕ) (values : Substitution) (b : Behaviour) → height (cost_of setting.processes n) b < depth → CallsBelow n b
        → Ends (parts next (with_values values b))
    inside_ends n next values b lt calls =
        ends n next (with_values values b)
        (subst (λ (h : ℕ). h < depth) (sym (height-with_values (cost_of setting.processes n) values b)) lt)
        (subst (Every (WalksBelow n)) (sym (calls-with_values values b)) calls)

    form_ends : (n next : ℕ) (c : Behaviour) → height (cost_of setting.processes n) c < suc depth → CallsBelow n c
        → Ends (moves_by_form setting leaves next parts c)
    form_ends n next stop lt calls = tt
    form_ends n next (exit_with results) lt calls = tt
    form_ends n next (action g offers test b) lt calls = tt
    form_ends n next (inner_action b) lt calls = tt
    form_ends n next (guard test b) lt calls = Ends-each (below guarded (λ m. Some (asking test m))) (parts next b)
        (ends n next b (omega arith) calls)
    form_ends n next (choice b c) lt calls =
        Ends-one_behind (each_below left_side (λ m. Some m) (parts next b)) (each_below right_side (λ m. Some m) (parts next c))
        (Ends-each (below left_side (λ m. Some m)) (parts next b)
        (ends n next b (omega arith) (Every-first (WalksBelow n) (unguarded_calls b) (unguarded_calls c) calls)))
        (Ends-each (below right_side (λ m. Some m)) (parts next c)
        (ends n next c (omega arith) (Every-second (WalksBelow n) (unguarded_calls b) (unguarded_calls c) calls)))
    form_ends n next (parallel meet b c) lt calls =
        let first : CallsBelow n b = Every-first (WalksBelow n) (unguarded_calls b) (unguarded_calls c) calls in
        let second : CallsBelow n c = Every-second (WalksBelow n) (unguarded_calls b) (unguarded_calls c) calls in
        let lower : height (cost_of setting.processes n) b < depth = omega arith in
        let lower' : height (cost_of setting.processes n) c < depth = omega arith in
        Ends-one_behind (each_below left_side (alone meet (λ target. parallel meet target c)) (parts next b))
        (one_behind (each_below right_side (alone meet (λ target. parallel meet b target)) (parts next c))
        (option_and_then (both_below setting.signature meet next (λ k. parts k c)) (parts next b)))
        (Ends-each (below left_side (alone meet (λ target. parallel meet target c))) (parts next b) (ends n next b lower first))
        (Ends-one_behind (each_below right_side (alone meet (λ target. parallel meet b target)) (parts next c))
        (option_and_then (both_below setting.signature meet next (λ k. parts k c)) (parts next b))
        (Ends-each (below right_side (alone meet (λ target. parallel meet b target))) (parts next c) (ends n next c lower' second))
        (Ends-both_in setting.signature meet next (λ k. parts k c) (λ k. ends n k c lower' second) (parts next b)
        (ends n next b lower first)))
    form_ends n next (hide gates b) lt calls = Ends-each (below hidden (λ m. Some (hiding gates m))) (parts next b)
        (ends n next b (omega arith) calls)
    form_ends n next (enable b variables c) lt calls = Ends-each (below_enable setting.signature variables c) (parts next b)
        (ends n next b (omega arith) calls)
    form_ends n next (disable b c) lt calls =
        Ends-one_behind (each_below left_side (λ m. Some (disabling c m)) (parts next b))
        (each_below right_side (λ m. Some m) (parts next c))
        (Ends-each (below left_side (λ m. Some (disabling c m))) (parts next b)
        (ends n next b (omega arith) (Every-first (WalksBelow n) (unguarded_calls b) (unguarded_calls c) calls)))
        (Ends-each (below right_side (λ m. Some m)) (parts next c)
        (ends n next c (omega arith) (Every-second (WalksBelow n) (unguarded_calls b) (unguarded_calls c) calls)))
    form_ends n next (let_be bindings b) lt calls =
        let values : Substitution = binding_of (let_variables bindings) (map setting.represent (let_terms bindings)) in
        Ends-each (below let_bound (λ m. Some m)) (parts next (with_values values b)) (inside_ends n next values b (omega arith) calls)
    form_ends n next (choose_value x b) lt calls =
        let values : Substitution = binding_of (x ∷ []) (setting.represent (leaves next x.sort) ∷ []) in
        Ends-each (below with_value (λ m. Some (after_leaf x.sort m))) (parts (suc next) (with_values values b))
        (inside_ends n (suc next) values b (omega arith) calls)
    form_ends n next (choose_gate g gates b) lt calls = Ends-gates g 0 gates (parts next b) (ends n next b (omega arith) calls)
    form_ends n next (par_gate g gates meet b) lt calls = tt
    form_ends n next (call number gates arguments) lt calls =
        call_ends n next number gates arguments lt calls.0 (slice_get setting.processes number) refl
    form_ends n next (relabel pairs b) lt calls = Ends-each (below relabelled (λ m. Some (relabelling pairs m))) (parts next b)
        (ends n next b (omega arith) calls)

  opened_height : (cost : ℕ) (b : Behaviour) → height cost (opened b) ≤ height cost b
  opened_height cost (par_gate g gates meet b) = height-copies cost g gates meet b
  opened_height cost _ = omega arith

  opened_calls : (n : ℕ) (b : Behaviour) → CallsBelow n b → CallsBelow n (opened b)
  opened_calls n (par_gate g gates meet b) calls = Every-copies (WalksBelow n) g gates meet b calls
  opened_calls n _ calls = calls

  lists_end : (depth : ℕ) → PartsEnd depth (listed_moves setting leaves depth)
  lists_end zero n next b lt calls = absurd (omega arith)
  lists_end (suc depth) n next b lt calls =
      let lower : height (cost_of setting.processes n) (opened b) ≤ height (cost_of setting.processes n) b =
      opened_height (cost_of setting.processes n) b in
      form_ends depth (listed_moves setting leaves depth) (lists_end depth) n next (opened b) (omega (arith, lower, lt))
      (opened_calls n b calls)

there_is : (o : Option (List ShapedMove)) → Ends o → (moves : List ShapedMove) × (o ≡ Some moves)
there_is None h = absurd h
there_is (Some moves) h = (moves, refl)

pub guarded_list : (setting : Setting) (leaves : Substitution) (next : ℕ) (b : Behaviour) → IsGuarded setting.processes → (depth : ℕ)
    × (moves : List ShapedMove) × (listed_moves setting leaves depth next b ≡ Some moves)
guarded_list setting leaves next b guarded_ =
    let n : ℕ = suc (length setting.processes) in
    let depth : ℕ = suc (height (cost_of setting.processes n) b) in
    let list : _ = there_is (listed_moves setting leaves depth next b)
    (lists_end setting leaves depth n next b (let lt : height (cost_of setting.processes n) b
    < suc (height (cost_of setting.processes n) b) = omega arith in lt)
    (Every-from_each (WalksBelow setting leaves n) (unguarded_calls b)
    (λ k to at walk w. let short : length walk ≤ length setting.processes =
    walks_end setting.processes guarded_ to walk w in omega arith))) in
    (depth, list.0, list.1)
