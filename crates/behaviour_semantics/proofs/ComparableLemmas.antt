-- Two shapes that have a move of one behaviour are the same, or one comes before the other.
use Rattle.std.proofs.Common.{◌≡◌, ◌<◌, ◌⊎◌, inl, inr, ℕ, suc, ◌+◌, List, [], ◌∷◌, length, map, zip, slice_get, Option, None, Some, option_map, option_and_then, refl, ap, sym, ◌∙◌, arith, subst, true, false}
use Rattle.std.proofs.lemmas.Bool.{cases_order}
use Rattle.lotos_base.proofs.Options.{mapped, chained}
use Rattle.lotos_base.specs.Equation.{Variable}
use Rattle.lotos_base.specs.Substitution.{Substitution}
use Rattle.behaviour_semantics.specs.Behaviour.{Behaviour, stop, exit_with, action, inner_action, guard, choice, parallel, hide, enable, disable, let_be, choose_value, choose_gate, par_gate, call, relabel, Process, Relabelling, let_variables, let_terms}
use Rattle.behaviour_semantics.specs.Label.{Label, exit_event}
use Rattle.behaviour_semantics.specs.Replacement.{with_values, binding_of}
use Rattle.behaviour_semantics.specs.Rule.{is_exit}
use Rattle.behaviour_semantics.specs.Shape.{Shape, act, quit, inner_step, guarded, left_side, right_side, both_sides, hidden, enabled, passed, let_bound, with_value, at_gate, called, relabelled, Agree, Before, left_then_right, left_then_both, right_then_both, by_gate, in_guarded, in_left, in_right, in_first, in_second, in_hidden, in_enabled, in_passed, in_enabled_passed, in_passed_enabled, in_let, in_value, in_gate, in_called, in_relabelled}
use Rattle.behaviour_semantics.specs.Move.{Setting, Move, move_of, opened, alone, together, passing, enabling, disabling, hiding, asking, relabelling, after_leaf, act_move, quit_move, inner_move, guarded_move, left_move, right_move, both_move, hidden_move, enabled_move, passed_move, let_move, value_move, gate_move, called_move, relabelled_move}
use Rattle.behaviour_semantics.proofs.OptionLemmas.{some_value, tested_not}
use Rattle.behaviour_semantics.proofs.OrderLemmas.{Agree-refl}

-- The same, or one before the other.
abbrev pub Ordered : Shape → Shape → Type 0
Ordered s t = (s ≡ t) ⊎ (Before s t ⊎ Before t s)

-- What two shapes are under one constructor.
lifted : (f : Shape → Shape) → ((s t : Shape) → Before s t → Before (f s) (f t)) → (s t : Shape) → Ordered s t → Ordered (f s) (f t)
lifted f under_ s t (inl e) = inl (ap f e)
lifted f under_ s t (inr (inl h)) = inr (inl (under_ s t h))
lifted f under_ s t (inr (inr h)) = inr (inr (under_ t s h))

-- Which behaviours a variant of shapes suits, as a number of each group of variants.
abbrev group_of : Shape → ℕ
group_of act = 0
group_of quit = 1
group_of inner_step = 2
group_of (guarded s) = 3
group_of (left_side s) = 4
group_of (right_side s) = 4
group_of (both_sides s t) = 4
group_of (hidden s) = 5
group_of (enabled s) = 6
group_of (passed s) = 6
group_of (let_bound s) = 7
group_of (with_value s) = 8
group_of (at_gate k s) = 9
group_of (called s) = 10
group_of (relabelled s) = 11

abbrev group_at : Behaviour → ℕ
group_at stop = 12
group_at (exit_with results) = 1
group_at (action g offers test b) = 0
group_at (inner_action b) = 2
group_at (guard test b) = 3
group_at (choice b c) = 4
group_at (parallel meet b c) = 4
group_at (hide gates b) = 5
group_at (enable b variables c) = 6
group_at (disable b c) = 4
group_at (let_be bindings b) = 7
group_at (choose_value x b) = 8
group_at (choose_gate g gates b) = 9
group_at (par_gate g gates meet b) = 12
group_at (call number gates arguments) = 10
group_at (relabel pairs b) = 11

-- Two moves of one behaviour.
record Common (moves others : Behaviour → Option Move) : Type 0 where
  behaviour : Behaviour
  first : Move
  second : Move
  first_move : moves behaviour ≡ Some first
  second_move : others behaviour ≡ Some second

module _ (setting : Setting) (leaves : Substitution) where
  suited : (s : Shape) (next : ℕ) (c : Behaviour) (m : Move) → move_of setting leaves s next c ≡ Some m → group_of s ≡ group_at (opened c)
  suited act next c m e = row (opened c) e
    where
      row : (c : Behaviour) → act_move setting leaves next c ≡ Some m → 0 ≡ group_at c
      row (action g offers test b) e = refl
      row _ e = absurd cc
  suited quit next c m e = row (opened c) e
    where
      row : (c : Behaviour) → quit_move setting leaves next c ≡ Some m → 1 ≡ group_at c
      row (exit_with results) e = refl
      row _ e = absurd cc
  suited inner_step next c m e = row (opened c) e
    where
      row : (c : Behaviour) → inner_move c ≡ Some m → 2 ≡ group_at c
      row (inner_action b) e = refl
      row _ e = absurd cc
  suited (guarded s) next c m e = row (opened c) e
    where
      row : (c : Behaviour) → guarded_move (move_of setting leaves s next) c ≡ Some m → 3 ≡ group_at c
      row (guard test b) e = refl
      row _ e = absurd cc
  suited (left_side s) next c m e = row (opened c) e
    where
      row : (c : Behaviour) → left_move (move_of setting leaves s next) c ≡ Some m → 4 ≡ group_at c
      row (choice b d) e = refl
      row (parallel meet b d) e = refl
      row (disable b d) e = refl
      row _ e = absurd cc
  suited (right_side s) next c m e = row (opened c) e
    where
      row : (c : Behaviour) → right_move (move_of setting leaves s next) c ≡ Some m → 4 ≡ group_at c
      row (choice b d) e = refl
      row (parallel meet b d) e = refl
      row (disable b d) e = refl
      row _ e = absurd cc
  suited (both_sides s t) next c m e = row (opened c) e
    where
      row : (c : Behaviour) → both_move setting next (move_of setting leaves s next) (move_of setting leaves t) c ≡ Some m → 4 ≡ group_at c
      row (parallel meet b d) e = refl
      row _ e = absurd cc
  suited (hidden s) next c m e = row (opened c) e
    where
      row : (c : Behaviour) → hidden_move (move_of setting leaves s next) c ≡ Some m → 5 ≡ group_at c
      row (hide gates b) e = refl
      row _ e = absurd cc
  suited (enabled s) next c m e = row (opened c) e
    where
      row : (c : Behaviour) → enabled_move setting (move_of setting leaves s next) c ≡ Some m → 6 ≡ group_at c
      row (enable b variables d) e = refl
      row _ e = absurd cc
  suited (passed s) next c m e = row (opened c) e
    where
      row : (c : Behaviour) → passed_move (move_of setting leaves s next) c ≡ Some m → 6 ≡ group_at c
      row (enable b variables d) e = refl
      row _ e = absurd cc
  suited (let_bound s) next c m e = row (opened c) e
    where
      row : (c : Behaviour) → let_move setting (move_of setting leaves s next) c ≡ Some m → 7 ≡ group_at c
      row (let_be bindings b) e = refl
      row _ e = absurd cc
  suited (with_value s) next c m e = row (opened c) e
    where
      row : (c : Behaviour) → value_move setting leaves next (move_of setting leaves s (suc next)) c ≡ Some m → 8 ≡ group_at c
      row (choose_value x b) e = refl
      row _ e = absurd cc
  suited (at_gate k s) next c m e = row (opened c) e
    where
      row : (c : Behaviour) → gate_move k (move_of setting leaves s next) c ≡ Some m → 9 ≡ group_at c
      row (choose_gate g gates b) e = refl
      row _ e = absurd cc
  suited (called s) next c m e = row (opened c) e
    where
      row : (c : Behaviour) → called_move setting (move_of setting leaves s next) c ≡ Some m → 10 ≡ group_at c
      row (call number gates arguments) e = refl
      row _ e = absurd cc
  suited (relabelled s) next c m e = row (opened c) e
    where
      row : (c : Behaviour) → relabelled_move (move_of setting leaves s next) c ≡ Some m → 11 ≡ group_at c
      row (relabel pairs b) e = refl
      row _ e = absurd cc

  -- Where one variant has two moves of a behaviour, a part of it has two moves.
  guarded_pair : (f g : Behaviour → Option Move) (c : Behaviour) (m n : Move) → guarded_move f c ≡ Some m → guarded_move g c ≡ Some n
      → Common f g
  guarded_pair f g (guard test b) m n e e' =
      let p : _ = mapped (asking test) (f b) e in
      let q : _ = mapped (asking test) (g b) e' in
      record { behaviour = b; first = p.0; second = q.0; first_move = p.1; second_move = q.1 }
  guarded_pair f g _ m n e e' = absurd cc

  left_pair : (f g : Behaviour → Option Move) (c : Behaviour) (m n : Move) → left_move f c ≡ Some m → left_move g c ≡ Some n → Common f g
  left_pair f g (choice b d) m n e e' = record { behaviour = b; first = m; second = n; first_move = e; second_move = e' }
  left_pair f g (parallel meet b d) m n e e' =
      let p : _ = chained (alone meet (λ target. parallel meet target d)) (f b) e in
      let q : _ = chained (alone meet (λ target. parallel meet target d)) (g b) e' in
      record { behaviour = b; first = p.0; second = q.0; first_move = p.1; second_move = q.1 }
  left_pair f g (disable b d) m n e e' =
      let p : _ = mapped (disabling d) (f b) e in
      let q : _ = mapped (disabling d) (g b) e' in
      record { behaviour = b; first = p.0; second = q.0; first_move = p.1; second_move = q.1 }
  left_pair f g _ m n e e' = absurd cc

  right_pair : (f g : Behaviour → Option Move) (c : Behaviour) (m n : Move) → right_move f c ≡ Some m → right_move g c ≡ Some n → Common f g
  right_pair f g (choice b d) m n e e' = record { behaviour = d; first = m; second = n; first_move = e; second_move = e' }
  right_pair f g (parallel meet b d) m n e e' =
      let p : _ = chained (alone meet (λ target. parallel meet b target)) (f d) e in
      let q : _ = chained (alone meet (λ target. parallel meet b target)) (g d) e' in
      record { behaviour = d; first = p.0; second = q.0; first_move = p.1; second_move = q.1 }
  right_pair f g (disable b d) m n e e' = record { behaviour = d; first = m; second = n; first_move = e; second_move = e' }
  right_pair f g _ m n e e' = absurd cc

  hidden_pair : (f g : Behaviour → Option Move) (c : Behaviour) (m n : Move) → hidden_move f c ≡ Some m → hidden_move g c ≡ Some n
      → Common f g
  hidden_pair f g (hide gates b) m n e e' =
      let p : _ = mapped (hiding gates) (f b) e in
      let q : _ = mapped (hiding gates) (g b) e' in
      record { behaviour = b; first = p.0; second = q.0; first_move = p.1; second_move = q.1 }
  hidden_pair f g _ m n e e' = absurd cc

  enabled_pair : (f g : Behaviour → Option Move) (c : Behaviour) (m n : Move) → enabled_move setting f c ≡ Some m
      → enabled_move setting g c ≡ Some n → Common f g
  enabled_pair f g (enable b variables d) m n e e' =
      let p : _ = chained (λ (k : Move). enabling setting.signature variables d k k.label) (f b) e in
      let q : _ = chained (λ (k : Move). enabling setting.signature variables d k k.label) (g b) e' in
      record { behaviour = b; first = p.0; second = q.0; first_move = p.1; second_move = q.1 }
  enabled_pair f g _ m n e e' = absurd cc

  passed_pair : (f g : Behaviour → Option Move) (c : Behaviour) (m n : Move) → passed_move f c ≡ Some m → passed_move g c ≡ Some n
      → Common f g
  passed_pair f g (enable b variables d) m n e e' =
      let p : _ = chained (passing variables d) (f b) e in
      let q : _ = chained (passing variables d) (g b) e' in
      record { behaviour = b; first = p.0; second = q.0; first_move = p.1; second_move = q.1 }
  passed_pair f g _ m n e e' = absurd cc

  pub enabling-exit : (variables : List Variable) (c : Behaviour) (k : Move) (label : Label) (m : Move)
      → enabling setting.signature variables c k label ≡ Some m → is_exit label ≡ true
  enabling-exit variables c k (exit_event values) m e = refl
  enabling-exit variables c k _ m e = absurd cc

  -- one part that ends and one that goes on
  mixed_pair : (f g : Behaviour → Option Move) (c : Behaviour) (m n : Move) → enabled_move setting f c ≡ Some m → passed_move g c ≡ Some n
      → (p : Common f g) × (is_exit p.first.label ≡ true) × (is_exit p.second.label ≡ false)
  mixed_pair f g (enable b variables d) m n e e' =
      let p : _ = chained (λ (k : Move). enabling setting.signature variables d k k.label) (f b) e in
      let q : _ = chained (passing variables d) (g b) e' in (
        record { behaviour = b; first = p.0; second = q.0; first_move = p.1; second_move = q.1 },
        enabling-exit variables d p.0 p.0.label m p.2,
        (tested_not (is_exit q.0.label) (record q.0 { target = enable q.0.target variables d }) q.2).0,
      )
  mixed_pair f g _ m n e e' = absurd cc

  let_pair : (f g : Behaviour → Option Move) (c : Behaviour) (m n : Move) → let_move setting f c ≡ Some m → let_move setting g c ≡ Some n
      → Common f g
  let_pair f g (let_be bindings b) m n e e' =
      record {
        behaviour = with_values (binding_of (let_variables bindings) (map setting.represent (let_terms bindings))) b;
        first = m;
        second = n;
        first_move = e;
        second_move = e';
      }
  let_pair f g _ m n e e' = absurd cc

  value_pair : (next : ℕ) (f g : Behaviour → Option Move) (c : Behaviour) (m n : Move) → value_move setting leaves next f c ≡ Some m
      → value_move setting leaves next g c ≡ Some n → Common f g
  value_pair next f g (choose_value x b) m n e e' =
      let inside : Behaviour = with_values (binding_of (x ∷ []) (setting.represent (leaves next x.sort) ∷ [])) b in
      let p : _ = mapped (after_leaf x.sort) (f inside) e in
      let q : _ = mapped (after_leaf x.sort) (g inside) e' in
      record { behaviour = inside; first = p.0; second = q.0; first_move = p.1; second_move = q.1 }
  value_pair next f g _ m n e e' = absurd cc

  gate_pair : (j k : ℕ) (f g : Behaviour → Option Move) (c : Behaviour) (m n : Move) → gate_move j f c ≡ Some m → gate_move k g c ≡ Some n
      → Common f g
  gate_pair j k f g (choose_gate gate gates b) m n e e' =
      let p : _ = chained (λ (a : ℕ). option_map (relabelling ((gate, a) ∷ [])) (f b)) (slice_get gates j) e in
      let q : _ = chained (λ (a : ℕ). option_map (relabelling ((gate, a) ∷ [])) (g b)) (slice_get gates k) e' in
      let p' : _ = mapped (relabelling ((gate, p.0) ∷ [])) (f b) p.2 in
      let q' : _ = mapped (relabelling ((gate, q.0) ∷ [])) (g b) q.2 in
      record { behaviour = b; first = p'.0; second = q'.0; first_move = p'.1; second_move = q'.1 }
  gate_pair j k f g _ m n e e' = absurd cc

  called_at : (f g : Behaviour → Option Move) (pairs : Process → Relabelling) (inside : Process → Behaviour) (o : Option Process)
      (m n : Move) → option_and_then (λ (p : Process). option_map (relabelling (pairs p)) (f (inside p))) o ≡ Some m
      → option_and_then (λ (p : Process). option_map (relabelling (pairs p)) (g (inside p))) o ≡ Some n → Common f g
  called_at f g pairs inside None m n e e' = absurd cc
  called_at f g pairs inside (Some process) m n e e' =
      let p : _ = mapped (relabelling (pairs process)) (f (inside process)) e in
      let q : _ = mapped (relabelling (pairs process)) (g (inside process)) e' in
      record { behaviour = inside process; first = p.0; second = q.0; first_move = p.1; second_move = q.1 }

  called_pair : (f g : Behaviour → Option Move) (c : Behaviour) (m n : Move) → called_move setting f c ≡ Some m
      → called_move setting g c ≡ Some n → Common f g
  called_pair f g (call number gates arguments) m n e e' =
      called_at f g (λ p. zip p.gates gates) (λ p. with_values (binding_of p.parameters (map setting.represent arguments)) p.body)
      (slice_get setting.processes number) m n e e'
  called_pair f g _ m n e e' = absurd cc

  relabelled_pair : (f g : Behaviour → Option Move) (c : Behaviour) (m n : Move) → relabelled_move f c ≡ Some m
      → relabelled_move g c ≡ Some n → Common f g
  relabelled_pair f g (relabel pairs b) m n e e' =
      let p : _ = mapped (relabelling pairs) (f b) e in
      let q : _ = mapped (relabelling pairs) (g b) e' in
      record { behaviour = b; first = p.0; second = q.0; first_move = p.1; second_move = q.1 }
  relabelled_pair f g _ m n e e' = absurd cc

  -- both sides: two moves of the left part, and two of the right part, each behind the leaves of its left one
  both_pair : (next : ℕ) (f g : Behaviour → Option Move) (f' g' : ℕ → Behaviour → Option Move) (c : Behaviour) (m n : Move)
      → both_move setting next f f' c ≡ Some m → both_move setting next g g' c ≡ Some n → (p : Common f g)
      × Common (f' (next + length p.first.sorts)) (g' (next + length p.second.sorts))
  both_pair next f g f' g' (parallel meet b d) m n e e' =
      let p : _ = chained (λ (k : Move). option_and_then (together setting.signature meet k) (f' (next + length k.sorts) d)) (f b) e in
      let q : _ = chained (λ (k : Move). option_and_then (together setting.signature meet k) (g' (next + length k.sorts) d)) (g b) e' in
      let p' : _ = chained (together setting.signature meet p.0) (f' (next + length p.0.sorts) d) p.2 in
      let q' : _ = chained (together setting.signature meet q.0) (g' (next + length q.0.sorts) d) q.2 in (
        record { behaviour = b; first = p.0; second = q.0; first_move = p.1; second_move = q.1 },
        record { behaviour = d; first = p'.0; second = q'.0; first_move = p'.1; second_move = q'.1 },
      )
  both_pair next f g f' g' _ m n e e' = absurd cc

  -- Where the same shape gives both, the moves are the same.
  same_move : (s t : Shape) (next : ℕ) (b : Behaviour) (m n : Move) → s ≡ t → move_of setting leaves s next b ≡ Some m
      → move_of setting leaves t next b ≡ Some n → m ≡ n
  same_move s t next b m n same e e' = some_value (sym e ∙ (ap (λ u. move_of setting leaves u next b) same ∙ e'))

  -- A part that ends and one that goes on are not the same.
  mixed : (s t : Shape) (next : ℕ) (p : Common (move_of setting leaves s next) (move_of setting leaves t next))
      → is_exit p.first.label ≡ true → is_exit p.second.label ≡ false → Ordered s t → Before s t ⊎ Before t s
  mixed s t next p ends goes_on (inl same) =
      let moves : p.first ≡ p.second = same_move s t next p.behaviour p.first p.second same p.first_move p.second_move in
      let labels : is_exit p.first.label ≡ is_exit p.second.label = ap (λ (m : Move). is_exit m.label) moves in
      absurd (cc (ends, goes_on, labels))
  mixed s t next p ends goes_on (inr before) = before

  mixed_order : (s t : Shape) → Before s t ⊎ Before t s → Ordered (enabled s) (passed t)
  mixed_order s t (inl h) = inr (inl (in_enabled_passed h))
  mixed_order s t (inr h) = inr (inr (in_passed_enabled h))

  swapped : (s t : Shape) → Ordered s t → Ordered t s
  swapped s t (inl e) = inl (sym e)
  swapped s t (inr (inl h)) = inr (inr h)
  swapped s t (inr (inr h)) = inr (inl h)

  -- Gate choices, by position and then below.
  gate_order : (j k : ℕ) (s t : Shape) → Ordered s t → (j ≡ k) ⊎ ((j < k) ⊎ (k < j)) → Ordered (at_gate j s) (at_gate k t)
  gate_order j k s t o (inr (inl lt)) = inr (inl (by_gate lt))
  gate_order j k s t o (inr (inr lt)) = inr (inr (by_gate lt))
  gate_order j k s t (inl e) (inl same) = inl (ap (at_gate j) e ∙ ap (λ n. at_gate n t) same)
  gate_order j k s t (inr (inl h)) (inl same) = inr (inl (subst (λ n. Before (at_gate j s) (at_gate n t)) same (in_gate h)))
  gate_order j k s t (inr (inr h)) (inl same) = inr (inr (subst (λ n. Before (at_gate n t) (at_gate j s)) same (in_gate h)))

  second_order : (s u t v : Shape) → s ≡ t → Ordered u v → Ordered (both_sides s u) (both_sides t v)
  second_order s u t v same (inl e) = inl (ap (λ x. both_sides x u) same ∙ ap (both_sides t) e)
  second_order s u t v same (inr (inl h)) = inr (inl (in_second (subst (λ x. Agree s x) same (Agree-refl s)) h))
  second_order s u t v same (inr (inr h)) = inr (inr (in_second (subst (λ x. Agree x s) same (Agree-refl s)) h))

  both_order : (s u t v : Shape) (next : ℕ) (p : Common (move_of setting leaves s next) (move_of setting leaves t next))
      → Common (move_of setting leaves u (next + length p.first.sorts)) (move_of setting leaves v (next + length p.second.sorts))
      → ((n : ℕ) → Common (move_of setting leaves u n) (move_of setting leaves v n) → Ordered u v) → Ordered s t
      → Ordered (both_sides s u) (both_sides t v)
  both_order s u t v next p q below (inl same) =
      let moves : p.first ≡ p.second = same_move s t next p.behaviour p.first p.second same p.first_move p.second_move in
      let place : next + length p.second.sorts ≡ next + length p.first.sorts = ap (λ (m : Move). next + length m.sorts) (sym moves) in
      second_order s u t v same (below (next + length p.first.sorts) (record {
        behaviour = q.behaviour;
        first = q.first;
        second = q.second;
        first_move = q.first_move;
        second_move = subst (λ n. move_of setting leaves v n q.behaviour ≡ Some q.second) place q.second_move;
      }))
  both_order s u t v next p q below (inr (inl h)) = inr (inl (in_first h))
  both_order s u t v next p q below (inr (inr h)) = inr (inr (in_first h))

  pub comparable : (s t : Shape) (next : ℕ) (b : Behaviour) (m n : Move) → move_of setting leaves s next b ≡ Some m
      → move_of setting leaves t next b ≡ Some n → Ordered s t
  comparable act act next b m n e e' = inl refl
  comparable quit quit next b m n e e' = inl refl
  comparable inner_step inner_step next b m n e e' = inl refl
  comparable (guarded s) (guarded t) next b m n e e' =
      let p : Common (move_of setting leaves s next) (move_of setting leaves t next) =
      guarded_pair (move_of setting leaves s next) (move_of setting leaves t next) (opened b) m n e e' in
      lifted guarded (λ x y h. in_guarded h) s t (comparable s t next p.behaviour p.first p.second p.first_move p.second_move)
  comparable (left_side s) (left_side t) next b m n e e' =
      let p : Common (move_of setting leaves s next) (move_of setting leaves t next) =
      left_pair (move_of setting leaves s next) (move_of setting leaves t next) (opened b) m n e e' in
      lifted left_side (λ x y h. in_left h) s t (comparable s t next p.behaviour p.first p.second p.first_move p.second_move)
  comparable (left_side s) (right_side t) next b m n e e' = inr (inl left_then_right)
  comparable (left_side s) (both_sides t v) next b m n e e' = inr (inl left_then_both)
  comparable (right_side s) (left_side t) next b m n e e' = inr (inr left_then_right)
  comparable (right_side s) (right_side t) next b m n e e' =
      let p : Common (move_of setting leaves s next) (move_of setting leaves t next) =
      right_pair (move_of setting leaves s next) (move_of setting leaves t next) (opened b) m n e e' in
      lifted right_side (λ x y h. in_right h) s t (comparable s t next p.behaviour p.first p.second p.first_move p.second_move)
  comparable (right_side s) (both_sides t v) next b m n e e' = inr (inl right_then_both)
  comparable (both_sides s u) (left_side t) next b m n e e' = inr (inr left_then_both)
  comparable (both_sides s u) (right_side t) next b m n e e' = inr (inr right_then_both)
  comparable (both_sides s u) (both_sides t v) next b m n e e' =
      let pq : (p : Common (move_of setting leaves s next) (move_of setting leaves t next))
      × Common (move_of setting leaves u (next + length p.first.sorts)) (move_of setting leaves v (next + length p.second.sorts)) =
      both_pair next (move_of setting leaves s next) (move_of setting leaves t next) (move_of setting leaves u) (move_of setting leaves v)
      (opened b) m n e e' in
      both_order s u t v next pq.0 pq.1 (λ k q. comparable u v k q.behaviour q.first q.second q.first_move q.second_move)
      (comparable s t next pq.0.behaviour pq.0.first pq.0.second pq.0.first_move pq.0.second_move)
  comparable (hidden s) (hidden t) next b m n e e' =
      let p : Common (move_of setting leaves s next) (move_of setting leaves t next) =
      hidden_pair (move_of setting leaves s next) (move_of setting leaves t next) (opened b) m n e e' in
      lifted hidden (λ x y h. in_hidden h) s t (comparable s t next p.behaviour p.first p.second p.first_move p.second_move)
  comparable (enabled s) (enabled t) next b m n e e' =
      let p : Common (move_of setting leaves s next) (move_of setting leaves t next) =
      enabled_pair (move_of setting leaves s next) (move_of setting leaves t next) (opened b) m n e e' in
      lifted enabled (λ x y h. in_enabled h) s t (comparable s t next p.behaviour p.first p.second p.first_move p.second_move)
  comparable (enabled s) (passed t) next b m n e e' =
      let p : (p : Common (move_of setting leaves s next) (move_of setting leaves t next)) × (is_exit p.first.label ≡ true)
      × (is_exit p.second.label ≡ false) = mixed_pair (move_of setting leaves s next) (move_of setting leaves t next) (opened b) m n e
      e' in
      mixed_order s t (mixed s t next p.0 p.1 p.2 (comparable s t next p.0.behaviour p.0.first p.0.second p.0.first_move p.0.second_move))
  comparable (passed s) (enabled t) next b m n e e' =
      let p : (p : Common (move_of setting leaves t next) (move_of setting leaves s next)) × (is_exit p.first.label ≡ true)
      × (is_exit p.second.label ≡ false) = mixed_pair (move_of setting leaves t next) (move_of setting leaves s next) (opened b) n m e'
      e in
      swapped (enabled t) (passed s) (mixed_order t s (mixed t s next p.0 p.1 p.2
      (swapped s t (comparable s t next p.0.behaviour p.0.second p.0.first p.0.second_move p.0.first_move))))
  comparable (passed s) (passed t) next b m n e e' =
      let p : Common (move_of setting leaves s next) (move_of setting leaves t next) =
      passed_pair (move_of setting leaves s next) (move_of setting leaves t next) (opened b) m n e e' in
      lifted passed (λ x y h. in_passed h) s t (comparable s t next p.behaviour p.first p.second p.first_move p.second_move)
  comparable (let_bound s) (let_bound t) next b m n e e' =
      let p : Common (move_of setting leaves s next) (move_of setting leaves t next) =
      let_pair (move_of setting leaves s next) (move_of setting leaves t next) (opened b) m n e e' in
      lifted let_bound (λ x y h. in_let h) s t (comparable s t next p.behaviour p.first p.second p.first_move p.second_move)
  comparable (with_value s) (with_value t) next b m n e e' =
      let p : Common (move_of setting leaves s (suc next)) (move_of setting leaves t (suc next)) =
      value_pair next (move_of setting leaves s (suc next)) (move_of setting leaves t (suc next)) (opened b) m n e e' in
      lifted with_value (λ x y h. in_value h) s t (comparable s t (suc next) p.behaviour p.first p.second p.first_move p.second_move)
  comparable (at_gate j s) (at_gate k t) next b m n e e' =
      let p : Common (move_of setting leaves s next) (move_of setting leaves t next) =
      gate_pair j k (move_of setting leaves s next) (move_of setting leaves t next) (opened b) m n e e' in
      gate_order j k s t (comparable s t next p.behaviour p.first p.second p.first_move p.second_move) (cases_order j k)
  comparable (called s) (called t) next b m n e e' =
      let p : Common (move_of setting leaves s next) (move_of setting leaves t next) =
      called_pair (move_of setting leaves s next) (move_of setting leaves t next) (opened b) m n e e' in
      lifted called (λ x y h. in_called h) s t (comparable s t next p.behaviour p.first p.second p.first_move p.second_move)
  comparable (relabelled s) (relabelled t) next b m n e e' =
      let p : Common (move_of setting leaves s next) (move_of setting leaves t next) =
      relabelled_pair (move_of setting leaves s next) (move_of setting leaves t next) (opened b) m n e e' in
      lifted relabelled (λ x y h. in_relabelled h) s t (comparable s t next p.behaviour p.first p.second p.first_move p.second_move)
  comparable s t next b m n e e' = absurd (let h : group_of s ≡ group_of t = suited s next b m e
      ∙ sym (suited t next b n e') in omega arith)
