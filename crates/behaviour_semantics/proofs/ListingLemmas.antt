-- The listed moves are those of the table: each move of a shape is in the list, and each listed one is a move.
use Rattle.std.proofs.Common.{◌≡◌, inl, inr, ℕ, zero, suc, ◌+◌, List, [], ◌∷◌, length, map, zip, slice_get, Bool, true, false, if◌then◌else◌, Option, None, Some, option_map, option_and_then, refl, ap, sym, ◌∙◌, subst, arith}
use Rattle.lotos_base.proofs.Options.{mapped, chained}
use Rattle.lotos_base.specs.Signature.{Signature}
use Rattle.lotos_base.specs.Term.{Term}
use Rattle.lotos_base.specs.Substitution.{Substitution}
use Rattle.behaviour_semantics.specs.Behaviour.{Behaviour, exit_with, action, inner_action, guard, choice, parallel, hide, enable, disable, let_be, choose_value, choose_gate, call, relabel, SynchronisationSet, Process, let_variables, let_terms}
use Rattle.behaviour_semantics.specs.Replacement.{with_values, binding_of}
use Rattle.behaviour_semantics.specs.Rule.{is_exit}
use Rattle.behaviour_semantics.specs.Shape.{Shape, act, quit, inner_step, guarded, left_side, right_side, both_sides, hidden, enabled, passed, let_bound, with_value, at_gate, called, relabelled}
use Rattle.behaviour_semantics.specs.Move.{Setting, Move, move_of, opened, alone, together, passing, enabling, disabling, hiding, asking, relabelling, after_leaf, act_move, quit_move, inner_move, guarded_move, left_move, right_move, both_move, hidden_move, enabled_move, passed_move, let_move, value_move, gate_move, called_move, relabelled_move}
use Rattle.behaviour_semantics.specs.Listing.{ShapedMove, Parts, single, below, each_below, below_enable, both_below, at_gates_below, called_below, moves_by_form, listed_moves}
use Rattle.behaviour_semantics.specs.Listing.{IsAmong}
use Rattle.behaviour_semantics.proofs.OptionLemmas.{some_value, tested_not}
use Rattle.behaviour_semantics.proofs.ComparableLemmas.{enabling-exit}
use Rattle.behaviour_semantics.proofs.ListLemmas.{Within, Within-filter_map, Within-first, Within-second}

abbrev pub shaped : Shape → Move → ShapedMove
shaped s m = record { shape = s; move = m }

-- What is taken of a list of moves of a part.
taken_below : (variant : Shape → Shape) (rule : Move → Option Move) (s : Shape) (k m : Move) (o : Option (List ShapedMove))
    → rule k ≡ Some m → Within (shaped s k) o → Within (shaped (variant s) m) (each_below variant rule o)
taken_below variant rule s k m o e w = Within-filter_map (below variant rule) (shaped s k) (shaped (variant s) m) o
    (ap (option_map (λ (n : Move). shaped (variant s) n)) e) w

single_within : (s : Shape) (o : Option Move) (m : Move) → o ≡ Some m → IsAmong (shaped s m) (single s o)
single_within s None m e = absurd (cc e)
single_within s (Some k) m e = inl (ap (shaped s) (some_value e))

both_within : (signature : Signature) (meet : SynchronisationSet) (next : ℕ) (rights : ℕ → Option (List ShapedMove)) (s t : Shape)
    (k n m : Move) (lefts : List ShapedMove) → IsAmong (shaped s k) lefts → Within (shaped t n) (rights (next + length k.sorts))
    → together signature meet k n ≡ Some m → Within (shaped (both_sides s t) m) (both_below signature meet next rights lefts)
both_within signature meet next rights s t k n m [] a w e = absurd a
both_within signature meet next rights s t k n m (x ∷ lefts) (inl same) w e =
    Within-first (shaped (both_sides s t) m)
    (each_below (both_sides x.shape) (together signature meet x.move) (rights (next + length x.move.sorts)))
    (both_below signature meet next rights lefts)
    (subst (λ (y : ShapedMove). Within (shaped (both_sides s t) m)
    (each_below (both_sides y.shape) (together signature meet y.move) (rights (next + length y.move.sorts)))) (sym same)
    (taken_below (both_sides s) (together signature meet k) t n m (rights (next + length k.sorts)) e w))
both_within signature meet next rights s t k n m (x ∷ lefts) (inr a) w e =
    Within-second (shaped (both_sides s t) m)
    (each_below (both_sides x.shape) (together signature meet x.move) (rights (next + length x.move.sorts)))
    (both_below signature meet next rights lefts)
    (both_within signature meet next rights s t k n m lefts a w e)

both_within_list : (signature : Signature) (meet : SynchronisationSet) (next : ℕ) (rights : ℕ → Option (List ShapedMove)) (s t : Shape)
    (k n m : Move) (o : Option (List ShapedMove)) → Within (shaped s k) o → Within (shaped t n) (rights (next + length k.sorts))
    → together signature meet k n ≡ Some m → Within (shaped (both_sides s t) m)
    (option_and_then (both_below signature meet next rights) o)
both_within_list signature meet next rights s t k n m None a w e = tt
both_within_list signature meet next rights s t k n m (Some lefts) a w e = both_within signature meet next rights s t k n m lefts a w e

gate_within : (g a i k j : ℕ) (s : Shape) (n m : Move) (gates : List ℕ) (o : Option (List ShapedMove)) → j + k ≡ i
    → slice_get gates k ≡ Some a → relabelling ((g, a) ∷ []) n ≡ m → Within (shaped s n) o
    → Within (shaped (at_gate i s) m) (at_gates_below g j gates o)
gate_within g a i k j s n m [] o same at e w = absurd (cc at)
gate_within g a i zero j s n m (b ∷ gates) o same at e w =
    let place : j ≡ i = omega arith in
    Within-first (shaped (at_gate i s) m)
    (each_below (at_gate j) (λ (x : Move). Some (relabelling ((g, b) ∷ []) x)) o)
    (at_gates_below g (suc j) gates o)
    (subst (λ (p : ℕ). Within (shaped (at_gate p s) m) (each_below (at_gate j) (λ (x : Move). Some (relabelling ((g, b) ∷ []) x)) o)) place
    (taken_below (at_gate j) (λ (x : Move). Some (relabelling ((g, b) ∷ []) x)) s n m o
    (ap (λ (c : ℕ). Some (relabelling ((g, c) ∷ []) n)) (some_value at) ∙ ap (λ (x : Move). Some x) e) w))
gate_within g a i (suc k) j s n m (b ∷ gates) o same at e w =
    Within-second (shaped (at_gate i s) m)
    (each_below (at_gate j) (λ (x : Move). Some (relabelling ((g, b) ∷ []) x)) o)
    (at_gates_below g (suc j) gates o)
    (gate_within g a i k (suc j) s n m gates o (omega arith) at e w)

module _ (setting : Setting) (leaves : Substitution) (next : ℕ) (parts : Parts) where
  -- The moves of a shape are within the lists of the parts.
  abbrev Holds : Shape → Type 0
  Holds s = (n : ℕ) (b : Behaviour) (m : Move) → move_of setting leaves s n b ≡ Some m → Within (shaped s m) (parts n b)

  act_row : (c : Behaviour) (m : Move) → act_move setting leaves next c ≡ Some m
      → Within (shaped act m) (moves_by_form setting leaves next parts c)
  act_row (action g offers test b) m e = single_within act (act_move setting leaves next (action g offers test b)) m e
  act_row _ m e = absurd cc

  quit_row : (c : Behaviour) (m : Move) → quit_move setting leaves next c ≡ Some m
      → Within (shaped quit m) (moves_by_form setting leaves next parts c)
  quit_row (exit_with results) m e = single_within quit (quit_move setting leaves next (exit_with results)) m e
  quit_row _ m e = absurd cc

  inner_row : (c : Behaviour) (m : Move) → inner_move c ≡ Some m → Within (shaped inner_step m) (moves_by_form setting leaves next parts c)
  inner_row (inner_action b) m e = single_within inner_step (inner_move (inner_action b)) m e
  inner_row _ m e = absurd cc

  guarded_row : (s : Shape) → Holds s → (c : Behaviour) (m : Move) → guarded_move (move_of setting leaves s next) c ≡ Some m
      → Within (shaped (guarded s) m) (moves_by_form setting leaves next parts c)
  guarded_row s h (guard test b) m e =
      let p : _ = mapped (asking test) (move_of setting leaves s next b) e in
      taken_below guarded (λ k. Some (asking test k)) s p.0 m (parts next b) (ap (λ (k : Move). Some k) p.2) (h next b p.0 p.1)
  guarded_row s h _ m e = absurd cc

  left_row : (s : Shape) → Holds s → (c : Behaviour) (m : Move) → left_move (move_of setting leaves s next) c ≡ Some m
      → Within (shaped (left_side s) m) (moves_by_form setting leaves next parts c)
  left_row s h (choice b c) m e =
      Within-first _ (each_below left_side (λ k. Some k) (parts next b)) _
      (taken_below left_side (λ k. Some k) s m m (parts next b) refl (h next b m e))
  left_row s h (parallel meet b c) m e =
      let p : _ = chained (alone meet (λ target. parallel meet target c)) (move_of setting leaves s next b) e in
      Within-first _ (each_below left_side (alone meet (λ target. parallel meet target c)) (parts next b)) _
      (taken_below left_side (alone meet (λ target. parallel meet target c)) s p.0 m (parts next b) p.2 (h next b p.0 p.1))
  left_row s h (disable b c) m e =
      let p : _ = mapped (disabling c) (move_of setting leaves s next b) e in
      Within-first _ (each_below left_side (λ k. Some (disabling c k)) (parts next b)) _
      (taken_below left_side (λ k. Some (disabling c k)) s p.0 m (parts next b) (ap (λ (k : Move). Some k) p.2) (h next b p.0 p.1))
  left_row s h _ m e = absurd cc

  right_row : (s : Shape) → Holds s → (c : Behaviour) (m : Move) → right_move (move_of setting leaves s next) c ≡ Some m
      → Within (shaped (right_side s) m) (moves_by_form setting leaves next parts c)
  right_row s h (choice b c) m e =
      Within-second _ _ (each_below right_side (λ k. Some k) (parts next c))
      (taken_below right_side (λ k. Some k) s m m (parts next c) refl (h next c m e))
  right_row s h (parallel meet b c) m e =
      let p : _ = chained (alone meet (λ target. parallel meet b target)) (move_of setting leaves s next c) e in
      Within-second _ (each_below left_side (alone meet (λ target. parallel meet target c)) (parts next b)) _
      (Within-first _ (each_below right_side (alone meet (λ target. parallel meet b target)) (parts next c)) _
      (taken_below right_side (alone meet (λ target. parallel meet b target)) s p.0 m (parts next c) p.2 (h next c p.0 p.1)))
  right_row s h (disable b c) m e =
      Within-second _ (each_below left_side (λ k. Some (disabling c k)) (parts next b)) (each_below right_side (λ k. Some k) (parts next c))
      (taken_below right_side (λ k. Some k) s m m (parts next c) refl (h next c m e))
  right_row s h _ m e = absurd cc

  both_row : (s t : Shape) → Holds s → Holds t → (c : Behaviour) (m : Move)
      → both_move setting next (move_of setting leaves s next) (move_of setting leaves t) c ≡ Some m
      → Within (shaped (both_sides s t) m) (moves_by_form setting leaves next parts c)
  both_row s t h k (parallel meet b c) m e =
      let p : _ = chained (λ (n : Move). option_and_then (together setting.signature meet n)
      (move_of setting leaves t (next + length n.sorts) c)) (move_of setting leaves s next b) e in
      let q : _ = chained (together setting.signature meet p.0) (move_of setting leaves t (next + length p.0.sorts) c) p.2 in
      Within-second _ (each_below left_side (alone meet (λ target. parallel meet target c)) (parts next b)) _
      (Within-second _ (each_below right_side (alone meet (λ target. parallel meet b target)) (parts next c)) _
      (both_within_list setting.signature meet next (λ n. parts n c) s t p.0 q.0 m (parts next b) (h next b p.0 p.1)
      (k (next + length p.0.sorts) c q.0 q.1) q.2))
  both_row s t h k _ m e = absurd cc

  hidden_row : (s : Shape) → Holds s → (c : Behaviour) (m : Move) → hidden_move (move_of setting leaves s next) c ≡ Some m
      → Within (shaped (hidden s) m) (moves_by_form setting leaves next parts c)
  hidden_row s h (hide gates b) m e =
      let p : _ = mapped (hiding gates) (move_of setting leaves s next b) e in
      taken_below hidden (λ k. Some (hiding gates k)) s p.0 m (parts next b) (ap (λ (k : Move). Some k) p.2) (h next b p.0 p.1)
  hidden_row s h _ m e = absurd cc

  enabled_row : (s : Shape) → Holds s → (c : Behaviour) (m : Move) → enabled_move setting (move_of setting leaves s next) c ≡ Some m
      → Within (shaped (enabled s) m) (moves_by_form setting leaves next parts c)
  enabled_row s h (enable b variables c) m e =
      let p : _ = chained (λ (k : Move). enabling setting.signature variables c k k.label) (move_of setting leaves s next b) e in
      let ends : is_exit p.0.label ≡ true = enabling-exit setting leaves variables c p.0 p.0.label m p.2 in
      Within-filter_map (below_enable setting.signature variables c) (shaped s p.0) (shaped (enabled s) m) (parts next b)
      (ap (λ (t : Bool). if t then below enabled (λ k. enabling setting.signature variables c k k.label) (shaped s p.0) else below passed
      (passing variables c) (shaped s p.0)) ends
      ∙ ap (option_map (λ (k : Move). shaped (enabled s) k)) p.2)
      (h next b p.0 p.1)
  enabled_row s h _ m e = absurd cc

  passed_row : (s : Shape) → Holds s → (c : Behaviour) (m : Move) → passed_move (move_of setting leaves s next) c ≡ Some m
      → Within (shaped (passed s) m) (moves_by_form setting leaves next parts c)
  passed_row s h (enable b variables c) m e =
      let p : _ = chained (passing variables c) (move_of setting leaves s next b) e in
      let goes_on : is_exit p.0.label ≡ false = (tested_not (is_exit p.0.label) (record p.0 { target = enable p.0.target variables c })
      p.2).0 in
      Within-filter_map (below_enable setting.signature variables c) (shaped s p.0) (shaped (passed s) m) (parts next b)
      (ap (λ (t : Bool). if t then below enabled (λ k. enabling setting.signature variables c k k.label) (shaped s p.0) else below passed
      (passing variables c) (shaped s p.0)) goes_on
      ∙ ap (option_map (λ (k : Move). shaped (passed s) k)) p.2)
      (h next b p.0 p.1)
  passed_row s h _ m e = absurd cc

  let_row : (s : Shape) → Holds s → (c : Behaviour) (m : Move) → let_move setting (move_of setting leaves s next) c ≡ Some m
      → Within (shaped (let_bound s) m) (moves_by_form setting leaves next parts c)
  let_row s h (let_be bindings b) m e =
      let inside : Behaviour = with_values (binding_of (let_variables bindings) (map setting.represent (let_terms bindings))) b in
      taken_below let_bound (λ k. Some k) s m m (parts next inside) refl (h next inside m e)
  let_row s h _ m e = absurd cc

  value_row : (s : Shape) → Holds s → (c : Behaviour) (m : Move)
      → value_move setting leaves next (move_of setting leaves s (suc next)) c ≡ Some m
      → Within (shaped (with_value s) m) (moves_by_form setting leaves next parts c)
  value_row s h (choose_value x b) m e =
      let inside : Behaviour = with_values (binding_of (x ∷ []) (setting.represent (leaves next x.sort) ∷ [])) b in
      let p : _ = mapped (after_leaf x.sort) (move_of setting leaves s (suc next) inside) e in
      taken_below with_value (λ k. Some (after_leaf x.sort k)) s p.0 m (parts (suc next) inside) (ap (λ (k : Move). Some k) p.2)
      (h (suc next) inside p.0 p.1)
  value_row s h _ m e = absurd cc

  gate_row : (k : ℕ) (s : Shape) → Holds s → (c : Behaviour) (m : Move) → gate_move k (move_of setting leaves s next) c ≡ Some m
      → Within (shaped (at_gate k s) m) (moves_by_form setting leaves next parts c)
  gate_row k s h (choose_gate g gates b) m e =
      let p : _ = chained (λ (a : ℕ). option_map (relabelling ((g, a) ∷ [])) (move_of setting leaves s next b)) (slice_get gates k) e in
      let q : _ = mapped (relabelling ((g, p.0) ∷ [])) (move_of setting leaves s next b) p.2 in
      gate_within g p.0 k k 0 s q.0 m gates (parts next b) (omega arith) p.1 q.2 (h next b q.0 q.1)
  gate_row k s h _ m e = absurd cc

  called_at : (s : Shape) → Holds s → (gates : List ℕ) (arguments : List Term) (o : Option Process) (m : Move)
      → option_and_then (λ (process : Process). option_map (relabelling (zip process.gates gates))
      (move_of setting leaves s next (with_values (binding_of process.parameters (map setting.represent arguments)) process.body))) o
      ≡ Some m → Within (shaped (called s) m) (called_below setting next parts gates arguments o)
  called_at s h gates arguments None m e = absurd (cc e)
  called_at s h gates arguments (Some process) m e =
      let inside : Behaviour = with_values (binding_of process.parameters (map setting.represent arguments)) process.body in
      let p : _ = mapped (relabelling (zip process.gates gates)) (move_of setting leaves s next inside) e in
      taken_below called (λ k. Some (relabelling (zip process.gates gates) k)) s p.0 m (parts next inside) (ap (λ (k : Move). Some k) p.2)
      (h next inside p.0 p.1)

  called_row : (s : Shape) → Holds s → (c : Behaviour) (m : Move) → called_move setting (move_of setting leaves s next) c ≡ Some m
      → Within (shaped (called s) m) (moves_by_form setting leaves next parts c)
  called_row s h (call number gates arguments) m e = called_at s h gates arguments (slice_get setting.processes number) m e
  called_row s h _ m e = absurd cc

  relabelled_row : (s : Shape) → Holds s → (c : Behaviour) (m : Move) → relabelled_move (move_of setting leaves s next) c ≡ Some m
      → Within (shaped (relabelled s) m) (moves_by_form setting leaves next parts c)
  relabelled_row s h (relabel pairs b) m e =
      let p : _ = mapped (relabelling pairs) (move_of setting leaves s next b) e in
      taken_below relabelled (λ k. Some (relabelling pairs k)) s p.0 m (parts next b) (ap (λ (k : Move). Some k) p.2) (h next b p.0 p.1)
  relabelled_row s h _ m e = absurd cc

-- Each move of the table is listed.
pub listed : (setting : Setting) (leaves : Substitution) (depth : ℕ) (s : Shape) (next : ℕ) (b : Behaviour) (m : Move)
    → move_of setting leaves s next b ≡ Some m → Within (shaped s m) (listed_moves setting leaves depth next b)
listed setting leaves zero s next b m e = tt
listed setting leaves (suc depth) act next b m e = act_row setting leaves next (listed_moves setting leaves depth) (opened b) m e
listed setting leaves (suc depth) quit next b m e = quit_row setting leaves next (listed_moves setting leaves depth) (opened b) m e
listed setting leaves (suc depth) inner_step next b m e = inner_row setting leaves next (listed_moves setting leaves depth) (opened b) m e
listed setting leaves (suc depth) (guarded s) next b m e =
    guarded_row setting leaves next (listed_moves setting leaves depth) s (listed setting leaves depth s) (opened b) m e
listed setting leaves (suc depth) (left_side s) next b m e =
    left_row setting leaves next (listed_moves setting leaves depth) s (listed setting leaves depth s) (opened b) m e
listed setting leaves (suc depth) (right_side s) next b m e =
    right_row setting leaves next (listed_moves setting leaves depth) s (listed setting leaves depth s) (opened b) m e
listed setting leaves (suc depth) (both_sides s t) next b m e =
    both_row setting leaves next (listed_moves setting leaves depth) s t (listed setting leaves depth s) (listed setting leaves depth t)
    (opened b) m e
listed setting leaves (suc depth) (hidden s) next b m e =
    hidden_row setting leaves next (listed_moves setting leaves depth) s (listed setting leaves depth s) (opened b) m e
listed setting leaves (suc depth) (enabled s) next b m e =
    enabled_row setting leaves next (listed_moves setting leaves depth) s (listed setting leaves depth s) (opened b) m e
listed setting leaves (suc depth) (passed s) next b m e =
    passed_row setting leaves next (listed_moves setting leaves depth) s (listed setting leaves depth s) (opened b) m e
listed setting leaves (suc depth) (let_bound s) next b m e =
    let_row setting leaves next (listed_moves setting leaves depth) s (listed setting leaves depth s) (opened b) m e
listed setting leaves (suc depth) (with_value s) next b m e =
    value_row setting leaves next (listed_moves setting leaves depth) s (listed setting leaves depth s) (opened b) m e
listed setting leaves (suc depth) (at_gate k s) next b m e =
    gate_row setting leaves next (listed_moves setting leaves depth) k s (listed setting leaves depth s) (opened b) m e
listed setting leaves (suc depth) (called s) next b m e =
    called_row setting leaves next (listed_moves setting leaves depth) s (listed setting leaves depth s) (opened b) m e
listed setting leaves (suc depth) (relabelled s) next b m e =
    relabelled_row setting leaves next (listed_moves setting leaves depth) s (listed setting leaves depth s) (opened b) m e
