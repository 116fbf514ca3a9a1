-- Each listed move is a move of the table.
use Rattle.std.proofs.Common.{◌≡◌, ℕ, zero, suc, ◌+◌, List, [], ◌∷◌, length, map, zip, slice_get, Bool, true, false, if◌then◌else◌, Option, None, Some, option_map, option_and_then, refl, ap, sym, ◌∙◌, subst, arith}
use Rattle.lotos_base.proofs.Options.{mapped}
use Rattle.lotos_base.specs.Term.{Term}
use Rattle.lotos_base.specs.Equation.{Variable}
use Rattle.lotos_base.specs.Substitution.{Substitution}
use Rattle.behaviour_semantics.specs.Behaviour.{Behaviour, stop, exit_with, action, inner_action, guard, choice, parallel, hide, enable, disable, let_be, choose_value, choose_gate, par_gate, call, relabel, SynchronisationSet, Process, let_variables, let_terms}
use Rattle.behaviour_semantics.specs.Replacement.{with_values, binding_of}
use Rattle.behaviour_semantics.specs.Rule.{is_exit, copies}
use Rattle.behaviour_semantics.specs.Shape.{Shape, guarded, left_side, right_side, both_sides, hidden, enabled, passed, let_bound, with_value, at_gate, called, relabelled}
use Rattle.behaviour_semantics.specs.Move.{Setting, Move, move_of, alone, together, passing, enabling, disabling, hiding, asking, relabelling, after_leaf}
use Rattle.behaviour_semantics.specs.WellFormed.{Every}
use Rattle.behaviour_semantics.specs.Listing.{ShapedMove, Parts, below, each_below, below_enable, one_behind, both_below, at_gates_below, called_below, moves_by_form, listed_moves}
use Rattle.behaviour_semantics.proofs.OpenedLemmas.{move_of-copies}
use Rattle.behaviour_semantics.proofs.ListLemmas.{EachOf, Every-weaker, EachOf-filter_map, EachOf-one_behind}
use Rattle.behaviour_semantics.proofs.ListingLemmas.{shaped}

-- A fact of what is taken of each move of a list.
pub each_taken : (variant : Shape → Shape) (rule : Move → Option Move) (P Q : ShapedMove → Type 0)
    → ((s : Shape) (k m : Move) → P (shaped s k) → rule k ≡ Some m → Q (shaped (variant s) m)) → (o : Option (List ShapedMove)) → EachOf P o
    → EachOf Q (each_below variant rule o)
each_taken variant rule P Q h o w = EachOf-filter_map (below variant rule) P Q taken o w
  where
    taken : (x y : ShapedMove) → P x → below variant rule x ≡ Some y → Q y
    taken x y p e =
        let from : _ = mapped (λ (m : Move). shaped (variant x.shape) m) (rule x.move) e in
        subst Q from.2 (h x.shape x.move from.0 p from.1)

pub EachOf-weaker : (P Q : ShapedMove → Type 0) → ((x : ShapedMove) → P x → Q x) → (o : Option (List ShapedMove)) → EachOf P o → EachOf Q o
EachOf-weaker P Q h None w = tt
EachOf-weaker P Q h (Some xs) w = Every-weaker P Q h xs w

module _ (setting : Setting) (leaves : Substitution) where
  -- The shape has this move.
  abbrev IsMove : ℕ → Behaviour → ShapedMove → Type 0
  IsMove n b x = move_of setting leaves x.shape n b ≡ Some x.move

  both_sound : (next : ℕ) (meet : SynchronisationSet) (b c : Behaviour) (rights : ℕ → Option (List ShapedMove))
      → ((n : ℕ) → EachOf (IsMove n c) (rights n)) → (lefts : List ShapedMove) → Every (IsMove next b) lefts
      → EachOf (IsMove next (parallel meet b c)) (both_below setting.signature meet next rights lefts)
  both_sound next meet b c rights h [] w = tt
  both_sound next meet b c rights h (x ∷ lefts) w =
      EachOf-one_behind (IsMove next (parallel meet b c))
      (each_below (both_sides x.shape) (together setting.signature meet x.move) (rights (next + length x.move.sorts)))
      (both_below setting.signature meet next rights lefts)
      (each_taken (both_sides x.shape) (together setting.signature meet x.move) (IsMove (next + length x.move.sorts) c)
      (IsMove next (parallel meet b c))
      (λ t k m p e.
      ap (option_and_then (λ (n : Move). option_and_then (together setting.signature meet n)
      (move_of setting leaves t (next + length n.sorts) c))) w.0
      ∙ ap (option_and_then (together setting.signature meet x.move)) p
      ∙ e)
      (rights (next + length x.move.sorts)) (h (next + length x.move.sorts)))
      (both_sound next meet b c rights h lefts w.1)

  both_sound_list : (next : ℕ) (meet : SynchronisationSet) (b c : Behaviour) (rights : ℕ → Option (List ShapedMove))
      → ((n : ℕ) → EachOf (IsMove n c) (rights n)) → (o : Option (List ShapedMove)) → EachOf (IsMove next b) o
      → EachOf (IsMove next (parallel meet b c)) (option_and_then (both_below setting.signature meet next rights) o)
  both_sound_list next meet b c rights h None w = tt
  both_sound_list next meet b c rights h (Some lefts) w = both_sound next meet b c rights h lefts w

  enable_sound : (next : ℕ) (b c : Behaviour) (variables : List Variable) (x y : ShapedMove) → IsMove next b x
      → below_enable setting.signature variables c x ≡ Some y → IsMove next (enable b variables c) y
  enable_sound next b c variables x y p e = by_end (is_exit x.move.label) e
    where
      by_end : (t : Bool) → (if t then below enabled (λ k. enabling setting.signature variables c k k.label) x else below passed
          (passing variables c) x) ≡ Some y → IsMove next (enable b variables c) y
      by_end true e =
          let from : _ = mapped (λ (m : Move). shaped (enabled x.shape) m) (enabling setting.signature variables c x.move x.move.label) e in
          subst (IsMove next (enable b variables c)) from.2 (ap
          (option_and_then (λ (k : Move). enabling setting.signature variables c k k.label)) p ∙ from.1)
      by_end false e =
          let from : _ = mapped (λ (m : Move). shaped (passed x.shape) m) (passing variables c x.move) e in
          subst (IsMove next (enable b variables c)) from.2 (ap (option_and_then (passing variables c)) p ∙ from.1)

  gates_sound : (next g : ℕ) (all : List ℕ) (b : Behaviour) (j : ℕ) (gates : List ℕ) (o : Option (List ShapedMove))
      → ((i k a : ℕ) → j + i ≡ k → slice_get gates i ≡ Some a → slice_get all k ≡ Some a) → EachOf (IsMove next b) o
      → EachOf (IsMove next (choose_gate g all b)) (at_gates_below g j gates o)
  gates_sound next g all b j [] o h w = tt
  gates_sound next g all b j (a ∷ gates) o h w =
      EachOf-one_behind (IsMove next (choose_gate g all b))
      (each_below (at_gate j) (λ (m : Move). Some (relabelling ((g, a) ∷ []) m)) o)
      (at_gates_below g (suc j) gates o)
      (each_taken (at_gate j) (λ (m : Move). Some (relabelling ((g, a) ∷ []) m)) (IsMove next b) (IsMove next (choose_gate g all b))
      (λ s k m p e.
      ap (option_and_then (λ (c : ℕ). option_map (relabelling ((g, c) ∷ [])) (move_of setting leaves s next b)))
      (h 0 j a (omega arith) refl)
      ∙ ap (option_map (relabelling ((g, a) ∷ []))) p
      ∙ e)
      o w)
      (gates_sound next g all b (suc j) gates o (λ i k c same at. h (suc i) k c (omega arith) at) w)

  module _ (next : ℕ) (parts : Parts) (are_moves : (n : ℕ) (b : Behaviour) → EachOf (IsMove n b) (parts n b)) where
    called_sound : (number : ℕ) (gates : List ℕ) (arguments : List Term) (o : Option Process) → slice_get setting.processes number ≡ o
        → EachOf (IsMove next (call number gates arguments)) (called_below setting next parts gates arguments o)
    called_sound number gates arguments None at = tt
    called_sound number gates arguments (Some process) at =
        let inside : Behaviour = with_values (binding_of process.parameters (map setting.represent arguments)) process.body in
        each_taken called (λ m. Some (relabelling (zip process.gates gates) m)) (IsMove next inside)
        (IsMove next (call number gates arguments))
        (λ s k m p e.
        ap (option_and_then (λ (q : Process). option_map (relabelling (zip q.gates gates))
        (move_of setting leaves s next (with_values (binding_of q.parameters (map setting.represent arguments)) q.body)))) at
        ∙ ap (option_map (relabelling (zip process.gates gates))) p
        ∙ e)
        (parts next inside) (are_moves next inside)

    sound_form : (c : Behaviour) → EachOf (IsMove next c) (moves_by_form setting leaves next parts c)
    sound_form stop = tt
    sound_form (exit_with results) = (refl, tt)
    sound_form (action g offers test b) = (refl, tt)
    sound_form (inner_action b) = (refl, tt)
    sound_form (guard test b) =
        each_taken guarded (λ m. Some (asking test m)) (IsMove next b) (IsMove next (guard test b))
        (λ s k m p e. ap (option_map (asking test)) p ∙ e) (parts next b) (are_moves next b)
    sound_form (choice b c) =
        EachOf-one_behind (IsMove next (choice b c)) (each_below left_side (λ m. Some m) (parts next b))
        (each_below right_side (λ m. Some m) (parts next c))
        (each_taken left_side (λ m. Some m) (IsMove next b) (IsMove next (choice b c)) (λ s k m p e. p ∙ e) (parts next b)
        (are_moves next b))
        (each_taken right_side (λ m. Some m) (IsMove next c) (IsMove next (choice b c)) (λ s k m p e. p ∙ e) (parts next c)
        (are_moves next c))
    sound_form (parallel meet b c) =
        EachOf-one_behind (IsMove next (parallel meet b c))
        (each_below left_side (alone meet (λ target. parallel meet target c)) (parts next b))
        (one_behind (each_below right_side (alone meet (λ target. parallel meet b target)) (parts next c))
        (option_and_then (both_below setting.signature meet next (λ n. parts n c)) (parts next b)))
        (each_taken left_side (alone meet (λ target. parallel meet target c)) (IsMove next b) (IsMove next (parallel meet b c))
        (λ s k m p e. ap (option_and_then (alone meet (λ target. parallel meet target c))) p ∙ e) (parts next b) (are_moves next b))
        (EachOf-one_behind (IsMove next (parallel meet b c))
        (each_below right_side (alone meet (λ target. parallel meet b target)) (parts next c))
        (option_and_then (both_below setting.signature meet next (λ n. parts n c)) (parts next b))
        (each_taken right_side (alone meet (λ target. parallel meet b target)) (IsMove next c) (IsMove next (parallel meet b c))
        (λ s k m p e. ap (option_and_then (alone meet (λ target. parallel meet b target))) p ∙ e) (parts next c) (are_moves next c))
        (both_sound_list next meet b c (λ n. parts n c) (λ n. are_moves n c) (parts next b) (are_moves next b)))
    sound_form (hide gates b) =
        each_taken hidden (λ m. Some (hiding gates m)) (IsMove next b) (IsMove next (hide gates b))
        (λ s k m p e. ap (option_map (hiding gates)) p ∙ e) (parts next b) (are_moves next b)
    sound_form (enable b variables c) =
        EachOf-filter_map (below_enable setting.signature variables c) (IsMove next b) (IsMove next (enable b variables c))
        (λ x y p e. enable_sound next b c variables x y p e) (parts next b) (are_moves next b)
    sound_form (disable b c) =
        EachOf-one_behind (IsMove next (disable b c)) (each_below left_side (λ m. Some (disabling c m)) (parts next b))
        (each_below right_side (λ m. Some m) (parts next c))
        (each_taken left_side (λ m. Some (disabling c m)) (IsMove next b) (IsMove next (disable b c))
        (λ s k m p e. ap (option_map (disabling c)) p ∙ e) (parts next b) (are_moves next b))
        (each_taken right_side (λ m. Some m) (IsMove next c) (IsMove next (disable b c)) (λ s k m p e. p ∙ e) (parts next c)
        (are_moves next c))
    sound_form (let_be bindings b) =
        let inside : Behaviour = with_values (binding_of (let_variables bindings) (map setting.represent (let_terms bindings))) b in
        each_taken let_bound (λ m. Some m) (IsMove next inside) (IsMove next (let_be bindings b)) (λ s k m p e. p ∙ e) (parts next inside)
        (are_moves next inside)
    sound_form (choose_value x b) =
        let inside : Behaviour = with_values (binding_of (x ∷ []) (setting.represent (leaves next x.sort) ∷ [])) b in
        each_taken with_value (λ m. Some (after_leaf x.sort m)) (IsMove (suc next) inside) (IsMove next (choose_value x b))
        (λ s k m p e. ap (option_map (after_leaf x.sort)) p ∙ e) (parts (suc next) inside) (are_moves (suc next) inside)
    sound_form (choose_gate g gates b) =
        gates_sound next g gates b 0 gates (parts next b) (λ i k a same at. subst (λ (p : ℕ). slice_get gates p ≡ Some a) (omega arith) at)
        (are_moves next b)
    sound_form (par_gate g gates meet b) = tt
    sound_form (call number gates arguments) = called_sound number gates arguments (slice_get setting.processes number) refl
    sound_form (relabel pairs b) =
        each_taken relabelled (λ m. Some (relabelling pairs m)) (IsMove next b) (IsMove next (relabel pairs b))
        (λ s k m p e. ap (option_map (relabelling pairs)) p ∙ e) (parts next b) (are_moves next b)

  pub are_moves : (depth next : ℕ) (b : Behaviour) → EachOf (IsMove next b) (listed_moves setting leaves depth next b)
  are_moves zero next b = tt
  are_moves (suc depth) next (par_gate g gates meet b) =
      EachOf-weaker (IsMove next (copies g gates meet b)) (IsMove next (par_gate g gates meet b))
      (λ x e. sym (move_of-copies setting leaves x.shape next g gates meet b) ∙ e)
      (moves_by_form setting leaves next (listed_moves setting leaves depth) (copies g gates meet b))
      (sound_form next (listed_moves setting leaves depth) (are_moves depth) (copies g gates meet b))
  are_moves (suc depth) next stop = sound_form next (listed_moves setting leaves depth) (are_moves depth) stop
  are_moves (suc depth) next (exit_with results) = sound_form next (listed_moves setting leaves depth) (are_moves depth) (exit_with results)
  are_moves (suc depth) next (action g offers test b) = sound_form next (listed_moves setting leaves depth) (are_moves depth)
      (action g offers test b)
  are_moves (suc depth) next (inner_action b) = sound_form next (listed_moves setting leaves depth) (are_moves depth) (inner_action b)
  are_moves (suc depth) next (guard test b) = sound_form next (listed_moves setting leaves depth) (are_moves depth) (guard test b)
  are_moves (suc depth) next (choice b c) = sound_form next (listed_moves setting leaves depth) (are_moves depth) (choice b c)
  are_moves (suc depth) next (parallel meet b c) = sound_form next (listed_moves setting leaves depth) (are_moves depth) (parallel meet b c)
  are_moves (suc depth) next (hide gates b) = sound_form next (listed_moves setting leaves depth) (are_moves depth) (hide gates b)
  are_moves (suc depth) next (enable b variables c) = sound_form next (listed_moves setting leaves depth) (are_moves depth)
      (enable b variables c)
  are_moves (suc depth) next (disable b c) = sound_form next (listed_moves setting leaves depth) (are_moves depth) (disable b c)
  are_moves (suc depth) next (let_be bindings b) = sound_form next (listed_moves setting leaves depth) (are_moves depth) (let_be bindings b)
  are_moves (suc depth) next (choose_value x b) = sound_form next (listed_moves setting leaves depth) (are_moves depth) (choose_value x b)
  are_moves (suc depth) next (choose_gate g gates b) = sound_form next (listed_moves setting leaves depth) (are_moves depth)
      (choose_gate g gates b)
  are_moves (suc depth) next (call number gates arguments) =
      sound_form next (listed_moves setting leaves depth) (are_moves depth) (call number gates arguments)
  are_moves (suc depth) next (relabel pairs b) = sound_form next (listed_moves setting leaves depth) (are_moves depth) (relabel pairs b)
