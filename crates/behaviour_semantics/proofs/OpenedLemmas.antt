-- A gate `par` has the moves of its copies.
use Rattle.std.proofs.Common.{◌≡◌, ℕ, suc, List, [], ◌∷◌, refl, ap}
use Rattle.lotos_base.specs.Substitution.{Substitution}
use Rattle.behaviour_semantics.specs.Behaviour.{Behaviour, par_gate, relabel, SynchronisationSet, Relabelling}
use Rattle.behaviour_semantics.specs.Label.{under}
use Rattle.behaviour_semantics.specs.Rule.{copies}
use Rattle.behaviour_semantics.specs.Shape.{Shape, act, quit, inner_step, guarded, left_side, right_side, both_sides, hidden, enabled, passed, let_bound, with_value, at_gate, called, relabelled}
use Rattle.behaviour_semantics.specs.Move.{Setting, opened, move_of, act_move, quit_move, inner_move, guarded_move, left_move, right_move, both_move, hidden_move, enabled_move, passed_move, let_move, value_move, gate_move, called_move, relabelled_move}

pub opened-under : (b : Behaviour) (pairs : Relabelling) → opened (under b pairs) ≡ under b pairs
opened-under (relabel inner b) pairs = refl
opened-under _ pairs = refl

pub opened-copies : (g : ℕ) (gates : List ℕ) (meet : SynchronisationSet) (b : Behaviour)
    → opened (copies g gates meet b) ≡ copies g gates meet b
opened-copies g [] meet b = refl
opened-copies g (a ∷ []) meet b = opened-under b ((g, a) ∷ [])
opened-copies g (a ∷ a' ∷ gates) meet b = refl

module _ (setting : Setting) (leaves : Substitution) where
  pub move_of-copies : (s : Shape) (next g : ℕ) (gates : List ℕ) (meet : SynchronisationSet) (b : Behaviour)
      → move_of setting leaves s next (copies g gates meet b) ≡ move_of setting leaves s next (par_gate g gates meet b)
  move_of-copies act next g gates meet b = ap (act_move setting leaves next) (opened-copies g gates meet b)
  move_of-copies quit next g gates meet b = ap (quit_move setting leaves next) (opened-copies g gates meet b)
  move_of-copies inner_step next g gates meet b = ap inner_move (opened-copies g gates meet b)
  move_of-copies (guarded s) next g gates meet b = ap (guarded_move (move_of setting leaves s next)) (opened-copies g gates meet b)
  move_of-copies (left_side s) next g gates meet b = ap (left_move (move_of setting leaves s next)) (opened-copies g gates meet b)
  move_of-copies (right_side s) next g gates meet b = ap (right_move (move_of setting leaves s next)) (opened-copies g gates meet b)
  move_of-copies (both_sides s t) next g gates meet b = ap
      (both_move setting next (move_of setting leaves s next) (move_of setting leaves t)) (opened-copies g gates meet b)
  move_of-copies (hidden s) next g gates meet b = ap (hidden_move (move_of setting leaves s next)) (opened-copies g gates meet b)
  move_of-copies (enabled s) next g gates meet b = ap (enabled_move setting (move_of setting leaves s next)) (opened-copies g gates meet b)
  move_of-copies (passed s) next g gates meet b = ap (passed_move (move_of setting leaves s next)) (opened-copies g gates meet b)
  move_of-copies (let_bound s) next g gates meet b = ap (let_move setting (move_of setting leaves s next)) (opened-copies g gates meet b)
  move_of-copies (with_value s) next g gates meet b = ap (value_move setting leaves next (move_of setting leaves s (suc next)))
      (opened-copies g gates meet b)
  move_of-copies (at_gate k s) next g gates meet b = ap (gate_move k (move_of setting leaves s next)) (opened-copies g gates meet b)
  move_of-copies (called s) next g gates meet b = ap (called_move setting (move_of setting leaves s next)) (opened-copies g gates meet b)
  move_of-copies (relabelled s) next g gates meet b = ap (relabelled_move (move_of setting leaves s next)) (opened-copies g gates meet b)
