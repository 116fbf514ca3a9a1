use Rattle.std.proofs.Common.{◌≡◌, ℕ, zero, suc, List, [], ◌∷◌, map, Option, None, Some, option_map, refl, ap, subst}
use Rattle.std.specs.Prelude.{slice_get}
use Rattle.lotos_base.specs.Substitution.{Substitution}
use Rattle.behaviour_semantics.specs.Behaviour.{stop, Process}
use Rattle.behaviour_semantics.specs.Shape.{left_side, right_side, called}
use Rattle.behaviour_semantics.specs.Move.{relabelling}
use Rattle.behaviour_semantics.specs.Draft.{draft_by, first_apart, leaves_from}
use Rattle.behaviour_semantics.specs.Listing.{ShapedMove, each_below, one_behind, listed_moves}
use Rattle.behaviour_semantics.specs.Solving.{settled}
use Rattle.behaviour_semantics.specs.Guardedness.{HasEdge, IsCycle, unguarded_calls}
use Rattle.worked_cases.specs.OrderCases.{again, at_once, after_an_action, after_enabling}
use Rattle.worked_cases.specs.BehaviourSamples.{sample_signature, sample_canon, gate_a, event}
use Rattle.worked_cases.proofs.ShownMenus.{menu}
use Rattle.behaviour_semantics.proofs.OptionLemmas.{some_value}
use Rattle.worked_cases.proofs.cases.calls_are_guarded_by_actions.Goals as goal

-- no call of a body without unguarded calls
none_called : (p : Process) (process : Process) (k to : ℕ) → unguarded_calls p.body ≡ [] → p ≡ process
    → slice_get (unguarded_calls process.body) k ≡ Some to → ⊥
none_called p process k to none same e =
    let empty : unguarded_calls process.body ≡ [] = subst (λ (q : Process). unguarded_calls q.body ≡ []) same none in
    absurd (cc (subst (λ (calls : List ℕ). slice_get calls k ≡ Some to) empty e))

no_edge : (from to : ℕ) → HasEdge (after_an_action ∷ after_enabling ∷ []) from to → ⊥
no_edge zero to (process, at, (k, e)) = none_called after_an_action process k to refl (some_value at) e
no_edge (suc zero) to (process, at, (k, e)) = none_called after_enabling process k to refl (some_value at) e
no_edge (suc (suc from)) to (process, at, (k, e)) = absurd (cc at)

no_cycle : (from : ℕ) (walk : List ℕ) → IsCycle (after_an_action ∷ after_enabling ∷ []) from walk → ⊥
no_cycle from [] h = h
no_cycle from (to ∷ rest) h = no_edge from to h.0.0

-- The list of a process that calls itself at once waits for itself.
abbrev left_list : Option (List ShapedMove) → Option (List ShapedMove)
left_list o = each_below left_side (λ m. Some m) o

no_list : (leaves : Substitution) (depth next : ℕ) → listed_moves (record {
  signature = sample_signature;
  represent = sample_canon;
  processes = at_once ∷ [];
}) leaves depth next again ≡ None
no_list leaves zero next = refl
no_list leaves (suc zero) next = refl
no_list leaves (suc (suc depth)) next =
    ap (λ (o : Option (List ShapedMove)). each_below called (λ m. Some (relabelling [] m))
    (one_behind (left_list o) (each_below right_side (λ m. Some m)
    (listed_moves (record { signature = sample_signature; represent = sample_canon; processes = at_once ∷ [] }) leaves depth next
    (event gate_a stop)))))
    (no_list leaves depth next)

pub returns : goal.returns
returns c = record {
  unguarded = refl;
  cycle = (((at_once, refl, (0, refl)), tt), refl);
  below = refl;
  below_inner = refl;
  behind = refl;
  on_the_left = refl;
  guarded = no_cycle;
  menu = menu _ _ 9 _ refl refl refl (settled _ refl refl, tt);
  no_list = λ depth. ap (option_map (map (λ (x : ShapedMove). draft_by x.shape (first_apart (at_once ∷ []) again) x.move)))
      (no_list (leaves_from (first_apart (at_once ∷ []) again)) depth 0);
}
