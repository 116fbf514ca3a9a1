use Rattle.std.proofs.Common.{◌≡◌, ℕ, zero, suc, [], ◌∷◌, Some, refl, sym, ◌∙◌, subst, arith}
use Rattle.std.specs.Prelude.{slice_get}
use Rattle.behaviour_semantics.specs.Behaviour.{Process}
use Rattle.behaviour_semantics.specs.Guardedness.{unguarded_calls, HasEdge, IsGuarded}
use Rattle.behaviour_semantics.proofs.OptionLemmas.{some_value}
use Rattle.worked_cases.specs.OrderCases.{first_process_of_two, second_of_two}
use Rattle.worked_cases.proofs.cases.edges_need_not_make_a_cycle.Goals as goal

-- The first process calls the second one, and the second calls none.
called_from_first : (process : Process) (k to : ℕ) → first_process_of_two ≡ process
    → slice_get (unguarded_calls process.body) k ≡ Some to → to ≡ 1
called_from_first process zero to same e = sym (some_value
    (subst (λ (q : Process). slice_get (unguarded_calls q.body) 0 ≡ Some to) (sym same) e))
called_from_first process (suc k) to same e =
    let h : slice_get (unguarded_calls first_process_of_two.body) (suc k) ≡ Some to =
    subst (λ (q : Process). slice_get (unguarded_calls q.body) (suc k) ≡ Some to) (sym same) e in
    absurd (cc h)

called_from_second : (process : Process) (k to : ℕ) → second_of_two ≡ process → slice_get (unguarded_calls process.body) k ≡ Some to → ⊥
called_from_second process k to same e =
    let h : slice_get (unguarded_calls second_of_two.body) k ≡ Some to =
    subst (λ (q : Process). slice_get (unguarded_calls q.body) k ≡ Some to) (sym same) e in
    absurd (cc h)

nought_not_one : (n m : ℕ) → n ≡ 0 → m ≡ 1 → n ≡ m → ⊥
nought_not_one n m zeroth first e = omega arith

no_edge_from_one : (from to : ℕ) → from ≡ 1 → HasEdge (first_process_of_two ∷ second_of_two ∷ []) from to → ⊥
no_edge_from_one zero to e h = nought_not_one 0 1 refl refl e
no_edge_from_one (suc zero) to e (process, at, (k, h)) = called_from_second process k to (some_value at) h
no_edge_from_one (suc (suc from)) to e (process, at, (k, h)) = absurd (cc at)

to_one : (from to : ℕ) → HasEdge (first_process_of_two ∷ second_of_two ∷ []) from to → to ≡ 1
to_one zero to (process, at, (k, h)) = called_from_first process k to (some_value at) h
to_one (suc zero) to (process, at, (k, h)) = absurd (called_from_second process k to (some_value at) h)
to_one (suc (suc from)) to (process, at, (k, h)) = absurd (cc at)

no_cycle : IsGuarded (first_process_of_two ∷ second_of_two ∷ [])
no_cycle from [] h = h
no_cycle from (to ∷ []) h = no_edge_from_one from to (sym h.1 ∙ to_one from to h.0.0) h.0.0
no_cycle from (to ∷ next ∷ rest) h = no_edge_from_one to next (to_one from to h.0.0) h.0.1.0

pub returns : goal.returns
returns c = record {
  edge = (first_process_of_two, refl, (0, refl));
  guarded = no_cycle;
  in_text_order = refl;
}
