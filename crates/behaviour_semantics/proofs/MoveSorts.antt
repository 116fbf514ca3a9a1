-- The sorts that the leaves of a move have are sorts of the signature.
use Rattle.std.proofs.Common.{◌≡◌, ℕ, suc, ◌+◌, List, [], ◌∷◌, ◌++◌, length, map, zip, slice_get, Option, None, Some, option_map, option_and_then, refl, ap, sym, ◌∙◌, subst}
use Rattle.lotos_base.proofs.Options.{mapped, chained}
use Rattle.lotos_base.specs.Signature.{IsSort}
use Rattle.lotos_base.specs.Equation.{Data, Variable}
use Rattle.behaviour_semantics.specs.Behaviour.{Behaviour, parallel, enable, SynchronisationSet, Process, ExitValue, sorts_of, let_variables, let_terms}
use Rattle.behaviour_semantics.specs.Label.{Label, exit_event}
use Rattle.behaviour_semantics.specs.Replacement.{with_values, binding_of}
use Rattle.behaviour_semantics.specs.Rule.{moves_alone, move_together, label_values, pairwise, have_sorts, is_exit}
use Rattle.behaviour_semantics.specs.Shape.{Shape, act, quit, inner_step, guarded, left_side, right_side, both_sides, hidden, enabled, passed, let_bound, with_value, at_gate, called, relabelled}
use Rattle.behaviour_semantics.specs.Move.{Move, move_of, alone, together, passing, enabling, disabling, hiding, asking, relabelling, after_leaf, act_move, quit_move, inner_move, guarded_move, left_move, right_move, both_move, hidden_move, enabled_move, passed_move, let_move, value_move, gate_move, called_move, relabelled_move}
use Rattle.behaviour_semantics.specs.WellFormed.{Every}
use Rattle.behaviour_semantics.proofs.ListLemmas.{Every-append}
use Rattle.behaviour_semantics.proofs.OptionLemmas.{some_value, tested, tested_not}
use Rattle.behaviour_semantics.proofs.RelatedTerms.{Side, Related, IsRepresenting, represented, Puts, Binders, none_related, one_related, bindings_put}
use Rattle.behaviour_semantics.proofs.RelatedBehaviours.{RelatedResults, no_results, both_values, both_any, Beside, both_exit_with, both_action, both_inner, both_guard, both_choice, both_parallel, both_hide, both_enable, both_disable, both_let, both_choose_value, both_choose_gate, both_call, both_relabel, put_beside, asked-left, open-left, opened_beside}
use Rattle.behaviour_semantics.proofs.RelatedMoves.{setting_of, represented_related}

module _ (data_ : Data) (base : ℕ) (processes : List Process) (x : Side) (represent : IsRepresenting data_ x.represent)
    (supply : (next s : ℕ) → IsSort data_.signature s → Related data_ base x x [] s (x.leaves next s) (x.leaves next s)) where
  abbrev pub AreSorts : List ℕ → Type 0
  AreSorts sorts = Every (IsSort data_.signature) sorts

  binder_sorts : (variables : List Variable) → Binders data_ base variables → AreSorts (sorts_of variables)
  binder_sorts [] h = tt
  binder_sorts (z ∷ variables) h = (h.0.1, binder_sorts variables h.1)

  result_sorts : {sorts : List ℕ} {results others : List ExitValue} → RelatedResults data_ base x x [] sorts results others → AreSorts sorts
  result_sorts no_results = tt
  result_sorts (both_values r rest) = result_sorts rest
  result_sorts (both_any s is_sort rest) = (is_sort, result_sorts rest)

  abbrev Sorted : (Behaviour → Option Move) → Type 0
  Sorted moves = (b c : Behaviour) → Beside data_ base processes x x [] b c → (m : Move) → moves b ≡ Some m → AreSorts m.sorts

  -- a mapped and a chained move, whose sorts stay
  by_map : (f : Move → Move) → ((m : Move) → (f m).sorts ≡ m.sorts) → (o : Option Move) → ((m : Move) → o ≡ Some m → AreSorts m.sorts)
      → (m : Move) → option_map f o ≡ Some m → AreSorts m.sorts
  by_map f same o h m e =
      let from : (k : Move) × (o ≡ Some k) × (f k ≡ m) = mapped f o e in
      subst AreSorts (sym (same from.0) ∙ ap (λ (k : Move). k.sorts) from.2) (h from.0 from.1)

  by_chain : (f : Move → Option Move) → ((m k : Move) → f m ≡ Some k → k.sorts ≡ m.sorts) → (o : Option Move)
      → ((m : Move) → o ≡ Some m → AreSorts m.sorts) → (m : Move) → option_and_then f o ≡ Some m → AreSorts m.sorts
  by_chain f same o h m e =
      let from : (k : Move) × (o ≡ Some k) × (f k ≡ Some m) = chained f o e in
      subst AreSorts (sym (same from.0 m from.2)) (h from.0 from.1)

  alone_sorts : (meet : SynchronisationSet) (beside : Behaviour → Behaviour) (m k : Move) → alone meet beside m ≡ Some k → k.sorts ≡ m.sorts
  alone_sorts meet beside m k e = ap (λ (z : Move). z.sorts)
      (sym (tested (moves_alone meet m.label) (record m { target = beside m.target }) e).1)

  enabling_sorts : (variables : List Variable) (d : Behaviour) (m k : Move) (label : Label)
      → enabling data_.signature variables d m label ≡ Some k → k.sorts ≡ m.sorts
  enabling_sorts variables d m k (exit_event ts) e = ap (λ (z : Move). z.sorts)
      (sym (tested (have_sorts data_.signature ts (sorts_of variables)) _ e).1)
  enabling_sorts variables d m k _ e = absurd (cc e)

  act_sorts : (next : ℕ) → Sorted (act_move (setting_of data_ base processes x) x.leaves next)
  act_sorts next b c (both_action {variables = variables} r binders tests rest) m e =
      subst AreSorts (ap sorts_of (sym (asked-left data_ base r)) ∙ ap (λ (k : Move). k.sorts) (some_value e))
      (binder_sorts variables binders)
  act_sorts next b c _ m e = absurd (cc e)

  quit_sorts : (next : ℕ) → Sorted (quit_move (setting_of data_ base processes x) x.leaves next)
  quit_sorts next b c (both_exit_with r) m e = subst AreSorts (sym (open-left data_ base r) ∙ ap (λ (k : Move). k.sorts) (some_value e))
      (result_sorts r)
  quit_sorts next b c _ m e = absurd (cc e)

  inner_sorts : Sorted inner_move
  inner_sorts b c (both_inner r) m e = subst AreSorts (ap (λ (k : Move). k.sorts) (some_value e)) tt
  inner_sorts b c _ m e = absurd (cc e)

  guarded_sorts : (moves : Behaviour → Option Move) → Sorted moves → Sorted (guarded_move moves)
  guarded_sorts moves all b c (both_guard {test = test} {b = d} r q) m e = by_map (asking test) (λ k. refl) (moves d) (all d _ q) m e
  guarded_sorts moves all b c _ m e = absurd (cc e)

  left_sorts : (moves : Behaviour → Option Move) → Sorted moves → Sorted (left_move moves)
  left_sorts moves all b c (both_choice r q) m e = all _ _ r m e
  left_sorts moves all b c (both_parallel {meet = meet} {b = f} {d = d} r q) m e =
      by_chain (alone meet (λ target. parallel meet target d)) (alone_sorts meet (λ target. parallel meet target d)) (moves f) (all f _ r) m
      e
  left_sorts moves all b c (both_disable {b = f} {d = d} r q) m e = by_map (disabling d) (λ k. refl) (moves f) (all f _ r) m e
  left_sorts moves all b c _ m e = absurd (cc e)

  right_sorts : (moves : Behaviour → Option Move) → Sorted moves → Sorted (right_move moves)
  right_sorts moves all b c (both_choice r q) m e = all _ _ q m e
  right_sorts moves all b c (both_parallel {meet = meet} {b = f} {d = d} r q) m e =
      by_chain (alone meet (λ target. parallel meet f target)) (alone_sorts meet (λ target. parallel meet f target)) (moves d) (all d _ q) m
      e
  right_sorts moves all b c (both_disable r q) m e = all _ _ q m e
  right_sorts moves all b c _ m e = absurd (cc e)

  both_sorts : (next : ℕ) (moves : Behaviour → Option Move) → Sorted moves → (others : ℕ → Behaviour → Option Move)
      → ((n : ℕ) → Sorted (others n)) → Sorted (both_move (setting_of data_ base processes x) next moves others)
  both_sorts next moves all others all' b c (both_parallel {meet = meet} {b = f} {d = d} r q) m e =
      let from : (k : Move) × (moves f ≡ Some k) × (option_and_then (together data_.signature meet k) (others (next + length k.sorts) d)
      ≡ Some m) =
      chained (λ (k : Move). option_and_then (together data_.signature meet k) (others (next + length k.sorts) d)) (moves f) e in
      let from' : (l : Move) × (others (next + length from.0.sorts) d ≡ Some l)
      × (together data_.signature meet from.0 l ≡ Some m) =
      chained (together data_.signature meet from.0) (others (next + length from.0.sorts) d) from.2 in
      let made : _ × _ = tested (move_together data_.signature meet from.0.label from'.0.label)
      (record {
        label = from.0.label;
        target = parallel meet from.0.target from'.0.target;
        asked = from.0.asked ++ from'.0.asked ++ pairwise (label_values from.0.label) (label_values from'.0.label);
        sorts = from.0.sorts ++ from'.0.sorts;
      }) from'.2 in
      subst AreSorts (ap (λ (k : Move). k.sorts) made.1)
      (Every-append (IsSort data_.signature) from.0.sorts from'.0.sorts (all f _ r from.0 from.1)
      (all' (next + length from.0.sorts) d _ q from'.0 from'.1))
  both_sorts next moves all others all' b c _ m e = absurd (cc e)

  hidden_sorts : (moves : Behaviour → Option Move) → Sorted moves → Sorted (hidden_move moves)
  hidden_sorts moves all b c (both_hide {gates = gates} {b = f} r) m e = by_map (hiding gates) (λ k. refl) (moves f) (all f _ r) m e
  hidden_sorts moves all b c _ m e = absurd (cc e)

  enabled_sorts : (moves : Behaviour → Option Move) → Sorted moves → Sorted (enabled_move (setting_of data_ base processes x) moves)
  enabled_sorts moves all b c (both_enable {variables = variables} {b = f} {d = d} r binders q) m e =
      by_chain (λ (k : Move). enabling data_.signature variables d k k.label) (λ k l e'. enabling_sorts variables d k l k.label e')
      (moves f) (all f _ r) m e
  enabled_sorts moves all b c _ m e = absurd (cc e)

  passed_sorts : (moves : Behaviour → Option Move) → Sorted moves → Sorted (passed_move moves)
  passed_sorts moves all b c (both_enable {variables = variables} {b = f} {d = d} r binders q) m e =
      by_chain (passing variables d) (λ k l e'. ap (λ (z : Move). z.sorts)
      (sym (tested_not (is_exit k.label) (record k { target = enable k.target variables d }) e').1)) (moves f) (all f _ r) m e
  passed_sorts moves all b c _ m e = absurd (cc e)

  let_sorts : (moves : Behaviour → Option Move) → Sorted moves → Sorted (let_move (setting_of data_ base processes x) moves)
  let_sorts moves all b c (both_let variables {bindings = bindings} {others = bindings'} {b = f} {c = d} e e' binders terms rest) m e'' =
      let put : Puts data_ base x x (variables ++ []) [] (binding_of variables (map x.represent (let_terms bindings)))
      (binding_of variables (map x.represent (let_terms bindings'))) =
      bindings_put data_ base variables _ _ binders (represented_related data_ base processes x x represent represent terms) in
      let inside : Beside data_ base processes x x [] (with_values (binding_of (let_variables bindings)
      (map x.represent (let_terms bindings))) f) (with_values
      (binding_of (let_variables bindings') (map x.represent (let_terms bindings'))) d) =
      rw (e, e') (put_beside data_ base processes put rest) in
      all _ _ inside m e''
  let_sorts moves all b c _ m e = absurd (cc e)

  value_sorts : (next : ℕ) (moves : Behaviour → Option Move) → Sorted moves
      → Sorted (value_move (setting_of data_ base processes x) x.leaves next moves)
  value_sorts next moves all b c (both_choose_value {z = z} {b = f} {c = d} binders rest) m e =
      let inside : Behaviour = with_values (binding_of (z ∷ []) (x.represent (x.leaves next z.sort) ∷ [])) f in
      let from : (k : Move) × (moves inside ≡ Some k) × (after_leaf z.sort k ≡ m) = mapped (after_leaf z.sort) (moves inside) e in
      let put : Puts data_ base x x (z ∷ []) [] (binding_of (z ∷ []) (x.represent (x.leaves next z.sort) ∷ []))
      (binding_of (z ∷ []) (x.represent (x.leaves next z.sort) ∷ [])) =
      bindings_put data_ base (z ∷ []) _ _ binders (one_related (represented data_ base represent represent
      (supply next z.sort binders.0.1)) none_related) in
      subst AreSorts (ap (λ (k : Move). k.sorts) from.2) (binders.0.1, all _ _ (put_beside data_ base processes put rest) from.0 from.1)
  value_sorts next moves all b c _ m e = absurd (cc e)

  gate_at_sorts : (g : ℕ) (a : Option ℕ) (o : Option Move) → ((m : Move) → o ≡ Some m → AreSorts m.sorts) → (m : Move)
      → option_and_then (λ (a : ℕ). option_map (relabelling ((g, a) ∷ [])) o) a ≡ Some m → AreSorts m.sorts
  gate_at_sorts g None o h m e = absurd (cc e)
  gate_at_sorts g (Some a) o h m e = by_map (relabelling ((g, a) ∷ [])) (λ k. refl) o h m e

  gate_sorts : (k : ℕ) (moves : Behaviour → Option Move) → Sorted moves → Sorted (gate_move k moves)
  gate_sorts k moves all b c (both_choose_gate {g = g} {gates = gates} {b = f} r) m e =
      gate_at_sorts g (slice_get gates k) (moves f) (all f _ r) m e
  gate_sorts k moves all b c _ m e = absurd (cc e)

  relabelled_sorts : (moves : Behaviour → Option Move) → Sorted moves → Sorted (relabelled_move moves)
  relabelled_sorts moves all b c (both_relabel {pairs = pairs} {b = f} r) m e =
      by_map (relabelling pairs) (λ k. refl) (moves f) (all f _ r) m e
  relabelled_sorts moves all b c _ m e = absurd (cc e)

  module _ (bodies : (number : ℕ) (process : Process) → slice_get processes number ≡ Some process → Binders data_ base process.parameters
      × Beside data_ base processes x x (process.parameters ++ []) process.body process.body) where
    called_sorts : (moves : Behaviour → Option Move) → Sorted moves → Sorted (called_move (setting_of data_ base processes x) moves)
    called_sorts moves all b c (both_call {number = number} {gates = gates} {arguments = arguments} {others = others} process at terms) m e
        =
        let body : Binders data_ base process.parameters × Beside data_ base processes x x (process.parameters ++ []) process.body
        process.body = bodies number process at in
        let put : Puts data_ base x x (process.parameters ++ []) [] (binding_of process.parameters (map x.represent arguments))
        (binding_of process.parameters (map x.represent others)) =
        bindings_put data_ base process.parameters _ _ body.0
        (represented_related data_ base processes x x represent represent terms) in
        let inside : Behaviour = with_values (binding_of process.parameters (map x.represent arguments)) process.body in
        let made : option_map (relabelling (zip process.gates gates)) (moves inside) ≡ Some m =
        subst (λ (o : Option Process). option_and_then (λ (p : Process). option_map (relabelling (zip p.gates gates))
        (moves (with_values (binding_of p.parameters (map x.represent arguments)) p.body))) o ≡ Some m) at e in
        by_map (relabelling (zip process.gates gates)) (λ k. refl) (moves inside) (all _ _ (put_beside data_ base processes put body.1)) m
        made
    called_sorts moves all b c _ m e = absurd (cc e)

    pub move_sorts : (s : Shape) (next : ℕ) → Sorted (move_of (setting_of data_ base processes x) x.leaves s next)
    move_sorts act next b c r m e = act_sorts next _ _ (opened_beside data_ base processes r) m e
    move_sorts quit next b c r m e = quit_sorts next _ _ (opened_beside data_ base processes r) m e
    move_sorts inner_step next b c r m e = inner_sorts _ _ (opened_beside data_ base processes r) m e
    move_sorts (guarded s) next b c r m e = guarded_sorts (move_of (setting_of data_ base processes x) x.leaves s next) (move_sorts s next)
        _ _ (opened_beside data_ base processes r) m e
    move_sorts (left_side s) next b c r m e = left_sorts (move_of (setting_of data_ base processes x) x.leaves s next) (move_sorts s next) _
        _ (opened_beside data_ base processes r) m e
    move_sorts (right_side s) next b c r m e = right_sorts (move_of (setting_of data_ base processes x) x.leaves s next) (move_sorts s next)
        _ _ (opened_beside data_ base processes r) m e
    move_sorts (both_sides s t) next b c r m e = both_sorts next (move_of (setting_of data_ base processes x) x.leaves s next)
        (move_sorts s next) (move_of (setting_of data_ base processes x) x.leaves t) (move_sorts t) _ _
        (opened_beside data_ base processes r) m e
    move_sorts (hidden s) next b c r m e = hidden_sorts (move_of (setting_of data_ base processes x) x.leaves s next) (move_sorts s next) _
        _ (opened_beside data_ base processes r) m e
    move_sorts (enabled s) next b c r m e = enabled_sorts (move_of (setting_of data_ base processes x) x.leaves s next) (move_sorts s next)
        _ _ (opened_beside data_ base processes r) m e
    move_sorts (passed s) next b c r m e = passed_sorts (move_of (setting_of data_ base processes x) x.leaves s next) (move_sorts s next) _
        _ (opened_beside data_ base processes r) m e
    move_sorts (let_bound s) next b c r m e = let_sorts (move_of (setting_of data_ base processes x) x.leaves s next) (move_sorts s next) _
        _ (opened_beside data_ base processes r) m e
    move_sorts (with_value s) next b c r m e = value_sorts next (move_of (setting_of data_ base processes x) x.leaves s (suc next))
        (move_sorts s (suc next)) _ _ (opened_beside data_ base processes r) m e
    move_sorts (at_gate k s) next b c r m e = gate_sorts k (move_of (setting_of data_ base processes x) x.leaves s next) (move_sorts s next)
        _ _ (opened_beside data_ base processes r) m e
    move_sorts (called s) next b c r m e = called_sorts (move_of (setting_of data_ base processes x) x.leaves s next) (move_sorts s next) _
        _ (opened_beside data_ base processes r) m e
    move_sorts (relabelled s) next b c r m e = relabelled_sorts (move_of (setting_of data_ base processes x) x.leaves s next)
        (move_sorts s next) _ _ (opened_beside data_ base processes r) m e
