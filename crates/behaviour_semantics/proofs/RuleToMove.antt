-- Each transition has a derivation: by induction on the rules.
use Rattle.std.proofs.Common.{◌≡◌, ℕ, suc, ◌+◌, List, [], ◌∷◌, ◌++◌, length, map, zip, Some, option_map, option_and_then, refl, ap, sym, ◌∙◌, subst, true, eq-eqb}
use Rattle.lotos_base.specs.Term.{Term}
use Rattle.lotos_base.specs.Equation.{Data}
use Rattle.lotos_base.specs.Substitution.{Substitution}
use Rattle.behaviour_semantics.specs.Behaviour.{Behaviour, parallel, Test, SynchronisationSet, Process, asked_variables, open_sorts, sorts_of, let_terms}
use Rattle.behaviour_semantics.specs.Label.{Label}
use Rattle.behaviour_semantics.specs.Replacement.{binding_of}
use Rattle.behaviour_semantics.specs.Rule.{as_given, tests_of, move_together, label_values, pairwise, AllHold, AreValues}
use Rattle.behaviour_semantics.specs.Shape.{Shape, act, quit, inner_step, guarded, left_side, right_side, both_sides, hidden, enabled, passed, let_bound, with_value, at_gate, called, relabelled}
use Rattle.behaviour_semantics.specs.Move.{Setting, Move, move_of, alone, together, passing, enabling, disabling, hiding, asking, relabelling, after_leaf}
use Rattle.behaviour_semantics.specs.Transition.{Transition, exits, acts, acts_inside, guard_holds, chooses_left, chooses_right, left_alone, right_alone, both_act, both_exit, hides, shows, inside_hide, exit_of_hide, goes_on, enables, left_goes_on, left_ends, disables, lets, chooses_value, chooses_gate, par_copies, calls, relabels}
use Rattle.behaviour_semantics.proofs.SupplyLemmas.{Supplies, taken-supplied, Supplies-append, length-values, AreValues-append, AllHold-append}
use Rattle.behaviour_semantics.proofs.OpenedLemmas.{move_of-copies}

abbrev pub given : Data → List Process → Setting
given data_ processes = record { signature = data_.signature; represent = as_given; processes = processes }

-- A derivation of the move, whatever number its first leaf has.
pub record Found (data_ : Data) (processes : List Process) (b : Behaviour) (label : Label) (target : Behaviour) : Type 0 where
  pub shape : Shape
  pub leaves : List Term
  pub asked : List Test
  pub sorts : List ℕ
  pub moves : (values : Substitution) (next : ℕ) → Supplies values next leaves
      → move_of (given data_ processes) values shape next b ≡ Some (record { label = label; target = target; asked = asked; sorts = sorts })
  pub sorted : AreValues data_.signature sorts leaves
  pub holds : AllHold data_ asked

pub map-as_given : (ts : List Term) → map as_given ts ≡ ts
map-as_given [] = refl
map-as_given (t ∷ ts) = ap (λ us. t ∷ us) (map-as_given ts)

-- Both sides of a parallel move together.
both_found : (data_ : Data) (processes : List Process) (meet : SynchronisationSet) {b c left right : Behaviour} {label other : Label}
    → Found data_ processes b label left → Found data_ processes c other right → move_together data_.signature meet label other ≡ true
    → AllHold data_ (pairwise (label_values label) (label_values other))
    → Found data_ processes (parallel meet b c) label (parallel meet left right)
both_found data_ processes meet {b = b} {c = c} {left = left} {label = label} {other = other} f g meets holds = record {
  shape = both_sides f.shape g.shape;
  leaves = f.leaves ++ g.leaves;
  asked = f.asked ++ g.asked ++ pairwise (label_values label) (label_values other);
  sorts = f.sorts ++ g.sorts;
  moves = λ values next h.
      let parts : Supplies values next f.leaves × Supplies values (next + length f.leaves) g.leaves =
      Supplies-append values next f.leaves g.leaves h in
      let m : Move = record { label = label; target = left; asked = f.asked; sorts = f.sorts } in
      let behind : length f.leaves ≡ length f.sorts = length-values data_.signature f.sorts f.leaves f.sorted in
      let first : move_of (given data_ processes) values f.shape next b ≡ Some m = f.moves values next parts.0 in
      ap (option_and_then (λ (n : Move). option_and_then (together data_.signature meet n)
      (move_of (given data_ processes) values g.shape (next + length n.sorts) c))) first
      ∙ (ap (option_and_then (together data_.signature meet m))
      (g.moves values (next + length f.sorts) (subst (λ n. Supplies values (next + n) g.leaves) behind parts.1))
      ∙ rw meets refl);
  sorted = AreValues-append data_.signature f.sorts g.sorts f.leaves g.leaves f.sorted g.sorted;
  holds = AllHold-append data_ (f.asked ++ g.asked) (pairwise (label_values label) (label_values other))
      (AllHold-append data_ f.asked g.asked f.holds g.holds) holds;
}

module _ (data_ : Data) (processes : List Process) where
  pub found : {b target : Behaviour} {label : Label} → Transition data_ processes b label target → Found data_ processes b label target
  found (exits results chosen sorted) = record {
    shape = quit;
    leaves = chosen;
    asked = [];
    sorts = open_sorts results;
    moves = λ values next h. rw (taken-supplied data_.signature values next (open_sorts results) chosen sorted h) refl;
    sorted = sorted;
    holds = tt;
  }
  found (acts g offers test b chosen sorted holds) = record {
    shape = act;
    leaves = chosen;
    asked = tests_of (binding_of (asked_variables offers) chosen) test;
    sorts = sorts_of (asked_variables offers);
    moves = λ values next h. rw (taken-supplied data_.signature values next (sorts_of (asked_variables offers)) chosen sorted h)
        (rw (map-as_given chosen) refl);
    sorted = sorted;
    holds = holds;
  }
  found (acts_inside b) = record {
    shape = inner_step;
    leaves = [];
    asked = [];
    sorts = [];
    moves = λ values next h. refl;
    sorted = tt;
    holds = tt;
  }
  found (guard_holds {test = test} holds t) = let f = found t in record {
    shape = guarded f.shape;
    leaves = f.leaves;
    asked = test ∷ f.asked;
    sorts = f.sorts;
    moves = λ values next h. ap (option_map (asking test)) (f.moves values next h);
    sorted = f.sorted;
    holds = (holds, f.holds);
  }
  found (chooses_left t) = let f = found t in record {
    shape = left_side f.shape;
    leaves = f.leaves;
    asked = f.asked;
    sorts = f.sorts;
    moves = f.moves;
    sorted = f.sorted;
    holds = f.holds;
  }
  found (chooses_right t) = let f = found t in record {
    shape = right_side f.shape;
    leaves = f.leaves;
    asked = f.asked;
    sorts = f.sorts;
    moves = f.moves;
    sorted = f.sorted;
    holds = f.holds;
  }
  found (left_alone {meet = meet} {c = c} t outside) = let f = found t in record {
    shape = left_side f.shape;
    leaves = f.leaves;
    asked = f.asked;
    sorts = f.sorts;
    moves = λ values next h. ap (option_and_then (alone meet (λ target. parallel meet target c))) (f.moves values next h) ∙ rw outside refl;
    sorted = f.sorted;
    holds = f.holds;
  }
  found (right_alone {meet = meet} {b = b} t outside) = let f = found t in record {
    shape = right_side f.shape;
    leaves = f.leaves;
    asked = f.asked;
    sorts = f.sorts;
    moves = λ values next h. ap (option_and_then (alone meet (λ target. parallel meet b target))) (f.moves values next h) ∙ rw outside refl;
    sorted = f.sorted;
    holds = f.holds;
  }
  found (both_act {meet = meet} {g = g} t u met same holds) = both_found data_ processes meet (found t) (found u)
      (rw (eq-eqb g g refl) (rw met same)) holds
  found (both_exit {meet = meet} t u same holds) = both_found data_ processes meet (found t) (found u) same holds
  found (hides {gates = gates} t listed) = let f = found t in record {
    shape = hidden f.shape;
    leaves = f.leaves;
    asked = f.asked;
    sorts = f.sorts;
    moves = λ values next h. ap (option_map (hiding gates)) (f.moves values next h) ∙ rw listed refl;
    sorted = f.sorted;
    holds = f.holds;
  }
  found (shows {gates = gates} t unlisted) = let f = found t in record {
    shape = hidden f.shape;
    leaves = f.leaves;
    asked = f.asked;
    sorts = f.sorts;
    moves = λ values next h. ap (option_map (hiding gates)) (f.moves values next h) ∙ rw unlisted refl;
    sorted = f.sorted;
    holds = f.holds;
  }
  found (inside_hide {gates = gates} t) = let f = found t in record {
    shape = hidden f.shape;
    leaves = f.leaves;
    asked = f.asked;
    sorts = f.sorts;
    moves = λ values next h. ap (option_map (hiding gates)) (f.moves values next h);
    sorted = f.sorted;
    holds = f.holds;
  }
  found (exit_of_hide {gates = gates} t) = let f = found t in record {
    shape = hidden f.shape;
    leaves = f.leaves;
    asked = f.asked;
    sorts = f.sorts;
    moves = λ values next h. ap (option_map (hiding gates)) (f.moves values next h);
    sorted = f.sorted;
    holds = f.holds;
  }
  found (goes_on {c = c} {variables = variables} t no_exit) = let f = found t in record {
    shape = passed f.shape;
    leaves = f.leaves;
    asked = f.asked;
    sorts = f.sorts;
    moves = λ values next h. ap (option_and_then (passing variables c)) (f.moves values next h) ∙ rw no_exit refl;
    sorted = f.sorted;
    holds = f.holds;
  }
  found (enables {c = c} {variables = variables} t have) = let f = found t in record {
    shape = enabled f.shape;
    leaves = f.leaves;
    asked = f.asked;
    sorts = f.sorts;
    moves = λ values next h. ap (option_and_then (λ (m : Move). enabling data_.signature variables c m m.label)) (f.moves values next h)
        ∙ rw have refl;
    sorted = f.sorted;
    holds = f.holds;
  }
  found (left_goes_on {c = c} t no_exit) = let f = found t in record {
    shape = left_side f.shape;
    leaves = f.leaves;
    asked = f.asked;
    sorts = f.sorts;
    moves = λ values next h. ap (option_map (disabling c)) (f.moves values next h) ∙ rw no_exit refl;
    sorted = f.sorted;
    holds = f.holds;
  }
  found (left_ends {c = c} t) = let f = found t in record {
    shape = left_side f.shape;
    leaves = f.leaves;
    asked = f.asked;
    sorts = f.sorts;
    moves = λ values next h. ap (option_map (disabling c)) (f.moves values next h);
    sorted = f.sorted;
    holds = f.holds;
  }
  found (disables t) = let f = found t in record {
    shape = right_side f.shape;
    leaves = f.leaves;
    asked = f.asked;
    sorts = f.sorts;
    moves = f.moves;
    sorted = f.sorted;
    holds = f.holds;
  }
  found (lets {bindings = bindings} {b = b} t) = let f = found t in record {
    shape = let_bound f.shape;
    leaves = f.leaves;
    asked = f.asked;
    sorts = f.sorts;
    moves = λ values next h. rw (map-as_given (let_terms bindings)) (f.moves values next h);
    sorted = f.sorted;
    holds = f.holds;
  }
  found (chooses_value {x = x} {b = b} v ground t) = let f = found t in record {
    shape = with_value f.shape;
    leaves = v ∷ f.leaves;
    asked = f.asked;
    sorts = x.sort ∷ f.sorts;
    moves = λ values next h. rw (h.0 x.sort) (ap (option_map (after_leaf x.sort)) (f.moves values (suc next) h.1));
    sorted = (ground, f.sorted);
    holds = f.holds;
  }
  found (chooses_gate {g = g} k a at t) = let f = found t in record {
    shape = at_gate k f.shape;
    leaves = f.leaves;
    asked = f.asked;
    sorts = f.sorts;
    moves = λ values next h. rw at (ap (option_map (relabelling ((g, a) ∷ []))) (f.moves values next h));
    sorted = f.sorted;
    holds = f.holds;
  }
  found (par_copies {g = g} {gates = gates} {meet = meet} {b = b} t) = let f = found t in record {
    shape = f.shape;
    leaves = f.leaves;
    asked = f.asked;
    sorts = f.sorts;
    moves = λ values next h. sym (move_of-copies (given data_ processes) values f.shape next g gates meet b) ∙ f.moves values next h;
    sorted = f.sorted;
    holds = f.holds;
  }
  found (calls {gates = gates} {arguments = arguments} process at t) = let f = found t in record {
    shape = called f.shape;
    leaves = f.leaves;
    asked = f.asked;
    sorts = f.sorts;
    moves = λ values next h. rw at (rw (map-as_given arguments)
        (ap (option_map (relabelling (zip process.gates gates))) (f.moves values next h)));
    sorted = f.sorted;
    holds = f.holds;
  }
  found (relabels {pairs = pairs} t) = let f = found t in record {
    shape = relabelled f.shape;
    leaves = f.leaves;
    asked = f.asked;
    sorts = f.sorts;
    moves = λ values next h. ap (option_map (relabelling pairs)) (f.moves values next h);
    sorted = f.sorted;
    holds = f.holds;
  }
