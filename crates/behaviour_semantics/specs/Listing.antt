-- The moves of a behaviour, listed: each shape that has a move, with that move, in the order of shapes. The list goes
-- by the form of the behaviour, part by part, to a depth: where the parts and the bodies of called processes reach
-- below it, there is no list.
use Rattle.std.specs.Prelude.{◌≡◌, ◌⊎◌, ℕ, zero, suc, ◌+◌, List, [], ◌∷◌, ◌++◌, length, map, zip, filter_map, slice_get, if◌then◌else◌, Option, None, Some, option_map, option_and_then}
use Rattle.lotos_base.specs.Signature.{Signature}
use Rattle.lotos_base.specs.Term.{Term}
use Rattle.lotos_base.specs.Equation.{Data, Variable}
use Rattle.lotos_base.specs.Substitution.{Substitution}
use Rattle.behaviour_semantics.specs.Behaviour.{Behaviour, stop, exit_with, action, inner_action, guard, choice, parallel, hide, enable, disable, let_be, choose_value, choose_gate, par_gate, call, relabel, SynchronisationSet, Process, let_variables, let_terms}
use Rattle.behaviour_semantics.specs.Replacement.{with_values, binding_of}
use Rattle.behaviour_semantics.specs.Rule.{is_exit}
use Rattle.behaviour_semantics.specs.Shape.{Shape, act, quit, inner_step, guarded, left_side, right_side, both_sides, hidden, enabled, passed, let_bound, with_value, at_gate, called, relabelled, Before}
use Rattle.behaviour_semantics.specs.Move.{Setting, Move, asking, alone, together, hiding, passing, enabling, disabling, relabelling, after_leaf, opened, act_move, quit_move, inner_move}
use Rattle.behaviour_semantics.specs.Draft.{Draft, draft_by, first_apart, leaves_from}
use Rattle.behaviour_semantics.specs.Solving.{Entry, SolvesTo}
use Rattle.behaviour_semantics.specs.WellFormed.{Every}

-- A shape and its move.
pub record ShapedMove : Type 0 where
  pub shape : Shape
  pub move : Move

-- The moves of the parts of a behaviour, by the number of the first leaf.
abbrev pub Parts : Type 0
Parts = ℕ → Behaviour → Option (List ShapedMove)

-- The shape with the move that its row gives, if it gives one.
abbrev pub single : Shape → Option Move → List ShapedMove
single shape None = []
single shape (Some m) = record { shape = shape; move = m } ∷ []

-- What a rule makes of a move of a part, below the variant of the rule.
abbrev pub below : (Shape → Shape) → (Move → Option Move) → ShapedMove → Option ShapedMove
below variant rule x = option_map (λ (m : Move). record { shape = variant x.shape; move = m }) (rule x.move)

abbrev pub each_below : (Shape → Shape) → (Move → Option Move) → Option (List ShapedMove) → Option (List ShapedMove)
each_below variant rule moves = option_map (filter_map (below variant rule)) moves

-- A left side of `>>` that ended, or one that goes on.
abbrev pub below_enable : Signature → List Variable → Behaviour → ShapedMove → Option ShapedMove
below_enable signature variables c x =
    if is_exit x.move.label
    then below enabled (λ m. enabling signature variables c m m.label) x
    else below passed (passing variables c) x

-- One list behind the other, where both are there.
abbrev pub one_behind : Option (List ShapedMove) → Option (List ShapedMove) → Option (List ShapedMove)
one_behind (Some first) (Some second) = Some (first ++ second)
one_behind _ _ = None

-- The moves of both sides of a parallel: for each move of the left side, those of the right side, whose leaves come
-- after those of the left one.
abbrev pub both_below : Signature → SynchronisationSet → ℕ → (ℕ → Option (List ShapedMove)) → List ShapedMove → Option (List ShapedMove)
both_below signature meet next rights [] = Some []
both_below signature meet next rights (x ∷ lefts) =
    one_behind (each_below (both_sides x.shape) (together signature meet x.move) (rights (next + length x.move.sorts)))
    (both_below signature meet next rights lefts)

-- The moves of a gate choice: for each gate of the list, counted from a position on, those of the body, relabelled.
abbrev pub at_gates_below : ℕ → ℕ → List ℕ → Option (List ShapedMove) → Option (List ShapedMove)
at_gates_below g k [] moves = Some []
at_gates_below g k (a ∷ gates) moves =
    one_behind (each_below (at_gate k) (λ m. Some (relabelling ((g, a) ∷ []) m)) moves) (at_gates_below g (suc k) gates moves)

-- The moves of a call: those of the body of its process, and none where there is no process.
abbrev pub called_below : Setting → ℕ → Parts → List ℕ → List Term → Option Process → Option (List ShapedMove)
called_below setting next parts gates arguments None = Some []
called_below setting next parts gates arguments (Some process) =
    each_below called (λ m. Some (relabelling (zip process.gates gates) m))
    (parts next (with_values (binding_of process.parameters (map setting.represent arguments)) process.body))

-- The moves by the form of the behaviour. A gate `par` is opened before.
abbrev pub moves_by_form : Setting → Substitution → ℕ → Parts → Behaviour → Option (List ShapedMove)
moves_by_form setting leaves next parts stop = Some []
moves_by_form setting leaves next parts (exit_with results) = Some (single quit (quit_move setting leaves next (exit_with results)))
moves_by_form setting leaves next parts (action g offers test b) = Some (single act (act_move setting leaves next (action g offers test b)))
moves_by_form setting leaves next parts (inner_action b) = Some (single inner_step (inner_move (inner_action b)))
moves_by_form setting leaves next parts (guard test b) = each_below guarded (λ m. Some (asking test m)) (parts next b)
moves_by_form setting leaves next parts (choice b c) =
    one_behind (each_below left_side (λ m. Some m) (parts next b)) (each_below right_side (λ m. Some m) (parts next c))
moves_by_form setting leaves next parts (parallel meet b c) =
    one_behind (each_below left_side (alone meet (λ target. parallel meet target c)) (parts next b))
    (one_behind (each_below right_side (alone meet (λ target. parallel meet b target)) (parts next c))
    (option_and_then (both_below setting.signature meet next (λ n. parts n c)) (parts next b)))
moves_by_form setting leaves next parts (hide gates b) = each_below hidden (λ m. Some (hiding gates m)) (parts next b)
moves_by_form setting leaves next parts (enable b variables c) =
    option_map (filter_map (below_enable setting.signature variables c)) (parts next b)
moves_by_form setting leaves next parts (disable b c) =
    one_behind (each_below left_side (λ m. Some (disabling c m)) (parts next b)) (each_below right_side (λ m. Some m) (parts next c))
moves_by_form setting leaves next parts (let_be bindings b) =
    each_below let_bound (λ m. Some m) (parts next (with_values (binding_of (let_variables bindings)
    (map setting.represent (let_terms bindings))) b))
moves_by_form setting leaves next parts (choose_value x b) =
    each_below with_value (λ m. Some (after_leaf x.sort m))
    (parts (suc next) (with_values (binding_of (x ∷ []) (setting.represent (leaves next x.sort) ∷ [])) b))
moves_by_form setting leaves next parts (choose_gate g gates b) = at_gates_below g 0 gates (parts next b)
moves_by_form setting leaves next parts (par_gate g gates meet b) = Some []
moves_by_form setting leaves next parts (call number gates arguments) =
    called_below setting next parts gates arguments (slice_get setting.processes number)
moves_by_form setting leaves next parts (relabel pairs b) = each_below relabelled (λ m. Some (relabelling pairs m)) (parts next b)

-- The moves of a behaviour to a depth, whose leaves are numbered from `next` on.
abbrev pub listed_moves : Setting → Substitution → ℕ → ℕ → Behaviour → Option (List ShapedMove)
listed_moves setting leaves zero next b = None
listed_moves setting leaves (suc depth) next b = moves_by_form setting leaves next (listed_moves setting leaves depth) (opened b)

-- The drafts of a behaviour to a depth.
abbrev pub listed_drafts : Data → (Term → Term) → List Process → ℕ → Behaviour → Option (List Draft)
listed_drafts data_ canon processes depth b =
    let base : ℕ = first_apart processes b in
    option_map (map (λ (x : ShapedMove). draft_by x.shape base x.move))
    (listed_moves (record { signature = data_.signature; represent = canon; processes = processes }) (leaves_from base) depth 0 b)

-- The drafts solved one by one: the entries of those that have one, in order.
pub data AllSolveTo (canon : Term → Term) : List Draft → List Entry → Type 0 where
  none_left : AllSolveTo canon [] []
  entry_then :
      {draft : Draft} {entry : Entry} {drafts : List Draft} {entries : List Entry} →
      SolvesTo canon draft (Some entry) →
      AllSolveTo canon drafts entries →
      AllSolveTo canon (draft ∷ drafts) (entry ∷ entries)
  nothing_then :
      {draft : Draft} {drafts : List Draft} {entries : List Entry} →
      SolvesTo canon draft None →
      AllSolveTo canon drafts entries →
      AllSolveTo canon (draft ∷ drafts) entries

-- The value is one of the list.
abbrev pub IsAmong : {X : Type 0} → X → List X → Type 0
IsAmong x [] = ⊥
IsAmong x (y ∷ ys) = (y ≡ x) ⊎ IsAmong x ys

-- Each shape of the list comes before all later ones.
abbrev pub ShapesRise : List Shape → Type 0
ShapesRise [] = Unit {0}
ShapesRise (s ∷ shapes) = Every (Before s) shapes × ShapesRise shapes

-- The shapes of a list of moves, and of a list of drafts.
abbrev pub shapes_of_moves : List ShapedMove → List Shape
shapes_of_moves moves = map (λ (x : ShapedMove). x.shape) moves

abbrev pub shapes_of_drafts : List Draft → List Shape
shapes_of_drafts drafts = map (λ (d : Draft). d.shape) drafts
