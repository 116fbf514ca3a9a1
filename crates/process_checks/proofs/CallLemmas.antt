-- The graph of calls is the graph of the plain processes.
use Rattle.std.proofs.Common.{◌≡◌, ◌<◌, ℕ, zero, suc, List, [], ◌∷◌, ◌++◌, map, slice_get, refl, ap, sym, ◌∙◌}
use Rattle.std.proofs.lemmas.List.{map-append}
use Rattle.std.proofs.lemmas.Option.{same_Some, none-some}
use Rattle.behaviour_semantics.specs.Behaviour as plain
use Rattle.behaviour_semantics.specs.Guardedness.{unguarded_calls, HasEdge, IsWalk, IsGuarded, end_of}
use Rattle.behaviour_semantics.specs.Rank.{RanksFall}
use Rattle.behaviour_tree.specs.BehaviourView.{behaviour_of}
use Rattle.behaviour_tree.specs.DefinitionView.{process_of}
use Rattle.behaviour_tree.specs.declared.behaviours.Beh.{Beh, Stop, Exit, Action', Inner', Guard', Choice', Parallel', Hide', Enable', Disable', Let', ChooseValue', ChooseGate', ParGate', Call}
use Rattle.behaviour_tree.specs.declared.definitions.Process.{Process}
use Rattle.process_checks.specs.Calls.{process_at, call_sites_of, called_in, call_graph_of}
use Rattle.process_checks.specs.Ways.{Calls, IsWay, CallsHaveCycle}

two_sides : (left right : Beh) → called_in left ≡ unguarded_calls (behaviour_of left)
    → called_in right ≡ unguarded_calls (behaviour_of right)
    → map process_at (call_sites_of left ++ call_sites_of right) ≡ unguarded_calls (behaviour_of left)
    ++ unguarded_calls (behaviour_of right)
two_sides left right l r =
    map-append process_at (call_sites_of left) (call_sites_of right)
    ∙ ap (λ (ns : List ℕ). ns ++ called_in right) l
    ∙ ap (λ (ns : List ℕ). unguarded_calls (behaviour_of left) ++ ns) r

-- The calls of a body are those of its plain behaviour.
pub called_plainly : (b : Beh) → called_in b ≡ unguarded_calls (behaviour_of b)
called_plainly Stop = refl
called_plainly (Exit values) = refl
called_plainly (Action' g offers test b next) = refl
called_plainly (Inner' b next) = refl
called_plainly (Guard' test b next) = called_plainly next
called_plainly (Choice' place b left c right) = two_sides left right (called_plainly left) (called_plainly right)
called_plainly (Parallel' place meet b left c right) = two_sides left right (called_plainly left) (called_plainly right)
called_plainly (Hide' gates b next) = called_plainly next
called_plainly (Enable' place b left variables c right) = called_plainly left
called_plainly (Disable' place b left c right) = two_sides left right (called_plainly left) (called_plainly right)
called_plainly (Let' bindings b next) = called_plainly next
called_plainly (ChooseValue' x b next) = called_plainly next
called_plainly (ChooseGate' g gates b next) = called_plainly next
called_plainly (ParGate' g gates meet b next) = called_plainly next
called_plainly (Call place process gates values) = refl

-- An edge between plain processes is a call of the graph, and the other way round.
pub call_of_edge : (processes : List Process) (from to : ℕ) → HasEdge (map process_of processes) from to
    → Calls (call_graph_of processes) from to
call_of_edge [] from to edge = absurd (none-some edge.0 edge.1)
call_of_edge (p ∷ processes) zero to edge =
    let same : process_of p ≡ edge.0 = same_Some (process_of p) edge.0 edge.1 in
    let calls : called_in p.body ≡ unguarded_calls edge.0.body =
    called_plainly p.body ∙ ap (λ (q : plain.Process). unguarded_calls q.body) same in
    (edge.2.0, ap (λ (ns : List ℕ). slice_get ns edge.2.0) calls ∙ edge.2.1)
call_of_edge (p ∷ processes) (suc from) to edge = call_of_edge processes from to edge

pub edge_of_call : (processes : List Process) (from to : ℕ) → Calls (call_graph_of processes) from to
    → HasEdge (map process_of processes) from to
edge_of_call [] from to calls = absurd (none-some to calls.1)
edge_of_call (p ∷ processes) zero to calls =
    (process_of p, refl, (calls.0, ap (λ (ns : List ℕ). slice_get ns calls.0) (sym (called_plainly p.body)) ∙ calls.1))
edge_of_call (p ∷ processes) (suc from) to calls = edge_of_call processes from to calls

-- A way is a walk of the plain graph.
pub record Walked (processes : List Process) (from n to : ℕ) : Type 0 where
  pub walk : List ℕ
  pub is_walk : IsWalk (map process_of processes) from walk
  pub ends : end_of from walk ≡ to

walk_of_way : (processes : List Process) (n from to : ℕ) → IsWay (call_graph_of processes) from n to → Walked processes from n to
walk_of_way processes zero from to way = record { walk = []; is_walk = tt; ends = way }
walk_of_way processes (suc n) from to way =
    let rest : Walked processes way.0 n to = walk_of_way processes n way.0 to way.1.1 in
    record { walk = way.0 ∷ rest.walk; is_walk = (edge_of_call processes from way.0 way.1.0, rest.is_walk); ends = rest.ends }

-- A cycle of the graph is one of the plain graph.
pub not_guarded : (processes : List Process) → CallsHaveCycle (call_graph_of processes) → IsGuarded (map process_of processes) → ⊥
not_guarded processes cycle guarded =
    let way : IsWay (call_graph_of processes) cycle.0 (suc cycle.1.0) cycle.0 = cycle.1.1 in
    let rest : Walked processes way.0 cycle.1.0 cycle.0 = walk_of_way processes cycle.1.0 way.0 cycle.0 way.1.1 in
    guarded cycle.0 (way.0 ∷ rest.walk) ((edge_of_call processes cycle.0 way.0 way.1.0, rest.is_walk), rest.ends)

-- Ranks that fall along the calls fall along the edges.
pub fall_plainly : (processes : List Process) (rank : ℕ → ℕ)
    → ((from to : ℕ) → Calls (call_graph_of processes) from to → rank to < rank from) → RanksFall (map process_of processes) rank
fall_plainly processes rank fall from to edge = fall from to (call_of_edge processes from to edge)
