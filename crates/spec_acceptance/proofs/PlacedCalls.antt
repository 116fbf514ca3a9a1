-- The unguarded calls of a behaviour with their places, told by the plain behaviour and the places that stay on it.
use Rattle.std.proofs.Common.{refl, ap, sym, ◌∙◌, ◌≡◌, ℕ, List, [], ◌∷◌, ◌++◌, map, append_assoc}
use Rattle.std.proofs.lemmas.List.{map-append}
use Rattle.lotos_base.specs.Equation.{Place}
use Rattle.lotos_base.specs.WrittenView.{text_place_of}
use Rattle.behaviour_semantics.specs.Behaviour as plain
use Rattle.behaviour_semantics.specs.Behaviour.{Behaviour, stop, exit_with, action, inner_action, guard, choice, parallel, hide, enable, disable, let_be, choose_value, choose_gate, par_gate, call, relabel}
use Rattle.behaviour_tree.specs.BehaviourView.{behaviour_of}
use Rattle.behaviour_tree.specs.DefinitionView.{process_of, specification_of}
use Rattle.behaviour_tree.specs.declared.behaviours.Beh.{Beh, Stop, Exit, Action', Inner', Guard', Choice', Parallel', Hide', Enable', Disable', Let', ChooseValue', ChooseGate', ParGate', Call}
use Rattle.behaviour_tree.specs.declared.definitions.Process.{Process}
use Rattle.behaviour_tree.specs.declared.definitions.Spec.{Spec}
use Rattle.static_scope.specs.HandedOn.{places_in}
use Rattle.static_scope.specs.KeptPlaces.{places_of_processes, places_of}
use Rattle.refusal_lines.specs.HandedOn.{call_sites_of, CallSite}

-- what is told by the first places, with the places behind them
abbrev pub Taken : Type 0 → Type 0
Taken A = List A × List Place

abbrev pub behind_one : List Place → List Place
behind_one [] = []
behind_one (p ∷ ps) = ps

abbrev pub first_of : Place → List Place → Place
first_of other [] = other
first_of other (p ∷ ps) = p

-- two parts with a place between them
abbrev pub both : {A : Type 0} → (List Place → Taken A) → (List Place → Taken A) → List Place → Taken A
both left right ps = ((left ps).0 ++ (right (behind_one (left ps).1)).0, (right (behind_one (left ps).1)).1)

-- the first of two parts with a place between them; and nothing
abbrev pub first_only : {A : Type 0} → (List Place → Taken A) → (List Place → Taken A) → List Place → Taken A
first_only left right ps = ((left ps).0, (right (behind_one (left ps).1)).1)

abbrev pub nothing_of : {A : Type 0} → (List Place → Taken A) → List Place → Taken A
nothing_of part ps = ([], (part ps).1)

abbrev pub taken : {A : Type 0} → List A → List Place → Taken A
taken xs ps = (xs, ps)

-- a part tells these, from these places
abbrev pub Tells : {A : Type 0} → (List Place → Taken A) → List Place → List A → Type 0
Tells part ps xs = (rest : List Place) → part (ps ++ rest) ≡ taken xs rest

pub both_tell : {A : Type 0} (left right : List Place → Taken A) (ls rs : List Place) (p : Place) (xs ys : List A) → Tells left ls xs
    → Tells right rs ys → Tells (both left right) (ls ++ p ∷ rs) (xs ++ ys)
both_tell left right ls rs p xs ys one other rest =
    ap (both left right) (append_assoc ls (p ∷ rs) rest)
    ∙ ap (λ (t : Taken _). ((t.0 ++ (right (behind_one t.1)).0, (right (behind_one t.1)).1))) (one (p ∷ rs ++ rest))
    ∙ ap (λ (t : Taken _). (xs ++ t.0, t.1)) (other rest)

pub first_tells : {A : Type 0} (left right : List Place → Taken A) (ls rs : List Place) (p : Place) (xs ys : List A) → Tells left ls xs
    → Tells right rs ys → Tells (first_only left right) (ls ++ p ∷ rs) xs
first_tells left right ls rs p xs ys one other rest =
    ap (first_only left right) (append_assoc ls (p ∷ rs) rest)
    ∙ ap (λ (t : Taken _). (t.0, (right (behind_one t.1)).1)) (one (p ∷ rs ++ rest))
    ∙ ap (λ (t : Taken _). (xs, t.1)) (other rest)

pub nothing_tells : {A : Type 0} (part : List Place → Taken A) (ps : List Place) (xs : List A) → Tells part ps xs
    → Tells (nothing_of part) ps []
nothing_tells part ps xs one rest = ap (λ (t : Taken _). taken [] t.1) (one rest)

-- ---- Calls

-- a call with its place
abbrev pub PlacedCall : Type 0
PlacedCall = Place × ℕ

abbrev pub placed_call : CallSite → PlacedCall
placed_call site = (text_place_of site.place, site.process)

abbrev call_at : ℕ → List Place → Taken PlacedCall
call_at number [] = ([], [])
call_at number (p ∷ ps) = ((p, number) ∷ [], ps)

abbrev pub calls_told : Behaviour → List Place → Taken PlacedCall
calls_told stop = taken []
calls_told (exit_with results) = taken []
calls_told (action g offers test b) = nothing_of (calls_told b)
calls_told (inner_action b) = nothing_of (calls_told b)
calls_told (guard test b) = calls_told b
calls_told (choice b c) = both (calls_told b) (calls_told c)
calls_told (parallel meet b c) = both (calls_told b) (calls_told c)
calls_told (hide gates b) = calls_told b
calls_told (enable b variables c) = first_only (calls_told b) (calls_told c)
calls_told (disable b c) = both (calls_told b) (calls_told c)
calls_told (let_be bindings b) = calls_told b
calls_told (choose_value x b) = calls_told b
calls_told (choose_gate g gates b) = calls_told b
calls_told (par_gate g gates meet b) = calls_told b
calls_told (call number gates arguments) = call_at number
calls_told (relabel pairs b) = calls_told b

-- the calls of a behaviour of the code, with their places
abbrev pub calls_seen : Beh → List PlacedCall
calls_seen b = map placed_call (call_sites_of b)

both_calls : (left right : Beh) (f g : List Place → Taken PlacedCall) (p : Place) → Tells f (places_in left) (calls_seen left)
    → Tells g (places_in right) (calls_seen right)
    → Tells (both f g) (places_in left ++ p ∷ places_in right) (map placed_call (call_sites_of left ++ call_sites_of right))
both_calls left right f g p one other rest =
    both_tell f g (places_in left) (places_in right) p (calls_seen left) (calls_seen right) one other rest
    ∙ ap (λ (xs : List PlacedCall). taken xs rest) (sym (map-append placed_call (call_sites_of left) (call_sites_of right)))

pub calls_are_told : (b : Beh) → Tells (calls_told (behaviour_of b)) (places_in b) (calls_seen b)
calls_are_told Stop = λ rest. refl
calls_are_told (Exit values) = λ rest. refl
calls_are_told (Action' _ _ _ _ next) =
    nothing_tells (calls_told (behaviour_of next)) (places_in next) (calls_seen next) (calls_are_told next)
calls_are_told (Inner' _ next) =
    nothing_tells (calls_told (behaviour_of next)) (places_in next) (calls_seen next) (calls_are_told next)
calls_are_told (Guard' _ _ next) = calls_are_told next
calls_are_told (Choice' place _ left _ right) =
    both_calls left right (calls_told (behaviour_of left)) (calls_told (behaviour_of right)) (text_place_of place) (calls_are_told left)
    (calls_are_told right)
calls_are_told (Parallel' place _ _ left _ right) =
    both_calls left right (calls_told (behaviour_of left)) (calls_told (behaviour_of right)) (text_place_of place) (calls_are_told left)
    (calls_are_told right)
calls_are_told (Hide' _ _ next) = calls_are_told next
calls_are_told (Enable' place _ left _ _ right) =
    first_tells (calls_told (behaviour_of left)) (calls_told (behaviour_of right)) (places_in left) (places_in right) (text_place_of place)
    (calls_seen left) (calls_seen right) (calls_are_told left) (calls_are_told right)
calls_are_told (Disable' place _ left _ right) =
    both_calls left right (calls_told (behaviour_of left)) (calls_told (behaviour_of right)) (text_place_of place) (calls_are_told left)
    (calls_are_told right)
calls_are_told (Let' _ _ next) = calls_are_told next
calls_are_told (ChooseValue' _ _ next) = calls_are_told next
calls_are_told (ChooseGate' _ _ _ next) = calls_are_told next
calls_are_told (ParGate' _ _ _ _ next) = calls_are_told next
calls_are_told (Call place process _ _) = λ rest. refl

-- ---- Those of all processes

abbrev pub calls_of_all : List plain.Process → List Place → List (List PlacedCall)
calls_of_all [] ps = []
calls_of_all (p ∷ processes) ps =
    (calls_told p.body (behind_one ps)).0 ∷ calls_of_all processes (calls_told p.body (behind_one ps)).1

abbrev pub seen_by : Process → List PlacedCall
seen_by process = calls_seen process.body

pub all_calls_told : (processes : List Process) → calls_of_all (map process_of processes) (places_of_processes processes)
    ≡ map seen_by processes
all_calls_told [] = refl
all_calls_told (p ∷ processes) =
    ap (λ (t : Taken PlacedCall). t.0 ∷ calls_of_all (map process_of processes) t.1)
    (calls_are_told p.body (places_of_processes processes))
    ∙ ap (λ (rest : List (List PlacedCall)). calls_seen p.body ∷ rest) (all_calls_told processes)

-- the places behind the specification's own
abbrev pub behind_own : plain.Specification → List Place → List Place
behind_own spec ps = (calls_told spec.body (behind_one ps)).1

-- the calls of each process, with their places, are one thing where the plain specification and the places are
abbrev pub calls_by : plain.Specification → List Place → List (List PlacedCall)
calls_by spec ps = calls_of_all spec.processes (behind_own spec ps)

pub calls_are_by : (kept : Spec) → calls_by (specification_of kept) (places_of kept) ≡ map seen_by kept.processes.items
calls_are_by kept =
    ap (λ (t : Taken PlacedCall). calls_of_all (map process_of kept.processes.items) t.1)
    (calls_are_told kept.body.value (places_of_processes kept.processes.items))
    ∙ all_calls_told kept.processes.items
