-- Digests of behaviours: numbers that identical behaviours have in common. Offers, premisses and gates of operators are left out,
-- so that some behaviours that differ have one number too.
use Rattle.std.specs.Prelude.{ℕ}
use Rattle.behaviour_semantics.specs.Behaviour.{Behaviour, stop, exit_with, action, inner_action, guard, choice, parallel, hide, enable, disable, let_be, choose_value, choose_gate, par_gate, call, relabel}
use Rattle.behaviour_tree.specs.Mixing.{mixed}
use Rattle.behaviour_tree.specs.TermDigests.{list_digest}

abbrev pub digest : Behaviour → ℕ
digest stop = 1
digest (exit_with results) = 2
digest (action g offers test b) = mixed (mixed 3 g) (digest b)
digest (inner_action b) = mixed 4 (digest b)
digest (guard test b) = mixed 5 (digest b)
digest (choice b c) = mixed (mixed 6 (digest b)) (digest c)
digest (parallel meet b c) = mixed (mixed 7 (digest b)) (digest c)
digest (hide gates b) = mixed 8 (digest b)
digest (enable b variables c) = mixed (mixed 9 (digest b)) (digest c)
digest (disable b c) = mixed (mixed 10 (digest b)) (digest c)
digest (let_be bindings b) = mixed 11 (digest b)
digest (choose_value x b) = mixed 12 (digest b)
digest (choose_gate g gates b) = mixed 13 (digest b)
digest (par_gate g gates meet b) = mixed 14 (digest b)
digest (call process gates values) = mixed (mixed 15 process) (list_digest 0 values)
digest (relabel pairs b) = mixed 16 (digest b)
