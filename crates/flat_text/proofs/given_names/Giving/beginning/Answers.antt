use Rattle.std.proofs.Common.{◌≡◌, ◌+◌, ℕ, List, [], drop, map, ap, subst}
use Rattle.std.proofs.lemmas.List.{drop_all}
use Rattle.lotos_base.proofs.Pieces.{next_member}
use Rattle.lotos_base.specs.Name.{spelling}
use Rattle.behaviour_semantics.specs.Behaviour as plain
use Rattle.behaviour_tree.specs.DefinitionView.{process_of}
use Rattle.behaviour_tree.specs.declared.definitions.Process.{Process}
use Rattle.scope_parts.specs.BindingsView.{bindings_in}
use Rattle.flat_text.specs.WritingView.{HasTheseNames}
use Rattle.flat_text.proofs.GivenLemmas.{none_given}
use Rattle.flat_text.proofs.TableLemmas.{HasAllBut, all_bound, none_bound, one_bound}
use Rattle.flat_text.proofs.given_names.Giving.beginning.Goals as goal

-- the names of processes
abbrev names_in : List Process → List (List ℕ)
names_in processes = map (λ (p : plain.Process). p.name) (map process_of processes)

pub loop-process-init : goal.loop-process-init
loop-process-init c =
    none_bound (bindings_in c.new-taken.result) (names_in c.deref-process-items.result.now) c.new-taken.ensures

pub loop-process-preserved : goal.loop-process-preserved
loop-process-preserved c =
    one_bound (bindings_in c.loop-process.taken) (bindings_in c.bind.new.self) (spelling c.process-item.result.name) 0
    (names_in (drop (c.loop-process.process-index + 1) c.deref-process-items.result.now)) (names_in c.deref-process-items.result.now)
    (subst (λ (ps : List Process). HasAllBut (bindings_in c.loop-process.taken) (names_in ps) (names_in c.deref-process-items.result.now))
    (next_member c.deref-process-items.result.now c.loop-process.process-index c.process-item.result c.loop-process-test.true
    c.process-item.is) c.loop-process.invariant)
    c.in_ok-bind.ensures.bound

pub returns : goal.returns
returns c =
    none_given (bindings_in c.new-earlier.result) (bindings_in c.loop-process.taken) (names_in c.args.processes.now.items)
    c.new-earlier.ensures
    (subst (λ (ps : List Process). HasTheseNames (bindings_in c.loop-process.taken) (names_in ps)) c.deref-process-items.ensures.value
    (all_bound (bindings_in c.loop-process.taken)
    (names_in (drop c.loop-process.process-index c.deref-process-items.result.now)) (names_in c.deref-process-items.result.now)
    c.loop-process.invariant
    (ap names_in (drop_all c.loop-process.process-index c.deref-process-items.result.now c.loop-process-test.false))))
