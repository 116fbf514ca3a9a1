use Rattle.std.proofs.Common.{◌≡◌, ◌+◌, ℕ, List, [], drop, map, ap, sym, ◌∙◌, subst}
use Rattle.std.proofs.lemmas.List.{drop_all, map_push}
use Rattle.lotos_base.proofs.Pieces.{next_member}
use Rattle.lotos_base.specs.Name.{spelling}
use Rattle.lotos_base.specs.declared.names.Name.{Name}
use Rattle.behaviour_semantics.specs.Behaviour as plain
use Rattle.behaviour_tree.specs.DefinitionView.{process_of}
use Rattle.behaviour_tree.specs.declared.definitions.Process.{Process}
use Rattle.flat_text.specs.GivenNames.{given_names}
use Rattle.flat_text.proofs.GivenLemmas.{AreGiven, given_all, given_first, given_more}
use Rattle.flat_text.proofs.given_names.given_names.Goals as goal

-- the names of processes
abbrev names_in : List Process → List (List ℕ)
names_in processes = map (λ (p : plain.Process). p.name) (map process_of processes)

pub loop-process-init : goal.loop-process-init
loop-process-init c =
    subst (λ (ps : List Process). AreGiven c.in_ok-giving.giving (map spelling c.in_ok-given.given.items) (names_in ps) (names_in ps))
    (sym c.deref-process-items.ensures.value)
    (subst (λ (made : List Name). AreGiven c.in_ok-giving.giving (map spelling made) (names_in c.args.processes.now.items)
    (names_in c.args.processes.now.items)) (sym c.in_ok-given.ensures.items)
    (given_first c.in_ok-giving.giving (names_in c.args.processes.now.items) c.in_ok-giving.ensures))

pub loop-process-preserved : goal.loop-process-preserved
loop-process-preserved c =
    subst (λ (made : List (List ℕ)). AreGiven c.give.new.self made
    (names_in (drop (c.loop-process.process-index + 1) c.deref-process-items.result.now)) (names_in c.deref-process-items.result.now))
    (sym (ap (map spelling) c.in_ok-push.ensures.items ∙ map_push spelling c.loop-process.given.items c.in_ok-give.field-0))
    (given_more c.loop-process.giving c.give.new.self (map spelling c.loop-process.given.items)
    (names_in (drop (c.loop-process.process-index + 1) c.deref-process-items.result.now)) (names_in c.deref-process-items.result.now)
    (spelling c.process-item.result.name) (spelling c.in_ok-give.field-0)
    (subst (λ (ps : List Process). AreGiven c.loop-process.giving (map spelling c.loop-process.given.items) (names_in ps)
    (names_in c.deref-process-items.result.now))
    (next_member c.deref-process-items.result.now c.loop-process.process-index c.process-item.result c.loop-process-test.true
    c.process-item.is) c.loop-process.invariant)
    c.in_ok-give.ensures)

pub returns : goal.returns
returns c =
    given_all c.loop-process.giving (map spelling c.loop-process.given.items)
    (names_in (drop c.loop-process.process-index c.deref-process-items.result.now)) (names_in c.deref-process-items.result.now)
    c.loop-process.invariant
    (ap names_in (drop_all c.loop-process.process-index c.deref-process-items.result.now c.loop-process-test.false))
    ∙ ap (λ (ps : List Process). given_names (names_in ps)) c.deref-process-items.ensures.value
