use Rattle.std.proofs.Common.{◌≡◌, ◌∙◌, length, refl}
use Rattle.behaviour_tree.specs.BehaviourView.{terms_of}
use Rattle.lotos_base.specs.Name.{spelling}
use Rattle.lotos_base.specs.WrittenView.{text_place_of, written_terms_of}
use Rattle.syntax_trees.specs.TreeViews.{placed_names_of}
use Rattle.scope_parts.specs.Behaviours.{counted_call}
use Rattle.scope_parts.specs.CallablesView.{callable_in}
use Rattle.scope_parts.specs.Resolution.{and_then, resolved, faulty}
use Rattle.scope_parts.specs.Scope.{callable_named, found_process}
use Rattle.scope_parts.proofs.AnswerLemmas.{means_map}
use Rattle.behaviour_scopes.specs.ResolverView.{state_in}
use Rattle.behaviour_scopes.proofs.CallLemmas.{counted_as, process_fault, gates_fault, values_fault}
use Rattle.behaviour_scopes.proofs.resolver.Resolver.call.Goals as goal

pub returns-in_err-process-clause-read : goal.returns-in_err-process-clause-read
returns-in_err-process-clause-read c =
    let place = text_place_of c.args.place in
    let name = spelling c.args.name.now in
    let found = found_process place name (callable_named (state_in c.args.self.now).scope.processes name) in
    process_fault (state_in c.args.self.now) place name (placed_names_of c.args.gates.now.items)
    (written_terms_of c.args.values.now.items)
    c.from_residual.result c.in_err-process.field-0.0 c.from_residual.ensures.1
    (means_map c.in_err-process.field-0.0 (λ f. faulty f ≡ and_then found (counted_call place c.len.result c.len-2.result))
    (λ f. faulty f ≡ and_then found (counted_call place (length (placed_names_of c.args.gates.now.items))
    (length (written_terms_of c.args.values.now.items))))
    (λ f h. counted_as found place c.args.gates.now.items c.args.values.now.items c.len.result c.len-2.result (faulty f)
    (c.len.ensures ∙ c.args.gates.now.ok.0) (c.len-2.ensures ∙ c.args.values.now.ok.0) h) c.in_err-process.ensures.read)

pub returns-in_err-actual-clause-read : goal.returns-in_err-actual-clause-read
returns-in_err-actual-clause-read c =
    let place = text_place_of c.args.place in
    let name = spelling c.args.name.now in
    let found = found_process place name (callable_named (state_in c.args.self.now).scope.processes name) in
    gates_fault (state_in c.args.self.now) place name (placed_names_of c.args.gates.now.items)
    (written_terms_of c.args.values.now.items) (callable_in c.in_ok-process.process.now)
    c.from_residual-in_err-actual.result c.in_err-actual.field-0.0
    (counted_as found place c.args.gates.now.items c.args.values.now.items c.len.result c.len-2.result
    (resolved (callable_in c.in_ok-process.process.now)) (c.len.ensures ∙ c.args.gates.now.ok.0)
    (c.len-2.ensures ∙ c.args.values.now.ok.0) c.in_ok-process.ensures.read)
    c.from_residual-in_err-actual.ensures.1 c.in_err-actual.ensures

pub returns-in_err-terms-clause-read : goal.returns-in_err-terms-clause-read
returns-in_err-terms-clause-read c =
    let place = text_place_of c.args.place in
    let name = spelling c.args.name.now in
    let found = found_process place name (callable_named (state_in c.args.self.now).scope.processes name) in
    values_fault (state_in c.args.self.now) place name (placed_names_of c.args.gates.now.items)
    (written_terms_of c.args.values.now.items) (callable_in c.in_ok-process.process.now) c.in_ok-actual.actual.items
    c.from_residual-in_err-terms.result c.in_err-terms.field-0.0
    (counted_as found place c.args.gates.now.items c.args.values.now.items c.len.result c.len-2.result
    (resolved (callable_in c.in_ok-process.process.now)) (c.len.ensures ∙ c.args.gates.now.ok.0)
    (c.len-2.ensures ∙ c.args.values.now.ok.0) c.in_ok-process.ensures.read)
    c.in_ok-actual.ensures c.from_residual-in_err-terms.ensures.1 c.in_err-terms.ensures.read

pub returns-clause-read : goal.returns-clause-read
returns-clause-read c =
    let place = text_place_of c.args.place in
    let name = spelling c.args.name.now in
    let found = found_process place name (callable_named (state_in c.args.self.now).scope.processes name) in (
      callable_in c.in_ok-process.process.now,
      counted_as found place c.args.gates.now.items c.args.values.now.items c.len.result c.len-2.result
          (resolved (callable_in c.in_ok-process.process.now)) (c.len.ensures ∙ c.args.gates.now.ok.0)
          (c.len-2.ensures ∙ c.args.values.now.ok.0) c.in_ok-process.ensures.read,
      (c.in_ok-actual.actual.items, c.in_ok-actual.ensures, (terms_of c.in_ok-terms.terms.items, c.in_ok-terms.ensures.read, refl)),
    )
