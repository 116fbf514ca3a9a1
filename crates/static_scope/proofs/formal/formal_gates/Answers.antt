use Rattle.std.proofs.Common.{length, subst, ◌∙◌, ap}
use Rattle.std.specs.Prelude.{Option}
use Rattle.lotos_base.specs.WrittenTerm.{PlacedName}
use Rattle.syntax_trees.specs.TreeViews.{placed_names_of}
use Rattle.scope_parts.specs.Behaviours.{numbers_from}
use Rattle.scope_parts.specs.FaultView.{Answers}
use Rattle.scope_parts.specs.GatesView.{gates_in}
use Rattle.scope_parts.specs.Resolution.{Is, resolved, beside}
use Rattle.scope_parts.specs.Scope.{first_double}
use Rattle.scope_parts.proofs.AnswerLemmas.{answer_beside_computed}
use Rattle.static_scope.proofs.FormalLemmas.{names_declared}
use Rattle.static_scope.proofs.formal.formal_gates.Goals as goal

pub returns-clause-read : goal.returns-clause-read
returns-clause-read c =
    subst
    (λ (double : Option PlacedName). Answers (λ made. made.items) c.beside.result
    (Is (beside double (resolved (numbers_from (length (gates_in c.args.table.now).names) (placed_names_of c.args.texts.now.items))))))
    (c.in_ok-double.ensures ∙ ap first_double (names_declared c.args.texts.now.items))
    (answer_beside_computed (λ made. made.items) c.in_ok-double.double c.gates_declared.result c.beside.result
    (resolved (numbers_from (length (gates_in c.args.table.now).names) (placed_names_of c.args.texts.now.items)))
    c.gates_declared.ensures.read c.beside.ensures)
