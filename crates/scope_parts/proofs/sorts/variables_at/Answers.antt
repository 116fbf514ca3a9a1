use Rattle.std.proofs.Common.{map, subst, ◌∙◌, ap}
use Rattle.std.specs.Prelude.{Option}
use Rattle.lotos_base.specs.WrittenTerm.{PlacedName}
use Rattle.sort_terms.specs.EquationView.{variable_of as resolved_variable}
use Rattle.sort_terms.specs.ReaderView.{signature_read}
use Rattle.syntax_trees.specs.TreeViews.{written_variables_of}
use Rattle.scope_parts.specs.FaultView.{Answers}
use Rattle.scope_parts.specs.Resolution.{Is, beside}
use Rattle.scope_parts.specs.Scope.{first_double}
use Rattle.scope_parts.specs.Sorts.{sorted_variables}
use Rattle.scope_parts.proofs.AnswerLemmas.{answer_beside_computed}
use Rattle.scope_parts.proofs.DoubleLemmas.{variables_declared}
use Rattle.scope_parts.proofs.sorts.variables_at.Goals as goal

pub returns : goal.returns
returns c =
    subst
    (λ (double : Option PlacedName). Answers (λ made. map resolved_variable made.items) c.beside.result
    (Is (beside double (sorted_variables (signature_read c.args.reader.now) c.args.first (written_variables_of c.args.texts.now.items)))))
    (c.in_ok-double.ensures ∙ ap first_double (variables_declared c.args.texts.now.items))
    (answer_beside_computed (λ made. map resolved_variable made.items) c.in_ok-double.double c.sorted_variables.result c.beside.result
    (sorted_variables (signature_read c.args.reader.now) c.args.first (written_variables_of c.args.texts.now.items))
    c.sorted_variables.ensures
    c.beside.ensures)
