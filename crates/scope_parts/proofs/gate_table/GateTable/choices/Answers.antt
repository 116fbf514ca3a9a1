use Rattle.std.proofs.Common.{◌≡◌, map, length, subst, ◌∙◌, ap}
use Rattle.std.specs.Prelude.{Option}
use Rattle.lotos_base.specs.WrittenTerm.{PlacedName}
use Rattle.syntax_trees.specs.TreeViews.{gate_choices_of}
use Rattle.scope_parts.specs.Choices.{choices_follow}
use Rattle.scope_parts.specs.FaultView.{Answers}
use Rattle.scope_parts.specs.GatesView.{choice_in, gates_in}
use Rattle.scope_parts.specs.Resolution.{Is, beside}
use Rattle.scope_parts.specs.Scope.{first_double}
use Rattle.scope_parts.proofs.AnswerLemmas.{answer_beside_computed, beside_keeps}
use Rattle.scope_parts.proofs.GateLemmas.{gates_declared}
use Rattle.scope_parts.proofs.gate_table.GateTable.choices.Goals as goal

pub returns-clause-read : goal.returns-clause-read
returns-clause-read c =
    subst
    (λ (double : Option PlacedName). Answers (λ made. map choice_in made.items) c.beside.result
    (Is (beside double (choices_follow (gates_in c.args.self.now).visible (length (gates_in c.args.self.now).names)
    (gate_choices_of c.args.texts.now.items)))))
    (c.in_ok-double.ensures ∙ ap first_double (gates_declared c.args.texts.now.items))
    (answer_beside_computed (λ made. map choice_in made.items) c.in_ok-double.double c.following_choices.result c.beside.result
    (choices_follow (gates_in c.args.self.now).visible (length (gates_in c.args.self.now).names) (gate_choices_of c.args.texts.now.items))
    c.following_choices.ensures.read c.beside.ensures)

pub returns-clause-counted : goal.returns-clause-counted
returns-clause-counted c =
    beside_keeps c.in_ok-double.double c.following_choices.result c.beside.result
    (λ made. length made.items ≡ length c.args.texts.now.items) c.beside.ensures c.following_choices.ensures.counted
