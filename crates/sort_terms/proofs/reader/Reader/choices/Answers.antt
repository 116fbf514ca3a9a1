use Rattle.std.proofs.lemmas.Result.{IfOk-weaker}
use Rattle.lotos_base.specs.WrittenLaws.{head_of}
use Rattle.sort_terms.specs.ChoicesView.{choice_at}
use Rattle.sort_terms.specs.EquationView.{variable_of}
use Rattle.sort_terms.specs.Reading.{IsBare, IsVisible, IsLastNamed}
use Rattle.sort_terms.specs.ReaderView.{signature_read}
use Rattle.sort_terms.specs.ScopeView.{variables_in}
use Rattle.sort_terms.proofs.CountedLemmas.{arguments_of, variable_node, operation_node, of_none, of_some}
use Rattle.sort_terms.proofs.reader.Reader.choices.Goals as goal

pub returns-in-Some : goal.returns-in-Some
returns-in-Some c =
    let is = of_some c.in_ok-variable.field-0 (IsVisible (variables_in c.args.scope.now) (head_of c.args.written.now)
    (arguments_of c.args.written.now))
    (λ v. IsBare (head_of c.args.written.now) (arguments_of c.args.written.now)
    × IsLastNamed (variables_in c.args.scope.now) (head_of c.args.written.now).name (variable_of v.now))
    c.in-Some.variable c.in-Some.is c.in_ok-variable.ensures in
    IfOk-weaker c.variable_choices.result _ _
    (λ choices are. variable_node (signature_read c.args.self.now) (variables_in c.args.scope.now) c.args.written.now c.in_ok-asked.asked
    (variable_of c.in-Some.variable.now) (choice_at choices) c.in_ok-asked.ensures is.0 is.1 are) c.variable_choices.ensures

pub returns-in-None : goal.returns-in-None
returns-in-None c =
    let visible = of_none c.in_ok-variable.field-0 (IsVisible (variables_in c.args.scope.now) (head_of c.args.written.now)
    (arguments_of c.args.written.now))
    (λ v. IsBare (head_of c.args.written.now) (arguments_of c.args.written.now)
    × IsLastNamed (variables_in c.args.scope.now) (head_of c.args.written.now).name (variable_of v.now))
    c.in-None.is c.in_ok-variable.ensures in
    IfOk-weaker c.operation_choices.result _ _
    (λ choices are. operation_node (signature_read c.args.self.now) (variables_in c.args.scope.now) c.args.written.now _ c.in_ok-asked.asked
    (choice_at choices) c.requires c.in_ok-asked.ensures visible are) c.operation_choices.ensures
