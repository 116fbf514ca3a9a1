use Rattle.std.proofs.lemmas.Result.{IfOk-weaker}
use Rattle.lotos_base.specs.WrittenLaws.{head_of}
use Rattle.sort_terms.specs.EquationView.{variable_of}
use Rattle.sort_terms.specs.Reading.{IsLastNamed, NoneNamed}
use Rattle.sort_terms.specs.ReaderView.{signature_read}
use Rattle.sort_terms.specs.ScopeView.{variables_in}
use Rattle.sort_terms.proofs.CountedLemmas.{of_none, of_some}
use Rattle.sort_terms.proofs.UnknownLemmas.{variable_is_known, operation_is_known}
use Rattle.sort_terms.proofs.reader.Reader.is_known.Goals as goal

pub returns-in-Some : goal.returns-in-Some
returns-in-Some c =
    variable_is_known (signature_read c.args.self.now) (variables_in c.args.scope.now) c.args.written.now
    (variable_of c.in-Some.field-0.now) c.in-Prefix.is
    (of_some c.in_ok-last_named-in-Prefix.field-0 (NoneNamed (variables_in c.args.scope.now) (head_of c.args.written.now).name)
    (λ v. IsLastNamed (variables_in c.args.scope.now) (head_of c.args.written.now).name (variable_of v.now)) c.in-Some.field-0 c.in-Some.is
    c.in_ok-last_named-in-Prefix.ensures)

pub returns-in-None : goal.returns-in-None
returns-in-None c =
    IfOk-weaker c.is_operation-in-None.result _ _
    (λ known is. operation_is_known (signature_read c.args.self.now) (variables_in c.args.scope.now) c.args.written.now known c.in-Prefix.is
    (of_none c.in_ok-last_named-in-Prefix.field-0 (NoneNamed (variables_in c.args.scope.now) (head_of c.args.written.now).name)
    (λ v. IsLastNamed (variables_in c.args.scope.now) (head_of c.args.written.now).name (variable_of v.now)) c.in-None.is
    c.in_ok-last_named-in-Prefix.ensures) is)
    c.is_operation-in-None.ensures
