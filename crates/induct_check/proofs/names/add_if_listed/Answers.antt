use Rattle.std.proofs.Common.{[], ◌∷◌, ◌++◌, ap, sym, ◌∙◌}
use Rattle.lotos_base.specs.Name.{spelling}
use Rattle.lotos_base.specs.Substitution.{is_listed}
use Rattle.lotos_base.specs.Signature.{Operation}
use Rattle.induct_parts.proofs.StepLemmas.{added_where, pushed}
use Rattle.induct_check.specs.CertificateReading.{NamedCase, named_behind}
use Rattle.induct_check.specs.NameView.{named_case_in, named_cases_in}
use Rattle.induct_check.proofs.CaseSteps.{operation_here}
use Rattle.induct_check.proofs.names.add_if_listed.Goals as goal

pub returns : goal.returns
returns c = λ o at.
    added_where (is_listed c.args.operations.now c.args.operation) (named_cases_in c.args.made.now.items)
    (named_behind (named_case_in c.args.point.now) (spelling c.args.name.now) (record { number = c.args.operation; operation = o }) ∷ [])
    (named_cases_in c.push.new.self.items) (sym c.is_listed.ensures ∙ c.if-not-is_listed.false)
    (pushed named_case_in c.args.made.now.items c.push.new.self.items c.in_ok-named_behind.field-0 c.in_ok-push.ensures.items
    ∙ ap (λ (x : NamedCase). named_cases_in c.args.made.now.items ++ x ∷ [])
    (c.in_ok-named_behind.ensures c.args.operation
    ∙ ap (λ (p : Operation). named_behind (named_case_in c.args.point.now) (spelling c.args.name.now)
    (record { number = c.args.operation; operation = p }))
    (operation_here c.args.known.now.signature.now c.ops.result.now c.args.operation c.index-ops-operation.result o c.ops.ensures
    c.index-ops-operation.is at)))
