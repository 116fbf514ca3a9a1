use Rattle.std.proofs.Common.{◌≡◌, sym, ◌∙◌, subst}
use Rattle.sort_terms.specs.Operations.{operation_of}
use Rattle.certificate_theory.specs.Patterns.{first_pattern}
use Rattle.induct_parts.specs.SettingView.{setting_signature}
use Rattle.induct_parts.specs.CaseView.{IsKnownPattern}
use Rattle.induct_parts.proofs.OperationFacts.{for_operation, operation_within, operation_read}
use Rattle.induct_parts.proofs.PatternLemmas.{first_is, first_known, pattern_of}
use Rattle.induct_parts.proofs.patterns.first.Goals as goal

pub returns-clause-first : goal.returns-clause-first
returns-clause-first c =
    let signature = c.args.setting.now.signature.now in
    let op = c.index-ops-operation.result in
    let within = operation_within signature c.ops.result.now c.args.operation c.requires.0 c.ops.ensures c.requires.1 in
    for_operation (setting_signature c.args.setting.now) c.args.operation
    (λ o. pattern_of c.len.result c.in_ok-term.term ≡ first_pattern (record { number = c.args.operation; operation = o }))
    (operation_of op)
    (operation_read signature c.ops.result.now c.args.operation op c.ops.ensures within c.index-ops-operation.is)
    (first_is c.args.operation (operation_of op) c.in_ok-term.term c.len.result c.in_ok-term.ensures (c.len.ensures ∙ op.arguments.ok.0))

pub returns-clause-known : goal.returns-clause-known
returns-clause-known c =
    let op = c.index-ops-operation.result in
    subst IsKnownPattern
    (sym (first_is c.args.operation (operation_of op) c.in_ok-term.term c.len.result c.in_ok-term.ensures
    (c.len.ensures ∙ op.arguments.ok.0)))
    (first_known (record { number = c.args.operation; operation = operation_of op }))
