use Rattle.std.proofs.Common.{◌≡◌, ◌++◌, ◌∷◌, [], ap, sym, ◌∙◌}
use Rattle.lotos_base.specs.Signature.{Operation}
use Rattle.lotos_base.specs.Sorting.{Occurs}
use Rattle.lotos_base.specs.Substitution.{is_listed}
use Rattle.sort_terms.specs.Operations.{operation_of}
use Rattle.sort_terms.specs.SortedView.{term_in}
use Rattle.certificate_theory.specs.Patterns.{Pattern as PlainPattern, split_with}
use Rattle.induct_parts.specs.SettingView.{setting_signature}
use Rattle.induct_parts.specs.CaseView.{pattern_in, patterns_in, IsKnownPattern}
use Rattle.induct_parts.proofs.OperationFacts.{for_operation, operation_within, operation_read}
use Rattle.induct_parts.proofs.StepLemmas.{kept_unless, added_where, pushed, each_pushed}
use Rattle.induct_parts.proofs.patterns.add_if_listed.Goals as goal

pub returns-then-not-is_listed-clause-added : goal.returns-then-not-is_listed-clause-added
returns-then-not-is_listed-clause-added c = λ o at.
    kept_unless (is_listed c.args.operations.now c.args.operation) (patterns_in c.args.made.now.items) _
    (sym c.is_listed.ensures ∙ cc c.if-not-is_listed.true)

pub part-requires-clause-occurs : goal.part-requires-clause-occurs
part-requires-clause-occurs c =
    let signature = c.args.setting.now.signature.now in
    let op = c.index-ops-operation.result in
    let within = operation_within signature c.ops.result.now c.args.operation c.requires.operation.0 c.ops.ensures c.requires.operation.1 in
    for_operation (setting_signature c.args.setting.now) c.args.operation
    (λ (o : Operation). Occurs c.args.number o.result (term_in c.args.pattern.now.term)) c.requires.operation.0 c.requires.operation.1
    (c.requires.operation.2 (sym c.is_listed.ensures ∙ cc c.if-not-is_listed.false)) (operation_of op)
    (operation_read signature c.ops.result.now c.args.operation op c.ops.ensures within c.index-ops-operation.is)

pub returns-clause-added : goal.returns-clause-added
returns-clause-added c =
    let signature = c.args.setting.now.signature.now in
    let op = c.index-ops-operation.result in
    let within = operation_within signature c.ops.result.now c.args.operation c.requires.operation.0 c.ops.ensures c.requires.operation.1 in
    λ o at.
    added_where (is_listed c.args.operations.now c.args.operation) (patterns_in c.args.made.now.items) _
    (patterns_in c.push.new.self.items) (sym c.is_listed.ensures ∙ cc c.if-not-is_listed.false)
    (pushed pattern_in c.args.made.now.items c.push.new.self.items c.in_ok-part.part c.in_ok-push.ensures.items
    ∙ ap (λ (p : PlainPattern). patterns_in c.args.made.now.items ++ p ∷ [])
    (for_operation (setting_signature c.args.setting.now) c.args.operation
    (λ (o : Operation). pattern_in c.in_ok-part.part
    ≡ split_with (pattern_in c.args.pattern.now) c.args.number o.result (record { number = c.args.operation; operation = o }))
    (operation_of op)
    (operation_read signature c.ops.result.now c.args.operation op c.ops.ensures within c.index-ops-operation.is)
    c.in_ok-part.ensures.made o at))

pub returns-clause-known : goal.returns-clause-known
returns-clause-known c = λ each.
    each_pushed (λ p. IsKnownPattern (pattern_in p)) c.args.made.now.items c.push.new.self.items c.in_ok-part.part
    c.in_ok-push.ensures.items c.in_ok-part.ensures.known each
