use Rattle.std.proofs.Common.{◌∷◌, ◌++◌, ℕ, List, ap, ◌∙◌, subst, arith}
use Rattle.lotos_base.specs.Signature.{Signature, Operation}
use Rattle.sort_terms.specs.Operations.{operation_of}
use Rattle.certificate_theory.specs.Splits.{IsInScope}
use Rattle.induct_parts.specs.CaseView.{case_in}
use Rattle.induct_parts.specs.SettingView.{setting_signature}
use Rattle.induct_parts.specs.StatementView.{IsStatementOf}
use Rattle.induct_parts.specs.declared.cases.Case.{Case}
use Rattle.induct_parts.proofs.OperationFacts.{for_operation, operation_within, operation_read, joined_room}
use Rattle.induct_parts.proofs.PartSteps.{on_new, new_in_goal, new_over, made_part_for, made_part_known}
use Rattle.induct_parts.proofs.splits.part.Goals as goal

pub operation_on-requires : goal.operation_on-requires
operation_on-requires g c =
    let room = joined_room c.in_ok-sorts.sorts c.args.point.now.sorts.items c.index-ops-operation.result.arguments.items
    (c.in_ok-sorts.ensures ∙ (λ i. c.as_slice.ensures.value i ++ c.as_slice-arguments.ensures.value i)) in
    omega (arith, room, c.len.ensures, c.args.point.now.sorts.ok.0)

pub behind-requires-clause-put : goal.behind-requires-clause-put
behind-requires-clause-put g c =
    let op = c.index-ops-operation.result in
    let signature = c.args.setting.now.signature.now in
    let within = operation_within signature c.ops.result.now c.args.operation c.requires.scope.0 c.ops.ensures c.requires.scope.1 in
    let read = operation_read signature c.ops.result.now c.args.operation op c.ops.ensures within c.index-ops-operation.is in
    record {
      scope = for_operation (setting_signature c.args.setting.now) c.args.operation
          (λ (o : Operation). IsInScope (case_in c.args.point.now) c.args.number o.result) c.requires.scope.0 c.requires.scope.1
          c.requires.scope.2 (operation_of op) read;
      is_operation = read;
      term = on_new c.args.point.now c.args.operation c.len.result op c.in_ok-term.term
          (c.len.ensures ∙ c.args.point.now.sorts.ok.0) c.in_ok-term.ensures;
    }

pub behind-requires-clause-room : goal.behind-requires-clause-room
behind-requires-clause-room g c =
    let room = joined_room c.in_ok-sorts.sorts c.args.point.now.sorts.items c.index-ops-operation.result.arguments.items
    (c.in_ok-sorts.ensures ∙ (λ i. c.as_slice.ensures.value i ++ c.as_slice-arguments.ensures.value i)) in
    omega (arith, room)

pub put_for-requires : goal.put_for-requires
put_for-requires g c =
    let op = c.index-ops-operation.result in
    let signature = c.args.setting.now.signature.now in
    let within = operation_within signature c.ops.result.now c.args.operation c.requires.scope.0 c.ops.ensures c.requires.scope.1 in
    let read = operation_read signature c.ops.result.now c.args.operation op c.ops.ensures within c.index-ops-operation.is in
    new_in_goal c.args.setting.now c.args.proving.now c.args.point.now c.args.number c.args.operation op c.in_ok-term.term
    c.requires.known
    (for_operation (setting_signature c.args.setting.now) c.args.operation
    (λ (o : Operation). IsInScope (case_in c.args.point.now) c.args.number o.result) c.requires.scope.0 c.requires.scope.1
    c.requires.scope.2 (operation_of op) read)
    read
    (on_new c.args.point.now c.args.operation c.len.result op c.in_ok-term.term (c.len.ensures ∙ c.args.point.now.sorts.ok.0)
    c.in_ok-term.ensures)

pub normal_both-requires : goal.normal_both-requires
normal_both-requires g c =
    let op = c.index-ops-operation.result in
    let signature = c.args.setting.now.signature.now in
    let within = operation_within signature c.ops.result.now c.args.operation c.requires.scope.0 c.ops.ensures c.requires.scope.1 in
    let read = operation_read signature c.ops.result.now c.args.operation op c.ops.ensures within c.index-ops-operation.is in
    subst (λ (s : Signature). IsStatementOf s c.in_ok-with_term.with_term) c.requires.set.signature
    (c.in_ok-with_term.ensures.over (setting_signature c.args.setting.now) c.requires.known.goal
    (new_over c.args.setting.now c.args.proving.now c.args.point.now c.args.number c.args.operation op c.in_ok-term.term
    c.requires.known
    (for_operation (setting_signature c.args.setting.now) c.args.operation
    (λ (o : Operation). IsInScope (case_in c.args.point.now) c.args.number o.result) c.requires.scope.0 c.requires.scope.1
    c.requires.scope.2 (operation_of op) read)
    read
    (on_new c.args.point.now c.args.operation c.len.result op c.in_ok-term.term (c.len.ensures ∙ c.args.point.now.sorts.ok.0)
    c.in_ok-term.ensures)))

pub returns-clause-made : goal.returns-clause-made
returns-clause-made g c =
    let op = c.index-ops-operation.result in
    let signature = c.args.setting.now.signature.now in
    let within = operation_within signature c.ops.result.now c.args.operation c.requires.scope.0 c.ops.ensures c.requires.scope.1 in
    let read = operation_read signature c.ops.result.now c.args.operation op c.ops.ensures within c.index-ops-operation.is in
    let part : Case = record {
      sorts = c.in_ok-sorts.sorts;
      gone = c.in_ok-gone.gone;
      hypotheses = c.in_ok-hypotheses.hypotheses;
      goal = c.in_ok-goal.goal;
    } in
    made_part_for c.args.setting.now c.args.proving.now c.args.point.now c.args.number c.args.operation op c.in_ok-term.term
    c.requires.known
    (for_operation (setting_signature c.args.setting.now) c.args.operation
    (λ (o : Operation). IsInScope (case_in c.args.point.now) c.args.number o.result) c.requires.scope.0 c.requires.scope.1
    c.requires.scope.2 (operation_of op) read)
    read
    (on_new c.args.point.now c.args.operation c.len.result op c.in_ok-term.term (c.len.ensures ∙ c.args.point.now.sorts.ok.0)
    c.in_ok-term.ensures)
    (g.D.Deciding.known_data c.args.data_.now) (g.D.Deciding.canon c.args.data_.now) part c.in_ok-with_term.with_term
    (c.in_ok-sorts.ensures ∙ (λ i. c.as_slice.ensures.value i ++ c.as_slice-arguments.ensures.value i))
    (c.in_ok-gone.ensures ∙ ap (λ (ns : List ℕ). c.args.number ∷ ns) c.as_slice-2.ensures.value)
    c.in_ok-hypotheses.ensures.behind c.in_ok-with_term.ensures.made c.in_ok-goal.ensures.made

pub returns-clause-known : goal.returns-clause-known
returns-clause-known g c =
    let op = c.index-ops-operation.result in
    let signature = c.args.setting.now.signature.now in
    let within = operation_within signature c.ops.result.now c.args.operation c.requires.scope.0 c.ops.ensures c.requires.scope.1 in
    let read = operation_read signature c.ops.result.now c.args.operation op c.ops.ensures within c.index-ops-operation.is in
    let part : Case = record {
      sorts = c.in_ok-sorts.sorts;
      gone = c.in_ok-gone.gone;
      hypotheses = c.in_ok-hypotheses.hypotheses;
      goal = c.in_ok-goal.goal;
    } in
    made_part_known c.args.setting.now c.args.proving.now c.args.point.now c.args.number c.args.operation op c.in_ok-term.term
    c.requires.known
    (for_operation (setting_signature c.args.setting.now) c.args.operation
    (λ (o : Operation). IsInScope (case_in c.args.point.now) c.args.number o.result) c.requires.scope.0 c.requires.scope.1
    c.requires.scope.2 (operation_of op) read)
    read
    (on_new c.args.point.now c.args.operation c.len.result op c.in_ok-term.term (c.len.ensures ∙ c.args.point.now.sorts.ok.0)
    c.in_ok-term.ensures)
    (g.D.Deciding.known_data c.args.data_.now) (g.D.Deciding.canon c.args.data_.now) part c.in_ok-with_term.with_term
    (c.in_ok-sorts.ensures ∙ (λ i. c.as_slice.ensures.value i ++ c.as_slice-arguments.ensures.value i))
    (c.in_ok-gone.ensures ∙ ap (λ (ns : List ℕ). c.args.number ∷ ns) c.as_slice-2.ensures.value)
    c.in_ok-hypotheses.ensures.behind c.in_ok-with_term.ensures.made c.in_ok-goal.ensures.made c.requires.set
    (c.in_ok-goal.ensures.over _ c.requires.set.signature) c.in_ok-hypotheses.ensures.over
