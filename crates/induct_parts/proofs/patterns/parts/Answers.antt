use Rattle.lotos_base.specs.Sorting.{Occurs}
use Rattle.sort_terms.specs.SortedView.{term_in}
use Rattle.certificate_theory.specs.Patterns.{split_with, split_patterns}
use Rattle.std.proofs.Common.{refl}
use Rattle.induct_parts.specs.CaseView.{pattern_in, patterns_in}
use Rattle.induct_parts.specs.SettingView.{setting_signature}
use Rattle.induct_parts.proofs.ListedParts.{listed_operation, parts_more, past_operations, within_operations}
use Rattle.induct_parts.proofs.StepLemmas.{all_made, if_listed, listed_makes}
use Rattle.induct_parts.proofs.patterns.parts.Goals as goal

pub add_if_listed-requires-clause-operation : goal.add_if_listed-requires-clause-operation
add_if_listed-requires-clause-operation c =
    listed_operation (λ s. Occurs c.args.number s (term_in c.args.pattern.now.term)) (setting_signature c.args.setting.now)
    c.args.operations.now c.args.sort c.loop-operation.operation
    (within_operations c.args.setting.now.signature.now c.ops-operation-end.result.now c.loop-operation.operation
    c.ops-operation-end.ensures
    c.loop-operation-test.true)
    c.requires.results c.requires.occurs

pub loop-operation-preserved : goal.loop-operation-preserved
loop-operation-preserved c = record {
  made = parts_more (λ s one. split_with (pattern_in c.args.pattern.now) c.args.number s one) (setting_signature c.args.setting.now)
      c.args.operations.now c.args.sort c.loop-operation.operation (patterns_in c.loop-operation.made.items)
      (patterns_in c.add_if_listed.new.made.items)
      (split_patterns (setting_signature c.args.setting.now) (pattern_in c.args.pattern.now) c.args.number c.args.sort
      c.args.operations.now)
      (within_operations c.args.setting.now.signature.now c.ops-operation-end.result.now c.loop-operation.operation
      c.ops-operation-end.ensures
      c.loop-operation-test.true)
      c.requires.results c.in_ok-add_if_listed.ensures.added c.loop-operation.invariant.made;
  known = c.in_ok-add_if_listed.ensures.known c.loop-operation.invariant.known;
}

pub returns-clause-made : goal.returns-clause-made
returns-clause-made c =
    all_made (listed_makes (split_with (pattern_in c.args.pattern.now) c.args.number c.args.sort) c.args.operations.now)
    (if_listed (split_with (pattern_in c.args.pattern.now) c.args.number c.args.sort) c.args.operations.now)
    (setting_signature c.args.setting.now).operations
    (split_patterns (setting_signature c.args.setting.now) (pattern_in c.args.pattern.now) c.args.number c.args.sort
    c.args.operations.now)
    (λ n. refl) c.loop-operation.operation (patterns_in c.loop-operation.made.items)
    (past_operations c.args.setting.now.signature.now c.ops-operation-end.result.now c.loop-operation.operation c.ops-operation-end.ensures
    c.loop-operation-test.false)
    c.loop-operation.invariant.made
