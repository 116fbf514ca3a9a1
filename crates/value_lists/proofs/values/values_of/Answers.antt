-- The values with at most so many operations are found, size by size.
use Rattle.std.proofs.Common.{◌≡◌, length, arith, ap, sym, ◌∙◌, map}
use Rattle.path_order.specs.RulesView.{plain_rules_in}
use Rattle.sort_terms.specs.Operations.{operation_of}
use Rattle.sort_terms.specs.SignatureView.{signature_of}
use Rattle.value_lists.specs.FoundView.{shared_operations_in}
use Rattle.value_lists.specs.TrialView.{profiled_value, values_in}
use Rattle.value_lists.specs.declared.limits.TheConstants.{MAX_VALUES}
use Rattle.value_lists.proofs.CodeLemmas.{fault_handed}
use Rattle.value_lists.proofs.FoundLemmas.{all_fit_up_to, choices_up_to, few_up_to, few_values, full_up_to, list_up_to}
use Rattle.value_lists.proofs.values.values_of.Goals as goal

pub returns-in_err-extend-clause-fault : goal.returns-in_err-extend-clause-fault
returns-in_err-extend-clause-fault c =
    fault_handed c.from_residual-in_err-extend.result c.in_err-extend.field-0.0 _ _ c.from_residual-in_err-extend.ensures.1
    (full_up_to (signature_of c.args.signature.now) (plain_rules_in c.args.rules.now) c.loop-smaller.smaller c.args.size MAX_VALUES
    (shared_operations_in c.as_slice.result.now) (values_in c.loop-smaller.values.items)
    (ap shared_operations_in c.as_slice.ensures.value ∙ c.in_ok-profiles.ensures ∙ ap (map operation_of) c.ops.ensures)
    c.loop-smaller.invariant.0 c.loop-smaller-test.true)
    c.in_err-extend.ensures.fault

pub of_sort-requires : goal.of_sort-requires
of_sort-requires c =
    let done : c.loop-smaller.smaller ≡ c.args.size = omega arith in
    all_fit_up_to (signature_of c.args.signature.now) (plain_rules_in c.args.rules.now) c.loop-smaller.smaller c.args.size
    (values_in c.loop-smaller.values.items) done c.loop-smaller.invariant.0

pub returns-clause-list : goal.returns-clause-list
returns-clause-list c =
    let done : c.loop-smaller.smaller ≡ c.args.size = omega arith in
    list_up_to (signature_of c.args.signature.now) (plain_rules_in c.args.rules.now) c.loop-smaller.smaller c.args.size c.args.sort
    (values_in c.loop-smaller.values.items) c.in_ok-made.made.items done c.loop-smaller.invariant.0 c.in_ok-made.ensures

pub returns-clause-choices : goal.returns-clause-choices
returns-clause-choices c =
    let done : c.loop-smaller.smaller ≡ c.args.size = omega arith in
    choices_up_to (signature_of c.args.signature.now) (plain_rules_in c.args.rules.now) c.loop-smaller.smaller c.args.size c.args.sort
    (values_in c.loop-smaller.values.items) c.in_ok-made.made.items done c.loop-smaller.invariant.0 c.in_ok-made.ensures

pub returns-clause-few : goal.returns-clause-few
returns-clause-few c =
    let done : c.loop-smaller.smaller ≡ c.args.size = omega arith in
    few_values (signature_of c.args.signature.now) (plain_rules_in c.args.rules.now) c.loop-smaller.smaller c.args.size MAX_VALUES
    c.loop-smaller.values.items done c.loop-smaller.invariant.0 c.loop-smaller.invariant.1
