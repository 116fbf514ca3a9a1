-- What is found for the operations so far and for the rest is what is found for all.
use Rattle.std.proofs.Common.{arith, refl}
use Rattle.value_lists.specs.FoundView.{found_for_each, shared_operations_in}
use Rattle.value_lists.specs.TrialView.{values_in}
use Rattle.value_lists.specs.declared.limits.TheConstants.{MAX_VALUES}
use Rattle.value_lists.proofs.CodeLemmas.{fault_handed}
use Rattle.value_lists.proofs.FoundLemmas.{next_full, next_step}
use Rattle.value_lists.proofs.values.next_values.Goals as goal

pub returns-in_err-search-clause-fault : goal.returns-in_err-search-clause-fault
returns-in_err-search-clause-fault c =
    fault_handed c.from_residual.result c.in_err-search.field-0.0 _ _ c.from_residual.ensures.1
    (next_full c.args.rules.now c.args.smaller.now.items c.as_slice.result.now c.loop-number.found.items c.args.size c.loop-number.number
    MAX_VALUES _ c.len-room.result c.args.profiles.now c.index-profiles-number.result
    (found_for_each c.args.rules.now (values_in c.args.smaller.now.items) c.args.size 0 (shared_operations_in c.args.profiles.now))
    c.loop-number-test.true c.index-profiles-number.is c.as_slice.ensures.value
    (omega (arith, c.len-room.ensures, c.args.smaller.now.ok.0)) c.requires.room refl c.loop-number.invariant.0)
    c.in_err-search.ensures.fault

pub loop-number-preserved : goal.loop-number-preserved
loop-number-preserved c = (
  next_step c.args.rules.now c.args.smaller.now.items c.as_slice.result.now c.loop-number.found.items c.search.new.found.items c.args.size
      c.loop-number.number c.args.profiles.now c.index-profiles-number.result
      (found_for_each c.args.rules.now (values_in c.args.smaller.now.items) c.args.size 0 (shared_operations_in c.args.profiles.now))
      c.loop-number-test.true c.index-profiles-number.is c.as_slice.ensures.value c.in_ok-search.ensures.found c.loop-number.invariant.0,
  c.in_ok-search.ensures.room,
)
