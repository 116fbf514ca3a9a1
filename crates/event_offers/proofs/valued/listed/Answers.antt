use Rattle.std.proofs.Common.{arith, ◌∙◌}
use Rattle.sort_terms.proofs.BuiltLists.{profiled_Var}
use Rattle.event_offers.proofs.ValueLemmas.{past_the_end}
use Rattle.event_offers.proofs.valued.listed.Goals as goal

pub returns : goal.returns
returns c = profiled_Var _ _ ∙ past_the_end c.args.values.now c.args.number c.args.sort (omega arith)
