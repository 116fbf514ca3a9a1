use Rattle.std.proofs.Common.{arith, sym}
use Rattle.event_offers.proofs.LabelLemmas.{unlike_lengths}
use Rattle.event_offers.proofs.labels.have_same_sorts.Goals as goal

pub returns-then-len : goal.returns-then-len
returns-then-len c = sym (unlike_lengths c.args.terms.now.items c.args.others.now.items (λ e. omega arith))
