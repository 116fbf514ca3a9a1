use Rattle.std.proofs.Common.{refl}
use Rattle.sort_terms.specs.SortedView.{profiled_in}
use Rattle.event_offers.proofs.ChangedLemmas.{ground_stays, ground_stays_bare}
use Rattle.event_offers.proofs.renaming.Renaming.change_operation.Goals as goal

pub returns-then-ground-clause-same : goal.returns-then-ground-clause-same
returns-then-ground-clause-same c = ground_stays_bare c.args.self.now (profiled_in c.args.term.now) (c.if-ground.ensures.0 refl)

pub returns-then-ground-clause-profiles : goal.returns-then-ground-clause-profiles
returns-then-ground-clause-profiles c = ground_stays c.args.self.now (profiled_in c.args.term.now) (c.if-ground.ensures.0 refl)
