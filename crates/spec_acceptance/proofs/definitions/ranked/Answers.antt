use Rattle.spec_acceptance.proofs.KnownLemmas.{ranked_fine, ranked_faulty}
use Rattle.spec_acceptance.proofs.definitions.ranked.Goals as goal

pub returns-in-Ok : goal.returns-in-Ok
returns-in-Ok c = ranked_fine c.args.known c.in-Ok.ranks c.in-Ok.ensures.exact c.in-Ok.ensures.guarded

pub returns-in-Err : goal.returns-in-Err
returns-in-Err c = ranked_faulty c.args.known c.in-Err.fault c.rank_refusal.result c.in-Err.ensures.exact c.rank_refusal.ensures
