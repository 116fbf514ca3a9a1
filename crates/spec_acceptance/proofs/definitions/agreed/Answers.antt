use Rattle.spec_acceptance.proofs.KnownLemmas.{agreed_fine, agreed_faulty}
use Rattle.spec_acceptance.proofs.definitions.agreed.Goals as goal

pub returns-in-Ok : goal.returns-in-Ok
returns-in-Ok c = agreed_fine c.args.known c.in-Ok.ensures

pub returns-in-Err : goal.returns-in-Err
returns-in-Err c = agreed_faulty c.args.known c.in-Err.fault c.exit_refusal.result c.in-Err.ensures c.exit_refusal.ensures
