use Rattle.lotos_base.proofs.Members.{read_member}
use Rattle.bisim_check.proofs.matching.state_at.Goals as goal

pub returns : goal.returns
returns c = read_member c.args.states.now.items c.args.number c.index.result.now c.requires c.index.ensures
