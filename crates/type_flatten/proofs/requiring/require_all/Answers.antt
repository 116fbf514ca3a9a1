use Rattle.type_flatten.proofs.requiring.require_all.Goals as goal

pub require_among-requires : goal.require_among-requires
require_among-requires c = record { types = c.new-types.ensures; required = c.requires }

pub returns : goal.returns
returns c = c.require_among.ensures
