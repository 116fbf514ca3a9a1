use Rattle.type_flatten.proofs.FlatDataLemmas.{data_made}
use Rattle.type_flatten.proofs.flat_data.data_of.Goals as goal

pub returns : goal.returns
returns c = data_made c.args.presentation _ c.in_ok-signature.ensures.lists c.into_equations.ensures c.requires.sound
