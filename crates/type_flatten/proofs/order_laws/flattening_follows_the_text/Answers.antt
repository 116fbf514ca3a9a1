use Rattle.type_flatten.proofs.TextOrderLemmas.{flattening_follows_the_text}
use Rattle.type_flatten.proofs.order_laws.flattening_follows_the_text.Goals as goal

pub returns : goal.returns
returns c = flattening_follows_the_text
