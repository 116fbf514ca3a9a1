use Rattle.behaviour_semantics.proofs.OrderLemmas.{Before-irrefl, Before-trans}
use Rattle.behaviour_semantics.proofs.order.before_is_a_strict_order.Goals as goal

pub returns : goal.returns
returns c = record { irreflexive = Before-irrefl; transitive = Before-trans }
