use Rattle.std.specs.Prelude.{nat_eq}
use Rattle.type_equations.proofs.CollectLemmas.{found_at, found_nowhere}
use Rattle.type_equations.proofs.numbering.number_in_order.Goals as goal

pub returns-in-Some : goal.returns-in-Some
returns-in-Some c = found_at (nat_eq c.args.number) c.args.order.now.keys c.in-Some.position c.in-Some.ensures.index

pub returns-in-None : goal.returns-in-None
returns-in-None c =
    found_nowhere (nat_eq c.args.number) c.args.order.now.keys c.len.result c.len.ensures.len c.in-None.ensures.index
