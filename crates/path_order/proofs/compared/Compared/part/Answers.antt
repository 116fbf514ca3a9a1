use Rattle.std.proofs.Common.{◌≡◌, List, Bor, ap, sym, ◌∙◌, subst, length, get_or, ltb}
use Rattle.std.specs.Prelude.{is_some, IfSome}
use Rattle.std.specs.Option.{option_map}
use Rattle.path_order.specs.Comparison.{ComparisonTable, part_in}
use Rattle.path_order.specs.ComparedView.{compared_table_of}
use Rattle.path_order.specs.declared.compared.Compared.{Compared}
use Rattle.path_order.proofs.CodeLemmas.{part_found, table_of-Node}
use Rattle.path_order.proofs.compared.Compared.part.Goals as goal

-- what the look-up gives
pub returns-in-Node : goal.returns-in-Node
returns-in-Node c =
    let items = c.deref.ensures.value in
    subst (λ (p : ComparisonTable). option_map (λ (u : Bor Compared). compared_table_of u.now) c.get.result ≡ part_in c.args.position p)
    (sym (ap compared_table_of c.in-Node.is ∙ table_of-Node c.in-Node.equal c.in-Node.greater c.in-Node.arguments))
    (part_found c.in-Node.equal c.in-Node.greater c.in-Node.arguments.items c.args.position c.get.result
    (subst (λ (xs : List Compared). is_some c.get.result ≡ ltb c.args.position (length xs)) items c.get.ensures.lookup.0)
    (subst (λ (xs : List Compared). IfSome c.get.result (λ (x : Bor Compared). x.now ≡ get_or xs c.args.position x.now)) items
    c.get.ensures.lookup.1))
