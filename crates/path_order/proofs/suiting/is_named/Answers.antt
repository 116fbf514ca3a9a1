use Rattle.std.proofs.Common.{List, subst, false}
use Rattle.std.specs.Prelude.{◌↔◌, IsTrue, map}
use Rattle.lotos_base.specs.Name.{spelling}
use Rattle.sort_terms.specs.Operations.{sort_of}
use Rattle.sort_terms.specs.declared.operations.Sort.{Sort}
use Rattle.path_order.proofs.SuitLemmas.{IsNamedIn, sort_named_at, sort_named_past}
use Rattle.path_order.proofs.suiting.is_named.Goals as goal

pub returns-in-Some : goal.returns-in-Some
returns-in-Some c =
    subst (λ (sorts : List Sort). IsTrue c.same.result ↔ IsNamedIn (map sort_of sorts) c.args.sort (spelling c.args.name.now))
    c.sorts.ensures
    (sort_named_at c.sorts.result.now c.args.sort c.in-Some.found.now (spelling c.args.name.now) c.same.result
    c.in-Some.ensures.lookup.0 c.in-Some.ensures.lookup.1 c.same.ensures)

pub returns-in-None : goal.returns-in-None
returns-in-None c =
    subst (λ (sorts : List Sort). IsTrue false ↔ IsNamedIn (map sort_of sorts) c.args.sort (spelling c.args.name.now)) c.sorts.ensures
    (sort_named_past c.sorts.result.now c.args.sort (spelling c.args.name.now) c.in-None.ensures.lookup.0)
