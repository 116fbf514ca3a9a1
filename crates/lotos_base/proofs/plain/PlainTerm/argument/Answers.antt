use Rattle.std.proofs.Common.{◌≡◌, List, Bor, sym, subst, length, get_or, ltb}
use Rattle.std.specs.Prelude.{is_some, IfSome, ◌∷◌, []}
use Rattle.std.specs.Option.{option_map}
use Rattle.lotos_base.specs.Path.{subterm}
use Rattle.lotos_base.specs.PlainView.{term_of_plain}
use Rattle.lotos_base.specs.declared.plain.PlainTerm.{PlainTerm}
use Rattle.lotos_base.proofs.PlainLemmas.{subterm_found}
use Rattle.lotos_base.proofs.plain.PlainTerm.argument.Goals as goal

-- what the look-up gives
pub returns-in-Node : goal.returns-in-Node
returns-in-Node c =
    let items = c.deref.ensures.value in
    subst (λ (t : PlainTerm). option_map (λ (u : Bor PlainTerm). term_of_plain u.now) c.get.result
    ≡ subterm (c.args.position ∷ []) (term_of_plain t))
    (sym c.in-Node.is)
    (subterm_found c.in-Node.operation c.in-Node.arguments c.args.position c.get.result
    (subst (λ (xs : List PlainTerm). is_some c.get.result ≡ ltb c.args.position (length xs)) items c.get.ensures.lookup.0)
    (subst (λ (xs : List PlainTerm). IfSome c.get.result (λ (x : Bor PlainTerm). x.now ≡ get_or xs c.args.position x.now)) items
    c.get.ensures.lookup.1))
