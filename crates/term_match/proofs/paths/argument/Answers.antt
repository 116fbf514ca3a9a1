use Rattle.std.proofs.Common.{◌≡◌, List, Bor, sym, subst, length, get_or, ltb}
use Rattle.std.specs.Prelude.{is_some, IfSome, ◌∷◌, []}
use Rattle.std.specs.Option.{option_map}
use Rattle.sort_terms.specs.Operations.{operation_of}
use Rattle.sort_terms.specs.ProfiledTerm.{ProfiledTerm}
use Rattle.sort_terms.specs.TermView.{profiled_of}
use Rattle.sort_terms.specs.declared.terms.Term.{Term}
use Rattle.sort_terms.proofs.BuiltLists.{node_with_items}
use Rattle.term_match.specs.ProfiledPath.{profiled_subterm}
use Rattle.term_match.proofs.PathLemmas.{argument_found}
use Rattle.term_match.proofs.paths.argument.Goals as goal

-- what the look-up gives
pub returns-in-Node : goal.returns-in-Node
returns-in-Node c =
    let items = c.deref.ensures.value in
    subst (λ (p : ProfiledTerm). option_map (λ (u : Bor Term). profiled_of u.now) c.get.result ≡ profiled_subterm (c.args.position ∷ []) p)
    (sym (node_with_items _ c.in-Node.op c.in-Node.profile c.in-Node.arguments c.items.result.now.items c.in-Node.is c.items.ensures))
    (argument_found c.in-Node.op (operation_of c.in-Node.profile.value) c.items.result.now.items c.args.position c.get.result
    (subst (λ (xs : List Term). is_some c.get.result ≡ ltb c.args.position (length xs)) items c.get.ensures.lookup.0)
    (subst (λ (xs : List Term). IfSome c.get.result (λ (x : Bor Term). x.now ≡ get_or xs c.args.position x.now)) items
    c.get.ensures.lookup.1))
