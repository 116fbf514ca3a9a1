use Rattle.std.proofs.Common.{ap, ◌∙◌, ◌∷◌, ◌++◌, map, subst, take, sym, arith}
use Rattle.lotos_base.specs.Sorting.{IsGround}
use Rattle.sort_terms.specs.MadeTerms.{made_of}
use Rattle.sort_terms.specs.TermView.{profiled_of, term_of}
use Rattle.sort_terms.specs.declared.terms.Term.{Term}
use Rattle.sort_terms.proofs.BuiltLists.{node_with_items, profiled_Var}
use Rattle.sort_terms.proofs.CopyLemmas.{made_more}
use Rattle.sort_terms.proofs.SizeLemmas.{size_node, size_some}
use Rattle.sort_terms.specs.TermSize.{profiled_sizes}
use Rattle.term_match.specs.ProfiledInstance.{profiled_instance}
use Rattle.event_offers.specs.Rebuilt.{rebuilt_by}
use Rattle.event_offers.proofs.ChangedLemmas.{instance_of_ground}
use Rattle.event_offers.proofs.RebuildLemmas.{head_begun, rebuilt_next, sizes_all, turns_next}
use Rattle.event_offers.proofs.rebuilding.begin.Goals as goal

pub returns-in_ok-push-in-Var-clause-same : goal.returns-in_ok-push-in-Var-clause-same
returns-in_ok-push-in-Var-clause-same g c =
    let values = g.R.Replacing.put_for c.args.values.now in
    ap (rebuilt_by values c.args.left.now.items)
    (made_more c.push.new.self.items c.args.made.now.items c.in_ok-value-in-Var.value c.in_ok-push-in-Var.ensures.items
    ∙ ap (λ t. t ∷ made_of c.args.made.now.items)
    (c.in_ok-value-in-Var.ensures
    ∙ ap (profiled_instance values) (sym (ap profiled_of c.in-Var.is ∙ profiled_Var c.in-Var.number c.in-Var.sort))))

pub returns-in_ok-push-in-Var-clause-less : goal.returns-in_ok-push-in-Var-clause-less
returns-in_ok-push-in-Var-clause-less g c = let some = size_some c.args.term.now in omega (arith, some)

pub returns-in_ok-push-in-Node-3-clause-same : goal.returns-in_ok-push-in-Node-3-clause-same
returns-in_ok-push-in-Node-3-clause-same g c =
    let values = g.R.Replacing.put_for c.args.values.now in
    let made = made_of c.args.made.now.items in
    let ts = c.items-arguments.result.now.items in
    rebuilt_next values c.push-in-Node-2.new.self.items c.push-in-Node.new.self.items _ made c.in_ok-push-in-Node-3.ensures.items
    ∙ rebuilt_next values c.push-in-Node.new.self.items c.args.left.now.items _
    (map (profiled_instance values) (map profiled_of (take c.len-count.result ts)) ++ made) c.in_ok-push-in-Node-2.ensures.items
    ∙ ap (rebuilt_by values c.args.left.now.items)
    (head_begun values c.in-Node.op c.len-count.result c.in-Node.profile ts made (c.len-count.ensures ∙ c.items-arguments.result.now.ok.0)
    ∙ ap (λ t. profiled_instance values t ∷ made)
    (sym (node_with_items _ c.in-Node.op c.in-Node.profile c.in-Node.arguments c.items-arguments.result.now.items c.in-Node.is
    c.items-arguments.ensures)))

pub returns-in_ok-push-in-Node-3-clause-less : goal.returns-in_ok-push-in-Node-3-clause-less
returns-in_ok-push-in-Node-3-clause-less g c =
    let first = turns_next c.push-in-Node.new.self.items c.args.left.now.items _ c.in_ok-push-in-Node-2.ensures.items in
    let second = turns_next c.push-in-Node-2.new.self.items c.push-in-Node.new.self.items _ c.in_ok-push-in-Node-3.ensures.items in
    let whole = size_node c.args.term.now c.in-Node.op c.in-Node.profile c.in-Node.arguments c.in-Node.is in
    let own = ap profiled_sizes c.items-arguments.ensures in
    let sizes = sizes_all c.items-arguments.result.now.items c.len-count.result (c.len-count.ensures ∙ c.items-arguments.result.now.ok.0) in
    omega (arith, first, second, whole, own, sizes)

-- an operation that is known to have no variable
pub returns-then-facts-clause-same : goal.returns-then-facts-clause-same
returns-then-facts-clause-same g c =
    let values = g.R.Replacing.put_for c.args.values.now in
    let ground = subst (λ (t : Term). IsGround (term_of t)) (sym c.in-Node.is) (c.facts.ensures.0 c.if-facts.true) in
    ap (rebuilt_by values c.args.left.now.items)
    (made_more c.push-then-facts.new.self.items c.args.made.now.items c.in_ok-copy-in-Node.field-0 c.in_ok-push-in-Node.ensures.items
    ∙ ap (λ t. t ∷ made_of c.args.made.now.items)
    (c.in_ok-copy-in-Node.ensures ∙ sym (instance_of_ground values (profiled_of c.args.term.now) ground)))
