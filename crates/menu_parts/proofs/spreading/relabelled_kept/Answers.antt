use Rattle.std.proofs.Common.{◌∙◌, ap, sym, subst}
use Rattle.std.proofs.lemmas.Result.{IfOk-weaker}
use Rattle.behaviour_semantics.specs.Shape.{relabelled}
use Rattle.behaviour_tree.specs.StateView.{stands_for}
use Rattle.menu_parts.specs.Forms.{IsExactOn}
use Rattle.menu_parts.specs.KeptMenus.{IsKept}
use Rattle.shared_entries.specs.PartRule.{by_rule, under_rule}
use Rattle.menu_parts.specs.Spread.{listed_for}
use Rattle.menu_parts.specs.declared.kept.Kept.{Kept}
use Rattle.menu_parts.proofs.KeptLemmas.{one_kept}
use Rattle.menu_parts.proofs.SpreadKept.{kept_rule}
use Rattle.menu_parts.proofs.spreading.relabelled_kept.Goals as goal

pub returns : goal.returns
returns c =
    IfOk-weaker c.shared.result _ _ (λ made e basis part form h.
    let made_of = kept_rule basis (by_rule (under_rule relabelled c.args.pairs.now.items)) c.args.kept.now.value c.items.result.now
    c.in_ok-items.items.items (c.items.ensures ∙ ap (λ (k : Kept). (listed_for k).items) c.deref.ensures) h.0 c.in_ok-items.ensures in
    one_kept basis c.args.node.now.value _ c.in_ok-node.ensures
    (subst (IsExactOn basis (stands_for c.args.node.now.value)) (sym made_of.same) (form _ h.1)) made_of.terms c.in_ok-below.below
    made.value e (subst (IsKept basis) (sym c.in_ok-below.ensures) h.0)) c.shared.ensures
