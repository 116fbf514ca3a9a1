use Rattle.std.proofs.Common.{◌∙◌, ap, sym, subst}
use Rattle.std.specs.Prelude.{Vec}
use Rattle.std.specs.declared.alloc.Global.{Global}
use Rattle.std.proofs.lemmas.Result.{IfOk-weaker}
use Rattle.behaviour_semantics.specs.Behaviour.{no_gates}
use Rattle.behaviour_tree.specs.StateView.{stands_for}
use Rattle.menu_parts.specs.Forms.{IsExactOn}
use Rattle.shared_entries.specs.Joined.{AreBeside}
use Rattle.menu_parts.specs.KeptMenus.{IsKept}
use Rattle.menu_parts.specs.Spread.{listed_for}
use Rattle.shared_entries.specs.declared.items.Item.{Item}
use Rattle.menu_parts.specs.declared.kept.Kept.{Kept}
use Rattle.step_taker.specs.Taken.{ground_of}
use Rattle.menu_parts.proofs.KeptLemmas.{two_kept}
use Rattle.menu_parts.proofs.SpreadKept.{kept_order}
use Rattle.menu_parts.proofs.spreading.both_kept.Goals as goal

pub beside-requires-clause-lefts : goal.beside-requires-clause-lefts
beside-requires-clause-lefts g c =
    kept_order (ground_of (g.D.Deciding.known_data c.args.decider.now) (g.D.Deciding.canon c.args.decider.now)
    c.args.making.now.spec.now) c.requires.base (stands_for c.args.left.now.value) c.args.first.now.value c.items-lefts.result.now
    (c.items-lefts.ensures ∙ ap (λ (k : Kept). (listed_for k).items) c.deref.ensures) c.requires.left.passable.closed c.requires.first

pub beside-requires-clause-rights : goal.beside-requires-clause-rights
beside-requires-clause-rights g c =
    kept_order (ground_of (g.D.Deciding.known_data c.args.decider.now) (g.D.Deciding.canon c.args.decider.now)
    c.args.making.now.spec.now) c.requires.base (stands_for c.args.right.now.value) c.args.second.now.value c.items-rights.result.now
    (c.items-rights.ensures ∙ ap (λ (k : Kept). (listed_for k).items) c.deref-2.ensures) c.requires.right.passable.closed c.requires.second

pub returns-clause-kept : goal.returns-clause-kept
returns-clause-kept g c =
    let basis = ground_of (g.D.Deciding.known_data c.args.decider.now) (g.D.Deciding.canon c.args.decider.now) c.args.making.now.spec.now in
    let lefts = c.items-lefts.ensures ∙ ap (λ (k : Kept). (listed_for k).items) c.deref.ensures in
    let rights = c.items-rights.ensures ∙ ap (λ (k : Kept). (listed_for k).items) c.deref-2.ensures in
    let made_of = subst (λ (v : Vec Item Global). AreBeside basis.data_ basis.canon no_gates
    (listed_for c.args.first.now.value).items.items v.items c.in_ok-items.items.items) rights
    (subst (λ (v : Vec Item Global). AreBeside basis.data_ basis.canon no_gates v.items c.items-rights.result.now.items
    c.in_ok-items.items.items) lefts c.in_ok-items.ensures.beside) in
    IfOk-weaker c.shared.result _ _ (λ made e.
    two_kept basis c.args.node.now.value _ c.in_ok-node.ensures
    (subst (IsExactOn basis (stands_for c.args.node.now.value)) (sym made_of.same)
    (c.requires.form _ _ made_of.boths c.requires.first.1 c.requires.second.1 made_of.solved)) made_of.terms
    c.in_ok-one.one c.in_ok-other.other made.value e (subst (IsKept basis) (sym c.in_ok-one.ensures) c.requires.first.0)
    (subst (IsKept basis) (sym c.in_ok-other.ensures) c.requires.second.0)) c.shared.ensures
