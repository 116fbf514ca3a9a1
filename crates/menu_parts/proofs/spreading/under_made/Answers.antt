use Rattle.std.proofs.lemmas.Result.{IfOk-weaker}
use Rattle.behaviour_tree.specs.StateView.{stands_for}
use Rattle.behaviour_semantics.specs.Solving.{Entry}
use Rattle.std.proofs.Common.{List}
use Rattle.shared_entries.specs.PartMenus.{relabel_menu}
use Rattle.menu_parts.specs.Spread.{by_way}
use Rattle.menu_parts.proofs.SpreadKept.{ended_kept, ended_none, kept_as_for, under_here}
use Rattle.menu_parts.proofs.spreading.under_made.Goals as goal

pub returns-in-None : goal.returns-in-None
returns-in-None c =
    IfOk-weaker c.shared.result _ _ (λ made e basis part form h.
    under_here basis (by_way c.args.way.now) (stands_for c.args.node.now.value) part c.args.pairs c.args.inner made.value e
    (ended_none basis (λ (entries : List Entry). by_way c.args.way.now (relabel_menu c.args.pairs.items entries)) c.ending.result
    c.deref.result.now c.args.inner.value c.deref.ensures c.in-None.is c.ending.ensures.none_ends h.0) form h) c.shared.ensures

pub returns-in_ok-made-in-Some : goal.returns-in_ok-made-in-Some
returns-in_ok-made-in-Some c =
    IfOk-weaker c.side_made.result _ _ (λ made e basis part form h.
    e basis (stands_for c.args.node.now.value)
    (kept_as_for basis c.args.node.now.value c.in_ok-made-in-Some.made.value (c.in_ok-made-in-Some.ensures basis part form
    (ended_kept basis (λ (entries : List Entry). by_way c.args.way.now (relabel_menu c.args.pairs.items entries)) c.ending.result
    c.deref.result.now c.args.inner.value c.deref.ensures part c.in-Some.kept c.in-Some.is c.ending.ensures.kept c.ending.ensures.menu
    h)))) c.side_made.ensures
