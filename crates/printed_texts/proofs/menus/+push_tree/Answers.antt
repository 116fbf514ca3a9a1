use Rattle.std.proofs.Common.{◌∙◌, ◌++◌, List, ap, ap₂, length, sym}
use Rattle.std.proofs.lemmas.Result.{on_ok_weaker}
use Rattle.event_offers.specs.EntryTrees.{entries_among}
use Rattle.event_offers.specs.declared.drafts.Entry.{Entry}
use Rattle.printed_texts.proofs.MenuLemmas.{lines_behind}
use Rattle.printed_texts.proofs.menus.+push_tree.Goals as goal

pub returns-in_ok-push_tree-in-Joined : goal.returns-in_ok-push_tree-in-Joined
returns-in_ok-push_tree-in-Joined t c =
    on_ok_weaker c.push_tree-in-Joined.result
    (lines_behind c.args.signature.now c.args.gates.now c.args.before c.len.result (entries_among c.args.tree.now)
    (entries_among c.deref.result.now) (entries_among c.deref-in-Joined.result.now) _ _ _
    (ap entries_among c.in-Joined.is ∙ ap₂ (λ (xs ys : List Entry). xs ++ ys) (sym (ap entries_among c.deref.ensures))
    (sym (ap entries_among c.deref-in-Joined.ensures)))
    (c.len.ensures ∙ ap (λ t. length (entries_among t)) (c.deref-in-Joined-2.ensures ∙ sym c.deref.ensures))
    c.in_ok-push_tree-in-Joined.ensures) c.push_tree-in-Joined.ensures
