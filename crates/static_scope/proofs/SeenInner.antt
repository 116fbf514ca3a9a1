-- What a declaration of a `where` is as it is written.
use Rattle.std.proofs.Common.{◌≡◌, ap, sym, ◌∙◌}
use Rattle.syntax_trees.specs.declared.definitions.InnerText.{InnerText, Item, Process}
use Rattle.syntax_trees.specs.declared.definitions.ProcessText.{ProcessText}
use Rattle.syntax_trees.specs.declared.definitions.InnerText.TheFolds.{fold-roll-InnerText, fold_out-ProcessText}
use Rattle.syntax_trees.specs.declared.definitions.InnerText.TheVariants.{rolls-Item}
use Rattle.syntax_trees.specs.declared.definitions.InnerText.TheOpen.{InnerText-F}
use Rattle.syntax_trees.specs.declared.items.ItemText.{ItemText}
use Rattle.syntax_trees.specs.TreeViews.{inner_of, inner_level, process_level, item_of}
use Rattle.syntax_trees.specs.WrittenDefinition.{WrittenInner, inner_item}
use Rattle.syntax_trees.proofs.Counts.{seen_process}
use Rattle.static_scope.specs.ProcessView.{written_definition}

pub seen_definition : (inner : InnerText) (text : ProcessText) → inner ≡ Process text → inner_of inner ≡ written_definition text
seen_definition inner text is =
    ap inner_of is ∙ seen_process text ∙ fold_out-ProcessText WrittenInner WrittenInner inner_level process_level text

pub seen_item : (inner : InnerText) (item : ItemText) → inner ≡ Item item → inner_of inner ≡ inner_item (item_of item)
seen_item inner item is =
    ap inner_of is ∙ ap inner_of (sym (rolls-Item item))
    ∙ fold-roll-InnerText WrittenInner WrittenInner inner_level process_level (InnerText-F.Item item)
