-- How many declarations a process or an item is, as a declaration.
use Rattle.std.proofs.Common.{◌≡◌, ◌+◌, List, [], ◌∷◌, ◌++◌, ap, arith, sym, ◌∙◌}
use Rattle.syntax_trees.specs.declared.definitions.InnerText.{InnerText, Item, Process}
use Rattle.syntax_trees.specs.declared.definitions.ProcessText.{ProcessText}
use Rattle.syntax_trees.specs.declared.items.ItemText.{ItemText}
use Rattle.syntax_trees.specs.declared.definitions.InnerText.TheFolds.{fold-roll-InnerText}
use Rattle.syntax_trees.specs.declared.definitions.InnerText.TheVariants.{rolls-Item, rolls-Process}
use Rattle.syntax_trees.specs.declared.definitions.InnerText.TheOpen.{InnerText-F}
use Rattle.syntax_trees.specs.TakenItems.{declarations_in}
use Rattle.syntax_trees.specs.TreeViews.{inner_level, inner_of, item_of, process_level, written_process_of}
use Rattle.syntax_trees.specs.WrittenDefinition.{WrittenInner, inner_item}
use Rattle.syntax_trees.specs.Counting.{declarations_by, declared_by_process, declared_in}

pub seen_process : (definition : ProcessText) → inner_of (Process definition) ≡ written_process_of definition
seen_process definition =
    ap inner_of (sym (rolls-Process definition))
    ∙ fold-roll-InnerText WrittenInner WrittenInner inner_level process_level (InnerText-F.Process definition)

pub counts_process : (first : InnerText) (definition : ProcessText) → first ≡ Process definition →
    declarations_by first ≡ declared_by_process definition
counts_process first definition is = ap declarations_by is ∙ ap declarations_in (seen_process definition)

seen_item : (item : ItemText) → inner_of (Item item) ≡ inner_item (item_of item)
seen_item item =
    ap inner_of (sym (rolls-Item item)) ∙ fold-roll-InnerText WrittenInner WrittenInner inner_level process_level (InnerText-F.Item item)

pub counts_item : (first : InnerText) (item : ItemText) → first ≡ Item item → declarations_by first ≡ 1
counts_item first item is = ap declarations_by is ∙ ap declarations_in (seen_item item)

declared_append : (list : List InnerText) (last : InnerText) → declared_in (list ++ last ∷ []) ≡ declared_in list + declarations_by last
declared_append [] last = omega arith
declared_append (first ∷ rest) last = let e = declared_append rest last in omega arith

pub counts_popped : (list popped : List InnerText) (last : InnerText) → list ≡ popped ++ last ∷ [] →
    declared_in list ≡ declared_in popped + declarations_by last
counts_popped list popped last is = ap declared_in is ∙ declared_append popped last
