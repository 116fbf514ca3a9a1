use Rattle.std.proofs.Common.{◌≡◌, ◌++◌, ◌*◌, ◌+◌, ◌-◌, ◌≤◌, map, length}
use Rattle.std.specs.Vec.Iter.{into_iter_items, into_iter_len}
use Rattle.syntax_trees.specs.TreeViews.{item_of, placed_names_of}
use Rattle.lotos_grammar.specs.Gathering.{library_limit, item, mention}
use Rattle.lotos_grammar.specs.GatheredView.{gathered_of}
use Rattle.lotos_grammar.specs.Progress.{IsDone}
use Rattle.lotos_grammar.proofs.gathering.+walk.Given as goal

-- another library may be read so many times, and each time one function calls the next
abbrev pub decreases-add_library : goal.decreases-add_library
decreases-add_library g l = 4 * (library_limit - length l.so_far.now.libraries.items)

abbrev pub decreases-add_libraries : goal.decreases-add_libraries
decreases-add_libraries g l = 4 * (library_limit - length l.so_far.now.libraries.items) + 1

abbrev pub decreases-add_item : goal.decreases-add_item
decreases-add_item g l = 4 * (library_limit - length l.so_far.now.libraries.items) + 2

abbrev pub decreases-add_items : goal.decreases-add_items
decreases-add_items g l = 4 * (library_limit - length l.so_far.now.libraries.items) + 3

-- the items before this one were looked at
abbrev pub invariant-add_items-loop-item : goal.invariant-add_items-loop-item
invariant-add_items-loop-item g l =
    IsDone
    (g.F.Shelf.state l.fn.shelf) (g.F.Shelf.state l.shelf)
    (gathered_of l.fn.so_far) (map item (map item_of l.yielded)) (gathered_of l.so_far)
    × (length l.fn.so_far.libraries.items ≤ length l.so_far.libraries.items)
    × (l.yielded ++ into_iter_items l.item-iterator ≡ into_iter_items l.initial.item-iterator)
    × (into_iter_len l.item-iterator ≡ length (into_iter_items l.item-iterator))

-- the mentions before this one were looked at
abbrev pub invariant-add_libraries-loop-place : goal.invariant-add_libraries-loop-place
invariant-add_libraries-loop-place g l =
    IsDone
    (g.F.Shelf.state l.fn.shelf) (g.F.Shelf.state l.shelf)
    (gathered_of l.fn.so_far) (map mention (placed_names_of l.yielded)) (gathered_of l.so_far)
    × (length l.fn.so_far.libraries.items ≤ length l.so_far.libraries.items)
    × (l.yielded ++ into_iter_items l.place-iterator ≡ into_iter_items l.initial.place-iterator)
    × (into_iter_len l.place-iterator ≡ length (into_iter_items l.place-iterator))
