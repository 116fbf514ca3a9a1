use Rattle.std.proofs.Common.{rules, refl, ◌∙◌, sym, [], ◌∷◌, map, length, ◌≤◌, arith, ap}
use Rattle.lotos_base.proofs.Pieces.{one_less}
use Rattle.lotos_base.specs.Name.{spelling}
use Rattle.lotos_base.specs.WrittenView.{placed_name_of}
use Rattle.syntax_trees.specs.TreeViews.{item_of}
use Rattle.lotos_grammar.specs.Gathering.{item, mention, library_limit}
use Rattle.lotos_grammar.specs.GatheredView.{gathered_of}
use Rattle.lotos_grammar.proofs.ProgressLemmas.{done_nothing, wants_nothing, stopped, replaced_answer}
use Rattle.lotos_grammar.specs.declared.faults.LibraryFault.TheVariants.{NoMemory}
use Rattle.lotos_grammar.proofs.TextLemmas.{err_is}
use Rattle.lotos_grammar.proofs.WalkLemmas.{next_left, whole_is, all_given, one_done, one_ends, all_done, from_err, library_item, type_item, read_already, too_many_ends, as_many_names}
use Rattle.lotos_grammar.proofs.gathering.+walk.Goals as goal

pub add_item-returns-in-Library-clause-read : goal.add_item-returns-in-Library-clause-read
add_item-returns-in-Library-clause-read g t c =
    library_item _ _ _ _ c.args.item c.in-Library.names c.add_libraries.result c.in-Library.is c.add_libraries.ensures.read

pub add_item-returns-in_ok-push-in_default : goal.add_item-returns-in_ok-push-in_default
add_item-returns-in_ok-push-in_default g t c = record {
  read = type_item _ (map spelling c.args.so_far.now.libraries.items) c.args.so_far.now.types.items c.push.new.self.items c.args.item
      (λ names is. c.in_default.not-Library names is) c.in_ok-push-in_default.ensures.items;
  grows = omega arith;
}

pub add_item-returns-in_err-push-in_default-clause-read : goal.add_item-returns-in_err-push-in_default-clause-read
add_item-returns-in_err-push-in_default-clause-read g t c =
    from_err _ _ c.from_residual.result NoMemory (err_is _ NoMemory c.from_residual.ensures.1)
    (wants_nothing _ (gathered_of c.args.so_far.now) (gathered_of c.args.so_far.now) (item (item_of c.args.item) ∷ []))

pub add_items-loop-item-init : goal.add_items-loop-item-init
add_items-loop-item-init g t c = (
  done_nothing _ _,
  omega arith,
  refl,
  c.into_iter-item-iterator.ensures.into_iter_gives.1 ∙ c.args.items.ok.0
      ∙ ap length (sym c.into_iter-item-iterator.ensures.into_iter_gives.0),
)

pub add_items-add_item-requires : goal.add_items-add_item-requires
add_items-add_item-requires g t c κs within = (omega (arith, c.decreases, c.loop-item.invariant.1), search rules)

pub add_items-loop-item-preserved : goal.add_items-loop-item-preserved
add_items-loop-item-preserved g t c = (
  one_done item item_of _ _ _ _ _ _ c.loop-item.yielded c.in-Some.item c.loop-item.invariant.0 c.in_ok-add_item.ensures.read,
  omega (arith, c.loop-item.invariant.1, c.in_ok-add_item.ensures.grows),
  next_left c.loop-item.yielded c.in-Some.item _ _ _ c.in-Some.ensures.steps.0 c.loop-item.invariant.2,
  one_less c.in-Some.item _ _ _ _ c.in-Some.ensures.steps.0 c.in-Some.ensures.steps.1 c.loop-item.invariant.3,
)

pub add_items-returns-in_err-add_item-clause-read :
    goal.add_items-returns-in_err-add_item-clause-read
add_items-returns-in_err-add_item-clause-read g t c =
    from_err _ _ c.from_residual.result c.in_err-add_item.field-0.0 (err_is _ _ c.from_residual.ensures.1)
    (one_ends item item_of _ _ _ (gathered_of c.args.so_far.now) (gathered_of c.loop-item.so_far) (gathered_of c.add_item.new.so_far)
    c.loop-item.yielded c.in-Some.item _ _ c.in_err-add_item.field-0.0
    (whole_is c.loop-item.yielded c.in-Some.item _ _ _ c.in-Some.ensures.steps.0
    (c.loop-item.invariant.2 ∙ c.into_iter-item-iterator.ensures.into_iter_gives.0))
    c.loop-item.invariant.0 c.in_err-add_item.ensures.read)

pub add_items-returns-in_err-add_item-clause-grows :
    goal.add_items-returns-in_err-add_item-clause-grows
add_items-returns-in_err-add_item-clause-grows g t c = omega (arith, c.loop-item.invariant.1, c.in_err-add_item.ensures.grows)

pub add_items-returns-clause-read : goal.add_items-returns-clause-read
add_items-returns-clause-read g t c =
    all_done item item_of _ _ _ _ c.loop-item.yielded c.args.items.items
    (all_given c.loop-item.yielded _ _ (sym c.loop-item.invariant.3 ∙ c.in-None.ensures.steps.0)
    (c.loop-item.invariant.2 ∙ c.into_iter-item-iterator.ensures.into_iter_gives.0))
    c.loop-item.invariant.0

pub add_items-returns-clause-grows : goal.add_items-returns-clause-grows
add_items-returns-clause-grows g t c = c.loop-item.invariant.1

pub add_libraries-loop-place-init : goal.add_libraries-loop-place-init
add_libraries-loop-place-init g t c = (
  done_nothing _ _,
  omega arith,
  refl,
  c.into_iter-place-iterator.ensures.into_iter_gives.1 ∙ c.args.names.ok.0
      ∙ ap length (sym c.into_iter-place-iterator.ensures.into_iter_gives.0),
)

pub add_libraries-add_library-requires : goal.add_libraries-add_library-requires
add_libraries-add_library-requires g t c κs within = (omega (arith, c.decreases, c.loop-place.invariant.1), search rules)

pub add_libraries-loop-place-preserved : goal.add_libraries-loop-place-preserved
add_libraries-loop-place-preserved g t c = (
  one_done mention placed_name_of _ _ _ _ _ _ c.loop-place.yielded (c.in-Some.place, c.in-Some.name) c.loop-place.invariant.0
      c.in_ok-add_library.ensures.read,
  omega (arith, c.loop-place.invariant.1, c.in_ok-add_library.ensures.grows),
  next_left c.loop-place.yielded (c.in-Some.place, c.in-Some.name) _ _ _ c.in-Some.ensures.steps.0 c.loop-place.invariant.2,
  one_less (c.in-Some.place, c.in-Some.name) _ _ _ _ c.in-Some.ensures.steps.0 c.in-Some.ensures.steps.1 c.loop-place.invariant.3,
)

pub add_libraries-returns-in_err-add_library-clause-read :
    goal.add_libraries-returns-in_err-add_library-clause-read
add_libraries-returns-in_err-add_library-clause-read g t c =
    from_err _ _ c.from_residual.result c.in_err-add_library.field-0.0 (err_is _ _ c.from_residual.ensures.1)
    (one_ends mention placed_name_of _ _ _ (gathered_of c.args.so_far.now) (gathered_of c.loop-place.so_far)
    (gathered_of c.add_library.new.so_far) c.loop-place.yielded (c.in-Some.place, c.in-Some.name) _ _ c.in_err-add_library.field-0.0
    (whole_is c.loop-place.yielded (c.in-Some.place, c.in-Some.name) _ _ _ c.in-Some.ensures.steps.0
    (c.loop-place.invariant.2 ∙ c.into_iter-place-iterator.ensures.into_iter_gives.0))
    c.loop-place.invariant.0 c.in_err-add_library.ensures.read)

pub add_libraries-returns-in_err-add_library-clause-grows :
    goal.add_libraries-returns-in_err-add_library-clause-grows
add_libraries-returns-in_err-add_library-clause-grows g t c = omega (arith, c.loop-place.invariant.1, c.in_err-add_library.ensures.grows)

pub add_libraries-returns-clause-read : goal.add_libraries-returns-clause-read
add_libraries-returns-clause-read g t c =
    all_done mention placed_name_of _ _ _ _ c.loop-place.yielded c.args.names.items
    (all_given c.loop-place.yielded _ _ (sym c.loop-place.invariant.3 ∙ c.in-None.ensures.steps.0)
    (c.loop-place.invariant.2 ∙ c.into_iter-place-iterator.ensures.into_iter_gives.0))
    c.loop-place.invariant.0

pub add_libraries-returns-clause-grows : goal.add_libraries-returns-clause-grows
add_libraries-returns-clause-grows g t c = c.loop-place.invariant.1

pub add_library-returns-then-has-clause-read : goal.add_library-returns-then-has-clause-read
add_library-returns-then-has-clause-read g t c = read_already _ _ _ (sym c.has.ensures ∙ c.if-has.true)

pub add_library-returns-then-len-ge-LIBRARY_LIMIT-clause-read :
    goal.add_library-returns-then-len-ge-LIBRARY_LIMIT-clause-read
add_library-returns-then-len-ge-LIBRARY_LIMIT-clause-read g t c =
    too_many_ends _ (gathered_of c.args.so_far.now) c.args.place c.args.name (sym c.has.ensures ∙ c.if-has.false)
    (let names = as_many_names c.args.so_far.now.libraries.items in
    omega (arith, names, c.if-len-ge-LIBRARY_LIMIT.true, c.len.ensures, c.args.so_far.now.libraries.ok.0))

pub add_library-returns-in_err-items-clause-read :
    goal.add_library-returns-in_err-items-clause-read
add_library-returns-in_err-items-clause-read g t c =
    from_err _ _ c.from_residual.result c.in_err-items.field-0.0 (err_is _ _ c.from_residual.ensures.1)
    (stopped _ _ (gathered_of c.args.so_far.now) (gathered_of c.library_items.new.so_far) (placed_name_of (c.args.place, c.args.name))
    c.in_err-items.field-0.0 c.in_err-items.ensures.replaced)

pub add_library-returns-in_err-items-clause-grows :
    goal.add_library-returns-in_err-items-clause-grows
add_library-returns-in_err-items-clause-grows g t c = c.in_err-items.ensures.grows

pub add_library-add_items-requires : goal.add_library-add_items-requires
add_library-add_items-requires g t c κs within = (
  omega (
    arith,
    c.decreases,
    c.in_ok-items.ensures.counted,
    c.if-len-ge-LIBRARY_LIMIT.false,
    c.len.ensures,
    c.args.so_far.now.libraries.ok.0,
  ),
  search rules,
)

pub add_library-returns-clause-read : goal.add_library-returns-clause-read
add_library-returns-clause-read g t c =
    replaced_answer _ _ _ (gathered_of c.args.so_far.now) (gathered_of c.library_items.new.so_far) _
    (placed_name_of (c.args.place, c.args.name))
    (map item_of c.in_ok-items.items.items) c.add_items.result c.in_ok-items.ensures.replaced c.add_items.ensures.read

pub add_library-returns-clause-grows : goal.add_library-returns-clause-grows
add_library-returns-clause-grows g t c = omega (arith, c.in_ok-items.ensures.grows, c.add_items.ensures.grows)
