use Rattle.std.proofs.Common.{◌≡◌, ◌++◌, [], ap, subst, ◌∙◌, arith}
use Rattle.std.proofs.lemmas.Bool.Decides.{nat_tests}
use Rattle.std.proofs.lemmas.List.{nil_from_length}
use Rattle.lotos_base.specs.WrittenView.{listed_operation_of}
use Rattle.induct_check.specs.ItemView.{ItemGives}
use Rattle.induct_check.specs.KnownView.{known_signature}
use Rattle.induct_check.proofs.ItemLemmas.{items_nothing, items_more, items_end}
use Rattle.induct_check.proofs.operations.operations_of_items.Goals as goal

pub returns-then-is_empty : goal.returns-then-is_empty
returns-then-is_empty c = λ fs lists.
    let none : c.in_ok-found.found.items ≡ [] =
    nil_from_length c.in_ok-found.found.items (grind
    (arith, nat_tests, c.in_ok-found.found.ok.0, c.is_empty.ensures, c.if-is_empty.true)) in
    items_nothing (known_signature c.args.known.now) c.args.items.now c.loop-item.item-index c.item-item.result fs c.loop-item.made.items
    c.loop-item-test.true c.item-item.is c.loop-item.invariant
    (subst (λ xs. ItemGives (known_signature c.args.known.now) (listed_operation_of c.item-item.result) xs) none c.in_ok-found.ensures)
    lists

pub loop-item-preserved : goal.loop-item-preserved
loop-item-preserved c =
    items_more (known_signature c.args.known.now) c.args.items.now c.loop-item.item-index c.item-item.result c.in_ok-found.found.items
    c.loop-item.made.items c.extend_from_slice.new.self.items
    (λ none. grind (arith, nat_tests, c.in_ok-found.found.ok.0, c.is_empty.ensures, c.if-is_empty.false))
    c.loop-item-test.true c.item-item.is c.loop-item.invariant c.in_ok-found.ensures
    (c.in_ok-extend_from_slice.ensures.items ∙ ap (λ xs. c.loop-item.made.items ++ xs) c.as_slice.ensures.value)

pub returns : goal.returns
returns c =
    items_end (known_signature c.args.known.now) c.args.items.now c.loop-item.item-index c.loop-item.made.items c.loop-item-test.false
    c.loop-item.invariant
