-- The items of a text in their order, and what is left of the text when all of them are taken out.
use Rattle.std.specs.Prelude.{ℕ, ◌+◌, List, [], ◌∷◌, ◌++◌}
use Rattle.syntax_trees.specs.WrittenItem.{WrittenItem}
use Rattle.syntax_trees.specs.WrittenDefinition.{WrittenInner, WrittenInners, inner_item, process, no_inner, inner_then, list_of_inners, inners_of, WrittenSpecification}

abbrev mutual
  -- the items that a declaration of a `where` is or holds, at every depth, in text order
  pub items_of_inner : WrittenInner → List WrittenItem
  items_of_inner (inner_item item) = item ∷ []
  items_of_inner (process heading body inner) = items_of_inners inner

  pub items_of_inners : WrittenInners → List WrittenItem
  items_of_inners no_inner = []
  items_of_inners (inner_then first others) = items_of_inner first ++ items_of_inners others

abbrev mutual
  -- the declaration before others, if it is a process, with what is left of its own `where`
  pub process_then : WrittenInner → WrittenInners → WrittenInners
  process_then (inner_item item) others = others
  process_then (process heading body inner) others = inner_then (process heading body (processes_of inner)) others

  -- the processes alone, and in them likewise
  pub processes_of : WrittenInners → WrittenInners
  processes_of no_inner = no_inner
  processes_of (inner_then first others) = process_then first (processes_of others)

-- the items of a text: first those before the behaviour, then those behind it
abbrev pub items_of_specification : WrittenSpecification → List WrittenItem
items_of_specification specification = specification.items ++ items_of_inners (inners_of specification.inner)

-- the text without its items; all else stays
abbrev pub without_items : WrittenSpecification → WrittenSpecification
without_items specification = record {
  heading = specification.heading;
  items = [];
  body = specification.body;
  inner = list_of_inners (processes_of (inners_of specification.inner));
}

abbrev mutual
  -- how many items and processes a declaration is and holds
  pub declarations_in : WrittenInner → ℕ
  declarations_in (inner_item item) = 1
  declarations_in (process heading body inner) = 1 + declarations_among inner

  pub declarations_among : WrittenInners → ℕ
  declarations_among no_inner = 0
  declarations_among (inner_then first others) = declarations_in first + declarations_among others
