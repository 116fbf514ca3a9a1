-- The lists of declarations that wait to be counted.
use Rattle.std.specs.Prelude.{List, map, reverse}
use Rattle.syntax_trees.specs.TreeViews.{inner_list_of}
use Rattle.syntax_trees.specs.WrittenDefinition.{WrittenInners, inners_of}
use Rattle.syntax_trees.specs.declared.definitions.InnerText.{InnerText}
use Rattle.static_scope.specs.Sizes.{Uncounted}
use Rattle.static_scope.specs.declared.sizes.Waiting.{Waiting}

-- what a list declares
abbrev pub written_inners : List InnerText → WrittenInners
written_inners list = inners_of (inner_list_of list)

abbrev pub uncounted_of : Waiting → Uncounted
uncounted_of entry = record { inners = written_inners entry.rest.now; behind = entry.behind }

-- the innermost first; the entries stand with the innermost last
abbrev pub uncounted_in : List Waiting → List Uncounted
uncounted_in entries = reverse (map uncounted_of entries)
