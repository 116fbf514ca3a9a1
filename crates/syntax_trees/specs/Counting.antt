-- How many declarations there are, and how a turn of the loop makes them fewer.
use Rattle.std.specs.Prelude.{◌≡◌, ℕ, ◌+◌, ◌<◌, List}
use Rattle.syntax_trees.specs.declared.definitions.InnerText.{InnerText}
use Rattle.syntax_trees.specs.declared.definitions.ProcessText.{ProcessText}
use Rattle.syntax_trees.specs.TakenItems.{declarations_among, declarations_in}
use Rattle.syntax_trees.specs.TreeViews.{inner_list_of, inner_of, written_process_of}
use Rattle.syntax_trees.specs.WrittenDefinition.{inners_of}
use Rattle.syntax_trees.specs.declared.discarding.Turn.{Turn}
use Rattle.syntax_trees.specs.declared.discarding.Turn.TheVariants.{Further, Done}

-- a declaration and all that it declares at every depth
abbrev pub declarations_by : InnerText → ℕ
declarations_by inner = declarations_in (inner_of inner)

abbrev pub declared_by_process : ProcessText → ℕ
declared_by_process definition = declarations_in (written_process_of definition)

abbrev pub declared_in : List InnerText → ℕ
declared_in list = declarations_among (inners_of (inner_list_of list))

-- of a first declaration with so many, and others, one is dropped, or all are there and the next one has fewer
abbrev pub IsCountingTurnOf : ℕ → ℕ → Turn → Type 0
IsCountingTurnOf first others (Further next list) = (declarations_by next < first)
    × (declarations_by next + declared_in list.items ≡ first + others)
IsCountingTurnOf first others (Done left) = declared_in left.items < first + others
