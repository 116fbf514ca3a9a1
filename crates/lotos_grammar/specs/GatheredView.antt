-- The plain value of what was gathered, and of what is wrong with libraries.
use Rattle.std.specs.Prelude.{map}
use Rattle.lotos_base.specs.Name.{spelling}
use Rattle.syntax_trees.specs.TreeViews.{item_of}
use Rattle.lotos_grammar.specs.declared.gathered.Gathered as code
use Rattle.lotos_grammar.specs.Gathering.{Gathered}

abbrev pub gathered_of : code.Gathered → Gathered
gathered_of so_far = record { read = map spelling so_far.libraries.items; types = map item_of so_far.types.items }
