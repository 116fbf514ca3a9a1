-- The new names of pairs that are kept.
use Rattle.std.specs.Prelude.{◌≡◌, List, length}
use Rattle.syntax_trees.specs.WrittenItem.{WrittenPair}
use Rattle.type_presentations.specs.NamesView.{HasNames}
use Rattle.type_definitions.specs.Presentation.{Presentation}
use Rattle.type_presentations.specs.PairNames.{new_names}
use Rattle.type_presentations.specs.FormalNames.{other_pairs}
use Rattle.type_presentations.specs.declared.new_names.NewNames.{NewNames}

-- The names are those of these pairs, in this order.
pub record HasNewNames (news : NewNames) (base : Presentation) (pairs : List WrittenPair) : Type 0 where
  pub all : HasNames news.all (new_names pairs)
  pub others : HasNames news.others (new_names (other_pairs base pairs))
  pub count : length (new_names (other_pairs base pairs)) ≡ news.other_count
