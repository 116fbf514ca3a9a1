-- Drafts that are solved one by one, and the entries of a parallel.
use Rattle.std.specs.Prelude.{◌≡◌, ◌++◌, List, map}
use Rattle.lotos_base.specs.Term.{Term}
use Rattle.lotos_base.specs.Equation.{Data}
use Rattle.behaviour_semantics.specs.Behaviour.{SynchronisationSet}
use Rattle.behaviour_semantics.specs.Draft.{Draft}
use Rattle.behaviour_semantics.specs.Listing.{AllSolveTo}
use Rattle.behaviour_semantics.specs.Solving.{Entry}
use Rattle.behaviour_semantics.specs.WellFormed.{Every}
use Rattle.shared_entries.specs.PartMenus.{joins, parallel_menu}
use Rattle.shared_entries.specs.Items.{HasItemTerms, plain_item}
use Rattle.shared_entries.specs.declared.items.Item.{Item}

-- Where the earlier items are the solved forms of some drafts, the later ones are those of these drafts and of some more.
abbrev pub SolvesMore : (Term → Term) → List Item → List Item → List Draft → Type 0
SolvesMore canon earlier later more =
    (drafts : List Draft) → AllSolveTo canon drafts (map plain_item earlier) → AllSolveTo canon (drafts ++ more) (map plain_item later)

-- The items are those of a parallel whose sides have these items, and their terms are of the signature.
pub record AreBeside (data_ : Data) (canon : Term → Term) (meet : SynchronisationSet) (lefts rights made : List Item) : Type 0 where
  pub boths : List Entry
  pub solved : AllSolveTo canon (joins data_ meet (map plain_item lefts) (map plain_item rights)) boths
  pub same : map plain_item made ≡ parallel_menu meet (map plain_item lefts) (map plain_item rights) boths
  pub terms : Every (HasItemTerms data_.signature) made
