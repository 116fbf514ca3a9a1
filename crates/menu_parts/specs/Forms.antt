-- What the menu of a behaviour is made from: whatever exact menus its parts have, the rule makes its exact menu of them.
use Rattle.std.specs.Prelude.{◌≡◌, List, filter_map}
use Rattle.lotos_base.specs.Signature.{IsWellFormedSignature}
use Rattle.lotos_base.specs.Canon.{IsCanon}
use Rattle.behaviour_semantics.specs.Behaviour.{Behaviour, SynchronisationSet}
use Rattle.behaviour_semantics.specs.Listing.{AllSolveTo}
use Rattle.behaviour_semantics.specs.Menu.{Exact}
use Rattle.behaviour_semantics.specs.Solving.{Entry}
use Rattle.behaviour_tree.specs.BehaviourView.{meet_of}
use Rattle.behaviour_tree.specs.DefinitionView.{specification_of}
use Rattle.behaviour_tree.specs.Over.{IsSpecOver}
use Rattle.behaviour_tree.specs.StateView.{stands_for}
use Rattle.shared_entries.specs.PartMenus.{joins, parallel_menu, sides_menu}
use Rattle.shared_entries.specs.Rules.{entry_made_by}
use Rattle.shared_entries.specs.declared.rules.PartRule.{PartRule}
use Rattle.step_taker.specs.Taken.{Ground}
use Rattle.step_taker.specs.Walked.{IsPassableNode}
use Rattle.menu_parts.specs.declared.forms.Form.{Form}
use Rattle.menu_parts.specs.declared.forms.Form.TheVariants.{Whole, One, Either, Beside}

-- The data have a canon over a well-formed signature, and the specification is over it.
pub record IsLawfulGround (basis : Ground) : Type 0 where
  pub signature : IsWellFormedSignature basis.data_.signature
  pub is_canon : IsCanon basis.data_ basis.canon
  pub over : IsSpecOver basis.data_.signature basis.spec

-- the list is the exact menu of the behaviour
abbrev pub IsExactOn : Ground → Behaviour → List Entry → Type 0
IsExactOn basis b entries = Exact basis.data_ basis.canon (specification_of basis.spec).processes b entries

-- Exact menus of the parts make the exact menu of the whole: by a rule from that of one part, from those of both sides of
-- `[>`, and from those of both sides of a parallel.
abbrev pub IsMadeOf : Ground → PartRule → Behaviour → Behaviour → Type 0
IsMadeOf basis rule part whole =
    (entries : List Entry) → IsExactOn basis part entries
    → IsExactOn basis whole (filter_map (entry_made_by basis.data_.signature rule) entries)

abbrev pub IsMadeOfEither : Ground → Behaviour → Behaviour → Behaviour → Type 0
IsMadeOfEither basis left right whole =
    (lefts rights : List Entry) → IsExactOn basis left lefts → IsExactOn basis right rights
    → IsExactOn basis whole (sides_menu lefts rights)

abbrev pub IsMadeBeside : Ground → SynchronisationSet → Behaviour → Behaviour → Behaviour → Type 0
IsMadeBeside basis meet left right whole =
    (lefts rights boths : List Entry) → IsExactOn basis left lefts → IsExactOn basis right rights
    → AllSolveTo basis.canon (joins basis.data_ meet lefts rights) boths
    → IsExactOn basis whole (parallel_menu meet lefts rights boths)

-- So is the menu of the whole made of those of the parts of the form, which are states.
abbrev pub IsForm : Ground → Behaviour → Form → Type 0
IsForm basis whole Whole = Unit {0}
IsForm basis whole (One rule part) = IsPassableNode basis part.value × IsMadeOf basis rule (stands_for part.value) whole
IsForm basis whole (Either left right) =
    IsPassableNode basis left.value × IsPassableNode basis right.value
    × IsMadeOfEither basis (stands_for left.value) (stands_for right.value) whole
IsForm basis whole (Beside meet left right) =
    IsPassableNode basis left.value × IsPassableNode basis right.value
    × IsMadeBeside basis (meet_of meet.now) (stands_for left.value) (stands_for right.value) whole
