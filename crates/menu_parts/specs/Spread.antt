-- Parts that stand side by side, where none waits for another: what the whole has of the entries of each part, and of all parts
-- together.
use Rattle.std.specs.Prelude.{◌≡◌, ◌++◌, List, [], map, Bool}
use Rattle.lotos_base.specs.Signature.{Signature}
use Rattle.behaviour_semantics.specs.Behaviour.{Behaviour, no_gates, Relabelling}
use Rattle.behaviour_semantics.specs.Rule.{is_exit}
use Rattle.behaviour_semantics.specs.Shape.{left_side, right_side}
use Rattle.behaviour_semantics.specs.Solving.{Entry}
use Rattle.behaviour_semantics.specs.WellFormed.{Every}
use Rattle.behaviour_tree.specs.StateView.{stands_for}
use Rattle.menu_parts.specs.Forms.{IsExactOn, IsMadeBeside}
use Rattle.shared_entries.specs.HandedOn.{MenuPart, plain_entry}
use Rattle.shared_entries.specs.HandedOn.{Entry as SharedEntry}
use Rattle.shared_entries.specs.Items.{HasEntryTerms, HasItemTerms, plain_item}
use Rattle.shared_entries.specs.PartMenus.{parallel_menu, relabel_menu}
use Rattle.shared_entries.specs.PartRule.{all_by_rule, alone_rule}
use Rattle.shared_entries.specs.declared.items.Item.{Item}
use Rattle.menu_parts.specs.declared.kept.Kept.{Kept, Whole, One', Two', Beside'}
use Rattle.menu_parts.specs.declared.kept.Listed.{Listed}
use Rattle.menu_parts.specs.declared.kept.Spread.{Spread, Side', Under', Both'}
use Rattle.menu_parts.specs.declared.opening.Opened.{Opened}
use Rattle.menu_parts.specs.declared.opening.Opened.TheVariants as opened
use Rattle.menu_parts.specs.declared.ways.Way.{Way, Top, Left', Right'}
use Rattle.menu_parts.specs.declared.ways.Way as ways
use Rattle.step_taker.specs.Taken.{Ground}
use Rattle.step_taker.specs.Walked.{IsPassableNode}

-- what the whole has of the entries of a part, where parts stand side by side: of the left side, and of the right side
abbrev pub of_left : List Entry → List Entry
of_left entries = all_by_rule (alone_rule no_gates left_side) entries

abbrev pub of_right : List Entry → List Entry
of_right entries = all_by_rule (alone_rule no_gates right_side) entries

-- what the whole has of the entries of a part, by the way up to the whole
abbrev pub by_way : Way → List Entry → List Entry
by_way Top = λ entries. entries
by_way (Left' _ above) = λ entries. by_way above (of_left entries)
by_way (Right' _ above) = λ entries. by_way above (of_right entries)
by_way (ways.Under' pairs _ above) = λ entries. by_way above (relabel_menu pairs.now.items entries)

-- The items are those that the whole has of the given ones, and their terms are of the signature.
pub record AreByWay (signature : Signature) (way : List Entry → List Entry) (given made : List Item) : Type 0 where
  pub same : map plain_item made ≡ way (map plain_item given)
  pub terms : Every (HasItemTerms signature) made

-- The entries are those that the items stand for, and their terms are of the signature.
pub record AreEntriesOf (signature : Signature) (items : List Item) (entries : List SharedEntry) : Type 0 where
  pub same : map plain_entry entries ≡ map plain_item items
  pub terms : Every (HasEntryTerms signature) entries

-- the menu of the node itself
abbrev pub listed_for : Kept → Listed
listed_for (Whole listed) = listed
listed_for (One' listed _ part) = listed
listed_for (Two' listed _ left _ right) = listed
listed_for (Beside' listed _ spread) = listed

-- the menu of parts side by side, from those of the parts, where no sides end together
abbrev pub spread_menu : Spread → List Entry
spread_menu (Side' _ kept own part) = map plain_item (listed_for kept).items.items
spread_menu (Under' pairs _ part) = relabel_menu pairs.items (spread_menu part)
spread_menu (Both' _ left _ right part) = parallel_menu no_gates (spread_menu left) (spread_menu right) []

-- the items of all parts as they are for the whole, in order
abbrev pub spread_items : Spread → List Item
spread_items (Side' _ kept own part) = own.items
spread_items (Under' pairs _ part) = spread_items part
spread_items (Both' _ left _ right part) = spread_items left ++ spread_items right

-- the same as menus share them
abbrev pub part_for : Spread → MenuPart
part_for (Side' _ kept own part) = part
part_for (Under' pairs _ inner) = part_for inner
part_for (Both' _ left _ right part) = part

-- no entry ends
abbrev pub NoneEnds : List Entry → Type 0
NoneEnds entries = Every (λ (entry : Entry). is_exit entry.label ≡ Bool.false) entries

-- The behaviour is a relabelling of the part, as far as menus tell.
abbrev pub IsRelabelled : Ground → Relabelling → Behaviour → Behaviour → Type 0
IsRelabelled basis pairs part whole =
    (entries : List Entry) → IsExactOn basis part entries → IsExactOn basis whole (relabel_menu pairs entries)

-- So it is opened: its parts are states.
abbrev pub IsOpened : Ground → Behaviour → Opened → Type 0
IsOpened basis whole opened.Alone = Unit {0}
IsOpened basis whole (opened.Relabelled pairs part) =
    IsPassableNode basis part.value × IsRelabelled basis pairs.items (stands_for part.value) whole
IsOpened basis whole (opened.Beside left right) =
    IsPassableNode basis left.value × IsPassableNode basis right.value
    × IsMadeBeside basis no_gates (stands_for left.value) (stands_for right.value) whole
