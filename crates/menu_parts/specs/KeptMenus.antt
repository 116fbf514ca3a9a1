-- Menus that are kept: each is the exact menu of what its node stands for, and so are those of the parts from which it was
-- made.
use Rattle.std.specs.Prelude.{◌≤◌, ◌≡◌, ◌++◌, List, [], map, IfSome}
use Rattle.std.specs.declared.alloc.Global.{Global}
use Rattle.std.specs.declared.rc.Rc.{Rc}
use Rattle.lotos_base.specs.Term.{Term}
use Rattle.lotos_base.specs.Equation.{Data}
use Rattle.behaviour_semantics.specs.Behaviour.{Behaviour, no_gates}
use Rattle.behaviour_semantics.specs.Draft.{above_processes}
use Rattle.behaviour_semantics.specs.Solving.{Entry}
use Rattle.behaviour_semantics.specs.WellFormed.{Every}
use Rattle.behaviour_tree.specs.DefinitionView.{specification_of}
use Rattle.behaviour_tree.specs.StateView.{stands_for}
use Rattle.behaviour_tree.specs.declared.definitions.Spec.{Spec}
use Rattle.shared_entries.specs.Items.{HasItemTerms, plain_item}
use Rattle.step_taker.specs.Taken.{Ground, ground_of}
use Rattle.shared_entries.specs.HandedOn.{AreRanksOf, part_entries}
use Rattle.menu_parts.specs.Forms.{IsLawfulGround, IsExactOn}
use Rattle.shared_entries.specs.PartMenus.{parallel_menu, relabel_menu}
use Rattle.menu_parts.specs.Spread.{AreByWay, AreEntriesOf, NoneEnds, listed_for, of_left, of_right, spread_items, spread_menu}
use Rattle.menu_parts.specs.declared.kept.Kept.{Kept, Whole, One', Two', Beside'}
use Rattle.menu_parts.specs.declared.kept.Spread.{Spread, Side', Under', Both'}
use Rattle.menu_parts.specs.declared.kept.Listed.{Listed}
use Rattle.menu_parts.specs.declared.components.Making.{Making}
use Rattle.menu_parts.specs.declared.makers.PartMenus.{PartMenus}
use Rattle.behaviour_tree.specs.declared.states.Node.{Node}

-- The entries are the exact menu of what the node stands for, and their terms are of the signature.
pub record IsListedMenu (basis : Ground) (listed : Listed) : Type 0 where
  pub exact : IsExactOn basis (stands_for listed.node.value) (map plain_item listed.items.items)
  pub terms : Every (HasItemTerms basis.data_.signature) listed.items.items

abbrev mutual
  -- it is exact, and so are those of all parts
  pub IsKept : Ground → Kept → Type 0
  IsKept basis (Whole listed) = IsListedMenu basis listed
  IsKept basis (One' listed _ part) = IsListedMenu basis listed × IsKept basis part
  IsKept basis (Two' listed _ left _ right) = IsListedMenu basis listed × IsKept basis left × IsKept basis right
  IsKept basis (Beside' listed _ spread) =
      IsListedMenu basis listed × AreKeptBelow basis (λ entries. entries) spread
      × (map plain_item listed.items.items ≡ map plain_item (spread_items spread))

  -- so are those of parts side by side; the items of each part are what the whole has of its menu, by the way up to the whole;
  -- what menus share of them has the same entries; and what stands under a relabelling does not end
  pub AreKeptBelow : Ground → (List Entry → List Entry) → Spread → Type 0
  AreKeptBelow basis way (Side' _ kept own part) =
      IsKept basis kept × AreByWay basis.data_.signature way (listed_for kept).items.items own.items
      × AreEntriesOf basis.data_.signature own.items (part_entries part)
  AreKeptBelow basis way (Under' pairs _ part) =
      NoneEnds (spread_menu part) × AreKeptBelow basis (λ entries. way (relabel_menu pairs.items entries)) part
  AreKeptBelow basis way (Both' _ left _ right part) =
      AreKeptBelow basis (λ entries. way (of_left entries)) left × AreKeptBelow basis (λ entries. way (of_right entries)) right
      × AreEntriesOf basis.data_.signature (spread_items left ++ spread_items right) (part_entries part)

-- it is kept for what the node stands for
abbrev pub IsKeptFor : Ground → Node → Kept → Type 0
IsKeptFor basis node kept = IsKept basis kept × (stands_for (listed_for kept).node.value ≡ stands_for node)

-- It is kept, and the list at its root is the exact menu of the behaviour.
abbrev pub IsKeptAs : Ground → Behaviour → Kept → Type 0
IsKeptAs basis b kept = IsKept basis kept × IsExactOn basis b (map plain_item (listed_for kept).items.items)

-- The parts side by side are kept, and what is made of their menus is the exact menu of the behaviour.
abbrev pub IsSpreadFor : Ground → (List Entry → List Entry) → Behaviour → Spread → Type 0
IsSpreadFor basis way b spread = AreKeptBelow basis way spread × IsExactOn basis b (spread_menu spread)

-- It has the parts of both sides, where these are kept.
pub record HasBoth (first second made : Spread) : Type 0 where
  pub kept : (basis : Ground) (way : List Entry → List Entry) → AreKeptBelow basis (λ entries. way (of_left entries)) first
      → AreKeptBelow basis (λ entries. way (of_right entries)) second → AreKeptBelow basis way made
  pub menu : spread_menu made ≡ parallel_menu no_gates (spread_menu first) (spread_menu second) []

-- What menus are made over: the specification is over data with a canon, its ranks are its own, and the number is above all
-- variables that processes declare.
pub record IsMaking (data_ : Data) (canon : Term → Term) (making : Making) : Type 0 where
  pub base : IsLawfulGround (ground_of data_ canon making.spec.now)
  pub ranks : AreRanksOf making.spec.now making.ranks.now
  pub least : above_processes (specification_of making.spec.now).processes ≤ making.least

-- The maker suits the specification with the data and the canon: its number is above all variables that processes declare,
-- and each menu that it keeps is the exact one.
pub record MakerSuits (maker : PartMenus) (spec : Spec) (data_ : Data) (canon : Term → Term) : Type 0 where
  pub least : above_processes (specification_of spec).processes ≤ maker.least
  pub kept : IfSome maker.kept (λ (k : Rc Kept Global). IsKept (ground_of data_ canon spec) k.value)
