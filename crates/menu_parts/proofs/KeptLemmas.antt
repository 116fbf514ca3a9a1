-- Kept menus: what was kept is used again, and what is made anew is exact.
use Rattle.std.proofs.Common.{◌≡◌, List, [], ◌∷◌, map, filter_map, refl, ap, sym, ◌∙◌, subst}
use Rattle.std.specs.Prelude.{Vec}
use Rattle.std.specs.declared.alloc.Global.{Global}
use Rattle.std.specs.declared.rc.Rc.{Rc}
use Rattle.behaviour_semantics.specs.Behaviour.{Behaviour, SynchronisationSet}
use Rattle.behaviour_semantics.specs.WellFormed.{Every}
use Rattle.behaviour_tree.specs.StateView.{stands_for}
use Rattle.behaviour_tree.specs.declared.states.Node.{Node}
use Rattle.lotos_base.specs.Signature.{Signature}
use Rattle.shared_entries.specs.HandedOn.{IsEntryOver, Entry}
use Rattle.shared_entries.specs.PartMenus.{parallel_menu, sides_menu}
use Rattle.shared_entries.specs.Items.{AreItemTerms, HasEntryTerms, HasItemTerms, IsItemOver, ItemTerms, entry_terms, item_terms, plain_item}
use Rattle.shared_entries.specs.Joined.{AreBeside}
use Rattle.shared_entries.specs.Rules.{AreEntriesMadeBy, entry_made_by}
use Rattle.shared_entries.specs.declared.items.Item.{Item}
use Rattle.shared_entries.specs.declared.rules.PartRule.{PartRule}
use Rattle.step_taker.specs.Taken.{Ground}
use Rattle.step_taker.specs.Walked.{IsPassableNode}
use Rattle.menu_parts.specs.Forms.{IsLawfulGround, IsExactOn, IsMadeBeside, IsMadeOf, IsMadeOfEither}
use Rattle.menu_parts.specs.KeptMenus.{IsKept, IsKeptFor, IsListedMenu}
use Rattle.menu_parts.specs.Spread.{listed_for}
use Rattle.menu_parts.specs.declared.kept.Kept.{Kept, Whole, One, Two}
use Rattle.menu_parts.specs.declared.kept.Kept as kept
use Rattle.menu_parts.specs.declared.kept.Listed.{Listed}
use Rattle.menu_parts.proofs.OverLemmas.{items_over}

module _ (basis : Ground) where
  -- the menu at the root is exact
  pub root_listed : (k : Kept) → IsKept basis k → IsListedMenu basis (listed_for k)
  root_listed (Whole listed) h = h
  root_listed (kept.One' listed _ part) h = h.0
  root_listed (kept.Two' listed _ left _ right) h = h.0
  root_listed (kept.Beside' listed _ spread) h = h.0

  pub kept_again : (node : Node) (earlier made : Kept) → made ≡ earlier → IsKept basis earlier
      → stands_for (listed_for earlier).node.value ≡ stands_for node → IsKeptFor basis node made
  kept_again node earlier made e h same =
      (subst (IsKept basis) (sym e) h, ap (λ (k : Kept). stands_for (listed_for k).node.value) e ∙ same)

  -- kept for one node, and so for another that stands for the same
  pub kept_as : (node other : Node) (made : Kept) → stands_for node ≡ stands_for other → IsKeptFor basis node made
      → IsKeptFor basis other made
  kept_as node other made e h = (h.0, h.1 ∙ e)

  module _ (node : Node) (listed : Listed) (is : listed.node.value ≡ node)
      (exact : IsExactOn basis (stands_for node) (map plain_item listed.items.items))
      (terms : Every (HasItemTerms basis.data_.signature) listed.items.items) where
    is_listed : IsListedMenu basis listed
    is_listed = record {
      exact = subst (λ (n : Node). IsExactOn basis (stands_for n) (map plain_item listed.items.items)) (sym is) exact;
      terms = terms;
    }

    pub whole_kept : (made : Kept) → made ≡ Whole listed → IsKeptFor basis node made
    whole_kept made e = kept_again node (Whole listed) made e is_listed (ap stands_for is)

    pub one_kept : (part : Rc Kept Global) (made : Kept) → made ≡ One listed part → IsKept basis part.value → IsKeptFor basis node made
    one_kept part made e h = kept_again node (One listed part) made e (is_listed, h) (ap stands_for is)

    pub two_kept : (left right : Rc Kept Global) (made : Kept) → made ≡ Two listed left right → IsKept basis left.value
        → IsKept basis right.value → IsKeptFor basis node made
    two_kept left right made e h k = kept_again node (Two listed left right) made e (is_listed, h, k) (ap stands_for is)

  -- the list at the root of what is kept for a node is its exact menu
  pub exact_for : (node : Node) (k : Kept) → IsKeptFor basis node k
      → IsExactOn basis (stands_for node) (map plain_item (listed_for k).items.items)
  exact_for node k h =
      subst (λ (b : Behaviour). IsExactOn basis b (map plain_item (listed_for k).items.items)) h.1 (root_listed k h.0).exact

  pub rule_exact : (rule : PartRule) (part : Node) (whole : Behaviour) (below : Kept) (items : List Item)
      → IsMadeOf basis rule (stands_for part) whole → IsKeptFor basis part below
      → AreEntriesMadeBy basis.data_.signature (entry_made_by basis.data_.signature rule) (listed_for below).items.items items
      → IsExactOn basis whole (map plain_item items)
  rule_exact rule part whole below items form h made =
      subst (IsExactOn basis whole) (sym made.same) (form (map plain_item (listed_for below).items.items) (exact_for part below h))

  pub either_exact : (left right : Node) (whole : Behaviour) (first second : Kept) (items : List Item)
      → IsMadeOfEither basis (stands_for left) (stands_for right) whole → IsKeptFor basis left first → IsKeptFor basis right second
      → map plain_item items ≡ sides_menu (map plain_item (listed_for first).items.items) (map plain_item (listed_for second).items.items)
      → IsExactOn basis whole (map plain_item items)
  either_exact left right whole first second items form h k same =
      subst (IsExactOn basis whole) (sym same) (form _ _ (exact_for left first h) (exact_for right second k))

  pub beside_exact : (meet : SynchronisationSet) (left right : Node) (whole : Behaviour) (first second : Kept) (items : List Item)
      → IsMadeBeside basis meet (stands_for left) (stands_for right) whole → IsKeptFor basis left first → IsKeptFor basis right second
      → AreBeside basis.data_ basis.canon meet (listed_for first).items.items (listed_for second).items.items items
      → IsExactOn basis whole (map plain_item items)
  beside_exact meet left right whole first second items form h k made =
      subst (IsExactOn basis whole) (sym made.same)
      (form _ _ made.boths (exact_for left first h) (exact_for right second k) made.solved)

  -- the items of what is kept for a state are in order
  pub kept_over : (base : IsLawfulGround basis) (node : Node) (k : Kept) → IsPassableNode basis node → IsKeptFor basis node k
      → Every (IsItemOver basis.data_.signature) (listed_for k).items.items
  kept_over base node k passable h =
      items_over basis (stands_for node) base passable.passable.closed (listed_for k).items.items (exact_for node k h)
      (root_listed k h.0).terms

-- ---- The terms of items are those of the entries that were taken.
terms_entered : (signature : Signature) (entries : List Entry) → Every (IsEntryOver signature) entries
    → Every (AreItemTerms signature) (map entry_terms entries)
terms_entered signature [] h = tt
terms_entered signature (e ∷ entries) h = (
  record { values = h.0.entry_of.values; leaves = h.0.entry_of.leaves; conditions = h.0.entry_of.conditions },
  terms_entered signature entries h.1,
)

terms_of_all : {X : Type 0} (f : X → ItemTerms) (signature : Signature) (xs : List X) → Every (AreItemTerms signature) (map f xs)
    → Every (λ x. AreItemTerms signature (f x)) xs
terms_of_all f signature [] h = tt
terms_of_all f signature (x ∷ xs) h = (h.0, terms_of_all f signature xs h.1)

pub taken_terms : (signature : Signature) (entries : List Entry) (items : List Item) → map item_terms items ≡ map entry_terms entries
    → Every (IsEntryOver signature) entries → Every (HasItemTerms signature) items
taken_terms signature entries items e h =
    terms_of_all item_terms signature items (subst (Every (AreItemTerms signature)) (sym e) (terms_entered signature entries h))

item_terms_all : (signature : Signature) (items : List Item) → Every (HasItemTerms signature) items
    → Every (AreItemTerms signature) (map item_terms items)
item_terms_all signature [] h = tt
item_terms_all signature (item ∷ items) h = (h.0, item_terms_all signature items h.1)

pub given_terms : (signature : Signature) (items : List Item) (entries : List Entry) → map entry_terms entries ≡ map item_terms items
    → Every (HasItemTerms signature) items → Every (HasEntryTerms signature) entries
given_terms signature items entries e h =
    terms_of_all entry_terms signature entries (subst (Every (AreItemTerms signature)) (sym e) (item_terms_all signature items h))

-- ---- What is made of the items that are kept.
module _ (basis : Ground) where
  kept_terms : (node : Node) (k : Kept) (given : Vec Item Global) → given ≡ (listed_for k).items → IsKeptFor basis node k
      → Every (HasItemTerms basis.data_.signature) given.items
  kept_terms node k given e h =
      subst (λ (v : Vec Item Global). Every (HasItemTerms basis.data_.signature) v.items) (sym e) (root_listed basis k h.0).terms

  pub rule_made : (rule : PartRule) (node : Node) (k : Kept) (given : Vec Item Global) (made : List Item) → given ≡ (listed_for k).items
      → IsKeptFor basis node k
      → ((signature : Signature) → Every (HasItemTerms signature) given.items
      → AreEntriesMadeBy signature (entry_made_by signature rule) given.items made)
      → AreEntriesMadeBy basis.data_.signature (entry_made_by basis.data_.signature rule) (listed_for k).items.items made
  rule_made rule node k given made e h all =
      subst (λ (v : Vec Item Global). AreEntriesMadeBy basis.data_.signature (entry_made_by basis.data_.signature rule) v.items made) e
      (all basis.data_.signature (kept_terms node k given e h))

  module _ (left right : Node) (first second : Kept) (lefts rights : Vec Item Global) (made : List Item)
      (e : lefts ≡ (listed_for first).items) (f : rights ≡ (listed_for second).items) (h : IsKeptFor basis left first)
      (k : IsKeptFor basis right second) where
    pub either_made : ((signature : Signature) → Every (HasItemTerms signature) lefts.items → Every (HasItemTerms signature) rights.items
        → map plain_item made ≡ sides_menu (map plain_item lefts.items) (map plain_item rights.items))
        → map plain_item made ≡ sides_menu (map plain_item (listed_for first).items.items) (map plain_item (listed_for second).items.items)
    either_made all =
        all basis.data_.signature (kept_terms left first lefts e h) (kept_terms right second rights f k)
        ∙ (ap (λ (v : Vec Item Global). sides_menu (map plain_item v.items) (map plain_item rights.items)) e
        ∙ ap (λ (v : Vec Item Global). sides_menu (map plain_item (listed_for first).items.items) (map plain_item v.items)) f)

    pub either_terms : ((signature : Signature) → Every (HasItemTerms signature) lefts.items → Every (HasItemTerms signature) rights.items
        → Every (HasItemTerms signature) made) → Every (HasItemTerms basis.data_.signature) made
    either_terms all = all basis.data_.signature (kept_terms left first lefts e h) (kept_terms right second rights f k)

    pub beside_made : (meet : SynchronisationSet) → AreBeside basis.data_ basis.canon meet lefts.items rights.items made
        → AreBeside basis.data_ basis.canon meet (listed_for first).items.items (listed_for second).items.items made
    beside_made meet all =
        subst (λ (v : Vec Item Global). AreBeside basis.data_ basis.canon meet (listed_for first).items.items v.items made) f
        (subst (λ (v : Vec Item Global). AreBeside basis.data_ basis.canon meet v.items rights.items made) e all)

  pub given_over : (base : IsLawfulGround basis) (node : Node) (k : Kept) (given : Vec Item Global) → given ≡ (listed_for k).items
      → IsPassableNode basis node → IsKeptFor basis node k → Every (IsItemOver basis.data_.signature) given.items
  given_over base node k given e passable h =
      subst (λ (v : Vec Item Global). Every (IsItemOver basis.data_.signature) v.items) (sym e) (kept_over basis base node k passable h)
