-- Kept menus of parts side by side: what is made of those of the parts is exact, and its entries are those that stand with them.
use Rattle.std.proofs.Common.{◌≡◌, List, [], ◌++◌, ℕ, Option, None, Some, map, refl, ap, sym, ◌∙◌, subst}
use Rattle.std.specs.Borrow.{Bor}
use Rattle.std.specs.Prelude.{IfNone, IfSome, Vec}
use Rattle.std.specs.declared.alloc.Global.{Global}
use Rattle.std.specs.declared.rc.Rc.{Rc}
use Rattle.std.proofs.lemmas.List.{map-append}
use Rattle.lotos_base.specs.Signature.{Signature}
use Rattle.behaviour_semantics.specs.Behaviour.{Behaviour, no_gates}
use Rattle.behaviour_semantics.specs.Shape.{left_side, right_side, relabelled}
use Rattle.behaviour_semantics.specs.Solving.{Entry}
use Rattle.behaviour_semantics.specs.Listing.{AllSolveTo}
use Rattle.behaviour_semantics.specs.WellFormed.{Every}
use Rattle.behaviour_semantics.proofs.ListLemmas.{Every-append}
use Rattle.behaviour_tree.specs.StateView.{stands_for}
use Rattle.behaviour_tree.specs.declared.states.Node.{Node}
use Rattle.menu_parts.specs.Forms.{IsLawfulGround, IsExactOn, IsMadeBeside}
use Rattle.shared_entries.specs.HandedOn.{MenuPart, part_entries, plain_entry}
use Rattle.shared_entries.specs.HandedOn.{Entry as SharedEntry}
use Rattle.shared_entries.specs.Items.{HasEntryTerms, HasItemTerms, IsItemOver, entry_terms, item_terms, plain_item}
use Rattle.menu_parts.specs.KeptMenus.{AreKeptBelow, HasBoth, IsKept, IsKeptAs, IsKeptFor, IsListedMenu, IsSpreadFor}
use Rattle.shared_entries.specs.PartMenus.{joins, relabel_menu}
use Rattle.shared_entries.specs.PartRule.{alone_rule, under_rule}
use Rattle.shared_entries.specs.Rules.{AreEntriesMadeBy}
use Rattle.menu_parts.specs.Spread.{AreByWay, AreEntriesOf, IsOpened, IsRelabelled, NoneEnds, listed_for, of_left, of_right, part_for, spread_items, spread_menu}
use Rattle.shared_entries.specs.declared.items.Item.{Item}
use Rattle.menu_parts.specs.declared.kept.Kept.{Kept, Beside}
use Rattle.menu_parts.specs.declared.kept.Listed.{Listed}
use Rattle.menu_parts.specs.declared.kept.Spread.{Spread, Side, Under, Both}
use Rattle.menu_parts.specs.declared.kept.Spread as spread
use Rattle.menu_parts.specs.declared.opening.Opened.{Opened}
use Rattle.step_taker.specs.Taken.{Ground}
use Rattle.step_taker.specs.Walked.{IsClosedOn, IsPassableNode}
use Rattle.menu_parts.proofs.OverLemmas.{items_over}
use Rattle.menu_parts.proofs.KeptLemmas.{given_terms, kept_again, root_listed}
use Rattle.menu_parts.proofs.SpreadLemmas.{Splits, by_rule_splits, parallel_none, parallel_splits, relabel_none, solved_of_left, solved_of_right}

-- the items of all parts are what the whole has of their menu
pub kept_items : (basis : Ground) (way : List Entry → List Entry) → Splits way → (s : Spread) → AreKeptBelow basis way s
    → map plain_item (spread_items s) ≡ way (spread_menu s)
kept_items basis way h (spread.Side' _ kept own part) k = k.1.same
kept_items basis way h (spread.Under' pairs _ part) k =
    kept_items basis (λ entries. way (relabel_menu pairs.items entries)) (by_rule_splits (under_rule relabelled pairs.items) way h) part k.1
kept_items basis way h (spread.Both' _ left _ right part) k =
    map-append plain_item (spread_items left) (spread_items right)
    ∙ (ap (λ (xs : List Entry). xs ++ map plain_item (spread_items right))
    (kept_items basis (λ entries. way (of_left entries)) (by_rule_splits (alone_rule no_gates left_side) way h) left k.0)
    ∙ (ap (λ (xs : List Entry). way (of_left (spread_menu left)) ++ xs)
    (kept_items basis (λ entries. way (of_right entries)) (by_rule_splits (alone_rule no_gates right_side) way h) right k.1)
    ∙ sym (parallel_splits way h (spread_menu left) (spread_menu right))))

-- their terms are of the signature
pub kept_item_terms : (basis : Ground) (way : List Entry → List Entry) (s : Spread) → AreKeptBelow basis way s
    → Every (HasItemTerms basis.data_.signature) (spread_items s)
kept_item_terms basis way (spread.Side' _ kept own part) k = k.1.terms
kept_item_terms basis way (spread.Under' pairs _ part) k =
    kept_item_terms basis (λ entries. way (relabel_menu pairs.items entries)) part k.1
kept_item_terms basis way (spread.Both' _ left _ right part) k =
    Every-append (HasItemTerms basis.data_.signature) (spread_items left) (spread_items right)
    (kept_item_terms basis (λ entries. way (of_left entries)) left k.0)
    (kept_item_terms basis (λ entries. way (of_right entries)) right k.1)

-- what menus share of them has the same entries
pub kept_part : (basis : Ground) (way : List Entry → List Entry) (s : Spread) → AreKeptBelow basis way s
    → AreEntriesOf basis.data_.signature (spread_items s) (part_entries (part_for s))
kept_part basis way (spread.Side' _ kept own part) k = k.2
kept_part basis way (spread.Under' pairs _ inner) k = kept_part basis (λ entries. way (relabel_menu pairs.items entries)) inner k.1
kept_part basis way (spread.Both' _ left _ right part) k = k.2

-- entries that were made of the items
pub entries_given : (signature : Signature) (items : List Item) (made entries : List SharedEntry) → entries ≡ made
    → map plain_entry made ≡ map plain_item items → map entry_terms made ≡ map item_terms items → Every (HasItemTerms signature) items
    → AreEntriesOf signature items entries
entries_given signature items made entries e same terms h = subst (AreEntriesOf signature items) (sym e) (record {
  same = same;
  terms = given_terms signature items made terms h;
})

-- the entries of two parts one behind the other
joined_entries : (signature : Signature) (xs ys : List Item) (es fs gs : List SharedEntry) → gs ≡ es ++ fs
    → AreEntriesOf signature xs es → AreEntriesOf signature ys fs → AreEntriesOf signature (xs ++ ys) gs
joined_entries signature xs ys es fs gs e h k = record {
  same = ap (map plain_entry) e ∙ (map-append plain_entry es fs ∙ (ap (λ (ts : List Entry). ts ++ map plain_entry fs) h.same
      ∙ (ap (λ (ts : List Entry). map plain_item xs ++ ts) k.same ∙ sym (map-append plain_item xs ys))));
  terms = subst (Every (HasEntryTerms signature)) (sym e) (Every-append (HasEntryTerms signature) es fs h.terms k.terms);
}

-- the parts of both sides
pub has_both : (first second : Rc Spread Global) (one other : Spread) (p q part : MenuPart) (made : Spread) → one ≡ first.value
    → other ≡ second.value → p ≡ part_for one → q ≡ part_for other → made ≡ Both first second part
    → part_entries part ≡ part_entries p ++ part_entries q → HasBoth first.value second.value made
has_both first second one other p q part made a b c d e same = record {
  kept = λ basis way h k. subst (AreKeptBelow basis way) (sym e) (
    h,
    k,
    joined_entries basis.data_.signature (spread_items first.value) (spread_items second.value)
        (part_entries (part_for first.value)) (part_entries (part_for second.value)) (part_entries part)
        (same ∙ (ap (λ (x : MenuPart). part_entries x ++ part_entries q) (c ∙ ap part_for a)
        ∙ ap (λ (x : MenuPart). part_entries (part_for first.value) ++ part_entries x) (d ∙ ap part_for b)))
        (kept_part basis (λ entries. way (of_left entries)) first.value h)
        (kept_part basis (λ entries. way (of_right entries)) second.value k),
  );
  menu = ap spread_menu e;
}

-- what is not one part does not end
pub under_none : (basis : Ground) (way : List Entry → List Entry) (pairs : Vec (ℕ × ℕ) Global) (part : Rc Spread Global)
    → AreKeptBelow basis way (Under pairs part) → NoneEnds (spread_menu (Under pairs part))
under_none basis way pairs part k = relabel_none pairs.items (spread_menu part.value) k.0

pub both_none : (left right : Rc Spread Global) (part : MenuPart) → NoneEnds (spread_menu (Both left right part))
both_none left right part = parallel_none (spread_menu left.value) (spread_menu right.value)

module _ (basis : Ground) (way : List Entry → List Entry) (b : Behaviour) where
  abbrev IsHere : Spread → Type 0
  IsHere s = IsSpreadFor basis way b s

  pub side_here : (kept : Rc Kept Global) (own : Vec Item Global) (part : MenuPart) (made : Spread) → made ≡ Side kept own part
      → IsKeptAs basis b kept.value → AreByWay basis.data_.signature way (listed_for kept.value).items.items own.items
      → AreEntriesOf basis.data_.signature own.items (part_entries part) → IsSpreadFor basis way b made
  side_here kept own part made e h k l = subst IsHere (sym e) ((h.0, k, l), h.1)

  pub under_here : (part : Behaviour) (pairs : Vec (ℕ × ℕ) Global) (inner : Rc Spread Global) (made : Spread) → made ≡ Under pairs inner
      → NoneEnds (spread_menu inner.value) → IsRelabelled basis pairs.items part b
      → IsSpreadFor basis (λ entries. way (relabel_menu pairs.items entries)) part inner.value → IsSpreadFor basis way b made
  under_here part pairs inner made e none form h =
      subst IsHere (sym e) ((none, h.0), form (spread_menu inner.value) h.1)

  module _ (left right : Behaviour) (first second : Rc Spread Global) (made : Spread) (e : HasBoth first.value second.value made)
      (form : IsMadeBeside basis no_gates left right b)
      (h : IsSpreadFor basis (λ entries. way (of_left entries)) left first.value)
      (k : IsSpreadFor basis (λ entries. way (of_right entries)) right second.value) where
    both_here : AllSolveTo basis.canon (joins basis.data_ no_gates (spread_menu first.value) (spread_menu second.value)) []
        → IsSpreadFor basis way b made
    both_here solved = (
      e.kept basis way h.0 k.0,
      subst (IsExactOn basis b) (sym e.menu) (form (spread_menu first.value) (spread_menu second.value) [] h.1 k.1 solved),
    )

    pub both_by_left : NoneEnds (spread_menu first.value) → IsSpreadFor basis way b made
    both_by_left none = both_here (solved_of_left basis.data_ basis.canon (spread_menu first.value) (spread_menu second.value) none)

    pub both_by_right : NoneEnds (spread_menu second.value) → IsSpreadFor basis way b made
    both_by_right none = both_here (solved_of_right basis.data_ basis.canon (spread_menu first.value) (spread_menu second.value) none)

-- the menu of a node with parts side by side
pub beside_for : (basis : Ground) (node : Node) (listed : Listed) (s : Rc Spread Global) (made : Kept) → listed.node.value ≡ node
    → made ≡ Beside listed s → IsSpreadFor basis (λ entries. entries) (stands_for node) s.value
    → (Every (HasItemTerms basis.data_.signature) (spread_items s.value)
    → map plain_item listed.items.items ≡ map plain_item (spread_items s.value))
    → (Every (HasItemTerms basis.data_.signature) (spread_items s.value) → Every (HasItemTerms basis.data_.signature) listed.items.items)
    → IsKeptFor basis node made
beside_for basis node listed s made is e h same terms =
    let here : Every (HasItemTerms basis.data_.signature) (spread_items s.value) = kept_item_terms basis (λ entries. entries) s.value h.0 in
    let menu : map plain_item listed.items.items ≡ spread_menu s.value =
    same here ∙ kept_items basis (λ entries. entries) (λ xs ys. refl) s.value h.0 in
    let list : IsListedMenu basis listed = record {
      exact = subst (λ (n : Node). IsExactOn basis (stands_for n) (map plain_item listed.items.items)) (sym is)
          (subst (λ (entries : List Entry). IsExactOn basis (stands_for node) entries) (sym menu) h.1);
      terms = terms here;
    } in
    kept_again basis node (Beside listed s) made e (list, h.0, same here) (ap stands_for is)

-- what is kept for a behaviour is exact for it
pub kept_as_for : (basis : Ground) (node : Node) (k : Kept) → IsKeptFor basis node k → IsKeptAs basis (stands_for node) k
kept_as_for basis node k h = (
  h.0,
  subst (λ (b : Behaviour). IsExactOn basis b (map plain_item (listed_for k).items.items)) h.1 (root_listed basis k h.0).exact,
)

-- what is made of the items that are kept
pub kept_up : (basis : Ground) (way : List Entry → List Entry) (k : Kept) (given : Vec Item Global) (made : List Item)
    → given ≡ (listed_for k).items → IsKept basis k
    → ((signature : Signature) → Every (HasItemTerms signature) given.items → AreByWay signature way given.items made)
    → AreByWay basis.data_.signature way (listed_for k).items.items made
kept_up basis way k given made e h all =
    subst (λ (v : Vec Item Global). AreByWay basis.data_.signature way v.items made) e
    (all basis.data_.signature
    (subst (λ (v : Vec Item Global). Every (HasItemTerms basis.data_.signature) v.items) (sym e) (root_listed basis k h).terms))

pub kept_rule : (basis : Ground) (rule : Entry → Option Entry) (k : Kept) (given : Vec Item Global) (made : List Item)
    → given ≡ (listed_for k).items → IsKept basis k
    → ((signature : Signature) → Every (HasItemTerms signature) given.items → AreEntriesMadeBy signature rule given.items made)
    → AreEntriesMadeBy basis.data_.signature rule (listed_for k).items.items made
kept_rule basis rule k given made e h all =
    subst (λ (v : Vec Item Global). AreEntriesMadeBy basis.data_.signature rule v.items made) e
    (all basis.data_.signature
    (subst (λ (v : Vec Item Global). Every (HasItemTerms basis.data_.signature) v.items) (sym e) (root_listed basis k h).terms))

pub kept_order : (basis : Ground) (base : IsLawfulGround basis) (b : Behaviour) (k : Kept) (given : Vec Item Global)
    → given ≡ (listed_for k).items
    → IsClosedOn basis b → IsKeptAs basis b k → Every (IsItemOver basis.data_.signature) given.items
kept_order basis base b k given e closed h =
    subst (λ (v : Vec Item Global). Every (IsItemOver basis.data_.signature) v.items) (sym e)
    (items_over basis b base closed (listed_for k).items.items h.1 (root_listed basis k h.0).terms)

-- parts side by side of which it was asked whether they are one part that ends
module _ (basis : Ground) (way : List Entry → List Entry) (o : Option (Bor (Rc Kept Global))) (s t : Spread) (e : s ≡ t) where
  pub ended_none : o ≡ None
      → ((basis : Ground) (way : List Entry → List Entry) → AreKeptBelow basis way s → IfNone o (NoneEnds (spread_menu s)))
      → AreKeptBelow basis way t → NoneEnds (spread_menu t)
  ended_none is tells h =
      subst (λ (x : Spread). NoneEnds (spread_menu x)) e
      (subst (λ (x : Option (Bor (Rc Kept Global))). IfNone x (NoneEnds (spread_menu s))) is
      (tells basis way (subst (AreKeptBelow basis way) (sym e) h)))

  pub ended_kept : (b : Behaviour) (k : Bor (Rc Kept Global)) → o ≡ Some k
      → ((basis : Ground) (way : List Entry → List Entry) → AreKeptBelow basis way s
      → IfSome o (λ (x : Bor (Rc Kept Global)). IsKept basis x.now.value))
      → IfSome o (λ (x : Bor (Rc Kept Global)). spread_menu s ≡ map plain_item (listed_for x.now.value).items.items)
      → IsSpreadFor basis way b t → IsKeptAs basis b k.now.value
  ended_kept b k is tells menu h = (
    subst (λ (x : Option (Bor (Rc Kept Global))). IfSome x (λ (y : Bor (Rc Kept Global)). IsKept basis y.now.value)) is
        (tells basis way (subst (AreKeptBelow basis way) (sym e) h.0)),
    subst (IsExactOn basis b) (ap spread_menu (sym e)
        ∙ subst (λ (x : Option (Bor (Rc Kept Global))). IfSome x
        (λ (y : Bor (Rc Kept Global)). spread_menu s ≡ map plain_item (listed_for y.now.value).items.items)) is menu) h.1,
  )

-- the opened form of a node
pub opened_at : (basis : Ground) (closed node : Node) (form : Opened) → node ≡ closed → IsLawfulGround basis → IsPassableNode basis closed
    → ((basis : Ground) → IsLawfulGround basis → IsPassableNode basis node → IsOpened basis (stands_for node) form)
    → IsOpened basis (stands_for closed) form
opened_at basis closed node form e base h tells =
    subst (λ (n : Node). IsOpened basis (stands_for n) form) e (tells basis base (subst (IsPassableNode basis) (sym e) h))
