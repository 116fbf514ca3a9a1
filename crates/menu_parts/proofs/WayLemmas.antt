-- What the whole has of the entries of a part, rule by rule on the way up, and the items of all parts.
use Rattle.std.proofs.Common.{◌≡◌, List, [], ◌++◌, ℕ, map, Some, ap, sym, ◌∙◌, subst, append_assoc}
use Rattle.std.specs.Borrow.{Bor}
use Rattle.std.specs.Prelude.{Vec}
use Rattle.std.specs.declared.alloc.Global.{Global}
use Rattle.std.specs.declared.rc.Rc.{Rc}
use Rattle.std.proofs.lemmas.List.{map-append}
use Rattle.lotos_base.specs.Signature.{Signature}
use Rattle.behaviour_semantics.specs.Behaviour.{no_gates}
use Rattle.behaviour_semantics.specs.Shape.{left_side, right_side, relabelled}
use Rattle.behaviour_semantics.specs.Solving.{Entry}
use Rattle.behaviour_semantics.specs.WellFormed.{Every}
use Rattle.behaviour_semantics.proofs.EveryLemmas.{every_back, every_front}
use Rattle.shared_entries.specs.HandedOn.{MenuPart}
use Rattle.shared_entries.specs.Items.{HasItemTerms, plain_item}
use Rattle.shared_entries.specs.PartRule.{alone_rule, by_rule, under_rule}
use Rattle.shared_entries.specs.Rules.{AreEntriesMadeBy}
use Rattle.menu_parts.specs.Spread.{AreByWay, by_way, spread_items}
use Rattle.shared_entries.specs.declared.items.Item.{Item}
use Rattle.menu_parts.specs.declared.kept.Spread.{Spread, Both}
use Rattle.menu_parts.specs.declared.ways.Way.{Way, Top, Left, Right, Under}
use Rattle.menu_parts.proofs.SpreadLemmas.{all_kept}

module _ (signature : Signature) (way : Way) (given made : List Item) where
  abbrev IsUp : Way → Type 0
  IsUp w = AreByWay signature (by_way w) given made

  pub top_up : way ≡ Top → AreEntriesMadeBy signature (λ (entry : Entry). Some entry) given made
      → AreByWay signature (by_way way) given made
  top_up is h = subst IsUp (sym is) (record { same = h.same ∙ all_kept (map plain_item given); terms = h.terms })

  module _ (above : Bor Way) (between : List Item) (k : AreByWay signature (by_way above.now) between made) where
    pub left_up : way ≡ Left above → AreEntriesMadeBy signature (by_rule (alone_rule no_gates left_side)) given between
        → AreByWay signature (by_way way) given made
    left_up is h = subst IsUp (sym is) (record { same = k.same ∙ ap (by_way above.now) h.same; terms = k.terms })

    pub right_up : way ≡ Right above → AreEntriesMadeBy signature (by_rule (alone_rule no_gates right_side)) given between
        → AreByWay signature (by_way way) given made
    right_up is h = subst IsUp (sym is) (record { same = k.same ∙ ap (by_way above.now) h.same; terms = k.terms })

    pub under_up : (pairs : Bor (Vec (ℕ × ℕ) Global)) → way ≡ Under pairs above
        → AreEntriesMadeBy signature (by_rule (under_rule relabelled pairs.now.items)) given between
        → AreByWay signature (by_way way) given made
    under_up pairs is h = subst IsUp (sym is) (record { same = k.same ∙ ap (by_way above.now) h.same; terms = k.terms })

-- ---- The items of all parts, pushed one after another.
pub all_pushed : (items more own copies : List Item) → more ≡ items ++ copies
    → map plain_item copies ≡ map plain_item own → map plain_item more ≡ map plain_item items ++ map plain_item own
all_pushed items more own copies e same =
    ap (map plain_item) e ∙ (map-append plain_item items copies ∙ ap (λ (xs : List Entry). map plain_item items ++ xs) same)

pub own_pushed : (signature : Signature) (items more own copies : List Item) → more ≡ items ++ copies
    → AreEntriesMadeBy signature (λ (entry : Entry). Some entry) own copies
    → map plain_item more ≡ map plain_item items ++ map plain_item own
own_pushed signature items more own copies e h =
    all_pushed items more own copies e (h.same ∙ all_kept (map plain_item own))

abbrev pub ArePushed : List Item → List Item → Spread → Type 0
ArePushed items more s =
    (signature : Signature) → Every (HasItemTerms signature) (spread_items s)
    → map plain_item more ≡ map plain_item items ++ map plain_item (spread_items s)

abbrev pub HavePushedTerms : List Item → List Item → Spread → Type 0
HavePushedTerms items more s =
    (signature : Signature) → Every (HasItemTerms signature) items → Every (HasItemTerms signature) (spread_items s)
    → Every (HasItemTerms signature) more

module _ (items between more : List Item) (left right : Rc Spread Global) (part : MenuPart) (s first second : Spread)
    (is : s ≡ Both left right part) (e : first ≡ left.value) (f : second ≡ right.value) (h : ArePushed items between first)
    (k : ArePushed between more second) where
  pub both_pushed : ArePushed items more s
  both_pushed = subst (ArePushed items more) (sym is) (λ signature terms.
      let xs = spread_items left.value in
      let ys = spread_items right.value in
      subst (ArePushed between more) f k signature (every_back (HasItemTerms signature) xs ys terms)
      ∙ (ap (λ (zs : List Entry). zs ++ map plain_item ys)
      (subst (ArePushed items between) e h signature (every_front (HasItemTerms signature) xs ys terms))
      ∙ (append_assoc (map plain_item items) (map plain_item xs) (map plain_item ys)
      ∙ ap (λ (zs : List Entry). map plain_item items ++ zs) (sym (map-append plain_item xs ys)))))

pub both_pushed_terms : (items between more : List Item) (left right : Rc Spread Global) (part : MenuPart) (s first second : Spread)
    → s ≡ Both left right part → first ≡ left.value → second ≡ right.value → HavePushedTerms items between first
    → HavePushedTerms between more second
    → HavePushedTerms items more s
both_pushed_terms items between more left right part s first second is e f h k =
    subst (HavePushedTerms items more) (sym is) (λ signature earlier terms.
    let xs = spread_items left.value in
    let ys = spread_items right.value in
    subst (HavePushedTerms between more) f k signature
    (subst (HavePushedTerms items between) e h signature earlier (every_front (HasItemTerms signature) xs ys terms))
    (every_back (HasItemTerms signature) xs ys terms))

-- the items of all parts alone
pub first_pushed : (signature : Signature) (items more : List Item) (s t : Spread) → items ≡ [] → s ≡ t → ArePushed items more s
    → Every (HasItemTerms signature) (spread_items t) → map plain_item more ≡ map plain_item (spread_items t)
first_pushed signature items more s t e f h terms =
    subst (ArePushed items more) f h signature terms ∙ ap (λ (xs : List Item). map plain_item xs ++ map plain_item (spread_items t)) e

pub first_pushed_terms : (signature : Signature) (items more : List Item) (s t : Spread) → items ≡ [] → s ≡ t
    → HavePushedTerms items more s → Every (HasItemTerms signature) (spread_items t) → Every (HasItemTerms signature) more
first_pushed_terms signature items more s t e f h terms =
    subst (HavePushedTerms items more) f h signature (subst (Every (HasItemTerms signature)) (sym e) tt) terms
