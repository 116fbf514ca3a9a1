-- Items put behind others, and what is asked of drafts that are made of items.
use Rattle.std.proofs.Common.{◌≡◌, ◌++◌, List, [], ◌∷◌, map, filter_map, Option, None, Some, option_map, option_to_list, refl, ap, sym, ◌∙◌, subst, append-nil}
use Rattle.std.specs.Prelude.{IfSome}
use Rattle.std.proofs.lemmas.List.{map-append}
use Rattle.lotos_base.specs.Signature.{Signature}
use Rattle.behaviour_semantics.specs.Behaviour.{SynchronisationSet}
use Rattle.behaviour_semantics.specs.DraftOrder.{IsInOrder, as_draft}
use Rattle.behaviour_semantics.specs.Shape.{left_side, right_side}
use Rattle.behaviour_semantics.specs.Solving.{Entry}
use Rattle.behaviour_semantics.specs.WellFormed.{Every}
use Rattle.behaviour_semantics.proofs.ListLemmas.{Every-append}
use Rattle.event_offers.specs.OfferView.{plain_draft, plain_entry}
use Rattle.event_offers.specs.Offers.{IsDraftOver, IsEntryOver}
use Rattle.event_offers.specs.declared.drafts.Draft as offered
use Rattle.event_offers.specs.declared.drafts.Entry as listed
use Rattle.shared_entries.specs.PartRule.{alone_rule, by_rule, passing_on}
use Rattle.shared_entries.specs.PartMenus.{parallel_menu, sides_menu}
use Rattle.shared_entries.specs.Items.{AreItemTerms, HasEntryTerms, HasItemTerms, IsItemOver, draft_terms, entry_terms, item_terms, plain_item}
use Rattle.shared_entries.specs.declared.items.Item.{Item}
use Rattle.shared_entries.proofs.ItemLemmas.{every_more}

-- ---- One more entry, or none.
pub none_pushed : (items : List Item) (o : Option listed.Entry) → o ≡ None
    → map plain_item items ≡ map plain_item items ++ option_to_list (option_map plain_entry o)
none_pushed items o e =
    sym (append-nil (map plain_item items))
    ∙ ap (λ (x : Option listed.Entry). map plain_item items ++ option_to_list (option_map plain_entry x)) (sym e)

pub one_pushed : (items more : List Item) (item : Item) (o : Option listed.Entry) (entry : listed.Entry) → o ≡ Some entry
    → more ≡ items ++ item ∷ [] → plain_item item ≡ plain_entry entry
    → map plain_item more ≡ map plain_item items ++ option_to_list (option_map plain_entry o)
one_pushed items more item o entry is m same =
    ap (λ (xs : List Item). map plain_item xs) m
    ∙ (map-append plain_item items (item ∷ [])
    ∙ (ap (λ (x : Entry). map plain_item items ++ (x ∷ [])) same
    ∙ ap (λ (x : Option listed.Entry). map plain_item items ++ option_to_list (option_map plain_entry x)) (sym is)))

pub pushed_terms : (signature : Signature) (items more : List Item) (item : Item) (o : Option listed.Entry) (entry : listed.Entry)
    → o ≡ Some entry → more ≡ items ++ item ∷ [] → item_terms item ≡ entry_terms entry
    → IfSome o (λ (e : listed.Entry). HasEntryTerms signature e) → Every (HasItemTerms signature) items
    → Every (HasItemTerms signature) more
pushed_terms signature items more item o entry is m same h k =
    every_more (HasItemTerms signature) items more item m k (subst (AreItemTerms signature) (sym same)
    (subst (λ (x : Option listed.Entry). IfSome x (λ (e : listed.Entry). HasEntryTerms signature e)) is h))

-- the terms of an entry that solving leaves
pub entry_over_terms : (signature : Signature) (o : Option listed.Entry) → IfSome o (λ (e : listed.Entry). IsEntryOver signature e)
    → IfSome o (λ (e : listed.Entry). HasEntryTerms signature e)
entry_over_terms signature None h = tt
entry_over_terms signature (Some e) h =
    record { values = h.entry_of.values; leaves = h.entry_of.leaves; conditions = h.entry_of.conditions }

-- ---- Drafts of items, and their joins.
pub draft_over : (signature : Signature) (item : Item) (made : offered.Draft) → plain_draft made ≡ as_draft (plain_item item)
    → draft_terms made ≡ item_terms item → IsItemOver signature item → IsDraftOver signature made
draft_over signature item made same terms h =
    let t : AreItemTerms signature (draft_terms made) = subst (AreItemTerms signature) (sym terms) h.terms in
    record {
      order = subst (IsInOrder signature) (sym same) h.order;
      values = t.values;
      leaves = t.leaves;
      conditions = t.conditions;
    }

pub both_over : (signature : Signature) (left right : offered.Draft) (o : Option offered.Draft)
    → IfSome o (λ (made : offered.Draft). (s : Signature) → IsDraftOver s left → IsDraftOver s right → IsDraftOver s made)
    → IsDraftOver signature left → IsDraftOver signature right → IfSome o (λ (made : offered.Draft). IsDraftOver signature made)
both_over signature left right None h k l = tt
both_over signature left right (Some made) h k l = h signature k l

-- ---- The items of both sides, and those of both together.
appended_items : (first second made : List Item) → made ≡ first ++ second
    → map plain_item made ≡ map plain_item first ++ map plain_item second
appended_items first second made m = ap (λ (xs : List Item). map plain_item xs) m ∙ map-append plain_item first second

one_behind : (first second made : List Item) (es fs : List Entry) → made ≡ first ++ second → map plain_item first ≡ es
    → map plain_item second ≡ fs → map plain_item made ≡ es ++ fs
one_behind first second made es fs m e f =
    appended_items first second made m
    ∙ (ap (λ (xs : List Entry). xs ++ map plain_item second) e ∙ ap (λ (xs : List Entry). es ++ xs) f)

pub parallel_items : (meet : SynchronisationSet) (lefts rights boths first second behind made : List Item) → made ≡ first ++ behind
    → map plain_item first ≡ filter_map (by_rule (alone_rule meet left_side)) (map plain_item lefts)
    → map plain_item second ≡ filter_map (by_rule (alone_rule meet right_side)) (map plain_item rights)
    → behind ≡ second ++ boths
    → map plain_item made ≡ parallel_menu meet (map plain_item lefts) (map plain_item rights) (map plain_item boths)
parallel_items meet lefts rights boths first second behind made m e f n =
    one_behind first behind made _ _ m e (one_behind second boths behind _ _ n f refl)

pub either_items : (lefts rights first second made : List Item) → made ≡ first ++ second
    → map plain_item first ≡ filter_map (by_rule (passing_on left_side)) (map plain_item lefts)
    → map plain_item second ≡ filter_map (by_rule (passing_on right_side)) (map plain_item rights)
    → map plain_item made ≡ sides_menu (map plain_item lefts) (map plain_item rights)
either_items lefts rights first second made m e f = one_behind first second made _ _ m e f

pub appended_terms : (signature : Signature) (first second made : List Item) → made ≡ first ++ second
    → Every (HasItemTerms signature) first → Every (HasItemTerms signature) second → Every (HasItemTerms signature) made
appended_terms signature first second made m h k =
    subst (Every (HasItemTerms signature)) (sym m) (Every-append (HasItemTerms signature) first second h k)
