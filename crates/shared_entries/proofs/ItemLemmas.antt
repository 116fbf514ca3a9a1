-- Lists of items made one by one.
use Rattle.std.proofs.Common.{◌≡◌, ◌++◌, List, [], ◌∷◌, map, filter_map, Option, None, Some, option_map, option_to_list, ap, sym, ◌∙◌, subst, append_assoc, append-nil}
use Rattle.std.specs.Prelude.{IfSome}
use Rattle.std.specs.List.{cons_option}
use Rattle.std.proofs.lemmas.List.{map-append}
use Rattle.lotos_base.specs.Signature.{Signature}
use Rattle.behaviour_semantics.specs.Solving.{Entry}
use Rattle.behaviour_semantics.specs.WellFormed.{Every}
use Rattle.behaviour_semantics.proofs.ListLemmas.{Every-append}
use Rattle.shared_entries.specs.Items.{HasItemTerms, IsItemOver, plain_item}
use Rattle.shared_entries.specs.Rules.{AreEntriesMadeBy}
use Rattle.shared_entries.specs.declared.items.Item.{Item}

-- ---- A list that is walked by an index.

-- one more
pub every_more : {X : Type 0} (P : X → Type 0) (made more : List X) (x : X) → more ≡ made ++ x ∷ [] → Every P made → P x → Every P more
every_more P made more x e h k = subst (Every P) (sym e) (Every-append P made (x ∷ []) h (k, tt))

-- ---- A rule over a list.
pub record IsHalfMade (signature : Signature) (rule : Entry → Option Entry) (given rest made : List Item) : Type 0 where
  pub same : map plain_item made ++ filter_map rule (map plain_item rest) ≡ filter_map rule (map plain_item given)
  pub terms : Every (HasItemTerms signature) made
  pub left : Every (HasItemTerms signature) rest

-- one more, or none
added : (made : List Item) (o : Option Item) (p : Option Entry) (rest : List Entry) → option_map plain_item o ≡ p
    → map plain_item (made ++ option_to_list o) ++ rest ≡ map plain_item made ++ cons_option p rest
added made None None rest e = ap (λ (xs : List Item). map plain_item xs ++ rest) (append-nil made)
added made None (Some d) rest e = absurd (cc e)
added made (Some y) None rest e = absurd (cc e)
added made (Some y) (Some d) rest e =
    let same : plain_item y ≡ d = cc in
    ap (λ (xs : List Entry). xs ++ rest) (map-append plain_item made (y ∷ []))
    ∙ (append_assoc (map plain_item made) (plain_item y ∷ []) rest
    ∙ ap (λ (x : Entry). map plain_item made ++ (x ∷ rest)) same)

some_terms : (signature : Signature) (o : Option Item) → IfSome o (λ (made : Item). HasItemTerms signature made)
    → Every (HasItemTerms signature) (option_to_list o)
some_terms signature None h = tt
some_terms signature (Some d) h = (h, tt)

pub some_at : (signature : Signature) (item : Item) (o : Option Item)
    → IfSome o (λ (made : Item). (signature : Signature) → HasItemTerms signature item → HasItemTerms signature made)
    → HasItemTerms signature item → IfSome o (λ (made : Item). HasItemTerms signature made)
some_at signature item None h k = tt
some_at signature item (Some made) h k = h signature k

pub half_more : (signature : Signature) (rule : Entry → Option Entry) (given rest made more : List Item) (item : Item) (o : Option Item)
    → more ≡ made ++ option_to_list o → option_map plain_item o ≡ rule (plain_item item)
    → IfSome o (λ (x : Item). HasItemTerms signature x) → IsHalfMade signature rule given (item ∷ rest) made
    → IsHalfMade signature rule given rest more
half_more signature rule given rest made more item o m is terms h = record {
  same = ap (λ (xs : List Item). map plain_item xs ++ filter_map rule (map plain_item rest)) m
      ∙ (added made o (rule (plain_item item)) (filter_map rule (map plain_item rest)) is ∙ h.same);
  terms = subst (Every (HasItemTerms signature)) (sym m)
      (Every-append (HasItemTerms signature) made (option_to_list o) h.terms (some_terms signature o terms));
  left = h.left.1;
}

pub half_done : (signature : Signature) (rule : Entry → Option Entry) (given rest made : List Item) → rest ≡ []
    → IsHalfMade signature rule given rest made → AreEntriesMadeBy signature rule given made
half_done signature rule given rest made e h = record {
  same = sym (append-nil (map plain_item made))
      ∙ (ap (λ (xs : List Item). map plain_item made ++ filter_map rule (map plain_item xs)) (sym e) ∙ h.same);
  terms = h.terms;
}

-- the terms of items that are in order
pub over_terms : (signature : Signature) (items : List Item) → Every (IsItemOver signature) items → Every (HasItemTerms signature) items
over_terms signature [] h = tt
over_terms signature (item ∷ items) h = (h.0.terms, over_terms signature items h.1)

pub half_begun : (signature : Signature) (rule : Entry → Option Entry) (given made : List Item) → made ≡ []
    → Every (HasItemTerms signature) given → IsHalfMade signature rule given given made
half_begun signature rule given made e h = record {
  same = ap (λ (xs : List Item). map plain_item xs ++ filter_map rule (map plain_item given)) e;
  terms = subst (Every (HasItemTerms signature)) (sym e) tt;
  left = h;
}

-- ---- A list that is made one by one of another, and seen as the same.
pub mapped_begun : {X Y Z : Type 0} (f : X → Z) (g : Y → Z) (made : List X) (rest : List Y) → made ≡ []
    → map f made ++ map g rest ≡ map g rest
mapped_begun {X = X} f g made rest e = ap (λ (xs : List X). map f xs ++ map g rest) e

pub mapped_more : {X Y Z : Type 0} (f : X → Z) (g : Y → Z) (made more : List X) (x : X) (rest next : List Y) (y : Y) (whole : List Z)
    → rest ≡ y ∷ next → more ≡ made ++ x ∷ [] → f x ≡ g y → map f made ++ map g rest ≡ whole → map f more ++ map g next ≡ whole
mapped_more {X = X} {Y = Y} {Z = Z} f g made more x rest next y whole e m same h =
    ap (λ (xs : List X). map f xs ++ map g next) m
    ∙ (ap (λ (zs : List Z). zs ++ map g next) (map-append f made (x ∷ []))
    ∙ (append_assoc (map f made) (f x ∷ []) (map g next)
    ∙ (ap (λ (z : Z). map f made ++ (z ∷ map g next)) same ∙ (ap (λ (ys : List Y). map f made ++ map g ys) (sym e) ∙ h))))

pub mapped_done : {X Y Z : Type 0} (f : X → Z) (g : Y → Z) (made : List X) (rest : List Y) (whole : List Z) → rest ≡ []
    → map f made ++ map g rest ≡ whole → map f made ≡ whole
mapped_done {Y = Y} f g made rest whole e h =
    sym (append-nil (map f made)) ∙ (ap (λ (ys : List Y). map f made ++ map g ys) (sym e) ∙ h)
