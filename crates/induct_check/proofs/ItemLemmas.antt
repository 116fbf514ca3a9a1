-- What items list, item by item.
use Rattle.std.proofs.Common.{◌≡◌, ◌<◌, ◌≤◌, ◌+◌, ℕ, zero, suc, List, [], ◌∷◌, ◌++◌, None, Some, slice_get, length, map, drop, refl, ap, sym, subst, arith, get_or}
use Rattle.std.proofs.lemmas.List.{append_assoc, append-nil}
use Rattle.std.proofs.lemmas.Option.{same_Some}
use Rattle.lotos_base.proofs.Pieces.{next_member}
use Rattle.lotos_base.specs.Signature.{Signature, Operation, IsOperation}
use Rattle.lotos_base.specs.WrittenTerm.{ListedOperation}
use Rattle.lotos_base.specs.WrittenView.{listed_operation_of}
use Rattle.lotos_base.specs.declared.written_terms.OrderItem.{OrderItem}
use Rattle.std.proofs.Math.ListN.{drop_of_length-le}
use Rattle.path_order.specs.Listed.{AreListedBy}
use Rattle.induct_check.specs.CertificateReading.{ItemsList, nothing_listed, item_lists}
use Rattle.induct_check.specs.ItemView.{ItemGives}

-- Behind some of the items: what the rest list, all list behind what was listed; and where all list something, the rest do.
pub record ListsOn (signature : Signature) (all rest : List ListedOperation) (done : List ℕ) : Type 0 where
  pub on : (fs : List ℕ) → ItemsList signature rest fs → ItemsList signature all (done ++ fs)
  pub back : (fs : List ℕ) → ItemsList signature all fs → (gs : List ℕ) × ItemsList signature rest gs

pub lists_end : (signature : Signature) (all : List ListedOperation) (done : List ℕ) → ListsOn signature all [] done
    → ItemsList signature all done
lists_end signature all done now =
    subst (λ (fs : List ℕ). ItemsList signature all fs) (append-nil done) (now.on [] nothing_listed)

rest_lists : (signature : Signature) (item : ListedOperation) (rest : List ListedOperation) (fs : List ℕ)
    → ItemsList signature (item ∷ rest) fs → (gs : List ℕ) × ItemsList signature rest gs
rest_lists signature item rest fs (item_lists {rest = gs} plain listed lists) = (gs, lists)

pub lists_more : (signature : Signature) (all rest : List ListedOperation) (item : ListedOperation) (f : ℕ) (fs done : List ℕ)
    → ListsOn signature all (item ∷ rest) done → ItemGives signature item (f ∷ fs) → ListsOn signature all rest (done ++ f ∷ fs)
lists_more signature all rest item f fs done now gives = record {
  on = λ gs h. subst (λ (xs : List ℕ). ItemsList signature all xs) (sym (append_assoc done (f ∷ fs) gs))
      (now.on ((f ∷ fs) ++ gs) (item_lists gives.0 gives.1 h));
  back = λ gs h. let all_lists = now.back gs h in rest_lists signature item rest all_lists.0 all_lists.1;
}

gives_nothing : (signature : Signature) (item : ListedOperation) (rest : List ListedOperation) (fs : List ℕ)
    → ItemGives signature item [] → ItemsList signature (item ∷ rest) fs → ⊥
gives_nothing signature item rest fs gives (item_lists {f = f} {fs = gs} plain listed lists) = gives f gs plain listed

pub lists_nothing : (signature : Signature) (all rest : List ListedOperation) (item : ListedOperation) (fs done : List ℕ)
    → ListsOn signature all (item ∷ rest) done → ItemGives signature item [] → ItemsList signature all fs → ⊥
lists_nothing signature all rest item fs done now gives h =
    let all_lists = now.back fs h in
    gives_nothing signature item rest all_lists.0 gives all_lists.1

-- ---- One operation

-- Items that list one operation are one item.
one_of_two : (signature : Signature) (item : ListedOperation) (f g : ℕ) (gs : List ℕ) (one : ℕ) → AreListedBy signature item (f ∷ g ∷ gs)
    → AreListedBy signature item (one ∷ []) → ⊥
one_of_two signature item f g gs one many single =
    let first = single.all f (many.listed 0 f refl) in
    let second = single.all g (many.listed 1 g refl) in
    let below : g < f = many.latest_first 0 1 f g refl refl (omega arith) in
    let f_is : f ≡ one = only f first.0 first.1 in
    let g_is : g ≡ one = only g second.0 second.1 in
    omega (arith, below, f_is, g_is)
  where
    only : (n j : ℕ) → slice_get (one ∷ []) j ≡ Some n → n ≡ one
    only n zero e = sym (same_Some one n e)
    only n (suc j) e = absurd (cc e)

one_same : (signature : Signature) (item : ListedOperation) (f one : ℕ) → AreListedBy signature item (f ∷ [])
    → AreListedBy signature item (one ∷ []) → f ≡ one
one_same signature item f one some single =
    let there = single.all f (some.listed 0 f refl) in
    only there.0 there.1
  where
    only : (j : ℕ) → slice_get (one ∷ []) j ≡ Some f → f ≡ one
    only zero e = sym (same_Some one f e)
    only (suc j) e = absurd (cc e)

no_items : (signature : Signature) (items : List ListedOperation) → ItemsList signature items [] → items ≡ []
no_items signature [] nothing_listed = refl
no_items signature (item ∷ items) lists = elim lists [ ]

-- so what else they list is that operation
by_item : (signature : Signature) (items : List ListedOperation) (gs fs : List ℕ) (one : ℕ) → gs ≡ one ∷ []
    → ItemsList signature items gs → ItemsList signature items fs → fs ≡ one ∷ []
by_item signature [] gs fs one e nothing_listed k = absurd (cc e)
by_item signature (item ∷ items) gs fs one e (item_lists {f = f} {fs = []} {rest = []} plain listed none)
    (item_lists {f = g} {fs = []} {rest = hs} plain' listed' others) =
    let f_is : f ≡ one = cc e in
    let g_is : g ≡ f = one_same signature item g f listed' listed in
    let rest : hs ≡ [] = nothing signature items hs (no_items signature items none) others in
    cc (f_is, g_is, rest)
  where
    nothing : (signature : Signature) (items : List ListedOperation) (hs : List ℕ) → items ≡ [] → ItemsList signature items hs → hs ≡ []
    nothing signature [] hs e nothing_listed = refl
    nothing signature (i ∷ is) hs e h = absurd (cc e)
by_item signature (item ∷ items) gs fs one e (item_lists {f = f} {fs = []} {rest = []} plain listed none)
    (item_lists {f = g} {fs = h ∷ hs} {rest = more} plain' listed' others) =
    absurd (one_of_two signature item g h hs f listed' listed)
by_item signature (item ∷ items) gs fs one e (item_lists {f = f} {fs = []} {rest = g ∷ more} plain listed none) k = absurd (cc e)
by_item signature (item ∷ items) gs fs one e (item_lists {f = f} {fs = g ∷ more} {rest = rest} plain listed none) k = absurd (cc e)

pub one_listed : (signature : Signature) (items : List ListedOperation) (fs : List ℕ) (one : ℕ) → ItemsList signature items (one ∷ [])
    → ItemsList signature items fs → fs ≡ one ∷ []
one_listed signature items fs one h k = by_item signature items (one ∷ []) fs one refl h k

-- each operation that items list is one of the signature
first_is : (signature : Signature) (items : List ListedOperation) (gs : List ℕ) (one : ℕ) (more : List ℕ) → gs ≡ one ∷ more
    → ItemsList signature items gs → (operation : Operation) × IsOperation signature one operation
first_is signature [] gs one more e nothing_listed = absurd (cc e)
first_is signature (item ∷ items) gs one more e (item_lists {f = f} plain listed none) =
    let there = listed.listed 0 f refl in
    let same : f ≡ one = cc e in
    (there.operation, subst (λ (g : ℕ). IsOperation signature g there.operation) same there.is_there)

pub first_listed : (signature : Signature) (items : List ListedOperation) (one : ℕ) (more : List ℕ)
    → ItemsList signature items (one ∷ more) → (operation : Operation) × IsOperation signature one operation
first_listed signature items one more h = first_is signature items (one ∷ more) one more refl h

-- what an item gives, by what it lists
pub gives_listed : (signature : Signature) (item : ListedOperation) (fs : List ℕ) → item.status ≡ None → AreListedBy signature item fs
    → ItemGives signature item fs
gives_listed signature item [] plain listed = λ f gs none others.
    let there = listed.all f (others.listed 0 f refl) in
    cc there.1
gives_listed signature item (f ∷ fs) plain listed = (plain, listed)

-- ---- The items of the code

item_cut : (items : List OrderItem) (i : ℕ) (item : OrderItem) → i < length items → item ≡ get_or items i item
    → map listed_operation_of (drop i items) ≡ listed_operation_of item ∷ map listed_operation_of (drop (i + 1) items)
item_cut items i item within is = ap (map listed_operation_of) (next_member items i item within is)

pub items_nothing : (signature : Signature) (items : List OrderItem) (i : ℕ) (item : OrderItem) (fs done : List ℕ) → i < length items
    → item ≡ get_or items i item → ListsOn signature (map listed_operation_of items) (map listed_operation_of (drop i items)) done
    → ItemGives signature (listed_operation_of item) [] → ItemsList signature (map listed_operation_of items) fs → ⊥
items_nothing signature items i item fs done within is now gives lists =
    lists_nothing signature (map listed_operation_of items) (map listed_operation_of (drop (i + 1) items))
    (listed_operation_of item) fs done
    (subst (λ rest. ListsOn signature (map listed_operation_of items) rest done) (item_cut items i item within is) now) gives lists

pub items_more : (signature : Signature) (items : List OrderItem) (i : ℕ) (item : OrderItem) (fs done more : List ℕ) → (fs ≡ [] → ⊥)
    → i < length items → item ≡ get_or items i item
    → ListsOn signature (map listed_operation_of items) (map listed_operation_of (drop i items)) done
    → ItemGives signature (listed_operation_of item) fs → more ≡ done ++ fs
    → ListsOn signature (map listed_operation_of items) (map listed_operation_of (drop (i + 1) items)) more
items_more signature items i item [] done more some within is now gives added = absurd (some refl)
items_more signature items i item (f ∷ fs) done more some within is now gives added =
    subst (λ ms. ListsOn signature (map listed_operation_of items) (map listed_operation_of (drop (i + 1) items)) ms) (sym added)
    (lists_more signature (map listed_operation_of items) (map listed_operation_of (drop (i + 1) items))
    (listed_operation_of item) f fs done
    (subst (λ rest. ListsOn signature (map listed_operation_of items) rest done) (item_cut items i item within is) now) gives)

pub items_end : (signature : Signature) (items : List OrderItem) (i : ℕ) (done : List ℕ) → length items ≤ i
    → ListsOn signature (map listed_operation_of items) (map listed_operation_of (drop i items)) done
    → ItemsList signature (map listed_operation_of items) done
items_end signature items i done past now =
    lists_end signature (map listed_operation_of items) done
    (subst (λ rest. ListsOn signature (map listed_operation_of items) (map listed_operation_of rest) done)
    (drop_of_length-le items past) now)
