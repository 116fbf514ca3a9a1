-- The operations that items list, item by item, and what is wrong with an item.
use Rattle.std.proofs.Common.{◌≡◌, ℕ, zero, suc, ◌+◌, ◌<◌, ◌≤◌, List, [], ◌∷◌, ◌++◌, length, get_or, take, map, refl, ap, sym, ◌∙◌, subst, inl, inr, arith, append-nil, append_assoc, Bool, true, false, ltb-true, ltb-false}
use Rattle.std.specs.Prelude.{Some, None, slice_get, ◌⊎◌, nat_lt}
use Rattle.std.proofs.lemmas.List.{take_more, map-append, length-map}
use Rattle.std.proofs.lemmas.Option.{same_Some, slice_get_within}
use Rattle.lotos_base.specs.Equation.{Place}
use Rattle.lotos_base.specs.WrittenTerm.{ListedOperation}
use Rattle.lotos_base.specs.WrittenView.{listed_operation_of}
use Rattle.lotos_base.specs.declared.written_terms.OrderItem.{OrderItem}
use Rattle.lotos_base.specs.Signature.{Signature}
use Rattle.rewriting_theory.specs.Precedence.{Status}
use Rattle.sort_terms.specs.Operations.{operation_of}
use Rattle.sort_terms.specs.SignatureView.{signature_of}
use Rattle.sort_terms.specs.declared.signatures.Signature.{Signature as CodeSignature}
use Rattle.path_order.specs.Listed.{IsListedBy, AreListedBy}
use Rattle.path_order.specs.Listing.{AreListedByItems, none_listed, listed_then, IsNumberIn, IsUnknown, IsTwice, IsFineItem, listed_name}
use Rattle.path_order.specs.Statuses.{HasBadStatus, status_written}
use Rattle.path_order.specs.OrderFaultView.{IsOrderFault}
use Rattle.path_order.specs.Steps.{HasCommon, IsItemFault}
use Rattle.path_order.specs.declared.order_fault.OrderFault.{OrderFault}
use Rattle.path_order.specs.declared.order_fault.OrderFault.TheVariants.{UnknownOperation, TwiceListed, BadStatus, NoMemory}
use Rattle.path_order.proofs.Numbers.{in_joined, first_joined, second_joined}

-- ---- listings

listed_last : {signature : Signature} {items : List ListedOperation} {listing : List ℕ} (item : ListedOperation) (fs : List ℕ)
    → AreListedByItems signature items listing → AreListedBy signature item fs
    → AreListedByItems signature (items ++ item ∷ []) (listing ++ fs)
listed_last {signature = signature} item fs none_listed by =
    subst (λ (ns : List ℕ). AreListedByItems signature (item ∷ []) ns) (append-nil fs) (listed_then by none_listed)
listed_last {signature = signature} item fs (listed_then {item = first} {items = items} {fs = gs} {rest = rest} one later) by =
    subst (λ (ns : List ℕ). AreListedByItems signature (first ∷ (items ++ item ∷ [])) ns) (sym (append_assoc gs rest fs))
    (listed_then one (listed_last item fs later by))

-- each operation there is listed by some item
pub some_item : {signature : Signature} {items : List ListedOperation} {listing : List ℕ}
    → AreListedByItems signature items listing → (f : ℕ)
    → IsNumberIn listing f
    → (k : ℕ) × (item : ListedOperation) × (slice_get items k ≡ Some item) × IsListedBy signature item f
some_item none_listed f is = let none : None ≡ Some f = is.1 in cc
some_item {signature = signature} (listed_then {item = first} {items = items} {fs = gs} {rest = rest} one later) f is =
    go (in_joined gs rest f is) (λ there. some_item later f there)
  where
    go : IsNumberIn gs f ⊎ IsNumberIn rest f
        → (IsNumberIn rest f → (k : ℕ) × (item : ListedOperation) × (slice_get items k ≡ Some item) × IsListedBy signature item f)
        → (k : ℕ) × (item : ListedOperation) × (slice_get (first ∷ items) k ≡ Some item) × IsListedBy signature item f
    go (inl here) below = (0, first, refl, one.listed here.0 f here.1)
    go (inr there) below = let at = below there in (suc at.0, at.1, at.2, at.3)

-- and each that an item lists is there
pub is_there : {signature : Signature} {items : List ListedOperation} {listing : List ℕ}
    → AreListedByItems signature items listing → (f k : ℕ)
    (item : ListedOperation) → slice_get items k ≡ Some item → IsListedBy signature item f → IsNumberIn listing f
is_there none_listed f k item at by = let none : None ≡ Some item = at in cc
is_there {signature = signature} (listed_then {item = first} {fs = gs} {rest = rest} one later) f zero item at by =
    let same : item ≡ first = sym (same_Some first item at) in
    let found = one.all f (subst (λ (i : ListedOperation). IsListedBy signature i f) same by) in
    (found.0, first_joined gs rest found.0 f found.1)
is_there (listed_then {fs = gs} {rest = rest} one later) f (suc k) item at by =
    let found = is_there later f k item at by in (length gs + found.0, second_joined gs rest found.0 f found.1)

-- ---- what an item lists

pub listed_below : (signature : CodeSignature) (item : ListedOperation) (fs : List ℕ) (n j f : ℕ)
    → AreListedBy (signature_of signature) item fs → n ≡ length signature.ops.items → slice_get fs j ≡ Some f → f < n
listed_below signature item fs n j f by same at =
    let one = by.listed j f at in
    let within = slice_get_within (signature_of signature).operations f one.operation one.is_there in
    let long = length-map signature.ops.items operation_of in omega (arith, within, long, same)

-- ---- one more item

pub item_at : (order : List OrderItem) (i : ℕ) (item : OrderItem) → i < length order → item ≡ get_or order i item
    → slice_get (map listed_operation_of order) i ≡ Some (listed_operation_of item)
item_at [] i item within is = absurd (omega arith)
item_at (x ∷ xs) zero item within is = ap (λ (o : OrderItem). Some (listed_operation_of o)) (sym is)
item_at (x ∷ xs) (suc i) item within is = item_at xs i item (omega arith) is

-- the items so far
so_far_at : (order : List OrderItem) (i k : ℕ) (item : ListedOperation) → slice_get (map listed_operation_of (take i order)) k ≡ Some item
    → (k < i) × (slice_get (map listed_operation_of order) k ≡ Some item)
so_far_at xs zero k item at = let none : None ≡ Some item = at in cc
so_far_at [] (suc i) k item at = let none : None ≡ Some item = at in cc
so_far_at (x ∷ xs) (suc i) zero item at = (omega arith, at)
so_far_at (x ∷ xs) (suc i) (suc k) item at = let later = so_far_at xs i k item at in (omega (arith, later.0), later.1)

pub at_so_far : (order : List OrderItem) (i k : ℕ) (item : ListedOperation)
    → k < i → slice_get (map listed_operation_of order) k ≡ Some item
    → slice_get (map listed_operation_of (take i order)) k ≡ Some item
at_so_far xs zero k item before at = absurd (omega (arith, before))
at_so_far [] (suc i) k item before at = at
at_so_far (x ∷ xs) (suc i) zero item before at = at
at_so_far (x ∷ xs) (suc i) (suc k) item before at = at_so_far xs i k item (omega (arith, before)) at

pub listed_more : (signature : Signature) (order : List OrderItem) (i : ℕ) (item : OrderItem) (old found new : List ℕ) → i < length order
    → item ≡ get_or order i item → AreListedByItems signature (map listed_operation_of (take i order)) old
    → AreListedBy signature (listed_operation_of item) found → new ≡ old ++ found
    → AreListedByItems signature (map listed_operation_of (take (i + 1) order)) new
listed_more signature order i item old found new within is so_far by added =
    let items : map listed_operation_of (take (i + 1) order)
    ≡ map listed_operation_of (take i order) ++ listed_operation_of item ∷ [] =
    ap (map listed_operation_of) (take_more order i item within ∙ ap (λ (o : OrderItem). take i order ++ o ∷ []) (sym is))
    ∙ map-append listed_operation_of (take i order) (item ∷ []) in
    subst (λ (ns : List ℕ). AreListedByItems signature (map listed_operation_of (take (i + 1) order)) ns) (sym added)
    (subst (λ (is : List ListedOperation). AreListedByItems signature is (old ++ found)) (sym items)
    (listed_last (listed_operation_of item) found so_far by))

-- an item of which something was found lists an operation
known_found : (signature : Signature) (item : ListedOperation) (found : List ℕ) → AreListedBy signature item found
    → (found ≡ [] → ⊥) → IsUnknown signature item → ⊥
known_found signature item [] by some unknown = some refl
known_found signature item (f ∷ fs) by some unknown = unknown f (by.listed 0 f refl)

-- and it lists none again where nothing of it was there already
once_found : (signature : Signature) (order : List OrderItem) (i : ℕ) (item : ListedOperation) (old found : List ℕ)
    → AreListedByItems signature (map listed_operation_of (take i order)) old → AreListedBy signature item found
    → (HasCommon old found → ⊥) → IsTwice signature (map listed_operation_of order) i item → ⊥
once_found signature order i item old found so_far by apart twice =
    apart (
      twice.operation,
      is_there so_far twice.operation twice.earlier twice.other
          (at_so_far order i twice.earlier twice.other twice.before twice.is_other) twice.was_listed,
      by.all twice.operation twice.is_listed,
    )

pub fine_more : (signature : Signature) (order : List OrderItem) (i : ℕ) (item : OrderItem) (old found : List ℕ) (status : Status)
    → i < length order
    → item ≡ get_or order i item → AreListedByItems signature (map listed_operation_of (take i order)) old
    → AreListedBy signature (listed_operation_of item) found → (found ≡ [] → ⊥) → (HasCommon old found → ⊥)
    → status_written (listed_operation_of item).status ≡ Some status
    → ((k : ℕ) → k < i → IsFineItem signature (map listed_operation_of order) k)
    → (k : ℕ) → k < i + 1 → IsFineItem signature (map listed_operation_of order) k
fine_more signature order i item old found status within is so_far by some apart writes fine k before one at = go (nat_lt k i) refl
  where
    go : (b : Bool) → nat_lt k i ≡ b
        → (¬ IsUnknown signature one) × (¬ IsTwice signature (map listed_operation_of order) k one) × (¬ HasBadStatus one)
    go true e = fine k (ltb-true k i e) one at
    go false e =
        let past : i ≤ k = ltb-false k i e in
        let same : k ≡ i = omega (arith, past, before) in
        let this : listed_operation_of item ≡ one =
        same_Some (listed_operation_of item) one (sym (item_at order i item within is)
        ∙ ap (λ (n : ℕ). slice_get (map listed_operation_of order) n) (sym same) ∙ at) in
        let listed = subst (λ (o : ListedOperation). AreListedBy signature o found) this by in (
          known_found signature one found listed some,
          (λ twice.
              once_found signature order i one old found so_far listed apart
              (subst (λ (n : ℕ). IsTwice signature (map listed_operation_of order) n one) same twice)),
          (λ bad.
              let none : None ≡ Some status = sym bad ∙ ap (λ (o : ListedOperation). status_written o.status) (sym this) ∙ writes in cc),
        )

name_told : (item : ListedOperation) (place : Place) (name : List ℕ) → place ≡ item.place → name ≡ item.name
    → listed_name item ≡ Some (record { place = place; name = name })
name_told item place name placed named = λ j. Some (record { place = sym placed j; name = sym named j })

pub first_wrong : (signature : Signature) (order : List OrderItem) (i : ℕ) (item : OrderItem) (old found : List ℕ) (fault : OrderFault)
    → i < length order → item ≡ get_or order i item → AreListedByItems signature (map listed_operation_of (take i order)) old
    → AreListedBy signature (listed_operation_of item) found
    → ((k : ℕ) → k < i → IsFineItem signature (map listed_operation_of order) k)
    → IsItemFault (listed_operation_of item) old found fault → IsOrderFault signature (map listed_operation_of order) fault
first_wrong signature order i item old found (UnknownOperation place name) within is so_far by fine h = record {
  number = i;
  item = listed_operation_of item;
  is_at = item_at order i item within is;
  wrong = λ f listed.
      let at = by.all f listed in
      let none : None ≡ Some f = ap (λ (ns : List ℕ). slice_get ns at.0) (sym h.2) ∙ at.1 in cc;
  told = name_told (listed_operation_of item) _ _ h.0 h.1;
  fine_before = fine;
}
first_wrong signature order i item old found (TwiceListed place name) within is so_far by fine h =
    let common = h.2 in
    let earlier = some_item so_far common.0 common.1 in
    let at = so_far_at order i earlier.0 earlier.1 earlier.2 in
    record {
      number = i;
      item = listed_operation_of item;
      is_at = item_at order i item within is;
      wrong = record {
        operation = common.0;
        is_listed = by.listed common.2.0 common.0 common.2.1;
        earlier = earlier.0;
        other = earlier.1;
        before = at.0;
        is_other = at.1;
        was_listed = earlier.3;
      };
      told = name_told (listed_operation_of item) _ _ h.0 h.1;
      fine_before = fine;
    }
first_wrong signature order i item old found (BadStatus place name) within is so_far by fine h = record {
  number = i;
  item = listed_operation_of item;
  is_at = item_at order i item within is;
  wrong = (
    known_found signature (listed_operation_of item) found by h.2,
    once_found signature order i (listed_operation_of item) old found so_far by h.3,
    h.1,
  );
  told = h.0;
  fine_before = fine;
}
first_wrong signature order i item old found NoMemory within is so_far by fine h = tt

-- all of them
pub fine_all : (signature : Signature) (order : List OrderItem) (i : ℕ) → length order ≤ i
    → ((k : ℕ) → k < i → IsFineItem signature (map listed_operation_of order) k)
    → (k : ℕ) → IsFineItem signature (map listed_operation_of order) k
fine_all signature order i end fine k item at =
    let within : k < length (map listed_operation_of order) = slice_get_within (map listed_operation_of order) k item at in
    let long : length (map listed_operation_of order) ≡ length order = length-map order listed_operation_of in
    fine k (omega (arith, within, long, end)) item at
