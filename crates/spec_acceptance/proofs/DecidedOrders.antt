-- Items of an order give operations one order, and have one first fault.
use Rattle.std.proofs.Common.{refl, ap, sym, ◌∙◌, ◌≡◌, ◌<◌, subst, ℕ, zero, suc, List, [], ◌∷◌, ◌++◌, length, None, Some, slice_get, arith}
use Rattle.std.specs.Prelude.{Option}
use Rattle.std.proofs.lemmas.Option.{same_Some}
use Rattle.lotos_base.specs.WrittenTerm.{PlacedName, ListedOperation}
use Rattle.lotos_base.specs.Equation.{Place}
use Rattle.lotos_base.specs.Signature.{Signature}
use Rattle.rewriting_theory.proofs.PairListLemmas.{neither_less}
use Rattle.rewriting_theory.specs.Precedence.{Status, from_left, from_right, Precedence, IsOver}
use Rattle.path_order.proofs.OneListing.{listed_by_once}
use Rattle.path_order.specs.Listing.{AreListedByItems, none_listed, listed_then, IsAbove, IsUnknown, IsTwice, IsBadAlone, IsFineItem, IsFirstWrong, listed_name, listed_status}
use Rattle.path_order.specs.OrderedBy.{IsPrecedenceBy}

-- ---- The order of the items

listed_once : {signature : Signature} {items : List ListedOperation} {one other : List ℕ} → AreListedByItems signature items one
    → AreListedByItems signature items other → one ≡ other
listed_once none_listed none_listed = refl
listed_once {signature = signature} (listed_then {item = item} {fs = fs} one more) (listed_then {fs = gs} also rest) =
    let first : fs ≡ gs = listed_by_once signature item fs gs one also in
    let later = listed_once more rest in
    (λ i. first i ++ later i)

pub over_once : (signature : Signature) (items : List ListedOperation) (p q : Precedence) → IsPrecedenceBy signature items p
    → IsPrecedenceBy signature items q → (f g : ℕ) → f < length signature.operations → g < length signature.operations
    → IsOver p f g → IsOver q f g
over_once signature items p q is also f g first second over =
    (also.over f g first second).1
    (subst (λ (listing : List ℕ). IsAbove listing f g) (listed_once is.listed also.listed) ((is.over f g first second).0 over))

same_status : (s r : Status) → (s ≡ from_right → r ≡ from_right) → (r ≡ from_right → s ≡ from_right) → s ≡ r
same_status from_left from_left there back = refl
same_status from_left from_right there back = back refl
same_status from_right from_left there back = sym (there refl)
same_status from_right from_right there back = refl

pub statuses_once : (signature : Signature) (items : List ListedOperation) (p q : Precedence) → IsPrecedenceBy signature items p
    → IsPrecedenceBy signature items q → (f : ℕ) → p.status f ≡ q.status f
statuses_once signature items p q is also f =
    same_status (p.status f) (q.status f) (λ right. (also.statuses f).1 ((is.statuses f).0 right))
    (λ right. (is.statuses f).1 ((also.statuses f).0 right))

-- ---- Faults of items

-- what is wrong keeps an item from being fine
abbrev pub IsFault : Signature → List ListedOperation → (ℕ → ListedOperation → Type 0) → Type 0
IsFault signature items IsWrong = (k : ℕ) (item : ListedOperation) → slice_get items k ≡ Some item → IsWrong k item
    → IsFineItem signature items k → ⊥

abbrev pub UnknownAt : Signature → ℕ → ListedOperation → Type 0
UnknownAt signature k item = IsUnknown signature item

abbrev pub TwiceAt : Signature → List ListedOperation → ℕ → ListedOperation → Type 0
TwiceAt signature items k item = IsTwice signature items k item

pub unknown_is_fault : (signature : Signature) (items : List ListedOperation) → IsFault signature items (UnknownAt signature)
unknown_is_fault signature items k item at wrong fine = (fine item at).0 wrong

pub twice_is_fault : (signature : Signature) (items : List ListedOperation) → IsFault signature items (TwiceAt signature items)
twice_is_fault signature items k item at wrong fine = (fine item at).1 wrong

abbrev pub BadAt : Signature → List ListedOperation → ℕ → ListedOperation → Type 0
BadAt signature items k item = IsBadAlone signature items k item

pub bad_is_fault : (signature : Signature) (items : List ListedOperation) → IsFault signature items (BadAt signature items)
bad_is_fault signature items k item at wrong fine = (fine item at).2 wrong.2

module _ (signature : Signature) (items : List ListedOperation) (IsWrong IsOther : ℕ → ListedOperation → Type 0)
    (wrongs : IsFault signature items IsWrong) (others : IsFault signature items IsOther)
    (told_in other_in : ListedOperation → Option PlacedName) (place at : Place) (name word : List ℕ)
    (one : IsFirstWrong signature items IsWrong told_in place name) (other : IsFirstWrong signature items IsOther other_in at word) where
  one_number : one.number ≡ other.number
  one_number =
      neither_less one.number other.number
      (λ less. wrongs one.number one.item one.is_at one.wrong (other.fine_before one.number less))
      (λ less. others other.number other.item other.is_at other.wrong (one.fine_before other.number less))

  pub one_item : one.item ≡ other.item
  one_item = same_Some one.item other.item (sym one.is_at ∙ ap (λ (k : ℕ). slice_get items k) one_number ∙ other.is_at)

-- a place and a name that are told
abbrev told_at : Place → List ℕ → PlacedName
told_at place name = record { place = place; name = name }

-- one fault of one kind tells one place and one name
module _ (signature : Signature) (items : List ListedOperation) (IsWrong : ℕ → ListedOperation → Type 0)
    (wrongs : IsFault signature items IsWrong) (told_in : ListedOperation → Option PlacedName)
    (place at : Place) (name word : List ℕ)
    (one : IsFirstWrong signature items IsWrong told_in place name) (other : IsFirstWrong signature items IsWrong told_in at word) where
  one_told : told_at place name ≡ told_at at word
  one_told =
      same_Some (told_at place name) (told_at at word)
      (sym one.told
      ∙ ap told_in (one_item signature items IsWrong IsWrong wrongs wrongs told_in told_in place at name word one other) ∙ other.told)

  pub one_place : place ≡ at
  one_place = ap (λ (told : PlacedName). told.place) one_told

  pub one_name : name ≡ word
  one_name = ap (λ (told : PlacedName). told.name) one_told

-- an item that lists nothing lists nothing twice
pub not_unknown_and_twice : (signature : Signature) (items : List ListedOperation) (place at : Place) (name word : List ℕ)
    → IsFirstWrong signature items (UnknownAt signature) listed_name place name
    → IsFirstWrong signature items (TwiceAt signature items) listed_name at word → ⊥
not_unknown_and_twice signature items place at name word one other =
    let same = one_item signature items (UnknownAt signature) (TwiceAt signature items) (unknown_is_fault signature items)
    (twice_is_fault signature items) listed_name listed_name place at name word one other in
    subst (λ (item : ListedOperation). IsUnknown signature item) same one.wrong other.wrong.operation other.wrong.is_listed

-- an item with nothing wrong but its status lists something, and nothing twice
pub not_unknown_and_bad : (signature : Signature) (items : List ListedOperation) (place at : Place) (name word : List ℕ)
    → IsFirstWrong signature items (UnknownAt signature) listed_name place name
    → IsFirstWrong signature items (BadAt signature items) listed_status at word → ⊥
not_unknown_and_bad signature items place at name word one other =
    let same = one_item signature items (UnknownAt signature) (BadAt signature items) (unknown_is_fault signature items)
    (bad_is_fault signature items) listed_name listed_status place at name word one other in
    other.wrong.0 (subst (λ (item : ListedOperation). IsUnknown signature item) same one.wrong)

pub not_twice_and_bad : (signature : Signature) (items : List ListedOperation) (place at : Place) (name word : List ℕ)
    → IsFirstWrong signature items (TwiceAt signature items) listed_name place name
    → IsFirstWrong signature items (BadAt signature items) listed_status at word → ⊥
not_twice_and_bad signature items place at name word one other =
    let number = one_number signature items (TwiceAt signature items) (BadAt signature items) (twice_is_fault signature items)
    (bad_is_fault signature items) listed_name listed_status place at name word one other in
    let same = one_item signature items (TwiceAt signature items) (BadAt signature items) (twice_is_fault signature items)
    (bad_is_fault signature items) listed_name listed_status place at name word one other in
    other.wrong.1
    (subst (λ (k : ℕ). IsTwice signature items k other.item) number
    (subst (λ (item : ListedOperation). IsTwice signature items one.number item) same one.wrong))

pub not_fine_and_wrong : (signature : Signature) (items : List ListedOperation) (p : Precedence)
    (IsWrong : ℕ → ListedOperation → Type 0) → IsFault signature items IsWrong → (told_in : ListedOperation → Option PlacedName)
    (place : Place) (name : List ℕ)
    → IsPrecedenceBy signature items p → IsFirstWrong signature items IsWrong told_in place name → ⊥
not_fine_and_wrong signature items p IsWrong wrongs told_in place name is one =
    wrongs one.number one.item one.is_at one.wrong (is.fine one.number)
