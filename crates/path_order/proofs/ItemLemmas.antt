-- The operations that one item lists, from the last of its name to the first.
use Rattle.std.proofs.Common.{◌≡◌, ℕ, zero, suc, ◌+◌, ◌-◌, ◌<◌, ◌≤◌, List, [], ◌∷◌, ◌++◌, length, get_or, map, refl, ap, sym, ◌∙◌, subst, inl, inr, arith, Bool, true, false, ltb-true, ltb-false}
use Rattle.std.specs.Prelude.{Some, slice_get, ◌⊎◌, nat_lt}
use Rattle.std.proofs.lemmas.Option.{same_Some, slice_get_within}
use Rattle.lotos_base.proofs.Members.{from_map, at_map}
use Rattle.lotos_base.specs.Name.{spelling}
use Rattle.lotos_base.specs.WrittenTerm.{ListedOperation}
use Rattle.lotos_base.specs.Names.{folded}
use Rattle.lotos_base.specs.Signature.{Signature, Operation, IsOperation}
use Rattle.sort_terms.specs.Operations.{operation_of}
use Rattle.sort_terms.specs.Positions.{positions_of}
use Rattle.sort_terms.specs.SignatureView.{signature_of}
use Rattle.sort_terms.specs.declared.operations.Op.{Op}
use Rattle.sort_terms.specs.declared.signatures.Signature.{Signature as CodeSignature}
use Rattle.sort_terms.proofs.PositionMembers.{position_is}
use Rattle.path_order.specs.Added.{IsSuitable, IsAddedIf}
use Rattle.path_order.specs.Listed.{SuitsItem, IsListedBy, AreListedBy}
use Rattle.path_order.proofs.Numbers.{joined_member, first_joined, second_joined}
use Rattle.path_order.proofs.Places.{positions_rise, place_there}

-- The numbers are those of the operations with the name of the item.
pub record AreNamed (signature : Signature) (item : ListedOperation) (numbers : List ℕ) : Type 0 where
  pub rising : (i j f g : ℕ) → slice_get numbers i ≡ Some f → slice_get numbers j ≡ Some g → i < j → f < g
  pub named : (i f : ℕ) → slice_get numbers i ≡ Some f → (operation : Operation) → IsOperation signature f operation
      → folded operation.name ≡ folded item.name
  pub all : (f : ℕ) (operation : Operation) → IsOperation signature f operation → folded operation.name ≡ folded item.name
      → (i : ℕ) × (slice_get numbers i ≡ Some f)

op_name_at : (ops : List Op) (f : ℕ) (operation : Operation) → slice_get (map operation_of ops) f ≡ Some operation
    → slice_get (map (λ (o : Op). spelling o.name) ops) f ≡ Some operation.name
op_name_at ops f operation at =
    let from = from_map operation_of ops f operation at in
    at_map (λ (o : Op). spelling o.name) ops f from.0 from.1 ∙ ap (λ (o : Operation). Some o.name) from.2

pub positions_named : (signature : CodeSignature) (item : ListedOperation) (numbers : List ℕ)
    → numbers ≡ positions_of (folded item.name) (map (λ (o : Op). spelling o.name) signature.ops.items)
    → AreNamed (signature_of signature) item numbers
positions_named signature item numbers are =
    subst (λ (ns : List ℕ). AreNamed (signature_of signature) item ns) (sym are)
    (record {
      rising = positions_rise 0 key names;
      named = λ i f at operation is.
          let place = position_is 0 key names i f at in
          let there : slice_get names f ≡ Some operation.name = op_name_at signature.ops.items f operation is in
          let same : place.0 ≡ f = let e : f ≡ 0 + place.0 = place.2 in omega (arith, e) in
          let one : slice_get names f ≡ Some place.1 = ap (λ (k : ℕ). slice_get names k) (sym same) ∙ place.3 in
          ap folded (same_Some operation.name place.1 (sym there ∙ one)) ∙ sym place.4;
      all = λ f operation is e.
          let place = place_there 0 key names f operation.name (op_name_at signature.ops.items f operation is) (sym e) in
          let same : 0 + f ≡ f = omega arith in
          (place.0, place.1 ∙ ap (λ (n : ℕ). Some n) same);
    })
  where
    key : List ℕ
    key = folded item.name

    names : List (List ℕ)
    names = map (λ (o : Op). spelling o.name) signature.ops.items

-- The numbers found among the last so many ones.
pub record AreFound (signature : Signature) (item : ListedOperation) (numbers found : List ℕ) (k : ℕ) : Type 0 where
  pub listed : (j f : ℕ) → slice_get found j ≡ Some f → IsListedBy signature item f
  pub all : (f : ℕ) → IsListedBy signature item f
      → ((j : ℕ) × (slice_get found j ≡ Some f)) ⊎ ((i : ℕ) × (slice_get numbers i ≡ Some f) × (i + k < length numbers))
  pub falling : (i j f g : ℕ) → slice_get found i ≡ Some f → slice_get found j ≡ Some g → i < j → g < f
  pub above : (j i f g : ℕ) → slice_get found j ≡ Some f → slice_get numbers i ≡ Some g → i + k < length numbers → g < f

pub found_none : (signature : Signature) (item : ListedOperation) (numbers found : List ℕ) → AreNamed signature item numbers
    → found ≡ [] → AreFound signature item numbers found 0
found_none signature item numbers found named is =
    subst (λ (fs : List ℕ). AreFound signature item numbers fs 0) (sym is)
    (record {
      listed = λ j f at. cc;
      all = λ f by.
          let at = named.all f by.operation by.is_there by.named in
          let within : at.0 < length numbers = slice_get_within numbers at.0 f at.1 in
          inr (at.0, at.1, omega (arith, within));
      falling = λ i j f g one two before. cc;
      above = λ j i f g one two before. cc;
    })

before_last : (i n k : ℕ) → i + k < n → (i + (k + 1) < n) ⊎ (i ≡ n - 1 - k)
before_last i n k less = go (nat_lt (i + (k + 1)) n) refl
  where
    go : (b : Bool) → nat_lt (i + (k + 1)) n ≡ b → (i + (k + 1) < n) ⊎ (i ≡ n - 1 - k)
    go true e = inl (ltb-true (i + (k + 1)) n e)
    go false e = let past : n ≤ i + (k + 1) = ltb-false (i + (k + 1)) n e in inr (omega (arith, past, less))

-- one more that is looked at
pub found_more : (signature : Signature) (item : ListedOperation) (numbers old new : List ℕ) (k x : ℕ) → AreNamed signature item numbers
    → k < length numbers → slice_get numbers (length numbers - 1 - k) ≡ Some x → AreFound signature item numbers old k
    → IsAddedIf (IsSuitable signature x item) x old new → AreFound signature item numbers new (k + 1)
found_more signature item numbers old new k x named within at so_far (inr stays) =
    subst (λ (fs : List ℕ). AreFound signature item numbers fs (k + 1)) (sym stays.1)
    (record {
      listed = so_far.listed;
      all = λ f by. go f by (so_far.all f by);
      falling = so_far.falling;
      above = λ j i f g one two before. so_far.above j i f g one two (omega (arith, before));
    })
  where
    go : (f : ℕ) → IsListedBy signature item f
        → ((j : ℕ) × (slice_get old j ≡ Some f)) ⊎ ((i : ℕ) × (slice_get numbers i ≡ Some f) × (i + k < length numbers))
        → ((j : ℕ) × (slice_get old j ≡ Some f)) ⊎ ((i : ℕ) × (slice_get numbers i ≡ Some f) × (i + (k + 1) < length numbers))
    go f by (inl there) = inl there
    go f by (inr left) = last_or_before (before_last left.0 (length numbers) k left.2)
      where
        last_or_before : (left.0 + (k + 1) < length numbers) ⊎ (left.0 ≡ length numbers - 1 - k)
            → ((j : ℕ) × (slice_get old j ≡ Some f)) ⊎ ((i : ℕ) × (slice_get numbers i ≡ Some f) × (i + (k + 1) < length numbers))
        last_or_before (inl less) = inr (left.0, left.1, less)
        last_or_before (inr same) =
            let e : f ≡ x = same_Some f x (sym left.1 ∙ ap (λ (i : ℕ). slice_get numbers i) same ∙ at) in
            absurd (stays.0 (by.operation, subst (λ (n : ℕ). IsOperation signature n by.operation) e by.is_there, by.suits))
found_more signature item numbers old new k x named within at so_far (inl added) =
    subst (λ (fs : List ℕ). AreFound signature item numbers fs (k + 1)) (sym added.1)
    (record {
      listed = λ j f here. listed_at j f (joined_member old (x ∷ []) j f here);
      all = λ f by. all_of f (so_far.all f by);
      falling = λ i j f g one two before. falls i j f g before (joined_member old (x ∷ []) i f one) (joined_member old (x ∷ []) j g two);
      above = λ j i f g one two before. is_above j i f g two before (joined_member old (x ∷ []) j f one);
    })
  where
    only : (j f : ℕ) → slice_get (x ∷ []) j ≡ Some f → (j ≡ 0) × (x ≡ f)
    only zero f here = (refl, same_Some x f here)
    only (suc j) f here = cc

    is_listed : IsListedBy signature item x
    is_listed = record {
      operation = added.0.0;
      is_there = added.0.1;
      named = named.named (length numbers - 1 - k) x at added.0.0 added.0.1;
      suits = added.0.2;
    }

    listed_at : (j f : ℕ) → (slice_get old j ≡ Some f) ⊎ ((i : ℕ) × (j ≡ length old + i) × (slice_get (x ∷ []) i ≡ Some f))
        → IsListedBy signature item f
    listed_at j f (inl there) = so_far.listed j f there
    listed_at j f (inr last) = subst (λ (n : ℕ). IsListedBy signature item n) (only last.0 f last.2).1 is_listed

    here_now : (f : ℕ) → x ≡ f → slice_get (old ++ x ∷ []) (length old + 0) ≡ Some f
    here_now f e = second_joined old (x ∷ []) 0 x refl ∙ ap (λ (n : ℕ). Some n) e

    all_of : (f : ℕ)
        → ((j : ℕ) × (slice_get old j ≡ Some f)) ⊎ ((i : ℕ) × (slice_get numbers i ≡ Some f) × (i + k < length numbers))
        → ((j : ℕ) × (slice_get (old ++ x ∷ []) j ≡ Some f))
        ⊎ ((i : ℕ) × (slice_get numbers i ≡ Some f) × (i + (k + 1) < length numbers))
    all_of f (inl there) = inl (there.0, first_joined old (x ∷ []) there.0 f there.1)
    all_of f (inr left) = last_or_before (before_last left.0 (length numbers) k left.2)
      where
        last_or_before : (left.0 + (k + 1) < length numbers) ⊎ (left.0 ≡ length numbers - 1 - k)
            → ((j : ℕ) × (slice_get (old ++ x ∷ []) j ≡ Some f))
            ⊎ ((i : ℕ) × (slice_get numbers i ≡ Some f) × (i + (k + 1) < length numbers))
        last_or_before (inl less) = inr (left.0, left.1, less)
        last_or_before (inr same) =
            let e : x ≡ f = sym (same_Some f x (sym left.1 ∙ ap (λ (i : ℕ). slice_get numbers i) same ∙ at)) in
            inl (length old + 0, here_now f e)

    falls : (i j f g : ℕ) → i < j
        → (slice_get old i ≡ Some f) ⊎ ((l : ℕ) × (i ≡ length old + l) × (slice_get (x ∷ []) l ≡ Some f))
        → (slice_get old j ≡ Some g) ⊎ ((l : ℕ) × (j ≡ length old + l) × (slice_get (x ∷ []) l ≡ Some g)) → g < f
    falls i j f g before (inl one) (inl two) = so_far.falling i j f g one two before
    falls i j f g before (inl one) (inr two) =
        let less : x < f = so_far.above i (length numbers - 1 - k) f x one at (omega (arith, within)) in
        let same : x ≡ g = (only two.0 g two.2).1 in omega (arith, less, same)
    falls i j f g before (inr one) (inl two) =
        let early : j < length old = slice_get_within old j g two in
        let late = one.1 in absurd (omega (arith, early, late, before))
    falls i j f g before (inr one) (inr two) =
        let a = (only one.0 f one.2).0 in
        let b = (only two.0 g two.2).0 in absurd (omega (arith, a, b, one.1, two.1, before))

    is_above : (j i f g : ℕ) → slice_get numbers i ≡ Some g → i + (k + 1) < length numbers
        → (slice_get old j ≡ Some f) ⊎ ((l : ℕ) × (j ≡ length old + l) × (slice_get (x ∷ []) l ≡ Some f)) → g < f
    is_above j i f g two before (inl one) = so_far.above j i f g one two (omega (arith, before))
    is_above j i f g two before (inr one) =
        let same : x ≡ f = (only one.0 f one.2).1 in
        let less : g < x = named.rising i (length numbers - 1 - k) g x two at (omega (arith, before, within)) in
        omega (arith, less, same)

-- what is left at the end
pub found_all : (signature : Signature) (item : ListedOperation) (numbers found : List ℕ) (k : ℕ) → length numbers ≤ k
    → AreFound signature item numbers found k → AreListedBy signature item found
found_all signature item numbers found k end so_far = record {
  listed = so_far.listed;
  all = λ f by. go f (so_far.all f by);
  latest_first = so_far.falling;
}
  where
    go : (f : ℕ) → ((j : ℕ) × (slice_get found j ≡ Some f)) ⊎ ((i : ℕ) × (slice_get numbers i ≡ Some f) × (i + k < length numbers))
        → (j : ℕ) × (slice_get found j ≡ Some f)
    go f (inl there) = there
    go f (inr left) = let less = left.2 in absurd (omega (arith, end, less))

-- the operation of the code with this number
pub operation_at : (signature : CodeSignature) (ops : List Op) (number : ℕ) (op : Op) → ops ≡ signature.ops.items
    → number < length signature.ops.items → op ≡ get_or ops number op
    → IsOperation (signature_of signature) number (operation_of op)
operation_at signature ops number op are within is =
    at_map operation_of signature.ops.items number op
    (there signature.ops.items number op within (is ∙ ap (λ (xs : List Op). get_or xs number op) are))
  where
    there : (xs : List Op) (k : ℕ) (x : Op) → k < length xs → x ≡ get_or xs k x → slice_get xs k ≡ Some x
    there [] k x inside e = absurd (omega (arith, inside))
    there (y ∷ ys) zero x inside e = ap (λ (o : Op). Some o) (sym e)
    there (y ∷ ys) (suc k) x inside e = there ys k x (omega (arith, inside)) e

pub suitable : (signature : Signature) (number : ℕ) (operation : Operation) (item : ListedOperation)
    → IsOperation signature number operation
    → IsSuitable signature number item → SuitsItem signature operation item
suitable signature number operation item at is =
    subst (λ (o : Operation). SuitsItem signature o item) (same_Some is.0 operation (sym is.1 ∙ at)) is.2
