-- The statuses that items give the operations that they list.
use Rattle.std.proofs.Common.{◌≡◌, ◌≢◌, ℕ, zero, suc, ◌+◌, ◌<◌, ◌≤◌, List, [], ◌∷◌, length, get_or, set, take, map, refl, ap, sym, ◌∙◌, subst, arith, Bool, true, false, ltb-true, ltb-false, nat_eq}
use Rattle.std.specs.Prelude.{Some, None, slice_get, ◌↔◌, nat_lt}
use Rattle.std.proofs.lemmas.List.{get_or-set_same, get_or-set_other, length-set, length-map}
use Rattle.std.proofs.lemmas.Option.{same_Some, slice_get_within}
use Rattle.std.proofs.lemmas.Bool.Decides.{Decides-eqb}
use Rattle.lotos_base.specs.WrittenTerm.{ListedOperation}
use Rattle.lotos_base.specs.WrittenView.{listed_operation_of}
use Rattle.lotos_base.specs.declared.written_terms.OrderItem.{OrderItem}
use Rattle.lotos_base.specs.Signature.{Signature}
use Rattle.rewriting_theory.specs.Precedence.{Status as PlainStatus, from_left, from_right}
use Rattle.path_order.specs.Contains.{contains}
use Rattle.path_order.specs.Listed.{IsListedBy, AreListedBy}
use Rattle.path_order.specs.Listing.{AreListedByItems, IsNumberIn}
use Rattle.path_order.specs.PrecedenceView.{status_of, status_by_number}
use Rattle.path_order.specs.Statuses.{status_written, IsFromRight, AreStatusesBy}
use Rattle.path_order.specs.Steps.{HasCommon, given_status}
use Rattle.path_order.specs.declared.status.Status.{Status}
use Rattle.path_order.specs.declared.status.Status.TheVariants.{Left}
use Rattle.path_order.proofs.ListingLemmas.{is_there, item_at, at_so_far}
use Rattle.path_order.proofs.Numbers.{contains_in, not_contains}

-- ---- One status for some numbers

abbrev AreBelow : List ℕ → List Status → Type 0
AreBelow fs statuses = (j g : ℕ) → slice_get fs j ≡ Some g → g < length statuses

below_rest : (f g : ℕ) (fs : List ℕ) (statuses : List Status) (status : Status) → AreBelow (f ∷ fs) statuses
    → AreBelow fs (set statuses g status)
below_rest f g fs statuses status below j h at =
    let less = below (suc j) h at in
    let long = length-set statuses g status in omega (arith, less, long)

-- one that is given stays given
set_again : (statuses : List Status) (f g : ℕ) (status : Status) → g < length statuses → get_or statuses f Left ≡ status
    → get_or (set statuses g status) f Left ≡ status
set_again statuses f g status less is = go (nat_eq f g) refl
  where
    go : (b : Bool) → nat_eq f g ≡ b → get_or (set statuses g status) f Left ≡ status
    go true e =
        let same : f ≡ g = (Decides-eqb f g).0 e in
        ap (λ (n : ℕ). get_or (set statuses g status) n Left) same ∙ get_or-set_same statuses g status Left less
    go false e =
        let apart : f ≢ g = λ same. let clash : true ≡ false = sym ((Decides-eqb f g).1 same) ∙ e in cc in
        get_or-set_other statuses g f status Left apart ∙ is

stays_given : (statuses : List Status) (fs : List ℕ) (status : Status) (f : ℕ) → AreBelow fs statuses
    → get_or statuses f Left ≡ status → get_or (given_status statuses fs status) f Left ≡ status
stays_given statuses [] status f below is = is
stays_given statuses (g ∷ gs) status f below is =
    stays_given (set statuses g status) gs status f (below_rest g g gs statuses status below)
    (set_again statuses f g status (below zero g refl) is)

given_in : (statuses : List Status) (fs : List ℕ) (status : Status) (f j : ℕ) → AreBelow fs statuses → slice_get fs j ≡ Some f
    → get_or (given_status statuses fs status) f Left ≡ status
given_in statuses [] status f j below at = let none : None ≡ Some f = at in cc
given_in statuses (g ∷ gs) status f zero below at =
    let same : f ≡ g = sym (same_Some g f at) in
    stays_given (set statuses g status) gs status f (below_rest g g gs statuses status below)
    (ap (λ (n : ℕ). get_or (set statuses g status) n Left) same ∙ get_or-set_same statuses g status Left (below zero g refl))
given_in statuses (g ∷ gs) status f (suc j) below at =
    given_in (set statuses g status) gs status f j (below_rest g g gs statuses status below) at

not_given : (statuses : List Status) (fs : List ℕ) (status : Status) (f : ℕ) → (IsNumberIn fs f → ⊥)
    → get_or (given_status statuses fs status) f Left ≡ get_or statuses f Left
not_given statuses [] status f none = refl
not_given statuses (g ∷ gs) status f none =
    let apart : f ≢ g = λ same. none (zero, ap (λ (n : ℕ). Some n) (sym same)) in
    not_given (set statuses g status) gs status f (λ is. none (suc is.0, is.1)) ∙ get_or-set_other statuses g f status Left apart

-- ---- The statuses of the items so far

abbrev pub RightBefore : Signature → List OrderItem → ℕ → ℕ → Type 0
RightBefore signature order i f = (is : IsFromRight signature (map listed_operation_of order) f) × (is.number < i)

-- Those operations have the status `right` that one of the first so many items lists with it.
abbrev pub AreStatusesSoFar : Signature → List OrderItem → List Status → ℕ → Type 0
AreStatusesSoFar signature order statuses i =
    (f : ℕ) → (status_by_number statuses f ≡ from_right) ↔ RightBefore signature order i f

pub no_statuses : (signature : Signature) (order : List OrderItem) (statuses : List Status)
    → ((f : ℕ) → get_or statuses f Left ≡ Left) → AreStatusesSoFar signature order statuses 0
no_statuses signature order statuses left f = (
  (λ is. let clash : from_left ≡ from_right = ap status_of (sym (left f)) ∙ is in cc),
  (λ is. absurd (omega (arith, is.1))),
)

pub statuses_more : (signature : Signature) (order : List OrderItem) (i : ℕ) (item : OrderItem) (old found : List ℕ)
    (before after : List Status) (status : Status) → i < length order → item ≡ get_or order i item
    → AreListedByItems signature (map listed_operation_of (take i order)) old → AreListedBy signature (listed_operation_of item) found
    → (HasCommon old found → ⊥) → ((j g : ℕ) → slice_get found j ≡ Some g → g < length before)
    → status_written (listed_operation_of item).status ≡ Some (status_of status) → after ≡ given_status before found status
    → AreStatusesSoFar signature order before i → AreStatusesSoFar signature order after (i + 1)
statuses_more signature order i item old found before after status within is listed by apart below writes given so_far f =
    subst (λ (statuses : List Status). (status_by_number statuses f ≡ from_right) ↔ RightBefore signature order (i + 1) f) (sym given)
    (forth (contains f found) refl, back)
  where
    now : List Status
    now = given_status before found status

    there : slice_get (map listed_operation_of order) i ≡ Some (listed_operation_of item)
    there = item_at order i item within is

    forth : (b : Bool) → contains f found ≡ b → status_by_number now f ≡ from_right → RightBefore signature order (i + 1) f
    forth true e right =
        let at = contains_in f found e in
        let same : status_of status ≡ from_right =
        ap status_of (sym (given_in before found status f at.0 below at.1)) ∙ right in (
          record {
            number = i;
            item = listed_operation_of item;
            is_at = there;
            lists = by.listed at.0 f at.1;
            right = writes ∙ ap (λ (s : PlainStatus). Some s) same;
          },
          omega arith,
        )
    forth false e right =
        let same = not_given before found status f (not_contains f found e) in
        let earlier = (so_far f).0 (ap status_of (sym same) ∙ right) in
        let less : earlier.0.number < i = earlier.1 in (earlier.0, omega (arith, less))

    back : RightBefore signature order (i + 1) f → status_by_number now f ≡ from_right
    back right = go (nat_lt right.0.number i) refl
      where
        go : (b : Bool) → nat_lt right.0.number i ≡ b → status_by_number now f ≡ from_right
        go true e =
            let less : right.0.number < i = ltb-true right.0.number i e in
            let in_old = is_there listed f right.0.number right.0.item
            (at_so_far order i right.0.number right.0.item less right.0.is_at) right.0.lists in
            ap status_of (not_given before found status f (λ in_found. apart (f, in_old, in_found)))
            ∙ (so_far f).1 (right.0, less)
        go false e =
            let past : i ≤ right.0.number = ltb-false right.0.number i e in
            let less : right.0.number < i + 1 = right.1 in
            let same : right.0.number ≡ i = omega (arith, past, less) in
            let this : right.0.item ≡ listed_operation_of item =
            same_Some right.0.item (listed_operation_of item)
            (sym right.0.is_at ∙ ap (λ (n : ℕ). slice_get (map listed_operation_of order) n) same ∙ there) in
            let at = by.all f (subst (λ (o : ListedOperation). IsListedBy signature o f) this right.0.lists) in
            let both : Some (status_of status) ≡ Some from_right =
            sym writes ∙ ap (λ (o : ListedOperation). status_written o.status) (sym this) ∙ right.0.right in
            ap status_of (given_in before found status f at.0 below at.1) ∙ same_Some (status_of status) from_right both

pub statuses_all : (signature : Signature) (order : List OrderItem) (statuses : List Status) (i : ℕ) → length order ≤ i
    → AreStatusesSoFar signature order statuses i → AreStatusesBy signature (map listed_operation_of order) (status_by_number statuses)
statuses_all signature order statuses i end so_far f = (
  (λ is. ((so_far f).0 is).0),
  (λ right.
      let within = slice_get_within (map listed_operation_of order) right.number right.item right.is_at in
      let long = length-map order listed_operation_of in
      let less : right.number < i = omega (arith, within, long, end) in (so_far f).1 (right, less)),
)
