-- What lists of declarations, gates and values stand for is well formed: sorts that are there, numbers in a row, gates with
-- names.
use Rattle.std.proofs.Common.{◌≡◌, ℕ, zero, suc, ◌+◌, ◌<◌, ◌≤◌, ◌⊎◌, List, [], ◌∷◌, ◌++◌, inl, inr, refl, ap, sym, ◌∙◌, subst, arith, length}
use Rattle.std.specs.Prelude.{Bool, true, false, Option, None, Some, slice_get, nat_eq, if◌then◌else◌}
use Rattle.std.proofs.lemmas.Option.{none-some, same_Some}
use Rattle.lotos_base.specs.Names.{folded}
use Rattle.std.specs.Str.{bytes_eq}
use Rattle.std.proofs.lemmas.Bool.{eq-eqb}
use Rattle.lotos_base.specs.WrittenTerm.{PlacedName}
use Rattle.lotos_base.specs.Signature.{Signature, IsSort, Sort}
use Rattle.lotos_base.specs.Equation.{Place, Variable}
use Rattle.sort_terms.specs.Reading.{IsScopeOver}
use Rattle.sort_terms.specs.ReadingOutcome.{one_name}
use Rattle.syntax_trees.specs.WrittenVariable.{WrittenVariable}
use Rattle.behaviour_semantics.specs.Behaviour.{numbers_of}
use Rattle.behaviour_semantics.specs.WellFormed.{Every, AreDistinct, sort_in, AreBinders, AreGates, IsFunctionality}
use Rattle.behaviour_semantics.proofs.InstanceLemmas.{every_at}
use Rattle.scope_parts.specs.ScopeFault.{ScopeFault, unknown_sort}
use Rattle.scope_parts.specs.Resolution.{Resolution, resolved, faulty, and_then, put_in_front, beside}
use Rattle.scope_parts.specs.Scope.{Binding, bound_to, bind, bind_all, found_gate, gate_at, gates_at}
use Rattle.scope_parts.specs.Sorts.{sort_from, sort_named, found_sort, sort_at, sorts_at, functionality_at, variable_at, sorted_variables}
use Rattle.scope_parts.specs.Behaviours.{numbers_from}
use Rattle.scope_parts.proofs.FormedTerms.{AreIn}

-- ---- What a resolution was made of

pub same_resolved : {A : Type 0} (x y : A) → resolved x ≡ resolved y → x ≡ y
same_resolved x y e = cc

pub never_faulty : {A C : Type 0} (x : A) (f : ScopeFault) → resolved x ≡ faulty f → C
never_faulty x f e = absurd (let no : ⊥ = cc in no)

pub made_of : {A B : Type 0} (r : Resolution A) (next : A → Resolution B) (y : B) → resolved y ≡ and_then r next
    → (x : A) × (resolved x ≡ r) × (resolved y ≡ next x)
made_of (resolved x) next y is = (x, refl, is)
made_of (faulty f) next y is = never_faulty y f is

pub front_of : {A : Type 0} (x : A) (r : Resolution (List A)) (ys : List A) → resolved ys ≡ put_in_front x r
    → (zs : List A) × (resolved zs ≡ r) × (ys ≡ x ∷ zs)
front_of x (resolved zs) ys is = (zs, refl, same_resolved ys (x ∷ zs) is)
front_of x (faulty f) ys is = never_faulty ys f is

pub beside_of : {A : Type 0} (double : Option PlacedName) (r : Resolution A) (x : A) → resolved x ≡ beside double r → resolved x ≡ r
beside_of None r x is = is
beside_of (Some double) (resolved y) x is = never_faulty x _ is
beside_of (Some double) (faulty f) x is = never_faulty x _ is

-- ---- Sorts

sort_from_below : (first : ℕ) (sorts : List Sort) (name : List ℕ) (n : ℕ) → sort_from first sorts name ≡ Some n → n < first + length sorts
sort_from_below first [] name n is = absurd (none-some n is)
sort_from_below first (s ∷ sorts) name n is = go (one_name s.name name) is (sort_from_below (suc first) sorts name n)
  where
    go : (b : Bool) → (if b then Some first else sort_from (suc first) sorts name) ≡ Some n
        → (sort_from (suc first) sorts name ≡ Some n → n < suc first + length sorts) → n < first + suc (length sorts)
    go true here later = let same : first ≡ n = same_Some _ _ here in omega (arith, same)
    go false there later = let below : n < suc first + length sorts = later there in omega (arith, below)

pub sort_formed : (signature : Signature) (place : Place) (name : List ℕ) (s : ℕ) → resolved s ≡ sort_at signature place name
    → IsSort signature s
sort_formed signature place name s is = go (sort_named signature name) refl is
  where
    go : (o : Option ℕ) → sort_named signature name ≡ o → resolved s ≡ found_sort place name o → IsSort signature s
    go None found is = never_faulty s (unknown_sort place name) is
    go (Some n) found is =
        let same : s ≡ n = same_resolved s n is in
        let below : n < 0 + length signature.sorts = sort_from_below 0 signature.sorts name n found in
        let there : s < length signature.sorts = omega (arith, same, below) in
        there

pub sorts_formed : (signature : Signature) (names : List PlacedName) (sorts : List ℕ) → resolved sorts ≡ sorts_at signature names
    → Every (IsSort signature) sorts
sorts_formed signature [] sorts is = subst (λ (ss : List ℕ). Every (IsSort signature) ss) (sym (same_resolved sorts [] is)) tt
sorts_formed signature (name ∷ names) sorts is =
    let first = made_of (sort_at signature name.place name.name) _ sorts is in
    let rest = front_of first.0 (sorts_at signature names) sorts first.2 in
    subst (λ (ss : List ℕ). Every (IsSort signature) ss) (sym rest.2)
    (sort_formed signature name.place name.name first.0 first.1, sorts_formed signature names rest.0 rest.1)

pub functionality_formed : (signature : Signature) (names : Option (List PlacedName)) (exit : Option (List ℕ))
    → resolved exit ≡ functionality_at signature names → IsFunctionality signature exit
functionality_formed signature None exit is =
    subst (λ (o : Option (List ℕ)). IsFunctionality signature o) (sym (same_resolved exit None is)) tt
functionality_formed signature (Some names) exit is =
    let sorts = made_of (sorts_at signature names) _ exit is in
    subst (λ (o : Option (List ℕ)). IsFunctionality signature o) (sym (same_resolved exit (Some sorts.0) sorts.2))
    (sorts_formed signature names sorts.0 sorts.1)

-- ---- Variables

-- the variables are numbered in a row, from a number on
abbrev pub AreNumbered : ℕ → List Variable → Type 0
AreNumbered next [] = Unit {0}
AreNumbered next (x ∷ xs) = (x.number ≡ next) × AreNumbered (suc next) xs

abbrev pub HaveSorts : Signature → List Variable → Type 0
HaveSorts signature variables = Every (λ (x : Variable). IsSort signature x.sort) variables

-- variables in a row, with sorts, and as many as were written
pub record AreDeclared (signature : Signature) (next many : ℕ) (variables : List Variable) : Type 0 where
  pub numbered : AreNumbered next variables
  pub sorted : HaveSorts signature variables
  pub counted : length variables ≡ many

pub variable_formed : (signature : Signature) (next : ℕ) (v : WrittenVariable) (x : Variable) → resolved x ≡ variable_at signature next v
    → (x.number ≡ next) × IsSort signature x.sort
variable_formed signature next v x is =
    let sort = made_of (sort_at signature v.sort_place v.sort) _ x is in
    let same = same_resolved x (record { name = v.name; number = next; sort = sort.0 }) sort.2 in (
      ap (λ (y : Variable). y.number) same,
      subst (λ (y : Variable). IsSort signature y.sort) (sym same) (sort_formed signature v.sort_place v.sort sort.0 sort.1),
    )

pub one_declared : (signature : Signature) (next many : ℕ) (x : Variable) (xs : List Variable) → x.number ≡ next → IsSort signature x.sort
    → AreDeclared signature (suc next) many xs → AreDeclared signature next (suc many) (x ∷ xs)
one_declared signature next many x xs number sort rest = record {
  numbered = (number, rest.numbered);
  sorted = (sort, rest.sorted);
  counted = ap suc rest.counted;
}

pub variables_formed : (signature : Signature) (next : ℕ) (vs : List WrittenVariable) (xs : List Variable)
    → resolved xs ≡ sorted_variables signature next vs → AreDeclared signature next (length vs) xs
variables_formed signature next [] xs is =
    subst (λ (ys : List Variable). AreDeclared signature next 0 ys) (sym (same_resolved xs [] is))
    (record { numbered = tt; sorted = tt; counted = refl })
variables_formed signature next (v ∷ vs) xs is =
    let first = made_of (variable_at signature next v) _ xs is in
    let rest = front_of first.0 (sorted_variables signature (suc next) vs) xs first.2 in
    let here = variable_formed signature next v first.0 first.1 in
    subst (λ (ys : List Variable). AreDeclared signature next (suc (length vs)) ys) (sym rest.2)
    (one_declared signature next (length vs) first.0 rest.0 here.0 here.1 (variables_formed signature (suc next) vs rest.0 rest.1))

-- numbers in a row are distinct
number_at : (next : ℕ) (xs : List Variable) (i m : ℕ) → AreNumbered next xs → slice_get (numbers_of xs) i ≡ Some m → m ≡ next + i
number_at next [] i m numbered at = absurd (none-some m at)
number_at next (x ∷ xs) zero m numbered at = let same : x.number ≡ m = same_Some _ _ at in omega (arith, same, numbered.0)
number_at next (x ∷ xs) (suc i) m numbered at = let rest = number_at (suc next) xs i m numbered.1 at in omega (arith, rest)

pub binders_formed : (signature : Signature) (next many : ℕ) (xs : List Variable) → AreDeclared signature next many xs
    → AreBinders signature xs
binders_formed signature next many xs declared = (
  (λ i j m at there.
      let one = number_at next xs i m declared.numbered at in
      let other = number_at next xs j m declared.numbered there in
      omega (arith, one, other)),
  declared.sorted,
)

-- ---- What is visible, and what is in scope

-- the variables are numbered below
abbrev pub AreBelow : ℕ → List Variable → Type 0
AreBelow next variables = (i : ℕ) (v : Variable) → slice_get variables i ≡ Some v → v.number < next

numbered_from : (next : ℕ) (xs : List Variable) (i : ℕ) (v : Variable) → AreNumbered next xs → slice_get xs i ≡ Some v
    → (next ≤ v.number) × (v.number < next + length xs)
numbered_from next [] i v numbered at = absurd (none-some v at)
numbered_from next (x ∷ xs) zero v numbered at =
    let same : x.number ≡ v.number = ap (λ (y : Variable). y.number) (same_Some _ _ at) in
    (omega (arith, same, numbered.0), omega (arith, same, numbered.0))
numbered_from next (x ∷ xs) (suc i) v numbered at =
    let rest = numbered_from (suc next) xs i v numbered.1 at in
    (omega (arith, rest.0), omega (arith, rest.1))

other_number : (n m : ℕ) → n < m → nat_eq n m ≡ false
other_number n m less = grind arith

more_number : (n m : ℕ) → m < n → nat_eq n m ≡ false
more_number n m less = grind arith

skipped : (next m : ℕ) (xs scope : List Variable) → AreNumbered next xs → m < next → sort_in (xs ++ scope) m ≡ sort_in scope m
skipped next m [] scope numbered less = refl
skipped next m (x ∷ xs) scope numbered less =
    let test : nat_eq x.number m ≡ false = more_number x.number m (omega (arith, less, numbered.0)) in
    let rest : sort_in (xs ++ scope) m ≡ sort_in scope m = skipped (suc next) m xs scope numbered.1 (omega (arith, less)) in
    rw test rest

own : (next : ℕ) (xs scope : List Variable) (i : ℕ) (v : Variable) → AreNumbered next xs → slice_get xs i ≡ Some v
    → sort_in (xs ++ scope) v.number ≡ Some v.sort
own next [] scope i v numbered at = absurd (none-some v at)
own next (x ∷ xs) scope zero v numbered at =
    let same : x ≡ v = same_Some _ _ at in
    let test : nat_eq x.number v.number ≡ true = eq-eqb x.number v.number (ap (λ (y : Variable). y.number) same) in
    rw test (ap (λ (y : Variable). Some y.sort) same)
own next (x ∷ xs) scope (suc i) v numbered at =
    let bounds = numbered_from (suc next) xs i v numbered.1 at in
    let test : nat_eq x.number v.number ≡ false = other_number x.number v.number (omega (arith, bounds.0, numbered.0)) in
    rw test (own (suc next) xs scope i v numbered.1 at)

-- a member of a list behind another one
member_of : (vs xs : List Variable) (i : ℕ) (v : Variable) → slice_get (vs ++ xs) i ≡ Some v
    → (slice_get vs i ≡ Some v) ⊎ ((j : ℕ) × (slice_get xs j ≡ Some v))
member_of [] xs i v at = inr (i, at)
member_of (y ∷ vs) xs zero v at = inl at
member_of (y ∷ vs) xs (suc i) v at = member_of vs xs i v at

pub in_more : (next : ℕ) (vs xs scope : List Variable) → AreIn vs scope → AreBelow next vs → AreNumbered next xs
    → AreIn (vs ++ xs) (xs ++ scope)
in_more next vs xs scope are below numbered i v at =
    elim (member_of vs xs i v at) [
      | inl here ↦ skipped next v.number xs scope numbered (below i v here) ∙ are i v here
      | inr there ↦ own next xs scope there.0 v numbered there.1
    ]

pub below_more : (next many : ℕ) (vs xs : List Variable) → AreBelow next vs → AreNumbered next xs → length xs ≡ many
    → AreBelow (next + many) (vs ++ xs)
below_more next many vs xs below numbered counted i v at =
    elim (member_of vs xs i v at) [
      | inl here ↦ let less = below i v here in omega (arith, less)
      | inr there ↦ let bounds = numbered_from next xs there.0 v numbered there.1 in omega (arith, bounds.1, counted)
    ]

pub over_more : (signature : Signature) (vs xs : List Variable) → IsScopeOver signature vs → HaveSorts signature xs
    → IsScopeOver signature (vs ++ xs)
over_more signature vs xs over sorted i v at =
    elim (member_of vs xs i v at) [
      | inl here ↦ over i v here
      | inr there ↦ every_at (λ (x : Variable). IsSort signature x.sort) xs there.0 v sorted there.1
    ]

-- ---- Gates

-- each name is bound to the number of a gate with a name
abbrev pub GatesBelow : ℕ → List Binding → Type 0
GatesBelow names gates = (key : List ℕ) (n : ℕ) → bound_to gates key ≡ Some n → n < names

pub bind_below : (names : ℕ) (all : List (List ℕ)) (next : ℕ) (gates : List Binding) → GatesBelow names gates → next + length all ≤ names
    → GatesBelow names (bind_all all next gates)
bind_below names [] next gates below room = below
bind_below names (name ∷ all) next gates below room =
    bind_below names all (suc next) (bind name next gates) inner (omega (arith, room))
  where
    inner : GatesBelow names (bind name next gates)
    inner key n is = go (bytes_eq key (folded name)) is
      where
        go : (b : Bool) → (if b then Some next else bound_to gates key) ≡ Some n → n < names
        go true here = let same : next ≡ n = same_Some _ _ here in omega (arith, same, room)
        go false there = below key n there

pub gate_formed : (names : ℕ) (gates : List Binding) (gate : PlacedName) (n : ℕ) → GatesBelow names gates → resolved n ≡ gate_at gates gate
    → n < names
gate_formed names gates gate n below is = go (bound_to gates (folded gate.name)) refl is
  where
    go : (o : Option ℕ) → bound_to gates (folded gate.name) ≡ o → resolved n ≡ found_gate gate o → n < names
    go None found is = never_faulty n _ is
    go (Some m) found is = let same : n ≡ m = same_resolved n m is in let less = below (folded gate.name) m found in omega
        (arith, same, less)

pub gates_formed : (names : ℕ) (gates : List Binding) (list : List PlacedName) (ns : List ℕ) → GatesBelow names gates
    → resolved ns ≡ gates_at gates list → AreGates names ns × (length ns ≡ length list)
gates_formed names gates [] ns below is =
    subst (λ (ms : List ℕ). AreGates names ms × (length ms ≡ 0)) (sym (same_resolved ns [] is)) (tt, refl)
gates_formed names gates (gate ∷ list) ns below is =
    let first = made_of (gate_at gates gate) _ ns is in
    let rest = front_of first.0 (gates_at gates list) ns first.2 in
    let others = gates_formed names gates list rest.0 below rest.1 in
    subst (λ (ms : List ℕ). AreGates names ms × (length ms ≡ suc (length list))) (sym rest.2)
    ((gate_formed names gates gate first.0 below first.1, others.0), ap suc others.1)

pub numbers_formed : {A : Type 0} (names next : ℕ) (xs : List A) → next + length xs ≤ names → AreGates names (numbers_from next xs)
numbers_formed names next [] room = tt
numbers_formed names next (x ∷ xs) room = (omega (arith, room), numbers_formed names (next + 1) xs (omega (arith, room)))

number_in_row : {A : Type 0} (next : ℕ) (xs : List A) (i m : ℕ) → slice_get (numbers_from next xs) i ≡ Some m → m ≡ next + i
number_in_row next [] i m at = absurd (none-some m at)
number_in_row next (x ∷ xs) zero m at = let same : next ≡ m = same_Some _ _ at in omega (arith, same)
number_in_row next (x ∷ xs) (suc i) m at = let rest = number_in_row (next + 1) xs i m at in omega (arith, rest)

pub numbers_distinct : {A : Type 0} (next : ℕ) (xs : List A) → AreDistinct (numbers_from next xs)
numbers_distinct next xs i j m at there =
    let one = number_in_row next xs i m at in
    let other = number_in_row next xs j m there in
    omega (arith, one, other)
