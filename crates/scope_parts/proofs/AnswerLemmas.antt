-- What an answer of the code says of a part of a text, from what the calls in it say of smaller parts.
use Rattle.std.proofs.Common.{◌≡◌, ℕ, ◌+◌, ◌<◌, ◌≤◌, length, drop, get_or, List, [], ◌∷◌, ◌++◌, inl, inr, refl, ap, sym, ◌∙◌, subst}
use Rattle.std.specs.Prelude.{Option, None, Some, Result, Ok, Err, IsErrAnd, IfOk, option_map}
use Rattle.std.proofs.Math.ListN.{drop_of_length-le}
use Rattle.lotos_base.proofs.Pieces.{next_member}
use Rattle.lotos_base.specs.declared.places.Place.{Place}
use Rattle.lotos_base.specs.declared.names.Name.{Name}
use Rattle.lotos_base.specs.WrittenView.{placed_name_of}
use Rattle.scope_parts.specs.ScopeFault as plain
use Rattle.scope_parts.specs.Resolution.{Resolution, resolved, faulty, and_then, put_in_front, beside, Is, ThenResolves, InFront, Beside}
use Rattle.scope_parts.specs.FaultView.{Told, nothing_told, never_told, told, told_by, OfTold, FaultIs, Answers, IsBeside, ErrBeside}
use Rattle.scope_parts.specs.declared.scope_faults.ScopeFault.{ScopeFault}

told_map : (t : Told) (P Q : plain.ScopeFault → Type 0) → ((f : plain.ScopeFault) → P f → Q f) → OfTold t P → OfTold t Q
told_map nothing_told P Q h told_is = tt
told_map never_told P Q h told_is = told_is
told_map (told f) P Q h told_is = h f told_is

-- what follows for each fault follows for what the code's fault means
pub means_map : (fault : ScopeFault) (P Q : plain.ScopeFault → Type 0) → ((f : plain.ScopeFault) → P f → Q f) → FaultIs fault P
    → FaultIs fault Q
means_map fault P Q h = told_map (told_by fault) P Q h

-- a value first, and what comes of it
pub value_then : {A B : Type 0} (r : Resolution A) (x : A) (next : A → Resolution B) (o : Resolution B) → resolved x ≡ r → o ≡ next x
    → o ≡ and_then r next
value_then r x next o first later = later ∙ ap (λ q. and_then q next) first

-- a fault first
pub fault_then : {A B : Type 0} (r : Resolution A) (next : A → Resolution B) (f : plain.ScopeFault) → faulty f ≡ r
    → faulty f ≡ and_then r next
fault_then r next f first = ap (λ q. and_then q next) first

-- ---- Lists, member by member

-- members in front of those that come
abbrev pub prefixed : {A : Type 0} → List A → Resolution (List A) → Resolution (List A)
prefixed xs (resolved ys) = resolved (xs ++ ys)
prefixed xs (faulty f) = faulty f

append_none : {A : Type 0} (xs : List A) → xs ++ [] ≡ xs
append_none [] = refl
append_none (x ∷ xs) = ap (λ ys. x ∷ ys) (append_none xs)

append_one : {A : Type 0} (xs : List A) (x : A) (ys : List A) → xs ++ x ∷ ys ≡ (xs ++ x ∷ []) ++ ys
append_one [] x ys = refl
append_one (z ∷ xs) x ys = ap (λ zs. z ∷ zs) (append_one xs x ys)

pub prefixed_none : {A : Type 0} (r : Resolution (List A)) → prefixed [] r ≡ r
prefixed_none (resolved xs) = refl
prefixed_none (faulty f) = refl

pub prefixed_all : {A : Type 0} (xs : List A) → prefixed xs (resolved []) ≡ resolved xs
prefixed_all xs = ap resolved (append_none xs)

pub prefixed_one : {A : Type 0} (xs : List A) (x : A) (r : Resolution (List A)) → prefixed xs (put_in_front x r) ≡ prefixed (xs ++ x ∷ []) r
prefixed_one xs x (resolved ys) = ap resolved (append_one xs x ys)
prefixed_one xs x (faulty f) = refl

-- a list whose members are looked at one by one: what the first one comes to stands in front of what the others come to
abbrev pub ByMembers : {A B : Type 0} → (List A → Resolution (List B)) → (List A → Resolution (List B)) → (A → Resolution B) → Type 0
ByMembers {A} here next each = (x : A) (xs : List A) → here (x ∷ xs) ≡ and_then (each x) (λ y. put_in_front y (next xs))

-- one member more
pub loop_step : {A B : Type 0} (here next : List A → Resolution (List B)) (each : A → Resolution B) → ByMembers here next each
    → (items : List A) (i : ℕ) (x : A) (made after : List B) (y : B) (whole : Resolution (List B)) → i < length items → x ≡ get_or items i x
    → prefixed made (here (drop i items)) ≡ whole → resolved y ≡ each x → after ≡ made ++ y ∷ []
    → prefixed after (next (drop (i + 1) items)) ≡ whole
loop_step here next each shape items i x made after y whole within is so_far value are =
    ap (λ zs. prefixed zs (next (drop (i + 1) items))) are
    ∙ sym (prefixed_one made y (next (drop (i + 1) items)))
    ∙ ap (λ r. prefixed made (and_then r (λ z. put_in_front z (next (drop (i + 1) items))))) value
    ∙ ap (prefixed made) (sym (ap here (next_member items i x within is) ∙ shape x (drop (i + 1) items))) ∙ so_far

-- a fault at the next member
pub loop_fault : {A B : Type 0} (here next : List A → Resolution (List B)) (each : A → Resolution B) → ByMembers here next each
    → (items : List A) (i : ℕ) (x : A) (made : List B) (whole : Resolution (List B)) (fault : ScopeFault) → i < length items
    → x ≡ get_or items i x → prefixed made (here (drop i items)) ≡ whole → FaultIs fault (λ f. faulty f ≡ each x)
    → FaultIs fault (λ f. faulty f ≡ whole)
loop_fault here next each shape items i x made whole fault within is so_far =
    means_map fault (λ f. faulty f ≡ each x) (λ f. faulty f ≡ whole)
    (λ f h. ap (λ r. prefixed made (and_then r (λ z. put_in_front z (next (drop (i + 1) items))))) h
    ∙ ap (prefixed made) (sym (ap here (next_member items i x within is) ∙ shape x (drop (i + 1) items))) ∙ so_far)

-- no member is left
pub loop_end : {A B : Type 0} (here : List A → Resolution (List B)) → here [] ≡ resolved [] → (items : List A) (i : ℕ) (made : List B)
    (whole : Resolution (List B)) → length items ≤ i → prefixed made (here (drop i items)) ≡ whole → resolved made ≡ whole
loop_end here none items i made whole past so_far =
    sym (prefixed_all made) ∙ ap (prefixed made) (sym (ap here (drop_of_length-le items past) ∙ none)) ∙ so_far

-- no member was looked at
pub loop_start : {B : Type 0} (made : List B) (r : Resolution (List B)) → made ≡ [] → prefixed made r ≡ r
loop_start made r none = ap (λ zs. prefixed zs r) none ∙ prefixed_none r

-- ---- The same where the list is related to what it comes to

-- what the members that are left come to makes what the whole list comes to
abbrev pub Leads : {A B : Type 0} → (Resolution (List B) → Type 0) → (List A → Resolution (List B) → Type 0) → List A → List B → Type 0
Leads {A} {B} Whole Here items made = (o : Resolution (List B)) → Here items o → Whole (prefixed made o)

pub then_front : {B C : Type 0} (Each : Resolution C → Type 0) (f : C → B) (Next : Resolution (List B) → Type 0) (y : C)
    (o : Resolution (List B)) → Each (resolved y) → Next o → ThenResolves Each (λ z. InFront (f z) Next) (put_in_front (f y) o)
then_front Each f Next y (resolved ys) first later = (y, first, (refl, later))
then_front Each f Next y (faulty fault) first later = inr (y, first, later)

-- one member more: what comes of it goes in front of what comes of the others
pub question_step : {A B C : Type 0} (Whole : Resolution (List B) → Type 0) (Here Next : List A → Resolution (List B) → Type 0)
    (First : Resolution C → Type 0) (f : C → B) (items : List A) (i : ℕ) (x : A) (made after : List B) (y : C)
    → ((xs : List A) (o : Resolution (List B)) → ThenResolves First (λ z. InFront (f z) (Next xs)) o → Here (x ∷ xs) o)
    → i < length items → x ≡ get_or items i x
    → Leads Whole Here (drop i items) made → First (resolved y) → after ≡ made ++ f y ∷ [] → Leads Whole Next (drop (i + 1) items) after
question_step Whole Here Next First f items i x made after y shape within is leads first are o later =
    subst (λ zs. Whole (prefixed zs o)) (sym are)
    (subst Whole (prefixed_one made (f y) o)
    (leads (put_in_front (f y) o)
    (subst (λ zs. Here zs (put_in_front (f y) o)) (sym (next_member items i x within is))
    (shape (drop (i + 1) items) (put_in_front (f y) o) (then_front First f (Next (drop (i + 1) items)) y o first later)))))

-- a fault at the next member
pub question_fault : {A B C : Type 0} (Whole : Resolution (List B) → Type 0) (Here Next : List A → Resolution (List B) → Type 0)
    (First : Resolution C → Type 0) (f : C → B) (items : List A) (i : ℕ) (x : A) (made : List B) (fault : ScopeFault)
    → ((xs : List A) (o : Resolution (List B)) → ThenResolves First (λ z. InFront (f z) (Next xs)) o → Here (x ∷ xs) o)
    → i < length items → x ≡ get_or items i x
    → Leads Whole Here (drop i items) made → FaultIs fault (λ g. First (faulty g)) → FaultIs fault (λ g. Whole (faulty g))
question_fault Whole Here Next First f items i x made fault shape within is leads =
    means_map fault (λ g. First (faulty g)) (λ g. Whole (faulty g))
    (λ g first. leads (faulty g)
    (subst (λ zs. Here zs (faulty g)) (sym (next_member items i x within is)) (shape (drop (i + 1) items) (faulty g) (inl first))))

-- no member is left
pub question_end : {A B : Type 0} (Whole : Resolution (List B) → Type 0) (Here : List A → Resolution (List B) → Type 0)
    → Here [] (resolved []) → (items : List A) (i : ℕ) (made : List B) → length items ≤ i → Leads Whole Here (drop i items) made
    → Whole (resolved made)
question_end Whole Here none items i made past leads =
    subst Whole (prefixed_all made)
    (leads (resolved []) (subst (λ zs. Here zs (resolved [])) (sym (drop_of_length-le items past)) none))

pub question_start : {A B : Type 0} (Whole : Resolution (List B) → Type 0) (Here : List A → Resolution (List B) → Type 0) (items : List A)
    (made : List B) → made ≡ [] → ((o : Resolution (List B)) → Here items o → Whole o) → Leads Whole Here items made
question_start Whole Here items made none same o here =
    subst Whole (sym (ap (λ zs. prefixed zs o) none ∙ prefixed_none o)) (same o here)

-- ---- Faults handed on

pub err_is : {T X : Type 0} (view : T → X) (result : Result T ScopeFault) (fault : ScopeFault) (ComesTo : Resolution X → Type 0)
    → IsErrAnd result (λ e. e ≡ fault) → FaultIs fault (λ f. ComesTo (faulty f)) → Answers view result ComesTo
err_is view (Ok x) fault ComesTo is means = absurd is
err_is view (Err e) fault ComesTo is means = subst (λ (x : ScopeFault). FaultIs x (λ f. ComesTo (faulty f))) (sym is) means

-- ---- A double name beside

err_beside : {A : Type 0} (double : Place × Name) (t : Told) (fault : ScopeFault) (Others : Resolution A → Type 0)
    → OfTold t (λ f. Others (faulty f)) → ErrBeside double t fault
    → FaultIs fault (λ f. Beside (Some (placed_name_of double)) Others (faulty f))
err_beside double nothing_told fault Others others beside =
    subst (λ (e : ScopeFault). FaultIs e (λ f. Beside (Some (placed_name_of double)) Others (faulty f))) (sym beside) tt
err_beside double never_told fault Others others beside = absurd others
err_beside double (told g) fault Others others beside =
    means_map fault (λ f. f ≡ plain.first_fault_of_two (plain.double_name (placed_name_of double).place (placed_name_of double).name) g)
    (λ f. Beside (Some (placed_name_of double)) Others (faulty f)) (λ f is. (faulty g, others, ap faulty is)) beside

pub answer_beside : {T A : Type 0} (view : T → A) (double : Option (Place × Name)) (others result : Result T ScopeFault)
    (Others : Resolution A → Type 0) → Answers view others Others → IsBeside double others result
    → Answers view result (Beside (option_map placed_name_of double) Others)
answer_beside view None others result Others answer beside =
    subst (λ (r : Result _ ScopeFault). Answers view r (Beside None Others)) (sym beside) (go others answer)
  where
    go : (r : Result _ ScopeFault) → Answers view r Others → Answers view r (Beside None Others)
    go (Ok x) h = (resolved (view x), h, refl)
    go (Err fault) h = means_map fault (λ f. Others (faulty f)) (λ f. Beside None Others (faulty f)) (λ f is. (faulty f, is, refl)) h
answer_beside view (Some double) others (Ok x) Others answer beside = absurd beside
answer_beside view (Some double) (Ok y) (Err fault) Others answer beside =
    means_map fault (λ f. f ≡ plain.double_name (placed_name_of double).place (placed_name_of double).name)
    (λ f. Beside (Some (placed_name_of double)) Others (faulty f)) (λ f is. (resolved (view y), answer, ap faulty is)) beside
answer_beside view (Some double) (Err other) (Err fault) Others answer beside =
    err_beside double (told_by other) fault Others answer beside

-- the same where the others are computed
pub answer_beside_computed : {T A : Type 0} (view : T → A) (double : Option (Place × Name)) (others result : Result T ScopeFault)
    (r : Resolution A) → Answers view others (Is r) → IsBeside double others result
    → Answers view result (Is (beside (option_map placed_name_of double) r))
answer_beside_computed view double others result r answer is = go result (answer_beside view double others result (Is r) answer is)
  where
    go : (result : Result _ ScopeFault) → Answers view result (Beside (option_map placed_name_of double) (Is r))
        → Answers view result (Is (beside (option_map placed_name_of double) r))
    go (Ok x) h = h.2 ∙ ap (beside (option_map placed_name_of double)) h.1
    go (Err fault) h =
        means_map fault (λ f. Beside (option_map placed_name_of double) (Is r) (faulty f))
        (λ f. faulty f ≡ beside (option_map placed_name_of double) r)
        (λ f k. k.2 ∙ ap (beside (option_map placed_name_of double)) k.1) h

-- what holds of each value holds beside a double name
pub beside_keeps : {T : Type 0} (double : Option (Place × Name)) (others result : Result T ScopeFault) (P : T → Type 0)
    → IsBeside double others result → IfOk others P → IfOk result P
beside_keeps None others result P is holds = subst (λ (r : Result _ ScopeFault). IfOk r P) (sym is) holds
beside_keeps (Some double) others (Ok x) P is holds = absurd is
beside_keeps (Some double) others (Err e) P is holds = tt
