-- Questions put together of smaller ones tell the first fault, where these do and follow one another.
use Rattle.std.proofs.Common.{◌≡◌, List, [], ◌∷◌, inl, inr, refl, ap, sym, ◌∙◌, subst}
use Rattle.std.specs.Prelude.{◌⊎◌, Option}
use Rattle.scope_parts.proofs.FormedLists.{never_faulty, same_resolved}
use Rattle.lotos_base.specs.Equation.{Place}
use Rattle.lotos_base.specs.WrittenTerm.{PlacedName}
use Rattle.scope_parts.specs.ScopeFault.{ScopeFault, fault_place}
use Rattle.scope_parts.specs.Resolution.{Resolution, resolved, faulty, and_then, put_in_front, beside, Is, ThenResolves, Made, InFront, Beside}
use Rattle.scope_parts.proofs.OnceLemmas.{Once}
use Rattle.scope_parts.specs.Order.{IsOneOfPlaces, StandWhollyBefore, NotAfter}
use Rattle.scope_parts.specs.PartFaults.{Seeing}
use Rattle.scope_parts.specs.FirstFault.{TellsFirstFault}
use Rattle.scope_parts.proofs.OrderLemmas.{same_not_after}

-- a fault in the place of a value of this type
abbrev pub fault_in : (A : Type 0) → ScopeFault → Resolution A
fault_in A f = faulty f

pub same_fault : {A : Type 0} (f g : ScopeFault) → fault_in A f ≡ fault_in A g → f ≡ g
same_fault f g e = cc

-- the faults stand among these places
abbrev pub Within : (ScopeFault → Type 0) → List Place → Type 0
Within Has ps = (f : ScopeFault) → Has f → IsOneOfPlaces (fault_place f) ps

-- the faults of the first part do not come after those of the second
abbrev pub Apart : (ScopeFault → Type 0) → (ScopeFault → Type 0) → Type 0
Apart One Other = (f g : ScopeFault) → One f → Other g → NotAfter f g

pub apart : {One Other : ScopeFault → Type 0} (ps qs : List Place) → Within One ps → Within Other qs → StandWhollyBefore ps qs
    → Apart One Other
apart ps qs one other before f g h k = inl (before (fault_place f) (fault_place g) (one f h) (other g k))

-- the faults that a question comes to stand where those stand that it tells
pub answers_within : {A : Type 0} {Question : Resolution A → Type 0} {Has : ScopeFault → Type 0} (ps : List Place)
    → TellsFirstFault Question Has
    → Within Has ps → Within (λ f. Question (faulty f)) ps
answers_within ps tells within f h = within f (tells.found f h)

-- ---- One question

pub single_tells : {A : Type 0} {Question : Resolution A → Type 0} → Once Question → TellsFirstFault Question (λ f. Question (faulty f))
single_tells once = record {
  found = λ f h. h;
  first = λ f g h k. same_not_after f g (same_fault f g (once _ _ h k));
  none = λ x g h k. never_faulty x g (once _ _ h k);
}

pub done_tells : {A : Type 0} (x : A) → TellsFirstFault (Is (resolved x)) (λ f. ⊥)
done_tells x = record {
  found = λ f h. never_faulty x f (sym h);
  first = λ f g h k. absurd k;
  none = λ y g h k. k;
}

pub tells_so : {A : Type 0} {Question Same : Resolution A → Type 0} {Has : ScopeFault → Type 0}
    → ((r : Resolution A) → Same r → Question r) → ((r : Resolution A) → Question r → Same r) → TellsFirstFault Question Has
    → TellsFirstFault Same Has
tells_so there back tells = record {
  found = λ f h. tells.found f (there (faulty f) h);
  first = λ f g h k. tells.first f g (there (faulty f) h) k;
  none = λ x g h k. tells.none x g (there (resolved x) h) k;
}

pub tells_these : {A : Type 0} {Question : Resolution A → Type 0} {Has These : ScopeFault → Type 0}
    → ((f : ScopeFault) → Has f → These f) → ((f : ScopeFault) → These f → Has f) → TellsFirstFault Question Has
    → TellsFirstFault Question These
tells_these there back tells = record {
  found = λ f h. there f (tells.found f h);
  first = λ f g h k. tells.first f g h (back g k);
  none = λ x g h k. tells.none x g h (back g k);
}

-- ---- One question and then another

then_found : {A B : Type 0} {First : Resolution A → Type 0} {next : A → Resolution B → Type 0} {One Other : ScopeFault → Type 0}
    → TellsFirstFault First One → ((x : A) → First (resolved x) → TellsFirstFault (next x) Other)
    → (f : ScopeFault) → ThenResolves First next (faulty f) → One f ⊎ Other f
then_found first later f (inl h) = inl (first.found f h)
then_found first later f (inr h) = inr ((later h.0 h.1).found f h.2)

then_first : {A B : Type 0} {First : Resolution A → Type 0} {next : A → Resolution B → Type 0} {One Other : ScopeFault → Type 0}
    → TellsFirstFault First One → ((x : A) → First (resolved x) → TellsFirstFault (next x) Other) → Apart (λ f. First (faulty f)) Other
    → (f g : ScopeFault) → ThenResolves First next (faulty f) → One g ⊎ Other g → NotAfter f g
then_first first later parted f g (inl h) (inl k) = first.first f g h k
then_first first later parted f g (inl h) (inr k) = parted f g h k
then_first first later parted f g (inr h) (inl k) = absurd (first.none h.0 g h.1 k)
then_first first later parted f g (inr h) (inr k) = (later h.0 h.1).first f g h.2 k

then_none : {A B : Type 0} {First : Resolution A → Type 0} {next : A → Resolution B → Type 0} {One Other : ScopeFault → Type 0}
    → TellsFirstFault First One → ((x : A) → First (resolved x) → TellsFirstFault (next x) Other)
    → (y : B) (g : ScopeFault) → ThenResolves First next (resolved y) → ¬ (One g ⊎ Other g)
then_none first later y g h (inl k) = first.none h.0 g h.1 k
then_none first later y g h (inr k) = (later h.0 h.1).none y g h.2 k

pub then_tells : {A B : Type 0} {First : Resolution A → Type 0} {next : A → Resolution B → Type 0} {One Other : ScopeFault → Type 0}
    → TellsFirstFault First One → ((x : A) → First (resolved x) → TellsFirstFault (next x) Other) → Apart (λ f. First (faulty f)) Other
    → TellsFirstFault (ThenResolves First next) (λ f. One f ⊎ Other f)
then_tells first later parted = record {
  found = then_found first later;
  first = then_first first later parted;
  none = then_none first later;
}

-- what sees the answer to the first question
pub seeing_tells : {A B : Type 0} {Question : Resolution A → Type 0} {Later : Resolution B → Type 0} (Has : A → ScopeFault → Type 0)
    (x : A) → Question (resolved x) → Once Question → TellsFirstFault Later (Has x) → TellsFirstFault Later (Seeing Question Has)
seeing_tells {Question = Question} Has x is once tells = record {
  found = λ f h. (x, is, tells.found f h);
  first = λ f g h k. tells.first f g h (seen g k);
  none = λ y g h k. tells.none y g h (seen g k);
}
  where
    seen : (g : ScopeFault) → Seeing Question Has g → Has x g
    seen g k = subst (λ y. Has y g) (same_resolved k.0 x (once _ _ k.1 is)) k.2

pub made_tells : {A B : Type 0} {First : Resolution A → Type 0} {Has : ScopeFault → Type 0} (f : A → B) → TellsFirstFault First Has
    → TellsFirstFault (Made f First) Has
made_tells f tells = record {
  found = λ g h. tells.found g h;
  first = λ g o h k. tells.first g o h k;
  none = λ y g h k. tells.none h.0 g h.1 k;
}

in_front_none : {A : Type 0} {Others : Resolution (List A) → Type 0} {Has : ScopeFault → Type 0} (x : A) → TellsFirstFault Others Has
    → (ys : List A) (g : ScopeFault) → InFront x Others (resolved ys) → ¬ Has g
in_front_none x tells [] g h k = absurd h
in_front_none x tells (y ∷ ys) g h k = tells.none ys g h.1 k

pub in_front_tells : {A : Type 0} {Others : Resolution (List A) → Type 0} {Has : ScopeFault → Type 0} (x : A) → TellsFirstFault Others Has
    → TellsFirstFault (InFront x Others) Has
in_front_tells x tells = record {
  found = λ g h. tells.found g h;
  first = λ g o h k. tells.first g o h k;
  none = in_front_none x tells;
}

-- ---- What is computed

pub and_then_tells : {A B : Type 0} (a : Resolution A) (next : A → Resolution B) {One Other : ScopeFault → Type 0}
    → TellsFirstFault (Is a) One → ((x : A) → resolved x ≡ a → TellsFirstFault (Is (next x)) Other) → Apart (λ f. faulty f ≡ a) Other
    → TellsFirstFault (Is (and_then a next)) (λ f. One f ⊎ Other f)
and_then_tells {B = B} (resolved x) next {One = One} {Other = Other} first later parted = record {
  found = λ f h. inr ((later x refl).found f h);
  first = behind;
  none = nothing;
}
  where
    behind : (f g : ScopeFault) → faulty f ≡ next x → One g ⊎ Other g → NotAfter f g
    behind f g h (inl k) = absurd (first.none x g refl k)
    behind f g h (inr k) = (later x refl).first f g h k

    nothing : (y : B) (g : ScopeFault) → resolved y ≡ next x → ¬ (One g ⊎ Other g)
    nothing y g h (inl k) = first.none x g refl k
    nothing y g h (inr k) = (later x refl).none y g h k
and_then_tells {B = B} (faulty e) next {One = One} {Other = Other} first later parted = record {
  found = λ f h. inl (first.found f (ap faulty (same_fault f e h)));
  first = before;
  none = λ y g h k. never_faulty y e h;
}
  where
    before : (f g : ScopeFault) → fault_in B f ≡ fault_in B e → One g ⊎ Other g → NotAfter f g
    before f g h (inl k) = first.first f g (ap faulty (same_fault f e h)) k
    before f g h (inr k) = parted f g (ap faulty (same_fault f e h)) k

pub put_in_front_tells : {A : Type 0} (x : A) (a : Resolution (List A)) {Has : ScopeFault → Type 0} → TellsFirstFault (Is a) Has
    → TellsFirstFault (Is (put_in_front x a)) Has
put_in_front_tells x (resolved xs) tells = record {
  found = λ f h. never_faulty (x ∷ xs) f (sym h);
  first = λ f g h k. never_faulty (x ∷ xs) f (sym h);
  none = λ y g h k. tells.none xs g refl k;
}
put_in_front_tells x (faulty e) tells = tells

pub value_tells : {A B : Type 0} (a : Resolution A) (f : A → B) {Has : ScopeFault → Type 0} → TellsFirstFault (Is a) Has
    → TellsFirstFault (Is (and_then a (λ x. resolved (f x)))) Has
value_tells (resolved x) f tells = record {
  found = λ g h. never_faulty (f x) g (sym h);
  first = λ g o h k. never_faulty (f x) g (sym h);
  none = λ y g h k. tells.none x g refl k;
}
value_tells (faulty e) f tells = record {
  found = λ g h. tells.found g (ap faulty (same_fault g e h));
  first = λ g o h k. tells.first g o (ap faulty (same_fault g e h)) k;
  none = λ y g h k. never_faulty y e h;
}

-- ---- Beside a double name, as it is computed

pub beside_computed : {A : Type 0} (double : Option PlacedName) (others : Resolution A) {Has : ScopeFault → Type 0}
    → TellsFirstFault (Beside double (Is others)) Has → TellsFirstFault (Is (beside double others)) Has
beside_computed double others tells =
    tells_so (λ r h. (others, refl, h)) (λ r h. h.2 ∙ ap (beside double) h.1) tells
