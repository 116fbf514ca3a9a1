-- Leaves that a substitution gives from a number on.
use Rattle.std.proofs.Common.{◌≡◌, ℕ, suc, ◌+◌, List, [], ◌∷◌, ◌++◌, length, refl, ap, arith, subst, zero, slice_get, Some, map}
use Rattle.lotos_base.specs.Signature.{Signature}
use Rattle.lotos_base.specs.Term.{Term}
use Rattle.lotos_base.specs.Sorting.{IsGroundOf}
use Rattle.lotos_base.specs.Equation.{Data}
use Rattle.lotos_base.specs.Substitution.{Substitution}
use Rattle.lotos_base.specs.Canon.{IsCanon}
use Rattle.lotos_base.proofs.CanonLemmas.{canon_ground}
use Rattle.behaviour_semantics.specs.Behaviour.{Test}
use Rattle.behaviour_semantics.specs.Rule.{AreValues, AllHold}
use Rattle.behaviour_semantics.specs.Move.{taken}
use Rattle.behaviour_semantics.specs.Derives.{leaves_in}
use Rattle.behaviour_semantics.proofs.OptionLemmas.{some_value}

-- From this number on the substitution gives the leaves of the list.
abbrev pub Supplies : Substitution → ℕ → List Term → Type 0
Supplies values next [] = Unit {0}
Supplies values next (v ∷ vs) = ((s : ℕ) → values next s ≡ v) × Supplies values (suc next) vs

-- From this number on the substitution gives ground values of these sorts.
abbrev pub Supplied : Signature → Substitution → ℕ → List ℕ → Type 0
Supplied signature values next [] = Unit {0}
Supplied signature values next (s ∷ ss) = IsGroundOf signature s (values next s) × Supplied signature values (suc next) ss

pub length-values : (signature : Signature) (sorts : List ℕ) (vs : List Term) → AreValues signature sorts vs → length vs ≡ length sorts
length-values signature [] [] h = refl
length-values signature (s ∷ ss) (v ∷ vs) h = ap suc (length-values signature ss vs h.1)
length-values signature [] (v ∷ vs) h = absurd h
length-values signature (s ∷ ss) [] h = absurd h

-- The leaves that are taken are those of the list.
pub taken-supplied : (signature : Signature) (values : Substitution) (next : ℕ) (sorts : List ℕ) (vs : List Term)
    → AreValues signature sorts vs → Supplies values next vs → taken values next sorts ≡ vs
taken-supplied signature values next [] [] h e = refl
taken-supplied signature values next (s ∷ ss) (v ∷ vs) h e =
    let head : values next s ≡ v = e.0 s in
    let tail : taken values (suc next) ss ≡ vs = taken-supplied signature values (suc next) ss vs h.1 e.1 in
    cc (head, tail)
taken-supplied signature values next [] (v ∷ vs) h e = absurd h
taken-supplied signature values next (s ∷ ss) [] h e = absurd h

-- The leaves that are taken have the sorts.
pub AreValues-taken : (signature : Signature) (values : Substitution) (next : ℕ) (sorts : List ℕ) → Supplied signature values next sorts
    → AreValues signature sorts (taken values next sorts)
AreValues-taken signature values next [] h = tt
AreValues-taken signature values next (s ∷ ss) h = (h.0, AreValues-taken signature values (suc next) ss h.1)

-- A list of leaves is supplied by its own substitution.
pub Supplies-shift : (values : Substitution) (next : ℕ) (vs : List Term) → Supplies (λ k s. values (suc k) s) next vs
    → Supplies values (suc next) vs
Supplies-shift values next [] h = tt
Supplies-shift values next (v ∷ vs) h = (h.0, Supplies-shift values (suc next) vs h.1)

pub Supplies-leaves_in : (vs : List Term) → Supplies (leaves_in vs) 0 vs
Supplies-leaves_in [] = tt
Supplies-leaves_in (v ∷ vs) = (λ s. refl, Supplies-shift (leaves_in (v ∷ vs)) 0 vs (Supplies-leaves_in vs))

pub Supplied-shift : (signature : Signature) (values : Substitution) (next : ℕ) (sorts : List ℕ)
    → Supplied signature (λ k s. values (suc k) s) next sorts → Supplied signature values (suc next) sorts
Supplied-shift signature values next [] h = tt
Supplied-shift signature values next (s ∷ ss) h = (h.0, Supplied-shift signature values (suc next) ss h.1)

pub Supplied-leaves_in : (signature : Signature) (sorts : List ℕ) (vs : List Term) → AreValues signature sorts vs
    → Supplied signature (leaves_in vs) 0 sorts
Supplied-leaves_in signature [] [] h = tt
Supplied-leaves_in signature (s ∷ ss) (v ∷ vs) h = (
  h.0,
  Supplied-shift signature (leaves_in (v ∷ vs)) 0 ss (Supplied-leaves_in signature ss vs h.1),
)
Supplied-leaves_in signature [] (v ∷ vs) h = absurd h
Supplied-leaves_in signature (s ∷ ss) [] h = absurd h

-- Both parts of an appended list are supplied, the second one from behind the first.
pub Supplies-append : (values : Substitution) (next : ℕ) (us vs : List Term) → Supplies values next (us ++ vs) → Supplies values next us
    × Supplies values (next + length us) vs
Supplies-append values next [] vs h = let e : next ≡ next + 0 = omega arith in (tt, subst (λ n. Supplies values n vs) e h)
Supplies-append values next (u ∷ us) vs h =
    let rest : Supplies values (suc next) us × Supplies values (suc next + length us) vs = Supplies-append values (suc next) us vs h.1 in
    let e : suc next + length us ≡ next + suc (length us) = omega arith in
    ((h.0, rest.0), subst (λ n. Supplies values n vs) e rest.1)

pub Supplied-append : (signature : Signature) (values : Substitution) (next : ℕ) (ss rs : List ℕ)
    → Supplied signature values next (ss ++ rs) → Supplied signature values next ss × Supplied signature values (next + length ss) rs
Supplied-append signature values next [] rs h = let e : next ≡ next + 0 =
    omega arith in (tt, subst (λ n. Supplied signature values n rs) e h)
Supplied-append signature values next (s ∷ ss) rs h =
    let rest : Supplied signature values (suc next) ss × Supplied signature values (suc next + length ss) rs =
    Supplied-append signature values (suc next) ss rs h.1 in
    let e : suc next + length ss ≡ next + suc (length ss) = omega arith in
    ((h.0, rest.0), subst (λ n. Supplied signature values n rs) e rest.1)

pub AreValues-append : (signature : Signature) (ss rs : List ℕ) (us vs : List Term) → AreValues signature ss us → AreValues signature rs vs
    → AreValues signature (ss ++ rs) (us ++ vs)
AreValues-append signature [] rs [] vs h k = k
AreValues-append signature (s ∷ ss) rs (u ∷ us) vs h k = (h.0, AreValues-append signature ss rs us vs h.1 k)
AreValues-append signature [] rs (u ∷ us) vs h k = absurd h
AreValues-append signature (s ∷ ss) rs [] vs h k = absurd h

-- Tests of an appended list hold where those of both parts do.
pub AllHold-append : (data_ : Data) (ts us : List Test) → AllHold data_ ts → AllHold data_ us → AllHold data_ (ts ++ us)
AllHold-append data_ [] us h k = k
AllHold-append data_ (t ∷ ts) us h k = (h.0, AllHold-append data_ ts us h.1 k)

pub AllHold-parts : (data_ : Data) (ts us : List Test) → AllHold data_ (ts ++ us) → AllHold data_ ts × AllHold data_ us
AllHold-parts data_ [] us h = (tt, h)
AllHold-parts data_ (t ∷ ts) us h = let rest : AllHold data_ ts
    × AllHold data_ us = AllHold-parts data_ ts us h.1 in ((h.0, rest.0), rest.1)

pub value_at : (signature : Signature) (sorts : List ℕ) (values : List Term) → AreValues signature sorts values → (n s : ℕ)
    → slice_get sorts n ≡ Some s → IsGroundOf signature s (leaves_in values n s)
value_at signature [] values h n s at = absurd (cc at)
value_at signature (r ∷ sorts) [] h n s at = absurd h
value_at signature (r ∷ sorts) (v ∷ values) h zero s at = subst (λ (q : ℕ). IsGroundOf signature q v) (some_value at) h.0
value_at signature (r ∷ sorts) (v ∷ values) h (suc n) s at = value_at signature sorts values h.1 n s at

-- Canonical forms of values are values.
pub canon_values : (data_ : Data) (canon : Term → Term) → IsCanon data_ canon → (sorts : List ℕ) (values : List Term)
    → AreValues data_.signature sorts values → AreValues data_.signature sorts (map canon values)
canon_values data_ canon is [] [] fit = tt
canon_values data_ canon is [] (value ∷ values) fit = absurd fit
canon_values data_ canon is (sort ∷ sorts) [] fit = absurd fit
canon_values data_ canon is (sort ∷ sorts) (value ∷ values) fit =
    (canon_ground data_ canon value sort is fit.0, canon_values data_ canon is sorts values fit.1)
