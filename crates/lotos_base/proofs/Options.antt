-- Options and results.
use Rattle.std.proofs.Common.{◌≡◌, refl, sym, subst}
use Rattle.std.specs.Prelude.{Option, Some, None, Result, Ok, Err, MatchResult, IsErrAnd}
use Rattle.std.specs.Option.{option_map, option_and_then}
use Rattle.std.proofs.lemmas.Option.{same_Some}

pub none_and_some : {X : Type 0} (o : Option X) (x : X) → o ≡ None → o ≡ Some x → ⊥
none_and_some o x none some = cc (none, some)

pub none_unless_some : {X : Type 0} (o : Option X) → ((x : X) → o ≡ Some x → ⊥) → o ≡ None
none_unless_some None never = refl
none_unless_some (Some x) never = absurd (never x refl)

-- what a mapped option came from, and a chained one
pub mapped : {X Y : Type 0} (f : X → Y) (o : Option X) {y : Y} → option_map f o ≡ Some y
    → (x : X) × (o ≡ Some x) × (f x ≡ y)
mapped f None e = absurd (cc)
mapped f (Some x) {y = y} e = (x, refl, same_Some (f x) y e)

pub chained : {X Y : Type 0} (f : X → Option Y) (o : Option X) {y : Y} → option_and_then f o ≡ Some y
    → (x : X) × (o ≡ Some x) × (f x ≡ Some y)
chained f None e = absurd (cc)
chained f (Some x) e = (x, refl, e)

-- an error that `?` hands on
pub gave_up : {T E : Type 0} (P : T → Type 0) (Q : E → Type 0) (r : Result T E) (fault : E) → IsErrAnd r (λ (e : E). e ≡ fault)
    → Q fault → MatchResult r P Q
gave_up P Q (Ok x) fault is h = absurd is
gave_up P Q (Err e) fault is h = subst Q (sym is) h
