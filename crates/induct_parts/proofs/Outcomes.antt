-- What is said of an option or a result, where it is known which one it is.
use Rattle.std.proofs.Common.{◌≡◌, Bool, true, false, is_some, sym, subst}
use Rattle.std.specs.Prelude.{Option, None, Some, IfSome, IfNone, MatchOption, Result, Ok, Err, IfErr}
use Rattle.std.specs.Result.{IsErrAnd}
use Rattle.std.proofs.lemmas.Option.{same_Some}

pub if_some_at : {A : Type 0} (P : A → Type 0) (o : Option A) (x : A) → o ≡ Some x → IfSome o P → P x
if_some_at P None x e h = cc
if_some_at P (Some y) x e h = subst P (same_Some y x e) h

pub if_none_at : {A : Type 0} (P : Type 0) (o : Option A) → o ≡ None → IfNone o P → P
if_none_at P None e h = h
if_none_at P (Some y) e h = cc

pub match_some_at : {A : Type 0} (P : Type 0) (Q : A → Type 0) (o : Option A) (x : A) → o ≡ Some x → MatchOption o P Q → Q x
match_some_at P Q None x e h = cc
match_some_at P Q (Some y) x e h = subst Q (same_Some y x e) h

pub match_none_at : {A : Type 0} (P : Type 0) (Q : A → Type 0) (o : Option A) → o ≡ None → MatchOption o P Q → P
match_none_at P Q None e h = h
match_none_at P Q (Some y) e h = cc

-- whether there is one
pub there_is_one : {A : Type 0} (P : Type 0) (Q : A → Type 0) (o : Option A) (b : Bool) → b ≡ is_some o → b ≡ true → MatchOption o P Q
    → (x : A) × Q x
there_is_one P Q None b test is h = absurd (cc (test, is))
there_is_one P Q (Some x) b test is h = (x, h)

pub there_is_none : {A : Type 0} (P : Type 0) (Q : A → Type 0) (o : Option A) (b : Bool) → b ≡ is_some o → b ≡ false → MatchOption o P Q → P
there_is_none P Q None b test is h = h
there_is_none P Q (Some x) b test is h = absurd (cc (test, is))

-- what a `?` hands on
pub handed_on : {T E : Type 0} (Q : E → Type 0) (r : Result T E) (fault : E) → IsErrAnd r (λ (e : E). e ≡ fault) → Q fault → IfErr r Q
handed_on Q (Ok x) fault is h = absurd is
handed_on Q (Err e) fault is h = subst Q (sym is) h
