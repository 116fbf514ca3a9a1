-- A result that is matched, where it is a refusal.
use Rattle.std.proofs.Common.{◌≡◌, IsErrAnd, Result, Ok, Err, sym, subst}
use Rattle.std.specs.Prelude.{MatchResult}

pub match_err : {T E : Type 0} (P : T → Type 0) (Q : E → Type 0) (result : Result T E) (fault : E) → IsErrAnd result (λ e. e ≡ fault) → Q
    fault
    → MatchResult result P Q
match_err P Q (Ok x) fault is h = absurd is
match_err P Q (Err e) fault is h = subst Q (sym is) h
