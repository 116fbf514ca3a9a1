-- What a `?` hands on.
use Rattle.std.proofs.Common.{◌≡◌, Option, Some, None, MatchOption}

pub gave_none : {T : Type 0} (P : Type 0) (Q : T → Type 0) (r : Option T) → r ≡ None → P → MatchOption r P Q
gave_none P Q None e h = h
gave_none P Q (Some x) e h = absurd (cc e)
