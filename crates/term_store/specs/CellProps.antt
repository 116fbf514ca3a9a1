-- That a fact about cells has at most one proof, as a fact kept beside code must.
use Rattle.std.specs.Prelude.{ℕ, zero, suc, List, [], ◌∷◌}
use Rattle.std.proofs.Props.{props}
use Rattle.std.specs.Coded.{Unit-prop}
use Rattle.term_store.specs.Cells.{AreBelow, IsCell, AreCells, IsOnceEach}

AreBelow-prop : (bound : ℕ) (ns : List ℕ) → IsProp (AreBelow bound ns)
AreBelow-prop bound [] = Unit-prop
AreBelow-prop bound (n ∷ ns) = let others = AreBelow-prop bound ns in hlevel (props, others)

IsCell-prop : (bound : ℕ) (key : List ℕ) → IsProp (IsCell bound key)
IsCell-prop bound [] = hlevel props
IsCell-prop bound (zero ∷ ns) = hlevel props
IsCell-prop bound (suc m ∷ []) = hlevel props
IsCell-prop bound (suc m ∷ f ∷ ns) = let below = AreBelow-prop bound ns in hlevel (props, below)

pub AreCells-prop : (bound : ℕ) (keys : List (List ℕ)) → IsProp (AreCells bound keys)
AreCells-prop bound [] = Unit-prop
AreCells-prop bound (key ∷ keys) =
    let one = IsCell-prop bound key in
    let others = AreCells-prop (suc bound) keys in
    hlevel (props, one, others)

pub IsOnce-prop : (keys : List (List ℕ)) → IsProp (IsOnceEach keys)
IsOnce-prop keys = hlevel props
