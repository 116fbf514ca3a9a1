-- What trying a tuple does to the tuples that are found.
use Rattle.std.specs.Prelude.{◌≡◌, ◌⊎◌, List, [], ◌∷◌, ◌++◌}
use Rattle.lotos_base.specs.Equation.{Data}
use Rattle.lotos_base.specs.Term.{Term}
use Rattle.event_offers.specs.declared.drafts.Entry.{Entry}
use Rattle.value_lists.specs.InstanceList.{HasSortedTests, MeetConditions}

-- The tuple meets the conditions and is added at the end; or it does not, and all stays.
abbrev pub IsTried : Data → Entry → List Term → List (List Term) → List (List Term) → Type 0
IsTried data_ entry ts old new =
    (MeetConditions data_ entry ts × (new ≡ old ++ ts ∷ []))
    ⊎ ((HasSortedTests data_ entry → ¬ MeetConditions data_ entry ts) × (new ≡ old))
