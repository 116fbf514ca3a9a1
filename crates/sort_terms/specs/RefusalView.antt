-- The refusals that faults of the code stand for.
use Rattle.std.specs.Prelude.{◌≡◌, List, [], ◌∷◌, Option, None, Some}
use Rattle.lotos_base.specs.WrittenView.{text_place_of}
use Rattle.sort_terms.specs.ReadingOutcome.{ReadingRefusal, unknown_name, unknown_sort, no_reading, two_readings}
use Rattle.sort_terms.specs.declared.sort_faults.SortFault.{SortFault}
use Rattle.sort_terms.specs.declared.sort_faults.SortFault.TheVariants.{UnknownName, UnknownSort, NoReading, TwoReadings, NoMemory}

-- the refusal; want of memory is none
abbrev pub reading_refusal_of : SortFault → Option ReadingRefusal
reading_refusal_of (UnknownName place) = Some (unknown_name (text_place_of place))
reading_refusal_of (UnknownSort place) = Some (unknown_sort (text_place_of place))
reading_refusal_of (NoReading place) = Some (no_reading (text_place_of place))
reading_refusal_of (TwoReadings place) = Some (two_readings (text_place_of place))
reading_refusal_of NoMemory = None

-- the fault is the first of the refusals, if there is one
abbrev pub IsFirstRefusal : List ReadingRefusal → Option SortFault → Type 0
IsFirstRefusal refusals None = refusals ≡ []
IsFirstRefusal refusals (Some fault) = (first : ReadingRefusal) × (rest : List ReadingRefusal) × (reading_refusal_of fault ≡ Some first)
    × (refusals ≡ first ∷ rest)

-- the property of the refusal that a fault stands for, unless memory was wanting
abbrev pub UnlessNoMemory : SortFault → (ReadingRefusal → Type 0) → Type 0
UnlessNoMemory (UnknownName place) P = P (unknown_name (text_place_of place))
UnlessNoMemory (UnknownSort place) P = P (unknown_sort (text_place_of place))
UnlessNoMemory (NoReading place) P = P (no_reading (text_place_of place))
UnlessNoMemory (TwoReadings place) P = P (two_readings (text_place_of place))
UnlessNoMemory NoMemory P = Unit {0}
