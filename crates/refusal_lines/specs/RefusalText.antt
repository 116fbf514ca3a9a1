-- The line that is printed for a refusal.
use Rattle.std.specs.Prelude.{ℕ, List, ◌++◌, codes}
use Rattle.refusal_lines.specs.Refusal.{Refused}
use Rattle.refusal_lines.specs.TextNames.{TextNames, at_text}
use Rattle.refusal_lines.specs.RefusalWords.{words_of_refusal}
use Rattle.refusal_lines.specs.RefusalPlace.{place_of_refusal}
use Rattle.refusal_lines.specs.RefusalDetail.{detail_of}

-- the names of the texts, by the words for the specification and the order file
abbrev pub names_for : (spec order : List ℕ) → Refused → TextNames
names_for spec order refused = record { spec = spec; order = order; libraries = refused.libraries }

-- the line: number and name, place, detail
abbrev pub refusal_text : (spec order : List ℕ) → Refused → List ℕ
refusal_text spec order refused =
    codes "refused " ++ words_of_refusal refused.refusal
    ++ at_text (names_for spec order refused) (place_of_refusal refused.data_ refused.refusal)
    ++ detail_of (names_for spec order refused) refused.data_ refused.spec refused.refusal ++ codes "\n"
