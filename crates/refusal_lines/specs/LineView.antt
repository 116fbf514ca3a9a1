-- What the code prints of its faults. Want of memory, which no refusal holds, has no words, no place and no detail.
use Rattle.std.specs.Prelude.{ℕ, List, [], ◌++◌, map, Option, None, Some, option_map, codes}
use Rattle.lotos_base.specs.Name.{spelling}
use Rattle.lotos_base.specs.Equation.{Place, Data}
use Rattle.behaviour_semantics.specs.Behaviour.{Specification}
use Rattle.behaviour_tree.specs.DefinitionView.{specification_of}
use Rattle.behaviour_tree.specs.declared.definitions.Spec.{Spec}
use Rattle.sort_terms.specs.EquationView.{data_of}
use Rattle.sort_terms.specs.declared.equations.Flat.{Flat}
use Rattle.refusal_lines.specs.Refusal.{Refusal}
use Rattle.refusal_lines.specs.RefusalView.{refusal_of}
use Rattle.refusal_lines.specs.declared.refused.Refused.{Refused}
use Rattle.refusal_lines.specs.RefusalWords.{words_of_refusal}
use Rattle.refusal_lines.specs.RefusalPlace.{place_of_refusal}
use Rattle.refusal_lines.specs.RefusalDetail.{detail_of}
use Rattle.refusal_lines.specs.TextNames as plain
use Rattle.refusal_lines.specs.TextNames.{at_text}
use Rattle.refusal_lines.specs.declared.text_names.TextNames.{TextNames}

abbrev pub words_told : Option Refusal → List ℕ
words_told None = []
words_told (Some refusal) = words_of_refusal refusal

abbrev pub place_told : Option Data → Option Refusal → Option Place
place_told known None = None
place_told known (Some refusal) = place_of_refusal known refusal

abbrev pub detail_told : plain.TextNames → Option Data → Option Specification → Option Refusal → List ℕ
detail_told names data_ spec None = []
detail_told names data_ spec (Some refusal) = detail_of names data_ spec refusal

-- the names of texts, the data and the specification
abbrev pub names_of : TextNames → plain.TextNames
names_of names =
    record { spec = names.spec.now; order = names.order.now; libraries = map spelling names.libraries.now }

abbrev pub data_in : Option Flat → Option Data
data_in flat = option_map data_of flat

abbrev pub spec_in : Option Spec → Option Specification
spec_in spec = option_map specification_of spec

-- the line
abbrev pub line_told : plain.TextNames → Refused → List ℕ
line_told names refused =
    codes "refused " ++ words_told (refusal_of refused.fault)
    ++ at_text names (place_told (data_in refused.flat) (refusal_of refused.fault))
    ++ detail_told names (data_in refused.flat) (spec_in refused.spec) (refusal_of refused.fault) ++ codes "\n"
