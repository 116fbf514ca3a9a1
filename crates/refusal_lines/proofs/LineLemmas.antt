-- The line that the code prints is that of the refusal that it tells.
use Rattle.std.proofs.Common.{◌≡◌, ℕ, List, ◌++◌, map, Option, None, Some, option_map, IfSome, ◌∙◌, ap}
use Rattle.lotos_base.specs.Name.{spelling}
use Rattle.lotos_base.specs.declared.names.Name.{Name}
use Rattle.refusal_lines.specs.Refusal as plain
use Rattle.refusal_lines.specs.RefusalView.{with_known}
use Rattle.refusal_lines.specs.declared.refused.Refused.{Refused}
use Rattle.refusal_lines.specs.TextNames.{TextNames, at_text}
use Rattle.refusal_lines.specs.RefusalText.{refusal_text}
use Rattle.refusal_lines.specs.LineView.{data_in, spec_in, words_told, place_told, detail_told}
use Rattle.std.specs.Prelude.{codes}

-- the line, where the fault tells this
abbrev line_with : (names : TextNames) (refused : Refused) → Option plain.Refusal → List ℕ
line_with names refused told =
    codes "refused " ++ words_told told ++ at_text names (place_told (data_in refused.flat) told)
    ++ detail_told names (data_in refused.flat) (spec_in refused.spec) told ++ codes "\n"

-- the names of texts, with libraries that are kept
abbrev pub names_with : (spec order : List ℕ) → List Name → TextNames
names_with spec order libraries = record { spec = spec; order = order; libraries = map spelling libraries }

pub told_line :
    (spec order : List ℕ) (refused : Refused) (told : Option plain.Refusal) (libraries : List Name) (was now : List ℕ) →
    libraries ≡ refused.libraries.items →
    now ≡ was ++ line_with (names_with spec order libraries) refused told →
    IfSome (option_map (with_known refused) told) (λ (r : plain.Refused). now ≡ was ++ refusal_text spec order r)
told_line spec order refused None libraries was now same is = tt
told_line spec order refused (Some refusal) libraries was now same is =
    is ∙ ap (λ (ls : List Name). was ++ line_with (names_with spec order ls) refused (Some refusal)) same
