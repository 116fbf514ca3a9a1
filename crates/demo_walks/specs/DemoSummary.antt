-- The summary of the walk: what its session has come to.
use Rattle.std.specs.Prelude.{◌≡◌, ℕ, ◌+◌, List, [], ◌∷◌, ◌++◌, length, Option, None, Some, codes, decimal}
use Rattle.lotos_base.specs.Equation.{Data}
use Rattle.lotos_base.specs.Signature.{Signature}
use Rattle.behaviour_semantics.specs.Label.{Label}
use Rattle.history_lines.specs.HandedOn.{label_text, SessionBasis, PastStep, Situation, Progress}
use Rattle.demo_walks.specs.DemoWalk.{IsDemoWalk}

-- how many entries the menus have in which the steps were taken
abbrev pub entries_before : List PastStep → ℕ
entries_before [] = 0
entries_before (step ∷ steps) = length step.before.menu + entries_before steps

-- how many entries the menus have that were seen: at the start, and behind each step
abbrev pub entries_seen : Progress → ℕ
entries_seen progress = entries_before progress.steps + length progress.situation.menu

-- the label of the last of the steps, and without steps the one before them
abbrev pub later_label : Option Label → List PastStep → Option Label
later_label label [] = label
later_label label (step ∷ steps) = later_label (Some step.item.label) steps

abbrev pub last_label : List PastStep → Option Label
last_label steps = later_label None steps

-- a label, or `none`
abbrev pub text_of_last : Signature → (gates : List (List ℕ)) → Option Label → List ℕ
text_of_last signature gates None = codes "none"
text_of_last signature gates (Some label) = label_text signature gates label

-- the sizes of the data
abbrev pub sizes_line : Data → List ℕ
sizes_line data_ =
    codes "data: " ++ decimal (length data_.signature.sorts) ++ codes " sorts, " ++ decimal (length data_.signature.operations)
    ++ codes " operations, " ++ decimal (length data_.equations) ++ codes " equations\n"

-- The summary, of five lines: the words; the sizes of the data; how many steps were taken; how many entries were seen; the last
-- label.
abbrev pub summary_text : SessionBasis → (cells : ℕ) → Progress → List ℕ
summary_text basis cells progress =
    codes "demo " ++ decimal cells ++ codes "\n" ++ sizes_line basis.data_ ++ codes "steps " ++ decimal (length progress.steps)
    ++ codes "\nentries " ++ decimal (entries_seen progress) ++ codes "\nlast "
    ++ text_of_last basis.data_.signature basis.specification.gate_names (last_label progress.steps) ++ codes "\n"

-- the text is the summary of a walk that begins so
pub record IsSummary (basis : SessionBasis) (first : Situation) (cells : ℕ) (text : List ℕ) : Type 0 where
  pub last : Progress
  pub walk : IsDemoWalk basis first cells last
  pub text_is : text ≡ summary_text basis cells last
