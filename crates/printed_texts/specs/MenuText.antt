-- The texts of labels, entries and menus.
use Rattle.std.specs.Prelude.{ℕ, ◌+◌, List, [], ◌∷◌, ◌++◌, map, Option, Some, None, slice_get, length, codes, decimal}
use Rattle.lotos_base.specs.Signature.{Signature}
use Rattle.lotos_base.specs.Term.{Term}
use Rattle.behaviour_semantics.specs.Behaviour.{Test}
use Rattle.behaviour_semantics.specs.Label.{Label, inner_event, gate_event, exit_event}
use Rattle.behaviour_semantics.specs.Solving.{Entry}
use Rattle.printed_texts.specs.Brackets.{round, commas}
use Rattle.printed_texts.specs.TermText.{sort_text, numbered_text, term_text}

-- a term of a label or an entry, whose variables are `$1`, `$2` and so on
abbrev pub entry_term_text : Signature → Term → List ℕ
entry_term_text signature term = term_text signature [] term

abbrev pub term_texts : Signature → List Term → List (List ℕ)
term_texts signature terms = map (entry_term_text signature) terms

-- the name with this number
abbrev pub name_text : Option (List ℕ) → List ℕ
name_text None = []
name_text (Some name) = name

-- the values of an event, each behind a `!`
abbrev pub values_text : Signature → List Term → List ℕ
values_text signature [] = []
values_text signature (value ∷ values) = codes " !" ++ entry_term_text signature value ++ values_text signature values

-- the values of `exit`, in brackets where there are some
abbrev pub exit_values_text : Signature → List Term → List ℕ
exit_values_text signature [] = []
exit_values_text signature (value ∷ values) = round (commas (term_texts signature (value ∷ values)))

-- the values of a step, behind a blank where there are some
abbrev pub given_text : Signature → List Term → List ℕ
given_text signature [] = []
given_text signature (value ∷ values) = codes " " ++ commas (term_texts signature (value ∷ values))

-- a label: `i`; a gate with its values; `exit` with its values
abbrev pub label_text : Signature → List (List ℕ) → Label → List ℕ
label_text signature gates inner_event = codes "i"
label_text signature gates (gate_event gate values) = name_text (slice_get gates gate) ++ values_text signature values
label_text signature gates (exit_event values) = codes "exit" ++ exit_values_text signature values

-- a variable of an entry with its sort
abbrev pub sorted_text : Signature → ℕ → ℕ → List ℕ
sorted_text signature number sort = numbered_text number ++ codes ":" ++ sort_text signature sort

-- the variables of an entry from this number on
abbrev pub sorted_texts : Signature → ℕ → List ℕ → List (List ℕ)
sorted_texts signature number [] = []
sorted_texts signature number (sort ∷ sorts) = sorted_text signature number sort ∷ sorted_texts signature (number + 1) sorts

-- the variables of an entry, if it has some
abbrev pub for_text : Signature → List ℕ → List ℕ
for_text signature [] = []
for_text signature (sort ∷ sorts) = codes " for " ++ commas (sorted_texts signature 0 (sort ∷ sorts))

-- a condition
abbrev pub condition_text : Signature → Test → List ℕ
condition_text signature test = entry_term_text signature test.left ++ codes " = " ++ entry_term_text signature test.right

abbrev pub condition_texts : Signature → List Test → List (List ℕ)
condition_texts signature tests = map (condition_text signature) tests

-- the conditions of an entry, if it has some
abbrev pub if_text : Signature → List Test → List ℕ
if_text signature [] = []
if_text signature (test ∷ tests) = codes " if " ++ commas (condition_texts signature (test ∷ tests))

-- an entry: its label, its variables and its conditions
abbrev pub entry_text : Signature → List (List ℕ) → Entry → List ℕ
entry_text signature gates entry =
    label_text signature gates entry.label ++ for_text signature entry.variables ++ if_text signature entry.conditions

-- a line of a menu
abbrev pub menu_line_text : Signature → List (List ℕ) → ℕ → Entry → List ℕ
menu_line_text signature gates number entry = decimal number ++ codes ": " ++ entry_text signature gates entry ++ codes "\n"

-- the lines of entries that are numbered from this number on
abbrev pub lines_text : Signature → List (List ℕ) → ℕ → List Entry → List ℕ
lines_text signature gates number [] = []
lines_text signature gates number (entry ∷ entries) =
    menu_line_text signature gates number entry ++ lines_text signature gates (number + 1) entries

-- a menu: how many entries it has, and a line for each, numbered from 1
abbrev pub menu_text : Signature → List (List ℕ) → List Entry → List ℕ
menu_text signature gates entries =
    codes "events " ++ decimal (length entries) ++ codes "\n" ++ lines_text signature gates 1 entries
