-- What the rules of the dynamic semantics with one moving part make of the entries of that part: an entry gets the variant
-- of the rule before its shape and another label, if the rule applies to its label at all. Leaves, variables and conditions
-- stay as they are.
use Rattle.std.specs.Prelude.{ℕ, List, Bool, not, filter_map, Option, None, Some, if◌then◌else◌}
use Rattle.lotos_base.specs.Signature.{Signature}
use Rattle.behaviour_semantics.specs.Behaviour.{SynchronisationSet, Relabelling}
use Rattle.behaviour_semantics.specs.Label.{Label, inner_event, label_under}
use Rattle.behaviour_semantics.specs.Rule.{moves_alone, hidden_label, is_exit}
use Rattle.behaviour_semantics.specs.Shape.{Shape, hidden, enabled, passed}
use Rattle.behaviour_semantics.specs.Solving.{Entry}
use Rattle.behaviour_semantics.specs.Fault.{ends_with}

-- The variant of the rule's shape, the labels to which it applies, and the label that it gives.
pub record PartRule : Type 0 where
  pub variant : Shape → Shape
  pub applies : Label → Bool
  pub label : Label → Label

-- The entry below the rule.
abbrev pub changed : PartRule → Entry → Entry
changed rule entry = record entry { shape = rule.variant entry.shape; label = rule.label entry.label }

-- What the rule makes of an entry of the part, and of all its entries.
abbrev pub by_rule : PartRule → Entry → Option Entry
by_rule rule entry = if rule.applies entry.label then Some (changed rule entry) else None

abbrev pub all_by_rule : PartRule → List Entry → List Entry
all_by_rule rule entries = filter_map (by_rule rule) entries

-- Every move of the part is one of the whole, with its label.
abbrev pub passing_on : (Shape → Shape) → PartRule
passing_on variant = record { variant = variant; applies = λ label. Bool.true; label = λ label. label }

-- A side of a parallel moves alone.
abbrev pub alone_rule : SynchronisationSet → (Shape → Shape) → PartRule
alone_rule meet variant = record { variant = variant; applies = moves_alone meet; label = λ label. label }

-- Every move of the part is one of the whole, with its label under a relabelling.
abbrev pub under_rule : (Shape → Shape) → Relabelling → PartRule
under_rule variant pairs = record { variant = variant; applies = λ label. Bool.true; label = label_under pairs }

-- The moves of the part under `hide`.
abbrev pub hide_rule : List ℕ → PartRule
hide_rule gates = record { variant = hidden; applies = λ label. Bool.true; label = hidden_label gates }

-- The left side of `>>` ends with values of these sorts, and the right side begins.
abbrev pub enabled_rule : Signature → List ℕ → PartRule
enabled_rule signature sorts = record { variant = enabled; applies = ends_with signature sorts; label = λ label. inner_event }

-- The left side of `>>` goes on.
abbrev pub passed_rule : PartRule
passed_rule = record { variant = passed; applies = λ label. not (is_exit label); label = λ label. label }

-- What `>>` makes of an entry of its left side.
abbrev pub enable_entry : Signature → List ℕ → Entry → Option Entry
enable_entry signature sorts entry =
    if is_exit entry.label then by_rule (enabled_rule signature sorts) entry else by_rule passed_rule entry
