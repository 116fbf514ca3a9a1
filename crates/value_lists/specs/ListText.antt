-- What is printed for a line that asks for a list.
use Rattle.std.specs.Prelude.{ℕ, List, [], ◌∷◌, ◌++◌, length, codes, decimal}
use Rattle.lotos_base.specs.Signature.{Signature}
use Rattle.lotos_base.specs.Term.{Term}
use Rattle.behaviour_semantics.specs.Menu.{label_at}
use Rattle.behaviour_semantics.specs.Solving.{Entry, label_in}
use Rattle.session_histories.specs.HandedOn.{entry_term_text, label_text}
use Rattle.session_histories.specs.Session.{SessionBasis}
use Rattle.session_histories.specs.TraceText.{arrow, ended, given_text}
use Rattle.value_lists.specs.ListOutcome.{ListRefusal, no_sort, no_entry, too_many_values, too_many_instances, ListOutcome, listed, refused, EntryInstances}

-- the line of a refusal
abbrev pub list_refusal_text : ListRefusal → List ℕ
list_refusal_text (no_sort name) = ended (codes "refused 817 NoSort " ++ name)
list_refusal_text (no_entry number count) =
    codes "refused 802 NoEntry " ++ decimal number ++ codes " of " ++ decimal count ++ codes "\n"
list_refusal_text too_many_values = codes "refused 815 TooManyValues\n"
list_refusal_text too_many_instances = codes "refused 816 TooManyInstances\n"

-- a line for each value
abbrev pub value_lines : Signature → List Term → List ℕ
value_lines signature [] = []
value_lines signature (value ∷ values) = ended (entry_term_text signature value) ++ value_lines signature values

-- `values M` and the values
abbrev pub value_list_text : Signature → List Term → List ℕ
value_list_text signature values = ended (codes "values " ++ decimal (length values)) ++ value_lines signature values

abbrev pub listed_values_text : SessionBasis → ListOutcome (List Term) → List ℕ
listed_values_text basis (listed values) = value_list_text basis.data_.signature values
listed_values_text basis (refused refusal) = list_refusal_text refusal

-- by what instances are printed: the signature of terms, the names of gates, and canonical forms
pub record Printing : Type 0 where
  pub signature : Signature
  pub gates : List (List ℕ)
  pub canon : Term → Term

-- the line of an instance, in the form of the line of a step in a trace: the number of the entry, the values, and the label in
-- canonical form
abbrev pub instance_line : Printing → (number : ℕ) → Entry → List Term → List ℕ
instance_line printing number entry values =
    ended (decimal number ++ given_text printing.signature values ++ arrow
    ++ label_text printing.signature printing.gates (label_in printing.canon (label_at entry values)))

abbrev pub instance_lines : Printing → (number : ℕ) → Entry → List (List Term) → List ℕ
instance_lines printing number entry [] = []
instance_lines printing number entry (values ∷ tuples) =
    instance_line printing number entry values ++ instance_lines printing number entry tuples

-- `instances M` and the instances
abbrev pub instance_list_text : Printing → (number : ℕ) → Entry → List (List Term) → List ℕ
instance_list_text printing number entry tuples =
    ended (codes "instances " ++ decimal (length tuples)) ++ instance_lines printing number entry tuples

-- by what a session prints them
abbrev pub printing_of : SessionBasis → Printing
printing_of basis =
    record { signature = basis.data_.signature; gates = basis.specification.gate_names; canon = basis.canon }

abbrev pub instances_text : SessionBasis → (number : ℕ) → ListOutcome EntryInstances → List ℕ
instances_text basis number (listed found) = instance_list_text (printing_of basis) number found.entry found.tuples
instances_text basis number (refused refusal) = list_refusal_text refusal
