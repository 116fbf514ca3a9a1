-- What the code keeps of a walk.
use Rattle.std.specs.Prelude.{◌≡◌, ℕ, ◌≤◌, ◌+◌, ◌*◌, List, ◌++◌, map, length, Option, option_map, IfSome, codes, decimal}
use Rattle.lotos_base.specs.Signature.{Signature}
use Rattle.lotos_base.specs.Sorting.{IsGround}
use Rattle.lotos_base.specs.Term.{Term}
use Rattle.lotos_base.specs.Equation.{Data}
use Rattle.lotos_base.specs.Name.{spelling}
use Rattle.sort_terms.specs.EquationView.{data_of}
use Rattle.sort_terms.specs.ProfiledTerm.{IsOf}
use Rattle.sort_terms.specs.SignatureView.{signature_of}
use Rattle.sort_terms.specs.SortedView.{profiled_in, term_in}
use Rattle.sort_terms.specs.declared.equations.Flat.{Flat}
use Rattle.sort_terms.specs.declared.sorted.Sorted.{Sorted}
use Rattle.history_lines.specs.HandedOn.{Progress, progress_of, IsLawfulSession, Session, label_of, Spec}
use Rattle.demo_walks.specs.DemoWalk.{WalkValues}
use Rattle.demo_walks.specs.DemoSummary.{entries_seen, last_label, sizes_line, text_of_last}
use Rattle.demo_walks.specs.declared.values.CellValues.{CellValues}
use Rattle.demo_walks.specs.declared.tallies.Tally.{Tally}

-- the values of the cells
abbrev pub walk_values_of : CellValues → WalkValues
walk_values_of values = record { of_first = option_map term_in values.of_first; of_others = option_map term_in values.of_others }

-- The value is a ground term of the signature.
pub record IsGivenValue (signature : Signature) (value : Sorted) : Type 0 where
  pub is_of : IsOf signature (profiled_in value)
  pub ground : IsGround (term_in value)

-- So is each value that there is.
abbrev pub IsGivenIfAny : Signature → Option Sorted → Type 0
IsGivenIfAny signature value = IfSome value (IsGivenValue signature)

pub record AreGivenValues (signature : Signature) (values : CellValues) : Type 0 where
  pub of_first : IsGivenIfAny signature values.of_first
  pub of_others : IsGivenIfAny signature values.of_others

-- a menu has at most this many entries
abbrev pub most_entries : ℕ
most_entries = 18446744073709551615

-- how far the session has come
abbrev pub walk_reached : {M : Type 0} → Session M → Progress
walk_reached session = progress_of session.course

-- The session is lawful, and the numbers of its steps and of the entries that were seen and its last label are kept.
pub record IsOnWalk {M : Type 0} (suits : M → Spec → Data → (Term → Term) → Type 0) (data_ : Data) (canon : Term → Term)
    (session : Session M) (tally : Tally) : Type 0 where
  pub lawful : IsLawfulSession suits data_ canon session
  pub steps : tally.steps ≡ length (walk_reached session).steps
  pub entries : tally.entries ≡ entries_seen (walk_reached session)
  pub bounded : tally.entries ≤ (length (walk_reached session).steps + 1) * most_entries
  pub label : option_map label_of tally.last ≡ last_label (walk_reached session).steps

-- the summary by what was seen
abbrev pub written_summary : Flat → Spec → (cells : ℕ) → Tally → List ℕ
written_summary data_ spec cells tally =
    codes "demo " ++ decimal cells ++ codes "\n" ++ sizes_line (data_of data_) ++ codes "steps " ++ decimal tally.steps
    ++ codes "\nentries " ++ decimal tally.entries ++ codes "\nlast "
    ++ text_of_last (signature_of data_.signature) (map spelling spec.gate_names.items) (option_map label_of tally.last) ++ codes "\n"
