-- The drafts of a gate `par` below an environment are made of those of its part.
use Rattle.std.specs.Prelude.{◌≡◌, ◌≤◌, ◌+◌, ℕ, List, [], ◌∷◌, length, map, slice_get, None, Some}
use Rattle.lotos_base.specs.Term.{Term}
use Rattle.lotos_base.specs.Equation.{Data, Variable}
use Rattle.lotos_base.specs.Canon.{IsCanon}
use Rattle.lotos_base.specs.Substitution.{substituted, binding}
use Rattle.behaviour_semantics.specs.Behaviour.{Behaviour, stop, par_gate, call, relabel, Process, Specification, SynchronisationSet, Relabelling}
use Rattle.behaviour_semantics.specs.Draft as plain
use Rattle.behaviour_semantics.specs.Draft.{first_apart, above_variables}
use Rattle.behaviour_semantics.specs.Label.{under}
use Rattle.behaviour_semantics.specs.Move.{Setting}
use Rattle.behaviour_semantics.specs.Replacement.{with_values, binding_of}
use Rattle.behaviour_semantics.specs.WellFormed.{IsBehaviour, IsSpecification}
use Rattle.draft_parts.specs.EnvironmentRaises.{GivesScope}
use Rattle.draft_parts.specs.HasDrafts.{HasDrafts, row_drafts}
use Rattle.draft_parts.specs.Rows.{copied, calls_copied}

-- A behaviour is well formed in a scope, and the pairs give its variables terms over leaves before the next ones.
pub record IsWellFormedBelow (data_ : Data) (canon : Term → Term) (specification : Specification) (scope : List Variable)
    (pairs : List (ℕ × Term)) (base next : ℕ) (b : Behaviour) : Type 0 where
  pub is_canon : IsCanon data_ canon
  pub well_formed : IsSpecification data_.signature specification
  pub formed : IsBehaviour data_.signature (length specification.gate_names) specification.processes scope b
  pub apart : first_apart specification.processes b ≤ base
  pub low : above_variables scope ≤ base
  pub gives : GivesScope data_.signature base (base + next) scope pairs

abbrev pub setting_over : Data → (Term → Term) → Specification → Setting
setting_over data_ canon specification = record {
  signature = data_.signature;
  represent = canon;
  processes = specification.processes;
}

-- where the drafts of the copies or of the part are given, the drafts of the gate `par` are those of the row
pub record RowsHaveTheirDrafts : Type 0 where
  pub of_copies :
      (data_ : Data) (canon : Term → Term) (specification : Specification) (scope : List Variable) (pairs : List (ℕ × Term))
      (base next g : ℕ) (gates : List ℕ) (meet : SynchronisationSet) (b : Behaviour) (made : ℕ → List plain.Draft) →
      IsWellFormedBelow data_ canon specification scope pairs base next (par_gate g gates meet b) →
      ((a : ℕ) → HasDrafts (setting_over data_ canon specification) base next (under (with_values (binding pairs) b) ((g, a) ∷ []))
      (made a)) →
      HasDrafts (setting_over data_ canon specification) base next (with_values (binding pairs) (par_gate g gates meet b))
      (row_drafts data_.signature meet (base + next) (map made gates))
  -- a part that is neither `stop` nor a call nor relabelled
  pub of_part :
      (data_ : Data) (canon : Term → Term) (specification : Specification) (scope : List Variable) (pairs : List (ℕ × Term))
      (base next g : ℕ) (gates : List ℕ) (meet : SynchronisationSet) (b : Behaviour) (drafts : List plain.Draft) →
      IsWellFormedBelow data_ canon specification scope pairs base next (par_gate g gates meet b) →
      ((renamed : Relabelling) → under b renamed ≡ relabel renamed b) →
      HasDrafts (setting_over data_ canon specification) base next (with_values (binding pairs) b) drafts →
      HasDrafts (setting_over data_ canon specification) base next (with_values (binding pairs) (par_gate g gates meet b))
      (row_drafts data_.signature meet (base + next) (copied g gates drafts))
  pub of_call :
      (data_ : Data) (canon : Term → Term) (specification : Specification) (scope : List Variable) (pairs : List (ℕ × Term))
      (base next g : ℕ) (gates : List ℕ) (meet : SynchronisationSet) (number : ℕ) (actuals : List ℕ) (arguments : List Term)
      (process : Process) (drafts : List plain.Draft) →
      IsWellFormedBelow data_ canon specification scope pairs base next (par_gate g gates meet (call number actuals arguments)) →
      slice_get specification.processes number ≡ Some process →
      HasDrafts (setting_over data_ canon specification) base next
      (with_values (binding_of process.parameters (map canon (map (substituted (binding pairs)) arguments))) process.body) drafts →
      HasDrafts (setting_over data_ canon specification) base next
      (with_values (binding pairs) (par_gate g gates meet (call number actuals arguments)))
      (row_drafts data_.signature meet (base + next) (calls_copied g gates process.gates actuals drafts))
  -- copies that have no moves, of `stop` and of a call of no process
  pub of_stop :
      (data_ : Data) (canon : Term → Term) (specification : Specification) (scope : List Variable) (pairs : List (ℕ × Term))
      (base next g : ℕ) (gates : List ℕ) (meet : SynchronisationSet) →
      IsWellFormedBelow data_ canon specification scope pairs base next (par_gate g gates meet stop) →
      HasDrafts (setting_over data_ canon specification) base next (with_values (binding pairs) (par_gate g gates meet stop)) []
  pub of_no_call :
      (data_ : Data) (canon : Term → Term) (specification : Specification) (scope : List Variable) (pairs : List (ℕ × Term))
      (base next g : ℕ) (gates : List ℕ) (meet : SynchronisationSet) (number : ℕ) (actuals : List ℕ) (arguments : List Term) →
      IsWellFormedBelow data_ canon specification scope pairs base next (par_gate g gates meet (call number actuals arguments)) →
      slice_get specification.processes number ≡ None →
      HasDrafts (setting_over data_ canon specification) base next
      (with_values (binding pairs) (par_gate g gates meet (call number actuals arguments))) []
