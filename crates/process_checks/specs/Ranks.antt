-- What the call `ranks` answers.
use Rattle.std.specs.Prelude.{◌≡◌, ℕ, List, length, get_or, slice_get, Some}
use Rattle.lotos_base.specs.declared.places.Place.{Place}
use Rattle.behaviour_semantics.specs.Rank.{RanksFall}
use Rattle.behaviour_tree.specs.DefinitionView.{specification_of}
use Rattle.behaviour_tree.specs.declared.definitions.Process.{Process}
use Rattle.behaviour_tree.specs.declared.definitions.Spec.{Spec}
use Rattle.process_checks.specs.Calls.{call_sites_of, call_graph_of}
use Rattle.process_checks.specs.Graph.{IsFirstOnCycle, IsKeptCycle}
use Rattle.process_checks.specs.declared.calls.CallSite.{CallSite}
use Rattle.process_checks.specs.declared.rank_table.Ranks.{Ranks}
use Rattle.process_checks.specs.declared.rank_table.RankFault.{RankFault}
use Rattle.process_checks.specs.declared.rank_table.RankFault.TheVariants.{Unguarded, NoMemory}

-- The rank of a process; a process that there is not has the rank 0.
abbrev pub rank_in : Ranks → ℕ → ℕ
rank_in ranks process = get_or ranks.of_process.items process 0

-- The ranks are those of the specification: one for each process, and each greater than those of the processes that its
-- body calls unguarded.
pub record AreRanksOf (spec : Spec) (ranks : Ranks) : Type 0 where
  pub covers : length ranks.of_process.items ≡ length spec.processes.items
  pub fall : RanksFall (specification_of spec).processes (rank_in ranks)

-- The call at the position in the body of the process stands at the place.
pub record IsSiteAt (spec : Spec) (process position : ℕ) (place : Place) : Type 0 where
  pub caller : Process
  pub found : slice_get spec.processes.items process ≡ Some caller
  pub site : CallSite
  pub stands : slice_get (call_sites_of caller.body) position ≡ Some site
  pub placed : site.place ≡ place

-- The place is that of the first call that lies on a cycle, the process the one whose body has that call, and the cycle
-- the one that is kept of this call.
pub record IsUnguarded (spec : Spec) (place : Place) (process : ℕ) (cycle : List ℕ) : Type 0 where
  pub position : ℕ
  pub stands : IsSiteAt spec process position place
  pub first : IsFirstOnCycle (call_graph_of spec.processes.items) process position
  pub kept : IsKeptCycle (call_graph_of spec.processes.items) process position cycle

-- What a refusal says.
abbrev pub RefusesRanks : Spec → RankFault → Type 0
RefusesRanks spec (Unguarded place process cycle) = IsUnguarded spec place process cycle.items
RefusesRanks spec NoMemory = Unit {0}

-- The refusal is for a cycle.
abbrev pub IsCyclic : RankFault → Type 0
IsCyclic (Unguarded place process cycle) = Unit {0}
IsCyclic NoMemory = ⊥
