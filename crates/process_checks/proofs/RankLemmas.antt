-- What ranks and refusals say of the plain processes.
use Rattle.std.proofs.Common.{◌≡◌, ◌≢◌, ◌<◌, ◌≤◌, ◌+◌, ◌⊎◌, inl, inr, ℕ, List, ◌∷◌, length, get_or, Option, None, Some, ap, sym, ◌∙◌, subst, arith, Vec, Global}
use Rattle.std.specs.Prelude.{MatchOption}
use Rattle.std.proofs.lemmas.List.{length-map}
use Rattle.behaviour_semantics.specs.Guardedness.{IsGuarded}
use Rattle.behaviour_semantics.proofs.RankLemmas.{no_cycle}
use Rattle.behaviour_tree.specs.DefinitionView.{specification_of}
use Rattle.behaviour_tree.specs.declared.definitions.Spec.{Spec}
use Rattle.process_checks.specs.Calls.{called_by, call_graph_of}
use Rattle.process_checks.specs.Graph.{IsCallAt, LiesOnCycle}
use Rattle.process_checks.specs.Ranks.{AreRanksOf, IsCyclic, RefusesRanks, rank_in}
use Rattle.process_checks.specs.Ways.{AreDistances, Calls, CallsHaveCycle, RanksOf, distance_in}
use Rattle.process_checks.specs.declared.rank_table.RankFault.{RankFault}
use Rattle.process_checks.specs.declared.rank_table.RankFault.TheVariants.{Unguarded, NoMemory}
use Rattle.process_checks.specs.declared.rank_table.Ranks.{Ranks}
use Rattle.process_checks.proofs.CallLemmas.{fall_plainly, not_guarded}
use Rattle.process_checks.proofs.CycleLemmas.{call_on_cycle, none_on_cycle}
use Rattle.process_checks.proofs.ListLemmas.{same_or_other}
use Rattle.process_checks.proofs.WayLemmas.{way_of_leads}

-- The ranks of the graph are those of the specification.
pub ranks_of_graph : (spec : Spec) (graph : List (List ℕ)) (ranks : Ranks) (numbers : List ℕ) → graph ≡ call_graph_of spec.processes.items
    → RanksOf graph numbers → ranks.of_process.items ≡ numbers → AreRanksOf spec ranks
ranks_of_graph spec graph ranks numbers is falling made = record {
  covers =
      ap (λ (ns : List ℕ). length ns) made ∙ falling.covers ∙ ap (λ (g : List (List ℕ)). length g) is
      ∙ length-map spec.processes.items called_by;
  fall =
      fall_plainly spec.processes.items (rank_in ranks)
      (λ from to calls.
      subst (λ (ns : List ℕ). get_or ns to 0 < get_or ns from 0) (sym made)
      (falling.fall from to (subst (λ (g : List (List ℕ)). Calls g from to) (sym is) calls)));
}

-- The ranks that were found.
pub found_ranks : (graph : List (List ℕ)) (found : Option (Vec ℕ Global)) (numbers : Vec ℕ Global) → found ≡ Some numbers
    → MatchOption found (CallsHaveCycle graph) (λ ranks. RanksOf graph ranks.items) → RanksOf graph numbers.items
found_ranks graph found numbers is told =
    subst (λ (o : Option (Vec ℕ Global)). MatchOption o (CallsHaveCycle graph) (λ ranks. RanksOf graph ranks.items)) is told

pub guarded_by : (spec : Spec) (ranks : Ranks) → AreRanksOf spec ranks → IsGuarded (specification_of spec).processes
guarded_by spec ranks h = no_cycle (specification_of spec).processes (rank_in ranks) h.fall

-- A refusal for a cycle: recursion is not guarded.
cycle_of : (graph : List (List ℕ)) (process position : ℕ) → LiesOnCycle graph process position → CallsHaveCycle graph
cycle_of graph process position on =
    (process, (length on.positions, way_of_leads graph process (position ∷ on.positions) on.way process on.leads))

pub refused_cycle : (spec : Spec) (fault : RankFault) → RefusesRanks spec fault → IsCyclic fault
    → IsGuarded (specification_of spec).processes
    → ⊥
refused_cycle spec (Unguarded place process cycle) refuses cyclic guarded =
    not_guarded spec.processes.items
    (cycle_of (call_graph_of spec.processes.items) process refuses.position refuses.first.on_cycle) guarded
refused_cycle spec NoMemory refuses cyclic guarded = absurd cyclic

-- One process more has no call on a cycle.
pub none_below_next : (graph : List (List ℕ)) (distances : List (Option ℕ)) (process : ℕ) → AreDistances graph process distances
    → ((k other : ℕ) → IsCallAt graph process k other → distance_in distances other ≡ None)
    → ((earlier k : ℕ) → earlier < process → LiesOnCycle graph earlier k → ⊥)
    → (earlier k : ℕ) → earlier < process + 1 → LiesOnCycle graph earlier k → ⊥
none_below_next graph distances process exact far none earlier k lt on = by (same_or_other earlier process)
  where
    by : (earlier ≡ process) ⊎ (earlier ≢ process) → ⊥
    by (inl same) =
        none_on_cycle graph distances process exact far k (subst (λ (n : ℕ). LiesOnCycle graph n k) same on)
    by (inr apart) = none earlier k (omega (arith, lt, apart)) on

-- Some process of the graph has a call on a cycle.
pub cycle_below : (graph : List (List ℕ)) (done : ℕ) → CallsHaveCycle graph
    → ((earlier k : ℕ) → earlier < done → LiesOnCycle graph earlier k → ⊥) → length graph ≤ done → ⊥
cycle_below graph done cycle none all_done =
    let on : (process : ℕ) × ((process < length graph) × ((k : ℕ) × LiesOnCycle graph process k)) = call_on_cycle graph cycle in
    let there : on.0 < length graph = on.1.0 in
    none on.0 on.1.1.0 (omega (arith, there, all_done)) on.1.1.1
