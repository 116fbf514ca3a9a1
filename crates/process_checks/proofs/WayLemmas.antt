-- Ways one behind another, and ways with the processes that they lead over.
use Rattle.std.proofs.Common.{◌≡◌, ◌<◌, ℕ, zero, suc, List, [], ◌∷◌, length, refl, ap, sym, subst, arith}
use Rattle.std.proofs.lemmas.Option.{none-some}
use Rattle.process_checks.specs.Graph.{CallsLead}
use Rattle.process_checks.specs.Ways.{Calls, IsWay}
use Rattle.process_checks.specs.Search.{CallsReach}

-- One more call at the end of a way.
pub way_further : (graph : List (List ℕ)) (n from between to : ℕ) → IsWay graph from n between → Calls graph between to
    → IsWay graph from (suc n) to
way_further graph zero from between to way calls = (to, (subst (λ (p : ℕ). Calls graph p to) (sym way) calls, refl))
way_further graph (suc n) from between to way calls =
    (way.0, (way.1.0, way_further graph n way.0 between to way.1.1 calls))

pub reaches_further : (graph : List (List ℕ)) (from between to : ℕ) → CallsReach graph from between → Calls graph between to
    → CallsReach graph from to
reaches_further graph from between to way calls = (suc way.0, way_further graph way.0 from between to way.1 calls)

-- The number of calls of a way over processes.
pub way_of_leads : (graph : List (List ℕ)) (from : ℕ) (positions way : List ℕ) (to : ℕ) → CallsLead graph from positions way to
    → IsWay graph from (length positions) to
way_of_leads graph from [] [] to leads = leads
way_of_leads graph from [] (p ∷ way) to leads = absurd leads
way_of_leads graph from (k ∷ positions) [] to leads = absurd leads
way_of_leads graph from (k ∷ positions) (p ∷ way) to leads =
    (leads.1.0, ((k, leads.1.1.0), way_of_leads graph leads.1.0 positions way to leads.1.1.1))

-- The processes of a way of so many calls.
pub record Led (graph : List (List ℕ)) (from n to : ℕ) : Type 0 where
  pub positions : List ℕ
  pub way : List ℕ
  pub long : length positions ≡ n
  pub leads : CallsLead graph from positions way to

led_further : (graph : List (List ℕ)) (from n next to : ℕ) → (calls : Calls graph from next) → Led graph next n to
    → Led graph from (suc n) to
led_further graph from n next to calls rest = record {
  positions = calls.0 ∷ rest.positions;
  way = from ∷ rest.way;
  long = ap suc rest.long;
  leads = (refl, (next, (calls.1, rest.leads)));
}

pub leads_of_way : (graph : List (List ℕ)) (from n to : ℕ) → IsWay graph from n to → Led graph from n to
leads_of_way graph from zero to way = record { positions = []; way = []; long = refl; leads = way }
leads_of_way graph from (suc n) to way =
    led_further graph from n way.0 to way.1.0 (leads_of_way graph way.0 n to way.1.1)

-- A process that calls is one of the graph.
pub calls_within : (graph : List (List ℕ)) (process other : ℕ) → Calls graph process other → process < length graph
calls_within [] process other calls = absurd (none-some other calls.1)
calls_within (calls_here ∷ graph) zero other calls = omega arith
calls_within (calls_here ∷ graph) (suc process) other calls =
    let below : process < length graph = calls_within graph process other calls in omega arith
