-- The demand that what is next in the code stands for.
use Rattle.sort_terms.specs.SortedView.{profiled_in}
use Rattle.term_match.specs.Solving.{Demand, nothing_more, given_up, put_for}
use Rattle.term_match.specs.declared.solving.Demanded.{Demanded}
use Rattle.term_match.specs.declared.solving.Demanded.TheVariants.{Solved, Failed, Bind}

-- the demand
abbrev pub demand_of : Demanded → Demand
demand_of Solved = nothing_more
demand_of Failed = given_up
demand_of (Bind number value) = put_for number (profiled_in value)
