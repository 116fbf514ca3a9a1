use Rattle.std.proofs.Common.{◌≡◌, ◌≤◌, ◌+◌, length, map, drop}
use Rattle.sort_terms.specs.Operations.{sort_of}
use Rattle.type_definitions.specs.Actualisation.{Actualising}
use Rattle.type_presentations.specs.SortListView.{HasSortKeys, sorts_in}
use Rattle.type_renaming.specs.MakersView.{makers_in}
use Rattle.type_renaming.specs.CameView.{sorts_with}
use Rattle.type_renaming.specs.SourceView.{AreSortsComing}
use Rattle.type_renaming.proofs.ArrivingLemmas.{Arriving}
use Rattle.type_renaming.proofs.MemberLemmas.{sorts_of}
use Rattle.type_renaming.proofs.coming_sorts.bring_each.Given as goal

abbrev pub invariant-loop-number : goal.invariant-loop-number
invariant-loop-number l = record {
  keyed : HasSortKeys l.list;
  few : length (sorts_in l.list) ≤ length (sorts_in l.fn.list) + l.number;
  makers : length (makers_in l.came.makers) ≡ length (sorts_in l.list);
  arriving : (a : Actualising)
      → AreSortsComing a l.source (sorts_in l.fn.list) (map sort_of l.coming) l.actuals
      → Arriving (sorts_of a) (sorts_with l.list l.came) l.number (map sort_of (drop l.number l.coming)) (drop l.number l.actuals);
}
