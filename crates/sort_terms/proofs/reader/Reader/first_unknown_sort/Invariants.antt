use Rattle.std.proofs.Common.{◌≡◌, map, drop}
use Rattle.lotos_base.specs.WrittenView.{placed_name_of}
use Rattle.sort_terms.specs.ReaderView.{signature_read}
use Rattle.sort_terms.specs.ReadingOutcome.{unknown_sorts}
use Rattle.sort_terms.proofs.reader.Reader.first_unknown_sort.Given as goal

abbrev pub invariant-loop-place : goal.invariant-loop-place
invariant-loop-place l =
    unknown_sorts (signature_read l.self) (map placed_name_of l.place-items)
    ≡ unknown_sorts (signature_read l.self) (map placed_name_of (drop l.place-index l.place-items))
