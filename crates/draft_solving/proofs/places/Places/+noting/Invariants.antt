use Rattle.std.proofs.Common.{drop, ◌+◌, ◌*◌}
use Rattle.sort_terms.specs.TermSize.{size_of, sizes_of}
use Rattle.sort_terms.specs.TermView.{bare_terms_of}
use Rattle.draft_solving.specs.Standing.{KeepsPlaces}
use Rattle.draft_solving.proofs.PlaceLemmas.{AreNotedBefore}
use Rattle.draft_solving.proofs.places.Places.+noting.Given as goal

abbrev pub decreases-note : goal.decreases-note
decreases-note l = 2 * size_of l.term.now

abbrev pub decreases-note_all : goal.decreases-note_all
decreases-note_all l = 2 * sizes_of l.terms.now.items + 1

abbrev pub invariant-note_all-loop-term : goal.invariant-note_all-loop-term
invariant-note_all-loop-term l =
    KeepsPlaces l.fn.self l.self
    × AreNotedBefore l.self l.place (bare_terms_of l.term-items) (bare_terms_of (drop l.term-index l.term-items))
