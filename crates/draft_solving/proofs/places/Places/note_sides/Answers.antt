use Rattle.std.proofs.lemmas.Result.{on_ok_weaker}
use Rattle.draft_solving.proofs.PlaceLemmas.{keeps_then}
use Rattle.draft_solving.proofs.places.Places.note_sides.Goals as goal

pub returns-clause-kept : goal.returns-clause-kept
returns-clause-kept c =
    on_ok_weaker c.note-2.result
    (keeps_then c.args.self.now c.note.new.self c.note-2.new.self c.in_ok-note.ensures.kept) c.note-2.ensures.kept
