-- A session that is served behind its head.
use Rattle.std.proofs.Common.{◌≡◌, ℕ, List, subst, refl}
use Rattle.lotos_base.specs.Outside.{Stream, Stands, Fails}
use Rattle.certificate_verbs.specs.HandedOn.{ShelfState, Standing, point, history_machine, Beginning, standing_at}
use Rattle.line_server.specs.Session.{IsSessionServed}
use Rattle.line_server.specs.Turn.{around}
use Rattle.line_server.specs.Writing.{WritesAll, WritesBeginning}
use Rattle.line_server.specs.declared.ends.SessionEnd.{SessionEnd}
use Rattle.certificate_verbs.specs.declared.ended.Ended.{Ended}
use Rattle.certificate_verbs.specs.declared.ended.Ended.TheVariants.{OutputFault}
use Rattle.lotos_top.specs.Opening.{opening_text}
use Rattle.lotos_top.specs.Run.{Streams, ServesSession, in_front, behind, ended_by}

pub serves_behind : (begun : Beginning) (shelf shelf_after : ShelfState) (before after : Streams) (answer : Ended) (text : List ℕ)
    (between : Stream) (last : Standing) (end : SessionEnd) → text ≡ opening_text begun
    → WritesAll before.output.bytes between.bytes text → Stands before.output between → last.texts ≡ shelf_after.texts
    → IsSessionServed history_machine
    (around (point (standing_at begun shelf.texts) shelf.faults shelf.calls) before.input between)
    (around (point last shelf_after.faults shelf_after.calls) after.input after.output) end
    → answer ≡ ended_by end → ServesSession begun shelf shelf_after before after answer
serves_behind begun shelf shelf_after before after answer text between last end is wrote counts texts served ends =
    behind between last end (subst (λ (it : List ℕ). WritesAll before.output.bytes between.bytes it) is wrote) counts texts served ends

pub fails_in_front : (begun : Beginning) (shelf : ShelfState) (before after : Streams) (text : List ℕ) → text ≡ opening_text begun
    → after.input ≡ before.input → WritesBeginning before.output.bytes after.output.bytes text
    → Fails before.output after.output → ServesSession begun shelf shelf before after OutputFault
fails_in_front begun shelf before after text is kept wrote rises =
    in_front refl kept refl (subst (λ (it : List ℕ). WritesBeginning before.output.bytes after.output.bytes it) is wrote) rises
