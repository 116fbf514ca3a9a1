use Rattle.std.proofs.Common.{◌↔◌, ℕ, map, take}
use Rattle.std.specs.Prelude.{IsTrue}
use Rattle.lotos_base.specs.WrittenView.{placed_name_of}
use Rattle.sort_terms.specs.Asked.{allows}
use Rattle.sort_terms.specs.Reading.{IsAsked}
use Rattle.sort_terms.specs.ReaderView.{signature_read}
use Rattle.sort_terms.proofs.reader.Reader.asked.Given as goal

abbrev pub invariant-loop-name : goal.invariant-loop-name
invariant-loop-name l = (s : ℕ)
    → IsTrue (allows l.asked s) ↔ IsAsked (signature_read l.self) (map placed_name_of (take l.name-index l.name-items)) s
