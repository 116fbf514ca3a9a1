use Rattle.std.proofs.Common.{◌≡◌, None, take}
use Rattle.lotos_base.specs.MemShelf.{text_under}
use Rattle.lotos_base.proofs.memory_shelf.index_named.Given as goal

-- no file before the index has the name
abbrev pub invariant-loop-index : goal.invariant-loop-index
invariant-loop-index l = text_under (take l.index l.files) l.name ≡ None
