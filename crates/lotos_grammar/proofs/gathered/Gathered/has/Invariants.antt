use Rattle.std.proofs.Common.{◌≡◌, drop, map}
use Rattle.lotos_base.specs.Name.{spelling}
use Rattle.lotos_grammar.specs.Gathering.{is_read}
use Rattle.lotos_grammar.proofs.gathered.Gathered.has.Given as goal

-- none of the libraries before this one has the name
abbrev pub invariant-loop-library : goal.invariant-loop-library
invariant-loop-library l =
    is_read (map spelling (drop l.library-index l.library-items)) (spelling l.name)
    ≡ is_read (map spelling l.library-items) (spelling l.name)
