-- Terms that were made, in a list of which the first member was made last.
use Rattle.std.specs.Prelude.{List, [], ◌∷◌}
use Rattle.sort_terms.specs.ProfiledTerm.{ProfiledTerm}
use Rattle.sort_terms.specs.TermView.{profiled_of}
use Rattle.sort_terms.specs.declared.terms.Term.{Term}

-- the terms of a list of the code before others, the last one first
abbrev pub before : List Term → List ProfiledTerm → List ProfiledTerm
before [] others = others
before (t ∷ ts) others = before ts (profiled_of t ∷ others)

abbrev pub made_of : List Term → List ProfiledTerm
made_of ts = before ts []
