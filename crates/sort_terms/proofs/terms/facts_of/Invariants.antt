use Rattle.std.proofs.Common.{take}
use Rattle.sort_terms.specs.Known.{HoldOfAll}
use Rattle.sort_terms.specs.TermView.{bare_terms_of}
use Rattle.sort_terms.proofs.terms.facts_of.Given as goal

abbrev pub invariant-loop-i : goal.invariant-loop-i
invariant-loop-i l = HoldOfAll l.facts (bare_terms_of (take l.i l.terms.items))
