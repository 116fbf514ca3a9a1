-- The term that a term with its sort stands for.
use Rattle.lotos_base.specs.Term.{Term as PlainTerm}
use Rattle.sort_terms.specs.ProfiledTerm.{ProfiledTerm}
use Rattle.sort_terms.specs.TermView.{profiled_of, term_of}
use Rattle.sort_terms.specs.declared.sorted.Sorted.{Sorted}

-- the term with its profiles
abbrev pub profiled_in : Sorted → ProfiledTerm
profiled_in sorted = profiled_of sorted.term

-- the term
abbrev pub term_in : Sorted → PlainTerm
term_in sorted = term_of sorted.term
