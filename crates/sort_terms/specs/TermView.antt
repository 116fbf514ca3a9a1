-- The term that a term of the code stands for.
use Rattle.std.specs.Prelude.{List, [], ◌∷◌, map}
use Rattle.lotos_base.specs.Term.{Term as PlainTerm, Terms}
use Rattle.sort_terms.specs.Operations.{operation_of}
use Rattle.sort_terms.specs.ProfiledTerm.{ProfiledTerm, ProfiledTerms, profiled_variable, profiled_node, no_profiled_terms, profiled_term_then, bare, all_bare}
use Rattle.sort_terms.specs.declared.terms.Term.{Term}
use Rattle.sort_terms.specs.declared.terms.Term.TheVariants.{Var, Node}

-- the argument list with the members of a list
abbrev pub profiled_terms : List ProfiledTerm → ProfiledTerms
profiled_terms [] = no_profiled_terms
profiled_terms (t ∷ ts) = profiled_term_then t (profiled_terms ts)

-- the term with its profiles
abbrev pub profiled_of : Term → ProfiledTerm
profiled_of (Var n s) = profiled_variable n s
profiled_of (Node f profile arguments) = profiled_node f (operation_of profile.value) arguments

-- the terms of a list with their profiles
abbrev pub all_profiled : List Term → ProfiledTerms
all_profiled ts = profiled_terms (map profiled_of ts)

-- the term
abbrev pub term_of : Term → PlainTerm
term_of t = bare (profiled_of t)

-- the terms of a list
abbrev pub bare_terms_of : List Term → Terms
bare_terms_of ts = all_bare (all_profiled ts)
