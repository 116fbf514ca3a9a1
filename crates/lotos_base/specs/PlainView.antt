-- The term that a `PlainTerm` stands for.
use Rattle.std.specs.Prelude.{ℕ, List, map}
use Rattle.lotos_base.specs.Term.{Term, variable, node, Terms, argument_list_of}
use Rattle.lotos_base.specs.declared.plain.PlainTerm.{PlainTerm, fold-PlainTerm}
use Rattle.lotos_base.specs.declared.plain.PlainTerm.TheOpen.{PlainTerm-F}

-- one level, with each argument already seen as its term
abbrev pub level : PlainTerm-F Term → Term
level (PlainTerm-F.Variable n s) = variable n s
level (PlainTerm-F.Node f ts) = node f (argument_list_of ts.items)

abbrev pub term_of_plain : PlainTerm → Term
term_of_plain = fold-PlainTerm Term level

-- the arguments that a list of such terms stands for
abbrev pub arguments_of : List PlainTerm → Terms
arguments_of ts = argument_list_of (map term_of_plain ts)

-- the pairs of a number and a term that a list of values stands for
abbrev pub pairs_of_values : List (ℕ × PlainTerm) → List (ℕ × Term)
pairs_of_values values = map (λ pair. (pair.0, term_of_plain pair.1)) values
