-- A table of what a term is to each subterm of another term, in the shape of that term. The path order is told from
-- such tables of the arguments, so that it costs the product of two sizes.
use Rattle.std.specs.Prelude.{◌≡◌, ℕ, suc, List, [], ◌∷◌, Option, None, Some, Bool, true, false, zero, ◌&&◌, ◌||◌}
use Rattle.lotos_base.specs.Term.{Term, variable, node, Terms, no_terms, term_then}
use Rattle.lotos_base.specs.Tests.{term_eq}
use Rattle.rewriting_theory.specs.Precedence.{Status, from_left, from_right, Precedence}
use Rattle.rewriting_theory.specs.OrderTest.{is_greater}

mutual
  -- Whether the term is the subterm, whether it is greater, and at an operation the same of its arguments.
  pub data ComparisonTable : Type 0 where
    table_leaf : Bool → Bool → ComparisonTable
    table_node : Bool → Bool → ComparisonTables → ComparisonTable

  -- A list of such tables.
  pub data ComparisonTables : Type 0 where
    no_tables : ComparisonTables
    table_then : ComparisonTable → ComparisonTables → ComparisonTables

-- the tables of a list
abbrev pub compared_tables_of : List ComparisonTable → ComparisonTables
compared_tables_of [] = no_tables
compared_tables_of (c ∷ cs) = table_then c (compared_tables_of cs)

abbrev mutual
  -- The table of the first term over the second one.
  pub compared : Precedence → Term → Term → ComparisonTable
  compared precedence t (variable n s) = table_leaf (term_eq t (variable n s)) (is_greater precedence t (variable n s))
  compared precedence t (node g us) =
      table_node (term_eq t (node g us)) (is_greater precedence t (node g us)) (all_compared precedence t us)

  -- Its tables over the terms of a list.
  pub all_compared : Precedence → Term → Terms → ComparisonTables
  all_compared precedence t no_terms = no_tables
  all_compared precedence t (term_then u us) = table_then (compared precedence t u) (all_compared precedence t us)

-- The tables of the terms of a list over one term.
abbrev pub each_compared : Precedence → Terms → Term → List ComparisonTable
each_compared precedence no_terms u = []
each_compared precedence (term_then t ts) u = compared precedence t u ∷ each_compared precedence ts u

-- whether the term is the whole other term
abbrev pub equal_in : ComparisonTable → Bool
equal_in (table_leaf e g) = e
equal_in (table_node e g cs) = e

-- whether it is greater than that
abbrev pub greater_in : ComparisonTable → Bool
greater_in (table_leaf e g) = g
greater_in (table_node e g cs) = g

-- the table at a position of a list
abbrev pub table_at : ℕ → ComparisonTables → Option ComparisonTable
table_at k no_tables = None
table_at zero (table_then c cs) = Some c
table_at (suc k) (table_then c cs) = table_at k cs

-- the table over an argument
abbrev pub part_in : ℕ → ComparisonTable → Option ComparisonTable
part_in k (table_leaf e g) = None
part_in k (table_node e g cs) = table_at k cs

-- what is there, and then the rest
abbrev pub if_there : Option ComparisonTable → List ComparisonTable → List ComparisonTable
if_there None rest = rest
if_there (Some c) rest = c ∷ rest

-- the tables over one argument
abbrev pub parts_in : ℕ → List ComparisonTable → List ComparisonTable
parts_in k [] = []
parts_in k (c ∷ cs) = if_there (part_in k c) (parts_in k cs)

-- whether one of the terms is the other term or greater
abbrev pub some_reaches_in : List ComparisonTable → Bool
some_reaches_in [] = false
some_reaches_in (c ∷ cs) = equal_in c || (greater_in c || some_reaches_in cs)

-- whether the term is greater than each of the terms of a list
abbrev pub exceeds_all_in : ComparisonTables → Bool
exceeds_all_in no_tables = true
exceeds_all_in (table_then c cs) = greater_in c && exceeds_all_in cs

-- whether the table has a term that is equal
abbrev pub equal_there : Option ComparisonTable → Bool
equal_there None = false
equal_there (Some c) = equal_in c

-- whether it has one that is greater
abbrev pub greater_there : Option ComparisonTable → Bool
greater_there None = false
greater_there (Some c) = greater_in c

-- whether each term is the argument at its own place, where the first of them stands at a place
abbrev pub equals_in : ℕ → List ComparisonTable → Bool
equals_in k [] = true
equals_in k (c ∷ cs) = equal_there (part_in k c) && equals_in (suc k) cs

-- whether at the first place from the left where they differ the term is greater than the argument there
abbrev pub exceeds_in : ℕ → List ComparisonTable → Bool
exceeds_in k [] = false
exceeds_in k (c ∷ cs) = greater_there (part_in k c) || (equal_there (part_in k c) && exceeds_in (suc k) cs)

-- The same from the right: whether at the last place where they differ the term is greater than the argument there, where
-- this is told already of the places before these.
abbrev pub exceeds_last_in : Bool → ℕ → List ComparisonTable → Bool
exceeds_last_in told k [] = told
exceeds_last_in told k (c ∷ cs) =
    exceeds_last_in (greater_there (part_in k c) || (equal_there (part_in k c) && told)) (suc k) cs

-- the same from the side of the status
abbrev pub exceeds_from : Status → List ComparisonTable → Bool
exceeds_from from_left rows = exceeds_in 0 rows
exceeds_from from_right rows = exceeds_last_in false 0 rows

-- The rows are the tables of the terms over the other term.
abbrev pub IsToldOf : Precedence → Terms → Term → List ComparisonTable → Type 0
IsToldOf precedence ts u rows = rows ≡ each_compared precedence ts u
