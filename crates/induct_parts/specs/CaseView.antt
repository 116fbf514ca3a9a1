-- What cases and patterns of the code stand for, and what is kept of them.
use Rattle.std.specs.Prelude.{◌<◌, ℕ, List, map}
use Rattle.lotos_base.specs.Signature.{Signature}
use Rattle.lotos_base.specs.Sorting.{Occurs}
use Rattle.lotos_base.proofs.Each.{Each}
use Rattle.sort_terms.specs.SortedView.{term_in}
use Rattle.term_match.specs.Matched.{TermHasOneSortPerNumber}
use Rattle.certificate_theory.specs.Patterns.{Pattern as PlainPattern}
use Rattle.certificate_theory.specs.Splits.{Case as PlainCase}
use Rattle.certificate_theory.proofs.CaseLemmas.{IsFineCase}
use Rattle.induct_parts.specs.StatementView.{statement_of, IsStatementOf}
use Rattle.induct_parts.specs.declared.cases.Case.{Case}
use Rattle.induct_parts.specs.declared.patterns.Pattern.{Pattern}

-- the case, and several
abbrev pub case_in : Case → PlainCase
case_in point = record {
  sorts = point.sorts.items;
  gone = point.gone.items;
  hypotheses = map statement_of point.hypotheses.items;
  goal = statement_of point.goal;
}

abbrev pub cases_in : List Case → List PlainCase
cases_in points = map case_in points

-- The goal and the hypotheses are sorted, in scope and of the signature.
pub record IsKnownCase (signature : Signature) (free : ℕ) (point : Case) : Type 0 where
  pub fine : IsFineCase signature free (case_in point)
  pub goal : IsStatementOf signature point.goal
  pub hypotheses : Each (IsStatementOf signature) point.hypotheses.items

-- the pattern, and several
abbrev pub pattern_in : Pattern → PlainPattern
pattern_in pattern = record { next = pattern.next; term = term_in pattern.term }

abbrev pub patterns_in : List Pattern → List PlainPattern
patterns_in patterns = map pattern_in patterns

-- The numbers of the pattern's variables are below the next one, and each has one sort.
pub record IsKnownPattern (pattern : PlainPattern) : Type 0 where
  pub below : (n s : ℕ) → Occurs n s pattern.term → n < pattern.next
  pub one_sort : TermHasOneSortPerNumber pattern.term
