-- The rules of a book, and copies of them.
use Rattle.std.proofs.Common.{◌≡◌, List, ap, sym, subst}
use Rattle.equation_book.specs.BookCanon.{book_canon}
use Rattle.equation_book.specs.BookCanonFacts.{book_oriented, book_sided}
use Rattle.equation_book.specs.declared.book.Book.{Book}
use Rattle.path_order.specs.RulesView.{rules_in, plain_rules_in, precedence_in}
use Rattle.path_order.specs.declared.rules.Rules.{Rules}
use Rattle.sort_terms.specs.EquationView.{data_of}
use Rattle.rewriting_theory.specs.Orientation.{NumberedRule, rules_of}
use Rattle.rewriting_theory.proofs.ChosenCanonLemmas.{sorted_rules}
use Rattle.induct_parts.specs.HandedOn.{Theory, AreSortedRulesOf}
use Rattle.induct_parts.specs.SettingView.{known_theory}
use Rattle.induct_check.specs.BookView.{book_theory}

pub rules_of_book : (book : Book) (rules : Rules) → rules_in rules ≡ rules_in book.joined.rules
    → AreSortedRulesOf (data_of book.flat) (plain_rules_in rules)
rules_of_book book rules same =
    subst (λ (rs : List NumberedRule). AreSortedRulesOf (data_of book.flat) (rules_of rs)) (sym same)
    (sorted_rules (precedence_in book.joined.rules) (data_of book.flat) (rules_in book.joined.rules) (book_sided book) (book_oriented book))

pub theory_of_book : (book : Book) (rules : Rules) → rules_in rules ≡ rules_in book.joined.rules
    → known_theory (data_of book.flat) rules (book_canon book) ≡ book_theory book
theory_of_book book rules same =
    ap (λ (rs : List NumberedRule). by_rules rs) same
  where
    by_rules : List NumberedRule → Theory
    by_rules rs = record { data_ = data_of book.flat; rules = rules_of rs; canon = book_canon book }
