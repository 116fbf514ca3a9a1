-- The theory of a book: its data, its rules, and the normal form of each term by them.
use Rattle.sort_terms.specs.EquationView.{data_of}
use Rattle.path_order.specs.RulesView.{plain_rules_in}
use Rattle.equation_book.specs.BookCanon.{book_canon}
use Rattle.equation_book.specs.declared.book.Book.{Book}
use Rattle.induct_parts.specs.HandedOn.{Theory}

abbrev pub book_theory : Book → Theory
book_theory book =
    record { data_ = data_of book.flat; rules = plain_rules_in book.joined.rules; canon = book_canon book }
