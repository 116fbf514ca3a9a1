-- The canon of a book: the chosen form of a term by the rules.
use Rattle.lotos_base.specs.Term.{Term}
use Rattle.path_order.proofs.RulesLemmas.{rules_have_forms}
use Rattle.equation_book.specs.declared.book.Book.{Book}

-- The chosen form of the term by the rules of the book, which there is since rewriting ends.
abbrev pub book_canon : Book → Term → Term
book_canon book t = (rules_have_forms book.joined.rules t).0
