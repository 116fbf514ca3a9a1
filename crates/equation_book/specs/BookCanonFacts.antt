-- The canon of a book gives chosen forms, and is a canon of the data of the book.
use Rattle.lotos_base.specs.Canon.{IsCanon}
use Rattle.lotos_base.specs.Equation.{HasSortedSides}
use Rattle.rewriting_theory.specs.ChosenForm.{Chooses}
use Rattle.rewriting_theory.specs.NormalForm.{Normalises}
use Rattle.rewriting_theory.proofs.PublicLemmas.{chosen_rewritten, chosen_normal}
use Rattle.rewriting_theory.specs.Orientation.{IsOrientation}
use Rattle.rewriting_theory.proofs.ChosenCanonLemmas.{chosen_canon}
use Rattle.sort_terms.specs.EquationView.{data_of}
use Rattle.path_order.specs.RulesView.{rules_in, plain_rules_in, precedence_in}
use Rattle.path_order.proofs.RulesLemmas.{rules_have_forms, rules_well_formed}
use Rattle.path_order.proofs.RuleTestLemmas.{test_gives}
use Rattle.critical_pairs.specs.JoinedFacts.{joined_confluent}
use Rattle.equation_book.specs.SortedSidesFacts.{sorted_sides}
use Rattle.equation_book.specs.BookCanon.{book_canon}
use Rattle.equation_book.specs.declared.book.Book.{Book}

-- it is the chosen form
pub book_chooses : (book : Book) → Chooses (plain_rules_in book.joined.rules) (book_canon book)
book_chooses book t = (rules_have_forms book.joined.rules t).1

-- which is a normal form
pub book_normalises : (book : Book) → Normalises (plain_rules_in book.joined.rules) (book_canon book)
book_normalises book = record {
  reached = λ t. chosen_rewritten (book_chooses book t);
  irreducible = λ t. chosen_normal (rules_well_formed book.joined.rules) (book_chooses book t);
}

-- its equations have sides of one sort
pub book_sided : (book : Book) → HasSortedSides (data_of book.flat)
book_sided book = sorted_sides book.flat book.sides

-- the rules are those of the data
pub book_oriented : (book : Book) → IsOrientation (precedence_in book.joined.rules) (data_of book.flat) (rules_in book.joined.rules)
book_oriented book = test_gives (precedence_in book.joined.rules) 0 (data_of book.flat).equations (rules_in book.joined.rules) book.oriented

-- so it is a canon of the data
pub book_is_canon : (book : Book) → IsCanon (data_of book.flat) (book_canon book)
book_is_canon book =
    chosen_canon (precedence_in book.joined.rules) (data_of book.flat) (rules_in book.joined.rules) (book_canon book)
    (sorted_sides book.flat book.sides) (book_oriented book) (joined_confluent book.joined) (book_chooses book)
