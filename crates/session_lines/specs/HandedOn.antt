-- What crates above this one need of the crates below it.
pub use Rattle.equation_book.specs.BookCanon.{book_canon}
pub use Rattle.equation_book.specs.BookCanonFacts.{book_normalises, book_sided}
pub use Rattle.equation_book.specs.HandedOn.{plain_rules_in}
pub use Rattle.equation_book.specs.declared.book.Book.{Book}
pub use Rattle.lotos_grammar.specs.HandedOn.{left_out, IsTermsReading, IsTermsFault, TextsHaveOneOutcome, ReadFault, NoMemory, BadByte}
pub use Rattle.lotos_grammar.specs.HandedOn.{OpenComment}
pub use Rattle.printed_texts.specs.BehaviourText.{state_text}
pub use Rattle.printed_texts.specs.MenuText.{label_text, menu_text, entry_term_text}
pub use Rattle.printed_texts.specs.ReportLines.{head_text, unread_text}
pub use Rattle.printed_texts.specs.TextView.{written_label, written_menu, written_value}
pub use Rattle.lotos_grammar.specs.HandedOn.read_fault
pub use Rattle.lotos_grammar.specs.HandedOn.read_faults
