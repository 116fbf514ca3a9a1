-- What crates above this one need of the crates below it.
pub use Rattle.printed_texts.specs.BehaviourText.{Naming, gates_text, behaviour_text, process_names}
pub use Rattle.printed_texts.specs.Brackets.{commas, round, square, listed}
pub use Rattle.printed_texts.specs.FunctionalityText.{functionality_text}
pub use Rattle.printed_texts.specs.TermText.{sort_text, term_text}
