-- What crates above this one need of the crates below it.
pub use Rattle.printed_texts.specs.BehaviourText.{Naming, gate_text, called_text, is_constant, behaviour_text}
pub use Rattle.printed_texts.specs.Brackets.{begins_with_sign, spaced, round, commas, bracketed}
pub use Rattle.printed_texts.specs.MenuText.{entry_term_text, label_text, term_texts, name_text, values_text}
pub use Rattle.printed_texts.specs.Samples.{printed_sample_signature, printed_a, printed_f, printed_plus, star, small_d, capital_d, minus, printed_operation}
pub use Rattle.printed_texts.specs.TermText.{Phrase, operand_text, phrase_text, phrases_of, variable_text, sort_name, sort_text, phrase_of}
pub use Rattle.printed_texts.specs.TermText.{arguments_text, prefix_phrase, operator_text, between_text, infix_phrase, application_phrase}
pub use Rattle.printed_texts.specs.TermText.{node_phrase}
pub use Rattle.printed_texts.specs.TextView.{written_value}
pub use Rattle.tree_building.specs.Laws.{TextsAreUnambiguous}
pub use Rattle.tree_building.specs.Reading.{node_limit, IsTermsReading}
