-- What crates above this one need of the crates below it.
pub use Rattle.path_order.specs.RulesView.{rules_in, precedence_in}
pub use Rattle.refusal_lines.specs.HandedOn.{Gathered, GatheringOutcome, all_gathered, faulty, without_file, memory_wanted, Becomes, item}
pub use Rattle.refusal_lines.specs.HandedOn.{nothing_yet, with_type, Waiting, mention, MentionComesTo, read_before, one_too_many, in_place}
pub use Rattle.refusal_lines.specs.HandedOn.{not_read, no_file, wanted_before_text, wanted_behind_text, goes_on, stops, nothing_waits, then}
pub use Rattle.refusal_lines.specs.HandedOn.{a_type, mentions, ends, memory_ends, book_canon, book_chooses, book_is_canon, Book, IsOpenedBy}
pub use Rattle.refusal_lines.specs.HandedOn.{GotFile, Files, AreGotFrom, ShelfState, IsFileOf, calls_after, Gives, GivesSome}
pub use Rattle.refusal_lines.specs.Refusal.{Refused, Refusal}
pub use Rattle.refusal_lines.specs.StartLaws.{StartValuesAreGround}
pub use Rattle.refusal_lines.specs.WordLimits.{words_of, words_limit, word_bytes_limit, total_length, are_within}
pub use Rattle.refusal_lines.specs.RefusalView.{refused_of}
pub use Rattle.refusal_lines.specs.StartValues.{Start, AreStartValues, IsStartFault, WordTerm, HaveValues, HaveTermFault, misread}
pub use Rattle.refusal_lines.specs.StartValues.{miscounted, misfitting}
pub use Rattle.refusal_lines.specs.LineView.{names_of}
pub use Rattle.refusal_lines.specs.RefusalText.{refusal_text}
pub use Rattle.refusal_lines.specs.TextNames.{TextNames, place_text}
pub use Rattle.rewriting_theory.specs.ChosenForm.{Chooses}
pub use Rattle.rewriting_theory.specs.Orientation.{rules_of, NumberedRule}
pub use Rattle.rewriting_theory.specs.Precedence.{Precedence}
pub use Rattle.type_definitions.specs.Requirements.{AreRequirements}
