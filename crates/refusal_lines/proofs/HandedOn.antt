-- What crates above this one need of the crates below it.
pub use Rattle.equation_book.proofs.BookLemmas.{canon_stays, opened_stays}
pub use Rattle.lotos_grammar.proofs.HandedOn.{all_have_one_outcome}
pub use Rattle.lotos_grammar.proofs.MisreadTexts.{fault_told, never_misread, misread_once}
pub use Rattle.lotos_grammar.proofs.OneOutcome.{front, back, joined, outcomes_are_one}
pub use Rattle.lotos_grammar.proofs.ShelfLemmas.{gives_nothing, gives_then, gives_then_lacks, gives_then_some, gives_some, some_within}
pub use Rattle.lotos_grammar.proofs.ShelfLemmas.{wanted_uncalled, wanted_by_get}
pub use Rattle.lotos_grammar.proofs.WantedFiles.{wanted_files_come_first}
pub use Rattle.process_checks.proofs.CallLemmas.{not_guarded}
pub use Rattle.process_checks.proofs.WayLemmas.{way_of_leads}
pub use Rattle.scope_parts.proofs.BehavioursOnce.{specification_once}
pub use Rattle.scope_parts.proofs.FormedDefinitions.{every_both}
