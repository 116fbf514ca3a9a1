-- What crates above this one need of the crates below it.
pub use Rattle.equation_book.specs.BookCanon.{book_canon}
pub use Rattle.equation_book.specs.BookCanonFacts.{book_chooses, book_is_canon}
pub use Rattle.equation_book.specs.HandedOn.{AreUnjoinedBy, ArePeaksOf, equation_at}
pub use Rattle.equation_book.specs.Refusal.{IsOpenedBy, IsBookFault}
pub use Rattle.equation_book.specs.declared.book.Book.{Book}
pub use Rattle.equation_book.specs.declared.book_fault.BookFault.{BookFault}
pub use Rattle.equation_book.specs.declared.book_fault.BookFault.TheVariants as book_faults
pub use Rattle.lotos_grammar.specs.GatheredView.{gathered_of}
pub use Rattle.lotos_grammar.specs.Gathering.{library_file, Gathered, GatheringOutcome, all_gathered, faulty, without_file, memory_wanted}
pub use Rattle.lotos_grammar.specs.Gathering.{Becomes, nothing_yet, item, with_type, Waiting, mention, MentionComesTo, read_before, no_file}
pub use Rattle.lotos_grammar.specs.Gathering.{one_too_many, in_place, not_read, wanted_before_text, wanted_behind_text, goes_on, stops}
pub use Rattle.lotos_grammar.specs.Gathering.{nothing_waits, a_type, mentions, then, ends, memory_ends, too_many, misread, GotFile, Problem}
pub use Rattle.lotos_grammar.specs.GatheringLaws.{AreGotFrom, Files, LacksFrom, ComesFrom}
pub use Rattle.lotos_grammar.specs.HandedOn.{IsSpecificationReading, IsOrderReadFault, IsOrderReading, IsSpecificationFault, HasOneOutcome}
pub use Rattle.lotos_grammar.specs.HandedOn.{ReadFault}
pub use Rattle.lotos_grammar.specs.HandedOn.read_faults
pub use Rattle.lotos_grammar.specs.Progress.{IsGathered, AsksInAll, FailsBy}
pub use Rattle.lotos_grammar.specs.ShelfUse.{ShelfState, GivesFile, IsFileOf, Gives, GivesAndLacks, GivesSome, calls_after}
pub use Rattle.lotos_grammar.specs.TextFault as text_fault
pub use Rattle.lotos_grammar.specs.TextFault.{TextFault, text_fault_of, TextIsMisread}
pub use Rattle.lotos_grammar.specs.declared.faults.LibraryFault.{LibraryFault}
pub use Rattle.lotos_grammar.specs.declared.faults.LibraryFault.TheVariants as library_faults
pub use Rattle.lotos_grammar.specs.declared.gathered.Gathered as gathered
pub use Rattle.lotos_grammar.specs.declared.gathered.Gathered.{Gathered as CodeGathered}
pub use Rattle.process_checks.specs.Calls.{call_sites_of, process_at, called_by, call_graph_of}
pub use Rattle.process_checks.specs.Exits.{Blames}
pub use Rattle.process_checks.specs.Functionality.{Functionality, Disagreement, all_disagreements, value_sort, variable_sort, declared_by}
pub use Rattle.process_checks.specs.Functionality.{of_either, of_both, functionality, are_same, at_sign, disagreements, at_definition}
pub use Rattle.process_checks.specs.Functionality.{of_definition, of_processes}
pub use Rattle.process_checks.specs.Graph.{IsFirstOnCycle, IsKeptCycle, LiesOnCycle, IsCallAt, CallsLead, CallStandsBefore, ComeNoLater}
pub use Rattle.process_checks.specs.Graph.{IsKeptWay}
pub use Rattle.process_checks.specs.Ranks.{AreRanksOf, IsSiteAt, IsUnguarded, RefusesRanks}
pub use Rattle.process_checks.specs.Ways.{CallsHaveCycle}
pub use Rattle.process_checks.specs.declared.calls.CallSite.{CallSite}
pub use Rattle.process_checks.specs.declared.mismatches.ExitFault.{ExitFault}
pub use Rattle.process_checks.specs.declared.mismatches.ExitFault.TheVariants as exit_faults
pub use Rattle.process_checks.specs.declared.rank_table.RankFault.{RankFault}
pub use Rattle.process_checks.specs.declared.rank_table.RankFault.TheVariants as rank_faults
pub use Rattle.process_checks.specs.declared.rank_table.Ranks.{Ranks}
pub use Rattle.scope_parts.specs.Definitions.{SpecificationIs}
pub use Rattle.scope_parts.specs.FaultView.{term_told, told_by, Told, nothing_told, never_told, told, OfTold, FaultIs}
pub use Rattle.scope_parts.specs.GateLists.{TextHasGateLists}
pub use Rattle.scope_parts.specs.Resolution.{resolved, faulty as resolution_faulty, Resolution}
pub use Rattle.scope_parts.specs.ScopeFault as scope_fault
pub use Rattle.scope_parts.specs.ScopeFault.{fault_place, refusal_place, ScopeFault as PlainScopeFault}
pub use Rattle.scope_parts.specs.declared.scope_faults.ScopeFault.{ScopeFault}
pub use Rattle.scope_parts.specs.declared.scope_faults.ScopeFault.TheVariants as scope_faults
