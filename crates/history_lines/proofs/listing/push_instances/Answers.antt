use Rattle.std.proofs.lemmas.Result.{on_ok_weaker}
use Rattle.session_log.specs.HandedOn.{entries_in, book_canon}
use Rattle.session_log.proofs.EntryLemmas.{entry_over, entry_there}
use Rattle.session_log.specs.CourseView.{basis_over}
use Rattle.sort_terms.specs.EquationView.{data_of}
use Rattle.history_lines.proofs.ListingLemmas.{no_entry_added}
use Rattle.history_lines.proofs.listing.push_instances.Goals as goal

pub returns-in-None-clause-added : goal.returns-in-None-clause-added
returns-in-None-clause-added c =
    on_ok_weaker c.push_no_entry.result
    (λ added.
    no_entry_added (basis_over (data_of c.args.book.now.flat) (book_canon c.args.book.now) c.args.spec.now) c.args.menu.now c.args.number
    c.args.size c.len.result c.args.into.now.items c.push_no_entry.new.into.items c.in-None.ensures c.len.ensures added)
    c.push_no_entry.ensures

pub push_instances_of-requires-clause-over : goal.push_instances_of-requires-clause-over
push_instances_of-requires-clause-over c =
    entry_over (data_of c.args.book.now.flat).signature c.args.menu.now c.args.number c.in-Some.entry.now c.requires.menu
    c.in-Some.ensures

pub returns-in-Some-clause-added : goal.returns-in-Some-clause-added
returns-in-Some-clause-added c =
    c.push_instances_of.ensures.added (entries_in c.args.menu.now)
    (entry_there c.args.menu.now c.args.number c.in-Some.entry.now c.in-Some.ensures)
