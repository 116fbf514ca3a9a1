use Rattle.sort_terms.specs.ReaderView.{signature_read}
use Rattle.sort_terms.specs.ScopeView.{variables_in}
use Rattle.sort_terms.proofs.ReadingLemmas.{none_read, two_read, one_built, one_read}
use Rattle.sort_terms.proofs.UnknownLemmas.{found_none}
use Rattle.sort_terms.proofs.reader.Reader.read_in.Goals as goal

pub returns-in-Nothing-clause-refused : goal.returns-in-Nothing-clause-refused
returns-in-Nothing-clause-refused c =
    none_read (signature_read c.args.self.now) (variables_in c.args.scope.now) c.args.written.now _ c.args.expected
    (found_none _ c.in_ok-fault.field-0 c.in_default.is c.in_ok-fault.ensures) c.in_ok-counted.ensures c.in-Nothing.ensures

pub returns-in-Several-clause-refused : goal.returns-in-Several-clause-refused
returns-in-Several-clause-refused c =
    two_read (signature_read c.args.self.now) (variables_in c.args.scope.now) c.args.written.now _ c.args.expected
    (found_none _ c.in_ok-fault.field-0 c.in_default.is c.in_ok-fault.ensures) c.in_ok-counted.ensures c.in-Several.ensures

pub only_reading-requires : goal.only_reading-requires
only_reading-requires c =
    one_built (signature_read c.args.self.now) (variables_in c.args.scope.now) c.requires c.args.written.now _ c.args.expected c.in-One.sort
    c.in_ok-counted.ensures c.in-One.ensures

pub returns-clause-read : goal.returns-clause-read
returns-clause-read c =
    one_read (signature_read c.args.self.now) (variables_in c.args.scope.now) c.requires c.args.written.now _ c.args.expected c.in-One.sort
    (found_none _ c.in_ok-fault.field-0 c.in_default.is c.in_ok-fault.ensures) c.in_ok-counted.ensures c.in-One.ensures
    c.in_ok-only_reading-in-One.field-0 c.in_ok-only_reading-in-One.ensures
