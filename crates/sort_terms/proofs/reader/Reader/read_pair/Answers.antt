use Rattle.lotos_base.specs.WrittenView.{written_term_of}
use Rattle.sort_terms.specs.ChoicesView.{choice_at}
use Rattle.sort_terms.specs.ReaderView.{signature_read}
use Rattle.sort_terms.specs.ScopeView.{variables_in}
use Rattle.sort_terms.specs.TableView.{table_of}
use Rattle.sort_terms.proofs.PairLemmas.{pairs_of, no_pair, two_pairs, one_common, side_built, one_pair}
use Rattle.sort_terms.proofs.UnknownLemmas.{found_none}
use Rattle.sort_terms.proofs.reader.Reader.read_pair.Goals as goal

pub returns-in-Nothing-clause-refused : goal.returns-in-Nothing-clause-refused
returns-in-Nothing-clause-refused c =
    no_pair (signature_read c.args.self.now) (variables_in c.args.scope.now) c.args.left.now c.args.right.now
    (table_of c.in_ok-one.one) (table_of c.in_ok-other.other) (choice_at c.in_ok-common.common)
    (found_none _ c.in_ok-fault.field-0 c.in_default.is c.in_ok-fault.ensures)
    (found_none _ c.in_ok-behind.field-0 c.in_default-2.is c.in_ok-behind.ensures)
    (pairs_of (signature_read c.args.self.now) (variables_in c.args.scope.now) (written_term_of c.args.left.now)
    (written_term_of c.args.right.now) c.in_ok-one.one c.in_ok-other.other
    (choice_at c.in_ok-common.common) c.in_ok-one.ensures c.in_ok-other.ensures c.in_ok-common.ensures) c.in-Nothing.ensures

pub returns-in-Several-clause-refused : goal.returns-in-Several-clause-refused
returns-in-Several-clause-refused c =
    two_pairs (signature_read c.args.self.now) (variables_in c.args.scope.now) c.args.left.now c.args.right.now
    (table_of c.in_ok-one.one) (table_of c.in_ok-other.other) (choice_at c.in_ok-common.common)
    (found_none _ c.in_ok-fault.field-0 c.in_default.is c.in_ok-fault.ensures)
    (found_none _ c.in_ok-behind.field-0 c.in_default-2.is c.in_ok-behind.ensures)
    (pairs_of (signature_read c.args.self.now) (variables_in c.args.scope.now) (written_term_of c.args.left.now)
    (written_term_of c.args.right.now) c.in_ok-one.one c.in_ok-other.other
    (choice_at c.in_ok-common.common) c.in_ok-one.ensures c.in_ok-other.ensures c.in_ok-common.ensures) c.in-Several.ensures

pub only_reading-requires : goal.only_reading-requires
only_reading-requires c =
    let one = one_common (signature_read c.args.self.now) (variables_in c.args.scope.now) (written_term_of c.args.left.now)
    (written_term_of c.args.right.now)
    (table_of c.in_ok-one.one) (table_of c.in_ok-other.other) (choice_at c.in_ok-common.common) c.in-One.sort
    (pairs_of (signature_read c.args.self.now) (variables_in c.args.scope.now) (written_term_of c.args.left.now)
    (written_term_of c.args.right.now) c.in_ok-one.one c.in_ok-other.other
    (choice_at c.in_ok-common.common) c.in_ok-one.ensures c.in_ok-other.ensures c.in_ok-common.ensures) c.in-One.ensures in
    side_built (signature_read c.args.self.now) (variables_in c.args.scope.now) c.requires (written_term_of c.args.left.now)
    (table_of c.in_ok-one.one) c.in-One.sort one.left
    c.in_ok-one.ensures one.only_left

pub only_reading-requires-in-One : goal.only_reading-requires-in-One
only_reading-requires-in-One c =
    let one = one_common (signature_read c.args.self.now) (variables_in c.args.scope.now) (written_term_of c.args.left.now)
    (written_term_of c.args.right.now)
    (table_of c.in_ok-one.one) (table_of c.in_ok-other.other) (choice_at c.in_ok-common.common) c.in-One.sort
    (pairs_of (signature_read c.args.self.now) (variables_in c.args.scope.now) (written_term_of c.args.left.now)
    (written_term_of c.args.right.now) c.in_ok-one.one c.in_ok-other.other
    (choice_at c.in_ok-common.common) c.in_ok-one.ensures c.in_ok-other.ensures c.in_ok-common.ensures) c.in-One.ensures in
    side_built (signature_read c.args.self.now) (variables_in c.args.scope.now) c.requires (written_term_of c.args.right.now)
    (table_of c.in_ok-other.other) c.in-One.sort one.right
    c.in_ok-other.ensures one.only_right

pub returns-clause-read : goal.returns-clause-read
returns-clause-read c =
    one_pair (signature_read c.args.self.now) (variables_in c.args.scope.now) c.requires c.args.left.now c.args.right.now
    (table_of c.in_ok-one.one) (table_of c.in_ok-other.other) (choice_at c.in_ok-common.common) c.in-One.sort
    (found_none _ c.in_ok-fault.field-0 c.in_default.is c.in_ok-fault.ensures)
    (found_none _ c.in_ok-behind.field-0 c.in_default-2.is c.in_ok-behind.ensures)
    (pairs_of (signature_read c.args.self.now) (variables_in c.args.scope.now) (written_term_of c.args.left.now)
    (written_term_of c.args.right.now) c.in_ok-one.one c.in_ok-other.other
    (choice_at c.in_ok-common.common) c.in_ok-one.ensures c.in_ok-other.ensures c.in_ok-common.ensures) c.in-One.ensures
    c.in_ok-first-in-One.first c.in_ok-second-in-One.second
    c.in_ok-first-in-One.ensures c.in_ok-second-in-One.ensures
