use Rattle.sort_terms.specs.SignatureView.{signature_of}
use Rattle.direct_steps.proofs.makers.below.Goals as goal

pub grown-requires : goal.grown-requires
grown-requires c = c.requires.known.1.closed

pub entries-requires-clause-signature : goal.entries-requires-clause-signature
entries-requires-clause-signature c = c.requires.known.1.well_formed.signature

pub entries-requires-clause-over : goal.entries-requires-clause-over
entries-requires-clause-over c = c.requires.known.1.over

pub entries-requires-clause-ranks : goal.entries-requires-clause-ranks
entries-requires-clause-ranks c = c.requires.known.1.ranks_are

pub entries-requires-clause-state : goal.entries-requires-clause-state
entries-requires-clause-state c =
    c.in_ok-state.ensures.lawful (signature_of c.args.accepted.now.book.flat.signature) c.args.accepted.now.spec c.requires.known.1.state

pub entries-requires-clause-closed : goal.entries-requires-clause-closed
entries-requires-clause-closed c = c.in_ok-state.ensures.closed
