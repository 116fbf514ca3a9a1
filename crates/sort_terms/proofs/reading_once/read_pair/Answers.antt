use Rattle.sort_terms.specs.ReaderView.{signature_read}
use Rattle.sort_terms.specs.ScopeView.{variables_in}
use Rattle.sort_terms.specs.SignatureView.{signature_of}
use Rattle.sort_terms.proofs.ReadsLemmas.{scope_over}
use Rattle.sort_terms.proofs.reading_once.read_pair.Goals as goal

pub read_pair-requires : goal.read_pair-requires
read_pair-requires c =
    scope_over (signature_of c.args.signature.now) (signature_read c.in_ok-reader.reader) _ (variables_in c.in_ok-scope.scope)
    c.in_ok-reader.ensures c.in_ok-scope.ensures c.requires
