use Rattle.sort_terms.specs.SignatureView.{signature_of}
use Rattle.syntax_trees.specs.TreeViews.{written_specification_of as written_specification}
use Rattle.static_scope.proofs.FirstLemmas.{first_told, none_told}
use Rattle.static_scope.proofs.resolving.resolve.Goals as goal

pub returns-clause-first : goal.returns-clause-first
returns-clause-first c = λ rise.
    first_told (signature_of c.args.flat.now.signature) (written_specification c.args.text.now) c.specification.result rise
    c.specification.ensures.read

pub returns-clause-faultless : goal.returns-clause-faultless
returns-clause-faultless c = λ rise.
    none_told (signature_of c.args.flat.now.signature) (written_specification c.args.text.now) c.specification.result rise
    c.specification.ensures.read
