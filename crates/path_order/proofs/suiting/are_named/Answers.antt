use Rattle.sort_terms.specs.SignatureView.{signature_of}
use Rattle.path_order.proofs.SuitLemmas.{lengths_named}
use Rattle.path_order.proofs.suiting.are_named.Goals as goal

pub returns-then-sorts-names : goal.returns-then-sorts-names
returns-then-sorts-names c = (
  (λ t. cc),
  (λ h. absurd (c.if-sorts-names.true (lengths_named (signature_of c.args.signature.now) c.args.sorts.now c.args.names.now h))),
)
