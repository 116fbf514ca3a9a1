use Rattle.lotos_base.specs.WrittenView.{listed_operation_of}
use Rattle.sort_terms.specs.SignatureView.{signature_of}
use Rattle.path_order.proofs.ItemLemmas.{AreFound}
use Rattle.path_order.proofs.items.listed_by.Given as goal

abbrev pub invariant-loop-k : goal.invariant-loop-k
invariant-loop-k l = AreFound (signature_of l.signature) (listed_operation_of l.item) l.numbers l.found.items l.k
