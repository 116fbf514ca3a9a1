use Rattle.std.specs.Prelude.{◌↔◌, map}
use Rattle.lotos_base.specs.Name.{spelling}
use Rattle.sort_terms.specs.SignatureView.{signature_of}
use Rattle.path_order.specs.Listed.{AreSortsNamed}
use Rattle.path_order.proofs.SuitLemmas.{AreLeftNamed}
use Rattle.path_order.proofs.suiting.are_named.Given as goal

abbrev pub invariant-loop-i : goal.invariant-loop-i
invariant-loop-i l =
    AreLeftNamed (signature_of l.signature) l.sorts l.names l.i ↔ AreSortsNamed (signature_of l.signature) l.sorts (map spelling l.names)
