use Rattle.std.proofs.Common.{drop}
use Rattle.lotos_base.specs.Signature.{Signature}
use Rattle.behaviour_semantics.specs.WellFormed.{Every}
use Rattle.shared_entries.specs.Items.{HasItemTerms}
use Rattle.shared_entries.specs.Rules.{entry_made_by}
use Rattle.shared_entries.proofs.ItemLemmas.{IsHalfMade}
use Rattle.shared_entries.proofs.rules.PartRule.apply_to_all.Given as goal

abbrev pub invariant-loop-item : goal.invariant-loop-item
invariant-loop-item l =
    (signature : Signature) → Every (HasItemTerms signature) l.item-items
    → IsHalfMade signature (entry_made_by signature l.self) l.item-items (drop l.item-index l.item-items) l.made.items
