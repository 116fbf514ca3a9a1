use Rattle.std.proofs.Common.{◌≡◌, ◌++◌, drop}
use Rattle.event_offers.specs.HandedOn.{terms_of}
use Rattle.sort_terms.specs.SignatureView.{signature_of}
use Rattle.printed_texts.specs.MenuText.{values_text}
use Rattle.printed_texts.proofs.labels.push_values.Given as goal

-- the values so far are written
abbrev pub invariant-loop-value : goal.invariant-loop-value
invariant-loop-value l =
    l.into.items ++ values_text (signature_of l.signature) (terms_of (drop l.value-index l.value-items))
    ≡ l.initial.into.items ++ values_text (signature_of l.signature) (terms_of l.value-items)
