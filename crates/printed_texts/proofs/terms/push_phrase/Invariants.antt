use Rattle.std.proofs.Common.{◌≡◌, ◌++◌}
use Rattle.sort_terms.specs.SignatureView.{signature_of}
use Rattle.printed_texts.specs.KnownTwins.{AreKnownOf}
use Rattle.printed_texts.specs.Parts.{part_weights, written}
use Rattle.printed_texts.specs.TermText.{shown}
use Rattle.printed_texts.specs.TextView.{phrase_in}
use Rattle.printed_texts.specs.TwinsView.{known_at}
use Rattle.printed_texts.proofs.terms.push_phrase.Given as goal

-- with the parts that are left the text is the term's
abbrev pub invariant-loop-part : goal.invariant-loop-part
invariant-loop-part l = record {
  known : AreKnownOf (signature_of l.signature) (known_at l.twins);
  text : written l.signature l.names l.left.items l.into.items
      ≡ l.initial.into.items ++ shown l.is_operand (phrase_in l.signature l.names l.term);
}

abbrev pub decreases-loop-part : goal.decreases-loop-part
decreases-loop-part l = part_weights l.left.items
