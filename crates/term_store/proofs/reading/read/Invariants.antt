use Rattle.std.proofs.Common.{◌≡◌, [], ◌∷◌}
use Rattle.sort_terms.specs.MadeTerms.{made_of}
use Rattle.path_order.specs.RulesView.{signature_in}
use Rattle.term_store.specs.Made.{AreMadeOf, all_made, making_turns_of}
use Rattle.term_store.specs.Numbered.{term_at}
use Rattle.term_store.specs.SharedView.{keys_in}
use Rattle.term_store.proofs.reading.read.Given as goal

-- when all is done the term is made
abbrev pub invariant-loop-next : goal.invariant-loop-next
invariant-loop-next l = record {
  same : all_made (signature_in l.rules) (keys_in l.shared) l.left.items (made_of l.made.items)
      ≡ term_at (signature_in l.rules) (keys_in l.shared) l.number ∷ [];
  within : AreMadeOf (keys_in l.shared) l.left.items;
}

abbrev pub decreases-loop-next : goal.decreases-loop-next
decreases-loop-next l = making_turns_of (signature_in l.rules) (keys_in l.shared) l.left.items
