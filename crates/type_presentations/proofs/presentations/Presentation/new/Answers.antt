use Rattle.type_presentations.proofs.SignatureLemmas.{nothing_in, no_sides}
use Rattle.type_presentations.proofs.presentations.Presentation.new.Goals as goal

pub returns-clause-sound : goal.returns-clause-sound
returns-clause-sound c = record {
  sorts = c.new.ensures.keyed;
  ops = c.new-2.ensures.keyed;
  equations = c.new-3.ensures.keyed;
  formal_sorts = c.new-4.ensures.known;
  formal_ops = c.new-5.ensures.known;
  sides = no_sides _ _ c.new-3.ensures.equations;
  data_ = nothing_in _ _ _ c.new.ensures.members c.new-2.ensures.members c.new-3.ensures.equations;
}
