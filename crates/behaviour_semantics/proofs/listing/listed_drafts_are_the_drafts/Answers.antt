use Rattle.behaviour_semantics.proofs.ListedDrafts.{sound_drafts, complete_drafts, drafts_rise}
use Rattle.behaviour_semantics.proofs.listing.listed_drafts_are_the_drafts.Goals as goal

pub returns : goal.returns
returns c = record {
  sound = λ data_ canon processes depth b. sound_drafts data_ canon processes b depth;
  complete = λ data_ canon processes depth b. complete_drafts data_ canon processes b depth;
  rising = λ data_ canon processes depth b. drafts_rise data_ canon processes b depth;
}
