-- The union of mentions, one after another.
use Rattle.std.proofs.Common.{◌≡◌, List, [], ◌∷◌, sym, subst}
use Rattle.std.specs.Prelude.{Some}
use Rattle.type_definitions.proofs.HoldsLemmas.{holds_weaker}
use Rattle.type_definitions.proofs.WalkLemmas.{Walking, begins, goes, fails, ends}
use Rattle.type_definitions.specs.declared.type_faults.TypeFault.{TypeFault as CodeFault}
use Rattle.type_definitions.specs.TypeFault.{TypeFault}
use Rattle.type_definitions.specs.Presentation.{Presentation, nothing}
use Rattle.type_definitions.specs.Union.{Mentioned, with_mentioned, mention_fault, union_fault}
use Rattle.type_presentations.specs.PresentationView.{IsSound, IsWithinLimits, presentation_of}
use Rattle.type_presentations.specs.declared.presentations.Presentation.{Presentation as CodePresentation}
use Rattle.type_presentations.specs.UnionMade.{IsJoined, IsJoinFault, IsUnited, IsUnionFault}

-- The presentation of the code is sound, and what has come with the rest comes to what all come to.
pub record IsOnTheWay (p : CodePresentation) (rest all : List Mentioned) : Type 0 where
  pub sound : IsSound p
  pub within : IsWithinLimits p
  pub walking : Walking mention_fault with_mentioned nothing (presentation_of p) rest all

pub at_the_start : (p : CodePresentation) (all : List Mentioned) → IsSound p → IsWithinLimits p → presentation_of p ≡ nothing
    → IsOnTheWay p all all
at_the_start p all sound within is = record {
  sound = sound;
  within = within;
  walking = subst (λ (s : Presentation). Walking mention_fault with_mentioned nothing s all all) (sym is)
      (begins mention_fault with_mentioned nothing all);
}

-- a mention that was joined
pub joined_next : (p new : CodePresentation) (m : Mentioned) (due rest all : List Mentioned) → IsOnTheWay p due all
    → due ≡ m ∷ rest → IsJoined (presentation_of p) m new → IsOnTheWay new rest all
joined_next p new m due rest all way is joined = record {
  sound = joined.sound;
  within = joined.within;
  walking = goes mention_fault with_mentioned nothing (presentation_of p) (presentation_of new) due rest all m way.walking is joined.none
      joined.made;
}

-- a mention that was refused
pub refused_next : (p : CodePresentation) (m : Mentioned) (due rest all : List Mentioned) (fault : CodeFault) → IsOnTheWay p due all
    → due ≡ m ∷ rest → IsJoinFault (presentation_of p) m fault → IsUnionFault all fault
refused_next p m due rest all fault way is refused = record {
  found = holds_weaker (λ (f : TypeFault). mention_fault (presentation_of p) m ≡ Some f)
      (λ (f : TypeFault). union_fault all ≡ Some f) fault
      (λ (f : TypeFault) found.
      fails mention_fault with_mentioned nothing (presentation_of p) due rest all m f way.walking is found)
      refused.found;
}

-- all mentions
pub all_united : (p : CodePresentation) (rest all : List Mentioned) → IsOnTheWay p rest all → rest ≡ [] → IsUnited all p
all_united p rest all way none =
    let both = ends mention_fault with_mentioned nothing (presentation_of p) rest all way.walking none in
    record { none = both.0; made = both.1; sound = way.sound; within = way.within }
