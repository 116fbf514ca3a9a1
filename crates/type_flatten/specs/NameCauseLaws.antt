-- The fault of the names of types comes exactly where its cause stands, and the first cause counts.
use Rattle.std.specs.Prelude.{◌↔◌, List}
use Rattle.type_definitions.specs.DeclaredTypes.{DeclaredType, mention_graph}
use Rattle.type_definitions.specs.MentionFaults.{MentionFault, IsMentionFault, AreDeclaredOnce, AreAllKnown}
use Rattle.type_definitions.specs.TypeGraph.{IsAcyclic}
use Rattle.type_flatten.specs.FirstCause.{IsNowhere}
use Rattle.type_flatten.specs.NameCauses.{NamesBring}

pub record NamesAreFaultyWhereCaused : Type 0 where
  pub faulty : (types : List DeclaredType) (fault : MentionFault) → IsMentionFault types fault ↔ NamesBring types fault
  -- the names have no fault where no cause stands
  pub fine :
      (types : List DeclaredType) →
      (AreDeclaredOnce types × AreAllKnown types × IsAcyclic (mention_graph types)) ↔ IsNowhere (NamesBring types)
