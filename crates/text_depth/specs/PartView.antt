-- The plain value of what the code keeps of a part.
use Rattle.ll_engine.specs.Run.{from_last}
use Rattle.lotos_base.specs.WrittenView.{text_place_of}
use Rattle.syntax_trees.specs.FirstsView.{firsts_of}
use Rattle.text_depth.specs.DepthPart.{DepthPart}
use Rattle.text_depth.specs.declared.part.KeptPart.{KeptPart}

abbrev pub kept_of : KeptPart → DepthPart
kept_of part = record {
  names = from_last text_place_of part.names.items;
  firsts = firsts_of part.firsts;
  operands = from_last firsts_of part.operands.items;
  strengths = from_last (λ strength. strength) part.strengths.items;
}
