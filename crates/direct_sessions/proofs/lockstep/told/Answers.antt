use Rattle.std.proofs.Common.{◌∙◌}
use Rattle.direct_sessions.proofs.lockstep.told.Goals as goal

pub served-requires : goal.served-requires
served-requires g c = record {
  shown = c.requires.over;
  read = c.in_ok-reader.ensures ∙ c.requires.over;
  lawful = c.requires.lawful;
}
