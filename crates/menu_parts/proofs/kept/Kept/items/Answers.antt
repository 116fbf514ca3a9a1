use Rattle.std.proofs.Common.{ap}
use Rattle.menu_parts.specs.declared.kept.Listed.{Listed}
use Rattle.menu_parts.proofs.kept.Kept.items.Goals as goal

pub returns : goal.returns
returns c = ap (λ (l : Listed). l.items) c.listed.ensures.same
