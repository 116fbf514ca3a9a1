use Rattle.std.proofs.Common.{subst}
use Rattle.menu_parts.specs.KeptMenus.{IsKept}
use Rattle.menu_parts.proofs.kept.Kept.second.Goals as goal

pub returns-in-Two : goal.returns-in-Two
returns-in-Two c = λ basis h. (subst (IsKept basis) c.in-Two.is h).2
