use Rattle.std.proofs.Common.{subst}
use Rattle.menu_parts.specs.KeptMenus.{IsKept}
use Rattle.menu_parts.proofs.kept.Kept.listed.Goals as goal

pub returns-in-Whole-clause-kept : goal.returns-in-Whole-clause-kept
returns-in-Whole-clause-kept c = λ basis h. subst (IsKept basis) c.in-Whole.is h

pub returns-in-One-clause-kept : goal.returns-in-One-clause-kept
returns-in-One-clause-kept c = λ basis h. (subst (IsKept basis) c.in-One.is h).0

pub returns-in-Two-clause-kept : goal.returns-in-Two-clause-kept
returns-in-Two-clause-kept c = λ basis h. (subst (IsKept basis) c.in-Two.is h).0
