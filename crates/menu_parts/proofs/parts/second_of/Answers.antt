use Rattle.std.proofs.Common.{sym, subst}
use Rattle.std.specs.Prelude.{IfSome}
use Rattle.menu_parts.specs.KeptMenus.{IsKept}
use Rattle.menu_parts.proofs.parts.second_of.Goals as goal

pub returns-in-Some : goal.returns-in-Some
returns-in-Some c = λ basis h.
    c.second.ensures basis (subst (IsKept basis) (sym c.deref.ensures)
    (subst (λ o. IfSome o (λ k. IsKept basis k.now.value)) c.in-Some.is h))
