use Rattle.std.proofs.Common.{sym, subst}
use Rattle.std.specs.Prelude.{IfSome}
use Rattle.menu_parts.specs.KeptMenus.{IsKept}
use Rattle.menu_parts.proofs.parts.going_on.Goals as goal

pub returns-then-vanishes : goal.returns-then-vanishes
returns-then-vanishes c = λ basis h.
    c.first.ensures basis (subst (IsKept basis) (sym c.deref-then-vanishes.ensures)
    (subst (λ o. IfSome o (λ k. IsKept basis k.now.value)) c.in-Some.is h))

pub returns-else-vanishes : goal.returns-else-vanishes
returns-else-vanishes c = λ basis h. subst (λ o. IfSome o (λ k. IsKept basis k.now.value)) c.in-Some.is h
