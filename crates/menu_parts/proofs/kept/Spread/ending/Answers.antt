use Rattle.std.proofs.Common.{sym, subst}
use Rattle.menu_parts.specs.KeptMenus.{AreKeptBelow}
use Rattle.menu_parts.specs.Spread.{NoneEnds, spread_menu}
use Rattle.menu_parts.specs.declared.kept.Spread.{Spread}
use Rattle.menu_parts.proofs.SpreadKept.{both_none, under_none}
use Rattle.menu_parts.proofs.kept.Spread.ending.Goals as goal

pub returns-in-Under-clause-none_ends : goal.returns-in-Under-clause-none_ends
returns-in-Under-clause-none_ends c = λ basis way h.
    subst (λ (s : Spread). NoneEnds (spread_menu s)) (sym c.in-Under.is)
    (under_none basis way c.in-Under.field-0 c.in-Under.field-1 (subst (AreKeptBelow basis way) c.in-Under.is h))

pub returns-in-Both-clause-none_ends : goal.returns-in-Both-clause-none_ends
returns-in-Both-clause-none_ends c = λ basis way h.
    subst (λ (s : Spread). NoneEnds (spread_menu s)) (sym c.in-Both.is) (both_none c.in-Both.field-0 c.in-Both.field-1 c.in-Both.field-2)
