use Rattle.menu_parts.proofs.makers.PartMenus.open.Goals as goal

pub returns : goal.returns
returns c = λ data_ canon. record { least = c.in_ok-least.ensures.above; kept = tt }
