use Rattle.std.proofs.Common.{sym, subst}
use Rattle.step_taker.specs.Rows.{relabelling_row}
use Rattle.step_taker.specs.Taken.{setting_on}
use Rattle.step_taker.proofs.ThereLemmas.{memory_walked}
use Rattle.behaviour_semantics.specs.Behaviour.{Relabelling}
use Rattle.step_taker.specs.Stands.{HasRow}
use Rattle.step_taker.proofs.targets.in_call.Goals as goal

pub relabelled-requires : goal.relabelled-requires
relabelled-requires c =
    c.requires

pub returns-in_err-pairs : goal.returns-in_err-pairs
returns-in_err-pairs c =
    λ ground leaves whole part at has below given m. memory_walked ground leaves whole c.from_residual.result c.from_residual.ensures.1

pub returns : goal.returns
returns c =
    λ ground leaves whole part at has below given m.
    c.relabelled.ensures ground leaves whole part at (subst (λ (pairs : Relabelling). HasRow (setting_on ground) leaves whole part
    (relabelling_row pairs)) (sym c.in_ok-pairs.ensures) has) below given m
