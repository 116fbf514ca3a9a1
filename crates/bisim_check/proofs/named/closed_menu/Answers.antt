use Rattle.std.proofs.Common.{arith}
use Rattle.bisim_check.specs.Faults.{TellsPairs}
use Rattle.bisim_check.specs.Readings.{IsClosedOne, IsOpenFault}
use Rattle.bisim_check.proofs.AnswerLemmas.{each_below, place_within}
use Rattle.behaviour_semantics.proofs.EveryLemmas.{every_from}
use Rattle.lotos_base.proofs.Options.{gave_up}
use Rattle.menu_builder.specs.HandedOn.{menu_entries}
use Rattle.bisim_check.proofs.named.closed_menu.Goals as goal

pub returns-in_err-closed_at : goal.returns-in_err-closed_at
returns-in_err-closed_at c =
    gave_up _ (TellsPairs (IsOpenFault c.args.menu.now c.args.line)) c.from_residual.result c.in_err-closed_at.field-0.0
    c.from_residual.ensures.1 c.in_err-closed_at.ensures

pub loop-position-preserved : goal.loop-position-preserved
loop-position-preserved c =
    each_below IsClosedOne (menu_entries c.args.menu.now) c.loop-position.position c.loop-position.invariant c.in_ok-closed_at.ensures

pub returns : goal.returns
returns c =
    let entries = (menu_entries c.args.menu.now) in
    every_from IsClosedOne entries (λ k entry there. c.loop-position.invariant k entry
    (omega (arith, place_within entries k entry there, c.len-position-end.ensures)) there)
