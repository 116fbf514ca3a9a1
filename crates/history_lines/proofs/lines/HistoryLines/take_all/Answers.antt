use Rattle.std.proofs.Common.{arith}
use Rattle.history_lines.proofs.StayLemmas.{stays}
use Rattle.history_lines.proofs.lines.HistoryLines.take_all.Goals as goal

pub replay-requires-clause-short : goal.replay-requires-clause-short
replay-requires-clause-short g c = omega (arith, c.requires.short)

pub returns-clause-stays : goal.returns-clause-stays
returns-clause-stays g c =
    stays g.M.MenuMaker.suits c.args.self.now c.replay.new.self c.replay.new.data c.requires.serving c.replay.ensures.same_known.same_data
    c.replay.ensures.same_known.same_canon c.replay.ensures.same_spec c.replay.ensures.lawful_after
