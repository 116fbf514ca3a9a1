use Rattle.std.proofs.Common.{sym}
use Rattle.session_log.proofs.EntryLemmas.{unmet_told}
use Rattle.session_log.proofs.entries.unmet_refusal.Goals as goal

pub unmet-requires-clause-values : goal.unmet-requires-clause-values
unmet-requires-clause-values g c = record { sorted = c.requires.sorted; terms = c.requires.given.terms }

pub unreachable-requires : goal.unreachable-requires
unreachable-requires g c =
    c.requires.unmet (record { sorted = c.requires.sorted; met = c.in_ok-left.ensures.met c.in-None.is })

pub returns-clause-told : goal.returns-clause-told
returns-clause-told g c =
    unmet_told (g.D.Deciding.known_data c.args.data.now).signature (g.D.Deciding.canon c.args.data.now) c.args.entry.now
    c.args.values.now _ c.requires.sorted (sym (rw c.in-Some.is at c.in_ok-left.ensures.first))
