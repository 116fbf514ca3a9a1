use Rattle.std.proofs.Common.{MatchResult, sym, subst}
use Rattle.std.proofs.lemmas.Result.{MatchResult-weaker}
use Rattle.behaviour_semantics.specs.Behaviour.{stop}
use Rattle.certificate_theory.specs.NamedStates.{NamesNoState, LineIsRead, LineFails}
use Rattle.bisim_check.specs.Faults.{TellsPairs}
use Rattle.bisim_check.specs.LineView.{line_of}
use Rattle.bisim_check.specs.Readings.{comparison_of, reading_of}
use Rattle.bisim_check.specs.Surveys.{behaviours_in, side_over}
use Rattle.bisim_check.specs.declared.lines.PairLine.{PairLine}
use Rattle.bisim_check.proofs.ReadingLemmas.{left_told, right_told, left_kept, right_kept, second_told}
use Rattle.bisim_check.proofs.named.read_line.Goals as goal

pub returns-in-Left-clause-read : goal.returns-in-Left-clause-read
returns-in-Left-clause-read g c = λ b d.
    left_told (g.D.Deciding.known_data c.args.data.now) (g.D.Deciding.canon c.args.data.now) c.args.left.now.spec.now
    c.args.right.now.spec.now b d c.args.reading.now c.requires.kept c.add_state.result c.add_state.new.states c.args.line.now
    c.args.number c.in-Left.from c.in-Left.entry c.in-Left.is c.add_state.ensures.added

pub returns-in-Left-clause-kept_after : goal.returns-in-Left-clause-kept_after
returns-in-Left-clause-kept_after g c =
    let known = g.D.Deciding.known_data c.args.data.now in
    let canon = g.D.Deciding.canon c.args.data.now in
    left_kept known canon c.args.left.now.spec.now c.args.right.now.spec.now c.args.reading.now c.requires.kept c.add_state.result
    c.add_state.new.states c.in-Left.from c.in-Left.entry
    (TellsPairs (NamesNoState (side_over known canon c.args.left.now.spec.now) (behaviours_in c.args.reading.now.lefts.items)
    c.in-Left.from c.in-Left.entry c.args.number)) c.add_state.ensures.added c.add_state.ensures.surveyed_after

pub returns-in-Right-clause-read : goal.returns-in-Right-clause-read
returns-in-Right-clause-read g c = λ b d.
    right_told (g.D.Deciding.known_data c.args.data.now) (g.D.Deciding.canon c.args.data.now) c.args.left.now.spec.now
    c.args.right.now.spec.now b d c.args.reading.now c.requires.kept c.add_state-in-Right.result c.add_state-in-Right.new.states
    c.args.line.now c.args.number c.in-Right.from c.in-Right.entry c.in-Right.is c.add_state-in-Right.ensures.added

pub returns-in-Right-clause-kept_after : goal.returns-in-Right-clause-kept_after
returns-in-Right-clause-kept_after g c =
    let known = g.D.Deciding.known_data c.args.data.now in
    let canon = g.D.Deciding.canon c.args.data.now in
    right_kept known canon c.args.left.now.spec.now c.args.right.now.spec.now c.args.reading.now c.requires.kept
    c.add_state-in-Right.result c.add_state-in-Right.new.states c.in-Right.from c.in-Right.entry
    (TellsPairs (NamesNoState (side_over known canon c.args.right.now.spec.now) (behaviours_in c.args.reading.now.rights.items)
    c.in-Right.from c.in-Right.entry c.args.number)) c.add_state-in-Right.ensures.added
    c.add_state-in-Right.ensures.surveyed_after

pub returns-in-Pair-clause-read : goal.returns-in-Pair-clause-read
returns-in-Pair-clause-read g c = λ b d.
    let known = g.D.Deciding.known_data c.args.data.now in
    let canon = g.D.Deciding.canon c.args.data.now in
    let left = c.args.left.now.spec.now in
    let right = c.args.right.now.spec.now in
    subst (λ (it : PairLine). MatchResult c.add_pair.result (λ _. LineIsRead (comparison_of known canon left right b d)
    (reading_of c.args.reading.now) c.args.number (line_of it) (reading_of c.add_pair.new.reading))
    (TellsPairs (LineFails (comparison_of known canon left right b d) (reading_of c.args.reading.now) c.args.number (line_of it))))
    (sym c.in-Pair.is)
    (MatchResult-weaker c.add_pair.result (c.add_pair.ensures known canon left right b d c.requires.kept) (λ _ h. h.0) (λ _ h. h))

pub returns-in-Pair-clause-kept_after : goal.returns-in-Pair-clause-kept_after
returns-in-Pair-clause-kept_after g c =
    let known = g.D.Deciding.known_data c.args.data.now in
    let canon = g.D.Deciding.canon c.args.data.now in
    second_told _ _ c.add_pair.result _
    (c.add_pair.ensures known canon c.args.left.now.spec.now c.args.right.now.spec.now stop stop c.requires.kept)
