use Rattle.std.proofs.Common.{◌≤◌, [], length, refl, ap, arith}
use Rattle.line_server.specs.Request.{take_step, undo, save, replay, show_normal, compare, show_menu, show_behaviour, show_trace, no_request, skip, leave, list_values, list_instances}
use Rattle.line_server.specs.RequestView.{wants}
use Rattle.history_lines.specs.Standing.{shown_menu, state_line, shown_trace}
use Rattle.history_lines.specs.ShelfAnswer.{refusal_in}
use Rattle.history_lines.specs.CommandRefusal.{ill_formed}
use Rattle.session_log.specs.HandedOn.{bad_command}
use Rattle.history_lines.specs.LinesView.{basis_of, reached, standing_of}
use Rattle.history_lines.specs.Serving.{moment_of}
use Rattle.history_lines.proofs.ServingLemmas.{for_request, said_alone, said_values, left_alone, carried}
use Rattle.history_lines.proofs.CallLemmas.{called, calls_alike}
use Rattle.history_lines.proofs.lines.HistoryLines.answer.Goals as goal

pub step_line-requires-clause-short : goal.step_line-requires-clause-short
step_line-requires-clause-short g c =
    let h : length c.in-Step.terms.now ≤ c.requires.short.0 =
    carried c.requires.short.0 (take_step c.in-Step.number c.in-Step.terms.now) (wants c.args.request) (ap wants c.in-Step.is)
    c.requires.short.2 in
    omega (arith, h, c.requires.short.1)

pub normal_line-requires-clause-short : goal.normal_line-requires-clause-short
normal_line-requires-clause-short g c =
    let h : length c.in-Normal.terms.now ≤ c.requires.short.0 =
    carried c.requires.short.0 (show_normal c.in-Normal.terms.now) (wants c.args.request) (ap wants c.in-Normal.is) c.requires.short.2 in
    omega (arith, h, c.requires.short.1)

pub equal_line-requires-clause-short : goal.equal_line-requires-clause-short
equal_line-requires-clause-short g c =
    let h : length c.in-Equal.terms.now ≤ c.requires.short.0 =
    carried c.requires.short.0 (compare c.in-Equal.terms.now) (wants c.args.request) (ap wants c.in-Equal.is) c.requires.short.2 in
    omega (arith, h, c.requires.short.1)

pub returns-in-Step-clause-answered : goal.returns-in-Step-clause-answered
returns-in-Step-clause-answered g c =
    let texts = (g.F.Shelf.state c.args.shelf.now).texts in
    let faults = (g.F.Shelf.state c.args.shelf.now).faults in
    for_request c.step_line.result (moment_of (standing_of c.args.self.now texts) faults)
    (moment_of (standing_of c.step_line.new.self texts) faults) (λ line. line.items)
    (take_step c.in-Step.number c.in-Step.terms.now) (wants c.args.request) (ap wants c.in-Step.is)
    (c.step_line.ensures.answered texts faults)

pub returns-in-Undo-clause-answered : goal.returns-in-Undo-clause-answered
returns-in-Undo-clause-answered g c =
    let texts = (g.F.Shelf.state c.args.shelf.now).texts in
    let faults = (g.F.Shelf.state c.args.shelf.now).faults in
    for_request c.undo_line.result (moment_of (standing_of c.args.self.now texts) faults)
    (moment_of (standing_of c.undo_line.new.self texts) faults) (λ line. line.items) undo (wants c.args.request)
    (ap wants c.in-Undo.is) (c.undo_line.ensures.answered texts faults)

pub returns-in-Replay-clause-answered : goal.returns-in-Replay-clause-answered
returns-in-Replay-clause-answered g c =
    let before = moment_of (standing_of c.args.self.now (g.F.Shelf.state c.args.shelf.now).texts)
    (g.F.Shelf.state c.args.shelf.now).faults in
    let after = moment_of (standing_of c.replay_line.new.self (g.F.Shelf.state c.replay_line.new.shelf).texts)
    (g.F.Shelf.state c.replay_line.new.shelf).faults in
    for_request c.replay_line.result before after (λ line. line.items) (replay c.in-Replay.name.now) (wants c.args.request)
    (ap wants c.in-Replay.is) c.replay_line.ensures.answered

pub returns-in-Save-clause-answered : goal.returns-in-Save-clause-answered
returns-in-Save-clause-answered g c =
    let before = moment_of (standing_of c.args.self.now (g.F.Shelf.state c.args.shelf.now).texts)
    (g.F.Shelf.state c.args.shelf.now).faults in
    let after = moment_of (standing_of c.args.self.now (g.F.Shelf.state c.save_line.new.shelf).texts)
    (g.F.Shelf.state c.save_line.new.shelf).faults in
    for_request c.save_line.result before after (λ line. line.items) (save c.in-Save.name.now) (wants c.args.request)
    (ap wants c.in-Save.is) c.save_line.ensures.answered

pub returns-in-Normal-clause-answered : goal.returns-in-Normal-clause-answered
returns-in-Normal-clause-answered g c =
    let texts = (g.F.Shelf.state c.args.shelf.now).texts in
    let faults = (g.F.Shelf.state c.args.shelf.now).faults in
    for_request c.normal_line.result (moment_of (standing_of c.args.self.now texts) faults)
    (moment_of (standing_of c.normal_line.new.self texts) faults) (λ line. line.items) (show_normal c.in-Normal.terms.now)
    (wants c.args.request) (ap wants c.in-Normal.is) (c.normal_line.ensures.answered texts faults)

pub returns-in-Equal-clause-answered : goal.returns-in-Equal-clause-answered
returns-in-Equal-clause-answered g c =
    let texts = (g.F.Shelf.state c.args.shelf.now).texts in
    let faults = (g.F.Shelf.state c.args.shelf.now).faults in
    for_request c.equal_line.result (moment_of (standing_of c.args.self.now texts) faults)
    (moment_of (standing_of c.equal_line.new.self texts) faults) (λ line. line.items) (compare c.in-Equal.terms.now)
    (wants c.args.request) (ap wants c.in-Equal.is) (c.equal_line.ensures.answered texts faults)

pub returns-in-Values-clause-answered : goal.returns-in-Values-clause-answered
returns-in-Values-clause-answered g c =
    let before = standing_of c.args.self.now (g.F.Shelf.state c.args.shelf.now).texts in
    let faults = (g.F.Shelf.state c.args.shelf.now).faults in
    for_request c.values_line.result (moment_of before faults) (moment_of before faults) (λ line. line.items)
    (list_values c.in-Values.name.now c.in-Values.size) (wants c.args.request) (ap wants c.in-Values.is)
    (said_values c.values_line.result before faults (λ line. line.items) c.in-Values.name.now c.in-Values.size c.values_line.ensures)

pub returns-in-Instances-clause-answered : goal.returns-in-Instances-clause-answered
returns-in-Instances-clause-answered g c =
    let texts = (g.F.Shelf.state c.args.shelf.now).texts in
    let faults = (g.F.Shelf.state c.args.shelf.now).faults in
    for_request c.instances_line.result (moment_of (standing_of c.args.self.now texts) faults)
    (moment_of (standing_of c.instances_line.new.self texts) faults) (λ line. line.items)
    (list_instances c.in-Instances.number c.in-Instances.size) (wants c.args.request) (ap wants c.in-Instances.is)
    (c.instances_line.ensures.answered texts faults)

pub returns-in-Menu-clause-answered : goal.returns-in-Menu-clause-answered
returns-in-Menu-clause-answered g c =
    let before = standing_of c.args.self.now (g.F.Shelf.state c.args.shelf.now).texts in
    let faults = (g.F.Shelf.state c.args.shelf.now).faults in
    for_request c.menu_text.result (moment_of before faults) (moment_of before faults) (λ line. line.items) show_menu
    (wants c.args.request) (ap wants c.in-Menu.is)
    (said_alone c.menu_text.result before faults (λ line. line.items) show_menu
    (shown_menu (basis_of c.args.self.now) (reached c.args.self.now)) refl refl c.menu_text.ensures)

pub returns-in-Behaviour-clause-answered : goal.returns-in-Behaviour-clause-answered
returns-in-Behaviour-clause-answered g c =
    let before = standing_of c.args.self.now (g.F.Shelf.state c.args.shelf.now).texts in
    let faults = (g.F.Shelf.state c.args.shelf.now).faults in
    for_request c.state_line.result (moment_of before faults) (moment_of before faults) (λ line. line.items) show_behaviour
    (wants c.args.request) (ap wants c.in-Behaviour.is)
    (said_alone c.state_line.result before faults (λ line. line.items) show_behaviour
    (state_line (basis_of c.args.self.now) (reached c.args.self.now)) refl refl c.state_line.ensures)

pub returns-in-Trace-clause-answered : goal.returns-in-Trace-clause-answered
returns-in-Trace-clause-answered g c =
    let before = standing_of c.args.self.now (g.F.Shelf.state c.args.shelf.now).texts in
    let faults = (g.F.Shelf.state c.args.shelf.now).faults in
    for_request c.trace_lines.result (moment_of before faults) (moment_of before faults) (λ line. line.items) show_trace
    (wants c.args.request) (ap wants c.in-Trace.is)
    (said_alone c.trace_lines.result before faults (λ line. line.items) show_trace
    (shown_trace (basis_of c.args.self.now) (reached c.args.self.now)) refl refl c.trace_lines.ensures)

pub returns-in-Unknown-clause-answered : goal.returns-in-Unknown-clause-answered
returns-in-Unknown-clause-answered g c =
    let before = standing_of c.args.self.now (g.F.Shelf.state c.args.shelf.now).texts in
    let faults = (g.F.Shelf.state c.args.shelf.now).faults in
    for_request c.bare_line.result (moment_of before faults) (moment_of before faults) (λ line. line.items) no_request
    (wants c.args.request) (ap wants c.in-Unknown.is)
    (said_alone c.bare_line.result before faults (λ line. line.items) no_request (refusal_in before (ill_formed bad_command)) refl
    refl c.bare_line.ensures)

pub returns-in-Skip-clause-answered : goal.returns-in-Skip-clause-answered
returns-in-Skip-clause-answered g c =
    let before = standing_of c.args.self.now (g.F.Shelf.state c.args.shelf.now).texts in
    let faults = (g.F.Shelf.state c.args.shelf.now).faults in
    for_request c.bare_line-in-Skip.result (moment_of before faults) (moment_of before faults) (λ line. line.items) skip
    (wants c.args.request) (ap wants c.in-Skip.is)
    (said_alone c.bare_line-in-Skip.result before faults (λ line. line.items) skip [] refl refl c.bare_line-in-Skip.ensures)

pub returns-in-Quit-clause-answered : goal.returns-in-Quit-clause-answered
returns-in-Quit-clause-answered g c =
    let before = standing_of c.args.self.now (g.F.Shelf.state c.args.shelf.now).texts in
    let faults = (g.F.Shelf.state c.args.shelf.now).faults in
    for_request c.bare_line-in-Quit.result (moment_of before faults) (moment_of before faults) (λ line. line.items) leave
    (wants c.args.request) (ap wants c.in-Quit.is)
    (left_alone c.bare_line-in-Quit.result before faults (λ line. line.items) c.bare_line-in-Quit.ensures)

pub returns-in-Step-clause-called : goal.returns-in-Step-clause-called
returns-in-Step-clause-called g c =
    let before = standing_of c.args.self.now (g.F.Shelf.state c.args.shelf.now).texts in
    called c.step_line.result before (take_step c.in-Step.number c.in-Step.terms.now) (wants c.args.request) _ _ (ap wants c.in-Step.is)
    (calls_alike c.step_line.result before (take_step c.in-Step.number c.in-Step.terms.now) _ _ refl refl)

pub returns-in-Undo-clause-called : goal.returns-in-Undo-clause-called
returns-in-Undo-clause-called g c =
    let before = standing_of c.args.self.now (g.F.Shelf.state c.args.shelf.now).texts in
    called c.undo_line.result before undo (wants c.args.request) _ _ (ap wants c.in-Undo.is)
    (calls_alike c.undo_line.result before undo _ _ refl refl)

pub returns-in-Normal-clause-called : goal.returns-in-Normal-clause-called
returns-in-Normal-clause-called g c =
    let before = standing_of c.args.self.now (g.F.Shelf.state c.args.shelf.now).texts in
    called c.normal_line.result before (show_normal c.in-Normal.terms.now) (wants c.args.request) _ _ (ap wants c.in-Normal.is)
    (calls_alike c.normal_line.result before (show_normal c.in-Normal.terms.now) _ _ refl refl)

pub returns-in-Equal-clause-called : goal.returns-in-Equal-clause-called
returns-in-Equal-clause-called g c =
    let before = standing_of c.args.self.now (g.F.Shelf.state c.args.shelf.now).texts in
    called c.equal_line.result before (compare c.in-Equal.terms.now) (wants c.args.request) _ _ (ap wants c.in-Equal.is)
    (calls_alike c.equal_line.result before (compare c.in-Equal.terms.now) _ _ refl refl)

pub returns-in-Values-clause-called : goal.returns-in-Values-clause-called
returns-in-Values-clause-called g c =
    let before = standing_of c.args.self.now (g.F.Shelf.state c.args.shelf.now).texts in
    called c.values_line.result before (list_values c.in-Values.name.now c.in-Values.size) (wants c.args.request) _ _
    (ap wants c.in-Values.is)
    (calls_alike c.values_line.result before (list_values c.in-Values.name.now c.in-Values.size) _ _ refl refl)

pub returns-in-Instances-clause-called : goal.returns-in-Instances-clause-called
returns-in-Instances-clause-called g c =
    let before = standing_of c.args.self.now (g.F.Shelf.state c.args.shelf.now).texts in
    called c.instances_line.result before (list_instances c.in-Instances.number c.in-Instances.size) (wants c.args.request) _ _
    (ap wants c.in-Instances.is)
    (calls_alike c.instances_line.result before (list_instances c.in-Instances.number c.in-Instances.size) _ _ refl refl)

pub returns-in-Menu-clause-called : goal.returns-in-Menu-clause-called
returns-in-Menu-clause-called g c =
    let before = standing_of c.args.self.now (g.F.Shelf.state c.args.shelf.now).texts in
    called c.menu_text.result before show_menu (wants c.args.request) _ _ (ap wants c.in-Menu.is)
    (calls_alike c.menu_text.result before show_menu _ _ refl refl)

pub returns-in-Behaviour-clause-called : goal.returns-in-Behaviour-clause-called
returns-in-Behaviour-clause-called g c =
    let before = standing_of c.args.self.now (g.F.Shelf.state c.args.shelf.now).texts in
    called c.state_line.result before show_behaviour (wants c.args.request) _ _ (ap wants c.in-Behaviour.is)
    (calls_alike c.state_line.result before show_behaviour _ _ refl refl)

pub returns-in-Trace-clause-called : goal.returns-in-Trace-clause-called
returns-in-Trace-clause-called g c =
    let before = standing_of c.args.self.now (g.F.Shelf.state c.args.shelf.now).texts in
    called c.trace_lines.result before show_trace (wants c.args.request) _ _ (ap wants c.in-Trace.is)
    (calls_alike c.trace_lines.result before show_trace _ _ refl refl)

pub returns-in-Unknown-clause-called : goal.returns-in-Unknown-clause-called
returns-in-Unknown-clause-called g c =
    let before = standing_of c.args.self.now (g.F.Shelf.state c.args.shelf.now).texts in
    called c.bare_line.result before no_request (wants c.args.request) _ _ (ap wants c.in-Unknown.is)
    (calls_alike c.bare_line.result before no_request _ _ refl refl)

pub returns-in-Skip-clause-called : goal.returns-in-Skip-clause-called
returns-in-Skip-clause-called g c =
    let before = standing_of c.args.self.now (g.F.Shelf.state c.args.shelf.now).texts in
    called c.bare_line-in-Skip.result before skip (wants c.args.request) _ _ (ap wants c.in-Skip.is)
    (calls_alike c.bare_line-in-Skip.result before skip _ _ refl refl)

pub returns-in-Quit-clause-called : goal.returns-in-Quit-clause-called
returns-in-Quit-clause-called g c =
    let before = standing_of c.args.self.now (g.F.Shelf.state c.args.shelf.now).texts in
    called c.bare_line-in-Quit.result before leave (wants c.args.request) _ _ (ap wants c.in-Quit.is)
    (calls_alike c.bare_line-in-Quit.result before leave _ _ refl refl)

pub returns-in-Replay-clause-called : goal.returns-in-Replay-clause-called
returns-in-Replay-clause-called g c =
    let before = standing_of c.args.self.now (g.F.Shelf.state c.args.shelf.now).texts in
    called c.replay_line.result before (replay c.in-Replay.name.now) (wants c.args.request) _ _ (ap wants c.in-Replay.is)
    (calls_alike c.replay_line.result before (replay c.in-Replay.name.now) (g.F.Shelf.state c.args.shelf.now).calls
    (g.F.Shelf.state c.replay_line.new.shelf).calls c.replay_line.ensures.called c.replay_line.ensures.called)

pub returns-in-Save-clause-called : goal.returns-in-Save-clause-called
returns-in-Save-clause-called g c =
    let before = standing_of c.args.self.now (g.F.Shelf.state c.args.shelf.now).texts in
    called c.save_line.result before (save c.in-Save.name.now) (wants c.args.request) _ _ (ap wants c.in-Save.is)
    c.save_line.ensures.called
