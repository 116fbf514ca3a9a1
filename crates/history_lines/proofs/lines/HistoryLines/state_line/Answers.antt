use Rattle.std.proofs.Common.{sym, subst}
use Rattle.session_log.specs.HandedOn.{IsClosedNode, State}
use Rattle.sort_terms.specs.EquationView.{data_of}
use Rattle.sort_terms.specs.SignatureView.{signature_of}
use Rattle.history_lines.proofs.StateLemmas.{state_here}
use Rattle.history_lines.proofs.lines.HistoryLines.state_line.Goals as goal

pub state_text-requires : goal.state_text-requires
state_text-requires g c =
    subst (λ (it : State). IsClosedNode it.node) (sym c.state.ensures) c.requires.serving.lawful.course.state.closed

pub returns : goal.returns
returns g c =
    state_here (signature_of c.args.self.now.signature.now) (data_of c.args.self.now.book.flat).signature c.spec.result.now
    c.args.self.now.session.spec c.state.result.now c.args.self.now.session.course.state c.new-text.result.items
    c.state_text.new.into.items c.push_text.new.into.items c.requires.serving.shown c.spec.ensures c.state.ensures
    c.new-text.ensures.items c.in_ok-state_text.ensures c.in_ok-push_text.ensures
