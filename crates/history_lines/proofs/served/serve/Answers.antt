use Rattle.std.proofs.Common.{ℕ, ◌-◌, List, ◌++◌, length, refl, sym, ap, ◌∙◌, subst, arith}
use Rattle.line_server.specs.Request.{Request}
use Rattle.line_server.specs.RequestLaws.{Carries}
use Rattle.line_server.specs.RequestView.{wants}
use Rattle.line_server.proofs.RequestLemmas.{request_within}
use Rattle.lotos_base.proofs.Options.{gave_up}
use Rattle.history_lines.specs.LinesView.{point_of}
use Rattle.history_lines.proofs.ServedLemmas.{appends_reply, appends_nothing, appends_nothing_behind}
use Rattle.history_lines.proofs.served.serve.Goals as goal

pub answer-requires-clause-short : goal.answer-requires-clause-short
answer-requires-clause-short g c = (
  length c.args.line.now - 1,
  omega (arith, c.requires.short),
  subst (λ (it : Request). Carries (length c.args.line.now - 1) it) (sym c.read_request-request.ensures)
      (request_within c.args.line.now (length c.args.line.now - 1) (omega arith)),
)

pub returns-clause-answered : goal.returns-clause-answered
returns-clause-answered g c =
    appends_reply
    (point_of c.args.lines.now (g.F.Shelf.state c.args.shelf.now))
    (point_of c.answer.new.self (g.F.Shelf.state c.answer.new.shelf)) c.args.line.now (wants c.read_request-request.result)
    c.in_ok-text.text.items
    c.args.into.now.items c.append.new.into.items c.served_by-served.result c.read_request-request.ensures c.served_by-served.ensures
    c.in_ok-text.ensures.answered c.in_ok-text.ensures.called
    (c.in_ok-append.ensures.appended ∙ ap (λ (it : List ℕ). c.args.into.now.items ++ it) c.as_slice.ensures.value)

pub returns-in_err-text-clause-answered : goal.returns-in_err-text-clause-answered
returns-in_err-text-clause-answered g c =
    gave_up _ _ c.from_residual.result c.in_err-text.field-0.0 c.from_residual.ensures.1
    (appends_nothing
    (point_of c.args.lines.now (g.F.Shelf.state c.args.shelf.now))
    (point_of c.answer.new.self (g.F.Shelf.state c.answer.new.shelf)) c.args.line.now (wants c.read_request-request.result)
    c.args.into.now.items
    c.args.into.now.items c.read_request-request.ensures c.in_err-text.ensures.answered c.in_err-text.ensures.called refl)

pub returns-in_err-append-clause-answered : goal.returns-in_err-append-clause-answered
returns-in_err-append-clause-answered g c =
    gave_up _ _ c.from_residual-in_err-append.result c.in_err-append.field-0.0 c.from_residual-in_err-append.ensures.1
    (appends_nothing_behind
    (point_of c.args.lines.now (g.F.Shelf.state c.args.shelf.now))
    (point_of c.answer.new.self (g.F.Shelf.state c.answer.new.shelf)) c.args.line.now (wants c.read_request-request.result)
    c.in_ok-text.text.items
    c.args.into.now.items c.append.new.into.items c.read_request-request.ensures c.in_ok-text.ensures.answered
    c.in_ok-text.ensures.called c.in_err-append.ensures.kept)
