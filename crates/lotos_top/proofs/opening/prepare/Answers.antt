use Rattle.std.proofs.Common.{Option, Some, MatchResult, sym, ap, subst, ◌∙◌}
use Rattle.certificate_verbs.specs.HandedOn.{words_of, CommandLine, command_line, command_line_of, Command}
use Rattle.certificate_verbs.proofs.HandedOn.{values_within}
use Rattle.lotos_top.specs.Prepared.{CameTo, IsReady}
use Rattle.lotos_top.proofs.opening.prepare.Goals as goal

pub checked-requires : goal.checked-requires
checked-requires g c =
    values_within (words_of c.args.words.now) _
    (c.in-Some-Check.ensures ∙ ap (λ (command : Command). Some (command_line_of command)) c.in-Some-Check.field-0-is)

pub served-requires : goal.served-requires
served-requires g c =
    values_within (words_of c.args.words.now) _
    (c.in-Some-Run.ensures ∙ ap (λ (command : Command). Some (command_line_of command)) c.in-Some-Run.field-0-is)

pub returns-in-Some-Check : goal.returns-in-Some-Check
returns-in-Some-Check g c =
    subst (λ (line : Option CommandLine). MatchResult c.checked.result
    (IsReady line (g.F.Shelf.state c.args.shelf.now) (g.F.Shelf.state c.checked.new.shelf))
    (λ _. CameTo line (g.F.Shelf.state c.args.shelf.now) (g.F.Shelf.state c.checked.new.shelf)))
    (sym (c.in-Some-Check.ensures ∙ ap (λ (command : Command). Some (command_line_of command)) c.in-Some-Check.field-0-is))
    c.checked.ensures

pub returns-in-Some-Run : goal.returns-in-Some-Run
returns-in-Some-Run g c =
    subst (λ (line : Option CommandLine). MatchResult c.served.result
    (IsReady line (g.F.Shelf.state c.args.shelf.now) (g.F.Shelf.state c.served.new.shelf))
    (λ _. CameTo line (g.F.Shelf.state c.args.shelf.now) (g.F.Shelf.state c.served.new.shelf)))
    (sym (c.in-Some-Run.ensures ∙ ap (λ (command : Command). Some (command_line_of command)) c.in-Some-Run.field-0-is))
    c.served.ensures

pub returns-in-Some-Demo : goal.returns-in-Some-Demo
returns-in-Some-Demo g c =
    subst (λ (line : Option CommandLine). MatchResult c.demonstrated.result
    (IsReady line (g.F.Shelf.state c.args.shelf.now) (g.F.Shelf.state c.args.shelf.now))
    (λ _. CameTo line (g.F.Shelf.state c.args.shelf.now) (g.F.Shelf.state c.args.shelf.now)))
    (sym (c.in-Some-Demo.ensures ∙ ap (λ (command : Command). Some (command_line_of command)) c.in-Some-Demo.field-0-is))
    (c.demonstrated.ensures (g.F.Shelf.state c.args.shelf.now))

pub returns-in-Some-Flatten : goal.returns-in-Some-Flatten
returns-in-Some-Flatten g c =
    subst (λ (line : Option CommandLine). MatchResult c.flattened.result
    (IsReady line (g.F.Shelf.state c.args.shelf.now) (g.F.Shelf.state c.flattened.new.shelf))
    (λ _. CameTo line (g.F.Shelf.state c.args.shelf.now) (g.F.Shelf.state c.flattened.new.shelf)))
    (sym (c.in-Some-Flatten.ensures ∙ ap (λ (command : Command). Some (command_line_of command)) c.in-Some-Flatten.field-0-is))
    c.flattened.ensures

pub returns-in-Some-Bisim : goal.returns-in-Some-Bisim
returns-in-Some-Bisim g c =
    subst (λ (line : Option CommandLine). MatchResult c.compared.result
    (IsReady line (g.F.Shelf.state c.args.shelf.now) (g.F.Shelf.state c.compared.new.shelf))
    (λ _. CameTo line (g.F.Shelf.state c.args.shelf.now) (g.F.Shelf.state c.compared.new.shelf)))
    (sym (c.in-Some-Bisim.ensures ∙ ap (λ (command : Command). Some (command_line_of command)) c.in-Some-Bisim.field-0-is))
    c.compared.ensures

pub returns-in-Some-Induct : goal.returns-in-Some-Induct
returns-in-Some-Induct g c =
    subst (λ (line : Option CommandLine). MatchResult c.induced.result
    (IsReady line (g.F.Shelf.state c.args.shelf.now) (g.F.Shelf.state c.induced.new.shelf))
    (λ _. CameTo line (g.F.Shelf.state c.args.shelf.now) (g.F.Shelf.state c.induced.new.shelf)))
    (sym (c.in-Some-Induct.ensures ∙ ap (λ (command : Command). Some (command_line_of command)) c.in-Some-Induct.field-0-is))
    c.induced.ensures

pub returns-in-None : goal.returns-in-None
returns-in-None g c = c.usage_ready.ensures (command_line (words_of c.args.words.now))
    (g.F.Shelf.state c.args.shelf.now)
    c.in-None.ensures
