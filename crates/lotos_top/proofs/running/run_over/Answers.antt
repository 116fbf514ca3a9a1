use Rattle.std.proofs.Common.{refl, subst}
use Rattle.certificate_verbs.specs.HandedOn.{words_of, command_line}
use Rattle.lotos_top.specs.Run.{streams}
use Rattle.lotos_top.specs.Prepared.{IsReady}
use Rattle.lotos_top.specs.declared.opening.Ready.{Ready}
use Rattle.lotos_top.proofs.RunLemmas.{ran_alone, ran_served, ran_wanted, ran_nothing}
use Rattle.lotos_top.proofs.running.run_over.Goals as goal

pub returns-in-Ok-Alone : goal.returns-in-Ok-Alone
returns-in-Ok-Alone g c =
    ran_alone (command_line (words_of c.args.words.now))
    (g.F.Shelf.state c.args.shelf.now) (g.F.Shelf.state c.prepare.new.shelf)
    c.in-Ok-Alone.alone
    (streams (g.S.Source.state c.args.input.now) (g.K.Sink.state c.args.output.now))
    (streams (g.S.Source.state c.args.input.now) (g.K.Sink.state c.print.new.output))
    c.print.result
    (subst (λ (it : Ready). IsReady (command_line (words_of c.args.words.now))
    (g.F.Shelf.state c.args.shelf.now)
    (g.F.Shelf.state c.prepare.new.shelf) it)
    c.in-Ok-Alone.field-0-is c.in-Ok-Alone.ensures) refl c.print.ensures

pub returns-in-Ok : goal.returns-in-Ok
returns-in-Ok g c =
    ran_served (command_line (words_of c.args.words.now))
    (g.F.Shelf.state c.args.shelf.now) (g.F.Shelf.state c.prepare.new.shelf) (g.F.Shelf.state c.serve.new.shelf)
    c.in-Ok-Session.opened
    (streams (g.S.Source.state c.args.input.now) (g.K.Sink.state c.args.output.now))
    (streams (g.S.Source.state c.serve.new.input) (g.K.Sink.state c.serve.new.output))
    c.in-Ok.ended
    (subst (λ (it : Ready). IsReady (command_line (words_of c.args.words.now))
    (g.F.Shelf.state c.args.shelf.now)
    (g.F.Shelf.state c.prepare.new.shelf) it)
    c.in-Ok-Session.field-0-is c.in-Ok-Session.ensures) c.in-Ok.ensures

pub returns-in-Err-serve : goal.returns-in-Err-serve
returns-in-Err-serve g c =
    ran_wanted (command_line (words_of c.args.words.now))
    (g.F.Shelf.state c.args.shelf.now) (g.F.Shelf.state c.prepare.new.shelf) (g.F.Shelf.state c.serve.new.shelf)
    c.in-Ok-Session.opened
    (streams (g.S.Source.state c.args.input.now) (g.K.Sink.state c.args.output.now))
    (streams (g.S.Source.state c.serve.new.input) (g.K.Sink.state c.serve.new.output))
    (subst (λ (it : Ready). IsReady (command_line (words_of c.args.words.now))
    (g.F.Shelf.state c.args.shelf.now)
    (g.F.Shelf.state c.prepare.new.shelf) it)
    c.in-Ok-Session.field-0-is c.in-Ok-Session.ensures) c.in-Err-serve.ensures.0 c.in-Err-serve.ensures.1

pub returns-in-Err : goal.returns-in-Err
returns-in-Err g c =
    ran_nothing (command_line (words_of c.args.words.now))
    (g.F.Shelf.state c.args.shelf.now) (g.F.Shelf.state c.prepare.new.shelf)
    (streams (g.S.Source.state c.args.input.now) (g.K.Sink.state c.args.output.now))
    c.in-Err.ensures
