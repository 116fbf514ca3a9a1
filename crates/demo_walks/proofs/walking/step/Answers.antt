use Rattle.std.proofs.Common.{refl}
use Rattle.std.proofs.lemmas.Result.{on_ok_weaker}
use Rattle.history_lines.specs.HandedOn.{basis_over, terms_of, label_of}
use Rattle.demo_walks.specs.DemoWalk.{is_taken}
use Rattle.demo_walks.specs.WalkView.{walk_reached}
use Rattle.demo_walks.proofs.WalkLemmas.{goes_nowhere, one_more, still_on_walk}
use Rattle.demo_walks.proofs.walking.step.Goals as goal

pub returns-in-Ok-clause-goes : goal.returns-in-Ok-clause-goes
returns-in-Ok-clause-goes g c = is_taken (terms_of c.args.values.items) (label_of c.in-Ok.label) refl c.in-Ok.ensures.answered

pub returns-in-Ok-clause-on_walk_after : goal.returns-in-Ok-clause-on_walk_after
returns-in-Ok-clause-on_walk_after g c =
    still_on_walk g.M.MenuMaker.suits (g.D.Deciding.known_data c.args.data.now) (g.D.Deciding.canon c.args.data.now) c.args.session.now
    c.step.new.self c.args.tally.now c.note.new.self (label_of c.in-Ok.label) c.requires.on_walk c.in-Ok.ensures.lawful_after
    (one_more (basis_over (g.D.Deciding.known_data c.args.data.now) (g.D.Deciding.canon c.args.data.now) c.args.session.now.spec)
    (walk_reached c.args.session.now) (walk_reached c.step.new.self) c.args.number (terms_of c.args.values.items) (label_of c.in-Ok.label)
    c.in-Ok.ensures.answered)
    c.note.ensures.steps c.note.ensures.entries c.note.ensures.few c.note.ensures.last

pub returns-in-Err-clause-goes : goal.returns-in-Err-clause-goes
returns-in-Err-clause-goes g c =
    on_ok_weaker c.left_out.result (λ tells.
    goes_nowhere (basis_over (g.D.Deciding.known_data c.args.data.now) (g.D.Deciding.canon c.args.data.now) c.args.session.now.spec)
    (walk_reached c.args.session.now) (walk_reached c.step.new.self) c.args.number (terms_of c.args.values.items)
    c.in-Err.ensures.answered.0 (tells _ c.in-Err.ensures.answered.1)) c.left_out.ensures
