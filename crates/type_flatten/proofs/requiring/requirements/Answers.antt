use Rattle.type_flatten.proofs.requiring.requirements.Goals as goal

pub returns-in-Ok : goal.returns-in-Ok
returns-in-Ok c = c.in-Ok.ensures
