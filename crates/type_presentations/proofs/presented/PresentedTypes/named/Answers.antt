use Rattle.lotos_base.specs.Name.{spelling}
use Rattle.type_presentations.specs.PresentationView.{presentation_of}
use Rattle.type_presentations.specs.PresentedView.{presented_in}
use Rattle.type_presentations.proofs.PresentedLemmas.{named_here, named_nowhere, names_of}
use Rattle.type_presentations.proofs.presented.PresentedTypes.named.Goals as goal

pub returns-in-Some-clause-presentation : goal.returns-in-Some-clause-presentation
returns-in-Some-clause-presentation c =
    named_here (presented_in c.args.self.now) (spelling c.args.name.now) _ _ (presentation_of c.at.result.now)
    (c.in_ok-number.ensures (names_of (presented_in c.args.self.now)) c.requires.names) c.in-Some.is c.at.ensures.presentation

pub returns-in-None-clause-presentation : goal.returns-in-None-clause-presentation
returns-in-None-clause-presentation c =
    named_nowhere (presented_in c.args.self.now) (spelling c.args.name.now) _ (presentation_of c.args.self.now.nothing)
    (c.in_ok-number.ensures (names_of (presented_in c.args.self.now)) c.requires.names) c.in-None.is c.requires.nothing_there
