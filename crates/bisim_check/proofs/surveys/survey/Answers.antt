use Rattle.bisim_check.proofs.surveys.survey.Goals as goal

pub returns-clause-surveyed : goal.returns-clause-surveyed
returns-clause-surveyed g c =
    record { state = c.requires.state; exact = c.in_ok-entries.ensures.exact; entries = c.in_ok-entries.ensures.over }
