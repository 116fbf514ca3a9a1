use Rattle.bisim_check.proofs.events.event_at.Goals as goal

pub returns-clause-event : goal.returns-clause-event
returns-clause-event g c = record { label = c.in_ok-label.ensures.same; leads = c.in_ok-reached.ensures.leads }
