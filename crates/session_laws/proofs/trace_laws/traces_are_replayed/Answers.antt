use Rattle.session_laws.proofs.TraceLemmas.{is_traceable, line_names}
use Rattle.session_laws.proofs.trace_laws.traces_are_replayed.Goals as goal

pub returns : goal.returns
returns c = record {
  stated = λ basis first last steps h.
      c.traces_lead_back.ensures.stated basis first last steps (is_traceable basis first last steps h)
      (line_names basis first.state h.names);
  plain = λ basis first last steps h.
      c.traces_lead_back.ensures.plain basis first last steps (is_traceable basis first last steps h);
}
