use Rattle.std.proofs.Common.{ℕ, List, refl}
use Rattle.session_histories.specs.Session.{SessionBasis, Situation, PastStep}
use Rattle.session_histories.specs.Replay.{ReplayIs, goes_on}
use Rattle.session_histories.specs.ReplayLaws.{ReplayIsExact}
use Rattle.session_histories.specs.TraceLaws.{IsTraceable, trace_of, plain_trace_of, LeadsBack}
use Rattle.session_histories.proofs.TraceLemmas.{plain_leads_back, stated_leads_back}
use Rattle.session_histories.proofs.laws.traces_lead_back.Goals as goal

-- what is replayed to the session comes to nothing else
leads_back : ReplayIsExact → (basis : SessionBasis) (first last : Situation) (steps : List PastStep) (text : List ℕ)
    → IsTraceable basis first last steps → ReplayIs basis first text (goes_on (record { situation = last; steps = steps }))
    → LeadsBack basis first last steps text
leads_back exact basis first last steps text h replayed = record {
  replayed = replayed;
  alone = λ outcome over is.
      exact.once basis first text outcome (goes_on (record { situation = last; steps = steps })) over h.start is replayed;
}

pub returns : goal.returns
returns c = record {
  stated = λ basis first last steps h have.
      leads_back c.replay_is_exact.ensures basis first last steps (trace_of basis last steps) h
      (stated_leads_back basis h.names c.moves_keep_names.ensures c.state_texts_are_of_names.ensures first.state have first last steps
      h.lead h.items refl);
  plain = λ basis first last steps h.
      leads_back c.replay_is_exact.ensures basis first last steps (plain_trace_of basis steps) h
      (plain_leads_back basis h.names first last steps h.lead h.items);
}
