use Rattle.std.proofs.Common.{sym, ◌∙◌}
use Rattle.bisim_check.proofs.DataLemmas.{never}
use Rattle.bisim_check.proofs.matching.is_answer.Goals as goal

pub returns-then-not-same_labels : goal.returns-then-not-same_labels
returns-then-not-same_labels c = (
  (λ h. absurd (never h)),
  (λ a. sym c.if-not-same_labels.true ∙ c.same_labels.ensures.1 a.labels),
)

pub returns : goal.returns
returns c = (
  (λ h. record { labels = c.same_labels.ensures.0 c.if-not-same_labels.false; listed = c.are_listed.ensures.0 h }),
  (λ a. c.are_listed.ensures.1 a.listed),
)
