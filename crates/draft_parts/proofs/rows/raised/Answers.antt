use Rattle.event_offers.specs.declared.renaming.Renaming.TheVariants.{Raised}
use Rattle.draft_parts.proofs.TermLemmas.{renamed_over}
use Rattle.draft_parts.proofs.rows.raised.Goals as goal

pub returns-clause-over : goal.returns-clause-over
returns-clause-over c = λ signature h.
    renamed_over signature c.args.draft _ (Raised c.args.first c.args.by) c.in_ok-label.ensures.profiles c.in_ok-leaves.ensures.profiles
    c.in_ok-conditions.ensures.profiles h
