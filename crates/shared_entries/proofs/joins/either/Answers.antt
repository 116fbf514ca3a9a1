use Rattle.shared_entries.proofs.PushedLemmas.{appended_terms, either_items}
use Rattle.shared_entries.proofs.joins.either.Goals as goal

pub returns-clause-same : goal.returns-clause-same
returns-clause-same c = λ signature h k.
    either_items c.args.lefts.now.items c.args.rights.now.items c.in_ok-first.first.items
    c.in_ok-second.second.items c.in_ok-made.made.items c.in_ok-made.ensures (c.in_ok-first.ensures signature h).same
    (c.in_ok-second.ensures signature k).same

pub returns-clause-terms : goal.returns-clause-terms
returns-clause-terms c = λ signature h k.
    appended_terms signature c.in_ok-first.first.items c.in_ok-second.second.items c.in_ok-made.made.items c.in_ok-made.ensures
    (c.in_ok-first.ensures signature h).terms (c.in_ok-second.ensures signature k).terms
