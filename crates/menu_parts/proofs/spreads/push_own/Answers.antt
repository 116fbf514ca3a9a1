use Rattle.shared_entries.proofs.PushedLemmas.{appended_terms}
use Rattle.menu_parts.proofs.WayLemmas.{own_pushed}
use Rattle.menu_parts.proofs.spreads.push_own.Goals as goal

pub returns-clause-same : goal.returns-clause-same
returns-clause-same c = λ signature h.
    own_pushed signature c.args.items.now.items c.append.new.self.items c.args.own.now.items c.in_ok-copies.copies.items
    c.in_ok-append.ensures.items (c.in_ok-copies.ensures signature h)

pub returns-clause-terms : goal.returns-clause-terms
returns-clause-terms c = λ signature h k.
    appended_terms signature c.args.items.now.items c.in_ok-copies.copies.items c.append.new.self.items c.in_ok-append.ensures.items h
    (c.in_ok-copies.ensures signature k).terms
