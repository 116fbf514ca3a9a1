use Rattle.sort_terms.specs.SortedView.{term_in}
use Rattle.term_store.proofs.StoreLemmas.{same_decided}
use Rattle.term_store.proofs.store.Store.same.Goals as goal

pub returns-clause-exactly : goal.returns-clause-exactly
returns-clause-exactly c =
    same_decided c.args.self.now c.number.new.self c.number-2.new.self (term_in c.args.left.now) (term_in c.args.right.now)
    c.in_ok-one.one.number c.in_ok-other.other.number c.number.ensures.rules c.number-2.ensures.stay c.in_ok-one.ensures.number
    c.in_ok-other.ensures.number
