use Rattle.std.proofs.Common.{◌↔◌, IsTrue, Bool, sym, subst}
use Rattle.behaviour_tree.specs.StateView.{state_of}
use Rattle.bisim_check.specs.Matching.{ListedTowards}
use Rattle.bisim_check.specs.Readings.{listed_pairs_in}
use Rattle.bisim_check.proofs.matching.are_listed.Goals as goal

pub returns-then-right : goal.returns-then-right
returns-then-right c =
    subst (λ (b : Bool). IsTrue c.is_listed.result ↔ ListedTowards b (listed_pairs_in c.args.reading.now) (state_of c.args.state.now)
    (state_of c.args.other.now)) (sym c.if-right.true) c.is_listed.ensures

pub returns : goal.returns
returns c =
    subst (λ (b : Bool). IsTrue c.is_listed-2.result ↔ ListedTowards b (listed_pairs_in c.args.reading.now) (state_of c.args.state.now)
    (state_of c.args.other.now)) (sym c.if-right.false) c.is_listed-2.ensures
