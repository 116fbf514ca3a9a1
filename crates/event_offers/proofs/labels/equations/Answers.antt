use Rattle.std.proofs.Common.{arith, ◌++◌, List, ◌≤◌, length}
use Rattle.std.proofs.lemmas.List.{drop_all}
use Rattle.behaviour_semantics.specs.Behaviour.{Test}
use Rattle.sort_terms.specs.ProfiledTerm.{ProfiledTerm}
use Rattle.event_offers.specs.OfferView.{condition_profiles, conditions_of}
use Rattle.event_offers.proofs.LabelLemmas.{nothing_paired, nothing_zipped}
use Rattle.event_offers.proofs.labels.equations.Goals as goal

pub returns-then-i-rights-clause-same : goal.returns-then-i-rights-clause-same
returns-then-i-rights-clause-same c =
    nothing_paired c.args.lefts.now c.args.rights.now c.loop-i.i (conditions_of c.loop-i.made.items) _ (omega arith) c.loop-i.invariant.0

pub returns-then-i-rights-clause-profiles : goal.returns-then-i-rights-clause-profiles
returns-then-i-rights-clause-profiles c =
    nothing_zipped c.args.lefts.now c.args.rights.now c.loop-i.i (condition_profiles c.loop-i.made.items) _ (omega arith)
    c.loop-i.invariant.1
