use Rattle.std.proofs.Common.{ap}
use Rattle.lotos_base.specs.Equation.{Data}
use Rattle.lotos_base.specs.Term.{Term}
use Rattle.demo_walks.proofs.HandedOn.{holds_after}
use Rattle.demo_walks.specs.HandedOn.{IsLawfulSession}
use Rattle.direct_sessions.proofs.accepted.opened.Goals as goal

pub open-requires-clause-suited : goal.open-requires-clause-suited
open-requires-clause-suited g c = record {
  signature = c.requires.known.1.well_formed.signature;
  over = c.requires.known.1.over;
  ranked = c.requires.known.1.ranks_are;
  fitting = c.requires.suited;
}

pub open-requires-clause-kept : goal.open-requires-clause-kept
open-requires-clause-kept g c = record { over = c.requires.known.1.state; closed = c.requires.known.1.closed }

pub returns-clause-lawful : goal.returns-clause-lawful
returns-clause-lawful g c =
    holds_after (λ (d : Data) (k : Term → Term). IsLawfulSession g.M.MenuMaker.suits d k c.in_ok-session.session)
    c.in_ok-session.ensures.same_known c.in_ok-session.ensures.lawful

pub returns-clause-signature : goal.returns-clause-signature
returns-clause-signature g c = ap (λ (d : Data). d.signature) c.in_ok-session.ensures.same_known.same_data
