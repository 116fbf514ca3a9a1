use Rattle.std.proofs.Common.{List, ℕ, ap}
use Rattle.behaviour_tree.specs.BehaviourView.{behaviour_of}
use Rattle.static_scope.specs.HeadingView.{heading_in}
use Rattle.static_scope.proofs.definitions.process.Goals as goal

pub returns-clause-read : goal.returns-clause-read
returns-clause-read c = (
  (heading_in c.in_ok-made.made.0, behaviour_of c.in_ok-made.made.1),
  c.in_ok-made.ensures.read,
  ap
      (λ (name : List ℕ). record {
        name = name;
        gates = (heading_in c.in_ok-made.made.0).gates;
        parameters = (heading_in c.in_ok-made.made.0).parameters;
        exit = (heading_in c.in_ok-made.made.0).exit;
        body = behaviour_of c.in_ok-made.made.1;
      })
      c.in_ok-name.ensures,
)
