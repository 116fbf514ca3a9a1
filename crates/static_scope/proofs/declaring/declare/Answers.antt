use Rattle.std.proofs.Common.{List, ap}
use Rattle.scope_parts.specs.Scope.{Callable}
use Rattle.static_scope.specs.PointsView.{point_in}
use Rattle.static_scope.proofs.declaring.declare.Goals as goal

pub returns : goal.returns
returns c =
    ap
    (λ (ps : List Callable). record {
      signature = (point_in c.args.resolver.now).signature;
      names = (point_in c.args.resolver.now).names;
      processes = ps;
      variable = (point_in c.args.resolver.now).variable;
      process = (point_in c.args.resolver.now).process;
    })
    c.in_ok-make_visible.ensures
