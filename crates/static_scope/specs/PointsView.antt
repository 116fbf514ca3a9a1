-- What a resolver knows between two definitions.
use Rattle.behaviour_scopes.specs.ResolverView.{state_in}
use Rattle.behaviour_scopes.specs.declared.resolver.Resolver.{Resolver}
use Rattle.static_scope.specs.Points.{Point, scope_point_of}

abbrev pub point_in : Resolver → Point
point_in resolver = scope_point_of (state_in resolver)
