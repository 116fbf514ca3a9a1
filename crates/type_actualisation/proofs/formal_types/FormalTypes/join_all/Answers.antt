use Rattle.std.proofs.Common.{◌≡◌, List, length, map, take, sym, subst, ap, ◌∙◌, arith}
use Rattle.lotos_base.proofs.Pieces.{take_whole}
use Rattle.lotos_base.specs.WrittenTerm.{PlacedName}
use Rattle.lotos_base.specs.WrittenView.{placed_name_of}
use Rattle.lotos_base.specs.declared.names.Name.{Name}
use Rattle.lotos_base.specs.declared.places.Place.{Place}
use Rattle.type_definitions.proofs.WalkLemmas.{so_far}
use Rattle.type_definitions.specs.FormalEquations.{FlattenedType, WithFormals, mentioned_formals}
use Rattle.type_actualisation.specs.FormalLists.{IsUnionWith}
use Rattle.type_actualisation.proofs.TypesLemmas.{union_next}
use Rattle.type_actualisation.proofs.formal_types.FormalTypes.join_all.Goals as goal

pub loop-named-init : goal.loop-named-init
loop-named-init c = λ (all : List FlattenedType) are. c.requires.nothing

pub join_named-requires : goal.join_named-requires
join_named-requires c = record {
  types = c.requires.types;
  union = (_, c.loop-named.invariant c.requires.types.0 c.requires.types.1);
}

pub loop-named-preserved : goal.loop-named-preserved
loop-named-preserved c = λ (all : List FlattenedType) are.
    let before : List PlacedName = map placed_name_of (take c.loop-named.named-index c.args.names.now) in
    subst (λ (w : WithFormals). IsUnionWith w c.join_named.new.union)
    (sym (ap (λ (ns : List PlacedName). mentioned_formals all ns)
    (so_far placed_name_of c.args.names.now c.loop-named.named-index c.named-item.result c.loop-named-test.true c.named-item.is)
    ∙ union_next all before (placed_name_of c.named-item.result)))
    (c.in_ok-join_named.ensures all (mentioned_formals all before) are (c.loop-named.invariant all are))

pub returns : goal.returns
returns c = λ (all : List FlattenedType) are.
    let whole : c.loop-named.named-index ≡ length c.args.names.now = omega arith in
    subst (λ (ns : List (Place × Name)). IsUnionWith (mentioned_formals all (map placed_name_of ns)) c.loop-named.union)
    (take_whole c.args.names.now c.loop-named.named-index whole) (c.loop-named.invariant all are)
