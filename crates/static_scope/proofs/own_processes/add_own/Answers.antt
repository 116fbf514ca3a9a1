use Rattle.std.proofs.Common.{◌<◌, ℕ, sym, subst}
use Rattle.syntax_trees.specs.WrittenDefinition.{WrittenInner}
use Rattle.static_scope.specs.Sizes.{BeginsAt, definition_sizes}
use Rattle.static_scope.proofs.SeenInner.{seen_definition}
use Rattle.static_scope.proofs.SizeLemmas.{size_there}
use Rattle.static_scope.proofs.own_processes.add_own.Goals as goal

pub index-requires : goal.index-requires
index-requires c =
    subst (λ (n : ℕ). c.args.number < n) (sym c.args.sizes.now.ok.0)
    (size_there _ _ c.args.number 0 c.args.sizes.now.items
    (subst (λ (x : WrittenInner). BeginsAt (definition_sizes x) c.args.number c.args.sizes.now.items)
    (seen_definition c.args.declared.now c.in-Process.text c.in-Process.is) c.requires)).0
