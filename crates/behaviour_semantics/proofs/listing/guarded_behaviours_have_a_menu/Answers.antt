use Rattle.std.proofs.Common.{◌≡◌, ℕ, List, map, Some, ap}
use Rattle.lotos_base.specs.Term.{Term}
use Rattle.lotos_base.specs.Equation.{Data}
use Rattle.behaviour_semantics.specs.Behaviour.{Behaviour, Specification}
use Rattle.behaviour_semantics.specs.Move.{Setting}
use Rattle.behaviour_semantics.specs.Draft.{draft_by, first_apart, leaves_from}
use Rattle.behaviour_semantics.specs.Guardedness.{IsGuarded}
use Rattle.behaviour_semantics.specs.WellFormed.{AreOver}
use Rattle.behaviour_semantics.specs.Listing.{ShapedMove, listed_moves}
use Rattle.behaviour_semantics.specs.Menu.{Exact}
use Rattle.behaviour_semantics.specs.Solving.{Entry}
use Rattle.std.specs.Option.{option_map}
use Rattle.behaviour_semantics.proofs.GuardedLists.{guarded_list}
use Rattle.behaviour_semantics.proofs.ListedMenus.{listed_menu}
use Rattle.behaviour_semantics.proofs.listing.guarded_behaviours_have_a_menu.Goals as goal

has_menu : (data_ : Data) (canon : Term → Term) (specification : Specification) (b : Behaviour) → AreOver data_ canon specification b
    → IsGuarded specification.processes → (entries : List Entry) × Exact data_ canon specification.processes b entries
has_menu data_ canon specification b over guarded =
    let setting : Setting = record { signature = data_.signature; represent = canon; processes = specification.processes } in
    let base : ℕ = first_apart specification.processes b in
    let list : (depth : ℕ) × (moves : List ShapedMove) × (listed_moves setting (leaves_from base) depth 0 b ≡ Some moves) =
    guarded_list setting (leaves_from base) 0 b guarded in
    listed_menu data_ canon specification b list.0 (map (λ (x : ShapedMove). draft_by x.shape base x.move) list.1) over
    (ap (option_map (map (λ (x : ShapedMove). draft_by x.shape base x.move))) list.2)

pub returns : goal.returns
returns c = has_menu
