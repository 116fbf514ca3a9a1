use Rattle.std.proofs.Common.{ℕ, ap, ◌∙◌}
use Rattle.std.specs.Option.{option_map}
use Rattle.lotos_base.specs.WrittenView.{placed_name_of}
use Rattle.syntax_trees.specs.TreeViews.{pair_of}
use Rattle.sort_terms.specs.Operations.{operation_of}
use Rattle.type_presentations.specs.OperationListView.{operations_in}
use Rattle.type_renaming.specs.Condensed.{operation_kind, place_of_pair}
use Rattle.type_renaming.specs.MakersView.{makers_in}
use Rattle.type_renaming.specs.Noting.{maker_noted}
use Rattle.type_renaming.specs.CameView.{operations_with, are_one_member}
use Rattle.type_renaming.proofs.SettlingLemmas.{as_many, number_within}
use Rattle.type_renaming.proofs.MemberLemmas.{operations_are_lawful, operation_settles, has_image, longer}
use Rattle.type_renaming.proofs.coming_operations.bring_image.Goals as goal

pub note-requires : goal.note-requires
note-requires c =
    number_within (are_one_member operation_kind) operations_are_lawful.itself (operations_in c.args.list.now)
    (operations_in c.add.new.self) (operation_of c.in_ok-shared.shared.value)
    (makers_in c.args.came.now.makers) c.in_ok-added.added.number c.requires.makers c.in_ok-added.ensures.members
    c.in_ok-added.ensures.number

pub returns-clause-few : goal.returns-clause-few
returns-clause-few c =
    longer (are_one_member operation_kind) (operations_in c.args.list.now) (operations_in c.add.new.self)
    (operation_of c.in_ok-shared.shared.value) c.in_ok-added.ensures.members

pub returns-clause-makers : goal.returns-clause-makers
returns-clause-makers c =
    let maker = place_of_pair (option_map (λ p. pair_of p.now) c.in_ok-pair.pair) in
    as_many (are_one_member operation_kind) operations_are_lawful.itself (operations_in c.args.list.now) (operations_in c.add.new.self)
    (operation_of c.in_ok-shared.shared.value)
    (makers_in c.args.came.now.makers) (makers_in c.note.new.self.makers) maker c.requires.makers c.in_ok-added.ensures.members
    (c.in_ok-note.ensures.makers
    ∙ ap (λ (n : ℕ). maker_noted (makers_in c.args.came.now.makers) n maker) c.in_ok-added.ensures.number)

pub returns-clause-came : goal.returns-clause-came
returns-clause-came c = λ a of.
    let pair = option_map (λ p. pair_of p.now) c.in_ok-pair.pair in
    let old = operations_with c.args.list.now c.args.came.now in
    let new = operations_with c.add.new.self c.note.new.self in
    operation_settles a c.args.source.now c.args.sorts.now (operation_of c.args.op.now)
    (operation_of c.in_ok-shared.shared.value) pair old new of c.in_ok-pair.ensures
    (ap operation_of c.in_ok-shared.ensures.ok ∙ c.in_ok-image.ensures)
    (has_image operation_kind (placed_name_of c.args.source.now.mention.now)
    (record { image = operation_of c.in_ok-shared.shared.value; pair = pair }) old new c.in_ok-added.added.number
    c.in_ok-added.added.clashes
    c.is_past_limit-is_too_many.result c.in_ok-added.ensures.members c.in_ok-added.ensures.number c.in_ok-note.ensures.numbers
    c.in_ok-note.ensures.makers c.in_ok-added.ensures.clashes c.in_ok-note.ensures.clash c.is_past_limit-is_too_many.ensures
    c.in_ok-note.ensures.too_many)
