use Rattle.std.proofs.Common.{◌∙◌, ℕ, List, ap, sym}
use Rattle.lotos_base.specs.Name.{spelling}
use Rattle.lotos_base.specs.WrittenTerm.{WrittenProfile}
use Rattle.sentence_building.proofs.SortNames.{names_of_sorts}
use Rattle.sentence_building.proofs.starts.by_name.Goals as goal

-- the sorts lose their places
pub returns : goal.returns
returns c =
    let with_arguments : List (List ℕ) → WrittenProfile = λ arguments.
    record { arguments = arguments; result = spelling c.args.profile.result.1 } in
    ap with_arguments (c.in_ok-sort_names.ensures ∙ sym (names_of_sorts c.args.profile.arguments.items))
