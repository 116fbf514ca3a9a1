-- What crates above this one need of the crates below it.
pub use Rattle.type_actualisation.proofs.DataLemmas.{actualised_data}
pub use Rattle.type_actualisation.proofs.MapLemmas.{image_there}
pub use Rattle.type_actualisation.proofs.HandedOn.{sorts_there, give_both, give_append, gives_same, give_all_same, numbers_have}
pub use Rattle.type_presentations.proofs.UnionSignatures.{image_in}
pub use Rattle.type_presentations.proofs.UnionData.{union_data}
pub use Rattle.type_actualisation.proofs.HandedOn.{stands_there, comes, in_scope, occurs_numbered, adds_nothing, sides_over, scopes_numbered, variables_over, side_reads}
pub use Rattle.type_presentations.proofs.DeclareLemmas.{sorts_are_known, none_fails}
pub use Rattle.type_presentations.proofs.AddedLemmas.{by_name, by_profile}
pub use Rattle.type_presentations.proofs.EquationImageLemmas.{image_over, identity_image}
pub use Rattle.type_presentations.proofs.GrowthLemmas.{data_in_larger, larger_by_sort, larger_by_operation, well_formed_with_sort}
pub use Rattle.type_presentations.proofs.GrowthLemmas.{well_formed_with_operation, data_with_equation, front_or_last}
pub use Rattle.type_presentations.proofs.KeptLemmas.{differ_and_one}
pub use Rattle.type_presentations.proofs.KeyedLemmas.{mutual_by_key}
pub use Rattle.type_presentations.proofs.OnceLemmas.{any_once}
pub use Rattle.type_presentations.proofs.SignatureLemmas.{sorts_differ, operations_differ, nothing_well_formed}
