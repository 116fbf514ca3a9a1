-- What crates above this one need of the crates below it.
pub use Rattle.behaviour_instances.specs.InstanceTerms.{instance_profiles}
pub use Rattle.behaviour_instances.specs.Suited.{SuitsWhere}
pub use Rattle.draft_parts.specs.HandedOn.{KeepsData, label_profiles}
pub use Rattle.term_match.specs.ProfiledInstance.{profiled_binding}
pub use Rattle.term_match.specs.SubstView.{profiled_pairs}
