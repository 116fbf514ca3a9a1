-- What crates above this one need of the crates below it.
pub use Rattle.menu_builder.proofs.HandedOn.{holds_after, held_before, keeps_both}
pub use Rattle.session_histories.proofs.RefusalLemmas.{free_of_count, fit_sorts, IsFree}
pub use Rattle.session_histories.proofs.ReplayLemmas.{no_stop, replay_lawful}
pub use Rattle.session_histories.proofs.StepLemmas.{one_menu, met_free}
