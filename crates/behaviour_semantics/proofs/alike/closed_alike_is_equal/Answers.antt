-- Nothing is put into a ground term.
use Rattle.behaviour_semantics.proofs.ClosedAlike.{ground_terms, ground_lists, closed_labels}
use Rattle.behaviour_semantics.proofs.alike.closed_alike_is_equal.Goals as goal

pub returns : goal.returns
returns c = record { terms = ground_terms; lists = ground_lists; labels = closed_labels }
