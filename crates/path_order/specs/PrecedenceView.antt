-- The precedence that a precedence of the code stands for.
use Rattle.std.specs.Prelude.{ℕ, List, slice_index}
use Rattle.std.proofs.Common.{get_or}
use Rattle.rewriting_theory.specs.Precedence.{Status as PlainStatus, Precedence as PlainPrecedence, from_left, from_right}
use Rattle.path_order.specs.declared.status.Status.{Status}
use Rattle.path_order.specs.declared.status.Status.TheVariants.{Left, Right}
use Rattle.path_order.specs.declared.precedence.Precedence.{Precedence}

-- from which side arguments are compared
abbrev pub status_of : Status → PlainStatus
status_of Left = from_left
status_of Right = from_right

-- the status at a position, from the left past the end
abbrev pub status_by_number : List Status → ℕ → PlainStatus
status_by_number statuses f = status_of (get_or statuses f Left)

-- Ranks by number, 0 past the list, and statuses by number, from the left past the list.
abbrev pub precedence_of : Precedence → PlainPrecedence
precedence_of precedence = record {
  rank = λ f. slice_index precedence.ranks.items f;
  status = λ f. status_by_number precedence.statuses.items f;
}
