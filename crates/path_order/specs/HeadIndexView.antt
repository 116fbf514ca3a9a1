-- The numbers that an index has under an operation.
use Rattle.std.specs.Prelude.{ℕ, List, [], slice_get}
use Rattle.std.specs.Option.{option_map_or}
use Rattle.path_order.specs.declared.head_index.HeadIndex.{HeadIndex}

-- the numbers under the operation with this number, none past the list
abbrev pub numbers_at : HeadIndex → ℕ → List ℕ
numbers_at index f = option_map_or (λ numbers. numbers.items) (slice_get index.numbers.items f) []
