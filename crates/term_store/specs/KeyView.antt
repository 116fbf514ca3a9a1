-- The words of a key: 0 with the number and the sort of a variable, or 1 with an operation and the numbers of its arguments.
use Rattle.std.specs.Prelude.{ℕ, zero, suc, Bool, List, [], ◌∷◌, Option, None, Some, length, nat_eq, nat_lt, if◌then◌else◌}
use Rattle.term_store.specs.Cells.{variable_key, numbered_operation_key}
use Rattle.term_store.specs.declared.key.Key.{Key}
use Rattle.term_store.specs.declared.key.Key.TheVariants.{Variable, Constant, Unary, Binary, Ternary, Many}

-- 0 where a list is as long as it has to be
abbrev pub unless : Bool → ℕ → ℕ
unless fits k = if fits then 0 else k

-- the words; those of a list of another length than it has to be are those of no term
abbrev pub words_of : Key → List ℕ
words_of (Variable s n) = variable_key n s
words_of (Constant f) = numbered_operation_key f []
words_of (Unary f ns) = suc (unless (nat_eq (length ns) 1) 1) ∷ f ∷ ns
words_of (Binary f ns) = suc (unless (nat_eq (length ns) 2) 2) ∷ f ∷ ns
words_of (Ternary f ns) = suc (unless (nat_eq (length ns) 3) 3) ∷ f ∷ ns
words_of (Many f ns) = suc (unless (nat_lt 3 (length ns.value.items)) 4) ∷ f ∷ ns.value.items

-- the number and the sort of a variable
abbrev pub variable_in : List ℕ → Option (ℕ × ℕ)
variable_in (zero ∷ n ∷ s ∷ ns) = Some (n, s)
variable_in words = None
