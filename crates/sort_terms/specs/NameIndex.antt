-- The numbers that an index has under a name.
use Rattle.std.specs.Prelude.{ℕ, List, []}
use Rattle.std.specs.Option.{option_map_or}
use Rattle.std.specs.HashMap.{get_by}
use Rattle.std.specs.Str.{bytes_eq}
use Rattle.sort_terms.specs.declared.name_index.NameIndex.{NameIndex}

-- the numbers under the name with these small letters
abbrev pub numbers_under : NameIndex → List ℕ → List ℕ
numbers_under index key = option_map_or (λ numbers. numbers.items) (get_by (λ known. bytes_eq key known.items) index.numbers) []
