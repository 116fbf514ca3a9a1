-- The keys of a set of keys.
use Rattle.std.specs.Prelude.{ℕ, List, map}
use Rattle.type_presentations.specs.declared.key_set.KeySet.{KeySet}

-- the keys in the order of their numbers
abbrev pub keys_in_set : KeySet → List (List ℕ)
keys_in_set set = map (λ key. key.items) set.keys.keys
