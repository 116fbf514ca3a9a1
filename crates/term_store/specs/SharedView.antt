-- The keys of terms that are kept once.
use Rattle.std.specs.Prelude.{ℕ, List, map}
use Rattle.term_store.specs.KeyView.{words_of}
use Rattle.term_store.specs.declared.shared.SharedTerms.{SharedTerms}

-- the keys in the order of their numbers
abbrev pub keys_in : SharedTerms → List (List ℕ)
keys_in shared = map words_of shared.keys.keys
