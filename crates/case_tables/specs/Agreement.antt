-- When what came of a case is what it wants.
use Rattle.std.specs.Prelude.{◌≡◌, ℕ, List, Option, Vec, map, option_map}
use Rattle.std.specs.declared.alloc.Global.{Global}
use Rattle.case_tables.specs.declared.cases.Left.{Left}
use Rattle.case_tables.specs.declared.cases.Outcome.{Outcome}

-- the bytes of a text, where there is one
abbrev pub bytes_of : Option (Vec ℕ Global) → Option (List ℕ)
bytes_of text = option_map (λ (bytes : Vec ℕ Global). bytes.items) text

-- the bytes of a text that is left
abbrev pub left_bytes : Left → Option (List ℕ)
left_bytes left = bytes_of left.text

-- the same bytes are printed, the status is the same, and the same texts are left
pub record Agrees (wanted came : Outcome) : Type 0 where
  pub prints : bytes_of wanted.prints ≡ bytes_of came.prints
  pub status : wanted.status ≡ came.status
  pub leaves : map left_bytes wanted.leaves.items ≡ map left_bytes came.leaves.items
