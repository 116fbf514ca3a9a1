-- Texts by their bytes: those of printable characters, and those that stand on one line.
use Rattle.std.specs.Prelude.{◌≡◌, ℕ, List, Bool, true, false, ◌&&◌, nat_eq, nat_lt}
use Rattle.std.specs.List.{list_any}
use Rattle.behaviour_semantics.specs.WellFormed.{Every}

-- each byte of the text passes the test
abbrev pub AllPass : (ℕ → Bool) → List ℕ → Type 0
AllPass passes text = Every (λ (byte : ℕ). passes byte ≡ true) text

-- a printable character of ASCII: from the blank, 32, to the tilde, 126
abbrev pub is_printable : ℕ → Bool
is_printable byte = nat_lt 31 byte && nat_lt byte 127

-- the text stands on one line: it has no line feed, 10, and no carriage return, 13
pub record IsOnOneLine (text : List ℕ) : Type 0 where
  pub no_line_feed : list_any (nat_eq 10) text ≡ false
  pub no_return : list_any (nat_eq 13) text ≡ false
