-- The parts of bytes are no longer than these.
use Rattle.std.proofs.Common.{◌≤◌, ◌<◌, ◌+◌, ◌^◌, ◌==◌, ℕ, suc, List, [], ◌∷◌, Bool, true, false, length, if◌then◌else◌, arith}
use Rattle.lotos_base.proofs.Each.{Each}
use Rattle.induct_parts.proofs.HandedOn.{each_more}
use Rattle.induct_check.specs.CertificateLines.{byte_before, parts_at}

abbrev IsWithin : ℕ → List ℕ → Type 0
IsWithin n part = length part ≤ n

before_within : (byte n : ℕ) (parts : List (List ℕ)) → Each (IsWithin n) parts → Each (IsWithin (suc n)) (byte_before byte parts)
before_within byte n [] each = (omega arith, tt)
before_within byte n (p ∷ ps) each =
    (omega (arith, each.0), each_more (IsWithin n) (IsWithin (suc n)) ps (λ part h. omega (arith, h)) each.1)

within_by : (separator byte : ℕ) (bytes : List ℕ) (b : Bool) → Each (IsWithin (length bytes)) (parts_at separator bytes)
    → Each (IsWithin (suc (length bytes))) (if b then [] ∷ parts_at separator bytes else byte_before byte (parts_at separator bytes))
within_by separator byte bytes true each = (
  omega arith,
  each_more (IsWithin (length bytes)) (IsWithin (suc (length bytes))) (parts_at separator bytes)
      (λ part h. omega (arith, h)) each,
)
within_by separator byte bytes false each = before_within byte (length bytes) (parts_at separator bytes) each

within_all : (separator : ℕ) (bytes : List ℕ) → Each (IsWithin (length bytes)) (parts_at separator bytes)
within_all separator [] = (omega arith, tt)
within_all separator (byte ∷ bytes) = within_by separator byte bytes (byte == separator) (within_all separator bytes)

pub short_parts : (separator : ℕ) (bytes : List ℕ) → length bytes + 1 < 2 ^ 32
    → Each (λ (part : List ℕ). length part + 1 < 2 ^ 32) (parts_at separator bytes)
short_parts separator bytes short =
    each_more (IsWithin (length bytes)) (λ (part : List ℕ). length part + 1 < 2 ^ 32) (parts_at separator bytes)
    (λ part h. omega (arith, h, short)) (within_all separator bytes)
