use Rattle.std.proofs.Common.{◌≡◌, ℕ, suc, ◌+◌, ◌<◌, false, List, ◌∷◌, drop, length, get_or, Option, Some, None, option_map, codes, refl, ap, ◌∙◌, arith, add-one}
use Rattle.std.proofs.Math.Seq.{drop-cons}
use Rattle.lotos_lexer.specs.Bytes.{begins_with}
use Rattle.lotos_lexer.specs.Pieces.{close_at}

shifted-suc : (index : ℕ) (closed : Option ℕ) → option_map (λ n. index + n) (option_map suc closed) ≡ option_map (λ n. index + 1 + n) closed
shifted-suc index None = refl
shifted-suc index (Some closed) = let same : index + suc closed ≡ index + 1 + closed = omega arith in ap (λ n. Some n) same

-- the comment is not closed at the index
pub close_at-later : (bytes : List ℕ) (index : ℕ) → index < length bytes → begins_with (codes "*)") (drop index bytes) ≡ false
    → option_map (λ n. index + n) (close_at (drop index bytes)) ≡ option_map (λ n. index + 1 + n) (close_at (drop (index + 1) bytes))
close_at-later bytes index within open_still =
    let rest : List ℕ = drop (index + 1) bytes in
    let byte : ℕ = get_or bytes index 0 in
    let split : drop index bytes ≡ byte ∷ rest = rw add-one (drop-cons bytes index 0 within) in
    let no : begins_with (codes "*)") (byte ∷ rest) ≡ false = rw split at open_still in
    let step : close_at (byte ∷ rest) ≡ option_map suc (close_at rest) = rw no refl in
    ap (λ it. option_map (λ n. index + n) (close_at it)) split
    ∙ (ap (λ it. option_map (λ n. index + n) it) step ∙ shifted-suc index (close_at rest))
