-- Texts, piece by piece.
use Rattle.std.proofs.Common.{refl, ap, sym, ◌∙◌, ◌≡◌, ℕ, zero, suc, ◌+◌, List, ◌++◌, add-one, codes}
use Rattle.std.proofs.lemmas.List.{append-nil, append_assoc}
use Rattle.lotos_base.proofs.Pieces.{two_pieces, three_pieces}
use Rattle.demo_walks.specs.DemoText.{numeral, repeated, cell_line, cell_lines}

-- a text so many times and once more
pub once_more : (s0 s1 s2 text : List ℕ) (times : ℕ) → s1 ≡ s0 ++ repeated times text → s2 ≡ s1 ++ text
    → s2 ≡ s0 ++ repeated (times + 1) text
once_more s0 s1 s2 text times e f =
    two_pieces s0 s1 s2 (repeated times text) text e f ∙ ap (λ (n : ℕ). s0 ++ repeated n text) (sym (add-one times))

-- the first of them is the last
first_is_last : (times : ℕ) (text : List ℕ) → text ++ repeated times text ≡ repeated times text ++ text
first_is_last zero text = append-nil text
first_is_last (suc times) text =
    sym (append_assoc text (repeated times text) text) ∙ ap (λ (it : List ℕ). it ++ text) (first_is_last times text)

-- a number as a term has its brackets around 0
numeral_is : (value : ℕ) → numeral value ≡ repeated value (codes "Succ(") ++ codes "0" ++ repeated value (codes ")")
numeral_is zero = refl
numeral_is (suc value) =
    ap (λ (it : List ℕ). codes "Succ(" ++ it ++ codes ")") (numeral_is value)
    ∙ around (codes "Succ(") (repeated value (codes "Succ(")) (codes "0") (repeated value (codes ")")) (codes ")")
    (first_is_last value (codes "Succ("))
  where
    around : (a front z back b : List ℕ) → a ++ front ≡ front ++ a → a ++ (front ++ z ++ back) ++ b ≡ front ++ a ++ z ++ (back ++ b)
    around a front z back b turned =
        ap (λ (it : List ℕ). it ++ b)
        (sym (append_assoc a (front ++ z) back) ∙ ap (λ (it : List ℕ). it ++ back) (sym (append_assoc a front z)))
        ∙ append_assoc (a ++ front ++ z) back b
        ∙ ap (λ (it : List ℕ). it ++ z ++ (back ++ b)) turned

pub numeral_whole : (s0 s1 s2 s3 : List ℕ) (value : ℕ) → s1 ≡ s0 ++ repeated value (codes "Succ(") → s2 ≡ s1 ++ codes "0"
    → s3 ≡ s2 ++ repeated value (codes ")") → s3 ≡ s0 ++ numeral value
numeral_whole s0 s1 s2 s3 value e f g =
    three_pieces s0 s1 s2 s3 (repeated value (codes "Succ(")) (codes "0") (repeated value (codes ")")) e f g
    ∙ ap (λ (it : List ℕ). s0 ++ it) (sym (numeral_is value))

-- the lines of one cell more
pub one_line_more : (s0 s1 s2 : List ℕ) (cell : ℕ) → s1 ≡ s0 ++ cell_lines cell → s2 ≡ s1 ++ cell_line cell
    → s2 ≡ s0 ++ cell_lines (cell + 1)
one_line_more s0 s1 s2 cell e f =
    two_pieces s0 s1 s2 (cell_lines cell) (cell_line cell) e f ∙ ap (λ (n : ℕ). s0 ++ cell_lines n) (sym (add-one cell))
