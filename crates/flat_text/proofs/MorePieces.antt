-- Texts that are written in more than three pieces.
use Rattle.std.proofs.Common.{◌≡◌, ◌++◌, ℕ, List}
use Rattle.lotos_base.proofs.Pieces.{two_pieces, three_pieces}

pub four_pieces : (start a b c end f g h i : List ℕ) → a ≡ start ++ f → b ≡ a ++ g → c ≡ b ++ h → end ≡ c ++ i
    → end ≡ start ++ (f ++ g ++ h ++ i)
four_pieces start a b c end f g h i p q r s = two_pieces start c end (f ++ g ++ h) i (three_pieces start a b c f g h p q r) s

pub five_pieces : (start a b c d end f g h i j : List ℕ) → a ≡ start ++ f → b ≡ a ++ g → c ≡ b ++ h → d ≡ c ++ i → end ≡ d ++ j
    → end ≡ start ++ (f ++ g ++ h ++ i ++ j)
five_pieces start a b c d end f g h i j p q r s t =
    two_pieces start d end (f ++ g ++ h ++ i) j (four_pieces start a b c d f g h i p q r s) t

pub six_pieces : (start a b c d e end f g h i j k : List ℕ) → a ≡ start ++ f → b ≡ a ++ g → c ≡ b ++ h → d ≡ c ++ i → e ≡ d ++ j
    → end ≡ e ++ k → end ≡ start ++ (f ++ g ++ h ++ i ++ j ++ k)
six_pieces start a b c d e end f g h i j k p q r s t u =
    two_pieces start e end (f ++ g ++ h ++ i ++ j) k (five_pieces start a b c d e f g h i j p q r s t) u
