-- The texts of an opening, part by part.
use Rattle.std.proofs.Common.{◌≡◌, ℕ, List, ◌++◌, length, codes, decimal, ap, ◌∙◌}
use Rattle.lotos_base.proofs.Pieces.{two_pieces}
use Rattle.lotos_base.specs.Equation.{Data}
use Rattle.certificate_verbs.specs.HandedOn.{head_text}

pub named : (s t shown name : List ℕ) → t ≡ s ++ shown → shown ≡ name → t ≡ s ++ name
named s t shown name is same = is ∙ ap (λ (xs : List ℕ). s ++ xs) same

pub head_joined : (s0 s1 s2 s3 s4 s5 s6 s7 s8 s9 a b c d e f g h i : List ℕ) → s1 ≡ s0 ++ a → s2 ≡ s1 ++ b → s3 ≡ s2 ++ c
    → s4 ≡ s3 ++ d → s5 ≡ s4 ++ e → s6 ≡ s5 ++ f → s7 ≡ s6 ++ g → s8 ≡ s7 ++ h → s9 ≡ s8 ++ i
    → s9 ≡ s0 ++ (a ++ b ++ c ++ d ++ e ++ f ++ g ++ h ++ i)
head_joined s0 s1 s2 s3 s4 s5 s6 s7 s8 s9 a b c d e f g h i e1 e2 e3 e4 e5 e6 e7 e8 e9 =
    two_pieces s0 s8 s9 _ i
    (two_pieces s0 s7 s8 _ h (two_pieces s0 s6 s7 _ g (two_pieces s0 s5 s6 _ f (two_pieces s0 s4 s5 _ e (two_pieces s0 s3 s4 _ d
    (two_pieces s0 s2 s3 _ c (two_pieces s0 s1 s2 a b e1 e2) e3) e4) e5) e6) e7) e8) e9

pub head_written : (s0 s1 s2 s3 s4 s5 s6 s7 s8 s9 name : List ℕ) (data_ : Data) → s1 ≡ s0 ++ codes "accepted " → s2 ≡ s1 ++ name
    → s3 ≡ s2 ++ codes "\ndata: " → s4 ≡ s3 ++ decimal (length data_.signature.sorts) → s5 ≡ s4 ++ codes " sorts, "
    → s6 ≡ s5 ++ decimal (length data_.signature.operations) → s7 ≡ s6 ++ codes " operations, "
    → s8 ≡ s7 ++ decimal (length data_.equations) → s9 ≡ s8 ++ codes " equations\n" → s9 ≡ s0 ++ head_text name data_
head_written s0 s1 s2 s3 s4 s5 s6 s7 s8 s9 name data_ e1 e2 e3 e4 e5 e6 e7 e8 e9 =
    head_joined s0 s1 s2 s3 s4 s5 s6 s7 s8 s9 _ name _ _ _ _ _ _ _ e1 e2 e3 e4 e5 e6 e7 e8 e9

pub opening_joined : (s0 s1 s2 head shown menu : List ℕ) → s1 ≡ s0 ++ head → s2 ≡ s1 ++ shown → shown ≡ menu
    → s2 ≡ s0 ++ (head ++ menu)
opening_joined s0 s1 s2 head shown menu e f same = two_pieces s0 s1 s2 head menu e (named s1 s2 shown menu f same)

pub shown_same : {F S M : Type 0} {f g : F} {s t : S} {m n : M} (shown : F → S → M → List ℕ) → f ≡ g → s ≡ t → m ≡ n
    → shown f s m ≡ shown g t n
shown_same shown same_f same_s same_m = λ i. shown (same_f i) (same_s i) (same_m i)
