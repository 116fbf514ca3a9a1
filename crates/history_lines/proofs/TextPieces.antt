-- Texts that are written in pieces.
use Rattle.std.proofs.Common.{◌≡◌, ℕ, List, [], ◌++◌, ap, ◌∙◌, append_assoc}
use Rattle.lotos_base.proofs.Pieces.{in_three}

pub in_two : (before a b one after : List ℕ) → one ≡ before ++ a → after ≡ one ++ b → after ≡ before ++ (a ++ b)
in_two before a b one after p q = q ∙ (ap (λ (it : List ℕ). it ++ b) p ∙ append_assoc before a b)

pub in_four : (before a b c d one two three after : List ℕ) → one ≡ before ++ a → two ≡ one ++ b → three ≡ two ++ c
    → after ≡ three ++ d → after ≡ before ++ (a ++ (b ++ (c ++ d)))
in_four before a b c d one two three after p q r s =
    in_two before a (b ++ (c ++ d)) one after p (in_three one b c d two three after q r s)

pub in_five : (before a b c d e one two three four after : List ℕ) → one ≡ before ++ a → two ≡ one ++ b → three ≡ two ++ c
    → four ≡ three ++ d → after ≡ four ++ e → after ≡ before ++ (a ++ (b ++ (c ++ (d ++ e))))
in_five before a b c d e one two three four after p q r s t =
    in_two before a (b ++ (c ++ (d ++ e))) one after p (in_four one b c d e two three four after q r s t)

pub in_seven : (before a b c d e f g one two three four five six after : List ℕ) → one ≡ before ++ a → two ≡ one ++ b → three ≡ two ++ c
    → four ≡ three ++ d → five ≡ four ++ e → six ≡ five ++ f → after ≡ six ++ g
    → after ≡ before ++ (a ++ (b ++ (c ++ (d ++ (e ++ (f ++ g))))))
in_seven before a b c d e f g one two three four five six after p q r s t u v =
    in_two before a (b ++ (c ++ (d ++ (e ++ (f ++ g))))) one after p
    (in_two one b (c ++ (d ++ (e ++ (f ++ g)))) two after q (in_five two c d e f g three four five six after r s t u v))

-- the same behind nothing
pub fresh_one : (start a after : List ℕ) → start ≡ [] → after ≡ start ++ a → after ≡ a
fresh_one start a after none p = p ∙ ap (λ (it : List ℕ). it ++ a) none

pub fresh_two : (start a b one after : List ℕ) → start ≡ [] → one ≡ start ++ a → after ≡ one ++ b → after ≡ a ++ b
fresh_two start a b one after none p q = fresh_one start (a ++ b) after none (in_two start a b one after p q)

pub fresh_three : (start a b c one two after : List ℕ) → start ≡ [] → one ≡ start ++ a → two ≡ one ++ b → after ≡ two ++ c
    → after ≡ a ++ (b ++ c)
fresh_three start a b c one two after none p q r = fresh_one start (a ++ (b ++ c)) after none (in_three start a b c one two after p q r)

pub fresh_four : (start a b c d one two three after : List ℕ) → start ≡ [] → one ≡ start ++ a → two ≡ one ++ b → three ≡ two ++ c
    → after ≡ three ++ d → after ≡ a ++ (b ++ (c ++ d))
fresh_four start a b c d one two three after none p q r s =
    fresh_one start (a ++ (b ++ (c ++ d))) after none (in_four start a b c d one two three after p q r s)
