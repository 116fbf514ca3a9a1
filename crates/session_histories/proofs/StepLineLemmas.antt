-- The line of a step, written in pieces.
use Rattle.std.proofs.Common.{◌≡◌, ℕ, List, ◌++◌, codes, ap, sym, ◌∙◌, append_assoc}
use Rattle.session_histories.specs.TraceText.{ended}

pub line_written : (start number given before label end : List ℕ) (a b c d : List ℕ) → number ≡ start ++ a → given ≡ number ++ b
    → before ≡ given ++ codes " => " → label ≡ before ++ c → end ≡ label ++ codes "\n" → d ≡ a ++ b ++ codes " => " ++ c
    → end ≡ start ++ ended d
line_written start number given before label end a b c d is_number is_given is_before is_label is_end is =
    is_end
    ∙ (ap (λ (it : List ℕ). it ++ codes "\n") (is_label
    ∙ ap (λ (it : List ℕ). it ++ c) (is_before
    ∙ ap (λ (it : List ℕ). it ++ codes " => ") (is_given ∙ ap (λ (it : List ℕ). it ++ b) is_number)))
    ∙ (ap (λ (it : List ℕ). it ++ codes "\n") (
    ap (λ (it : List ℕ). it ++ codes " => " ++ c) (append_assoc start a b)
    ∙ (ap (λ (it : List ℕ). it ++ c) (append_assoc start (a ++ b) (codes " => "))
    ∙ append_assoc start (a ++ b ++ codes " => ") c)
    )
    ∙ (append_assoc start (a ++ b ++ codes " => " ++ c) (codes "\n")
    ∙ ap (λ (it : List ℕ). start ++ ended it) (sym is))))
