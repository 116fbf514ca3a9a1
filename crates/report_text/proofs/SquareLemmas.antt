-- Square brackets that are closed behind what was written since they were opened.
use Rattle.std.proofs.Common.{◌≡◌, ℕ, List, ◌++◌, codes, length, ◌∙◌, ap, append_assoc}
use Rattle.std.proofs.Math.Seq.{take-append_seam, drop-append_seam}
use Rattle.printed_texts.specs.Brackets.{spaced, square}
use Rattle.report_text.specs.Squares.{square_closed}

squares : (head text : List ℕ) → square_closed (length (head ++ codes "[")) ((head ++ codes "[") ++ text) ≡ head ++ square text
squares head text =
    rw (take-append_seam (head ++ codes "[") text) (rw (drop-append_seam (head ++ codes "[") text)
    (ap (λ xs. xs ++ codes "]") (append_assoc head (codes "[") (spaced 62 text)) ∙ append_assoc head (codes "[" ++ spaced 62 text) (codes
    "]")))

-- the same, where the parts are known by equations
pub square_text :
    (head opened written end text : List ℕ) (position : ℕ) →
    opened ≡ head ++ codes "[" →
    position ≡ length opened →
    written ≡ opened ++ text →
    end ≡ square_closed position written →
    end ≡ head ++ square text
square_text head opened written end text position is_opened at is_written is_end =
    is_end
    ∙ ap (λ xs. square_closed position xs) (is_written ∙ ap (λ xs. xs ++ text) is_opened)
    ∙ ap (λ n. square_closed n ((head ++ codes "[") ++ text)) (at ∙ ap length is_opened)
    ∙ squares head text
