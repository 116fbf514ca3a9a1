-- Lines of traces that are refused.
use Rattle.std.proofs.Common.{◌≡◌, ℕ, List, ◌++◌, Option, None, Some, IsSomeAnd, codes, decimal, ap, sym, ◌∙◌, append_assoc}
use Rattle.behaviour_semantics.proofs.OptionLemmas.{some_value}
use Rattle.session_log.specs.HandedOn.step_refusals as plain
use Rattle.session_log.specs.HandedOn.{ReplayRefusal}
use Rattle.history_lines.specs.CommandRefusal.{replay_refusal_text}
use Rattle.history_lines.specs.RefusalView.{at_line, number_for}

-- pieces that were added one after another
three_pieces : (before a b c : List ℕ) → before ++ a ++ b ++ c ≡ before ++ (a ++ b ++ c)
three_pieces before a b c = ap (λ (it : List ℕ). it ++ c) (append_assoc before a b) ∙ append_assoc before (a ++ b) c

five_pieces : (before a b c d e : List ℕ) → before ++ a ++ b ++ c ++ d ++ e ≡ before ++ (a ++ b ++ c ++ d ++ e)
five_pieces before a b c d e =
    ap (λ (it : List ℕ). it ++ d ++ e) (three_pieces before a b c)
    ∙ (ap (λ (it : List ℕ). it ++ e) (append_assoc before (a ++ b ++ c) d) ∙ append_assoc before (a ++ b ++ c ++ d) e)

-- the line of a step that is refused, by its number
pub step_added : (name : List ℕ) (line : ℕ) (refusal : Option plain.StepRefusal) (code before after : List ℕ)
    → number_for refusal ≡ Some code
    → after ≡ before ++ codes "refused 812 Step line " ++ decimal line ++ codes " " ++ code ++ codes "\n"
    → IsSomeAnd (at_line line refusal) (λ (why : ReplayRefusal). after ≡ before ++ replay_refusal_text name why)
step_added name line None code before after e h = absurd (cc e)
step_added name line (Some refusal) code before after e h =
    h
    ∙ (five_pieces before (codes "refused 812 Step line ") (decimal line) (codes " ") code (codes "\n")
    ∙ ap (λ (it : List ℕ). before ++ (codes "refused 812 Step line " ++ decimal line ++ codes " " ++ it ++ codes "\n"))
    (sym (some_value e)))
