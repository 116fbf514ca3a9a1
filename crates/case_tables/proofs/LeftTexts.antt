-- Texts at one index of two lists that are alike.
use Rattle.std.proofs.Common.{◌≡◌, ℕ, ◌<◌, List, map, length, get_or, sym, ◌∙◌, ap}
use Rattle.std.proofs.lemmas.List.{get_or-map}
use Rattle.case_tables.specs.Agreement.{left_bytes}
use Rattle.case_tables.specs.declared.cases.Left.{Left}

-- where the texts of two lists are the same, those at an index are
pub left_alike : (xs ys : List Left) (i : ℕ) (x y : Left) → i < length xs → i < length ys → x ≡ get_or xs i x → y ≡ get_or ys i y
    → map left_bytes xs ≡ map left_bytes ys → left_bytes x ≡ left_bytes y
left_alike xs ys i x y within within' is is' alike =
    ap left_bytes is ∙ sym (get_or-map left_bytes xs i x (left_bytes x) within) ∙ ap (λ (l : List _). get_or l i (left_bytes x)) alike
    ∙ get_or-map left_bytes ys i y (left_bytes x) within' ∙ sym (ap left_bytes is')
