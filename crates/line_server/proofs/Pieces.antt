use Rattle.std.proofs.Common.{◌≡◌, ℕ, ◌+◌, ◌-◌, List, ◌++◌, take, drop, length, Option, Some, None, IfSome, sym, ap, ◌∙◌, append_assoc}
use Rattle.std.proofs.Math.Seq.{take-add}
use Rattle.std.proofs.lemmas.List.{take_rest}

-- one more piece of a text is written
pub written_more : (before here after : Option (List ℕ)) (text : List ℕ) (count more : ℕ)
    → IfSome before (λ written. here ≡ Some (written ++ take count text))
    → IfSome here (λ written. after ≡ Some (written ++ take more (take (length text - count) (drop count text))))
    → IfSome before (λ written. after ≡ Some (written ++ take (count + more) text))
written_more None here after text count more so_far step = tt
written_more (Some written) here after text count more so_far step =
    let now = rw (take_rest text count) at (rw so_far at step) in
    now ∙ ap (λ (it : List ℕ). Some it) (append_assoc written (take count text) (take more (drop count text))
    ∙ ap (λ it. written ++ it) (sym (take-add count more text)))
