-- Formal gates with actual ones, one by one.
use Rattle.std.proofs.Common.{◌≡◌, ◌≤◌, ◌++◌, ℕ, List, [], drop, length, ap, sym, ◌∙◌, append-nil}
use Rattle.std.proofs.Math.ListN.{drop_of_length-le}
use Rattle.std.specs.Prelude.{zip}
use Rattle.lotos_base.proofs.Pieces.{zip-nil}

pub without_actuals : (formals actuals : List ℕ) (made : List (ℕ × ℕ)) (i : ℕ) → length actuals ≤ i
    → made ++ zip (drop i formals) (drop i actuals) ≡ zip formals actuals → made ≡ zip formals actuals
without_actuals formals actuals made i past before =
    sym (append-nil made)
    ∙ ap (λ (ps : List (ℕ × ℕ)). made ++ ps) (sym (zip-nil (drop i formals) (drop i actuals) (drop_of_length-le actuals past))) ∙ before
