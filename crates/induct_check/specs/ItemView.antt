-- What one item of a cover or a tree lists.
use Rattle.std.specs.Prelude.{◌≡◌, ℕ, List, [], ◌∷◌, None}
use Rattle.lotos_base.specs.Signature.{Signature}
use Rattle.lotos_base.specs.WrittenTerm.{ListedOperation}
use Rattle.path_order.specs.Listed.{AreListedBy}

-- The item has no status and lists these operations; or there are none, and it has a status or lists no operation.
abbrev pub ItemGives : Signature → ListedOperation → List ℕ → Type 0
ItemGives signature item [] = (f : ℕ) (fs : List ℕ) → item.status ≡ None → ¬ AreListedBy signature item (f ∷ fs)
ItemGives signature item (f ∷ fs) = (item.status ≡ None) × AreListedBy signature item (f ∷ fs)
