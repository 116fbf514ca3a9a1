-- What a writer holds after one more write.
use Rattle.std.proofs.Common.{◌≡◌, ℕ, ◌+◌, ◌-◌, List, ◌++◌, take, drop, length, Option, Some, None, sym, ap, ◌∙◌, append_assoc}
use Rattle.std.proofs.Math.Seq.{take-add}
use Rattle.std.proofs.lemmas.List.{take_rest}
use Rattle.std.specs.Io.KnownBytes.{Appends}

-- the first bytes were appended, and then a piece of the rest
pub appends_more : (start here now : Option (List ℕ)) (bytes : List ℕ) (written more : ℕ) → Appends start here (take written bytes)
    → Appends here now (take more (take (length bytes - written) (drop written bytes))) → Appends start now (take (written + more) bytes)
appends_more None here now bytes written more so_far step = tt
appends_more (Some held) None now bytes written more so_far step = absurd so_far
appends_more (Some held) (Some held') None bytes written more so_far step = absurd step
appends_more (Some held) (Some held') (Some held'') bytes written more so_far step =
    let piece : held'' ≡ held' ++ take more (drop written bytes) = rw (take_rest bytes written) at step in
    piece ∙ (ap (λ it. it ++ take more (drop written bytes)) so_far
    ∙ (append_assoc held (take written bytes) (take more (drop written bytes)) ∙ ap (λ it. held ++ it) (sym (take-add written more bytes))))
