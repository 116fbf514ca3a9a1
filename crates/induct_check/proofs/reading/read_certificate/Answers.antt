use Rattle.std.proofs.Common.{◌+◌, ◌<◌, ◌^◌, List, ℕ, length, map, ap, sym, ◌∙◌, subst}
use Rattle.std.proofs.lemmas.List.{length-map}
use Rattle.lotos_base.proofs.Each.{Each}
use Rattle.induct_check.proofs.FewLines.{some_parts}
use Rattle.induct_check.proofs.ShortParts.{short_parts}
use Rattle.induct_check.proofs.reading.read_certificate.Goals as goal

pub read_parts-requires-clause-some : goal.read_parts-requires-clause-some
read_parts-requires-clause-some c =
    subst (λ xs. 0 < length xs) (sym c.as_slice.ensures.value)
    (subst (λ n. 0 < n) (sym (ap length c.in_ok-parts.ensures) ∙ length-map c.in_ok-parts.parts.items (λ part. part.now))
    (some_parts 10 c.args.text.now))

pub read_parts-requires-clause-short : goal.read_parts-requires-clause-short
read_parts-requires-clause-short c =
    subst (λ xs. Each (λ (part : List ℕ). length part + 1 < 2 ^ 32) (map (λ part. part.now) xs)) (sym c.as_slice.ensures.value)
    (subst (λ xs. Each (λ (part : List ℕ). length part + 1 < 2 ^ 32) xs) (sym c.in_ok-parts.ensures)
    (short_parts 10 c.args.text.now c.requires.short))
