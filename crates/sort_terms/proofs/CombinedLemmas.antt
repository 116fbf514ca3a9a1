-- How arguments are combined, one after the other.
use Rattle.std.proofs.Common.{◌≡◌, ℕ, suc, ◌+◌, ◌<◌, get_or, Bool, true, false, List, [], ◌∷◌, length, drop, refl, ap, sym, ◌∙◌, arith}
use Rattle.std.specs.Prelude.{Option, Some, None, ◌||◌}
use Rattle.std.proofs.Math.Seq.{drop-cons}
use Rattle.sort_terms.specs.ChoicesView.{choice_at}
use Rattle.sort_terms.specs.Tables.{Table, combined, with_argument_read, choice_at_sort}
use Rattle.sort_terms.specs.TableView.{table_level, table_of, tables_of}
use Rattle.sort_terms.specs.declared.choices.Choice.{Choice}
use Rattle.sort_terms.specs.declared.counted.Counted.{Counted, out-Counted}
use Rattle.sort_terms.specs.declared.counted.Counted.TheFolds.{fold_out-Counted}

-- whether there are several readings, some of which are known already
abbrev pub with_several : Bool → Option Bool → Option Bool
with_several b None = None
with_several b (Some several) = Some (b || several)

none_then : (c : Option Choice) → with_argument_read c None ≡ None
none_then None = refl
none_then (Some c) = refl

-- argument lists of another length have no readings
pub other_length : (sorts : List ℕ) (arguments : List Counted) → ¬ (length sorts ≡ length arguments)
    → None ≡ combined sorts (tables_of arguments)
other_length [] [] differ = absurd (differ refl)
other_length [] (a ∷ arguments) differ = refl
other_length (s ∷ sorts) [] differ = refl
other_length (s ∷ sorts) (a ∷ arguments) differ =
    sym (none_then (choice_at_sort (table_of a) s))
    ∙ ap (λ (r : Option Bool). with_argument_read (choice_at_sort (table_of a) s) r)
    (other_length sorts arguments (λ same. differ (ap (λ (n : ℕ). suc n) same)))

-- what the table of a counted term has at a sort
pub table_choices : (a : Counted) (s : ℕ) → choice_at_sort (table_of a) s ≡ choice_at (out-Counted a).choices s
table_choices a s = ap (λ (t : Table). choice_at_sort t s) (fold_out-Counted Table table_level a)

dropped : (sorts : List ℕ) (arguments : List Counted) (i s : ℕ) (a : Counted) → i < length sorts → i < length arguments
    → s ≡ get_or sorts i s → a ≡ get_or arguments i a
    → combined (drop i sorts) (tables_of (drop i arguments))
    ≡ with_argument_read (choice_at_sort (table_of a) s) (combined (drop (suc i) sorts) (tables_of (drop (suc i) arguments)))
dropped sorts arguments i s a within inside is at =
    ap (λ (ss : List ℕ). combined ss (tables_of (drop i arguments)))
    (drop-cons sorts i s within ∙ ap (λ (x : ℕ). x ∷ drop (suc i) sorts) (sym is))
    ∙ ap (λ (rest : List Counted). combined (s ∷ drop (suc i) sorts) (tables_of rest))
    (drop-cons arguments i a inside ∙ ap (λ (x : Counted). x ∷ drop (suc i) arguments) (sym at))

-- an argument without a reading
pub combined_none : (sorts : List ℕ) (arguments : List Counted) (i s : ℕ) (a : Counted) (b : Bool) → i < length sorts → i < length arguments
    → s ≡ get_or sorts i s → a ≡ get_or arguments i a → None ≡ choice_at (out-Counted a).choices s
    → combined sorts (tables_of arguments) ≡ with_several b (combined (drop i sorts) (tables_of (drop i arguments)))
    → None ≡ combined sorts (tables_of arguments)
combined_none sorts arguments i s a b within inside is at none so_far =
    let nothing : combined (drop i sorts) (tables_of (drop i arguments)) ≡ None =
    dropped sorts arguments i s a within inside is at
    ∙ ap (λ (c : Option Choice). with_argument_read c (combined (drop (suc i) sorts) (tables_of (drop (suc i) arguments))))
    (table_choices a s ∙ sym none) in
    sym (so_far ∙ ap (λ (r : Option Bool). with_several b r) nothing)

with_one_more : (b : Bool) (c : Choice) (r : Option Bool) → with_several b (with_argument_read (Some c) r) ≡ with_several (b || c.several) r
with_one_more b c None = refl
with_one_more true c (Some r) = refl
with_one_more false c (Some r) = refl

-- an argument with readings
pub combined_more : (sorts : List ℕ) (arguments : List Counted) (i s : ℕ) (a : Counted) (b d : Bool) (c : Choice) → i < length sorts
    → i < length arguments → s ≡ get_or sorts i s → a ≡ get_or arguments i a → Some c ≡ choice_at (out-Counted a).choices s
    → d ≡ (b || c.several)
    → combined sorts (tables_of arguments) ≡ with_several b (combined (drop i sorts) (tables_of (drop i arguments)))
    → combined sorts (tables_of arguments) ≡ with_several d (combined (drop (i + 1) sorts) (tables_of (drop (i + 1) arguments)))
combined_more sorts arguments i s a b d c within inside is at some both so_far =
    let next : i + 1 ≡ suc i = omega arith in
    so_far
    ∙ ap (λ (r : Option Bool). with_several b r) (dropped sorts arguments i s a within inside is at
    ∙ ap (λ (o : Option Choice). with_argument_read o (combined (drop (suc i) sorts) (tables_of (drop (suc i) arguments))))
    (table_choices a s ∙ sym some))
    ∙ with_one_more b c (combined (drop (suc i) sorts) (tables_of (drop (suc i) arguments)))
    ∙ ap (λ (x : Bool). with_several x (combined (drop (suc i) sorts) (tables_of (drop (suc i) arguments)))) (sym both)
    ∙ ap (λ (j : ℕ). with_several d (combined (drop j sorts) (tables_of (drop j arguments)))) (sym next)
