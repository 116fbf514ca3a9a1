-- Gates and labels under composed relabellings.
use Rattle.std.proofs.Common.{◌≡◌, ℕ, [], ◌∷◌, ◌++◌, map, filter, not, nat_eq, Bool, true, false, refl, ap, sym, ◌∙◌, eqb-true, subst}
use Rattle.lotos_base.specs.Substitution.{is_listed}
use Rattle.behaviour_semantics.specs.Behaviour.{Relabelling}
use Rattle.behaviour_semantics.specs.Label.{Label, inner_event, gate_event, exit_event, gate_under, label_under, formals_of, then_relabelling}

-- A relabelling without some formal gates, among which the gate is not, gives the gate what the whole one gives.
gate_under-filter : (keep : ℕ → Bool) (pairs : Relabelling) (g : ℕ) → keep g ≡ true
    → gate_under (filter (λ (pair : ℕ × ℕ). keep pair.0) pairs) g ≡ gate_under pairs g
gate_under-filter keep [] g k = refl
gate_under-filter keep (pair ∷ pairs) g k = by (nat_eq pair.0 g) refl (keep pair.0) refl (gate_under-filter keep pairs g k)
  where
    by : (same : Bool) → nat_eq pair.0 g ≡ same → (kept : Bool) → keep pair.0 ≡ kept
        → gate_under (filter (λ (p : ℕ × ℕ). keep p.0) pairs) g ≡ gate_under pairs g
        → gate_under (filter (λ (p : ℕ × ℕ). keep p.0) (pair ∷ pairs)) g ≡ gate_under (pair ∷ pairs) g
    by true e true h rest = rw h (rw e refl)
    by false e true h rest = rw h (rw e rest)
    by false e false h rest = rw h (rw e rest)
    by true e false h rest = let f : keep g ≡ false = subst (λ n. keep n ≡ false) (eqb-true pair.0 g e) h in absurd (cc (f, k))

-- The gate of an appended relabelling whose first part has the gate's formal, or lacks it.
in_first : (first : Relabelling) (second rest : Relabelling) (g : ℕ) → is_listed (formals_of first) g ≡ true
    → gate_under (map (λ (pair : ℕ × ℕ). (pair.0, gate_under second pair.1)) first ++ rest) g ≡ gate_under second (gate_under first g)
in_first [] second rest g e = absurd (cc)
in_first (pair ∷ pairs) second rest g e = by (in_first pairs second rest g) (nat_eq pair.0 g) refl
  where
    by : (is_listed (formals_of pairs) g ≡ true → gate_under (map (λ (p : ℕ × ℕ). (p.0, gate_under second p.1)) pairs ++ rest) g
        ≡ gate_under second (gate_under pairs g)) → (same : Bool) → nat_eq pair.0 g ≡ same
        → gate_under (map (λ (p : ℕ × ℕ). (p.0, gate_under second p.1)) (pair ∷ pairs) ++ rest) g
        ≡ gate_under second (gate_under (pair ∷ pairs) g)
    by below true h = rw h refl
    by below false h = let listed : is_listed (formals_of pairs) g ≡ true = rw h at e in rw h (below listed)

in_rest : (first : Relabelling) (second rest : Relabelling) (g : ℕ) → is_listed (formals_of first) g ≡ false
    → gate_under (map (λ (pair : ℕ × ℕ). (pair.0, gate_under second pair.1)) first ++ rest) g ≡ gate_under rest g
in_rest [] second rest g e = refl
in_rest (pair ∷ pairs) second rest g e = by (in_rest pairs second rest g) (nat_eq pair.0 g) refl
  where
    by : (is_listed (formals_of pairs) g ≡ false → gate_under (map (λ (p : ℕ × ℕ). (p.0, gate_under second p.1)) pairs ++ rest) g
        ≡ gate_under rest g) → (same : Bool) → nat_eq pair.0 g ≡ same
        → gate_under (map (λ (p : ℕ × ℕ). (p.0, gate_under second p.1)) (pair ∷ pairs) ++ rest) g ≡ gate_under rest g
    by below true h = let f : true ≡ false = rw h at e in absurd (cc f)
    by below false h = let free : is_listed (formals_of pairs) g ≡ false = rw h at e in rw h (below free)

unlisted : (first : Relabelling) (g : ℕ) → is_listed (formals_of first) g ≡ false → gate_under first g ≡ g
unlisted [] g e = refl
unlisted (pair ∷ pairs) g e = by (unlisted pairs g) (nat_eq pair.0 g) refl
  where
    by : (is_listed (formals_of pairs) g ≡ false → gate_under pairs g ≡ g) → (same : Bool) → nat_eq pair.0 g ≡ same
        → gate_under (pair ∷ pairs) g ≡ g
    by below true h = let f : true ≡ false = rw h at e in absurd (cc f)
    by below false h = let free : is_listed (formals_of pairs) g ≡ false = rw h at e in rw h (below free)

pub gate_under-then : (first second : Relabelling) (g : ℕ)
    → gate_under (then_relabelling first second) g ≡ gate_under second (gate_under first g)
gate_under-then first second g = by (is_listed (formals_of first) g) refl
  where
    by : (listed : Bool) → is_listed (formals_of first) g ≡ listed
        → gate_under (then_relabelling first second) g ≡ gate_under second (gate_under first g)
    by true e = in_first first second (filter (λ (pair : ℕ × ℕ). not (is_listed (formals_of first) pair.0)) second) g e
    by false e =
        in_rest first second (filter (λ (pair : ℕ × ℕ). not (is_listed (formals_of first) pair.0)) second) g e
        ∙ (gate_under-filter (λ n. not (is_listed (formals_of first) n)) second g (ap not e)
        ∙ sym (ap (gate_under second) (unlisted first g e)))

pub label_under-then : (first second : Relabelling) (label : Label)
    → label_under (then_relabelling first second) label ≡ label_under second (label_under first label)
label_under-then first second inner_event = refl
label_under-then first second (gate_event g values) = ap (λ h. gate_event h values) (gate_under-then first second g)
label_under-then first second (exit_event values) = refl
