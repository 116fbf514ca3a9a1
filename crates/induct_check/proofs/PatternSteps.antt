-- What lines of a tree leave, and covers behind those that were read.
use Rattle.std.proofs.Common.{◌≡◌, ℕ, List, [], ◌∷◌, ◌++◌, Option, None, Some, Bool, true, false, nat_eq, refl, ap, sym, ◌∙◌, subst, ◌⊎◌, inl, inr}
use Rattle.std.specs.Prelude.{if◌then◌else◌}
use Rattle.std.proofs.lemmas.Bool.Decides.{Decides-eqb}
use Rattle.std.proofs.lemmas.Option.{same_Some}
use Rattle.lotos_base.specs.Path.{subterm}
use Rattle.lotos_base.specs.Signature.{Signature}
use Rattle.lotos_base.specs.Term.{Term, variable, node}
use Rattle.rewriting_theory.specs.Rule.{Rule}
use Rattle.certificate_theory.specs.Covers.{cover_of, IsListedIn, HasResult}
use Rattle.certificate_theory.specs.Patterns.{Pattern, PatternComesTo, IsWrongAtPattern}
use Rattle.induct_parts.specs.HandedOn.{Cover, TreeLine, split_pattern, leaf_here, InductionFault}
use Rattle.induct_check.specs.CertificateReading.{patterns_by, patterns_at, patterns_behind}

-- ---- Splits

pub line_leaves : (signature : Signature) (rules : List Rule) (covers : List Cover) (pattern : Pattern) (line : TreeLine)
    (left : List Pattern) → PatternComesTo signature rules covers pattern line left → left ≡ patterns_behind signature covers pattern line
line_leaves signature rules covers pattern leaf_here left comes = comes.1
line_leaves signature rules covers pattern (split_pattern path) left comes =
    comes.5
    ∙ (sym (ap (patterns_by signature pattern comes.0 comes.1) comes.4)
    ∙ sym (ap (patterns_at signature covers pattern) comes.3))

none_there : (signature : Signature) (covers : List Cover) (pattern : Pattern) (part : Option Term)
    → ((n s : ℕ) → ¬ (part ≡ Some (variable n s))) → patterns_at signature covers pattern part ≡ []
none_there signature covers pattern None none = refl
none_there signature covers pattern (Some (variable n s)) none = absurd (none n s refl)
none_there signature covers pattern (Some (node f ts)) none = refl

pub wrong_leaves : (signature : Signature) (rules : List Rule) (covers : List Cover) (pattern : Pattern) (line : TreeLine)
    (fault : InductionFault) → IsWrongAtPattern rules covers pattern line fault → [] ≡ patterns_behind signature covers pattern line
wrong_leaves signature rules covers pattern leaf_here fault wrong = refl
wrong_leaves signature rules covers pattern (split_pattern path) fault (inl none) =
    sym (none_there signature covers pattern (subterm path pattern.term) none.0)
wrong_leaves signature rules covers pattern (split_pattern path) fault (inr uncovered) =
    sym (ap (patterns_at signature covers pattern) uncovered.2
    ∙ ap (patterns_by signature pattern uncovered.0 uncovered.1) uncovered.3)

-- ---- Covers

-- what is found behind one more cover
found_before : (covers : List Cover) (cover : Cover) (s : ℕ) (operations : List ℕ) → cover_of (covers ++ cover ∷ []) s ≡ Some operations
    → (cover_of covers s ≡ Some operations) ⊎ ((cover.sort ≡ s) × (cover.operations ≡ operations))
found_before [] cover s operations e = go (nat_eq cover.sort s) refl e
  where
    go : (b : Bool) → nat_eq cover.sort s ≡ b → (if b then Some cover.operations else None) ≡ Some operations
        → (None ≡ Some operations) ⊎ ((cover.sort ≡ s) × (cover.operations ≡ operations))
    go true same e = inr ((Decides-eqb cover.sort s).0 same, same_Some cover.operations operations e)
    go false differ e = absurd (cc e)
found_before (c ∷ cs) cover s operations e = go (nat_eq c.sort s) e (found_before cs cover s operations)
  where
    go : (b : Bool) → (if b then Some c.operations else cover_of (cs ++ cover ∷ []) s) ≡ Some operations
        → (cover_of (cs ++ cover ∷ []) s ≡ Some operations
        → (cover_of cs s ≡ Some operations) ⊎ ((cover.sort ≡ s) × (cover.operations ≡ operations)))
        → ((if b then Some c.operations else cover_of cs s) ≡ Some operations) ⊎ ((cover.sort ≡ s) × (cover.operations ≡ operations))
    go true e later = inl e
    go false e later = later e

pub results_with : (signature : Signature) (covers : List Cover) (cover : Cover)
    → ((s f : ℕ) (operations : List ℕ) → cover_of covers s ≡ Some operations → IsListedIn operations f → HasResult signature s f)
    → ((f : ℕ) → IsListedIn cover.operations f → HasResult signature cover.sort f)
    → (s f : ℕ) (operations : List ℕ) → cover_of (covers ++ cover ∷ []) s ≡ Some operations → IsListedIn operations f
    → HasResult signature s f
results_with signature covers cover before here s f operations found among = go (found_before covers cover s operations found)
  where
    go : (cover_of covers s ≡ Some operations) ⊎ ((cover.sort ≡ s) × (cover.operations ≡ operations)) → HasResult signature s f
    go (inl earlier) = before s f operations earlier among
    go (inr last) =
        subst (λ (q : ℕ). HasResult signature q f) last.0
        (here f (subst (λ (fs : List ℕ). IsListedIn fs f) (sym last.1) among))

pub no_results : (signature : Signature) → (s f : ℕ) (operations : List ℕ) → cover_of [] s ≡ Some operations → IsListedIn operations f
    → HasResult signature s f
no_results signature s f operations found among = absurd (cc found)
