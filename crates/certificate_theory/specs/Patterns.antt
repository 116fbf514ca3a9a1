-- Trees of patterns: why an operation with the result of a covered sort need not be in the cover. The tree splits the
-- operation on variables by the covers until a rule rewrites each pattern, so that no irreducible ground term begins with it.
use Rattle.std.specs.Prelude.{◌≡◌, ◌⊎◌, ℕ, zero, suc, ◌+◌, ◌&&◌, List, [], ◌∷◌, map, None, Some, length, nat_eq, if◌then◌else◌}
use Rattle.lotos_base.specs.Signature.{Signature}
use Rattle.lotos_base.specs.Term.{Term, variable, node, Terms, no_terms, term_then}
use Rattle.lotos_base.specs.Path.{subterm}
use Rattle.lotos_base.specs.Substitution.{Substitution, substituted}
use Rattle.rewriting_theory.specs.Rule.{Rule, IsRule}
use Rattle.rewriting_theory.specs.Matching.{Matches, NoMatch}
use Rattle.certificate_theory.specs.InductionCertificate.{Cover, TreeLine, split_pattern, leaf_here}
use Rattle.certificate_theory.specs.Covers.{Numbered, cover_of, in_signature_order}
use Rattle.certificate_theory.specs.Faults.{InductionFault, no_variable, no_cover, not_reducible}

-- The substitution of a term for one variable, which is known by its number and sort.
abbrev pub put_for : ℕ → ℕ → Term → Substitution
put_for n s t m r = if nat_eq n m && nat_eq s r then t else variable m r

-- Variables of these sorts, numbered from this number on.
abbrev pub variables_from : ℕ → List ℕ → Terms
variables_from next [] = no_terms
variables_from next (s ∷ ss) = term_then (variable next s) (variables_from (suc next) ss)

-- The operation on new variables, numbered from this number on.
abbrev pub operation_on : Numbered → ℕ → Term
operation_on one next = node one.number (variables_from next one.operation.arguments)

-- A pattern with the number of the next new variable, which is above those of its variables.
pub record Pattern : Type 0 where
  pub next : ℕ
  pub term : Term

-- The pattern that a tree begins with.
abbrev pub first_pattern : Numbered → Pattern
first_pattern one = record { next = length one.operation.arguments; term = operation_on one zero }

-- The pattern with an operation on new variables put for the variable.
abbrev pub split_with : Pattern → ℕ → ℕ → Numbered → Pattern
split_with pattern n s one = record {
  next = pattern.next + length one.operation.arguments;
  term = substituted (put_for n s (operation_on one pattern.next)) pattern.term;
}

-- The patterns that are left behind a split of the variable: one for each operation of the cover.
abbrev pub split_patterns : Signature → Pattern → ℕ → ℕ → List ℕ → List Pattern
split_patterns signature pattern n s operations = map (split_with pattern n s) (in_signature_order signature operations)

-- What a line of a tree comes to: a leaf leaves nothing where the left side of some rule matches the pattern, a split leaves
-- the patterns for the variable at the path.
abbrev pub PatternComesTo : Signature → List Rule → List Cover → Pattern → TreeLine → List Pattern → Type 0
PatternComesTo signature rules covers pattern leaf_here left =
    ((rule : Rule) × IsRule rules rule × Matches rule.left pattern.term) × (left ≡ [])
PatternComesTo signature rules covers pattern (split_pattern path) left =
    (n : ℕ) × (s : ℕ) × (operations : List ℕ) × (subterm path pattern.term ≡ Some (variable n s))
    × (cover_of covers s ≡ Some operations) × (left ≡ split_patterns signature pattern n s operations)

-- A line of a tree is wrong: no rule matches at a leaf, a split names no variable, or one whose sort has no cover.
abbrev pub IsWrongAtPattern : List Rule → List Cover → Pattern → TreeLine → InductionFault → Type 0
IsWrongAtPattern rules covers pattern leaf_here fault = NoMatch rules pattern.term × (fault ≡ not_reducible)
IsWrongAtPattern rules covers pattern (split_pattern path) fault =
    (((n s : ℕ) → ¬ (subterm path pattern.term ≡ Some (variable n s))) × (fault ≡ no_variable))
    ⊎ ((n : ℕ) × (s : ℕ) × (subterm path pattern.term ≡ Some (variable n s)) × (cover_of covers s ≡ None) × (fault ≡ no_cover))
