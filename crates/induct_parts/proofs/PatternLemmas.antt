-- Patterns with an operation put in, and the parts that a split leaves, one by one.
use Rattle.std.proofs.Common.{◌≡◌, ◌<◌, ℕ, ◌+◌, length, ap, sym, ◌∙◌, subst, inl, inr, arith}
use Rattle.std.specs.Prelude.{◌⊎◌, Some, slice_get}
use Rattle.std.proofs.lemmas.Option.{same_Some, slice_get_within}
use Rattle.lotos_base.specs.Signature.{Signature, Operation, IsOperation, IsWellFormedSignature}
use Rattle.lotos_base.specs.Term.{node}
use Rattle.lotos_base.specs.Sorting.{Occurs}
use Rattle.lotos_base.specs.Substitution.{substituted}
use Rattle.sort_terms.specs.ProfiledTerm.{profiled_node, bare, head_sort, IsOf}
use Rattle.sort_terms.specs.SortedView.{profiled_in, term_in}
use Rattle.sort_terms.specs.declared.sorted.Sorted.{Sorted}
use Rattle.certificate_theory.specs.Covers.{Numbered}
use Rattle.certificate_theory.specs.Patterns.{Pattern, put_for, operation_on, first_pattern, split_with}
use Rattle.certificate_theory.proofs.ArgumentLemmas.{from_occurs, AreOne, put_occurs}
use Rattle.induct_parts.specs.Variables.{profiled_variables}
use Rattle.induct_parts.specs.CaseView.{IsKnownPattern}
use Rattle.induct_parts.proofs.PutLemmas.{variables_bare, variables_over}

-- ---- an operation on new variables

pub operation_term : (number next : ℕ) (operation : Operation) (put : Sorted)
    → profiled_in put ≡ profiled_node number operation (profiled_variables next operation.arguments)
    → term_in put ≡ operation_on (record { number = number; operation = operation }) next
operation_term number next operation put e =
    ap bare e ∙ ap (node number) (variables_bare next operation.arguments)

pub operation_sort : (number next : ℕ) (operation : Operation) (put : Sorted)
    → profiled_in put ≡ profiled_node number operation (profiled_variables next operation.arguments) → put.sort ≡ operation.result
operation_sort number next operation put e = sym put.headed ∙ ap head_sort e

pub operation_over : (signature : Signature) (number next : ℕ) (operation : Operation) (put : Sorted) → IsWellFormedSignature signature
    → IsOperation signature number operation
    → profiled_in put ≡ profiled_node number operation (profiled_variables next operation.arguments) → IsOf signature (profiled_in put)
operation_over signature number next operation put well is e =
    subst (IsOf signature) (sym e)
    (is, variables_over signature next operation.arguments (λ i s at. well.arguments number i s operation is at))

-- ---- what is kept of patterns

pub first_known : (one : Numbered) → IsKnownPattern (first_pattern one)
first_known one = record { below = below; one_sort = one_sort }
  where
    below : (n s : ℕ) → Occurs n s (first_pattern one).term → n < (first_pattern one).next
    below n s o =
        let from = from_occurs one.operation.arguments 0 n s o in
        let place = from.1 in
        let within = slice_get_within one.operation.arguments from.0 s from.2 in
        omega (arith, place, within)

    one_sort : (n r s : ℕ) → Occurs n r (first_pattern one).term → Occurs n s (first_pattern one).term → r ≡ s
    one_sort n r s o p =
        let one_from = from_occurs one.operation.arguments 0 n r o in
        let other = from_occurs one.operation.arguments 0 n s p in
        let e = one_from.1 in
        let d = other.1 in
        let same : one_from.0 ≡ other.0 = omega (arith, e, d) in
        same_Some r s (sym one_from.2 ∙ (ap (slice_get one.operation.arguments) same ∙ other.2))

pub split_known : (p : Pattern) (n s : ℕ) (one : Numbered) → IsKnownPattern p → IsKnownPattern (split_with p n s one)
split_known p n s one known = record { below = below; one_sort = one_sort }
  where
    cases : (m r : ℕ) → Occurs m r (split_with p n s one).term
        → (Occurs m r p.term × (m < p.next))
        ⊎ ((i : ℕ) × (m ≡ p.next + i) × (slice_get one.operation.arguments i ≡ Some r))
    cases m r o = go (put_occurs n s (operation_on one p.next) p.term m r o)
      where
        go : (Occurs m r p.term × (¬ AreOne n s m r)) ⊎ (Occurs n s p.term × Occurs m r (operation_on one p.next))
            → (Occurs m r p.term × (m < p.next))
            ⊎ ((i : ℕ) × (m ≡ p.next + i) × (slice_get one.operation.arguments i ≡ Some r))
        go (inl (old, differ)) = inl (old, known.below m r old)
        go (inr (there, inside)) = inr (from_occurs one.operation.arguments p.next m r inside)

    below : (m r : ℕ) → Occurs m r (split_with p n s one).term → m < p.next + length one.operation.arguments
    below m r o = go (cases m r o)
      where
        go : (Occurs m r p.term × (m < p.next)) ⊎ ((i : ℕ) × (m ≡ p.next + i) × (slice_get one.operation.arguments i ≡ Some r))
            → m < p.next + length one.operation.arguments
        go (inl (old, less)) = omega (arith, less)
        go (inr (i, e, at)) = let within = slice_get_within one.operation.arguments i r at in omega (arith, e, within)

    one_sort : (m r q : ℕ) → Occurs m r (split_with p n s one).term → Occurs m q (split_with p n s one).term → r ≡ q
    one_sort m r q o u = go (cases m r o) (cases m q u)
      where
        go : (Occurs m r p.term × (m < p.next)) ⊎ ((i : ℕ) × (m ≡ p.next + i) × (slice_get one.operation.arguments i ≡ Some r))
            → (Occurs m q p.term × (m < p.next)) ⊎ ((i : ℕ) × (m ≡ p.next + i) × (slice_get one.operation.arguments i ≡ Some q))
            → r ≡ q
        go (inl (old, less)) (inl (other, also)) = known.one_sort m r q old other
        go (inl (old, less)) (inr (i, e, at)) = absurd (omega (arith, less, e))
        go (inr (i, e, at)) (inl (other, also)) = absurd (omega (arith, also, e))
        go (inr (i, e, at)) (inr (j, d, there)) =
            let same : i ≡ j = omega (arith, e, d) in
            same_Some r q (sym at ∙ (ap (slice_get one.operation.arguments) same ∙ there))

-- ---- patterns as the code makes them

abbrev pub pattern_of : ℕ → Sorted → Pattern
pattern_of next term = record { next = next; term = term_in term }

pub part_is : (p : Pattern) (n f : ℕ) (operation : Operation) (put : Sorted) (next : ℕ) (made : Sorted)
    → profiled_in put ≡ profiled_node f operation (profiled_variables p.next operation.arguments)
    → next ≡ p.next + length operation.arguments
    → term_in made ≡ substituted (put_for n put.sort (term_in put)) p.term
    → pattern_of next made ≡ split_with p n operation.result (record { number = f; operation = operation })
part_is p n f operation put next made is more e =
    λ i. record { next = more i; term = whole i }
  where
    whole : term_in made
        ≡ substituted (put_for n operation.result (operation_on (record { number = f; operation = operation }) p.next)) p.term
    whole = e ∙ (λ i. substituted (put_for n (operation_sort f p.next operation put is i) (operation_term f p.next operation put is i))
        p.term)

pub first_is : (f : ℕ) (operation : Operation) (put : Sorted) (next : ℕ)
    → profiled_in put ≡ profiled_node f operation (profiled_variables 0 operation.arguments) → next ≡ length operation.arguments
    → pattern_of next put ≡ first_pattern (record { number = f; operation = operation })
first_is f operation put next is more = λ i. record { next = more i; term = operation_term f 0 operation put is i }
