-- What a reader answers over the variables that a term sees, as a resolution over all that is visible.
use Rattle.std.proofs.Common.{◌≡◌, ℕ, List, ◌++◌, refl, ap, sym, subst}
use Rattle.std.specs.Prelude.{Option, Some}
use Rattle.lotos_base.specs.WrittenTerm.{WrittenTerm}
use Rattle.lotos_base.specs.Signature.{Signature}
use Rattle.lotos_base.specs.Term.{Term, node, no_terms}
use Rattle.lotos_base.specs.Equation.{Variable}
use Rattle.sort_terms.specs.Reading.{IsScopeOver}
use Rattle.sort_terms.specs.ReadingOutcome.{ReadingRefusal, ReadingOutcome, answered, refused, SortedTerm, SortedPair, ReadingIs, PairReadingIs}
use Rattle.sort_terms.specs.RefusalView.{UnlessNoMemory}
use Rattle.sort_terms.specs.declared.sort_faults.SortFault.{SortFault}
use Rattle.sort_terms.specs.declared.sort_faults.SortFault.TheVariants as sort
use Rattle.scope_parts.specs.Resolution.{resolved, faulty}
use Rattle.scope_parts.specs.Sorts.{Truth}
use Rattle.scope_parts.specs.declared.scope_faults.ScopeFault.{ScopeFault}
use Rattle.syntax_trees.specs.WrittenEquation.{WrittenPremiss}
use Rattle.scope_parts.specs.FaultView.{FaultIs, fault_of_term}
use Rattle.scope_parts.specs.Seen.{seen_in}
use Rattle.scope_parts.specs.Terms.{AsResolution, TermIs, PairIs, TrueTermIs}
use Rattle.scope_parts.proofs.SeenLemmas.{AreVisible, LastOf, last_visible, visible_both, seen_visible, visible_at, read_over_seen, pair_over_seen}

-- a scope of visible variables is over what the visible ones are over
visible_over : (signature : Signature) (scope vs : List Variable) → IsScopeOver signature scope → AreVisible scope vs
    → IsScopeOver signature vs
visible_over signature scope vs over are i v at =
    let last = subst (λ (o : Option Variable). LastOf scope v.name o) (visible_at scope vs i v are at) (last_visible scope v.name) in
    over last.position v last.found

pub seen_over : (signature : Signature) (scope vs : List Variable) (w : WrittenTerm) → vs ≡ seen_in scope w → IsScopeOver signature scope
    → IsScopeOver signature vs
seen_over signature scope vs w are over =
    subst (λ (xs : List Variable). IsScopeOver signature xs) (sym are)
    (visible_over signature scope (seen_in scope w) over (seen_visible scope w))

pub both_over : (signature : Signature) (scope vs : List Variable) (left right : WrittenTerm)
    → vs ≡ seen_in scope left ++ seen_in scope right
    → IsScopeOver signature scope → IsScopeOver signature vs
both_over signature scope vs left right are over =
    subst (λ (xs : List Variable). IsScopeOver signature xs) (sym are)
    (visible_over signature scope (seen_in scope left ++ seen_in scope right) over
    (visible_both scope (seen_in scope left) (seen_in scope right) (seen_visible scope left) (seen_visible scope right)))

-- a refusal of a reader as a fault
refusal_means : {A : Type 0} (C : ReadingOutcome A → Type 0) (fault : SortFault) → UnlessNoMemory fault (λ r. C (refused r))
    → FaultIs (fault_of_term fault) (λ f. AsResolution C (faulty f))
refusal_means C (sort.UnknownName place) h = h
refusal_means C (sort.UnknownSort place) h = h
refusal_means C (sort.NoReading place) h = h
refusal_means C (sort.TwoReadings place) h = h
refusal_means C sort.NoMemory h = tt

unless_moved : (fault : SortFault) (P Q : ReadingRefusal → Type 0) → ((r : ReadingRefusal) → P r → Q r) → UnlessNoMemory fault P
    → UnlessNoMemory fault Q
unless_moved (sort.UnknownName place) P Q out h = out _ h
unless_moved (sort.UnknownSort place) P Q out h = out _ h
unless_moved (sort.NoReading place) P Q out h = out _ h
unless_moved (sort.TwoReadings place) P Q out h = out _ h
unless_moved sort.NoMemory P Q out h = tt

pub term_answered : (signature : Signature) (scope vs : List Variable) (w : WrittenTerm) (expected : Option ℕ) (t : SortedTerm)
    → vs ≡ seen_in scope w → ReadingIs signature vs w expected (answered t) → TermIs signature scope w expected (resolved t.term)
term_answered signature scope vs w expected t are reading = (
  t,
  read_over_seen signature scope w expected (answered t)
      (subst (λ (xs : List Variable). ReadingIs signature xs w expected (answered t)) are reading),
  refl,
)

pub term_refused : (signature : Signature) (scope vs : List Variable) (w : WrittenTerm) (expected : Option ℕ) (fault : SortFault)
    → vs ≡ seen_in scope w → UnlessNoMemory fault (λ r. ReadingIs signature vs w expected (refused r))
    → FaultIs (fault_of_term fault) (λ f. TermIs signature scope w expected (faulty f))
term_refused signature scope vs w expected fault are reading =
    refusal_means (ReadingIs signature scope w expected) fault
    (unless_moved fault (λ r. ReadingIs signature vs w expected (refused r)) (λ r. ReadingIs signature scope w expected (refused r))
    (λ r h. read_over_seen signature scope w expected (refused r)
    (subst (λ (xs : List Variable). ReadingIs signature xs w expected (refused r)) are h)) reading)

pub pair_answered : (signature : Signature) (scope vs : List Variable) (left right : WrittenTerm) (pair : SortedPair)
    → vs ≡ seen_in scope left ++ seen_in scope right → PairReadingIs signature vs left right (answered pair)
    → PairIs signature scope left right (resolved (record { left = pair.left; right = pair.right }))
pair_answered signature scope vs left right pair are reading = (
  pair,
  pair_over_seen signature scope left right (answered pair)
      (subst (λ (xs : List Variable). PairReadingIs signature xs left right (answered pair)) are reading),
  refl,
)

pub pair_refused : (signature : Signature) (scope vs : List Variable) (left right : WrittenTerm) (fault : SortFault)
    → vs ≡ seen_in scope left ++ seen_in scope right → UnlessNoMemory fault (λ r. PairReadingIs signature vs left right (refused r))
    → FaultIs (fault_of_term fault) (λ f. PairIs signature scope left right (faulty f))
pair_refused signature scope vs left right fault are reading =
    refusal_means (PairReadingIs signature scope left right) fault
    (unless_moved fault (λ r. PairReadingIs signature vs left right (refused r)) (λ r. PairReadingIs signature scope left right (refused r))
    (λ r h. pair_over_seen signature scope left right (refused r)
    (subst (λ (xs : List Variable). PairReadingIs signature xs left right (refused r)) are h)) reading)

-- ---- One term that has to be true

pub true_answered : (signature : Signature) (scope : List Variable) (p : WrittenPremiss) (o : Option Truth) (truth : Truth)
    (left right : Term)
    → Some truth ≡ o → TermIs signature scope p.left (Some truth.sort) (resolved left) → right ≡ node truth.constant no_terms
    → TrueTermIs signature scope p o (resolved (record { left = left; right = right }))
true_answered signature scope p o truth left right found is constant =
    subst (λ (x : Option Truth). TrueTermIs signature scope p x (resolved (record { left = left; right = right }))) found
    (left, is, ap (λ (t : Term). record { left = left; right = t }) constant)

pub true_refused : (signature : Signature) (scope : List Variable) (p : WrittenPremiss) (o : Option Truth) (truth : Truth)
    (fault : ScopeFault) → Some truth ≡ o → FaultIs fault (λ f. TermIs signature scope p.left (Some truth.sort) (faulty f))
    → FaultIs fault (λ f. TrueTermIs signature scope p o (faulty f))
true_refused signature scope p o truth fault found is =
    subst (λ (x : Option Truth). FaultIs fault (λ f. TrueTermIs signature scope p x (faulty f))) found is
