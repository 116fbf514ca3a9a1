-- Tidying a join tidies its sides, and a step of solving on a join is one on its sides.
use Rattle.std.proofs.Common.{◌≡◌, ◌++◌, ℕ, List, [], ◌∷◌, map, refl, ap, sym, ◌∙◌}
use Rattle.std.proofs.lemmas.List.{map-append}
use Rattle.lotos_base.specs.Term.{Term, variable}
use Rattle.lotos_base.specs.Sorting.{IsTermOf, Occurs}
use Rattle.lotos_base.specs.Equation.{Data}
use Rattle.lotos_base.specs.Substitution.{Substitution, substituted}
use Rattle.lotos_base.specs.Canon.{IsCanon}
use Rattle.lotos_base.proofs.SubstitutionLemmas.{substituted_variables, substituted_agree}
use Rattle.behaviour_semantics.specs.Behaviour.{Test}
use Rattle.behaviour_semantics.specs.Label.{Label, inner_event, gate_event, exit_event}
use Rattle.behaviour_semantics.specs.Rule.{label_values, pairwise}
use Rattle.behaviour_semantics.specs.Shape.{Shape, both_sides}
use Rattle.behaviour_semantics.specs.Draft.{Draft}
use Rattle.behaviour_semantics.specs.Solving.{label_in, test_in, canonical, differing, tidied}
use Rattle.behaviour_semantics.specs.Join.{both_drafts}
use Rattle.behaviour_semantics.specs.WellFormed.{Every}
use Rattle.behaviour_semantics.proofs.DraftsInOrder.{label_values-in}
use Rattle.behaviour_semantics.proofs.SolvingSteps.{differing-before, differing-append}

-- A property of each term of a draft.
pub record EachTerm (P : Term → Type 0) (draft : Draft) : Type 0 where
  pub values : Every P (label_values draft.label)
  pub leaves : Every P draft.leaves
  pub conditions : Every (λ (test : Test). P test.left × P test.right) draft.conditions

-- ---- Changes of all terms, one after the other, and changes that agree.
abbrev pub after : (Term → Term) → (Term → Term) → Term → Term
after g f t = g (f t)

map_twice : (g f : Term → Term) (ts : List Term) → map g (map f ts) ≡ map (after g f) ts
map_twice g f [] = refl
map_twice g f (t ∷ ts) = ap (λ (us : List Term). g (f t) ∷ us) (map_twice g f ts)

tests_twice : (g f : Term → Term) (tests : List Test) → map (test_in g) (map (test_in f) tests) ≡ map (test_in (after g f)) tests
tests_twice g f [] = refl
tests_twice g f (test ∷ tests) = ap (λ (more : List Test). test_in (after g f) test ∷ more) (tests_twice g f tests)

label_twice : (g f : Term → Term) (label : Label) → label_in g (label_in f label) ≡ label_in (after g f) label
label_twice g f inner_event = refl
label_twice g f (gate_event gate ts) = ap (gate_event gate) (map_twice g f ts)
label_twice g f (exit_event ts) = ap exit_event (map_twice g f ts)

-- a draft by its four parts
abbrev made : Shape → Label → List Term → List Test → Draft
made shape label leaves conditions = record { shape = shape; label = label; leaves = leaves; conditions = conditions }

same_parts : (shape : Shape) (label label' : Label) (leaves leaves' : List Term) (conditions conditions' : List Test) → label ≡ label'
    → leaves ≡ leaves' → conditions ≡ conditions' → made shape label leaves conditions ≡ made shape label' leaves' conditions'
same_parts shape label label' leaves leaves' conditions conditions' a b c = λ i. made shape (a i) (b i) (c i)

pub canonical_twice : (g f : Term → Term) (draft : Draft) → canonical g (canonical f draft) ≡ canonical (after g f) draft
canonical_twice g f draft = same_parts draft.shape _ _ _ _ _ _ (label_twice g f draft.label) (map_twice g f draft.leaves)
    (tests_twice g f draft.conditions)

map_same : (f g : Term → Term) (ts : List Term) → Every (λ t. f t ≡ g t) ts → map f ts ≡ map g ts
map_same f g [] h = refl
map_same f g (t ∷ ts) h = ap (λ (u : Term). u ∷ map f ts) h.0 ∙ ap (λ (us : List Term). g t ∷ us) (map_same f g ts h.1)

tests_same : (f g : Term → Term) (tests : List Test) → Every (λ (test : Test). (f test.left ≡ g test.left)
    × (f test.right ≡ g test.right)) tests → map (test_in f) tests ≡ map (test_in g) tests
tests_same f g [] h = refl
tests_same f g (test ∷ tests) h =
    ap (λ (more : List Test). test_in f test ∷ more) (tests_same f g tests h.1)
    ∙ (λ i. record { left = h.0.0 i; right = h.0.1 i } ∷ map (test_in g) tests)

label_same : (f g : Term → Term) (label : Label) → Every (λ t. f t ≡ g t) (label_values label) → label_in f label ≡ label_in g label
label_same f g inner_event h = refl
label_same f g (gate_event gate ts) h = ap (gate_event gate) (map_same f g ts h)
label_same f g (exit_event ts) h = ap exit_event (map_same f g ts h)

pub canonical_same : (f g : Term → Term) (draft : Draft) → EachTerm (λ t. f t ≡ g t) draft → canonical f draft ≡ canonical g draft
canonical_same f g draft h = same_parts draft.shape _ _ _ _ _ _ (label_same f g draft.label h.values)
    (map_same f g draft.leaves h.leaves) (tests_same f g draft.conditions h.conditions)

Every_weaker : (P Q : Term → Type 0) → ((t : Term) → P t → Q t) → (ts : List Term) → Every P ts → Every Q ts
Every_weaker P Q w [] h = tt
Every_weaker P Q w (t ∷ ts) h = (w t h.0, Every_weaker P Q w ts h.1)

tests_weaker : (P Q : Term → Type 0) → ((t : Term) → P t → Q t) → (tests : List Test)
    → Every (λ (test : Test). P test.left × P test.right) tests → Every (λ (test : Test). Q test.left × Q test.right) tests
tests_weaker P Q w [] h = tt
tests_weaker P Q w (test ∷ tests) h = ((w test.left h.0.0, w test.right h.0.1), tests_weaker P Q w tests h.1)

pub each_weaker : (P Q : Term → Type 0) → ((t : Term) → P t → Q t) → (draft : Draft) → EachTerm P draft → EachTerm Q draft
each_weaker P Q w draft h = record {
  values = Every_weaker P Q w (label_values draft.label) h.values;
  leaves =
      Every_weaker P Q w draft.leaves h.leaves;
  conditions = tests_weaker P Q w draft.conditions h.conditions;
}

-- ---- Drafts without the conditions whose sides are identical.
abbrev pub dropped : Draft → Draft
dropped draft = record draft { conditions = differing draft.conditions }

-- Dropping before a change makes no difference once they are dropped after.
pub dropped-before : (f : Term → Term) (draft : Draft) → dropped (canonical f (dropped draft)) ≡ dropped (canonical f draft)
dropped-before f draft = same_parts draft.shape _ _ _ _ _ _ refl refl (differing-before f draft.conditions)

unchanged : (tests : List Test) → map (test_in (λ t. t)) tests ≡ tests
unchanged [] = refl
unchanged (test ∷ tests) = ap (λ (more : List Test). test ∷ more) (unchanged tests)

pub differing_twice : (tests : List Test) → differing (differing tests) ≡ differing tests
differing_twice tests = sym (ap differing (unchanged (differing tests)))
    ∙ (differing-before (λ t. t) tests ∙ ap differing (unchanged tests))

-- ---- Joins

pairwise-in : (f : Term → Term) (ts us : List Term) → pairwise (map f ts) (map f us) ≡ map (test_in f) (pairwise ts us)
pairwise-in f [] us = refl
pairwise-in f (t ∷ ts) [] = refl
pairwise-in f (t ∷ ts) (u ∷ us) = ap (λ (rest : List Test). record { left = f t; right = f u } ∷ rest) (pairwise-in f ts us)

-- A change of the terms of a join is one of those of its sides.
pub canonical-both : (f : Term → Term) (left right : Draft) → canonical f (both_drafts left right) ≡ both_drafts (canonical f left)
    (canonical f right)
canonical-both f left right =
    same_parts (both_sides left.shape right.shape) _ _ _ _ _ _ refl (map-append f left.leaves right.leaves)
    (map-append (test_in f) (left.conditions ++ right.conditions) (pairwise (label_values left.label) (label_values right.label))
    ∙ (ap (λ (front : List Test). front ++ map (test_in f) (pairwise (label_values left.label) (label_values right.label)))
    (map-append (test_in f) left.conditions right.conditions)
    ∙ ap (λ (back : List Test). (map (test_in f) left.conditions ++ map (test_in f) right.conditions) ++ back)
    (sym (pairwise-in f (label_values left.label) (label_values right.label))
    ∙ (λ i. pairwise (sym (label_values-in f left.label) i) (sym (label_values-in f right.label) i)))))

-- Dropping conditions of a join.
dropped-both : (left right : Draft) → dropped (both_drafts left right) ≡ dropped (both_drafts (dropped left) (dropped right))
dropped-both left right =
    same_parts (both_sides left.shape right.shape) _ _ _ _ _ _ refl refl
    (differing-append (left.conditions ++ right.conditions) pairs
    ∙ (ap (λ (front : List Test). front ++ differing pairs) (differing-append left.conditions right.conditions)
    ∙ sym (differing-append (differing left.conditions ++ differing right.conditions) pairs
    ∙ ap (λ (front : List Test). front ++ differing pairs) (differing-append (differing left.conditions) (differing right.conditions)
    ∙ (λ i. differing_twice left.conditions i ++ differing_twice right.conditions i)))))
  where
    pairs : List Test
    pairs = pairwise (label_values left.label) (label_values right.label)

-- What tidying leaves of a join depends on what it leaves of the sides alone.
pub tidied-both : (canon : Term → Term) (left right : Draft) → tidied canon (both_drafts left right) ≡ dropped
    (both_drafts (tidied canon left) (tidied canon right))
tidied-both canon left right = ap dropped (canonical-both canon left right) ∙ dropped-both (canonical canon left) (canonical canon right)

pub both_tidied : (canon : Term → Term) (left right left' right' : Draft) → tidied canon left ≡ tidied canon left'
    → tidied canon right ≡ tidied canon right' → tidied canon (both_drafts left right) ≡ tidied canon (both_drafts left' right')
both_tidied canon left right left' right' l r =
    tidied-both canon left right
    ∙ ((λ i. dropped (both_drafts (l i) (r i))) ∙ sym (tidied-both canon left' right'))

-- A change between two tidyings, on a join and on its sides.
pub both_stepped : (canon f : Term → Term) (left right : Draft) → tidied canon (canonical f (tidied canon (both_drafts left right)))
    ≡ tidied canon (both_drafts (canonical f (tidied canon left)) (canonical f (tidied canon right)))
both_stepped canon f left right =
    ap (λ (d : Draft). tidied canon (canonical f d)) (tidied-both canon left right)
    ∙ (ap dropped (canonical_twice canon f (dropped (both_drafts (tidied canon left) (tidied canon right))))
    ∙ (dropped-before (after canon f) (both_drafts (tidied canon left) (tidied canon right))
    ∙ (ap dropped (sym (canonical_twice canon f (both_drafts (tidied canon left) (tidied canon right))))
    ∙ ap (λ (d : Draft). tidied canon d) (canonical-both f (tidied canon left) (tidied canon right)))))

-- ---- A part that a step leaves as it is
module _ (data_ : Data) (canon : Term → Term) (is_canon : IsCanon data_ canon) (values : Substitution) where
  -- the term is one of the signature, and its variables stay
  pub record Stays (t : Term) : Type 0 where
    pub is_term : IsTermOf data_.signature t
    pub stay : (n s : ℕ) → Occurs n s t → values n s ≡ variable n s

  settles : (t : Term) → Stays t → canon (substituted values (canon t)) ≡ canon t
  settles t h =
      ap canon (substituted_agree values variable (canon t) (λ n s o. h.stay n s (is_canon.occurring t n s h.is_term o))
      ∙ substituted_variables (canon t))
      ∙ is_canon.settled t h.is_term

  pub part_stays : (draft : Draft) → EachTerm Stays draft → tidied canon (canonical (substituted values) (tidied canon draft))
      ≡ tidied canon draft
  part_stays draft h =
      ap dropped (canonical_twice canon (substituted values) (tidied canon draft))
      ∙ (dropped-before (after canon (substituted values)) (canonical canon draft)
      ∙ ap dropped (canonical_twice (after canon (substituted values)) canon draft
      ∙ canonical_same (after (after canon (substituted values)) canon) canon draft
      (each_weaker Stays (λ t. canon (substituted values (canon t)) ≡ canon t) settles draft h)))

-- Tidying twice is tidying.
pub tidied_twice : (data_ : Data) (canon : Term → Term) → IsCanon data_ canon → (draft : Draft)
    → EachTerm (IsTermOf data_.signature) draft → tidied canon (tidied canon draft) ≡ tidied canon draft
tidied_twice data_ canon is_canon draft h =
    dropped-before canon (canonical canon draft)
    ∙ ap dropped (canonical_twice canon canon draft ∙ canonical_same (after canon canon) canon draft
    (each_weaker (IsTermOf data_.signature) (λ t. canon (canon t) ≡ canon t) (λ t is. is_canon.settled t is) draft h))
