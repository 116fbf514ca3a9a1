-- The lexicographic path order with statuses (Baader and Nipkow, 5.4).
use Rattle.std.specs.Prelude.{◌≡◌, ◌≢◌, ℕ, Some, length}
use Rattle.lotos_base.specs.Term.{Term, variable, node, Terms, list_of}
use Rattle.lotos_base.specs.Sorting.{Occurs}
use Rattle.lotos_base.specs.Path.{argument_at}
use Rattle.rewriting_theory.specs.Precedence.{Status, Precedence, IsOver, IsComparedBefore}

-- The deciding place of two argument lists of one length is the first place, as the status counts, where they
-- differ. Lists of different lengths have none: without that demand the order would not end on terms that are not
-- well sorted. Two argument lists of one operation in well-sorted terms always have one length.
pub record IsDecidingPlace (status : Status) (ts us : Terms) (place : ℕ) : Type 0 where
  pub one_length : length (list_of ts) ≡ length (list_of us)
  pub agree : (k : ℕ) → IsComparedBefore status k place → argument_at k ts ≡ argument_at k us
  pub differ : argument_at place ts ≢ argument_at place us

-- The first term is greater than the second one. There are four cases, of which the second has two halves.
pub data IsGreater (precedence : Precedence) : Term → Term → Type 0 where
  -- 1. the lesser term is a variable that occurs in the greater one, which is not that variable
  by_variable : {t : Term} {n s : ℕ} → Occurs n s t → t ≢ variable n s → IsGreater precedence t (variable n s)
  -- 2. the lesser term is an argument of the greater one
  by_same_argument : {f : ℕ} {ts : Terms} {u : Term} (place : ℕ) → argument_at place ts ≡ Some u
      → IsGreater precedence (node f ts) u
  -- or an argument is greater than the lesser term
  by_greater_argument : {f : ℕ} {ts : Terms} {a u : Term} (place : ℕ) → argument_at place ts ≡ Some a
      → IsGreater precedence a u → IsGreater precedence (node f ts) u
  -- 3. the operation of the greater term is above that of the lesser one, and the greater term is greater than
  -- every argument of the lesser one
  by_rank : {f g : ℕ} {ts us : Terms} → IsOver precedence f g
      → ((k : ℕ) (u : Term) → argument_at k us ≡ Some u → IsGreater precedence (node f ts) u)
      → IsGreater precedence (node f ts) (node g us)
  -- 4. both have one operation, the greater term is greater than every argument of the lesser one, and at the
  -- deciding place its argument is greater
  by_arguments : {f : ℕ} {ts us : Terms} {a b : Term} (place : ℕ)
      → ((k : ℕ) (u : Term) → argument_at k us ≡ Some u → IsGreater precedence (node f ts) u)
      → IsDecidingPlace (precedence.status f) ts us place
      → argument_at place ts ≡ Some a → argument_at place us ≡ Some b → IsGreater precedence a b
      → IsGreater precedence (node f ts) (node f us)
