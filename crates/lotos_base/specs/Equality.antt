-- Derivable equality of ground terms: chains of links, each of which replaces, at one path, one side of a ground
-- instance of an equation by its other side (ISO 8807, data part; Baader and Nipkow, 3.1).
use Rattle.std.specs.Prelude.{◌≡◌, ℕ, List, Some}
use Rattle.lotos_base.specs.Term.{Term, Terms, no_terms, term_then}
use Rattle.lotos_base.specs.Path.{subterm, put_at}
use Rattle.lotos_base.specs.Substitution.{Substitution, substituted}
use Rattle.lotos_base.specs.Equation.{Equation, Data, IsEquation, IsGroundInstance}

-- Which side of an equation a link takes away: the left one for the right one, or the right one for the left one.
pub data Direction : Type 0 where
  forward backward : Direction

-- The side that a link takes away.
abbrev pub old_side : Direction → Equation → Term
old_side forward equation = equation.left
old_side backward equation = equation.right

-- The side that a link puts in its place.
abbrev pub new_side : Direction → Equation → Term
new_side forward equation = equation.right
new_side backward equation = equation.left

-- One link from a term to another one: at the path stands one side of a ground instance of the equation, and
-- with the instance's other side there it is the other term.
pub record Link (data_ : Data) (from to : Term) : Type 0 where
  pub path : List ℕ
  pub equation : Equation
  pub is_equation : IsEquation data_ equation
  pub values : Substitution
  pub is_instance : IsGroundInstance data_.signature equation values
  pub direction : Direction
  pub old : subterm path from ≡ Some (substituted values (old_side direction equation))
  pub new : put_at path (substituted values (new_side direction equation)) from ≡ Some to

-- Equality by the data: the same term, or one link and then the rest of the chain.
pub data Equal (data_ : Data) : Term → Term → Type 0 where
  same_term : (t : Term) → Equal data_ t t
  link_then : {t u v : Term} → Link data_ t u → Equal data_ u v → Equal data_ t v

-- Terms of two argument lists are equal one by one.
abbrev pub AllEqual : Data → Terms → Terms → Type 0
AllEqual data_ no_terms no_terms = Unit {0}
AllEqual data_ no_terms (term_then u us) = ⊥
AllEqual data_ (term_then t ts) no_terms = ⊥
AllEqual data_ (term_then t ts) (term_then u us) = Equal data_ t u × AllEqual data_ ts us
