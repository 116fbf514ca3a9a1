-- A worked certificate: x + y = y + x, by two lemmas before it.
use Rattle.std.specs.Prelude.{ℕ, List, [], ◌∷◌}
use Rattle.lotos_base.specs.Term.{Term, variable}
use Rattle.lotos_base.specs.Sorting.{IsGroundOf}
use Rattle.lotos_base.specs.Equation.{Equation}
use Rattle.lotos_base.specs.Equality.{forward, Equal}
use Rattle.lotos_base.specs.SmallData.{example_equation, natural_signature, natural_data, nought, successor, plus, x_natural, y_natural}
use Rattle.rewriting_theory.specs.OrientationCases.{addition_rules}
use Rattle.certificate_theory.specs.InductionCertificate.{Cover, PatternTree, split_pattern, leaf_here, Statement, Side, left_side, right_side, Source, by_lemma, by_hypothesis, ProofLine, split_variable, use_it, same_sides, Lemma, Certificate}
use Rattle.certificate_theory.specs.Covers.{IsCoveredBy}
use Rattle.certificate_theory.specs.Certified.{IsFit, IsCertificateOver, IsCertified}
use Rattle.certificate_theory.specs.Requirements.{IsMetBy, IsLeftOpen}
use Rattle.certificate_theory.specs.Addition.{addition}

-- cover Nat 0; Succ;
abbrev pub number_cover : Cover
number_cover = record { sort = 0; operations = 0 ∷ 1 ∷ [] }

-- tree _+_; with its left argument split
abbrev pub sum_tree : PatternTree
sum_tree = record { operation = 2; lines = split_pattern (0 ∷ []) ∷ leaf_here ∷ leaf_here ∷ [] }

-- a statement, and a use of one read forward
abbrev pub states : Term → Term → Statement
states left right = record { left = left; right = right }

abbrev pub use_proof_line : Source → Side → List ℕ → ProofLine
use_proof_line source side path = use_it (record { source = source; side = side; path = path; direction = forward })

-- x + 0 = x
abbrev pub nought_right : Lemma
nought_right = record {
  variables = 0 ∷ [];
  statement = states (plus x_natural nought) x_natural;
  lines = split_variable 0 ∷ same_sides ∷ use_proof_line (by_hypothesis 0) left_side (0 ∷ []) ∷ same_sides ∷ [];
}

-- x + Succ(y) = Succ(x + y)
abbrev pub successor_right : Lemma
successor_right = record {
  variables = 0 ∷ 0 ∷ [];
  statement = states (plus x_natural (successor y_natural)) (successor (plus x_natural y_natural));
  lines = split_variable 0 ∷ same_sides ∷ use_proof_line (by_hypothesis 0) left_side (0 ∷ []) ∷ same_sides ∷ [];
}

-- x + y = y + x
abbrev pub commutes : Lemma
commutes = record {
  variables = 0 ∷ 0 ∷ [];
  statement = states (plus x_natural y_natural) (plus y_natural x_natural);
  lines = split_variable 0
      ∷ use_proof_line (by_lemma 0) right_side []
      ∷ same_sides
      ∷ use_proof_line (by_hypothesis 0) left_side (0 ∷ [])
      ∷ use_proof_line (by_lemma 1) right_side []
      ∷ same_sides
      ∷ [];
}

abbrev pub with_lemmas : List Lemma → Certificate
with_lemmas lemmas = record { covers = number_cover ∷ []; trees = sum_tree ∷ []; lemmas = lemmas }

abbrev pub commutativity : Certificate
commutativity = with_lemmas (nought_right ∷ successor_right ∷ commutes ∷ [])

-- x = 0 + x, which is used as it is read, and 0 + x is put in normal form behind the use
abbrev pub restated : Lemma
restated = record { variables = 0 ∷ []; statement = states x_natural (plus nought x_natural); lines = same_sides ∷ [] }

abbrev pub used_as_read : Lemma
used_as_read = record {
  variables = 0 ∷ [];
  statement = states x_natural x_natural;
  lines = use_proof_line (by_lemma 0) left_side [] ∷ same_sides ∷ [];
}

-- x = x, where the split of x.1 makes the hypothesis x.1 = x.1 say Succ(x.1.1) = Succ(x.1.1)
abbrev pub split_twice : Lemma
split_twice = record {
  variables = 0 ∷ [];
  statement = states x_natural x_natural;
  lines = split_variable 0
      ∷ same_sides
      ∷ split_variable 1
      ∷ same_sides
      ∷ use_proof_line (by_hypothesis 0) left_side (0 ∷ [])
      ∷ same_sides
      ∷ [];
}

-- the requirement that + is commutative, with its own numbers of variables, and one that it is idempotent
abbrev pub is_commutative : Equation
is_commutative = example_equation [] (plus (variable 7 0) (variable 3 0)) (plus (variable 3 0) (variable 7 0))

abbrev pub is_idempotent : Equation
is_idempotent = example_equation [] (plus x_natural x_natural) x_natural

pub record CommutativityCases : Type 0 where
  pub fit : IsFit addition
  pub over : IsCertificateOver natural_signature commutativity
  pub right : IsCertified addition commutativity
  -- so each ground term of numbers reduces or begins with 0 or Succ, and sums commute
  pub covered : IsCoveredBy natural_signature addition_rules 0 (0 ∷ 1 ∷ [])
  pub sums : (t u : Term) → IsGroundOf natural_signature 0 t → IsGroundOf natural_signature 0 u
      → Equal natural_data (plus t u) (plus u t)
  pub normal_again : IsCertified addition (with_lemmas (restated ∷ used_as_read ∷ []))
  pub put_into_hypotheses : IsCertified addition (with_lemmas (split_twice ∷ []))
  -- the third lemma meets the one requirement, and none meets the other
  pub met : IsMetBy commutativity.lemmas is_commutative 2
  pub left_open : IsLeftOpen commutativity.lemmas is_idempotent
