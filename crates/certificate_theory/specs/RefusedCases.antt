-- Certificates that are refused, each for what one rule asks. Over numbers with addition the cover stands at line 1, the tree
-- at lines 2 to 5 and the first lemma at lines 6 to 8.
use Rattle.std.specs.Prelude.{List, [], ◌∷◌, codes}
use Rattle.lotos_base.specs.Signature.{Signature, prefix_form}
use Rattle.lotos_base.specs.Term.{Term, variable, node, no_terms}
use Rattle.lotos_base.specs.Equation.{Data}
use Rattle.lotos_base.specs.Equality.{Equal}
use Rattle.lotos_base.specs.SmallData.{example_sort, example_operation, nought, successor, plus, x_natural, y_natural}
use Rattle.certificate_theory.specs.InductionCertificate.{leaf_here, left_side, by_lemma, by_hypothesis, ProofLine, split_variable, same_sides, Lemma, Certificate}
use Rattle.certificate_theory.specs.Faults.{bad_line, no_variable, no_cover, no_tree, not_reducible, bad_use, not_same}
use Rattle.certificate_theory.specs.Splits.{Theory}
use Rattle.certificate_theory.specs.Certified.{IsFit, IsCertificateOver, IsCertified, IsInductionFault}
use Rattle.certificate_theory.specs.Addition.{addition}
use Rattle.certificate_theory.specs.CommutativityCases.{number_cover, sum_tree, states, use_proof_line, nought_right, successor_right, commutes, with_lemmas}

-- the lemma x + 0 = x with another proof, and the lemma x = 0, which is false
abbrev pub nought_right_by : List ProofLine → Lemma
nought_right_by lines = record { variables = 0 ∷ []; statement = states (plus x_natural nought) x_natural; lines = lines }

abbrev pub all_nought_by : List ProofLine → Lemma
all_nought_by lines = record { variables = 0 ∷ []; statement = states x_natural nought; lines = lines }

-- certificates without the tree, without the cover, with the cover twice, with a leaf too early and with the tree twice
abbrev pub without_tree : Certificate
without_tree = record { covers = number_cover ∷ []; trees = []; lemmas = nought_right ∷ [] }

abbrev pub without_cover : Certificate
without_cover = record { covers = []; trees = []; lemmas = nought_right ∷ [] }

abbrev pub cover_twice : Certificate
cover_twice = record { covers = number_cover ∷ number_cover ∷ []; trees = sum_tree ∷ []; lemmas = [] }

abbrev pub early_leaf : Certificate
early_leaf = record { covers = number_cover ∷ []; trees = record { operation = 2; lines = leaf_here ∷ [] } ∷ []; lemmas = [] }

abbrev pub tree_twice : Certificate
tree_twice = record { covers = number_cover ∷ []; trees = sum_tree ∷ sum_tree ∷ []; lemmas = [] }

-- the argument that a split of x makes in these lemmas, and that of a split of that one
abbrev pub argument : Term
argument = variable 1 0

pub record RefusedCases : Type 0 where
  -- x = 0: the variable of the hypothesis, x.1 = 0, is fixed and does not match Succ(x.1)
  pub fixed_is_not_matched : IsInductionFault addition
      (with_lemmas (all_nought_by (split_variable 0 ∷ same_sides ∷ use_proof_line (by_hypothesis 0) left_side [] ∷ same_sides ∷ []) ∷ []))
      11 bad_use
  -- x = 0: the hypothesis is the goal at the argument, not the goal
  pub goal_is_no_hypothesis : IsInductionFault addition
      (with_lemmas (all_nought_by (split_variable 0 ∷ same_sides ∷ same_sides ∷ []) ∷ []))
      11 (not_same (states (successor argument) nought))
  -- a lemma is no earlier lemma of its own
  pub not_by_itself : IsInductionFault addition
      (with_lemmas (all_nought_by (use_proof_line (by_lemma 0) left_side [] ∷ same_sides ∷ []) ∷ []))
      9 bad_use
  -- nor is a later one: x + y = y + x needs the lemmas before it
  pub not_by_later : IsInductionFault addition (with_lemmas (nought_right ∷ commutes ∷ successor_right ∷ [])) 20 bad_use
  -- without the use both sides differ
  pub not_the_same : IsInductionFault addition
      (with_lemmas (nought_right_by (split_variable 0 ∷ same_sides ∷ same_sides ∷ []) ∷ []))
      11 (not_same (states (successor (plus argument nought)) (successor argument)))
  -- a split of the argument, which is fixed, adds no second hypothesis, which Succ(x.1.1 + 0) = Succ(x.1.1) would be
  pub none_for_fixed : IsInductionFault addition
      (with_lemmas (nought_right_by (split_variable 0 ∷ same_sides ∷ split_variable 1 ∷ same_sides
      ∷ use_proof_line (by_hypothesis 1) left_side (0 ∷ []) ∷ []) ∷ []))
      13 bad_use
  -- and the first one is not put in normal form: it says Succ(x.1.1) + 0 = Succ(x.1.1), which stands nowhere in the goal
  pub hypothesis_as_it_is : IsInductionFault addition
      (with_lemmas (nought_right_by (split_variable 0 ∷ same_sides ∷ split_variable 1 ∷ same_sides
      ∷ use_proof_line (by_hypothesis 0) left_side (0 ∷ []) ∷ []) ∷ []))
      13 bad_use
  -- a variable that was split is out of scope, and one that is not there too
  pub gone_once_split : IsInductionFault addition
      (with_lemmas (nought_right_by (split_variable 0 ∷ same_sides ∷ split_variable 0 ∷ []) ∷ []))
      11 no_variable
  pub unknown_variable : IsInductionFault addition (with_lemmas (nought_right_by (split_variable 5 ∷ []) ∷ [])) 9 no_variable
  -- a path that leaves the term
  pub path_leads_nowhere : IsInductionFault addition
      (with_lemmas (nought_right_by (split_variable 0 ∷ same_sides ∷ use_proof_line (by_hypothesis 0) left_side (3 ∷ []) ∷ []) ∷ []))
      11 bad_use
  -- a line too few stands behind the last one, a line too many at its own
  pub line_too_few : IsInductionFault addition
      (with_lemmas (nought_right_by (split_variable 0 ∷ same_sides ∷ []) ∷ [])) 11 bad_line
  pub line_too_many : IsInductionFault addition
      (with_lemmas (nought_right_by (split_variable 0 ∷ same_sides ∷ use_proof_line (by_hypothesis 0) left_side (0 ∷ []) ∷ same_sides
      ∷ same_sides ∷ []) ∷ []))
      13 bad_line
  -- covers and trees
  pub lacks_tree : IsInductionFault addition without_tree 1 (no_tree 2)
  pub lacks_cover : IsInductionFault addition without_cover 4 no_cover
  pub second_cover : IsInductionFault addition cover_twice 2 bad_line
  pub no_rule_at_leaf : IsInductionFault addition early_leaf 3 not_reducible
  pub second_tree : IsInductionFault addition tree_twice 6 bad_line

-- ---- A sort without terms: 0 = Succ(0) for each x of that sort

abbrev pub with_empty : Signature
with_empty = record {
  sorts = example_sort (codes "Nat") ∷ example_sort (codes "Empty") ∷ [];
  operations = example_operation (codes "0") prefix_form [] 0 ∷ example_operation (codes "Succ") prefix_form (0 ∷ []) 0 ∷ [];
}

abbrev pub empty_data : Data
empty_data = record { signature = with_empty; equations = [] }

abbrev pub without_rules : Theory
without_rules = record { data_ = empty_data; rules = []; canon = λ t. t }

-- cover Empty, and a lemma that splits its variable x, which is in neither side
abbrev pub from_nothing : Certificate
from_nothing = record {
  covers = record { sort = 1; operations = [] } ∷ [];
  trees = [];
  lemmas = record {
    variables = 1 ∷ [];
    statement = states nought (successor nought);
    lines = split_variable 0 ∷ [];
  }
      ∷ [];
}

pub record EmptySortCases : Type 0 where
  pub fit : IsFit without_rules
  pub over : IsCertificateOver with_empty from_nothing
  -- a variable that occurs in neither side is not in scope
  pub absent_variable : IsInductionFault without_rules from_nothing 5 no_variable
  -- and its lemma is false
  pub never : ¬ Equal empty_data nought (successor nought)

-- ---- A sort with one term: x = y for all x and y of that sort

abbrev pub single_signature : Signature
single_signature = record {
  sorts = example_sort (codes "One") ∷ [];
  operations = example_operation (codes "a") prefix_form [] 0 ∷ [];
}

abbrev pub single_theory : Theory
single_theory = record { data_ = record { signature = single_signature; equations = [] }; rules = []; canon = λ t. t }

-- x = y, and x = a by it: y is in the right side alone, so no match gives it a value
abbrev pub any_two : Lemma
any_two = record {
  variables = 0 ∷ 0 ∷ [];
  statement = states x_natural y_natural;
  lines = split_variable 0 ∷ split_variable 1 ∷ same_sides ∷ [];
}

abbrev pub all_alike : Lemma
all_alike = record {
  variables = 0 ∷ [];
  statement = states x_natural (node 0 no_terms);
  lines = use_proof_line (by_lemma 0) left_side [] ∷ same_sides ∷ [];
}

abbrev pub with_single : List Lemma → Certificate
with_single lemmas = record { covers = record { sort = 0; operations = 0 ∷ [] } ∷ []; trees = []; lemmas = lemmas }

pub record SingleSortCases : Type 0 where
  pub right : IsCertified single_theory (with_single (any_two ∷ []))
  pub open_variable : IsInductionFault single_theory (with_single (any_two ∷ all_alike ∷ [])) 11 bad_use
