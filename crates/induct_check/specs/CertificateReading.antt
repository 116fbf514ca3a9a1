-- What each line of a certificate of induction means over a signature, behind the lines that were read.
use Rattle.std.specs.Prelude.{◌≡◌, ℕ, zero, suc, List, [], ◌∷◌, ◌++◌, Option, None, Some, map, slice_get, length, codes, decimal, if◌then◌else◌}
use Rattle.lotos_base.specs.Equation.{Variable, Place}
use Rattle.lotos_base.specs.Names.{AreOneName}
use Rattle.lotos_base.specs.Path.{subterm}
use Rattle.lotos_base.specs.Signature.{Signature, Operation, IsOperation}
use Rattle.lotos_base.specs.Term.{Term, variable, node}
use Rattle.lotos_base.specs.WrittenTerm.{WrittenTerm, ListedOperation}
use Rattle.lotos_lexer.specs.declared.tokens.Token.{Token}
use Rattle.lotos_lexer.specs.Tokens as lexed
use Rattle.lotos_lexer.specs.Tokens.{tokens_of}
use Rattle.lotos_rows.specs.Names.{AreVariables}
use Rattle.path_order.specs.Listed.{AreListedBy}
use Rattle.lotos_grammar.specs.HandedOn.{IsOrderReading, IsTermsReading}
use Rattle.sort_terms.specs.Reading.{IsSortNamed}
use Rattle.sort_terms.specs.ReadingOutcome.{one_name, unknown_name, unknown_sort, ReadingIs, PairReadingIs, answered, refused}
use Rattle.syntax_trees.specs.WrittenVariable.{WrittenVariable}
use Rattle.induct_parts.specs.HandedOn.{Cover, TreeLine, split_pattern, leaf_here, PatternTree, Statement, ProofLine, split_variable}
use Rattle.induct_parts.specs.HandedOn.{use_it, same_sides, Lemma, Certificate, Numbered, cover_of, in_signature_order}
use Rattle.certificate_theory.specs.Covers.{HasResult}
use Rattle.certificate_theory.specs.Patterns.{Pattern, first_pattern, split_patterns}
use Rattle.induct_check.specs.CertificateLines.{LineForm, cover_form, tree_form, split_form, lemma_form, left_form, right_form, use_form, leaf_form, same_form, no_form, path_of}

-- ---- Operations that items list

-- The items list these operations: each item has no status and lists at least one operation, those that it lists in an order file.
pub data ItemsList (signature : Signature) : List ListedOperation → List ℕ → Type 0 where
  nothing_listed : ItemsList signature [] []
  item_lists : {item : ListedOperation} {items : List ListedOperation} {f : ℕ} {fs rest : List ℕ} → item.status ≡ None
      → AreListedBy signature item (f ∷ fs) → ItemsList signature items rest
      → ItemsList signature (item ∷ items) ((f ∷ fs) ++ rest)

-- The text is read as items of an order file, which list these operations.
abbrev pub AreOperationsOf : Signature → List ℕ → List ℕ → Type 0
AreOperationsOf signature text operations =
    (items : List ListedOperation) × IsOrderReading 0 text items × ItemsList signature items operations

-- The cover of the sort with this name by the operations of the items, which have the sort as result.
pub record IsWrittenCover (signature : Signature) (sort text : List ℕ) (cover : Cover) : Type 0 where
  pub named : IsSortNamed signature cover.sort sort
  pub listed : AreOperationsOf signature text cover.operations
  pub results : (i f : ℕ) → slice_get cover.operations i ≡ Some f → HasResult signature cover.sort f

-- ---- Heads of lemmas

-- The variables are those that are written, numbered from 0, and have the sorts with the names that are written.
pub record AreNumbered (signature : Signature) (written : List WrittenVariable) (variables : List Variable) : Type 0 where
  pub count : length variables ≡ length written
  pub each : (i : ℕ) (w : WrittenVariable) (v : Variable) → slice_get written i ≡ Some w → slice_get variables i ≡ Some v
      → (v.name ≡ w.name) × (v.number ≡ i) × IsSortNamed signature v.sort w.sort

-- No two of the variables have one name.
abbrev pub HaveOwnNames : List WrittenVariable → Type 0
HaveOwnNames written = (i j : ℕ) (v w : WrittenVariable) → slice_get written i ≡ Some v → slice_get written j ≡ Some w
    → AreOneName v.name w.name → i ≡ j

-- The text writes variables with their sorts, as the grammar has them.
abbrev pub AreVariablesIn : List ℕ → List WrittenVariable → Type 0
AreVariablesIn text written = (tokens : List Token) × (tokens_of 0 text ≡ lexed.Tokens tokens) × AreVariables text tokens written

-- The variables of a lemma, of which there may be none.
abbrev pub AreLemmaVariables : Signature → Option (List ℕ) → List Variable → Type 0
AreLemmaVariables signature None variables = variables ≡ []
AreLemmaVariables signature (Some text) variables =
    (written : List WrittenVariable) × AreVariablesIn text written × HaveOwnNames written × AreNumbered signature written variables

-- Read by itself, the term is refused for no name and no sort.
abbrev pub NamesAreKnown : Signature → List Variable → WrittenTerm → Type 0
NamesAreKnown signature variables term =
    ((place : Place) → ¬ ReadingIs signature variables term None (refused (unknown_name place)))
    × ((place : Place) → ¬ ReadingIs signature variables term None (refused (unknown_sort place)))

-- The text is one term, whose names are known.
pub record IsWrittenSide (signature : Signature) (variables : List Variable) (text : List ℕ) (side : WrittenTerm) : Type 0 where
  pub read : IsTermsReading 0 text (side ∷ [])
  pub known : NamesAreKnown signature variables side

-- The two sides have one pair of readings with one sort.
abbrev pub AreReadSides : Signature → List Variable → WrittenTerm → WrittenTerm → Statement → Type 0
AreReadSides signature variables left right statement =
    (sort : ℕ) × PairReadingIs signature variables left right
    (answered (record { left = statement.left; right = statement.right; sort = sort }))

-- The lemma with these variables and sides, before the lines of its proof.
abbrev pub stated_lemma : List Variable → Statement → Lemma
stated_lemma variables statement =
    record { variables = map (λ (v : Variable). v.sort) variables; statement = statement; lines = [] }

-- ---- Names in proofs

-- The names and sorts of the variables of a case that is left, by their numbers.
pub record NamedCase : Type 0 where
  pub names : List (List ℕ)
  pub sorts : List ℕ

abbrev pub first_names : List Variable → NamedCase
first_names variables =
    record { names = map (λ (v : Variable). v.name) variables; sorts = map (λ (v : Variable). v.sort) variables }

-- The number of the first variable with the name; where there is none, the number that comes next, which is no variable's.
abbrev pub number_named : List (List ℕ) → List ℕ → ℕ
number_named [] name = zero
number_named (one ∷ names) name = if one_name one name then zero else suc (number_named names name)

-- The names of so many arguments that replace a variable: `X.1`, `X.2` and so on, from this number on.
abbrev pub argument_names : List ℕ → ℕ → List ℕ → List (List ℕ)
argument_names name k [] = []
argument_names name k (s ∷ ss) = (name ++ codes "." ++ decimal k) ∷ argument_names name (suc k) ss

-- A case with the names of the arguments of an operation that replaces the variable.
abbrev pub named_behind : NamedCase → List ℕ → Numbered → NamedCase
named_behind point name one = record {
  names = point.names ++ argument_names name 1 one.operation.arguments;
  sorts = point.sorts ++ one.operation.arguments;
}

-- The cases that a split of a variable leaves, by the operations of the cover of its sort; none where there is no cover.
abbrev pub cases_by : Signature → NamedCase → List ℕ → Option (List ℕ) → List NamedCase
cases_by signature point name None = []
cases_by signature point name (Some operations) = map (named_behind point name) (in_signature_order signature operations)

-- none where there is no variable
abbrev pub cases_of_sort : Signature → List Cover → NamedCase → List ℕ → Option ℕ → List NamedCase
cases_of_sort signature covers point name None = []
cases_of_sort signature covers point name (Some s) = cases_by signature point name (cover_of covers s)

abbrev pub cases_behind : Signature → List Cover → NamedCase → List ℕ → List NamedCase
cases_behind signature covers point name =
    cases_of_sort signature covers point name (slice_get point.sorts (number_named point.names name))

-- ---- Patterns in trees

-- The patterns that a split of a variable leaves, by the operations of the cover of its sort; none where there is no cover.
abbrev pub patterns_by : Signature → Pattern → ℕ → ℕ → Option (List ℕ) → List Pattern
patterns_by signature pattern n s None = []
patterns_by signature pattern n s (Some operations) = split_patterns signature pattern n s operations

-- none where there is no variable
abbrev pub patterns_at : Signature → List Cover → Pattern → Option Term → List Pattern
patterns_at signature covers pattern (Some (variable n s)) = patterns_by signature pattern n s (cover_of covers s)
patterns_at signature covers pattern part = []

-- the patterns by which a line of a tree replaces the first one that is left
abbrev pub patterns_behind : Signature → List Cover → Pattern → TreeLine → List Pattern
patterns_behind signature covers pattern leaf_here = []
patterns_behind signature covers pattern (split_pattern path) =
    patterns_at signature covers pattern (subterm path pattern.term)

-- ---- What was read, and what a line asks for

-- The part that is being read: none but covers so far, a tree with the patterns that are left (none where it is finished), the
-- head of a lemma behind its first line with its variables, or behind its second one with its left side too, or the proof of a
-- lemma with the names of the cases that are left.
pub data OpenPart : Type 0 where
  among_covers : OpenPart
  in_tree : List Pattern → OpenPart
  behind_variables : List Variable → OpenPart
  behind_left : List Variable → WrittenTerm → OpenPart
  in_proof : List NamedCase → OpenPart

-- What was read, the lines of the open tree or proof among it.
pub record ReadSoFar : Type 0 where
  pub certificate : Certificate
  pub part : OpenPart

abbrev pub nothing_read : ReadSoFar
nothing_read = record { certificate = record { covers = []; trees = []; lemmas = [] }; part = among_covers }

-- What a line asks for by its form: a cover, a tree, a line of a tree with the patterns by which the first pattern that is left is
-- replaced, the variables, the left and the right side of a lemma, or a line of a proof, with the cases by which the first case
-- that is left is replaced, if it is; or the line may not stand there.
pub data LineTask : Type 0 where
  read_cover : (sort items : List ℕ) → LineTask
  read_tree : (item : List ℕ) → LineTask
  tree_line : TreeLine → List Pattern → LineTask
  read_variables : Option (List ℕ) → LineTask
  read_left : List Variable → (term : List ℕ) → LineTask
  read_right : List Variable → WrittenTerm → (term : List ℕ) → LineTask
  proof_line : ProofLine → Option (List NamedCase) → LineTask
  no_task : LineTask

abbrev pub among_covers_task : LineForm → LineTask
among_covers_task (cover_form sort items) = read_cover sort items
among_covers_task (tree_form item) = read_tree item
among_covers_task (lemma_form variables) = read_variables variables
among_covers_task form = no_task

-- a line of a tree deals with the first pattern that is left; behind a finished tree it may not stand
abbrev pub first_line : Signature → List Cover → List Pattern → TreeLine → LineTask
first_line signature covers [] line = no_task
first_line signature covers (pattern ∷ patterns) line = tree_line line (patterns_behind signature covers pattern line)

abbrev pub pattern_split : Signature → List Cover → List Pattern → Option (List ℕ) → LineTask
pattern_split signature covers left None = no_task
pattern_split signature covers left (Some path) = first_line signature covers left (split_pattern path)

abbrev pub in_tree_task : Signature → List Cover → List Pattern → LineForm → LineTask
in_tree_task signature covers left (tree_form item) = read_tree item
in_tree_task signature covers left (split_form word) = pattern_split signature covers left (path_of word)
in_tree_task signature covers left (lemma_form variables) = read_variables variables
in_tree_task signature covers left leaf_form = first_line signature covers left leaf_here
in_tree_task signature covers left form = no_task

abbrev pub left_task : List Variable → LineForm → LineTask
left_task variables (left_form term) = read_left variables term
left_task variables form = no_task

abbrev pub right_task : List Variable → WrittenTerm → LineForm → LineTask
right_task variables left (right_form term) = read_right variables left term
right_task variables left form = no_task

-- the split of a variable of the first case that is left, if one is
abbrev pub variable_split : Signature → List Cover → List NamedCase → List ℕ → LineTask
variable_split signature covers [] name = proof_line (split_variable zero) (Some [])
variable_split signature covers (point ∷ points) name =
    proof_line (split_variable (number_named point.names name)) (Some (cases_behind signature covers point name))

abbrev pub in_proof_task : Signature → List Cover → List NamedCase → LineForm → LineTask
in_proof_task signature covers left (split_form word) = variable_split signature covers left word
in_proof_task signature covers left (lemma_form variables) = read_variables variables
in_proof_task signature covers left (use_form use_) = proof_line (use_it use_) None
in_proof_task signature covers left same_form = proof_line same_sides (Some [])
in_proof_task signature covers left form = no_task

abbrev pub line_task_of : Signature → List Cover → OpenPart → LineForm → LineTask
line_task_of signature covers among_covers form = among_covers_task form
line_task_of signature covers (in_tree left) form = in_tree_task signature covers left form
line_task_of signature covers (behind_variables variables) form = left_task variables form
line_task_of signature covers (behind_left variables left) form = right_task variables left form
line_task_of signature covers (in_proof left) form = in_proof_task signature covers left form

-- ---- What a line gives

-- What a line that reads gives.
pub data Piece : Type 0 where
  new_cover : Cover → Piece
  new_tree : (operation : ℕ) → Pattern → Piece
  new_tree_line : TreeLine → List Pattern → Piece
  new_variables : List Variable → Piece
  new_left : List Variable → WrittenTerm → Piece
  new_lemma : List Variable → Statement → Piece
  new_proof_line : ProofLine → Option (List NamedCase) → Piece

-- The line that asks for this gives the piece.
abbrev pub GivesPiece : Signature → LineTask → Piece → Type 0
GivesPiece signature (read_cover sort items) piece =
    (cover : Cover) × IsWrittenCover signature sort items cover × (piece ≡ new_cover cover)
GivesPiece signature (read_tree item) piece =
    (f : ℕ) × (operation : Operation) × AreOperationsOf signature item (f ∷ []) × IsOperation signature f operation
    × (piece ≡ new_tree f (first_pattern (record { number = f; operation = operation })))
GivesPiece signature (tree_line line patterns) piece = piece ≡ new_tree_line line patterns
GivesPiece signature (read_variables text) piece =
    (variables : List Variable) × AreLemmaVariables signature text variables × (piece ≡ new_variables variables)
GivesPiece signature (read_left variables term) piece =
    (left : WrittenTerm) × IsWrittenSide signature variables term left × (piece ≡ new_left variables left)
GivesPiece signature (read_right variables left term) piece =
    (right : WrittenTerm) × (statement : Statement) × IsWrittenSide signature variables term right
    × AreReadSides signature variables left right statement × (piece ≡ new_lemma variables statement)
GivesPiece signature (proof_line line cases) piece = piece ≡ new_proof_line line cases
GivesPiece signature no_task piece = ⊥

-- The line is a right side by itself, but with the left side it has no pair of readings with one sort, or several.
abbrev pub FailsWithLeft : Signature → LineTask → Type 0
FailsWithLeft signature (read_right variables left term) =
    (right : WrittenTerm) × IsWrittenSide signature variables term right
    × ((statement : Statement) → ¬ AreReadSides signature variables left right statement)
FailsWithLeft signature task = ⊥

-- the last member, changed
abbrev pub with_last : {A : Type 0} → (A → A) → List A → List A
with_last f [] = []
with_last f (x ∷ []) = f x ∷ []
with_last f (x ∷ y ∷ ys) = x ∷ with_last f (y ∷ ys)

abbrev pub tree_with : TreeLine → PatternTree → PatternTree
tree_with line tree = record { operation = tree.operation; lines = tree.lines ++ line ∷ [] }

abbrev pub lemma_with : ProofLine → Lemma → Lemma
lemma_with line lemma =
    record { variables = lemma.variables; statement = lemma.statement; lines = lemma.lines ++ line ∷ [] }

-- the cases or patterns that are left, with these in place of the first one
abbrev pub without_first : {X : Type 0} → List X → List X
without_first [] = []
without_first (x ∷ xs) = xs

abbrev pub left_behind : Option (List NamedCase) → List NamedCase → List NamedCase
left_behind None left = left
left_behind (Some cases) left = cases ++ without_first left

-- the part behind a line of a tree
abbrev pub tree_behind : List Pattern → OpenPart → OpenPart
tree_behind patterns (in_tree left) = in_tree (patterns ++ without_first left)
tree_behind patterns part = part

-- the part behind a line of a proof
abbrev pub proof_behind : Option (List NamedCase) → OpenPart → OpenPart
proof_behind cases (in_proof left) = in_proof (left_behind cases left)
proof_behind cases part = part

-- what was read, when it has these parts
abbrev pub read_as : List Cover → List PatternTree → List Lemma → OpenPart → ReadSoFar
read_as covers trees lemmas part = record { certificate = record { covers = covers; trees = trees; lemmas = lemmas }; part = part }

-- What was read, with the piece that a line gives.
abbrev pub with_piece : ReadSoFar → Piece → ReadSoFar
with_piece reading (new_cover cover) =
    read_as (reading.certificate.covers ++ cover ∷ []) reading.certificate.trees reading.certificate.lemmas among_covers
with_piece reading (new_tree operation pattern) =
    read_as reading.certificate.covers (reading.certificate.trees ++ record { operation = operation; lines = [] } ∷ [])
    reading.certificate.lemmas (in_tree (pattern ∷ []))
with_piece reading (new_tree_line line patterns) =
    read_as reading.certificate.covers (with_last (tree_with line) reading.certificate.trees) reading.certificate.lemmas
    (tree_behind patterns reading.part)
with_piece reading (new_variables variables) =
    record { certificate = reading.certificate; part = behind_variables variables }
with_piece reading (new_left variables left) =
    record { certificate = reading.certificate; part = behind_left variables left }
with_piece reading (new_lemma variables statement) =
    read_as reading.certificate.covers reading.certificate.trees
    (reading.certificate.lemmas ++ stated_lemma variables statement ∷ []) (in_proof (first_names variables ∷ []))
with_piece reading (new_proof_line line cases) =
    read_as reading.certificate.covers reading.certificate.trees (with_last (lemma_with line) reading.certificate.lemmas)
    (proof_behind cases reading.part)
