-- What parts and pieces of the code stand for, and what is known of them.
use Rattle.std.specs.Prelude.{◌≡◌, ℕ, List, Some, map, reverse, slice_get}
use Rattle.lotos_base.proofs.Each.{Each}
use Rattle.std.specs.Option.{option_map}
use Rattle.lotos_base.specs.Equation.{Variable}
use Rattle.lotos_base.specs.Signature.{Signature, Operation, IsOperation}
use Rattle.lotos_base.specs.WrittenView.{written_term_of}
use Rattle.sort_terms.specs.EquationView.{variable_of}
use Rattle.sort_terms.specs.Reading.{IsScopeOver}
use Rattle.certificate_theory.specs.Covers.{IsListedIn, HasResult}
use Rattle.induct_parts.specs.HandedOn.{IsStated}
use Rattle.induct_parts.specs.CaseView.{IsKnownPattern, pattern_in, patterns_in}
use Rattle.induct_parts.specs.CertificateView.{cover_in, tree_line_of, proof_line_of}
use Rattle.induct_parts.specs.StatementView.{IsStatementOf, statement_of}
use Rattle.induct_check.specs.CertificateReading as plain
use Rattle.induct_check.specs.CertificateReading.{OpenPart, among_covers, in_tree, behind_variables, behind_left, in_proof, LineTask, GivesPiece, FailsWithLeft, stated_lemma}
use Rattle.induct_check.specs.NameView.{named_cases_in}
use Rattle.induct_check.specs.declared.pieces.Part.{Part}
use Rattle.induct_check.specs.declared.pieces.Part.TheVariants as part
use Rattle.induct_check.specs.declared.pieces.Piece.{Piece}
use Rattle.induct_check.specs.declared.pieces.Piece.TheVariants as piece
use Rattle.induct_check.specs.declared.pieces.LineOutcome.{LineOutcome}
use Rattle.induct_check.specs.declared.pieces.LineOutcome.TheVariants as outcome

abbrev pub open_part_in : Part → OpenPart
open_part_in part.Covers = among_covers
open_part_in (part.Tree left) = in_tree (patterns_in (reverse left.items))
open_part_in (part.Variables variables) = behind_variables (map variable_of variables.items)
open_part_in (part.Left variables left) = behind_left (map variable_of variables.items) (written_term_of left)
open_part_in (part.Proof left) = in_proof (named_cases_in (reverse left.items))

abbrev pub piece_in : Piece → plain.Piece
piece_in (piece.Cover cover) = plain.new_cover (cover_in cover)
piece_in (piece.Tree operation pattern) = plain.new_tree operation (pattern_in pattern)
piece_in (piece.TreeLine line patterns) = plain.new_tree_line (tree_line_of line) (patterns_in patterns.items)
piece_in (piece.Variables variables) = plain.new_variables (map variable_of variables.items)
piece_in (piece.Left variables left) = plain.new_left (map variable_of variables.items) (written_term_of left)
piece_in (piece.Lemma variables statement) = plain.new_lemma (map variable_of variables.items) (statement_of statement)
piece_in (piece.ProofLine line cases) =
    plain.new_proof_line (proof_line_of line) (option_map (λ cs. named_cases_in cs.items) cases)

-- The variables have sorts of the signature, and are numbered by their positions.
pub record AreKnownVariables (signature : Signature) (variables : List Variable) : Type 0 where
  pub over : IsScopeOver signature variables
  pub numbered : (i : ℕ) (v : Variable) → slice_get variables i ≡ Some v → v.number ≡ i

abbrev pub IsKnownPart : Signature → OpenPart → Type 0
IsKnownPart signature among_covers = Unit {0}
IsKnownPart signature (in_tree left) = Each IsKnownPattern left
IsKnownPart signature (behind_variables variables) = AreKnownVariables signature variables
IsKnownPart signature (behind_left variables left) = AreKnownVariables signature variables
IsKnownPart signature (in_proof left) = Unit {0}

-- The operations of a cover have its sort as result, a tree is that of an operation, the patterns and the variables are known,
-- and a lemma is stated over the signature.
abbrev pub IsKnownPiece : Signature → Piece → Type 0
IsKnownPiece signature (piece.Cover cover) =
    (f : ℕ) → IsListedIn cover.operations.items f → HasResult signature cover.sort f
IsKnownPiece signature (piece.Tree f pattern) =
    ((operation : Operation) × IsOperation signature f operation) × IsKnownPattern (pattern_in pattern)
IsKnownPiece signature (piece.TreeLine line patterns) = Each IsKnownPattern (patterns_in patterns.items)
IsKnownPiece signature (piece.Variables variables) = AreKnownVariables signature (map variable_of variables.items)
IsKnownPiece signature (piece.Left variables left) = AreKnownVariables signature (map variable_of variables.items)
IsKnownPiece signature (piece.Lemma variables statement) =
    IsStated signature (stated_lemma (map variable_of variables.items) (statement_of statement)) × IsStatementOf signature statement
IsKnownPiece signature (piece.ProofLine line cases) = Unit {0}

-- What becomes of a line that asks for this.
abbrev pub IsUnderstood : Signature → LineTask → LineOutcome → Type 0
IsUnderstood signature task (outcome.Piece piece) = GivesPiece signature task (piece_in piece) × IsKnownPiece signature piece
IsUnderstood signature task outcome.Nothing =
    ((piece : plain.Piece) → ¬ GivesPiece signature task piece) × (¬ FailsWithLeft signature task)
IsUnderstood signature task outcome.WithLeft = FailsWithLeft signature task
