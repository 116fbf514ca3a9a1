-- What a reader keeps of what is left stays aligned with what is left, along all lines of a text: the patterns of a tree, and the
-- names of the cases of a proof.
use Rattle.std.specs.Prelude.{◌≡◌, List, [], ◌∷◌, ◌++◌, length, ℕ}
use Rattle.lotos_base.specs.Signature.{Signature, Operation, IsOperation}
use Rattle.certificate_theory.specs.Certified.{proving_of}
use Rattle.certificate_theory.specs.Lines.{LinesReach}
use Rattle.certificate_theory.specs.Patterns.{Pattern, first_pattern, PatternComesTo}
use Rattle.certificate_theory.specs.Proofs.{CaseComesTo}
use Rattle.certificate_theory.specs.Splits.{Case, first_case}
use Rattle.induct_parts.specs.HandedOn.{PatternTree, Lemma, Theory}
use Rattle.induct_check.specs.CertificateReading.{NamedCase, OpenPart, among_covers, in_tree, behind_variables, behind_left, in_proof, ReadSoFar, nothing_read, Piece, with_piece}
use Rattle.induct_check.specs.TextFaults.{LineGives}

-- The reader has read this, line by line.
pub data IsReached (signature : Signature) : ReadSoFar → Type 0 where
  at_the_start : IsReached signature nothing_read
  behind_a_line : {reading : ReadSoFar} (line : List ℕ) (piece : Piece) → IsReached signature reading
      → LineGives signature reading line piece → IsReached signature (with_piece reading piece)

-- The variables of the case have these sorts, and each has a name.
pub record IsNamedFor (named : NamedCase) (point : Case) : Type 0 where
  pub sorts : named.sorts ≡ point.sorts
  pub names : length named.names ≡ length named.sorts

-- The names are those of the cases, one by one.
pub data AreNamedFor : List NamedCase → List Case → Type 0 where
  none_left : AreNamedFor [] []
  one_left : {named : NamedCase} {point : Case} {left : List NamedCase} {points : List Case} → IsNamedFor named point
      → AreNamedFor left points → AreNamedFor (named ∷ left) (point ∷ points)

-- Where the lines of the open tree lead to patterns, these are left; so it is finished where none is. Where those of the open proof
-- lead to cases, the names that are left are those of these cases.
abbrev pub PartIsAligned : Theory → ReadSoFar → OpenPart → Type 0
PartIsAligned theory reading among_covers = Unit {0}
PartIsAligned theory reading (in_tree left) = (earlier : List PatternTree) (tree : PatternTree) (operation : Operation) (patterns : List Pattern)
    → reading.certificate.trees ≡ earlier ++ tree ∷ [] → IsOperation theory.data_.signature tree.operation operation
    → LinesReach (PatternComesTo theory.data_.signature theory.rules reading.certificate.covers)
    (first_pattern (record { number = tree.operation; operation = operation }) ∷ []) tree.lines patterns
    → left ≡ patterns
PartIsAligned theory reading (behind_variables variables) = Unit {0}
PartIsAligned theory reading (behind_left variables left) = Unit {0}
PartIsAligned theory reading (in_proof left) = (earlier : List Lemma) (lemma : Lemma) (points : List Case)
    → reading.certificate.lemmas ≡ earlier ++ lemma ∷ []
    → LinesReach (CaseComesTo theory reading.certificate.covers (proving_of earlier lemma)) (first_case theory lemma ∷ []) lemma.lines points
    → AreNamedFor left points

abbrev pub WhatIsLeftStaysAligned : Type 0
WhatIsLeftStaysAligned = (theory : Theory) (reading : ReadSoFar) → IsReached theory.data_.signature reading
    → PartIsAligned theory reading reading.part
