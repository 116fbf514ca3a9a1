-- What certificates of the code stand for.
use Rattle.std.specs.Prelude.{ℕ, ◌+◌, List, [], ◌∷◌, map, length}
use Rattle.lotos_base.specs.Equality as equality
use Rattle.certificate_theory.specs.InductionCertificate as plain
use Rattle.certificate_theory.specs.Certified.{lines_of_trees, lines_of_lemma}
use Rattle.induct_parts.specs.StatementView.{statement_of}
use Rattle.induct_parts.specs.declared.certificates.Cover.{Cover}
use Rattle.induct_parts.specs.declared.certificates.TreeLine.{TreeLine}
use Rattle.induct_parts.specs.declared.certificates.TreeLine.TheVariants as tree_line
use Rattle.induct_parts.specs.declared.certificates.PatternTree.{PatternTree}
use Rattle.induct_parts.specs.declared.certificates.Side.{Side}
use Rattle.induct_parts.specs.declared.certificates.Side.TheVariants.{Left, Right}
use Rattle.induct_parts.specs.declared.certificates.Direction.{Direction}
use Rattle.induct_parts.specs.declared.certificates.Direction.TheVariants.{Forward, Backward}
use Rattle.induct_parts.specs.declared.certificates.Source.{Source}
use Rattle.induct_parts.specs.declared.certificates.Source.TheVariants as source
use Rattle.induct_parts.specs.declared.certificates.Use.{Use}
use Rattle.induct_parts.specs.declared.certificates.ProofLine.{ProofLine}
use Rattle.induct_parts.specs.declared.certificates.ProofLine.TheVariants as proof_line
use Rattle.induct_parts.specs.declared.certificates.StatedLemma.{StatedLemma}
use Rattle.induct_parts.specs.declared.certificates.Certificate.{Certificate}

-- a cover, and several
abbrev pub cover_in : Cover → plain.Cover
cover_in cover = record { sort = cover.sort; operations = cover.operations.items }

abbrev pub covers_in : List Cover → List plain.Cover
covers_in covers = map cover_in covers

-- a line of a tree, and a tree
abbrev pub tree_line_of : TreeLine → plain.TreeLine
tree_line_of (tree_line.Split path) = plain.split_pattern path.items
tree_line_of tree_line.Leaf = plain.leaf_here

abbrev pub tree_in : PatternTree → plain.PatternTree
tree_in tree = record { operation = tree.operation; lines = map tree_line_of tree.lines.items }

abbrev pub trees_in : List PatternTree → List plain.PatternTree
trees_in trees = map tree_in trees

-- a use
abbrev pub use_side_of : Side → plain.Side
use_side_of Left = plain.left_side
use_side_of Right = plain.right_side

abbrev pub direction_of : Direction → equality.Direction
direction_of Forward = equality.forward
direction_of Backward = equality.backward

abbrev pub use_source_of : Source → plain.Source
use_source_of (source.Lemma k) = plain.by_lemma k
use_source_of (source.Hypothesis k) = plain.by_hypothesis k

abbrev pub use_of : Use → plain.Use
use_of use_ = record {
  source = use_source_of use_.source;
  side = use_side_of use_.side;
  path = use_.path.items;
  direction = direction_of use_.direction;
}

-- a line of a proof, and a lemma
abbrev pub proof_line_of : ProofLine → plain.ProofLine
proof_line_of (proof_line.Split n) = plain.split_variable n
proof_line_of (proof_line.Use use_) = plain.use_it (use_of use_)
proof_line_of proof_line.Same = plain.same_sides

abbrev pub lemma_in : StatedLemma → plain.Lemma
lemma_in lemma = record {
  variables = lemma.variables.items;
  statement = statement_of lemma.statement;
  lines = map proof_line_of lemma.lines.items;
}

abbrev pub lemmas_in : List StatedLemma → List plain.Lemma
lemmas_in lemmas = map lemma_in lemmas

-- the number of lines of lemmas
abbrev pub lines_of_lemmas : List plain.Lemma → ℕ
lines_of_lemmas [] = 0
lines_of_lemmas (lemma ∷ lemmas) = lines_of_lemma lemma + lines_of_lemmas lemmas

-- the certificate
abbrev pub certificate_in : Certificate → plain.Certificate
certificate_in certificate = record {
  covers = covers_in certificate.covers.items;
  trees = trees_in certificate.trees.items;
  lemmas = lemmas_in certificate.lemmas.items;
}

-- the number of its lines
abbrev pub lines_of_certificate : plain.Certificate → ℕ
lines_of_certificate certificate =
    length certificate.covers + lines_of_trees certificate.trees + lines_of_lemmas certificate.lemmas
