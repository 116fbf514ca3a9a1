use Rattle.std.proofs.Common.{List, sym, subst}
use Rattle.induct_parts.specs.CertificateView.{cover_in, covers_in}
use Rattle.induct_parts.specs.HandedOn.{Cover}
use Rattle.induct_parts.proofs.StepLemmas.{pushed}
use Rattle.induct_check.specs.KnownView.{CoversHaveResults, known_signature}
use Rattle.induct_check.specs.PieceView.{IsKnownPiece}
use Rattle.induct_check.proofs.PatternSteps.{results_with}
use Rattle.induct_check.proofs.reading.add.Goals as goal

pub returns-in_ok-push-in-Cover-clause-known : goal.returns-in_ok-push-in-Cover-clause-known
returns-in_ok-push-in-Cover-clause-known c = λ known piece.
    let signature = known_signature c.args.known.now in
    let old = c.args.reading.now.certificate.covers.items in
    record {
      certificate = record { trees = known.certificate.trees; lemmas = known.certificate.lemmas };
      covers = subst (λ (covers : List Cover). CoversHaveResults signature covers)
          (sym (pushed cover_in old c.push.new.self.items c.in-Cover.cover c.in_ok-push-in-Cover.ensures.items))
          (results_with signature (covers_in old) (cover_in c.in-Cover.cover) known.covers
          (subst (IsKnownPiece signature) c.in-Cover.is piece));
      part = tt;
    }

pub returns-in_ok-add_tree-in-Tree-clause-known : goal.returns-in_ok-add_tree-in-Tree-clause-known
returns-in_ok-add_tree-in-Tree-clause-known c = λ known piece.
    let signature = known_signature c.args.known.now in
    let tree = subst (IsKnownPiece signature) c.in-Tree.is piece in
    c.in_ok-add_tree-in-Tree.ensures.known signature known tree.0.0 tree.0.1 tree.1

pub returns-in_ok-replace_pattern-in-TreeLine-clause-known : goal.returns-in_ok-replace_pattern-in-TreeLine-clause-known
returns-in_ok-replace_pattern-in-TreeLine-clause-known c = λ known piece.
    let signature = known_signature c.args.known.now in
    record {
      certificate = record {
        trees = c.in_ok-add_tree_line-in-TreeLine.ensures.known signature known.certificate.trees;
        lemmas = known.certificate.lemmas;
      };
      covers = known.covers;
      part = c.in_ok-replace_pattern-in-TreeLine.ensures.known signature known.part
          (subst (IsKnownPiece signature) c.in-TreeLine.is piece);
    }

pub returns-in_ok-add_proof_line-in-ProofLine-clause-known : goal.returns-in_ok-add_proof_line-in-ProofLine-clause-known
returns-in_ok-add_proof_line-in-ProofLine-clause-known c = λ known piece.
    c.in_ok-add_proof_line-in-ProofLine.ensures.known (known_signature c.args.known.now) known
