use Rattle.std.proofs.Common.{Ok, refl, reverse, ap, sym}
use Rattle.induct_parts.specs.CaseView.{patterns_in}
use Rattle.induct_parts.specs.CertificateView.{covers_in}
use Rattle.induct_check.specs.CertificateReading.{in_tree_task}
use Rattle.induct_check.specs.FormView.{form_in}
use Rattle.induct_check.specs.KnownView.{known_signature}
use Rattle.induct_check.specs.declared.pieces.LineOutcome.TheVariants.{Nothing}
use Rattle.induct_check.proofs.OutcomeLemmas.{moved}
use Rattle.induct_check.proofs.PieceLemmas.{none_in_tree}
use Rattle.induct_check.proofs.pieces.in_tree.Goals.{in-Tree, in-Split, in-Lemma, in-Leaf, in_default}
use Rattle.induct_check.proofs.pieces.in_tree.Goals as goal

pub returns : goal.returns
returns c =
    let signature = known_signature c.args.known.now in
    let covers = covers_in c.args.covers.now in
    let left = patterns_in (reverse c.args.left.now) in
    let task = in_tree_task signature covers left (form_in c.args.form) in
    elim c.match-form.branch [
      | in-Tree w ↦ moved signature _ task w.tree_piece.result c.match-form.result
          (sym (ap (λ f. in_tree_task signature covers left (form_in f)) w.in-Tree.is)) w.result-is w.tree_piece.ensures
      | in-Split w ↦ moved signature _ task w.pattern_split.result c.match-form.result
          (sym (ap (λ f. in_tree_task signature covers left (form_in f)) w.in-Split.is)) w.result-is w.pattern_split.ensures
      | in-Lemma w ↦ moved signature _ task w.variables_piece.result c.match-form.result
          (sym (ap (λ f. in_tree_task signature covers left (form_in f)) w.in-Lemma.is)) w.result-is w.variables_piece.ensures
      | in-Leaf w ↦ moved signature _ task w.first_line.result c.match-form.result
          (sym (ap (λ f. in_tree_task signature covers left (form_in f)) w.in-Leaf.is)) w.result-is w.first_line.ensures
      | in_default w ↦ moved signature task task (Ok Nothing) c.match-form.result refl w.result-is
          (none_in_tree signature covers left c.args.form w.in_default.not-Tree w.in_default.not-Split w.in_default.not-Lemma
          w.in_default.not-Leaf)
    ]
