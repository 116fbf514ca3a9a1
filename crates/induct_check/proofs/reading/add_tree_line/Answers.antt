use Rattle.induct_parts.specs.CertificateView.{tree_in, tree_line_of}
use Rattle.induct_check.specs.CertificateReading.{tree_with}
use Rattle.induct_check.proofs.ReadingLemmas.{last_put, each_last_put, tree_lined}
use Rattle.induct_check.proofs.reading.add_tree_line.Goals as goal

pub returns-clause-added : goal.returns-clause-added
returns-clause-added c =
    last_put tree_in (tree_with (tree_line_of c.args.line)) c.args.trees.now.items c.pop.new.self.items c.push-2.new.self.items
    c.in-Some.tree _ c.in-Some.ensures.items c.in_ok-push-2.ensures.items
    (tree_lined c.in-Some.tree c.push.new.self c.args.line c.in_ok-push.ensures.items)

pub returns-clause-known : goal.returns-clause-known
returns-clause-known c = λ signature each.
    each_last_put _ c.args.trees.now.items c.pop.new.self.items c.push-2.new.self.items c.in-Some.tree _ c.in-Some.ensures.items
    c.in_ok-push-2.ensures.items (λ h. h) each
