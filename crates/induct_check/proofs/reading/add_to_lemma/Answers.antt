use Rattle.induct_parts.specs.CertificateView.{lemma_in, proof_line_of}
use Rattle.induct_parts.specs.SettingView.{IsKnownLemma}
use Rattle.induct_check.specs.CertificateReading.{lemma_with}
use Rattle.induct_check.proofs.ReadingLemmas.{last_put, each_last_put, lemma_lined, still_known}
use Rattle.induct_check.proofs.reading.add_to_lemma.Goals as goal

pub returns-clause-added : goal.returns-clause-added
returns-clause-added c =
    last_put lemma_in (lemma_with (proof_line_of c.args.line)) c.args.lemmas.now.items c.pop.new.self.items c.push-2.new.self.items
    c.in-Some.lemma _ c.in-Some.ensures.items c.in_ok-push-2.ensures.items
    (lemma_lined c.in-Some.lemma c.push.new.self c.args.line c.in_ok-push.ensures.items)

pub returns-clause-known : goal.returns-clause-known
returns-clause-known c = λ signature each.
    each_last_put (IsKnownLemma signature) c.args.lemmas.now.items c.pop.new.self.items c.push-2.new.self.items c.in-Some.lemma _
    c.in-Some.ensures.items c.in_ok-push-2.ensures.items (λ h. still_known signature c.in-Some.lemma c.push.new.self h) each
