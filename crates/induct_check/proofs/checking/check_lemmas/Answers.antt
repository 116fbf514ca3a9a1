use Rattle.std.proofs.Common.{refl, arith}
use Rattle.sort_terms.specs.SignatureView.{signature_of}
use Rattle.induct_check.specs.CertificateReading.{nothing_read}
use Rattle.induct_check.specs.ReadingView.{read_text}
use Rattle.induct_check.proofs.FewLines.{few_lines}
use Rattle.induct_check.proofs.checking.check_lemmas.Goals as goal

pub judged-requires-clause-few : goal.judged-requires-clause-few
judged-requires-clause-few g c =
    let few = few_lines (signature_of c.args.signature.now) c.args.text.now nothing_read (read_text c.in_ok-read.read) refl
    c.in_ok-read.ensures.read in
    omega (arith, few, c.requires.short)
