use Rattle.std.proofs.Common.{refl}
use Rattle.induct_check.specs.CertificateLines.{most}
use Rattle.induct_check.proofs.cases.lines_have_forms.Goals as goal

pub returns : goal.returns
unfolding most
returns c = record {
  cover = refl;
  empty_cover = refl;
  tree = refl;
  leaf = refl;
  lemma_ = refl;
  bare_lemma = refl;
  left = refl;
  split = refl;
  hypothesis = refl;
  earlier = refl;
  same = refl;
}
