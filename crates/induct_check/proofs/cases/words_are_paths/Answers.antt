use Rattle.std.proofs.Common.{refl}
use Rattle.induct_check.specs.CertificateLines.{most}
use Rattle.induct_check.proofs.cases.words_are_paths.Goals as goal

pub returns : goal.returns
unfolding most
returns c = record {
  root = refl;
  one = refl;
  two = refl;
  leading_zero = refl;
  no_position = refl;
  no_digit = refl;
}
