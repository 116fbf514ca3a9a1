use Rattle.std.proofs.Common.{List, rules, sym, subst}
use Rattle.induct_parts.specs.CertificateView.{covers_in}
use Rattle.induct_parts.specs.declared.certificates.Cover.{Cover}
use Rattle.induct_check.specs.KnownView.{CoversHaveResults, known_signature}
use Rattle.induct_check.proofs.PatternSteps.{no_results}
use Rattle.induct_check.proofs.reading.read_parts.Goals as goal

pub read_behind-requires-clause-reading : goal.read_behind-requires-clause-reading
read_behind-requires-clause-reading c =
    let signature = known_signature c.args.known.now in
    record {
      certificate = search rules;
      covers = subst (λ (cs : List Cover). CoversHaveResults signature (covers_in cs)) (sym c.new.ensures.items) (no_results signature);
      part = tt;
    }

pub returns-clause-read : goal.returns-clause-read
returns-clause-read c = c.in_ok-stop.ensures.read

pub returns-clause-known : goal.returns-clause-known
returns-clause-known c = c.in_ok-stop.ensures.known.certificate
