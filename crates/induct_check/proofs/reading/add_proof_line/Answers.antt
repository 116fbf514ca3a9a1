use Rattle.induct_check.proofs.OutcomeLemmas.{on_ok_more}
use Rattle.induct_check.proofs.reading.add_proof_line.Goals as goal

pub returns-in-None-clause-known : goal.returns-in-None-clause-known
returns-in-None-clause-known c = λ signature known. record {
  certificate = record {
    trees = known.certificate.trees;
    lemmas = c.in_ok-add_to_lemma.ensures.known signature known.certificate.lemmas;
  };
  covers = known.covers;
  part = known.part;
}

pub returns-in-Some-clause-known : goal.returns-in-Some-clause-known
returns-in-Some-clause-known c =
    on_ok_more _ _ c.replace_first.result
    (λ part signature known. record {
      certificate = record {
        trees = known.certificate.trees;
        lemmas = c.in_ok-add_to_lemma.ensures.known signature known.certificate.lemmas;
      };
      covers = known.covers;
      part = part signature known.part;
    })
    c.replace_first.ensures.known
