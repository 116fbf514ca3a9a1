use Rattle.std.proofs.Common.{[], refl, None}
use Rattle.lotos_base.specs.WrittenView.{written_term_of}
use Rattle.sort_terms.specs.SignatureView.{signature_of}
use Rattle.sort_terms.specs.SortedView.{term_in}
use Rattle.history_lines.proofs.HandedOn.{reading_ground}
use Rattle.demo_walks.proofs.values.value_of.Goals as goal

pub returns-in-Ok-clause-given : goal.returns-in-Ok-clause-given
returns-in-Ok-clause-given c = record {
  is_of = c.in-Ok.ensures.read.0;
  ground = reading_ground (signature_of c.args.signature.now) [] (written_term_of c.args.term.now) None
      (record { term = term_in c.in-Ok.value; sort = c.in-Ok.value.sort }) refl c.in-Ok.ensures.read.1;
}
