use Rattle.sort_terms.specs.EquationView.{data_of}
use Rattle.certificate_verbs.specs.HandedOn.{book_canon}
use Rattle.lotos_top.proofs.BeginLemmas.{suited, kept, begins_so}
use Rattle.lotos_top.proofs.opening.begin.Goals as goal

pub open-requires-2 : goal.open-requires-2
open-requires-2 c = record {
  suited = suited c.requires.known.0 c.args.accepted c.in_ok-maker.maker c.requires.known.1
      (c.in_ok-maker.ensures (data_of c.args.accepted.book.flat) (book_canon c.args.accepted.book));
  kept = kept c.requires.known.0 c.args.accepted c.requires.known.1;
}

pub returns : goal.returns
returns c = λ acceptance holds.
    begins_so acceptance c.args.accepted c.open-2.new.data c.in_ok-session.session holds (record {
      same_data = c.in_ok-session.ensures.same_known.same_data;
      same_canon = c.in_ok-session.ensures.same_known.same_canon;
      lawful = c.in_ok-session.ensures.lawful;
      spec = c.in_ok-session.ensures.begins.0;
      state = c.in_ok-session.ensures.begins.2;
      history = c.in_ok-session.ensures.begins.3;
    })
