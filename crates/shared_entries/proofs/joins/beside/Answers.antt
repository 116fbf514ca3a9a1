use Rattle.std.proofs.Common.{map}
use Rattle.shared_entries.specs.Items.{plain_item}
use Rattle.shared_entries.proofs.ItemLemmas.{over_terms}
use Rattle.shared_entries.proofs.joins.beside.Goals as goal

pub returns-clause-beside : goal.returns-clause-beside
returns-clause-beside g c =
    let signature = (g.D.Deciding.known_data c.args.decider.now).signature in
    let lefts = over_terms signature c.args.lefts.now.items c.requires.lefts in
    let rights = over_terms signature c.args.rights.now.items c.requires.rights in
    record {
      boths = map plain_item c.in_ok-boths.boths.items;
      solved = c.in_ok-boths.ensures.solved;
      same = c.in_ok-made.ensures.same signature lefts rights;
      terms = c.in_ok-made.ensures.terms signature lefts rights c.in_ok-boths.ensures.terms;
    }
