use Rattle.session_log.proofs.EntryLemmas.{given_sorts}
use Rattle.session_log.proofs.entries.derivation_for.Goals as goal

pub derivation-requires-clause-values : goal.derivation-requires-clause-values
derivation-requires-clause-values g c =
    let signature = (g.D.Deciding.known_data c.args.data.now).signature in
    record {
      sorted = given_sorts signature c.args.entry.now.vars.items c.args.values.now c.requires.given c.requires.counted
          (c.in_default.ensures signature c.requires.given.terms);
      terms = c.requires.given.terms;
    }

pub returns-clause-derived : goal.returns-clause-derived
returns-clause-derived g c =
    let signature = (g.D.Deciding.known_data c.args.data.now).signature in
    record {
      sorted = given_sorts signature c.args.entry.now.vars.items c.args.values.now c.requires.given c.requires.counted
          (c.in_default.ensures signature c.requires.given.terms);
      same = c.in_ok-derivation.ensures.same;
      leaves = c.in_ok-derivation.ensures.is_of;
    }
