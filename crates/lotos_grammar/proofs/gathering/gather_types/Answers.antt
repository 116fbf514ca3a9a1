use Rattle.lotos_grammar.proofs.ProgressLemmas.{whole_answer}
use Rattle.lotos_grammar.proofs.gathering.gather_types.Goals as goal

pub returns : goal.returns
returns g c = whole_answer _ _ _ _ _ c.add_items.result c.requires c.add_items.ensures.read
