use Rattle.std.proofs.Common.{bit_and}
use Rattle.std.proofs.lemmas.Bool.Decides.{Decides-eqb}
use Rattle.sort_terms.specs.SortedView.{term_in}
use Rattle.term_store.proofs.HeadLemmas.{normal_by_heads}
use Rattle.term_store.proofs.store.Store.leaves.Goals as goal

pub returns : goal.returns
returns c = λ is.
    normal_by_heads c.args.self.now.rules c.facts.result.heads c.args.self.now.heads (term_in c.args.term.now) c.args.self.now.headed
    c.facts.ensures.2 ((Decides-eqb (bit_and c.facts.result.heads c.args.self.now.heads) 0).0 is)
