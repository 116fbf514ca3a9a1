use Rattle.sort_terms.proofs.SizeLemmas.{sizes_exchanged}
use Rattle.sort_terms.proofs.discarding.put_first.Goals as goal

pub returns : goal.returns
returns c =
    sizes_exchanged c.args.list.items c.args.op c.args.profile c.args.arguments c.replace-next.result c.index_mut.result.now
    c.replace-next.new.dest c.requires c.replace-next.ensures.value c.index_mut.ensures.value c.replace-next.ensures.after
