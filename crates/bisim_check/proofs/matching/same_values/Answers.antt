use Rattle.bisim_check.proofs.DataLemmas.{terms_told}
use Rattle.bisim_check.proofs.matching.same_values.Goals as goal

pub returns : goal.returns
returns c =
    terms_told c.all_agree.result c.as_slice.result.now c.as_slice-2.result.now c.args.values.now.items c.args.others.now.items
    c.as_slice.ensures.value c.as_slice-2.ensures.value c.all_agree.ensures
