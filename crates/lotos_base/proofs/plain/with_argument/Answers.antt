use Rattle.std.proofs.Common.{◌≡◌, length, arith, ap, ◌∙◌}
use Rattle.lotos_base.specs.Term.{Terms}
use Rattle.lotos_base.specs.Path.{with_argument as argument_put}
use Rattle.lotos_base.specs.PlainView.{term_of_plain}
use Rattle.lotos_base.proofs.PlainLemmas.{same_length, arguments_of-set}
use Rattle.lotos_base.proofs.plain.with_argument.Goals as goal

-- the copies are as many as the terms
pub index_mut-requires : goal.index_mut-requires
index_mut-requires c =
    let as_many : length c.in_ok-made.made.items ≡ length c.args.terms.now.items =
    same_length c.in_ok-made.made.items c.args.terms.now.items c.in_ok-made.ensures in
    omega arith

pub returns : goal.returns
returns c =
    arguments_of-set c.in_ok-made.made.items c.args.position c.args.part
    ∙ ap (λ (ts : Terms). argument_put c.args.position (term_of_plain c.args.part) ts) c.in_ok-made.ensures
