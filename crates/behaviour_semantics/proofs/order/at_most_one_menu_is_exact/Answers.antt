use Rattle.behaviour_semantics.proofs.MenuLemmas.{same_members}
use Rattle.behaviour_semantics.proofs.order.at_most_one_menu_is_exact.Goals as goal
use Rattle.behaviour_semantics.proofs.OrderLemmas.{entries_within}

pub returns : goal.returns
returns c = λ data_ canon processes b menu other exact exact'.
    same_members menu other exact.rising exact'.rising (entries_within data_ canon processes b menu other exact exact')
    (entries_within data_ canon processes b other menu exact' exact)
