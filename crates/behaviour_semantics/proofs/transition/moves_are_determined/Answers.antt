use Rattle.std.proofs.Common.{◌≡◌, ap, sym, ◌∙◌}
use Rattle.behaviour_semantics.specs.Move.{Move}
use Rattle.behaviour_semantics.proofs.OptionLemmas.{some_value}
use Rattle.behaviour_semantics.proofs.transition.moves_are_determined.Goals as goal

pub returns : goal.returns
returns c = λ data_ represent processes b d label other target another m n.
    let e : _ ≡ _ = some_value (sym m.move ∙ n.move) in
    record {
      labels = ap (λ (x : Move). x.label) e;
      targets = ap (λ (x : Move). x.target) e;
      asked = ap (λ (x : Move). x.asked) e;
      sorts = ap (λ (x : Move). x.sorts) e;
    }
