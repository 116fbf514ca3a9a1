-- The laws of the path order by places, from those of the order by recursion along the argument lists.
use Rattle.std.proofs.Common.{◌≡◌, ℕ, List, ◌∷◌, ◌∙◌}
use Rattle.std.specs.Prelude.{Some, IsTrue, ◌↔◌}
use Rattle.lotos_base.specs.Term.{Term}
use Rattle.lotos_base.specs.Sorting.{Occurs}
use Rattle.lotos_base.specs.Path.{subterm, put_at}
use Rattle.lotos_base.specs.Substitution.{Substitution, substituted}
use Rattle.lotos_base.proofs.PathLemmas.{subterm-put_at, put_at_twice}
use Rattle.rewriting_theory.specs.Precedence.{Precedence}
use Rattle.rewriting_theory.specs.PathOrder.{IsGreater}
use Rattle.rewriting_theory.specs.OrderTest.{is_greater}
use Rattle.rewriting_theory.proofs.Closure.{exceeds_instance, exceeds_occurs, exceeds_inside, exceeds_subterm}
use Rattle.rewriting_theory.proofs.StrictLemmas.{exceeds_irreflexive, exceeds_transitive}
use Rattle.rewriting_theory.proofs.OrderTestLemmas.{Decides-is_greater}
use Rattle.rewriting_theory.proofs.OrderPlaceLemmas.{exceeds_greater, greater_exceeds}

pub greater_irreflexive : (p : Precedence) (t : Term) → IsGreater p t t → ⊥
greater_irreflexive p t g = exceeds_irreflexive p t (greater_exceeds g)

pub greater_transitive : (p : Precedence) (t u v : Term) → IsGreater p t u → IsGreater p u v → IsGreater p t v
greater_transitive p t u v g h = exceeds_greater (exceeds_transitive p t u v (greater_exceeds g) (greater_exceeds h))

pub greater_asymmetric : (p : Precedence) (t u : Term) → IsGreater p t u → IsGreater p u t → ⊥
greater_asymmetric p t u g h = greater_irreflexive p t (greater_transitive p t u t g h)

pub greater_inside : (p : Precedence) (path : List ℕ) (t u whole before after : Term) → IsGreater p t u
    → put_at path t whole ≡ Some before → put_at path u whole ≡ Some after → IsGreater p before after
greater_inside p path t u whole before after g eb ea =
    exceeds_greater (exceeds_inside path t u before after (greater_exceeds g)
    (subterm-put_at path t whole before eb) (put_at_twice path t u whole before eb ∙ ea))

pub greater_instance : (p : Precedence) (values : Substitution) (t u : Term) → IsGreater p t u
    → IsGreater p (substituted values t) (substituted values u)
greater_instance p values t u g = exceeds_greater (exceeds_instance values (greater_exceeds g))

pub greater_subterm : (p : Precedence) (k : ℕ) (path : List ℕ) (t part : Term) → subterm (k ∷ path) t ≡ Some part
    → IsGreater p t part
greater_subterm p k path t part e = exceeds_greater (exceeds_subterm k path t part e)

pub greater_occurs : (p : Precedence) (t u : Term) (n s : ℕ) → IsGreater p t u → Occurs n s u → Occurs n s t
greater_occurs p t u n s g o = exceeds_occurs n s (greater_exceeds g) o

pub greater_decided : (p : Precedence) (t u : Term) → IsTrue (is_greater p t u) ↔ IsGreater p t u
greater_decided p t u =
    let decides = Decides-is_greater p t u in
    ((λ h. exceeds_greater (decides.0 h)), (λ g. decides.1 (greater_exceeds g)))
