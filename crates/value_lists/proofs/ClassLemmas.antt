-- The normal form of a ground term is the one member of its class in the list of its sort.
use Rattle.std.proofs.Common.{◌≡◌, ℕ, ◌≤◌, List, sym, ◌∙◌, subst}
use Rattle.std.specs.List.{Contains}
use Rattle.lotos_base.specs.Canon.{IsCanon}
use Rattle.lotos_base.specs.Equality.{Equal}
use Rattle.lotos_base.specs.Equation.{Data}
use Rattle.lotos_base.specs.Sorting.{IsGroundOf}
use Rattle.lotos_base.specs.Term.{Term}
use Rattle.lotos_base.proofs.CanonLemmas.{canon_ground, canon_tells}
use Rattle.rewriting_theory.specs.NormalForm.{Normalises}
use Rattle.rewriting_theory.specs.Rewriting.{AreConfluent, IsNormal}
use Rattle.rewriting_theory.specs.Rule.{Rule, AreSortedRulesOf}
use Rattle.rewriting_theory.proofs.NormalLemmas.{normal_form_canon}
use Rattle.value_lists.specs.ListLaws.{IsOnlyMemberFor}
use Rattle.value_lists.specs.TermOrder.{term_size}
use Rattle.value_lists.specs.ValueList.{IsValueList}
use Rattle.value_lists.proofs.NormalParts.{stays}

module _ (data_ : Data) (rules : List Rule) (canon : Term → Term) (limit sort : ℕ) (terms : List Term)
    (sorted : AreSortedRulesOf data_ rules) (confluent : AreConfluent rules) (normal : Normalises rules canon)
    (lists : IsValueList data_.signature (IsNormal rules) limit sort terms) where
  laws : IsCanon data_ canon
  laws = normal_form_canon data_ rules canon sorted confluent normal

  -- a member is its own normal form
  member_stays : (u : Term) → Contains terms u → canon u ≡ u
  member_stays u h = stays ((lists.exactly u).0 h).0.irreducible (normal.reached u)

  -- a member that equals the term is its normal form
  member_is : (t u : Term) → IsGroundOf data_.signature sort t → Contains terms u → Equal data_ t u → u ≡ canon t
  member_is t u ground_t h equal =
      sym (member_stays u h) ∙ sym (laws.decides t u sort ground_t ((lists.exactly u).0 h).0.is_ground equal)

  pub only_member : (t : Term) → IsGroundOf data_.signature sort t → term_size (canon t) ≤ limit
      → IsOnlyMemberFor data_ terms t (canon t)
  only_member t ground_t small =
      let canon_is = canon_ground data_ canon t sort laws ground_t in (
        (lists.exactly (canon t)).1 (record { is_ground = canon_is; irreducible = normal.irreducible t }, small),
        canon_tells data_ canon t (canon t) sort laws ground_t canon_is (sym (stays (normal.irreducible t) (normal.reached (canon t)))),
        λ u h equal. member_is t u ground_t h equal,
      )

  pub member_small : (t u : Term) → IsGroundOf data_.signature sort t → Contains terms u → Equal data_ t u → term_size (canon t) ≤ limit
  member_small t u ground_t h equal =
      subst (λ (v : Term). term_size v ≤ limit) (member_is t u ground_t h equal) ((lists.exactly u).0 h).1

pub stays_itself : (rules : List Rule) (canon : Term → Term) (t : Term) → Normalises rules canon
    → (IsNormal rules t → canon t ≡ t) × (canon t ≡ t → IsNormal rules t)
stays_itself rules canon t normal = (
  λ irreducible. stays irreducible (normal.reached t),
  λ same. subst (λ (u : Term). IsNormal rules u) same (normal.irreducible t),
)
