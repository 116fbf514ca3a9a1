-- Steps of ground terms are links of equality, and links of equality are steps in one of the two directions or none.
use Rattle.std.proofs.Common.{◌≡◌, ℕ, List, ◌++◌, ap, sym, ◌∙◌, subst, inl, inr}
use Rattle.std.specs.Prelude.{Some, ◌⊎◌}
use Rattle.std.proofs.lemmas.Option.{same_Some}
use Rattle.lotos_base.specs.Term.{Term, variable, node, Terms, no_terms, term_then}
use Rattle.lotos_base.specs.Sorting.{HasSort, IsGround, AreGround, Occurs, OccursAmong}
use Rattle.lotos_base.specs.Path.{subterm, put_at}
use Rattle.lotos_base.specs.Substitution.{Substitution, substituted, all_substituted, IsGrounding}
use Rattle.lotos_base.specs.Equation.{Equation, Data, HasSortedSides}
use Rattle.lotos_base.specs.Equality.{Direction, forward, backward, old_side, new_side, Link, Equal, same_term, link_then}
use Rattle.lotos_base.proofs.PathLemmas.{subterm-put_at, put_at-subterm, put_at_twice, subterm-append, put_at-append}
use Rattle.lotos_base.proofs.SortLemmas.{link_ground, subterm_ground, subterm_sort}
use Rattle.rewriting_theory.specs.Rule.{Rule, IsRule, AreWellFormedRules, IsTurned, AreRulesOf}
use Rattle.rewriting_theory.specs.Reduction.{Reaches, reached_already, reached_after}
use Rattle.rewriting_theory.specs.Rewriting.{Rewrites}
use Rattle.rewriting_theory.specs.Step.{Step}
use Rattle.rewriting_theory.proofs.PlaceLemmas.{link_of_step}
use Rattle.rewriting_theory.proofs.SortedSteps.{sorted_rule, root_sort, step_sort}

-- ---- a link of rewriting is a link of equality

mutual
  -- what is put for the variables of a ground instance is ground
  ground_back : (values : Substitution) (l : Term) (n s : ℕ) → IsGround (substituted values l) → Occurs n s l
      → IsGround (values n s)
  ground_back values (variable m r) n s h o =
      subst (λ (q : ℕ). IsGround (values n q)) o.1 (subst (λ (i : ℕ). IsGround (values i r)) o.0 h)
  ground_back values (node f ls) n s h o = all_ground_back values ls n s h o

  all_ground_back : (values : Substitution) (ls : Terms) (n s : ℕ) → AreGround (all_substituted values ls)
      → OccursAmong n s ls → IsGround (values n s)
  all_ground_back values no_terms n s h o = absurd o
  all_ground_back values (term_then l ls) n s h (inl o) = ground_back values l n s h.0 o
  all_ground_back values (term_then l ls) n s h (inr o) = all_ground_back values ls n s h.1 o

-- a rule's sides as those of its equation
turned_sides : (direction : Direction) (equation : Equation) (rule : Rule) → IsTurned direction equation rule
    → (P : Term → Type 0) → P rule.left → P rule.right → P equation.left × P equation.right
turned_sides forward equation rule turned P left right = (subst P turned.left left, subst P turned.right right)
turned_sides backward equation rule turned P left right = (subst P turned.right right, subst P turned.left left)

-- a link of rewriting of a sorted ground term is a link of equality
pub link_of_rewriting : {rules : List Rule} (data_ : Data) → HasSortedSides data_ → AreRulesOf data_ rules
    → AreWellFormedRules rules → {t u : Term} (s : ℕ) → Rewrites rules t u → IsGround t → HasSort data_.signature t s
    → Link data_ t u
link_of_rewriting {rules = rules} data_ sorted of fine {t = t} {u = u} s link ground_term h =
    let rule = link.rule in
    let values = link.values in
    let from = of.rules_turned link.rule link.is_rule in
    let well = fine link.rule link.is_rule in
    let ground_left = subterm_ground link.path t (substituted link.values link.rule.left) ground_term link.old in
    let part = subterm_sort data_.signature link.path t (substituted link.values link.rule.left) s h link.old in
    let keeps = (root_sort data_.signature link.rule link.values part.sort well
    (sorted_rule data_ rules sorted of link.rule link.is_rule) part.sorted).keeps in
    let left : IsGrounding data_.signature link.rule.left link.values =
    λ n r o. record { ground = ground_back link.values link.rule.left n r ground_left o; sorted = keeps n r o } in
    let right : IsGrounding data_.signature link.rule.right link.values = λ n r o. left n r (well.occurring n r o) in
    let sides = turned_sides from.1 from.0 link.rule from.3 (λ (w : Term). IsGrounding data_.signature w link.values) left right in
    record {
      path = link.path;
      equation = from.0;
      is_equation = from.2;
      values = link.values;
      is_instance = record { left = sides.0; right = sides.1 };
      direction = from.1;
      old = link.old ∙ ap (λ (w : Term). Some (substituted link.values w)) from.3.left;
      new = ap (λ (w : Term). put_at link.path (substituted link.values w) t) (sym from.3.right) ∙ link.new;
    }

-- so what a sorted ground term reaches is equal to it
pub reaches_equal : {rules : List Rule} (data_ : Data) → HasSortedSides data_ → AreRulesOf data_ rules
    → AreWellFormedRules rules → {t u : Term} (s : ℕ) → Reaches (Step rules) t u → IsGround t
    → HasSort data_.signature t s → Equal data_ t u
reaches_equal data_ sorted of fine s (reached_already {t = t}) ground_term h = same_term t
reaches_equal data_ sorted of fine s (reached_after {t = t} {u = u} step chain) ground_term h =
    let first = link_of_rewriting data_ sorted of fine s (link_of_step step) ground_term h in
    let after = step_sort data_ sorted of fine s step h in
    link_then first (reaches_equal data_ sorted of fine s chain (link_ground data_ t u first ground_term) after)

-- ---- a link is a step, a step back, or no change

-- What becomes of a link of equality.
abbrev pub LinkIs : List Rule → Term → Term → Type 0
LinkIs rules t u = (t ≡ u) ⊎ (Rewrites rules t u ⊎ Rewrites rules u t)

-- the replacement undone
put_back : (path : List ℕ) (old new t u : Term) → subterm path t ≡ Some old → put_at path new t ≡ Some u
    → put_at path old u ≡ Some t
put_back path old new t u e h = put_at_twice path new old t u h ∙ put_at-subterm path old t e

rewriting_at : {rules : List Rule} (rule : Rule) → IsRule rules rule → (values : Substitution) (path : List ℕ)
    (old new t u : Term) → rule.left ≡ old → rule.right ≡ new → subterm path t ≡ Some (substituted values old)
    → put_at path (substituted values new) t ≡ Some u → Rewrites rules t u
rewriting_at rule is values path old new t u el er e h = record {
  path = path;
  rule = rule;
  is_rule = is;
  values = values;
  old = e ∙ ap (λ (w : Term). Some (substituted values w)) (sym el);
  new = ap (λ (w : Term). put_at path (substituted values w) t) er ∙ h;
}

rewriting_back : {rules : List Rule} (rule : Rule) → IsRule rules rule → (values : Substitution) (path : List ℕ)
    (old new t u : Term) → rule.left ≡ new → rule.right ≡ old → subterm path t ≡ Some (substituted values old)
    → put_at path (substituted values new) t ≡ Some u → Rewrites rules u t
rewriting_back rule is values path old new t u el er e h =
    rewriting_at rule is values path new old u t el er (subterm-put_at path (substituted values new) t u h)
    (put_back path (substituted values old) (substituted values new) t u e h)

pub link_is : {rules : List Rule} (data_ : Data) → AreRulesOf data_ rules → {t u : Term} → Link data_ t u → LinkIs rules t u
link_is {rules = rules} data_ of {t = t} {u = u} link =
    go (of.equations_kept link.equation link.is_equation) link.direction link.old link.new
  where
    same : (old new : Term) → old ≡ new → subterm link.path t ≡ Some (substituted link.values old)
        → put_at link.path (substituted link.values new) t ≡ Some u → t ≡ u
    same old new en e h =
        same_Some t u (sym (put_at-subterm link.path (substituted link.values old) t e)
        ∙ ap (λ (w : Term). put_at link.path (substituted link.values w) t) en ∙ h)

    go : (link.equation.left ≡ link.equation.right)
        ⊎ ((rule : Rule) × (direction : Direction) × IsRule rules rule × IsTurned direction link.equation rule)
        → (direction : Direction) → subterm link.path t ≡ Some (substituted link.values (old_side direction link.equation))
        → put_at link.path (substituted link.values (new_side direction link.equation)) t ≡ Some u → LinkIs rules t u
    go (inl e) forward old new = inl (same link.equation.left link.equation.right e old new)
    go (inl e) backward old new = inl (same link.equation.right link.equation.left (sym e) old new)
    go (inr (rule, forward, is, turned)) forward old new =
        inr (inl (rewriting_at rule is link.values link.path link.equation.left link.equation.right t u turned.left turned.right old new))
    go (inr (rule, backward, is, turned)) backward old new =
        inr (inl (rewriting_at rule is link.values link.path link.equation.right link.equation.left t u turned.left turned.right old new))
    go (inr (rule, forward, is, turned)) backward old new =
        inr (inr (rewriting_back rule is link.values link.path link.equation.right link.equation.left t u turned.left turned.right old new))
    go (inr (rule, backward, is, turned)) forward old new =
        inr (inr (rewriting_back rule is link.values link.path link.equation.left link.equation.right t u turned.left turned.right old new))

-- ---- a link inside a term

-- a link inside a term is a link of the term
pub rewriting_inside : (rules : List Rule) (path : List ℕ) (t u whole before after : Term) → Rewrites rules t u
    → put_at path t whole ≡ Some before → put_at path u whole ≡ Some after → Rewrites rules before after
rewriting_inside rules path t u whole before after link e h =
    let here = subterm-put_at path t whole before e in
    record {
      path = path ++ link.path;
      rule = link.rule;
      is_rule = link.is_rule;
      values = link.values;
      old = subterm-append path link.path before t here ∙ link.old;
      new = put_at-append path link.path (substituted link.values link.rule.right) t u before after here link.new
          (put_at_twice path t u whole before e ∙ h);
    }
