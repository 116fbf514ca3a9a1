-- All types with their formal equations, and what they require.
use Rattle.std.proofs.Common.{◌≡◌, ℕ, Bool, true, false, List, [], ◌∷◌, ◌++◌, map, fold, refl, ap, sym, ◌∙◌, subst}
use Rattle.std.specs.Prelude.{None, Some, slice_get, if◌then◌else◌}
use Rattle.std.proofs.lemmas.List.{map-append}
use Rattle.std.proofs.lemmas.List.Sums.{fold-append}
use Rattle.lotos_base.proofs.Members.{at_map}
use Rattle.sort_terms.specs.EquationView.{equation_of}
use Rattle.sort_terms.specs.declared.equations.Equation.{Equation as CodeEquation}
use Rattle.type_definitions.specs.Actualisation.{is_formal}
use Rattle.type_definitions.specs.DeclaredTypes.{DeclaredType}
use Rattle.type_definitions.specs.Flattened.{ArePresented, all_presented, flattened_data_of, next_presented, types_at, without_formals}
use Rattle.type_definitions.specs.FormalEquations.{FlattenedType, WithFormals, mentioned_in, no_formals}
use Rattle.type_definitions.specs.MentionFaults.{AreInOrder}
use Rattle.type_definitions.specs.Presentation.{Presentation, nothing}
use Rattle.type_definitions.specs.Requirements.{HaveFormals, all_have_formals, flattened_with, informal_types, next_has_formals, with_required}
use Rattle.type_definitions.specs.Union.{Mentioned, union_fault, union_of, with_mentioned}
use Rattle.type_presentations.specs.EquationListView.{equations_in}
use Rattle.type_presentations.specs.PresentedView.{presented_in}
use Rattle.type_actualisation.specs.FormalLists.{AreFormalsOver, IsUnionWith}
use Rattle.type_actualisation.specs.FormalTypesView.{AreFlattenedBehind, AreFormalTypes, AreRequiredInOrder, IsFlattenedNext, required_union}
use Rattle.type_flatten.specs.RequiredView.{AreRequired}
use Rattle.type_actualisation.specs.declared.formal_lists.FormalUnion.{FormalUnion}
use Rattle.type_actualisation.specs.declared.formal_types.FormalTypes.{FormalTypes}

-- ---- The types in which nothing is formal.

informal-append : (xs ys : List FlattenedType) → informal_types (xs ++ ys) ≡ informal_types xs ++ informal_types ys
informal-append [] ys = refl
informal-append (x ∷ xs) ys = go (is_formal x.mentioned.presentation) (informal-append xs ys)
  where
    go : (b : Bool) → informal_types (xs ++ ys) ≡ informal_types xs ++ informal_types ys
        → (if b then informal_types (xs ++ ys) else x ∷ informal_types (xs ++ ys))
        ≡ (if b then informal_types xs else x ∷ informal_types xs) ++ informal_types ys
    go true rest = rest
    go false rest = ap (λ (ts : List FlattenedType). x ∷ ts) rest

informal_mentioned : (all : List FlattenedType) → mentioned_in (informal_types all) ≡ without_formals (mentioned_in all)
informal_mentioned [] = refl
informal_mentioned (t ∷ ts) = go (is_formal t.mentioned.presentation) (informal_mentioned ts)
  where
    go : (b : Bool) → mentioned_in (informal_types ts) ≡ without_formals (mentioned_in ts)
        → mentioned_in (if b then informal_types ts else t ∷ informal_types ts)
        ≡ (if b then without_formals (mentioned_in ts) else t.mentioned ∷ without_formals (mentioned_in ts))
    go true rest = rest
    go false rest = ap (λ (ms : List Mentioned). t.mentioned ∷ ms) rest

along : (w : WithFormals) (p : Presentation) (ts : List FlattenedType) → w.presentation ≡ p
    → (fold with_required w ts).presentation ≡ fold with_mentioned p (mentioned_in ts)
along w p [] is = is
along w p (t ∷ ts) is =
    along (with_required w t) (with_mentioned p t.mentioned) ts (ap (λ (q : Presentation). with_mentioned q t.mentioned) is)

required_over : (all : List FlattenedType) → (required_union all).presentation ≡ union_of (without_formals (mentioned_in all))
required_over all =
    along no_formals nothing (informal_types all) refl ∙ ap (λ (ms : List Mentioned). union_of ms) (informal_mentioned all)

-- one more that is formal, or is not
with_last : (all : List FlattenedType) (t : FlattenedType) (b : Bool) → is_formal t.mentioned.presentation ≡ b
    → required_union (all ++ t ∷ []) ≡ fold with_required (required_union all) (if b then [] else t ∷ [])
with_last all t b is =
    ap (λ (ts : List FlattenedType). fold with_required no_formals ts)
    (informal-append all (t ∷ []) ∙ ap (λ (c : Bool). informal_types all ++ (if c then [] else t ∷ [])) is)
    ∙ fold-append with_required no_formals (informal_types all) (if b then [] else t ∷ [])

pub formal_skipped : (all : List FlattenedType) (t : FlattenedType) (u : FormalUnion) → is_formal t.mentioned.presentation ≡ true
    → IsUnionWith (required_union all) u → IsUnionWith (required_union (all ++ t ∷ [])) u
formal_skipped all t u is = subst (λ (w : WithFormals). IsUnionWith w u) (sym (with_last all t true is))

pub informal_added : (all : List FlattenedType) (t : FlattenedType) (u : FormalUnion) → is_formal t.mentioned.presentation ≡ false
    → IsUnionWith (with_required (required_union all) t) u → IsUnionWith (required_union (all ++ t ∷ [])) u
informal_added all t u is = subst (λ (w : WithFormals). IsUnionWith w u) (sym (with_last all t false is))

-- ---- One after another.

-- what the rest comes to is what all come to
pub record AreOnTheWay (rest texts : List DeclaredType) (types : FormalTypes) (required : FormalUnion) : Type 0 where
  pub all : List FlattenedType
  pub way : (final : List FlattenedType) → HaveFormals all rest final → HaveFormals [] texts final
  pub types_are : AreFormalTypes all types
  pub required_are : IsUnionWith (required_union all) required

pub next_on_the_way : (due rest texts : List DeclaredType) (t : DeclaredType) (types now : FormalTypes) (required after : FormalUnion)
    → (way : AreOnTheWay due texts types required) → due ≡ t ∷ rest → IsFlattenedNext way.all t now after
    → AreOnTheWay rest texts now after
next_on_the_way due rest texts t types now required after way is next = record {
  all = way.all ++ flattened_with way.all t next.presentation next.formals ∷ [];
  way = λ final h.
      way.way final (subst (λ (ts : List DeclaredType). HaveFormals way.all ts final) (sym is)
      (next_has_formals way.all final t rest next.presentation next.formals next.presented next.are h));
  types_are = next.types_are;
  required_are = next.required_are;
}

pub all_on_the_way : (rest texts : List DeclaredType) (types : FormalTypes) (required : FormalUnion)
    → AreOnTheWay rest texts types required → rest ≡ [] → AreFlattenedBehind [] texts types required
all_on_the_way rest texts types required way none = record {
  all = way.all;
  have = way.way way.all (subst (λ (ts : List DeclaredType). HaveFormals way.all ts way.all) (sym none) (all_have_formals way.all));
  types_are = way.types_are;
  required_are = way.required_are;
}

-- ---- All of them.

pub required_in_text_order : (texts : List DeclaredType) (types : FormalTypes) (required : FormalUnion) (items : List CodeEquation)
    → AreFlattenedBehind [] texts types required → union_fault (without_formals (presented_in types.types)) ≡ None
    → items ≡ required.equations.equations.items → AreRequiredInOrder texts items
required_in_text_order texts types required items are none same =
    let over : AreFormalsOver (union_of (without_formals (mentioned_in are.all))).signature required.equations =
    subst (λ (p : Presentation). AreFormalsOver p.signature required.equations) (required_over are.all) are.required_are.formals in
    record {
      all = are.all;
      have = are.have;
      united = ap (λ (ms : List Mentioned). union_fault (without_formals ms)) (sym are.types_are.types_are) ∙ none;
      are = sym are.required_are.formals_are ∙ ap (λ (es : List CodeEquation). map equation_of es) (sym same);
      over = λ i e found.
          let there : slice_get required.equations.equations.items i ≡ Some e =
          ap (λ (es : List CodeEquation). slice_get es i) (sym same) ∙ found in (
            over.over (equation_of e) (i, at_map equation_of required.equations.equations.items i e there),
            over.sides i e there,
          );
    }

presented_of : {done all : List FlattenedType} {texts : List DeclaredType} → HaveFormals done texts all
    → ArePresented (mentioned_in done) texts (mentioned_in all)
presented_of (all_have_formals done) = all_presented (mentioned_in done)
presented_of (next_has_formals done all t ts p formals is are rest) =
    next_presented (mentioned_in done) (mentioned_in all) t ts p is
    (subst (λ (ms : List Mentioned). ArePresented ms ts (mentioned_in all))
    (map-append (λ (x : FlattenedType). x.mentioned) done (flattened_with done t p formals ∷ [])) (presented_of rest))

pub required_of_types : (types texts : List DeclaredType) (order : List ℕ) (items : List CodeEquation) → AreInOrder types order
    → texts ≡ types_at types order → AreRequiredInOrder texts items → AreRequired types items
required_of_types types texts order items in_order these r = record {
  are = record {
    order = order;
    ordered = in_order.ordered;
    all = r.all;
    have = subst (λ (ts : List DeclaredType). HaveFormals [] ts r.all) these r.have;
    united = r.united;
    are = r.are;
  };
  data_ = flattened_data_of (union_of (without_formals (mentioned_in r.all)));
  flattened = record {
    order = order;
    ordered = in_order.ordered;
    all = mentioned_in r.all;
    presented = subst (λ (ts : List DeclaredType). ArePresented [] ts (mentioned_in r.all)) these (presented_of r.have);
    united = r.united;
    answered = refl;
  };
  over = r.over;
}
