-- The places of the equations of items rise as those of their tokens do.
use Rattle.std.proofs.Common.{◌≡◌, inl, inr, ℕ, zero, suc, Bool, true, List, [], ◌∷◌, ◌++◌, map, refl, ap, sym, ◌∙◌, subst, arith}
use Rattle.std.specs.Prelude.{◌⊎◌, ◌<◌, ◌&&◌, ◌||◌, nat_eq, nat_lt, Some, slice_get, flat_map}
use Rattle.std.proofs.lemmas.Bool.{ltb-true, or_cases}
use Rattle.std.specs.Cmp.{second_so}
use Rattle.std.proofs.lemmas.List.{map-append}
use Rattle.std.proofs.lemmas.Option.{none-some, same_Some}
use Rattle.lotos_base.specs.Equation.{Place}
use Rattle.lotos_lexer.specs.declared.tokens.Token.{Token}
use Rattle.lotos_rows.specs.Words.{left_out, there, Optional, Many, no_more, and_then, Behind, behind}
use Rattle.lotos_rows.specs.Names.{place_of}
use Rattle.lotos_rows.specs.Equations.{IsWrittenEquation, without_premisses, with_premisses, IsEquationList, last_equation, ended_equation, more_equations, IsEquationGroup, group_of_sort, AreEquations, equations}
use Rattle.lotos_rows.specs.Types.{no_equations, AreSections, sections, IsTypeBody, renaming, actualising, extending, extending_nothing, a_library, a_type}
use Rattle.lotos_rows.specs.Starts.{AreItems, IsWrittenSpecification, a_specification}
use Rattle.lotos_lexer.specs.declared.kinds.TheConstants.{EQNS}
use Rattle.syntax_trees.specs.WrittenEquation.{WrittenEquation, WrittenGroup, WrittenEquations}
use Rattle.syntax_trees.specs.WrittenItem.{WrittenSections, WrittenTypeBody, WrittenItem}
use Rattle.syntax_trees.specs.WrittenDefinition.{WrittenSpecification}
use Rattle.scope_parts.specs.ScopeFault.{stands_before}
use Rattle.scope_parts.specs.Order.{IsOneOfPlaces, Rising}
use Rattle.declaration_laws.proofs.TokenOrder.{Rises, Within, rises_front, rises_back, nothing_within, here_within, in_left, in_right, in_rest, both_within, before_parts, nothing_after, rising_both}
use Rattle.declaration_laws.proofs.LexedOrder.{tokens_rise}
use Rattle.session_laws.specs.WrittenData.{own_equations, equations_of_items, StandApart}
use Rattle.session_laws.specs.EquationPlaceLaws.{ReadEquationsStandApart}

-- The places are those of tokens, and rise where these do.
record Follow (places : List Place) (tokens : List Token) : Type 0 where
  within : Within places tokens
  rise : Rises tokens → Rising places

none_follow : (ts : List Token) → Follow [] ts
none_follow ts = record { within = nothing_within ts; rise = λ rises. tt }

first_follows : (t : Token) (ts : List Token) → Follow (place_of t ∷ []) (t ∷ ts)
first_follows t ts = record { within = here_within t ts; rise = λ rises. (nothing_after (place_of t ∷ []), tt) }

follow_left : (ps : List Place) (xs ys : List Token) → Follow ps xs → Follow ps (xs ++ ys)
follow_left ps xs ys is =
    record { within = in_left ps xs ys is.within; rise = λ rises. is.rise (rises_front xs ys rises) }

follow_right : (ps : List Place) (xs ys : List Token) → Follow ps ys → Follow ps (xs ++ ys)
follow_right ps xs ys is =
    record { within = in_right ps xs ys is.within; rise = λ rises. is.rise (rises_back xs ys rises) }

follow_rest : (ps : List Place) (t : Token) (ts : List Token) → Follow ps ts → Follow ps (t ∷ ts)
follow_rest ps t ts is = record { within = in_rest ps t ts is.within; rise = λ rises. is.rise rises.1 }

follow_both : (ps qs : List Place) (xs ys : List Token) → Follow ps xs → Follow qs ys → Follow (ps ++ qs) (xs ++ ys)
follow_both ps qs xs ys first second = record {
  within = both_within ps qs (xs ++ ys) (in_left ps xs ys first.within) (in_right qs xs ys second.within);
  rise = λ rises.
      rising_both ps qs (first.rise (rises_front xs ys rises)) (second.rise (rises_back xs ys rises))
      (before_parts ps qs xs ys rises first.within second.within);
}

-- ---- Equations

abbrev places : List WrittenEquation → List Place
places es = map (λ (e : WrittenEquation). e.place) es

abbrev in_groups : List WrittenGroup → List WrittenEquation
in_groups groups = flat_map (λ (group : WrittenGroup). group.equations) groups

module _ {text : List ℕ} where
  equation_follows : {tokens : List Token} {e : WrittenEquation} → IsWrittenEquation text tokens e → Follow (e.place ∷ []) tokens
  equation_follows (without_premisses {first = first} {equals = equals} {rest = rest} {tokens = ts} left equal right) =
      first_follows first (rest ++ equals ∷ ts)
  equation_follows (with_premisses {first = first} {arrow = arrow} {equals = equals} {rest = rest} {left_tokens = ls} {tokens = ts} ps
      implies left equal right) =
      first_follows first (rest ++ arrow ∷ (ls ++ equals ∷ ts))

  list_follows : {tokens : List Token} {es : List WrittenEquation} → IsEquationList text tokens es → Follow (places es) tokens
  list_follows (last_equation is) = equation_follows is
  list_follows (ended_equation {tokens = ts} {semicolon = end} {equation = e} is ends) =
      follow_left (e.place ∷ []) ts (end ∷ []) (equation_follows is)
  list_follows (more_equations {tokens = ts} {rest = rest} {semicolon = end} {equation = e} {equations = es} is ends more) =
      follow_both (e.place ∷ []) (places es) ts (end ∷ rest) (equation_follows is)
      (follow_rest (places es) end rest (list_follows more))

  optional_list_follows : {tokens : List Token} {es : List WrittenEquation} → Optional [] (IsEquationList text) tokens es
      → Follow (places es) tokens
  optional_list_follows left_out = none_follow []
  optional_list_follows (there is) = list_follows is

  group_follows : {tokens : List Token} {group : WrittenGroup} → IsEquationGroup text tokens group → Follow (places group.equations) tokens
  group_follows (group_of_sort {word = word} {sort = sort} {variable_tokens = vs} {tokens = ts} {equations = es} ofsort name variables
      are) =
      follow_rest (places es) word (sort ∷ (vs ++ ts))
      (follow_rest (places es) sort (vs ++ ts) (follow_right (places es) vs ts (optional_list_follows are)))

  groups_follow : {tokens : List Token} {groups : List WrittenGroup} → Many (IsEquationGroup text) tokens groups
      → Follow (places (in_groups groups)) tokens
  groups_follow no_more = none_follow []
  groups_follow (and_then {tokens = ts} {rest = rest} {value = group} {values = groups} is more) =
      subst (λ (ps : List Place). Follow ps (ts ++ rest))
      (sym (map-append (λ (e : WrittenEquation). e.place) group.equations (in_groups groups)))
      (follow_both (places group.equations) (places (in_groups groups)) ts rest (group_follows is) (groups_follow more))

  equations_follow : {tokens : List Token} {es : WrittenEquations} → AreEquations text tokens es
      → Follow (places (in_groups es.groups)) tokens
  equations_follow (equations {variable_tokens = vs} {tokens = ts} {groups = groups} variables are) =
      follow_right (places (in_groups groups)) vs ts (groups_follow are)

  section_follows : {tokens : List Token} {es : WrittenEquations} → Optional no_equations (Behind EQNS (AreEquations text)) tokens es
      → Follow (places (in_groups es.groups)) tokens
  section_follows left_out = none_follow []
  section_follows {es = es} (there (behind {token = word} {tokens = ts} is are)) =
      follow_rest (places (in_groups es.groups)) word ts (equations_follow are)

  -- ---- Types

  sections_follow : {tokens : List Token} {all : WrittenSections} → AreSections text tokens all
      → Follow (places (in_groups all.equations.groups)) tokens
  sections_follow (sections {formal_sort_tokens = ts} {formal_operation_tokens = us} {formal_equation_tokens = vs} {sort_tokens = ws}
      {operation_tokens = xs} {equation_tokens = ys} {equations = es} a b c d f g) =
      let ps : List Place = places (in_groups es.groups) in
      follow_right ps ts (us ++ (vs ++ (ws ++ (xs ++ ys))))
      (follow_right ps us (vs ++ (ws ++ (xs ++ ys)))
      (follow_right ps vs (ws ++ (xs ++ ys))
      (follow_right ps ws (xs ++ ys) (follow_right ps xs ys (section_follows g)))))

  body_follows : {tokens : List Token} {body : WrittenTypeBody} → IsTypeBody text tokens body → Follow (places (own_equations body)) tokens
  body_follows {tokens = ts} (renaming base word are) = none_follow ts
  body_follows {tokens = ts} (actualising base word actuals using are) = none_follow ts
  body_follows (extending {import_tokens = is} {tokens = ts} {sections = all} names are) =
      follow_right (places (in_groups all.equations.groups)) is ts (sections_follow are)
  body_follows (extending_nothing are) = sections_follow are

  items_follow : {tokens : List Token} {items : List WrittenItem} → AreItems text tokens items
      → Follow (places (equations_of_items items)) tokens
  items_follow no_more = none_follow []
  items_follow (and_then {rest = rest} {values = items} (a_library {word = word} {end = end} {tokens = ts} library names ends) more) =
      follow_right (places (equations_of_items items)) (word ∷ (ts ++ end ∷ [])) rest (items_follow more)
  items_follow
      (and_then {rest = rest} {values = items} (a_type {word = word} {name = name} {is = is} {end = end} {tokens = ts} {body = body} one two
      three are ends) more) =
      let tokens : List Token = word ∷ name ∷ is ∷ (ts ++ end ∷ []) in
      let ps : List Place = places (own_equations body) in
      subst (λ (qs : List Place). Follow qs (tokens ++ rest))
      (sym (map-append (λ (e : WrittenEquation). e.place) (own_equations body) (equations_of_items items)))
      (follow_both ps (places (equations_of_items items)) tokens rest
      (follow_rest ps word (name ∷ is ∷ (ts ++ end ∷ []))
      (follow_rest ps name (is ∷ (ts ++ end ∷ []))
      (follow_rest ps is (ts ++ end ∷ []) (follow_left ps ts (end ∷ []) (body_follows are)))))
      (items_follow more))

  specification_follows : {tokens : List Token} {tree : WrittenSpecification} → IsWrittenSpecification text tokens tree
      → Follow (places (equations_of_items tree.items)) tokens
  specification_follows (a_specification {specification = first} {word = word} {end = end} {heading_tokens = hs} {item_tokens = is}
      {tokens = ts} {where_tokens = ws} {items = items} one head are behaviour body where_is ends) =
      let ps : List Place = places (equations_of_items items) in
      follow_rest ps first (hs ++ (is ++ word ∷ (ts ++ (ws ++ end ∷ []))))
      (follow_right ps hs (is ++ word ∷ (ts ++ (ws ++ end ∷ [])))
      (follow_left ps is (word ∷ (ts ++ (ws ++ end ∷ []))) (items_follow are)))

-- ---- Equations at places that rise

among : (es : List WrittenEquation) (i : ℕ) (e : WrittenEquation) → slice_get es i ≡ Some e → IsOneOfPlaces e.place (places es)
among [] i e at = absurd (none-some e at)
among (f ∷ es) zero e at = inl (ap (λ (w : WrittenEquation). w.place) (sym (same_Some f e at)))
among (f ∷ es) (suc i) e at = inr (among es i e at)

-- no place stands before itself
never_itself : (p : Place) → stands_before p p ≡ true → ⊥
never_itself p is = by_text (or_cases (nat_lt p.text p.text) (nat_eq p.text p.text && in_text) is)
  where
    in_text : Bool
    in_text = nat_lt p.line p.line || (nat_eq p.line p.line && nat_lt p.column p.column)

    never : (n : ℕ) → nat_lt n n ≡ true → ⊥
    never n less = let more : n < n = ltb-true n n less in absurd (omega (arith, more))

    by_line : (nat_lt p.line p.line ≡ true) ⊎ ((nat_eq p.line p.line && nat_lt p.column p.column) ≡ true) → ⊥
    by_line (inl less) = never p.line less
    by_line (inr both) = never p.column (second_so (nat_eq p.line p.line) (nat_lt p.column p.column) both)

    by_text : (nat_lt p.text p.text ≡ true) ⊎ ((nat_eq p.text p.text && in_text) ≡ true) → ⊥
    by_text (inl less) = never p.text less
    by_text (inr both) =
        by_line (or_cases (nat_lt p.line p.line) (nat_eq p.line p.line && nat_lt p.column p.column)
        (second_so (nat_eq p.text p.text) (nat_lt p.line p.line || (nat_eq p.line p.line && nat_lt p.column p.column)) both))

before_later : (p : Place) (e : WrittenEquation) (es : List WrittenEquation) (i : ℕ) → slice_get es i ≡ Some e → p ≡ e.place
    → ((r : Place) → IsOneOfPlaces r (places es) → stands_before p r ≡ true) → ⊥
before_later p e es i at same before =
    never_itself p (subst (λ (r : Place). stands_before p r ≡ true) (sym same) (before e.place (among es i e at)))

rising_apart : (es : List WrittenEquation) → Rising (places es) → StandApart es
rising_apart [] rising i j one other at found same = absurd (none-some one at)
rising_apart (e ∷ es) rising zero zero one other at found same = refl
rising_apart (e ∷ es) rising zero (suc j) one other at found same =
    absurd (before_later e.place other es j found (ap (λ (w : WrittenEquation). w.place) (same_Some e one at) ∙ same)
    (λ r among_them. rising.0 e.place r (inl refl) among_them))
rising_apart (e ∷ es) rising (suc i) zero one other at found same =
    absurd (before_later e.place one es i at (ap (λ (w : WrittenEquation). w.place) (same_Some e other found) ∙ sym same)
    (λ r among_them. rising.0 e.place r (inl refl) among_them))
rising_apart (e ∷ es) rising (suc i) (suc j) one other at found same = ap suc (rising_apart es rising.1 i j one other at found same)

-- equations of tokens that rise stand apart
pub specification_apart : (text : List ℕ) (tokens : List Token) (tree : WrittenSpecification) → IsWrittenSpecification text tokens tree
    → Rises tokens → StandApart (equations_of_items tree.items)
specification_apart text tokens tree is rises =
    rising_apart (equations_of_items tree.items) ((specification_follows is).rise rises)

pub read_equations_stand_apart : ReadEquationsStandApart
read_equations_stand_apart number text tokens tree cut is = specification_apart text tokens tree is (tokens_rise number text tokens cut)
