-- Each derivation of a part of which something is said has a meaning.
use Rattle.std.proofs.Common.{◌≡◌, ◌∙◌, ℕ, Bool, true, not, List, [], ◌∷◌, length, map, drop, refl, ap, sym, subst}
use Rattle.std.specs.Prelude.{◌&&◌, ◌||◌, Option, Some, option_and_then, slice_get}
use Rattle.std.specs.List.{list_all}
use Rattle.std.proofs.lemmas.Bool.{and_parts}
use Rattle.std.proofs.lemmas.List.{length-map}
use Rattle.lotos_base.proofs.Tests.{list_all-at}
use Rattle.ll_engine.specs.declared.symbol.Symbol.{Symbol}
use Rattle.ll_engine.specs.declared.symbol.Symbol.TheVariants.{Token as Tok, Part}
use Rattle.ll_engine.specs.Derivation.{Production, Forest, empty, leaf, node, DerivesSymbols, leaves}
use Rattle.ll_engine.specs.Fold.{first_if, front_token, tree_begins_kept, in_front, folded_trees}
use Rattle.ll_engine.specs.Values.{StandForTokens, nothing, token, part, KeepsValues}
use Rattle.ll_engine.proofs.Folding.{append_parts, halves, no_tokens}
use Rattle.ll_engine.proofs.Values.{begin_alike}

abbrev pub is_said_symbol : (ℕ → Bool) → Symbol → Bool
is_said_symbol said (Tok t) = true
is_said_symbol said (Part p) = said p

-- rows of parts of which something is said have parts of which something is said
abbrev pub stays_said : (ℕ → Bool) → Production → Bool
stays_said said row = not (said row.left) || list_all (is_said_symbol said) row.right

module _ {T A : Type 0} (value_of : ℕ → Option T → List A → Option A) (keeps : ℕ → Bool) (kind : T → ℕ) (rows : List Production)
    (has : ℕ → List T → A → Type 0) (kept : KeepsValues value_of keeps kind rows has) (said : ℕ → Bool)
    (stay : list_all (stays_said said) rows ≡ true)
    (gives : (number : ℕ) (row : Production) → slice_get rows number ≡ Some row → said row.left ≡ true →
    (tokens : List T) (values : List A) →
    StandForTokens kind has row.right tokens values → (value : A)
    × (value_of number (front_token keeps row.right tokens) values ≡ Some value)) where
  -- the trees of symbols have values, and the symbols stand for their tokens
  record Valued (trees : Forest) (symbols : List Symbol) (own : List T) : Type 0 where
    values : List A
    folds : folded_trees value_of keeps trees own ≡ Some values
    stands : StandForTokens kind has symbols own values

  valued_leaf : (t u : ℕ) (rest : Forest) (symbols : List Symbol) (own : List T) → t ≡ u → t ∷ leaves rest ≡ map kind own →
      ((mine : List T) → leaves rest ≡ map kind mine → Valued rest symbols mine) → Valued (leaf t rest) (Tok u ∷ symbols) own
  valued_leaf t u rest symbols [] same e others = absurd (cc)
  valued_leaf t u rest symbols (first ∷ mine) same e others =
      let here : t ≡ kind first = cc in
      let behind : leaves rest ≡ map kind mine = cc in
      let it = others mine behind in
      record { values = it.values; folds = it.folds; stands = token first (sym here ∙ same) it.stands }

  said_row : (number : ℕ) (row : Production) → slice_get rows number ≡ Some row → said row.left ≡ true →
      list_all (is_said_symbol said) row.right ≡ true
  said_row number row is here =
      sym (ap (λ (b : Bool). not b || list_all (is_said_symbol said) row.right) here) ∙ list_all-at (stays_said said) rows number row stay
      is

  valued : (trees : Forest) (symbols : List Symbol) (own : List T) → DerivesSymbols rows trees symbols → leaves trees ≡ map kind own →
      list_all (is_said_symbol said) symbols ≡ true → Valued trees symbols own
  valued empty [] own d e all =
      let none : own ≡ [] = no_tokens kind own e in
      record { values = []; folds = refl; stands = subst (λ (l : List T). StandForTokens kind has [] l []) (sym none) nothing }
  valued empty (symbol ∷ symbols) own d e all = absurd d
  valued (leaf t rest) [] own d e all = absurd d
  valued (leaf t rest) (Tok u ∷ symbols) own d e all =
      valued_leaf t u rest symbols own d.0 e (λ mine behind. valued rest symbols mine d.1 behind all)
  valued (leaf t rest) (Part p ∷ symbols) own d e all = absurd d
  valued (node r below rest) [] own d e all = absurd d
  valued (node r below rest) (Tok u ∷ symbols) own d e all = absurd d
  valued (node r below rest) (Part p ∷ symbols) own d e all =
      let saids = and_parts (said p) (list_all (is_said_symbol said) symbols) all in
      let said_left : said d.0.left ≡ true = ap said d.2 ∙ saids.0 in
      let h = halves kind own (leaves below) (leaves rest) e in
      let inner = valued below d.0.right h.front d.3 h.front_are (said_row r d.0 d.1 said_left) in
      let others = valued rest symbols h.back d.4 h.back_are saids.1 in
      let given = gives r d.0 d.1 said_left h.front inner.values inner.stands in
      let here = subst (λ (q : ℕ). has q h.front given.0) d.2 (kept r d.0 h.front inner.values given.0 d.1 inner.stands given.1) in
      let len : length h.front ≡ length (leaves below) = sym (length-map h.front kind) ∙ sym (ap length h.front_are) in
      let parts = append_parts h.front h.back own (length (leaves below)) len h.both in
      let own_value =
      λ (l : List T). option_and_then (value_of r (first_if (tree_begins_kept keeps below) l)) (folded_trees value_of keeps below l) in
      let value_is : own_value h.front ≡ Some given.0 =
      ap (option_and_then (value_of r (first_if (tree_begins_kept keeps below) h.front))) inner.folds
      ∙ ap (λ (test : Bool). value_of r (first_if test h.front) inner.values) (begin_alike keeps rows below d.0.right d.3) ∙ given.1 in
      record {
        values = given.0 ∷ others.values;
        folds =
            ap (λ (l : List T). in_front (own_value l) (folded_trees value_of keeps rest (drop (length (leaves below)) own))) parts.0
            ∙ ap (λ (l : List T). in_front (own_value h.front) (folded_trees value_of keeps rest l)) parts.1
            ∙ ap (in_front (own_value h.front)) others.folds
            ∙ ap (λ (o : Option A). in_front o (Some others.values)) value_is;
        stands = subst (λ (l : List T). StandForTokens kind has (Part p ∷ symbols) l (given.0 ∷ others.values)) (sym h.both)
            (part here others.stands);
      }

  -- one part alone
  pub record HasMeaning (p : ℕ) (tree : Forest) (own : List T) : Type 0 where
    pub value : A
    pub folds : folded_trees value_of keeps tree own ≡ Some (value ∷ [])

  only_one : (p : ℕ) (tree : Forest) (own : List T) (values : List A) → StandForTokens kind has (Part p ∷ []) own values →
      folded_trees value_of keeps tree own ≡ Some values →
      HasMeaning p tree own
  only_one p tree own values (part {value = value} here nothing) folds = record { value = value; folds = folds }

  pub has_meaning : (p : ℕ) (tree : Forest) (own : List T) → DerivesSymbols rows tree (Part p ∷ []) → leaves tree ≡ map kind own →
      said p ≡ true → HasMeaning p tree own
  has_meaning p tree own d e is =
      let it = valued tree (Part p ∷ []) own d e (ap (λ (b : Bool). b && true) is) in
      only_one p tree own it.values it.stands it.folds
