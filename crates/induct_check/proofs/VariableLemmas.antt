-- Variables read token by token are those of the grammar.
use Rattle.std.proofs.Common.{◌≡◌, ℕ, ◌==◌, List, [], ◌∷◌, ◌++◌, flat_map, Bool, true, false, None, Some, if◌then◌else◌, refl, ap, sym, ◌∙◌, subst, eqb-true, arith}
use Rattle.std.proofs.lemmas.List.{append_assoc, append-nil}
use Rattle.std.proofs.lemmas.Option.{same_Some}
use Rattle.lotos_base.specs.WrittenTerm.{PlacedName}
use Rattle.lotos_lexer.specs.declared.kinds.TheConstants.{NAME, COMMA, COLON}
use Rattle.lotos_lexer.specs.declared.tokens.Token.{Token}
use Rattle.lotos_rows.specs.Names.{named, a_name as one_name_token, AreNames, variables_of_sort, AreVariablesOfSort, of_sort, AreVariables, variables}
use Rattle.lotos_rows.specs.Words.{IsOfKind, Separated, last, before_more}
use Rattle.syntax_trees.specs.WrittenVariable.{WrittenVariable}
use Rattle.induct_check.specs.VariableStates.{Awaited, a_name, comma_or_colon, a_sort, comma_or_end, VariablesRead, none_read, read_tokens, read_on}

abbrev at : Awaited → List WrittenVariable → List PlacedName → VariablesRead
at awaited vs ns = record { variables = vs; names = ns; awaited = awaited }

-- ---- What the grammar has, is read

is_itself : (n : ℕ) → (n == n) ≡ true
is_itself n = grind arith

of_kind : (kind : ℕ) (token : Token) → IsOfKind kind token → (token.kind == kind) ≡ true
of_kind kind token is = ap (λ (k : ℕ). k == kind) is.kind_is ∙ is_itself kind

takes_name : (text : List ℕ) (vs : List WrittenVariable) (ns : List PlacedName) (token : Token) (rest : List Token) → IsOfKind NAME token
    → read_tokens text (at a_name vs ns) (token ∷ rest) ≡ read_tokens text (at comma_or_colon vs (ns ++ named text token ∷ [])) rest
takes_name text vs ns token rest is =
    ap (λ (b : Bool). read_on text (if b then Some (at comma_or_colon vs (ns ++ named text token ∷ [])) else None) rest)
    (of_kind NAME token is)

takes_comma : (text : List ℕ) (vs : List WrittenVariable) (ns : List PlacedName) (token : Token) (rest : List Token) → IsOfKind COMMA token
    → read_tokens text (at comma_or_colon vs ns) (token ∷ rest) ≡ read_tokens text (at a_name vs ns) rest
takes_comma text vs ns token rest is =
    ap (λ (b : Bool). read_on text (if b then Some (at a_name vs ns) else if token.kind == COLON then Some
    (at a_sort vs ns) else None) rest)
    (of_kind COMMA token is)

not_comma : (token : Token) → IsOfKind COLON token → (token.kind == COMMA) ≡ false
not_comma token is = ap (λ (k : ℕ). k == COMMA) is.kind_is

takes_colon : (text : List ℕ) (vs : List WrittenVariable) (ns : List PlacedName) (token : Token) (rest : List Token) → IsOfKind COLON token
    → read_tokens text (at comma_or_colon vs ns) (token ∷ rest) ≡ read_tokens text (at a_sort vs ns) rest
takes_colon text vs ns token rest is =
    ap (λ (b : Bool). read_on text (if b then Some (at a_name vs ns) else if token.kind == COLON then Some
    (at a_sort vs ns) else None) rest)
    (not_comma token is)
    ∙ ap (λ (b : Bool). read_on text (if b then Some (at a_sort vs ns) else None) rest) (of_kind COLON token is)

takes_sort : (text : List ℕ) (vs : List WrittenVariable) (ns : List PlacedName) (token : Token) (rest : List Token) → IsOfKind NAME token
    → read_tokens text (at a_sort vs ns) (token ∷ rest)
    ≡ read_tokens text (at comma_or_end (vs ++ variables_of_sort ns (named text token)) []) rest
takes_sort text vs ns token rest is =
    ap (λ (b : Bool). read_on text (if b then Some (at comma_or_end (vs ++ variables_of_sort ns (named text token)) []) else None) rest)
    (of_kind NAME token is)

takes_next : (text : List ℕ) (vs : List WrittenVariable) (token : Token) (rest : List Token) → IsOfKind COMMA token
    → read_tokens text (at comma_or_end vs []) (token ∷ rest) ≡ read_tokens text (at a_name vs []) rest
takes_next text vs token rest is =
    ap (λ (b : Bool). read_on text (if b then Some (at a_name vs []) else None) rest) (of_kind COMMA token is)

names_read : (text : List ℕ) (tokens : List Token) (names : List PlacedName) → AreNames text tokens names
    → (vs : List WrittenVariable) (ns : List PlacedName) (rest : List Token)
    → read_tokens text (at a_name vs ns) (tokens ++ rest) ≡ read_tokens text (at comma_or_colon vs (ns ++ names)) rest
names_read text tokens names (last (one_name_token {name = token} is)) vs ns rest = takes_name text vs ns token rest is
names_read text tokens names (before_more {rest = more} {token = comma} {values = others} (one_name_token {name = token} is) is_comma are)
    vs ns rest =
    takes_name text vs ns token (comma ∷ more ++ rest) is
    ∙ (takes_comma text vs (ns ++ named text token ∷ []) comma (more ++ rest) is_comma
    ∙ (names_read text more others are vs (ns ++ named text token ∷ []) rest
    ∙ ap (λ (xs : List PlacedName). read_tokens text (at comma_or_colon vs xs) rest)
    (append_assoc ns (named text token ∷ []) others)))

group_read : (text : List ℕ) (tokens : List Token) (group : List WrittenVariable) → AreVariablesOfSort text tokens group
    → (vs : List WrittenVariable) (rest : List Token)
    → read_tokens text (at a_name vs []) (tokens ++ rest) ≡ read_tokens text (at comma_or_end (vs ++ group) []) rest
group_read text tokens group (of_sort {tokens = front} {colon = colon} {sort = sort} {names = names} are is_colon is_sort) vs rest =
    ap (λ (ts : List Token). read_tokens text (at a_name vs []) ts) (append_assoc front (colon ∷ sort ∷ []) rest)
    ∙ (names_read text front names are vs [] (colon ∷ sort ∷ rest)
    ∙ (takes_colon text vs names colon (sort ∷ rest) is_colon ∙ takes_sort text vs names sort rest is_sort))

groups_read : (text : List ℕ) (tokens : List Token) (groups : List (List WrittenVariable))
    → Separated COMMA (AreVariablesOfSort text) tokens groups → (vs : List WrittenVariable)
    → read_tokens text (at a_name vs []) tokens ≡ Some (at comma_or_end (vs ++ flat_map (λ (g : List WrittenVariable). g) groups) [])
groups_read text tokens groups (last {value = group} one) vs =
    ap (λ (ts : List Token). read_tokens text (at a_name vs []) ts) (sym (append-nil tokens))
    ∙ (group_read text tokens group one vs []
    ∙ ap (λ (xs : List WrittenVariable). Some (at comma_or_end (vs ++ xs) [])) (sym (append-nil group)))
groups_read text tokens groups (before_more {tokens = first} {rest = more} {token = comma} {value = group} {values = others} one is_comma
    are)
    vs =
    group_read text first group one vs (comma ∷ more)
    ∙ (takes_next text (vs ++ group) comma more is_comma
    ∙ (groups_read text more others are (vs ++ group)
    ∙ ap (λ (xs : List WrittenVariable). Some (at comma_or_end xs []))
    (append_assoc vs group (flat_map (λ (g : List WrittenVariable). g) others))))

pub variables_read : (text : List ℕ) (tokens : List Token) (ws : List WrittenVariable) → AreVariables text tokens ws
    → read_tokens text none_read tokens ≡ Some (at comma_or_end ws [])
variables_read text tokens ws (variables {groups = groups} are) = groups_read text tokens groups are []

-- ---- What is read, the grammar has

kind_is : (kind : ℕ) (token : Token) → (token.kind == kind) ≡ true → IsOfKind kind token
kind_is kind token e = record { kind_is = eqb-true token.kind kind e }

-- what stands behind a sort
pub data GroupsLeft (text : List ℕ) (vs : List WrittenVariable) : List Token → List WrittenVariable → Type 0 where
  no_group : GroupsLeft text vs [] vs
  groups_left : {comma : Token} {more : List Token} {groups : List (List WrittenVariable)} {ws : List WrittenVariable}
      → IsOfKind COMMA comma
      → Separated COMMA (AreVariablesOfSort text) more groups → ws ≡ vs ++ flat_map (λ (g : List WrittenVariable). g) groups
      → GroupsLeft text vs (comma ∷ more) ws

-- what stands where a name is awaited, behind others that have the same sort
pub record NamesLeft (text : List ℕ) (vs : List WrittenVariable) (ns : List PlacedName) (tokens : List Token) (ws : List WrittenVariable)
    : Type 0 where
  pub front : List Token
  pub names : List PlacedName
  pub colon : Token
  pub sort : Token
  pub rest : List Token
  pub are : AreNames text front names
  pub is_colon : IsOfKind COLON colon
  pub is_sort : IsOfKind NAME sort
  pub tokens_are : tokens ≡ front ++ colon ∷ sort ∷ rest
  pub behind : GroupsLeft text (vs ++ variables_of_sort (ns ++ names) (named text sort)) rest ws

-- what stands behind a name
pub data NameEnds (text : List ℕ) (vs : List WrittenVariable) (ns : List PlacedName) : List Token → List WrittenVariable → Type 0 where
  at_colon : {colon sort : Token} {rest : List Token} {ws : List WrittenVariable} → IsOfKind COLON colon → IsOfKind NAME sort
      → GroupsLeft text (vs ++ variables_of_sort ns (named text sort)) rest ws → NameEnds text vs ns (colon ∷ sort ∷ rest) ws
  at_comma : {comma : Token} {rest : List Token} {ws : List WrittenVariable} → IsOfKind COMMA comma → NamesLeft text vs ns rest ws
      → NameEnds text vs ns (comma ∷ rest) ws

-- a sort and what stands behind it
pub data SortLeft (text : List ℕ) (vs : List WrittenVariable) (ns : List PlacedName) : List Token → List WrittenVariable → Type 0 where
  a_sort_left : {sort : Token} {rest : List Token} {ws : List WrittenVariable} → IsOfKind NAME sort
      → GroupsLeft text (vs ++ variables_of_sort ns (named text sort)) rest ws → SortLeft text vs ns (sort ∷ rest) ws

with_first_name : (text : List ℕ) (vs : List WrittenVariable) (ns : List PlacedName) (token : Token) (tokens : List Token)
    (ws : List WrittenVariable) → IsOfKind NAME token → NameEnds text vs (ns ++ named text token ∷ []) tokens ws
    → NamesLeft text vs ns (token ∷ tokens) ws
with_first_name text vs ns token tokens ws is (at_colon {colon = colon} {sort = sort} {rest = rest} is_colon is_sort left) = record {
  front = token ∷ [];
  names = named text token ∷ [];
  colon = colon;
  sort = sort;
  rest = rest;
  are = last (one_name_token is);
  is_colon = is_colon;
  is_sort = is_sort;
  tokens_are = refl;
  behind = left;
}
with_first_name text vs ns token tokens ws is (at_comma {comma = comma} {rest = rest} is_comma left) = record {
  front = token ∷ comma ∷ left.front;
  names = named text token ∷ left.names;
  colon = left.colon;
  sort = left.sort;
  rest = left.rest;
  are = before_more (one_name_token is) is_comma left.are;
  is_colon = left.is_colon;
  is_sort = left.is_sort;
  tokens_are = ap (λ (ts : List Token). token ∷ comma ∷ ts) left.tokens_are;
  behind = subst (λ (xs : List PlacedName). GroupsLeft text (vs ++ variables_of_sort xs (named text left.sort)) left.rest ws)
      (append_assoc ns (named text token ∷ []) left.names) left.behind;
}

with_colon : (text : List ℕ) (vs : List WrittenVariable) (ns : List PlacedName) (colon : Token) (tokens : List Token)
    (ws : List WrittenVariable) → IsOfKind COLON colon → SortLeft text vs ns tokens ws → NameEnds text vs ns (colon ∷ tokens) ws
with_colon text vs ns colon tokens ws is (a_sort_left is_sort left) = at_colon is is_sort left

pub record AreGroups (text : List ℕ) (vs : List WrittenVariable) (tokens : List Token) (ws : List WrittenVariable) : Type 0 where
  pub groups : List (List WrittenVariable)
  pub are : Separated COMMA (AreVariablesOfSort text) tokens groups
  pub flat : ws ≡ vs ++ flat_map (λ (g : List WrittenVariable). g) groups

group_of : (text : List ℕ) (vs : List WrittenVariable) (tokens : List Token) (ws : List WrittenVariable)
    (left : NamesLeft text vs [] tokens ws)
    → AreVariablesOfSort text (left.front ++ left.colon ∷ left.sort ∷ []) (variables_of_sort left.names (named text left.sort))
group_of text vs tokens ws left = of_sort left.are left.is_colon left.is_sort

groups_from : (text : List ℕ) (vs group : List WrittenVariable) (front rest : List Token) (ws : List WrittenVariable)
    → AreVariablesOfSort text front group → GroupsLeft text (vs ++ group) rest ws → AreGroups text vs (front ++ rest) ws
groups_from text vs group front rest ws one no_group = record {
  groups = group ∷ [];
  are = subst (λ (ts : List Token). Separated COMMA (AreVariablesOfSort text) ts (group ∷ [])) (sym (append-nil front)) (last one);
  flat = ap (λ (xs : List WrittenVariable). vs ++ xs) (sym (append-nil group));
}
groups_from text vs group front rest ws one (groups_left {groups = groups} is_comma are flat) = record {
  groups = group ∷ groups;
  are = before_more one is_comma are;
  flat = flat ∙ append_assoc vs group (flat_map (λ (g : List WrittenVariable). g) groups);
}

all_groups : (text : List ℕ) (vs : List WrittenVariable) (tokens : List Token) (ws : List WrittenVariable) → NamesLeft text vs [] tokens ws
    → AreGroups text vs tokens ws
all_groups text vs tokens ws left =
    subst (λ (ts : List Token). AreGroups text vs ts ws)
    (append_assoc left.front (left.colon ∷ left.sort ∷ []) left.rest ∙ sym left.tokens_are)
    (groups_from text vs (variables_of_sort left.names (named text left.sort)) (left.front ++ left.colon ∷ left.sort ∷ []) left.rest ws
    (group_of text vs tokens ws left) left.behind)

with_groups : (text : List ℕ) (vs : List WrittenVariable) (comma : Token) (tokens : List Token) (ws : List WrittenVariable)
    → IsOfKind COMMA comma → AreGroups text vs tokens ws → GroupsLeft text vs (comma ∷ tokens) ws
with_groups text vs comma tokens ws is groups = groups_left is groups.are groups.flat

pub none_stays : (text : List ℕ) (tokens : List Token) → read_on text None tokens ≡ None
none_stays text [] = refl
none_stays text (token ∷ tokens) = refl

nowhere : (text : List ℕ) (tokens : List Token) (read : VariablesRead) → read_on text None tokens ≡ Some read → ⊥
nowhere text tokens read e =
    let both : None ≡ Some read = sym (none_stays text tokens) ∙ e in
    cc both

differ : (r q : VariablesRead) → Some r ≡ Some q → r.awaited ≡ q.awaited
differ r q e = ap (λ (x : VariablesRead). x.awaited) (same_Some r q e)

name_by : (text : List ℕ) (vs ws : List WrittenVariable) (ns ms : List PlacedName) (token : Token) (tokens : List Token) (b : Bool)
    → (token.kind == NAME) ≡ b
    → (read_on text (Some (at comma_or_colon vs (ns ++ named text token ∷ []))) tokens ≡ Some (at comma_or_end ws ms)
    → NameEnds text vs (ns ++ named text token ∷ []) tokens ws)
    → read_on text (if b then Some (at comma_or_colon vs (ns ++ named text token ∷ [])) else None) tokens ≡ Some (at comma_or_end ws ms)
    → NamesLeft text vs ns (token ∷ tokens) ws
name_by text vs ws ns ms token tokens true is next e = with_first_name text vs ns token tokens ws (kind_is NAME token is) (next e)
name_by text vs ws ns ms token tokens false is next e = absurd (nowhere text tokens (at comma_or_end ws ms) e)

end_by : (text : List ℕ) (vs ws : List WrittenVariable) (ns ms : List PlacedName) (token : Token) (tokens : List Token) (b c : Bool)
    → (token.kind == COMMA) ≡ b → (token.kind == COLON) ≡ c
    → (read_on text (Some (at a_name vs ns)) tokens ≡ Some (at comma_or_end ws ms) → NamesLeft text vs ns tokens ws)
    → (read_on text (Some (at a_sort vs ns)) tokens ≡ Some (at comma_or_end ws ms) → SortLeft text vs ns tokens ws)
    → read_on text (if b then Some (at a_name vs ns) else if c then Some (at a_sort vs ns) else None) tokens ≡ Some (at comma_or_end ws ms)
    → NameEnds text vs ns (token ∷ tokens) ws
end_by text vs ws ns ms token tokens true c is is_colon names sort e = at_comma (kind_is COMMA token is) (names e)
end_by text vs ws ns ms token tokens false true is is_colon names sort e =
    with_colon text vs ns token tokens ws (kind_is COLON token is_colon) (sort e)
end_by text vs ws ns ms token tokens false false is is_colon names sort e = absurd (nowhere text tokens (at comma_or_end ws ms) e)

sort_by : (text : List ℕ) (vs ws : List WrittenVariable) (ns ms : List PlacedName) (token : Token) (tokens : List Token) (b : Bool)
    → (token.kind == NAME) ≡ b
    → (read_on text (Some (at comma_or_end (vs ++ variables_of_sort ns (named text token)) [])) tokens ≡ Some (at comma_or_end ws ms)
    → GroupsLeft text (vs ++ variables_of_sort ns (named text token)) tokens ws)
    → read_on text (if b then Some (at comma_or_end (vs ++ variables_of_sort ns (named text token)) []) else None) tokens
    ≡ Some (at comma_or_end ws ms)
    → SortLeft text vs ns (token ∷ tokens) ws
sort_by text vs ws ns ms token tokens true is next e = a_sort_left (kind_is NAME token is) (next e)
sort_by text vs ws ns ms token tokens false is next e = absurd (nowhere text tokens (at comma_or_end ws ms) e)

group_by : (text : List ℕ) (vs ws : List WrittenVariable) (ms : List PlacedName) (token : Token) (tokens : List Token) (b : Bool)
    → (token.kind == COMMA) ≡ b
    → (read_on text (Some (at a_name vs [])) tokens ≡ Some (at comma_or_end ws ms) → NamesLeft text vs [] tokens ws)
    → read_on text (if b then Some (at a_name vs []) else None) tokens ≡ Some (at comma_or_end ws ms)
    → GroupsLeft text vs (token ∷ tokens) ws
group_by text vs ws ms token tokens true is next e =
    with_groups text vs token tokens ws (kind_is COMMA token is) (all_groups text vs tokens ws (next e))
group_by text vs ws ms token tokens false is next e = absurd (nowhere text tokens (at comma_or_end ws ms) e)

mutual
  sound_name : (text : List ℕ) (vs ws : List WrittenVariable) (ns ms : List PlacedName) (tokens : List Token)
      → read_on text (Some (at a_name vs ns)) tokens ≡ Some (at comma_or_end ws ms) → NamesLeft text vs ns tokens ws
  sound_name text vs ws ns ms [] e =
      let d : a_name ≡ comma_or_end = differ (at a_name vs ns) (at comma_or_end ws ms) e in
      absurd (cc d)
  sound_name text vs ws ns ms (token ∷ tokens) e =
      name_by text vs ws ns ms token tokens (token.kind == NAME) refl
      (λ h. sound_end text vs ws (ns ++ named text token ∷ []) ms tokens h) e

  sound_end : (text : List ℕ) (vs ws : List WrittenVariable) (ns ms : List PlacedName) (tokens : List Token)
      → read_on text (Some (at comma_or_colon vs ns)) tokens ≡ Some (at comma_or_end ws ms) → NameEnds text vs ns tokens ws
  sound_end text vs ws ns ms [] e =
      let d : comma_or_colon ≡ comma_or_end = differ (at comma_or_colon vs ns) (at comma_or_end ws ms) e in
      absurd (cc d)
  sound_end text vs ws ns ms (token ∷ tokens) e =
      end_by text vs ws ns ms token tokens (token.kind == COMMA) (token.kind == COLON) refl refl
      (λ h. sound_name text vs ws ns ms tokens h) (λ h. sound_sort text vs ws ns ms tokens h) e

  sound_sort : (text : List ℕ) (vs ws : List WrittenVariable) (ns ms : List PlacedName) (tokens : List Token)
      → read_on text (Some (at a_sort vs ns)) tokens ≡ Some (at comma_or_end ws ms) → SortLeft text vs ns tokens ws
  sound_sort text vs ws ns ms [] e =
      let d : a_sort ≡ comma_or_end = differ (at a_sort vs ns) (at comma_or_end ws ms) e in
      absurd (cc d)
  sound_sort text vs ws ns ms (token ∷ tokens) e =
      sort_by text vs ws ns ms token tokens (token.kind == NAME) refl
      (λ h. sound_group text (vs ++ variables_of_sort ns (named text token)) ws [] ms tokens h) e

  sound_group : (text : List ℕ) (vs ws : List WrittenVariable) (ns ms : List PlacedName) (tokens : List Token)
      → read_on text (Some (at comma_or_end vs [])) tokens ≡ Some (at comma_or_end ws ms) → GroupsLeft text vs tokens ws
  sound_group text vs ws ns ms [] e =
      let same : vs ≡ ws =
      ap (λ (r : VariablesRead). r.variables) (same_Some (at comma_or_end vs []) (at comma_or_end ws ms) e) in
      subst (λ (xs : List WrittenVariable). GroupsLeft text vs [] xs) same no_group
  sound_group text vs ws ns ms (token ∷ tokens) e =
      group_by text vs ws ms token tokens (token.kind == COMMA) refl (λ h. sound_name text vs ws [] ms tokens h) e

pub are_variables : (text : List ℕ) (tokens : List Token) (ws : List WrittenVariable) (ms : List PlacedName)
    → read_tokens text none_read tokens ≡ Some (at comma_or_end ws ms) → AreVariables text tokens ws
are_variables text tokens ws ms e =
    let groups = all_groups text [] tokens ws (sound_name text [] ws [] ms tokens e) in
    subst (λ (xs : List WrittenVariable). AreVariables text tokens xs) (sym groups.flat) (variables groups.are)

-- ---- So tokens are one list of variables at most

pub variables_once : (text : List ℕ) (tokens : List Token) (ws vs : List WrittenVariable) → AreVariables text tokens ws
    → AreVariables text tokens vs → ws ≡ vs
variables_once text tokens ws vs h k =
    ap (λ (r : VariablesRead). r.variables)
    (same_Some (at comma_or_end ws []) (at comma_or_end vs []) (sym (variables_read text tokens ws h) ∙ variables_read text tokens vs k))
