-- The places of definitions in texts.
use Rattle.std.proofs.Common.{ℕ, List, [], ◌∷◌, ◌++◌, sym, subst, inl, inr}
use Rattle.std.specs.Prelude.{◌⊎◌, Option}
use Rattle.scope_parts.proofs.OrderLemmas.{before_both, both_before, in_either, in_left as one_left, in_right as one_right}
use Rattle.lotos_base.specs.Equation.{Place}
use Rattle.lotos_base.specs.WrittenTerm.{PlacedName}
use Rattle.lotos_lexer.specs.declared.kinds.TheConstants.{LEFT_PARENTHESIS, RIGHT_PARENTHESIS}
use Rattle.lotos_lexer.specs.declared.tokens.Token.{Token}
use Rattle.syntax_trees.specs.WrittenVariable.{WrittenVariable}
use Rattle.syntax_trees.specs.WrittenBehaviour.{WrittenBehaviour}
use Rattle.syntax_trees.specs.WrittenDefinition.{WrittenHeading, WrittenInner, WrittenInners, inner_item, process, no_inner, inner_then, inners_of, WrittenSpecification}
use Rattle.syntax_trees.specs.TakenItems.{processes_of, without_items}
use Rattle.syntax_trees.proofs.TakingItems.{listed-again}
use Rattle.lotos_rows.specs.Words.{Optional, left_out, there, Between, between}
use Rattle.lotos_rows.specs.Names.{AreNames}
use Rattle.lotos_rows.specs.Definitions.{IsWrittenFunctionality, no_exit, exit_of, IsHeading, heading, IsProcess, a_process, IsWhere, no_where, a_where, AreInner, no_more_inner, item_then, process_then}
use Rattle.lotos_rows.specs.Starts.{IsWrittenSpecification, a_specification}
use Rattle.scope_parts.specs.Order.{IsOneOfPlaces, StandWhollyBefore, Rising, InTurn}
use Rattle.scope_parts.specs.TermPlaces.{name_places}
use Rattle.scope_parts.specs.PartPlaces.{variable_places}
use Rattle.scope_parts.specs.BehaviourPlaces.{behaviour_places, Follows}
use Rattle.scope_parts.specs.TextOrder.{functionality_places, heading_places, HeadingFollows, definition_places, DefinitionFollows, inner_places, inners_places, InnerFollows, InnersFollow, PlacesRise}
use Rattle.declaration_laws.proofs.TokenOrder.{Rises, Within, rises_front, rises_back, nothing_within, here_within, in_left, in_right, in_rest, both_within, more_within, before_parts, before_first, nothing_before}
use Rattle.declaration_laws.proofs.TermPlaceLemmas.{names_in, names_rise, optional_gates_in, optional_gates_rise}
use Rattle.declaration_laws.proofs.PartPlaceLemmas.{parameters_in, parameters_follow}
use Rattle.declaration_laws.proofs.BehaviourPlaceLemmas.{two_turn, three_turn, behaviour_in, behaviour_follows}

-- ---- headings

exit_sorts_in : {text : List ℕ} {tokens : List Token} {sorts : List PlacedName}
    → Optional [] (Between LEFT_PARENTHESIS RIGHT_PARENTHESIS (AreNames text)) tokens sorts → Within (name_places sorts) tokens
exit_sorts_in left_out = nothing_within []
exit_sorts_in {sorts = sorts} (there (between {open_token = left} {close_token = right} {tokens = ts} left_is are right_is)) =
    in_rest (name_places sorts) left (ts ++ right ∷ []) (in_left (name_places sorts) ts (right ∷ []) (names_in are))

exit_sorts_rise : {text : List ℕ} {tokens : List Token} {sorts : List PlacedName}
    → Optional [] (Between LEFT_PARENTHESIS RIGHT_PARENTHESIS (AreNames text)) tokens sorts → Rises tokens → Rising (name_places sorts)
exit_sorts_rise left_out h = tt
exit_sorts_rise (there (between {close_token = right} {tokens = ts} left_is are right_is)) h = names_rise are (rises_front ts
    (right ∷ []) h.1)

functionality_in : {text : List ℕ} {tokens : List Token} {functionality : Option (List PlacedName)}
    → IsWrittenFunctionality text tokens functionality → Within (functionality_places functionality) tokens
functionality_in (no_exit {word = word} is) = nothing_within (word ∷ [])
functionality_in (exit_of {word = word} {tokens = ts} {sorts = sorts} is are) = in_rest (name_places sorts) word ts (exit_sorts_in are)

functionality_rises : {text : List ℕ} {tokens : List Token} {functionality : Option (List PlacedName)}
    → IsWrittenFunctionality text tokens functionality → Rises tokens → Rising (functionality_places functionality)
functionality_rises (no_exit is) h = tt
functionality_rises (exit_of is are) h = exit_sorts_rise are h.1

heading_place_in : {text : List ℕ} {tokens : List Token} {head : WrittenHeading} → IsHeading text tokens head
    → Within (head.place ∷ []) tokens
heading_place_in (heading {name = name} {colon = colon} {gate_tokens = gs} {parameter_tokens = ps}
    {tokens = ts} name_is gates params colon_is
    exit) =
    here_within name (gs ++ (ps ++ colon ∷ ts))

heading_parts_in : (gs ps ts : List Token) (colon : Token) (gates : List PlacedName) (parameters : List WrittenVariable)
    (functionality : Option (List PlacedName)) → Within (name_places gates) gs → Within (variable_places parameters) ps
    → Within (functionality_places functionality) ts
    → Within (name_places gates ++ (variable_places parameters ++ functionality_places functionality)) (gs ++ (ps ++ colon ∷ ts))
heading_parts_in gs ps ts colon gates parameters functionality one two three =
    both_within (name_places gates) (variable_places parameters ++ functionality_places functionality) (gs ++ (ps ++ colon ∷ ts))
    (in_left (name_places gates) gs (ps ++ colon ∷ ts) one)
    (in_right (variable_places parameters ++ functionality_places functionality) gs (ps ++ colon ∷ ts)
    (both_within (variable_places parameters) (functionality_places functionality) (ps ++ colon ∷ ts)
    (in_left (variable_places parameters) ps (colon ∷ ts) two)
    (in_right (functionality_places functionality) ps (colon ∷ ts) (in_rest (functionality_places functionality) colon ts three))))

heading_in : {text : List ℕ} {tokens : List Token} {head : WrittenHeading} → IsHeading text tokens head
    → Within (heading_places head) tokens
heading_in {head = head} (heading {name = name} {colon = colon} {gate_tokens = gs} {parameter_tokens = ps} {tokens = ts}
    {gates = gates} {parameters = parameters} {functionality = functionality} name_is gates_are params colon_is exit) =
    in_rest (heading_places head) name (gs ++ (ps ++ colon ∷ ts))
    (heading_parts_in gs ps ts colon gates parameters functionality (optional_gates_in gates_are) (parameters_in params)
    (functionality_in exit))

heading_first : {text : List ℕ} {tokens : List Token} {head : WrittenHeading} → IsHeading text tokens head → Rises tokens
    → StandWhollyBefore (head.place ∷ []) (heading_places head)
heading_first {head = head} (heading {name = name} {colon = colon} {gate_tokens = gs} {parameter_tokens = ps} {tokens = ts}
    {gates = gates} {parameters = parameters} {functionality = functionality} name_is gates_are params colon_is exit) h =
    before_first name (heading_places head) (gs ++ (ps ++ colon ∷ ts)) h
    (heading_parts_in gs ps ts colon gates parameters functionality (optional_gates_in gates_are) (parameters_in params)
    (functionality_in exit))

heading_follows : {text : List ℕ} {tokens : List Token} {head : WrittenHeading} → IsHeading text tokens head → Rises tokens
    → HeadingFollows head
heading_follows (heading {colon = colon} {gate_tokens = gs} {parameter_tokens = ps} {tokens = ts} {gates = gates} {parameters = parameters}
    {functionality = functionality} name_is gates_are params colon_is exit) h =
    let back = rises_back gs (ps ++ colon ∷ ts) h.1 in (
      three_turn (name_places gates) (variable_places parameters) (functionality_places functionality)
          (before_parts (name_places gates) (variable_places parameters) gs (ps ++ colon ∷ ts) h.1 (optional_gates_in gates_are)
          (in_left (variable_places parameters) ps (colon ∷ ts) (parameters_in params)))
          (before_parts (name_places gates) (functionality_places functionality) gs (ps ++ colon ∷ ts) h.1 (optional_gates_in gates_are)
          (in_right (functionality_places functionality) ps (colon ∷ ts)
          (in_rest (functionality_places functionality) colon ts (functionality_in exit))))
          (before_parts (variable_places parameters) (functionality_places functionality) ps (colon ∷ ts) back (parameters_in params)
          (in_rest (functionality_places functionality) colon ts (functionality_in exit))),
      optional_gates_rise gates_are (rises_front gs (ps ++ colon ∷ ts) h.1),
      parameters_follow params (rises_front ps (colon ∷ ts) back),
      functionality_rises exit (rises_back ps (colon ∷ ts) back).1,
    )

-- ---- what a `where` declares

mutual
  process_in : {text : List ℕ} {tokens : List Token} {inner : WrittenInner} → IsProcess text tokens inner
      → Within (inner_places inner) tokens
  process_in (a_process {word = word} {sign = sign} {end = end} {heading_tokens = hs} {tokens = ts} {where_tokens = ws} {heading = head}
      {body = body} {inner = inner} word_is head_is sign_is body_is where_is end_is) =
      in_rest (head.place ∷ (definition_places head body ++ inners_places (inners_of inner))) word (hs ++ sign ∷ (ts ++ (ws ++ end ∷ [])))
      (more_within head.place (definition_places head body ++ inners_places (inners_of inner)) (hs ++ sign ∷ (ts ++ (ws ++ end ∷ [])))
      (in_left (head.place ∷ []) hs (sign ∷ (ts ++ (ws ++ end ∷ []))) (heading_place_in head_is))
      (both_within (definition_places head body) (inners_places (inners_of inner)) (hs ++ sign ∷ (ts ++ (ws ++ end ∷ [])))
      (both_within (heading_places head) (behaviour_places body) (hs ++ sign ∷ (ts ++ (ws ++ end ∷ [])))
      (in_left (heading_places head) hs (sign ∷ (ts ++ (ws ++ end ∷ []))) (heading_in head_is))
      (in_right (behaviour_places body) hs (sign ∷ (ts ++ (ws ++ end ∷ [])))
      (in_rest (behaviour_places body) sign (ts ++ (ws ++ end ∷ []))
      (in_left (behaviour_places body) ts (ws ++ end ∷ []) (behaviour_in body_is)))))
      (in_right (inners_places (inners_of inner)) hs (sign ∷ (ts ++ (ws ++ end ∷ [])))
      (in_rest (inners_places (inners_of inner)) sign (ts ++ (ws ++ end ∷ []))
      (in_right (inners_places (inners_of inner)) ts (ws ++ end ∷ [])
      (in_left (inners_places (inners_of inner)) ws (end ∷ []) (where_in where_is)))))))

  where_in : {text : List ℕ} {tokens : List Token} {inner : List WrittenInner} → IsWhere text tokens inner
      → Within (inners_places (inners_of inner)) tokens
  where_in no_where = nothing_within []
  where_in (a_where {word = word} {tokens = ts} {inner = inner} word_is are) =
      in_rest (inners_places (inners_of inner)) word ts (inners_in are)

  inners_in : {text : List ℕ} {tokens : List Token} {inner : List WrittenInner} → AreInner text tokens inner
      → Within (inners_places (inners_of inner)) tokens
  inners_in no_more_inner = nothing_within []
  inners_in (item_then {tokens = ts} {rest = rest} {inner = inner} is more) = in_right (inners_places (inners_of inner)) ts rest
      (inners_in more)
  inners_in (process_then {tokens = ts} {rest = rest} {definition = definition} {inner = inner} is more) =
      both_within (inner_places definition) (inners_places (inners_of inner)) (ts ++ rest)
      (in_left (inner_places definition) ts rest (process_in is))
      (in_right (inners_places (inners_of inner)) ts rest (inners_in more))

definition_before : {text : List ℕ} (hs ts ws us : List Token) (sign : Token) (head : WrittenHeading) (body : WrittenBehaviour)
    (ps : List Place) → IsHeading text hs head → Within (behaviour_places body) ts → Within ps ws → Rises (hs ++ sign ∷ (ts ++ (ws ++ us)))
    → StandWhollyBefore (definition_places head body) ps
definition_before hs ts ws us sign head body ps head_is body_in_ own h = go
  where
    behind : Within ps (ts ++ (ws ++ us))
    behind = in_right ps ts (ws ++ us) (in_left ps ws us own)

    first : StandWhollyBefore (heading_places head) ps
    first = before_parts (heading_places head) ps hs (sign ∷ (ts ++ (ws ++ us))) h (heading_in head_is) (in_rest ps sign (ts ++
        (ws ++ us)) behind)

    second : StandWhollyBefore (behaviour_places body) ps
    second = before_parts (behaviour_places body) ps ts (ws ++ us) (rises_back hs (sign ∷ (ts ++ (ws ++ us))) h).1 body_in_
        (in_left ps ws us own)

    go : StandWhollyBefore (heading_places head ++ behaviour_places body) ps
    go = both_before (heading_places head) (behaviour_places body) ps first second

definition_follows : {text : List ℕ} (hs ts us : List Token) (sign : Token) (head : WrittenHeading) (body : WrittenBehaviour)
    → IsHeading text hs head → Within (behaviour_places body) ts → Rises (hs ++ sign ∷ (ts ++ us))
    → (Rises ts → Follows body) → DefinitionFollows head body
definition_follows hs ts us sign head body head_is body_in_ h onward = (
  two_turn (heading_places head) (behaviour_places body)
      (before_parts (heading_places head) (behaviour_places body) hs (sign ∷ (ts ++ us)) h (heading_in head_is)
      (in_rest (behaviour_places body) sign (ts ++ us) (in_left (behaviour_places body) ts us body_in_))),
  heading_follows head_is (rises_front hs (sign ∷ (ts ++ us)) h),
  onward (rises_front ts us (rises_back hs (sign ∷ (ts ++ us)) h).1),
)

mutual
  process_follows : {text : List ℕ} {tokens : List Token} {inner : WrittenInner} → IsProcess text tokens inner → Rises tokens
      → InnerFollows inner
  process_follows (a_process {word = word} {sign = sign} {end = end} {heading_tokens = hs} {tokens = ts} {where_tokens = ws}
      {heading = head}
      {body = body} {inner = inner} word_is head_is sign_is body_is where_is end_is) h =
      let own = inners_places (inners_of inner) in
      let rest = sign ∷ (ts ++ (ws ++ end ∷ [])) in
      let back = (rises_back hs rest h.1).1 in (
        three_turn (head.place ∷ []) (definition_places head body) own
            (before_both (head.place ∷ []) (heading_places head) (behaviour_places body)
            (heading_first head_is (rises_front hs rest h.1))
            (before_parts (head.place ∷ []) (behaviour_places body) hs rest h.1 (heading_place_in head_is)
            (in_rest (behaviour_places body) sign (ts ++ (ws ++ end ∷ []))
            (in_left (behaviour_places body) ts (ws ++ end ∷ []) (behaviour_in body_is)))))
            (before_parts (head.place ∷ []) own hs rest h.1 (heading_place_in head_is)
            (in_rest own sign (ts ++ (ws ++ end ∷ [])) (in_right own ts (ws ++ end ∷ []) (in_left own ws (end ∷ []) (where_in where_is)))))
            (definition_before hs ts ws (end ∷ []) sign head body own head_is (behaviour_in body_is) (where_in where_is) h.1),
        definition_follows hs ts (ws ++ end ∷ []) sign head body head_is (behaviour_in body_is) h.1
            (λ rises. behaviour_follows body_is rises),
        where_follows where_is (rises_front ws (end ∷ []) (rises_back ts (ws ++ end ∷ []) back)),
      )

  where_follows : {text : List ℕ} {tokens : List Token} {inner : List WrittenInner} → IsWhere text tokens inner → Rises tokens
      → InnersFollow (inners_of inner)
  where_follows no_where h = tt
  where_follows (a_where word_is are) h = inners_follow are h.1

  inners_follow : {text : List ℕ} {tokens : List Token} {inner : List WrittenInner} → AreInner text tokens inner → Rises tokens
      → InnersFollow (inners_of inner)
  inners_follow no_more_inner h = tt
  inners_follow (item_then {tokens = ts} {rest = rest} {inner = inner} is more) h = (
    two_turn [] (inners_places (inners_of inner)) (nothing_before (inners_places (inners_of inner))),
    tt,
    inners_follow more (rises_back ts rest h),
  )
  inners_follow (process_then {tokens = ts} {rest = rest} {definition = definition} {inner = inner} is more) h = (
    two_turn (inner_places definition) (inners_places (inners_of inner))
        (before_parts (inner_places definition) (inners_places (inners_of inner)) ts rest h (process_in is) (inners_in more)),
    process_follows is (rises_front ts rest h),
    inners_follow more (rises_back ts rest h),
  )

-- ---- texts

-- a heading and a body, with other tokens between the two
spaced_follows : {text : List ℕ} (hs is ts us : List Token) (word : Token) (head : WrittenHeading) (body : WrittenBehaviour)
    → IsHeading text hs head → Within (behaviour_places body) ts → Rises (hs ++ (is ++ word ∷ (ts ++ us)))
    → (Rises ts → Follows body) → DefinitionFollows head body
spaced_follows hs is ts us word head body head_is body_in_ h onward = (
  two_turn (heading_places head) (behaviour_places body)
      (before_parts (heading_places head) (behaviour_places body) hs (is ++ word ∷ (ts ++ us)) h (heading_in head_is)
      (in_right (behaviour_places body) is (word ∷ (ts ++ us))
      (in_rest (behaviour_places body) word (ts ++ us) (in_left (behaviour_places body) ts us body_in_)))),
  heading_follows head_is (rises_front hs (is ++ word ∷ (ts ++ us)) h),
  onward (rises_front ts us (rises_back is (word ∷ (ts ++ us)) (rises_back hs (is ++ word ∷ (ts ++ us)) h)).1),
)

pub text_rises : {text : List ℕ} {tokens : List Token} {tree : WrittenSpecification} → IsWrittenSpecification text tokens tree
    → Rises tokens
    → PlacesRise tree
text_rises (a_specification {specification = first} {word = word} {end = end} {heading_tokens = hs} {item_tokens = is} {tokens = ts}
    {where_tokens = ws} {heading = head} {body = body} {inner = inner} first_is head_is items_are word_is body_is where_is end_is) h =
    let own = inners_places (inners_of inner) in
    let rest = is ++ word ∷ (ts ++ (ws ++ end ∷ [])) in
    let back = (rises_back is (word ∷ (ts ++ (ws ++ end ∷ []))) (rises_back hs rest h.1)).1 in (
      two_turn (definition_places head body) own
          (both_before (heading_places head) (behaviour_places body) own
          (before_parts (heading_places head) own hs rest h.1 (heading_in head_is)
          (in_right own is (word ∷ (ts ++ (ws ++ end ∷ []))) (in_rest own word (ts ++ (ws ++ end ∷ []))
          (in_right own ts (ws ++ end ∷ []) (in_left own ws (end ∷ []) (where_in where_is))))))
          (before_parts (behaviour_places body) own ts (ws ++ end ∷ []) back (behaviour_in body_is)
          (in_left own ws (end ∷ []) (where_in where_is)))),
      spaced_follows hs is ts (ws ++ end ∷ []) word head body head_is (behaviour_in body_is) h.1 (λ rises. behaviour_follows body_is rises),
      where_follows where_is (rises_front ws (end ∷ []) (rises_back ts (ws ++ end ∷ []) back)),
    )

-- ---- items taken out

abbrev Sub : List Place → List Place → Type 0
Sub ps qs = (p : Place) → IsOneOfPlaces p ps → IsOneOfPlaces p qs

sub_before : (ps qs rs ss : List Place) → Sub ps qs → Sub rs ss → StandWhollyBefore qs ss → StandWhollyBefore ps rs
sub_before ps qs rs ss one other h p q here later = h p q (one p here) (other q later)

same_sub : (ps : List Place) → Sub ps ps
same_sub ps p at = at

process_sub : (place : Place) (ds is js : List Place) → Sub is js → Sub (place ∷ (ds ++ is)) (place ∷ (ds ++ js))
process_sub place ds is js one p (inl same) = inl same
process_sub place ds is js one p (inr at) = inr (go (in_either p ds is at))
  where
    go : IsOneOfPlaces p ds ⊎ IsOneOfPlaces p is → IsOneOfPlaces p (ds ++ js)
    go (inl here) = one_left p ds js here
    go (inr later) = one_right p ds js (one p later)

both_sub : (ps qs rs ss : List Place) → Sub ps qs → Sub rs ss → Sub (ps ++ rs) (qs ++ ss)
both_sub ps qs rs ss one other p at = go (in_either p ps rs at)
  where
    go : IsOneOfPlaces p ps ⊎ IsOneOfPlaces p rs → IsOneOfPlaces p (qs ++ ss)
    go (inl here) = one_left p qs ss (one p here)
    go (inr later) = one_right p qs ss (other p later)

kept_places : (inners : WrittenInners) → Sub (inners_places (processes_of inners)) (inners_places inners)
kept_places no_inner = same_sub []
kept_places (inner_then (inner_item item) others) = kept_places others
kept_places (inner_then (process head body inner) others) =
    both_sub (head.place ∷ (definition_places head body ++ inners_places (processes_of inner)))
    (head.place ∷ (definition_places head body ++ inners_places inner)) (inners_places (processes_of others)) (inners_places others)
    (process_sub head.place (definition_places head body) (inners_places (processes_of inner)) (inners_places inner) (kept_places inner))
    (kept_places others)

kept_follow : (inners : WrittenInners) → InnersFollow inners → InnersFollow (processes_of inners)
kept_follow no_inner h = tt
kept_follow (inner_then (inner_item item) others) h = kept_follow others h.2
kept_follow (inner_then (process head body inner) others) h = (
  two_turn (head.place ∷ (definition_places head body ++ inners_places (processes_of inner))) (inners_places (processes_of others))
      (sub_before (head.place ∷ (definition_places head body ++ inners_places (processes_of inner)))
      (head.place ∷ (definition_places head body ++ inners_places inner)) (inners_places (processes_of others)) (inners_places others)
      (process_sub head.place (definition_places head body) (inners_places (processes_of inner)) (inners_places inner) (kept_places inner))
      (kept_places others) h.0.0.0),
  (
    three_turn (head.place ∷ []) (definition_places head body) (inners_places (processes_of inner)) h.1.0.0.0
        (sub_before (head.place ∷ []) (head.place ∷ []) (inners_places (processes_of inner)) (inners_places inner)
        (same_sub (head.place ∷ [])) (kept_places inner) h.1.0.0.1.0)
        (sub_before (definition_places head body) (definition_places head body) (inners_places (processes_of inner)) (inners_places inner)
        (same_sub (definition_places head body)) (kept_places inner) h.1.0.1.0.0),
    h.1.1,
    kept_follow inner h.1.2,
  ),
  kept_follow others h.2,
)

abbrev RisesWith : WrittenSpecification → WrittenInners → Type 0
RisesWith tree inners =
    InTurn (definition_places tree.heading tree.body ∷ inners_places inners ∷ []) × DefinitionFollows tree.heading tree.body
    × InnersFollow inners

pub places_stay : (tree : WrittenSpecification) → PlacesRise tree → PlacesRise (without_items tree)
places_stay tree h =
    let inners = inners_of tree.inner in
    let places = definition_places tree.heading tree.body in
    subst (λ (own : WrittenInners). RisesWith tree own) (sym (listed-again (processes_of inners))) (
      two_turn places (inners_places (processes_of inners))
          (sub_before places places (inners_places (processes_of inners)) (inners_places inners) (same_sub places) (kept_places inners)
          h.0.0.0),
      h.1,
      kept_follow inners h.2,
    )
