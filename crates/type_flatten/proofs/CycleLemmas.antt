-- Cycles of mentions by names and by numbers.
use Rattle.std.proofs.Common.{◌≡◌, ◌⊎◌, inl, inr, ◌<◌, ℕ, zero, suc, Bool, true, false, ◌||◌, if◌then◌else◌, List, [], ◌∷◌, ◌++◌, map, length, Option, None, Some, refl, ap, sym, ◌∙◌, subst, arith, slice_get}
use Rattle.std.proofs.lemmas.Bool.{cases_lt}
use Rattle.std.proofs.lemmas.Option.{same_Some, none-some}
use Rattle.lotos_base.proofs.Bytes.{same_bytes}
use Rattle.lotos_base.proofs.Members.{at_map, from_map, at_front, at_end}
use Rattle.lotos_base.specs.Names.{AreOneName, folded}
use Rattle.lotos_base.specs.WrittenTerm.{PlacedName}
use Rattle.type_definitions.specs.DeclaredTypes.{DeclaredType, mentions_in, is_type_named, is_type_name, type_number, type_numbers, mention_graph}
use Rattle.type_definitions.specs.MentionFaults.{MentionFault, double_type, unknown_type, type_cycle, second_declaration, AreDeclaredOnce, AreAllKnown, mentions_of_type, IsCyclicMention, IsMentionFault}
use Rattle.type_definitions.specs.TypeGraph.{mentioned_by, Mentions, MentionsLead, leads_at_once, leads_on, IsMention, IsOnCycle, MentionComesBefore, IsAcyclic}
use Rattle.type_definitions.proofs.NumberLists.{among_at, at_among}
use Rattle.type_flatten.specs.FirstCause.{IsNowhere, FirstAlong, stays}
use Rattle.type_flatten.specs.NameCauses.{NameCause, IsMentionOfNone, UnknownOf, NameMentions, NameLeads, name_leads_at_once, name_leads_on, IsMentionOnCycle, CyclicOf, NamesBring}
use Rattle.type_flatten.specs.NameCauseLaws.{NamesAreFaultyWhereCaused}
use Rattle.type_flatten.proofs.NameLemmas.{IsFirstAt, along_at, at_along, nowhere_along, along_nowhere, not_named, second_from, second_to, Doubles, once_none, none_once, mention_from, mention_to, Unknowns, known_none, none_known}

-- ---- The number of a name

number_named : (ts : List DeclaredType) (name : List ℕ) → is_type_name ts name ≡ true
    → (t : DeclaredType) × (slice_get ts (type_number ts name) ≡ Some t) × AreOneName t.name name
number_named [] name e = absurd (cc e)
number_named (t ∷ ts) name e = by (is_type_named name t) refl e (λ h. number_named ts name h)
  where
    by : (here : Bool) → is_type_named name t ≡ here → (here || is_type_name ts name) ≡ true
        → (is_type_name ts name ≡ true → (u : DeclaredType) × (slice_get ts (type_number ts name) ≡ Some u) × AreOneName u.name name)
        → (u : DeclaredType) × (slice_get (t ∷ ts) (if here then 0 else suc (type_number ts name)) ≡ Some u) × AreOneName u.name name
    by true is e later = (t, refl, sym (same_bytes (folded name) (folded t.name) is))
    by false is e later = later e

new_here : (earlier : List DeclaredType) (x : DeclaredType) (xs : List DeclaredType) → second_declaration earlier (x ∷ xs) ≡ None
    → (is_type_name earlier x.name ≡ false) × (second_declaration (earlier ++ x ∷ []) xs ≡ None)
new_here earlier x xs e = by (is_type_name earlier x.name) refl e
  where
    by : (named : Bool) → is_type_name earlier x.name ≡ named
        → (if named then Some x else second_declaration (earlier ++ x ∷ []) xs) ≡ None
        → (is_type_name earlier x.name ≡ false) × (second_declaration (earlier ++ x ∷ []) xs ≡ None)
    by true is e = absurd (cc e)
    by false is e = (is, e)

apart_earlier : (earlier ts : List DeclaredType) → second_declaration earlier ts ≡ None → (i j : ℕ) (t u : DeclaredType)
    → slice_get earlier i ≡ Some t → slice_get ts j ≡ Some u → AreOneName t.name u.name → ⊥
apart_earlier earlier [] once i j t u first second same = absurd (cc second)
apart_earlier earlier (x ∷ xs) once i zero t u first second same =
    (not_named earlier x.name).0 (new_here earlier x xs once).0
    (i, t, first, subst (λ (y : DeclaredType). AreOneName t.name y.name) (sym (same_Some x u second)) same)
apart_earlier earlier (x ∷ xs) once i (suc j) t u first second same =
    apart_earlier (earlier ++ x ∷ []) xs (new_here earlier x xs once).1 i j t u (at_front earlier (x ∷ []) i t first) second same

apart : (earlier ts : List DeclaredType) → second_declaration earlier ts ≡ None → (i j : ℕ) (t u : DeclaredType)
    → slice_get ts i ≡ Some t → slice_get ts j ≡ Some u → i < j → AreOneName t.name u.name → ⊥
apart earlier [] once i j t u first second less same = absurd (cc second)
apart earlier (x ∷ xs) once i zero t u first second less same = absurd (omega (arith, less))
apart earlier (x ∷ xs) once zero (suc j) t u first second less same =
    apart_earlier (earlier ++ x ∷ []) xs (new_here earlier x xs once).1 (length earlier) j x u (at_end earlier x []) second
    (subst (λ (y : DeclaredType). AreOneName y.name u.name) (sym (same_Some x t first)) same)
apart earlier (x ∷ xs) once (suc i) (suc j) t u first second less same =
    apart (earlier ++ x ∷ []) xs (new_here earlier x xs once).1 i j t u first second (omega (arith, less)) same

one_number : (types : List DeclaredType) → AreDeclaredOnce types → (i j : ℕ) (t u : DeclaredType) → slice_get types i ≡ Some t
    → slice_get types j ≡ Some u → AreOneName t.name u.name → i ≡ j
one_number types once i j t u first second same =
    elim (cases_lt i j) [
      | inl below ↦ absurd (apart [] types once i j t u first second below same)
      | inr above ↦ elim (cases_lt j i) [
        | inl over ↦ absurd (apart [] types once j i u t second first over (sym same))
        | inr as_much ↦ omega arith
      ]
    ]

-- ---- The rows of the graph

abbrev rows : List DeclaredType → List DeclaredType → List (List ℕ)
rows types ts = map (λ (t : DeclaredType). type_numbers types (mentions_in t.body)) ts

row_at : (types ts : List DeclaredType) (i : ℕ) (t : DeclaredType) → slice_get ts i ≡ Some t
    → mentioned_by (rows types ts) i ≡ type_numbers types (mentions_in t.body)
row_at types [] i t at = absurd (cc at)
row_at types (x ∷ xs) zero t at = ap (λ (y : DeclaredType). type_numbers types (mentions_in y.body)) (same_Some x t at)
row_at types (x ∷ xs) (suc i) t at = row_at types xs i t at

-- a number of the graph is that of a mention
record IsMentionOf (types ts : List DeclaredType) (i k j : ℕ) : Type 0 where
  pub t : DeclaredType
  pub is_type : slice_get ts i ≡ Some t
  pub mention : PlacedName
  pub is_mention : slice_get (mentions_in t.body) k ≡ Some mention
  pub numbered : type_number types mention.name ≡ j

row_mention : (types ts : List DeclaredType) (i k j : ℕ) → IsMention (rows types ts) i k j → IsMentionOf types ts i k j
row_mention types [] i k j at = absurd (none-some j at)
row_mention types (x ∷ xs) zero k j at =
    let found = from_map (λ (m : PlacedName). type_number types m.name) (mentions_in x.body) k j at in
    record { t = x; is_type = refl; mention = found.0; is_mention = found.1; numbered = found.2 }
row_mention types (x ∷ xs) (suc i) k j at =
    let more = row_mention types xs i k j at in
    record { t = more.t; is_type = more.is_type; mention = more.mention; is_mention = more.is_mention; numbered = more.numbered }

mention_row : (types : List DeclaredType) (i k : ℕ) (t : DeclaredType) (m : PlacedName) → slice_get types i ≡ Some t
    → slice_get (mentions_in t.body) k ≡ Some m → IsMention (mention_graph types) i k (type_number types m.name)
mention_row types i k t m at there =
    subst (λ (row : List ℕ). slice_get row k ≡ Some (type_number types m.name)) (sym (row_at types types i t at))
    (at_map (λ (n : PlacedName). type_number types n.name) (mentions_in t.body) k m there)

known_mention : (types : List DeclaredType) → AreAllKnown types → (i k : ℕ) (t : DeclaredType) (m : PlacedName)
    → slice_get types i ≡ Some t → slice_get (mentions_in t.body) k ≡ Some m → is_type_name types m.name ≡ true
known_mention types known i k t m at there = by (is_type_name types m.name) refl
  where
    none : IsNowhere (IsMentionOfNone types m)
    none =
        nowhere_along IsMentionOfNone types (mentions_in t.body)
        (nowhere_along UnknownOf types types (known_none types known) i t at) k m there

    by : (named : Bool) → is_type_name types m.name ≡ named → named ≡ true
    by true is = refl
    by false is = absurd (none (unknown_type m.place m.name) (refl, (not_named types m.name).0 is))

leads_named : (types : List DeclaredType) (one other last : List ℕ) → AreOneName one other → NameLeads types other last
    → NameLeads types one last
leads_named types one other last same (name_leads_at_once n) = name_leads_at_once (named_too types one other _ same n)
  where
    named_too : (types : List DeclaredType) (one other last : List ℕ) → AreOneName one other → NameMentions types other last
        → NameMentions types one last
    named_too types one other last same n = record {
      i = n.i;
      t = n.t;
      is_type = n.is_type;
      named = n.named ∙ sym same;
      k = n.k;
      mention = n.mention;
      is_mention = n.is_mention;
      mentioned = n.mentioned;
    }
leads_named types one other last same (name_leads_on {middle = middle} n rest) =
    name_leads_on {middle = middle}
    (record {
      i = n.i;
      t = n.t;
      is_type = n.is_type;
      named = n.named ∙ sym same;
      k = n.k;
      mention = n.mention;
      is_mention = n.is_mention;
      mentioned = n.mentioned;
    })
    rest

-- ---- Names and numbers lead alike

module _ (types : List DeclaredType) (once : AreDeclaredOnce types) (known : AreAllKnown types) where
  abbrev Graph : List (List ℕ)
  Graph = mention_graph types

  to_number : (name other : List ℕ) → NameMentions types name other → (i j : ℕ) (t u : DeclaredType) → slice_get types i ≡ Some t
      → AreOneName t.name name → slice_get types j ≡ Some u → AreOneName u.name other → Mentions Graph i j
  to_number name other n i j t u first one second two =
      let found = number_named types n.mention.name (known_mention types known n.i n.k n.t n.mention n.is_type n.is_mention) in
      let here : n.i ≡ i = one_number types once n.i i n.t t n.is_type first (n.named ∙ sym one) in
      let there : type_number types n.mention.name ≡ j =
      one_number types once (type_number types n.mention.name) j found.0 u found.1 second (found.2 ∙ n.mentioned ∙ sym two) in
      subst (λ (k : ℕ). Mentions Graph k j) here
      (subst (λ (k : ℕ). Mentions Graph n.i k) there
      (among_at (mentioned_by Graph n.i) n.k (type_number types n.mention.name)
      (mention_row types n.i n.k n.t n.mention n.is_type n.is_mention)))

  to_numbers : (name other : List ℕ) → NameLeads types name other → (i j : ℕ) (t u : DeclaredType) → slice_get types i ≡ Some t
      → AreOneName t.name name → slice_get types j ≡ Some u → AreOneName u.name other → MentionsLead Graph i j
  to_numbers name other (name_leads_at_once n) i j t u first one second two =
      leads_at_once (to_number name other n i j t u first one second two)
  to_numbers name other (name_leads_on {middle = middle} n rest) i j t u first one second two =
      let found = number_named types n.mention.name (known_mention types known n.i n.k n.t n.mention n.is_type n.is_mention) in
      let m : ℕ = type_number types n.mention.name in
      leads_on {j = m} (to_number name middle n i m t found.0 first one found.1 (found.2 ∙ n.mentioned))
      (to_numbers middle other rest m j found.0 u found.1 (found.2 ∙ n.mentioned) second two)

  -- a number that is mentioned is that of a type, whose name is mentioned
  from_number : (i j : ℕ) (t : DeclaredType) → slice_get types i ≡ Some t → Mentions Graph i j
      → (u : DeclaredType) × (slice_get types j ≡ Some u) × NameMentions types t.name u.name
  from_number i j t first mentions =
      let at = at_among (mentioned_by Graph i) j mentions in
      let is = row_mention types types i at.0 j at.1 in
      let found = number_named types is.mention.name (known_mention types known i at.0 is.t is.mention is.is_type is.is_mention) in (
        found.0,
        subst (λ (k : ℕ). slice_get types k ≡ Some found.0) is.numbered found.1,
        record {
          i = i;
          t = is.t;
          is_type = is.is_type;
          named = ap (λ (v : DeclaredType). folded v.name) (same_Some is.t t (sym is.is_type ∙ first));
          k = at.0;
          mention = is.mention;
          is_mention = is.is_mention;
          mentioned = sym found.2;
        },
      )

  from_numbers : (i j : ℕ) (t u : DeclaredType) → slice_get types i ≡ Some t → slice_get types j ≡ Some u → MentionsLead Graph i j
      → NameLeads types t.name u.name
  from_numbers i j t u first second (leads_at_once mentions) =
      let found = from_number i j t first mentions in
      name_leads_at_once
      (subst (λ (v : DeclaredType). NameMentions types t.name v.name) (same_Some found.0 u (sym found.1 ∙ second)) found.2)
  from_numbers i j t u first second (leads_on {j = m} mentions rest) =
      let found = from_number i m t first mentions in
      name_leads_on {middle = found.0.name} found.2 (from_numbers m j found.0 u found.1 second rest)

  -- ---- A mention on a cycle

  abbrev Named : DeclaredType → PlacedName → Type 0
  Named t m = AreOneName m.name t.name ⊎ NameLeads types m.name t.name

  on_cycle_to : (i k : ℕ) (t : DeclaredType) (m : PlacedName) → slice_get types i ≡ Some t
      → slice_get (mentions_in t.body) k ≡ Some m → IsOnCycle Graph i (type_number types m.name) → Named t m
  on_cycle_to i k t m at there on = by on
    where
      found : (v : DeclaredType) × (slice_get types (type_number types m.name) ≡ Some v) × AreOneName v.name m.name
      found = number_named types m.name (known_mention types known i k t m at there)

      by : IsOnCycle Graph i (type_number types m.name) → Named t m
      by (inl same) =
          let here : slice_get types i ≡ Some found.0 = subst (λ (n : ℕ). slice_get types n ≡ Some found.0) same found.1 in
          let one : found.0 ≡ t = same_Some found.0 t (sym here ∙ at) in
          inl (sym (subst (λ (v : DeclaredType). AreOneName v.name m.name) one found.2))
      by (inr leads) =
          inr (leads_named types m.name found.0.name t.name (sym found.2)
          (from_numbers (type_number types m.name) i found.0 t found.1 at leads))

  on_cycle_from : (i k : ℕ) (t : DeclaredType) (m : PlacedName) → slice_get types i ≡ Some t
      → slice_get (mentions_in t.body) k ≡ Some m → Named t m → IsOnCycle Graph i (type_number types m.name)
  on_cycle_from i k t m at there on = by on
    where
      found : (v : DeclaredType) × (slice_get types (type_number types m.name) ≡ Some v) × AreOneName v.name m.name
      found = number_named types m.name (known_mention types known i k t m at there)

      by : Named t m → IsOnCycle Graph i (type_number types m.name)
      by (inl same) = inl (one_number types once (type_number types m.name) i found.0 t found.1 at (found.2 ∙ same))
      by (inr leads) = inr (to_numbers m.name t.name leads (type_number types m.name) i found.0 t found.1 found.2 at refl)

  abbrev Cyclics : NameCause
  Cyclics = FirstAlong CyclicOf stays types types

  -- no mention of the type is on a cycle, as numbers tell
  none_of : (i : ℕ) (t : DeclaredType) → slice_get types i ≡ Some t
      → ((k : ℕ) (e : PlacedName) → slice_get (mentions_in t.body) k ≡ Some e → ¬ IsOnCycle Graph i (type_number types e.name))
      → IsNowhere (CyclicOf types t)
  none_of i t at none =
      along_nowhere (IsMentionOnCycle types) t (mentions_in t.body)
      (λ k e there fault is. none k e there (on_cycle_from i k t e at there is.1))

  there_of : (o : Option DeclaredType) (k : ℕ) (m : PlacedName) → slice_get (mentions_of_type o) k ≡ Some m
      → (t : DeclaredType) × (o ≡ Some t) × (slice_get (mentions_in t.body) k ≡ Some m)
  there_of None k m at = absurd (none-some m at)
  there_of (Some t) k m at = (t, refl, at)

  cyclic_from : (m : PlacedName) → IsCyclicMention types m → Cyclics (type_cycle m.place m.name)
  cyclic_from m c =
      along_at CyclicOf types types (type_cycle m.place m.name) c.by t at
      (along_at (IsMentionOnCycle types) t (mentions_in t.body) (type_cycle m.place m.name) c.position m there
      (refl, on_cycle_to c.by c.position t m at there on)
      (λ k e less here fault is.
      c.is_first.first c.by k (type_number types e.name) (inr (refl, less)) (mention_row types c.by k t e at here)
      (on_cycle_from c.by k t e at here is.1)))
      (λ l u less here.
      none_of l u here
      (λ k e in_u. c.is_first.first l k (type_number types e.name) (inl less) (mention_row types l k u e here in_u)))
    where
      found : (t : DeclaredType) × (slice_get types c.by ≡ Some t) × (slice_get (mentions_in t.body) c.position ≡ Some m)
      found = there_of (slice_get types c.by) c.position m c.is_there

      t : DeclaredType
      t = found.0

      at : slice_get types c.by ≡ Some t
      at = found.1

      there : slice_get (mentions_in t.body) c.position ≡ Some m
      there = found.2

      number : c.is_first.mentioned ≡ type_number types m.name
      number = same_Some _ _ (sym c.is_first.is_there ∙ mention_row types c.by c.position t m at there)

      on : IsOnCycle Graph c.by (type_number types m.name)
      on = subst (λ (j : ℕ). IsOnCycle Graph c.by j) number c.is_first.on_cycle

  cyclic_to : (fault : MentionFault) → Cyclics fault → (m : PlacedName) × IsCyclicMention types m × (fault ≡ type_cycle m.place m.name)
  cyclic_to fault along = (
    m,
    record {
      by = first.i;
      position = within.i;
      is_first = record {
        mentioned = type_number types m.name;
        is_there = mention_row types first.i within.i first.d m first.there within.there;
        on_cycle = on_cycle_from first.i within.i first.d m first.there within.there within.is.1;
        first = λ l k j before mentions on. none l k j before (row_mention types types l k j mentions) on;
      };
      is_there = ap (λ (o : Option DeclaredType). slice_get (mentions_of_type o) within.i) first.there ∙ within.there;
    },
    within.is.0,
  )
    where
      first : IsFirstAt CyclicOf types types fault
      first = at_along CyclicOf types types fault along

      within : IsFirstAt (IsMentionOnCycle types) first.d (mentions_in first.d.body) fault
      within = at_along (IsMentionOnCycle types) first.d (mentions_in first.d.body) fault first.is

      m : PlacedName
      m = within.d

      none : (l k j : ℕ) → MentionComesBefore l k first.i within.i → IsMentionOf types types l k j → IsOnCycle Graph l j → ⊥
      none l k j (inl less) of on =
          nowhere_along (IsMentionOnCycle types) of.t (mentions_in of.t.body) (first.none_before l of.t less of.is_type) k of.mention
          of.is_mention (type_cycle of.mention.place of.mention.name)
          (refl, on_cycle_to l k of.t of.mention of.is_type of.is_mention (subst (λ (n : ℕ). IsOnCycle Graph l n) (sym of.numbered) on))
      none l k j (inr here) of on =
          let at : slice_get types l ≡ Some first.d = subst (λ (n : ℕ). slice_get types n ≡ Some first.d) (sym here.0) first.there in
          let same : of.t ≡ first.d = same_Some of.t first.d (sym of.is_type ∙ at) in
          within.none_before k of.mention here.1
          (subst (λ (v : DeclaredType). slice_get (mentions_in v.body) k ≡ Some of.mention) same of.is_mention)
          (type_cycle of.mention.place of.mention.name) (
            refl,
            subst (λ (v : DeclaredType). Named v of.mention) same
                (on_cycle_to l k of.t of.mention of.is_type of.is_mention (subst (λ (n : ℕ). IsOnCycle Graph l n) (sym of.numbered) on)),
          )

  none_cyclic : IsNowhere Cyclics → IsAcyclic Graph
  none_cyclic none i j mentions on =
      let at = at_among (mentioned_by Graph i) j mentions in
      let of = row_mention types types i at.0 j at.1 in
      nowhere_along (IsMentionOnCycle types) of.t (mentions_in of.t.body) (nowhere_along CyclicOf types types none i of.t of.is_type) at.0
      of.mention of.is_mention (type_cycle of.mention.place of.mention.name)
      (refl, on_cycle_to i at.0 of.t of.mention of.is_type of.is_mention (subst (λ (n : ℕ). IsOnCycle Graph i n) (sym of.numbered) on))

  acyclic_none : IsAcyclic Graph → IsNowhere Cyclics
  acyclic_none acyclic =
      along_nowhere CyclicOf types types
      (λ i t at.
      none_of i t at
      (λ k e there.
      acyclic i (type_number types e.name)
      (among_at (mentioned_by Graph i) k (type_number types e.name) (mention_row types i k t e at there))))

-- ---- The law

fault_from : (types : List DeclaredType) (fault : MentionFault) → IsMentionFault types fault → NamesBring types fault
fault_from types (double_type place name) is =
    let same : double_type is.0.place is.0.name ≡ double_type place name = (λ i. double_type (is.2 i) (is.3 i)) in
    inl (subst (Doubles types) same (second_from [] types is.0 is.1))
fault_from types (unknown_type place name) is =
    let same : unknown_type is.1.0.place is.1.0.name ≡ unknown_type place name = (λ i. unknown_type (is.1.2 i) (is.1.3 i)) in
    inr (once_none types is.0, inl (subst (Unknowns types) same (mention_from types types is.1.0 is.1.1)))
fault_from types (type_cycle place name) is =
    let same : type_cycle is.2.0.place is.2.0.name ≡ type_cycle place name = (λ i. type_cycle (is.2.2 i) (is.2.3 i)) in
    inr (
      once_none types is.0,
      inr (
        known_none types is.1,
        subst (FirstAlong CyclicOf stays types types) same (cyclic_from types is.0 is.1 is.2.0 is.2.1),
      ),
    )

fault_to : (types : List DeclaredType) (fault : MentionFault) → NamesBring types fault → IsMentionFault types fault
fault_to types fault (inl along) =
    let found = second_to [] types fault along in
    subst (IsMentionFault types) (sym found.2) (found.0, found.1, refl, refl)
fault_to types fault (inr (none, inl along)) =
    let found = mention_to types types fault along in
    subst (IsMentionFault types) (sym found.2) (none_once types none, (found.0, found.1, refl, refl))
fault_to types fault (inr (none, inr (none_too, along))) =
    let once = none_once types none in
    let known = none_known types none_too in
    let found = cyclic_to types once known fault along in
    subst (IsMentionFault types) (sym found.2) (once, known, (found.0, found.1, refl, refl))

fine_from : (types : List DeclaredType) → AreDeclaredOnce types × AreAllKnown types × IsAcyclic (mention_graph types)
    → IsNowhere (NamesBring types)
fine_from types (once, known, acyclic) fault (inl along) = once_none types once fault along
fine_from types (once, known, acyclic) fault (inr (none, inl along)) = known_none types known fault along
fine_from types (once, known, acyclic) fault (inr (none, inr (none_too, along))) =
    acyclic_none types once known acyclic fault along

fine_to : (types : List DeclaredType) → IsNowhere (NamesBring types)
    → AreDeclaredOnce types × AreAllKnown types × IsAcyclic (mention_graph types)
fine_to types none =
    let doubles : IsNowhere (Doubles types) = (λ fault along. none fault (inl along)) in
    let unknowns : IsNowhere (Unknowns types) = (λ fault along. none fault (inr (doubles, inl along))) in
    let once = none_once types doubles in
    let known = none_known types unknowns in
    (once, known, none_cyclic types once known (λ fault along. none fault (inr (doubles, inr (unknowns, along)))))

pub names_faulty : NamesAreFaultyWhereCaused
names_faulty = record {
  faulty = λ types fault. (fault_from types fault, fault_to types fault);
  fine = λ types. (fine_from types, fine_to types);
}
