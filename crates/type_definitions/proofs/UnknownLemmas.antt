-- Mentions as numbers: one mention more, one type more, a mention of no type; the graph of known mentions.
use Rattle.std.proofs.Common.{◌≡◌, ℕ, zero, suc, ◌+◌, ◌<◌, Bool, true, false, List, [], ◌∷◌, ◌++◌, length, get_or, map, take, drop, inl, inr, refl, ap, sym, ◌∙◌, subst, arith}
use Rattle.std.specs.Prelude.{Option, Some, None, slice_get, nat_eq, if◌then◌else◌}
use Rattle.std.proofs.lemmas.Bool.{eqb-true, or_cases}
use Rattle.std.proofs.lemmas.Option.{none-some, same_Some, slice_get-get_or}
use Rattle.std.proofs.lemmas.List.{length-map, get_or-map, get_or_past}
use Rattle.lotos_base.proofs.Members.{at_map}
use Rattle.lotos_base.specs.WrittenTerm.{PlacedName}
use Rattle.type_definitions.specs.DeclaredTypes.{DeclaredType, mentions_in, is_type_name, type_number, type_numbers, mention_graph}
use Rattle.type_definitions.specs.MentionFaults.{unknown_among, unknown_mention, earlier_of_two, AreDeclaredOnce, AreAllKnown, mentions_of_type, mention_at}
use Rattle.type_definitions.specs.NameFaultView.{IsNameUnknown, IsNameFault, IsCycleAt}
use Rattle.type_definitions.specs.TypeGraph.{is_among, mentioned_by, Mentions, IsWithin, IsMention, IsFirstMentionOnCycle}
use Rattle.type_definitions.specs.TypeView.{declared_type_of, declared_types_of, type_body_of}
use Rattle.type_definitions.specs.declared.type_texts.TypeText.{TypeText}
use Rattle.type_definitions.proofs.NumberLists.{among_none, among_at, mentioner_within}
use Rattle.type_definitions.proofs.NameLemmas.{number_within}
use Rattle.type_definitions.specs.declared.name_faults.TypeNameFault.{TypeNameFault}
use Rattle.type_definitions.specs.declared.name_faults.TypeNameFault.TheVariants.{DoubleType, UnknownType, TypeCycle, NoMemory}

-- ---- Faults.

pub unknown_fault : (types : List DeclaredType) (fault : TypeNameFault) → AreDeclaredOnce types
    → IsNameUnknown (unknown_mention types types) fault → IsNameFault types fault
unknown_fault types (DoubleType place name) once h = absurd h
unknown_fault types (UnknownType place name) once h = (once, (_, h, refl, refl))
unknown_fault types (TypeCycle place name) once h = absurd h
unknown_fault types NoMemory once h = tt

pub cycle_fault : (types : List DeclaredType) (fault : TypeNameFault) → AreDeclaredOnce types → AreAllKnown types
    → IsCycleAt types fault → IsNameFault types fault
cycle_fault types (DoubleType place name) once known h = absurd h
cycle_fault types (UnknownType place name) once known h = absurd h
cycle_fault types (TypeCycle place name) once known h = (once, known, h)
cycle_fault types NoMemory once known h = tt

-- ---- The graph of known mentions.

numbers_within : (types : List DeclaredType) (ms : List PlacedName) (j : ℕ) → unknown_among types ms ≡ None
    → is_among (type_numbers types ms) j ≡ true → j < length types
numbers_within types [] j none h = among_none j h
numbers_within types (m ∷ ms) j none h =
    go (is_type_name types m.name) refl (numbers_within types ms j)
  where
    go : (b : Bool) → is_type_name types m.name ≡ b
        → (unknown_among types ms ≡ None → is_among (type_numbers types ms) j ≡ true → j < length types) → j < length types
    go true is rest =
        elim (or_cases (nat_eq j (type_number types m.name)) (is_among (type_numbers types ms) j) h) [
          | inl same ↦
              subst (λ (k : ℕ). k < length types) (sym (eqb-true j (type_number types m.name) same)) (number_within m.name types is)
          | inr further ↦
              let later : unknown_among types ms ≡ None = rw is at none in
              rest later further
        ]
    go false is rest = let some : Some m ≡ None = rw is at none in absurd (none-some m (sym some))

both_none : {A : Type 0} (o p : Option A) → earlier_of_two o p ≡ None → (o ≡ None) × (p ≡ None)
both_none None p e = (refl, e)
both_none (Some x) p e = absurd (none-some x (sym e))

abbrev rows_from : List DeclaredType → List DeclaredType → List (List ℕ)
rows_from types ts = map (λ (t : DeclaredType). type_numbers types (mentions_in t.body)) ts

row_within : (types ts : List DeclaredType) (i j : ℕ) → unknown_mention types ts ≡ None → Mentions (rows_from types ts) i j
    → j < length types
row_within types [] i j none h = among_none j h
row_within types (t ∷ ts) zero j none h =
    numbers_within types (mentions_in t.body) j (both_none (unknown_among types (mentions_in t.body)) (unknown_mention types ts) none).0 h
row_within types (t ∷ ts) (suc i) j none h =
    row_within types ts i j (both_none (unknown_among types (mentions_in t.body)) (unknown_mention types ts) none).1 h

pub graph_within : (types : List DeclaredType) (rows : List (List ℕ)) → AreAllKnown types → rows ≡ mention_graph types → IsWithin rows
graph_within types rows known is = subst (λ (g : List (List ℕ)). IsWithin g) (sym is) (λ i j h.
    let as_many : length (mention_graph types) ≡ length types =
    length-map types (λ (t : DeclaredType). type_numbers types (mentions_in t.body)) in
    subst (λ (n : ℕ). j < n) (sym as_many) (row_within types types i j known h))

-- ---- The mention behind a number.

mention_in_row : (types : List DeclaredType) (ms : List PlacedName) (position j : ℕ) → slice_get (type_numbers types ms) position ≡ Some j
    → (m : PlacedName) × (slice_get ms position ≡ Some m)
mention_in_row types [] position j found = absurd (none-some j found)
mention_in_row types (m ∷ ms) zero j found = (m, refl)
mention_in_row types (m ∷ ms) (suc position) j found = mention_in_row types ms position j found

mention_from : (types ts : List DeclaredType) (by position j : ℕ) → IsMention (rows_from types ts) by position j
    → (m : PlacedName) × (mention_at ts by position ≡ Some m)
mention_from types [] by position j found = absurd (none-some j found)
mention_from types (t ∷ ts) zero position j found = mention_in_row types (mentions_in t.body) position j found
mention_from types (t ∷ ts) (suc by) position j found = mention_from types ts by position j found

-- the mention that a number of the graph stands for
pub mention_of_number : (types : List DeclaredType) (by position : ℕ) → IsFirstMentionOnCycle (mention_graph types) by position
    → (m : PlacedName) × (mention_at types by position ≡ Some m)
mention_of_number types by position f = mention_from types types by position f.mentioned f.is_there

-- the mentions of a type that the code reads
pub mention_read : (types xs : List TypeText) (by position : ℕ) (d : TypeText) → xs ≡ types
    → IsFirstMentionOnCycle (mention_graph (declared_types_of types)) by position
    → mention_at (declared_types_of types) by position ≡ slice_get (mentions_in (type_body_of (get_or xs by d).body.now)) position
mention_read types xs by position d same f =
    subst
    (λ (ys : List TypeText). mention_at (declared_types_of types) by position
    ≡ slice_get (mentions_in (type_body_of (get_or ys by d).body.now)) position)
    (sym same)
    (ap (λ (o : Option DeclaredType). slice_get (mentions_of_type o) position)
    (at_map declared_type_of types by (get_or types by d) (slice_get-get_or types by d within)))
  where
    as_many : length (mention_graph (declared_types_of types)) ≡ length types
    as_many =
        length-map (declared_types_of types)
        (λ (t : DeclaredType). type_numbers (declared_types_of types) (mentions_in t.body))
        ∙ length-map types declared_type_of

    within : by < length types
    within =
        subst (λ (n : ℕ). by < n) as_many
        (mentioner_within (mention_graph (declared_types_of types)) by f.mentioned
        (among_at (mentioned_by (mention_graph (declared_types_of types)) by) position f.mentioned f.is_there))
