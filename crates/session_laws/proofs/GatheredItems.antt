-- What the items of a text and of the libraries have, the items that are gathered have.
use Rattle.std.proofs.Common.{◌≡◌, ℕ, List, [], ◌∷◌, ◌++◌, map, refl, subst}
use Rattle.lotos_base.specs.WrittenTerm.{PlacedName}
use Rattle.syntax_trees.specs.WrittenItem.{WrittenItem, type_declared}
use Rattle.tree_building.specs.Reading.{IsTypesReading}
use Rattle.lotos_top.specs.HandedOn.{GotFile, Gathered, nothing_yet, with_type, Waiting, item, mention, GatheringOutcome, all_gathered, faulty, without_file, memory_wanted, MentionComesTo, read_before, one_too_many, in_place, not_read, no_file, wanted_before_text, wanted_behind_text, gathering_goes_on as goes_on, gathering_stops as stops, Becomes, nothing_waits, a_type, mentions, then, ends, memory_ends}
use Rattle.behaviour_semantics.specs.WellFormed.{Every}
use Rattle.behaviour_semantics.proofs.ListLemmas.{Every-append}

stopped : (so_far : Gathered) (at : PlacedName) (files : List GotFile) (outcome : GatheringOutcome)
    → MentionComesTo so_far at files (stops outcome) → (gathered : Gathered) → outcome ≡ all_gathered gathered → ⊥
stopped so_far at _ _ (one_too_many known many) gathered is = cc is
stopped so_far at files _ (not_read next text_is misread) gathered is = cc is
stopped so_far at _ _ (no_file next none) gathered is = cc is
stopped so_far at _ _ wanted_before_text gathered is = cc is
stopped so_far at files _ (wanted_behind_text next text_is) gathered is = cc is

-- something that the items of each library have
module _ (Has : WrittenItem → Type 0)
    (in_libraries : (number : ℕ) (text : List ℕ) (items : List WrittenItem) → IsTypesReading number text items → Every Has items) where
  abbrev WaitingHas : Waiting → Type 0
  WaitingHas (item it) = Has it
  WaitingHas (mention at) = Unit {0}

  items_wait : (items : List WrittenItem) → Every Has items → Every WaitingHas (map item items)
  items_wait [] all = tt
  items_wait (it ∷ items) all = (all.0, items_wait items all.1)

  mentions_wait : (names : List PlacedName) → Every WaitingHas (map mention names)
  mentions_wait [] = tt
  mentions_wait (name ∷ names) = (tt, mentions_wait names)

  abbrev OutcomeHas : GatheringOutcome → Type 0
  OutcomeHas (all_gathered gathered) = Every Has gathered.types
  OutcomeHas (faulty read problem) = Unit {0}
  OutcomeHas (without_file read file) = Unit {0}
  OutcomeHas memory_wanted = Unit {0}

  record NextHas (next : Gathered) (coming : List WrittenItem) : Type 0 where
    pub types : Every Has next.types
    pub items : Every Has coming

  mention_has : (so_far next : Gathered) (at : PlacedName) (files : List GotFile) (items : List WrittenItem) → Every Has so_far.types
      → MentionComesTo so_far at files (goes_on next items) → NextHas next items
  mention_has so_far _ at _ _ types (read_before is) = record { types = types; items = tt }
  mention_has so_far _ at files items types (in_place {text = text} next text_is reading) =
      record { types = types; items = in_libraries _ text items reading }

  gathered_have : (so_far : Gathered) (waiting : List Waiting) (files : List GotFile) (outcome : GatheringOutcome)
      → Becomes so_far waiting files outcome → Every Has so_far.types → Every WaitingHas waiting
      → (gathered : Gathered) → outcome ≡ all_gathered gathered → Every Has gathered.types
  gathered_have so_far _ _ _ (nothing_waits _) types waiting gathered is = subst OutcomeHas is types
  gathered_have so_far _ files outcome (a_type {place = place} {name = name} {body = body} {rest = rest} more) types waiting gathered is =
      gathered_have (with_type (type_declared place name body) so_far) rest files outcome more
      (Every-append Has so_far.types (type_declared place name body ∷ []) types (waiting.0, tt)) waiting.1 gathered is
  gathered_have so_far _ files outcome (mentions {names = names} {rest = rest} more) types waiting gathered is =
      gathered_have so_far (map mention names ++ rest) files outcome more types
      (Every-append WaitingHas (map mention names) rest (mentions_wait names) waiting.1) gathered is
  gathered_have so_far _ _ outcome
      (then {next = next} {at = at} {rest = rest} {files = files} {later = later} {items = items} comes more) types waiting gathered is =
      let found = mention_has so_far next at files items types comes in
      gathered_have next (map item items ++ rest) later outcome more found.types
      (Every-append WaitingHas (map item items) rest (items_wait items found.items) waiting.1) gathered is
  gathered_have so_far _ files outcome (ends {at = at} comes) types waiting gathered is =
      absurd (stopped so_far at files outcome comes gathered is)
  gathered_have so_far waiting _ _ (memory_ends _ _) types all gathered is = absurd (cc is)

  -- what is gathered of these items, and of the libraries that they mention
  pub all_have : (items : List WrittenItem) (files : List GotFile) (gathered : Gathered) → Every Has items
      → Becomes nothing_yet (map item items) files (all_gathered gathered) → Every Has gathered.types
  all_have items files gathered all becomes =
      gathered_have nothing_yet (map item items) files (all_gathered gathered) becomes tt (items_wait items all) gathered refl
