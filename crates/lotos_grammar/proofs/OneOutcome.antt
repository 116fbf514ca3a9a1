-- What waits comes to one outcome.
use Rattle.std.proofs.Common.{refl, ap, sym, ◌∙◌, ◌≡◌, ◌⊎◌, inl, inr, subst, ℕ, List, [], ◌∷◌, ◌++◌, map, None, arith}
use Rattle.std.proofs.lemmas.Option.{none-some, same_Some}
use Rattle.std.proofs.lemmas.Bool.{both_ways}
use Rattle.lotos_base.specs.WrittenTerm.{PlacedName}
use Rattle.lotos_library.specs.Library.{library_text}
use Rattle.syntax_trees.specs.WrittenItem.{WrittenItem}
use Rattle.text_depth.specs.HandedOn.{IsTypesReading, IsTypesFault}
use Rattle.text_depth.proofs.HandedOn.{all_have_one_outcome}
use Rattle.lotos_grammar.specs.TextFault.{TextFault}
use Rattle.lotos_grammar.proofs.MisreadTexts.{never_misread, misread_once}
use Rattle.lotos_grammar.specs.Gathering.{next_text, library_file, Gathered, with_library, Waiting, item, GotFile, misread, GatheringOutcome, faulty, TextOf, shipped, in_file, IsMisread, GatheringStep, goes_on, stops, MentionComesTo, read_before, one_too_many, in_place, not_read, no_file, wanted_before_text, wanted_behind_text, Becomes, nothing_waits, a_type, mentions, then, ends, memory_ends}
use Rattle.lotos_grammar.specs.GatheringLaws.{Files, AreGotFrom, LacksFrom, OutcomesAreOne}

-- ---- Steps

abbrev pub StepLacks : Files → GatheringStep → Type 0
StepLacks got (goes_on so_far items) = Unit {0}
StepLacks got (stops outcome) = LacksFrom got outcome

abbrev IsGoing : GatheringStep → Type 0
IsGoing (goes_on so_far items) = Unit {0}
IsGoing (stops outcome) = ⊥

abbrev outcome_in : GatheringOutcome → GatheringStep → GatheringOutcome
outcome_in other (goes_on so_far items) = other
outcome_in other (stops outcome) = outcome

-- what comes of a step and what waits behind it
abbrev pub Goes : GatheringStep → List Waiting → List GotFile → GatheringOutcome → Type 0
Goes (goes_on next items) rest files outcome = Becomes next (map item items ++ rest) files outcome
Goes (stops stopped) rest files outcome = ⊥

-- the first of the files
pub front : (got : Files) (files later : List GotFile) → AreGotFrom got (files ++ later) → AreGotFrom got files
front got [] later all = tt
front got (file ∷ files) later all = (all.0, front got files later all.1)

pub back : (got : Files) (files later : List GotFile) → AreGotFrom got (files ++ later) → AreGotFrom got later
back got [] later all = all
back got (file ∷ files) later all = back got files later all.1

-- ---- The text of a library

abbrev file_of : List ℕ → List ℕ → GotFile
file_of name bytes = record { name = library_file name; bytes = bytes }

pub text_one : (got : Files) {name : List ℕ} {files others : List GotFile} {one other : List ℕ} →
    TextOf name files one → TextOf name others other → AreGotFrom got files → AreGotFrom got others →
    (files ≡ others) × (one ≡ other)
text_one got {one = one} {other = other} (shipped e) (shipped f) all both = (refl, same_Some one other (sym e ∙ f))
text_one got {one = one} (shipped e) (in_file f) all both = absurd (none-some one (sym f ∙ e))
text_one got {other = other} (in_file e) (shipped f) all both = absurd (none-some other (sym e ∙ f))
text_one got {name = name} {one = one} {other = other} (in_file e) (in_file f) all both =
    let same : one ≡ other = same_Some one other (sym all.0 ∙ both.0) in
    (ap (λ (text : List ℕ). file_of name text ∷ []) same, same)

-- a library's file is not missing where it was got
pub text_there : (got : Files) {name : List ℕ} {files : List GotFile} {text : List ℕ} →
    TextOf name files text → AreGotFrom got files → library_text name ≡ None → got (library_file name) ≡ None → ⊥
text_there got {text = text} (shipped e) all none missing = none-some text (sym none ∙ e)
text_there got {text = text} (in_file e) all none missing = none-some text (sym missing ∙ all.0)

-- ---- The tree of a text, or its fault

items_one : (number : ℕ) (text other : List ℕ) (items others : List WrittenItem) → text ≡ other →
    IsTypesReading number text items → IsTypesReading number other others → items ≡ others
items_one number text other items others same is also =
    all_have_one_outcome.items.one_tree number text items others is
    (subst (λ (t : List ℕ). IsTypesReading number t others) (sym same) also)

never_both : (number : ℕ) (text other : List ℕ) (items : List WrittenItem) (fault : TextFault) → text ≡ other →
    IsTypesReading number text items → IsMisread number other fault → ⊥
never_both number text other items fault same is not =
    never_misread IsTypesReading IsTypesFault all_have_one_outcome.items number text items fault is
    (subst (λ (t : List ℕ). IsMisread number t fault) (sym same) not)

fault_one : (number : ℕ) (text other : List ℕ) (fault also : TextFault) → text ≡ other →
    IsMisread number text fault → IsMisread number other also → fault ≡ also
fault_one number text other fault also same is too =
    misread_once IsTypesReading IsTypesFault all_have_one_outcome.items number text fault also is
    (subst (λ (t : List ℕ). IsMisread number t also) (sym same) too)

-- ---- A mention

abbrev stopped_at : Gathered → PlacedName → TextFault → GatheringStep
stopped_at so_far at fault = stops (faulty (with_library at.name so_far).read (misread (next_text so_far.read) fault))

pub mentioned_one : (got : Files) {so_far : Gathered} {at : PlacedName} {files others : List GotFile} {one other : GatheringStep} →
    MentionComesTo so_far at files one → MentionComesTo so_far at others other → AreGotFrom got files → AreGotFrom got others →
    StepLacks got one → StepLacks got other → (files ≡ others) × (one ≡ other)
mentioned_one got (read_before h) (read_before k) all both lack lacks = (refl, refl)
mentioned_one got (read_before h) (one_too_many k past) all both lack lacks = absurd (both_ways _ k h)
mentioned_one got (read_before h) (in_place next text is) all both lack lacks = absurd (both_ways _ next.new h)
mentioned_one got (read_before h) (not_read next text is) all both lack lacks = absurd (both_ways _ next.new h)
mentioned_one got (read_before h) (no_file next none) all both lack lacks = absurd (both_ways _ next.new h)
mentioned_one got (one_too_many h past) (read_before k) all both lack lacks = absurd (both_ways _ h k)
mentioned_one got (one_too_many h past) (one_too_many k also) all both lack lacks = (refl, refl)
mentioned_one got (one_too_many h past) (in_place next text is) all both lack lacks = absurd (let w = next.within in omega arith)
mentioned_one got (one_too_many h past) (not_read next text is) all both lack lacks = absurd (let w = next.within in omega arith)
mentioned_one got (one_too_many h past) (no_file next none) all both lack lacks = absurd (let w = next.within in omega arith)
mentioned_one got (in_place next text is) (read_before k) all both lack lacks = absurd (both_ways _ next.new k)
mentioned_one got (in_place next text is) (one_too_many k past) all both lack lacks = absurd (let w = next.within in omega arith)
mentioned_one got {so_far = so_far} {at = at} (in_place {items = items} next text is)
    (in_place {items = others} also other too) all both lack lacks =
    let same = text_one got text other all both in (
      same.0,
      ap (λ (i : List WrittenItem). goes_on (with_library at.name so_far) i)
          (items_one (next_text so_far.read) _ _ items others same.1 is too),
    )
mentioned_one got {so_far = so_far} (in_place {items = items} next text is) (not_read {fault = fault} also other not) all both lack lacks =
    absurd (never_both (next_text so_far.read) _ _ items fault (text_one got text other all both).1 is not)
mentioned_one got (in_place next text is) (no_file also none) all both lack lacks = absurd (text_there got text all none lacks)
mentioned_one got (not_read next text is) (read_before k) all both lack lacks = absurd (both_ways _ next.new k)
mentioned_one got (not_read next text is) (one_too_many k past) all both lack lacks = absurd (let w = next.within in omega arith)
mentioned_one got {so_far = so_far} (not_read {fault = fault} next text not) (in_place {items = items} also other is) all both lack lacks =
    absurd (never_both (next_text so_far.read) _ _ items fault (sym (text_one got text other all both).1) is not)
mentioned_one got {so_far = so_far} {at = at} (not_read {fault = fault} next text not)
    (not_read {fault = also} other its too) all both lack lacks =
    let same = text_one got text its all both in
    (same.0, ap (λ (f : TextFault). stopped_at so_far at f) (fault_one (next_text so_far.read) _ _ fault also same.1 not too))
mentioned_one got (not_read next text not) (no_file also none) all both lack lacks = absurd (text_there got text all none lacks)
mentioned_one got (no_file next none) (read_before k) all both lack lacks = absurd (both_ways _ next.new k)
mentioned_one got (no_file next none) (one_too_many k past) all both lack lacks = absurd (let w = next.within in omega arith)
mentioned_one got (no_file next none) (in_place also text is) all both lack lacks = absurd (text_there got text both none lack)
mentioned_one got (no_file next none) (not_read also text is) all both lack lacks = absurd (text_there got text both none lack)
mentioned_one got (no_file next none) (no_file also too) all both lack lacks = (refl, refl)
mentioned_one got wanted_before_text n all both lack lacks = absurd lack
mentioned_one got (wanted_behind_text next text) n all both lack lacks = absurd lack
mentioned_one got m wanted_before_text all both lack lacks = absurd lacks
mentioned_one got m (wanted_behind_text next text) all both lack lacks = absurd lacks

-- ---- All that waits

pub joined : {f g l m : List GotFile} → f ≡ g → l ≡ m → f ++ l ≡ g ++ m
joined {f = f} {m = m} e h = ap (λ (x : List GotFile). f ++ x) h ∙ ap (λ (x : List GotFile). x ++ m) e

outcome_one : {one other : GatheringOutcome} → stops one ≡ stops other → one ≡ other
outcome_one {one = one} e = ap (λ (s : GatheringStep). outcome_in one s) e

pub going : (next : Gathered) (items : List WrittenItem) (outcome : GatheringOutcome) → goes_on next items ≡ stops outcome → ⊥
going next items outcome e = subst (λ (s : GatheringStep). IsGoing s) e tt

becomes_one : (got : Files) {so_far : Gathered} {waiting : List Waiting} {files others : List GotFile} {one other : GatheringOutcome} →
    Becomes so_far waiting files one → Becomes so_far waiting others other → AreGotFrom got files → AreGotFrom got others →
    LacksFrom got one → LacksFrom got other → (files ≡ others) × (one ≡ other)
becomes_one got (nothing_waits so_far) (nothing_waits _) all both lack lacks = (refl, refl)
becomes_one got (a_type is) (a_type also) all both lack lacks = becomes_one got is also all both lack lacks
becomes_one got (mentions is) (mentions also) all both lack lacks = becomes_one got is also all both lack lacks
becomes_one got (then {next = next} {rest = rest} {files = f} {later = l} {items = items} m is)
    (then {files = g} {later = k} {outcome = outcome} n also) all both lack lacks =
    let first = mentioned_one got m n (front got f l all) (front got g k both) tt tt in
    let later = becomes_one got is (subst (λ (s : GatheringStep). Goes s rest k outcome) (sym first.1) also)
    (back got f l all) (back got g k both) lack lacks in
    (joined first.0 later.0, later.1)
becomes_one got (then {files = f} {later = l} m is) (ends n) all both lack lacks =
    absurd (going _ _ _ (mentioned_one got m n (front got f l all) both tt lacks).1)
becomes_one got (ends m) (then {files = g} {later = k} n also) all both lack lacks =
    absurd (going _ _ _ (sym (mentioned_one got m n all (front got g k both) lack tt).1))
becomes_one got (ends m) (ends n) all both lack lacks =
    let same = mentioned_one got m n all both lack lacks in (same.0, outcome_one same.1)
becomes_one got (memory_ends so_far waiting) also all both lack lacks = absurd lack
becomes_one got is (memory_ends so_far waiting) all both lack lacks = absurd lacks

pub outcomes_are_one : OutcomesAreOne
outcomes_are_one got so_far waiting files others one other is also =
    becomes_one got is.becomes also.becomes is.got_files also.got_files is.lacks also.lacks
