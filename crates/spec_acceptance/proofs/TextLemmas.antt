-- The parts that get and read texts are determined.
use Rattle.std.proofs.Common.{refl, ap, sym, ◌∙◌, ◌≡◌, subst, ℕ, List, [], ◌∷◌, map, Option, None, Some}
use Rattle.std.proofs.lemmas.Option.{none-some, same_Some}
use Rattle.syntax_trees.specs.WrittenDefinition.{WrittenSpecification}
use Rattle.syntax_trees.specs.TakenItems.{items_of_specification}
use Rattle.refusal_lines.specs.HandedOn.{TextIsMisread, GotFile, Gathered, nothing_yet, item, Becomes, GatheringOutcome, all_gathered}
use Rattle.refusal_lines.specs.HandedOn.{faulty, without_file, memory_wanted, Files, AreGotFrom, LacksFrom, ComesFrom}
use Rattle.refusal_lines.specs.HandedOn.{IsSpecificationReading, IsSpecificationFault, IsOrderReading, IsOrderReadFault, HasOneOutcome}
use Rattle.refusal_lines.specs.HandedOn.{ReadFault}
use Rattle.refusal_lines.specs.Refusal.{Refusal, Refused}
use Rattle.refusal_lines.proofs.HandedOn.{never_misread, misread_once, outcomes_are_one, wanted_files_come_first, all_have_one_outcome}
use Rattle.spec_acceptance.specs.Ending.{at_first}
use Rattle.spec_acceptance.specs.Part.{Comes, goes_on, unread, stops, wants_memory}
use Rattle.spec_acceptance.specs.PartLaws.{Lacks, IsDetermined, WantsBehindFirst, IsDecided}
use Rattle.spec_acceptance.specs.Texts.{GetsFile, is_got, is_lacking, is_wanting, text_told, ReadsSpecification, comes_of, Gathers, ReadsOrder, Orders}
use Rattle.spec_acceptance.proofs.PartLemmas.{has_determined, looks_determined, then_determined, nothing_first, has_wants, looks_wants, then_wants}

-- ---- A file

abbrev file_named : List ℕ → List ℕ → GotFile
file_named name bytes = record { name = name; bytes = bytes }

gets_one : {E : Type 0} (got : Files) {name : List ℕ} {files others : List GotFile} {one other : Comes E (List ℕ)} →
    GetsFile name files one → GetsFile name others other → AreGotFrom got files → AreGotFrom got others →
    Lacks got one → Lacks got other → (files ≡ others) × (one ≡ other)
gets_one got {name = name} (is_got bytes) (is_got also) all both lack lacks =
    let same : bytes ≡ also = same_Some bytes also (sym all.0 ∙ both.0) in
    (ap (λ (b : List ℕ). file_named name b ∷ []) same, ap (λ (b : List ℕ). goes_on b) same)
gets_one got (is_got bytes) is_lacking all both lack lacks = absurd (none-some bytes (sym lacks ∙ all.0))
gets_one got (is_got bytes) is_wanting all both lack lacks = absurd lacks
gets_one got is_lacking (is_got bytes) all both lack lacks = absurd (none-some bytes (sym lack ∙ both.0))
gets_one got is_lacking is_lacking all both lack lacks = (refl, refl)
gets_one got is_lacking is_wanting all both lack lacks = absurd lacks
gets_one got is_wanting also all both lack lacks = absurd lack

pub gets_determined : {E : Type 0} (name : List ℕ) (got : Files) → IsDetermined {E = E} got (GetsFile name)
gets_determined name got files others one other is also all both lack lacks = gets_one got is also all both lack lacks

wants_nothing_yet : {E : Type 0} {name : List ℕ} {files : List GotFile} → GetsFile {E = E} name files wants_memory → files ≡ []
wants_nothing_yet is_wanting = refl

pub gets_wants : {E : Type 0} (name : List ℕ) (got : Files) → WantsBehindFirst {E = E} got (GetsFile name)
gets_wants name got files others comes is also all both lacks = nothing_first files others (wants_nothing_yet is)

-- ---- A text

pub reading_decided : {A : Type 0} (IsTree : ℕ → List ℕ → A → Type 0) (IsFault : ℕ → List ℕ → ReadFault → Type 0) (number : ℕ)
    (text : List ℕ) → HasOneOutcome IsTree IsFault → IsDecided (IsTree number text) (TextIsMisread IsFault number text)
reading_decided IsTree IsFault number text one = record {
  one_value = λ b c is also. one.one_tree number text b c is also;
  not_both = λ b found is not. never_misread IsTree IsFault one number text b found is not;
  one_fault = λ found other is also. misread_once IsTree IsFault one number text found other is also;
}

pub reads_determined : (text : List ℕ) (got : Files) → IsDetermined got (ReadsSpecification text)
reads_determined text got =
    looks_determined (IsSpecificationReading 0 text) (TextIsMisread IsSpecificationFault 0 text) (text_told at_first 0) got
    (reading_decided IsSpecificationReading IsSpecificationFault 0 text all_have_one_outcome.specification)

pub reads_wants : (text : List ℕ) (got : Files) → WantsBehindFirst got (ReadsSpecification text)
reads_wants text got =
    looks_wants (IsSpecificationReading 0 text) (TextIsMisread IsSpecificationFault 0 text) (text_told at_first 0) got

-- ---- The libraries

lacks_too : (got : Files) (outcome : GatheringOutcome) → Lacks got (comes_of outcome) → LacksFrom got outcome
lacks_too got (all_gathered gathered) lacks = tt
lacks_too got (faulty read problem) lacks = tt
lacks_too got (without_file read file) lacks = lacks
lacks_too got memory_wanted lacks = absurd lacks

abbrev IsWanting : {E B : Type 0} → Comes E B → Type 0
IsWanting (goes_on b) = ⊥
IsWanting (unread name) = ⊥
IsWanting (stops e) = ⊥
IsWanting wants_memory = Unit {0}

wanting_outcome : (outcome : GatheringOutcome) → IsWanting (comes_of outcome) → outcome ≡ memory_wanted
wanting_outcome (all_gathered gathered) is = absurd is
wanting_outcome (faulty read problem) is = absurd is
wanting_outcome (without_file read file) is = absurd is
wanting_outcome memory_wanted is = refl

module _ (tree : WrittenSpecification) (got : Files) where
  comes_from : (files : List GotFile) (outcome : GatheringOutcome) (comes : Comes Refused Gathered)
      → Becomes nothing_yet (map item (items_of_specification tree)) files outcome → comes ≡ comes_of outcome
      → AreGotFrom got files → Lacks got comes → ComesFrom got nothing_yet (map item (items_of_specification tree)) files outcome
  comes_from files outcome comes is same all lacks = record {
    becomes = is;
    got_files = all;
    lacks = lacks_too got outcome (subst (λ (c : Comes Refused Gathered). Lacks got c) same lacks);
  }

  pub gathers_determined : IsDetermined got (Gathers tree)
  gathers_determined files others one other is also all both lack lacks =
      let same = outcomes_are_one got nothing_yet (map item (items_of_specification tree)) files others is.0 also.0
      (comes_from files is.0 one is.1 is.2 all lack) (comes_from others also.0 other also.1 also.2 both lacks) in
      (same.0, is.2 ∙ ap comes_of same.1 ∙ sym also.2)

  pub gathers_wants : WantsBehindFirst got (Gathers tree)
  gathers_wants files others comes is also all both lacks =
      let wanting : is.0 ≡ memory_wanted
      = wanting_outcome is.0 (subst (λ (c : Comes Refused Gathered). IsWanting c) is.2 tt) in
      wanted_files_come_first got nothing_yet (map item (items_of_specification tree)) files others also.0
      (subst (λ (o : GatheringOutcome). Becomes nothing_yet (map item (items_of_specification tree)) files o) wanting is.1) all
      (comes_from others also.0 comes also.1 also.2 both lacks)

-- ---- The order file

pub orders_determined : (known : Refusal → Refused) (order : Option (List ℕ)) (got : Files) → IsDetermined got (Orders known order)
orders_determined known None got = has_determined [] got
orders_determined known (Some name) got =
    then_determined (GetsFile name) (ReadsOrder known) got (gets_determined name got) (λ text f is.
    looks_determined (IsOrderReading 1 text) (TextIsMisread IsOrderReadFault 1 text) (text_told known 1) got
    (reading_decided IsOrderReading IsOrderReadFault 1 text all_have_one_outcome.order))

pub orders_wants : (known : Refusal → Refused) (order : Option (List ℕ)) (got : Files) → WantsBehindFirst got (Orders known order)
orders_wants known None got = has_wants [] got
orders_wants known (Some name) got =
    then_wants (GetsFile name) (ReadsOrder known) got (gets_determined name got) (gets_wants name got) (λ text f is.
    looks_wants (IsOrderReading 1 text) (TextIsMisread IsOrderReadFault 1 text) (text_told known 1) got)
