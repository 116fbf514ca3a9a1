-- The start values of a line are within the limits of the words.
use Rattle.std.proofs.Common.{refl, ap, sym, ◌∙◌, ◌≡◌, subst, arith, add-one, ℕ, zero, suc, ◌+◌, ◌-◌, ◌<◌, ◌≤◌, decimal, List, [], ◌∷◌, length, Option, None, Some, IsTrue, Bool, true, false, ◌&&◌, le-leb}
use Rattle.std.specs.Prelude.{nat_le, if◌then◌else◌, option_map}
use Rattle.std.specs.Str.{bytes_eq}
use Rattle.std.proofs.lemmas.Bool.{and_parts, leb-true}
use Rattle.std.proofs.lemmas.Option.{none-some, same_Some}
use Rattle.spec_acceptance.specs.HandedOn.{words_limit, word_bytes_limit, total_length, are_within}
use Rattle.spec_acceptance.specs.Acceptance.{Asked}
use Rattle.command_words.specs.Words.{CommandLine, Verb, check, session, demonstration, flattening_of, bisimilarity, compared_with, induction, induced_with, WordsBehind, words_behind, ends_files, file_before, cut_at_with, takes_words, asked_with_files, number_up_to, or_this, most_cells, cells_with, line_with, line_of_verb, verb_named, verbs, words_line, command_line, start_values_in}
use Rattle.command_words.specs.declared.commands.Task.{Task}
use Rattle.command_words.specs.declared.commands.Task.TheVariants as task

-- fewer words and bytes
record IsPart (words more : List (List ℕ)) : Type 0 where
  fewer : length words ≤ length more
  shorter : total_length words ≤ total_length more

no_part : (more : List (List ℕ)) → IsPart [] more
no_part more = record { fewer = omega arith; shorter = omega arith }

same_part : (more : List (List ℕ)) → IsPart more more
same_part more = record { fewer = omega arith; shorter = omega arith }

behind : (words more : List (List ℕ)) (word : List ℕ) → IsPart words more → IsPart words (word ∷ more)
behind words more word is = record {
  fewer = let n = is.fewer in omega (arith, n);
  shorter = let n = is.shorter in omega (arith, n);
}

part_within : (words more : List (List ℕ)) → IsPart words more → IsTrue (are_within more) → IsTrue (are_within words)
part_within words more is within =
    let both = and_parts (nat_le (length more) words_limit) (nat_le (total_length more) word_bytes_limit) within in
    ap (λ (b : Bool). b && nat_le (total_length words) word_bytes_limit)
    (le-leb (length words) words_limit
    (at_most (length words) (length more) words_limit is.fewer (leb-true (length more) words_limit both.0)))
    ∙ le-leb (total_length words) word_bytes_limit
    (at_most (total_length words) (total_length more) word_bytes_limit is.shorter (leb-true (total_length more) word_bytes_limit both.1))
  where
    at_most : (a b c : ℕ) → a ≤ b → b ≤ c → a ≤ c
    at_most a b c one other = omega (arith, one, other)

-- ---- The words behind a verb

cut_or : (b : Bool) (words more : List (List ℕ)) (cut : WordsBehind) → IsPart words more → IsPart cut.values more
    → (word : List ℕ) → IsPart (if b then words_behind [] true words else file_before word cut).values more
cut_or true words more cut one other word = one
cut_or false words more cut one other word = other

cut_part : (words : List (List ℕ)) → IsPart (cut_at_with words).values words
cut_part [] = no_part []
cut_part (word ∷ words) =
    cut_or (ends_files word) words (word ∷ words) (cut_at_with words) (behind words words word (same_part words))
    (behind (cut_at_with words).values words word (cut_part words)) word

-- ---- Those of a line

-- the start values that are asked for are those that are given
asked_values : (files values : List (List ℕ)) (asked : Asked) → asked_with_files files values ≡ Some asked → asked.values ≡ values
asked_values [] values asked is = absurd (none-some asked is)
asked_values (spec ∷ []) values asked is = ap (λ (it : Asked). it.values) (sym (same_Some _ asked is))
asked_values (spec ∷ order ∷ []) values asked is = ap (λ (it : Asked). it.values) (sym (same_Some _ asked is))
asked_values (spec ∷ order ∷ more ∷ files) values asked is = absurd (none-some asked is)

-- a line that is made of what is asked has the start values of that
of_asked : (make : Asked → CommandLine) (found : Option Asked) (values : List (List ℕ)) (line : CommandLine)
    → ((asked : Asked) → start_values_in (make asked) ≡ asked.values)
    → ((asked : Asked) → found ≡ Some asked → asked.values ≡ values) → option_map make found ≡ Some line → start_values_in line ≡ values
of_asked make None values line kept are is = absurd (none-some line is)
of_asked make (Some asked) values line kept are is =
    ap (λ (it : CommandLine). start_values_in it) (sym (same_Some (make asked) line is)) ∙ kept asked ∙ are asked refl

-- a line that is made without start values has none
of_none : {A : Type 0} (make : A → CommandLine) (found : Option A) (line : CommandLine) → ((a : A) → start_values_in (make a) ≡ [])
    → option_map make found ≡ Some line → start_values_in line ≡ []
of_none make None line none is = absurd (none-some line is)
of_none make (Some a) line none is = ap (λ (it : CommandLine). start_values_in it) (sym (same_Some (make a) line is)) ∙ none a

none_part : (words : List (List ℕ)) (line : CommandLine) → start_values_in line ≡ [] → IsPart (start_values_in line) words
none_part words line none = subst (λ (vs : List (List ℕ)). IsPart vs words) (sym none) (no_part words)

with_part : (work : Task) (files values words : List (List ℕ)) (line : CommandLine) → IsPart values words
    → line_with work files values ≡ Some line → IsPart (start_values_in line) words
with_part task.Check files values words line part is =
    subst (λ (vs : List (List ℕ)). IsPart vs words)
    (sym (of_asked check (asked_with_files files values) values line (λ asked. refl) (asked_values files values) is)) part
with_part task.Run files values words line part is =
    subst (λ (vs : List (List ℕ)). IsPart vs words)
    (sym (of_asked session (asked_with_files files values) values line (λ asked. refl) (asked_values files values) is)) part
with_part task.Demo files values words line part is =
    none_part words line (of_none demonstration (cells_with files) line (λ cells. refl) is)
with_part task.Flatten files values words line part is =
    none_part words line (of_none flattening_of (asked_with_files files values) line (λ asked. refl) is)
with_part task.Bisim files values words line part is =
    none_part words line (of_none bisimilarity (compared_with files) line (λ c. refl) is)
with_part task.Induct files values words line part is =
    none_part words line (of_none induction (induced_with files) line (λ i. refl) is)

-- what is there where a test holds
where_true : {A : Type 0} (b : Bool) (x : Option A) (a : A) → (if b then x else None) ≡ Some a → (IsTrue b) × (x ≡ Some a)
where_true true x a is = (refl, is)
where_true false x a is = absurd (none-some a is)

verb_part : (found : Option Verb) (words : List (List ℕ)) (line : CommandLine) → line_of_verb found words ≡ Some line
    → IsPart (start_values_in line) words
verb_part None words line is = absurd (none-some line is)
verb_part (Some verb) words line is =
    with_part verb.task_ (cut_at_with words).files (cut_at_with words).values words line (cut_part words)
    (where_true (takes_words verb (cut_at_with words)) _ line is).1

line_part : (words : List (List ℕ)) (line : CommandLine) → words_line words ≡ Some line → IsPart (start_values_in line) words
line_part [] line is = absurd (none-some line is)
line_part (word ∷ words) line is = behind (start_values_in line) words word (verb_part (verb_named word verbs) words line is)

pub values_within : (words : List (List ℕ)) (line : CommandLine) → command_line words ≡ Some line
    → IsTrue (are_within (start_values_in line))
values_within words line is =
    let found = where_true (are_within words) (words_line words) line is in
    part_within (start_values_in line) words (line_part words line found.1) found.0

-- ---- How many cells a word says

most_is : 64 ≡ most_cells
unfolding most_cells
most_is = refl

pub below_most : (n : ℕ) → n < 64 → n < most_cells
below_most n below = subst (λ (m : ℕ). n < m) most_is below

-- a word that says no number up to the most says none
pub none_said : (word : List ℕ) (n : ℕ) → n ≡ 64 → number_up_to n word ≡ None → None ≡ number_up_to most_cells word
none_said word n is none = sym (subst (λ (m : ℕ). number_up_to m word ≡ None) (is ∙ most_is) none)

-- a number that is found is found up to each later one
abbrev later : (more most : ℕ) → ℕ
later zero most = most
later (suc more) most = suc (later more most)

later_is : (more most : ℕ) → later more most ≡ more + most
later_is zero most = omega arith
later_is (suc more) most = let e = later_is more most in omega (arith, e)

found_later : (word : List ℕ) (most more found : ℕ) → number_up_to most word ≡ Some found
    → number_up_to (later more most) word ≡ Some found
found_later word most zero found is = is
found_later word most (suc more) found is =
    ap (λ (it : Option ℕ). or_this it (suc (later more most)) word) (found_later word most more found is)

-- the next number is said, or it is none of those up to it
pub said_next : (word : List ℕ) (before : ℕ) → number_up_to before word ≡ None → bytes_eq word (decimal (before + 1)) ≡ true
    → number_up_to (before + 1) word ≡ Some (before + 1)
said_next word before none is =
    let here : number_up_to (suc before) word ≡ (if bytes_eq word (decimal (suc before)) then Some (suc before) else None) =
    ap (λ (it : Option ℕ). or_this it (suc before) word) none in
    let same : before + 1 ≡ suc before = add-one before in
    subst (λ (n : ℕ). number_up_to n word ≡ Some n) (sym same)
    (here ∙ ap (λ (b : Bool). if b then Some (suc before) else None)
    (ap (λ (n : ℕ). bytes_eq word (decimal n)) (sym same) ∙ is))

pub said_up_to : (word : List ℕ) (before most : ℕ) → before < most → number_up_to before word ≡ None
    → bytes_eq word (decimal (before + 1)) ≡ true → number_up_to most word ≡ Some (before + 1)
said_up_to word before most within none is =
    let same = later_is (most - (before + 1)) (before + 1) in
    let rest : later (most - (before + 1)) (before + 1) ≡ most = omega (arith, within, same) in
    subst (λ (n : ℕ). number_up_to n word ≡ Some (before + 1)) rest
    (found_later word (before + 1) (most - (before + 1)) (before + 1) (said_next word before none is))
