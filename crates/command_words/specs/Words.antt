-- The lines of words that the program takes: the table of verbs, and what a verb asks for with the words behind it.
use Rattle.std.specs.Prelude.{ℕ, zero, suc, Bool, true, false, not, ◌&&◌, ◌||◌, List, [], ◌∷◌, ◌++◌, length, nat_le, codes, decimal, if◌then◌else◌, Option, Some, None, option_map}
use Rattle.std.specs.Str.{bytes_eq}
use Rattle.spec_acceptance.specs.HandedOn.{words_of, are_within}
use Rattle.spec_acceptance.specs.Acceptance.{Asked}
use Rattle.spec_acceptance.specs.AcceptedView.{asked_acceptance}
use Rattle.command_words.specs.declared.commands.Command.{Command}
use Rattle.command_words.specs.declared.commands.Command.TheVariants.{Check, Run, Demo, Flatten, Bisim, Induct}
use Rattle.command_words.specs.declared.commands.Behind.{Behind}
use Rattle.command_words.specs.declared.commands.Files.{Files}
use Rattle.command_words.specs.declared.commands.Task.{Task}
use Rattle.command_words.specs.declared.commands.Task.TheVariants as task
use Rattle.command_words.specs.declared.commands.Verb.{Verb as CodeVerb}

-- the names of two specifications, and of a certificate of bisimulation
pub record Compared : Type 0 where
  pub spec : List ℕ
  pub other : List ℕ
  pub pairs : List ℕ

abbrev pub compared_files : (spec other pairs : List ℕ) → Compared
compared_files spec other pairs = record { spec = spec; other = other; pairs = pairs }

-- the names of a specification and of a certificate of induction
pub record Induced : Type 0 where
  pub spec : List ℕ
  pub proofs : List ℕ

abbrev pub induced : (spec proofs : List ℕ) → Induced
induced spec proofs = record { spec = spec; proofs = proofs }

-- a line of words
pub data CommandLine : Type 0 where
  check : Asked → CommandLine
  session : Asked → CommandLine
  demonstration : (cells : ℕ) → CommandLine
  flattening : (spec : List ℕ) (order : Option (List ℕ)) → CommandLine
  bisimilarity : Compared → CommandLine
  induction : Induced → CommandLine

-- A verb: the first word of a line. It has its word, the fewest and the most words that may stand behind it up to `with`, whether
-- `with` and start values may stand behind these, and its task.
pub record Verb : Type 0 where
  pub word : List ℕ
  pub least : ℕ
  pub most : ℕ
  pub takes_values : Bool
  pub task_ : Task

abbrev pub verb_row : (word : List ℕ) (least most : ℕ) (takes_values : Bool) (task_ : Task) → Verb
verb_row word least most takes_values task_ =
    record { word = word; least = least; most = most; takes_values = takes_values; task_ = task_ }

-- the table of the verbs
abbrev pub verbs : List Verb
verbs =
    verb_row (codes "check") 1 2 true task.Check
    ∷ verb_row (codes "run") 1 2 true task.Run
    ∷ verb_row (codes "demo") 1 1 false task.Demo
    ∷ verb_row (codes "flatten") 1 2 false task.Flatten
    ∷ verb_row (codes "bisim") 3 3 false task.Bisim
    ∷ verb_row (codes "induct") 2 2 false task.Induct
    ∷ []

-- the line that says what may stand behind each verb
abbrev pub usage_text : List ℕ
usage_text =
    codes "usage: lotos check SPEC [ORDER] [with TERM...] | run SPEC [ORDER] [with TERM...] | demo N | flatten SPEC [ORDER]"
    ++ codes " | bisim SPEC OTHER PAIRS | induct SPEC PROOFS\n"

-- ---- The words behind a verb

-- the words up to `with`, whether it is there, and the start values behind it
pub record WordsBehind : Type 0 where
  pub files : List (List ℕ)
  pub has_with : Bool
  pub values : List (List ℕ)

abbrev pub words_behind : List (List ℕ) → Bool → List (List ℕ) → WordsBehind
words_behind files has_with values = record { files = files; has_with = has_with; values = values }

-- a word before those that are cut, or `with`
abbrev pub ends_files : List ℕ → Bool
ends_files word = bytes_eq word (codes "with")

abbrev pub file_before : List ℕ → WordsBehind → WordsBehind
file_before word behind = words_behind (word ∷ behind.files) behind.has_with behind.values

abbrev pub cut_at_with : List (List ℕ) → WordsBehind
cut_at_with [] = words_behind [] false []
cut_at_with (word ∷ words) = if ends_files word then words_behind [] true words else file_before word (cut_at_with words)

-- the verb has so many words behind it as it may have, and start values only where it takes them
abbrev pub takes_words : Verb → WordsBehind → Bool
takes_words verb behind =
    nat_le verb.least (length behind.files) && nat_le (length behind.files) verb.most && (verb.takes_values || not behind.has_with)

-- ---- What a verb asks for

-- the names of the specification's file and of the order file, if there is one, and the start values
abbrev pub asked_with_files : (files values : List (List ℕ)) → Option Asked
asked_with_files (spec ∷ []) values = Some (asked_acceptance spec None values)
asked_with_files (spec ∷ order ∷ []) values = Some (asked_acceptance spec (Some order) values)
asked_with_files files values = None

-- the number up to this one whose decimal form the word is, from 1
abbrev pub or_this : Option ℕ → ℕ → List ℕ → Option ℕ
or_this (Some found) number word = Some found
or_this None number word = if bytes_eq word (decimal number) then Some number else None

abbrev pub number_up_to : ℕ → List ℕ → Option ℕ
number_up_to zero word = None
number_up_to (suc most) word = or_this (number_up_to most word) (suc most) word

-- the most cells of a demonstration, and how many a word says
unfoldable pub most_cells : ℕ
most_cells = 64

abbrev pub cells_said : List ℕ → Option ℕ
cells_said word = number_up_to most_cells word

-- the number of cells that is said by the one word there is
abbrev pub cells_with : (files : List (List ℕ)) → Option ℕ
cells_with (word ∷ []) = cells_said word
cells_with files = None

-- the names alone, for a line without start values
abbrev pub flattening_of : Asked → CommandLine
flattening_of asked = flattening asked.spec asked.order

-- the three names, in their order
abbrev pub compared_with : (files : List (List ℕ)) → Option Compared
compared_with (spec ∷ other ∷ pairs ∷ []) = Some (compared_files spec other pairs)
compared_with files = None

-- the two names, in their order
abbrev pub induced_with : (files : List (List ℕ)) → Option Induced
induced_with (spec ∷ proofs ∷ []) = Some (induced spec proofs)
induced_with files = None

-- the line of a task with these files and start values
abbrev pub line_with : Task → (files values : List (List ℕ)) → Option CommandLine
line_with task.Check files values = option_map check (asked_with_files files values)
line_with task.Run files values = option_map session (asked_with_files files values)
line_with task.Demo files values = option_map demonstration (cells_with files)
line_with task.Flatten files values = option_map flattening_of (asked_with_files files values)
line_with task.Bisim files values = option_map bisimilarity (compared_with files)
line_with task.Induct files values = option_map induction (induced_with files)

-- ---- The line

-- the verb with this word
abbrev pub verb_named : List ℕ → List Verb → Option Verb
verb_named word [] = None
verb_named word (verb ∷ verbs) = if bytes_eq word verb.word then Some verb else verb_named word verbs

-- the line of a verb with the words behind it, if it takes them
abbrev pub line_of_cut : Verb → WordsBehind → Option CommandLine
line_of_cut verb behind = if takes_words verb behind then line_with verb.task_ behind.files behind.values else None

abbrev pub line_of_verb : Option Verb → List (List ℕ) → Option CommandLine
line_of_verb None words = None
line_of_verb (Some verb) words = line_of_cut verb (cut_at_with words)

-- the line that the words are, if they are one
abbrev pub words_line : List (List ℕ) → Option CommandLine
words_line [] = None
words_line (word ∷ words) = line_of_verb (verb_named word verbs) words

-- the line that the words of a command are, if they are one and within the limits
abbrev pub command_line : List (List ℕ) → Option CommandLine
command_line words = if are_within words then words_line words else None

-- the start values of a line
abbrev pub start_values_in : CommandLine → List (List ℕ)
start_values_in (check asked) = asked.values
start_values_in (session asked) = asked.values
start_values_in (demonstration cells) = []
start_values_in (flattening spec order) = []
start_values_in (bisimilarity c) = []
start_values_in (induction i) = []

-- ---- What the code has

-- what names of files and start values of the code ask for
abbrev pub asked_by : Files → Asked
asked_by files = asked_acceptance files.spec.now (option_map (λ name. name.now) files.order) (words_of files.values.now)

-- what a verb of the code is
abbrev pub verb_of : CodeVerb → Verb
verb_of verb = verb_row verb.word.now verb.least verb.most verb.takes_values verb.task

-- what a command of the code is as a line
abbrev pub command_line_of : Command → CommandLine
command_line_of (Check spec order values) = check (asked_acceptance spec.now (option_map (λ name. name.now) order) (words_of values.now))
command_line_of (Run spec order values) = session (asked_acceptance spec.now (option_map (λ name. name.now) order) (words_of values.now))
command_line_of (Demo cells) = demonstration cells
command_line_of (Flatten spec order) = flattening spec.now (option_map (λ name. name.now) order)
command_line_of (Bisim spec other pairs) = bisimilarity (compared_files spec.now other.now pairs.now)
command_line_of (Induct spec proofs) = induction (induced spec.now proofs.now)

-- the words behind a verb of the code
abbrev pub behind_by : Behind → WordsBehind
behind_by behind = words_behind (words_of behind.files.now) behind.has_with (words_of behind.values.now)
