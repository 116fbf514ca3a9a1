-- What is done in the end: a text is printed, and the run ends with a status; or the lines of a session are served. And the texts
-- that end a run where a file could not be got or a specification is refused.
use Rattle.std.specs.Prelude.{ℕ, List, [], Option, Some, None}
use Rattle.command_words.specs.HandedOn.{Refused, refusal_text}
use Rattle.demo_walks.specs.HandedOn.{unread_text, Beginning}
use Rattle.certificate_verbs.specs.declared.ended.Ended.{Ended}
use Rattle.certificate_verbs.specs.declared.ended.Ended.TheVariants.{SpecRefused, FileFault}

-- a text that is printed with nothing behind it, and how the run ends then
pub record Print : Type 0 where
  pub text : List ℕ
  pub status : Ended

abbrev pub print : List ℕ → Ended → Print
print text status = record { text = text; status = status }

-- what is done in the end
pub data Finish : Type 0 where
  prints : Print → Finish
  serves : Beginning → Finish

-- ---- Texts that end a run

-- the line of a file that could not be got
abbrev pub unread_printed : List ℕ → Print
unread_printed name = print (unread_text name) FileFault

-- the line of a refusal, where the specification was asked for by this word, and the order file by that one
abbrev pub word_or_none : Option (List ℕ) → List ℕ
word_or_none None = []
word_or_none (Some word) = word

abbrev pub refusal_printed : (spec : List ℕ) (order : Option (List ℕ)) → Refused → Print
refusal_printed spec order r = print (refusal_text spec (word_or_none order) r) SpecRefused
