-- The text of a functionality: `noexit`, `exit`, or `exit(S, T)`.
use Rattle.std.specs.Prelude.{ℕ, List, [], ◌∷◌, ◌++◌, map, Option, None, Some, codes}
use Rattle.lotos_base.specs.Signature.{Signature}
use Rattle.printed_texts.specs.Brackets.{round, commas}
use Rattle.printed_texts.specs.TermText.{sort_text}

-- sorts in brackets, if there are some
abbrev pub sorts_text : Signature → List ℕ → List ℕ
sorts_text signature [] = []
sorts_text signature (sort ∷ sorts) = round (commas (map (sort_text signature) (sort ∷ sorts)))

abbrev pub functionality_text : Signature → Option (List ℕ) → List ℕ
functionality_text signature None = codes "noexit"
functionality_text signature (Some sorts) = codes "exit" ++ sorts_text signature sorts
