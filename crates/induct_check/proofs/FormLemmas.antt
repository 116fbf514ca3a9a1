-- The texts in a form are no longer than the line.
use Rattle.std.proofs.Common.{◌<◌, ◌+◌, ◌^◌, ◌==◌, ℕ, suc, List, [], ◌∷◌, Bool, true, false, Option, None, Some, MatchOption, length, codes, if◌then◌else◌, arith, length-drop}
use Rattle.std.specs.List.{position}
use Rattle.std.specs.Str.{bytes_eq}
use Rattle.induct_parts.specs.HandedOn.{Use}
use Rattle.induct_check.specs.CertificateLines.{LineForm, lemma_form, no_form, cover_by, split_by, use_or_none, use_by, parts_at, form_alone, form_with, form_by, line_form_of, word_cut_by, cut_at_blank}
use Rattle.induct_check.specs.FormView.{IsShort}

pick : (b : Bool) (x y : LineForm) → IsShort x → IsShort y → IsShort (if b then x else y)
pick true x y h k = h
pick false x y h k = k

cover_short : (sort : List ℕ) (items : Option (List ℕ)) → IsShort (cover_by sort items)
cover_short sort None = tt
cover_short sort (Some items) = tt

split_short : (word : List ℕ) (rest : Option (List ℕ)) → IsShort (split_by word rest)
split_short [] rest = tt
split_short (byte ∷ bytes) None = tt
split_short (byte ∷ bytes) (Some more) = tt

use_short : (use_ : Option Use) → IsShort (use_or_none use_)
use_short None = tt
use_short (Some use_) = tt

alone_short : (word : List ℕ) → IsShort (form_alone word)
alone_short word = pick (bytes_eq word (codes "leaf")) _ _ tt (pick (bytes_eq word (codes "same")) _ _ tt
    (pick (bytes_eq word (codes "lemma")) (lemma_form None) no_form tt tt))

with_short : (word rest : List ℕ) → length rest + 1 < 2 ^ 32 → IsShort (form_with word rest)
with_short word rest short =
    pick (bytes_eq word (codes "cover")) _ _ (cover_short (cut_at_blank rest).word (cut_at_blank rest).rest)
    (pick (bytes_eq word (codes "tree")) _ _ tt
    (pick (bytes_eq word (codes "split")) _ _ (split_short (cut_at_blank rest).word (cut_at_blank rest).rest)
    (pick (bytes_eq word (codes "lemma")) _ _ short
    (pick (bytes_eq word (codes "left")) _ _ short
    (pick (bytes_eq word (codes "right")) _ _ short
    (pick (bytes_eq word (codes "use")) _ _ (use_short (use_by (parts_at 32 rest))) tt))))))

by_short : (word : List ℕ) (rest : Option (List ℕ)) → MatchOption rest (Unit {0}) (λ t. length t + 1 < 2 ^ 32) → IsShort (form_by word rest)
by_short word None short = alone_short word
by_short word (Some rest) short = with_short word rest short

rest_short : (line : List ℕ) (place : Option ℕ) → length line + 1 < 2 ^ 32
    → MatchOption (word_cut_by line place).rest (Unit {0}) (λ t. length t + 1 < 2 ^ 32)
rest_short line None short = tt
rest_short line (Some k) short = omega (arith, length-drop (suc k) line, short)

pub form_short : (line : List ℕ) → length line + 1 < 2 ^ 32 → IsShort (line_form_of line)
form_short line short =
    by_short (cut_at_blank line).word (cut_at_blank line).rest (rest_short line (position (λ byte. byte == 32) line) short)
