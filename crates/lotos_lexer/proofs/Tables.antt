use Rattle.std.proofs.Common.{◌≡◌, ◌≢◌, ℕ, ◌+◌, ◌<◌, true, false, List, drop, length, get_or, Some, refl, ap, ◌∙◌, add-one}
use Rattle.std.proofs.Math.Seq.{drop-cons}
use Rattle.std.proofs.lemmas.Slice.Eq.{bytes_eq-Decides}
use Rattle.std.specs.Str.{bytes_eq}
use Rattle.std.proofs.lemmas.Bool.{false_from_ne_true}
use Rattle.lotos_base.specs.Name.{folded}
use Rattle.lotos_lexer.specs.declared.spellings.Spelling.{Spelling}
use Rattle.lotos_lexer.specs.Spellings.{rows_of}
use Rattle.lotos_lexer.specs.Lexemes.{word_kind_in}

-- the row at an index is another word
pub word_kind_in-other : (table : List Spelling) (index : ℕ) (row : Spelling) (spelled : List ℕ) → index < length table
    → folded (get_or table index row).text.now ≢ folded spelled
    → word_kind_in (rows_of (drop index table)) spelled ≡ word_kind_in (rows_of (drop (index + 1) table)) spelled
word_kind_in-other table index row spelled within differs =
    let it : Spelling = get_or table index row in
    let no : bytes_eq (folded it.text.now) (folded spelled) ≡ false =
    false_from_ne_true (bytes_eq (folded it.text.now) (folded spelled))
    (λ same. differs ((bytes_eq-Decides (folded it.text.now) (folded spelled)).0 same)) in
    rw add-one (ap (λ rest. word_kind_in (rows_of rest) spelled) (drop-cons table index row within) ∙ rw no refl)

-- the row at an index is the word
pub word_kind_in-here : (table : List Spelling) (index : ℕ) (row : Spelling) (spelled : List ℕ) → index < length table
    → folded (get_or table index row).text.now ≡ folded spelled
    → word_kind_in (rows_of (drop index table)) spelled ≡ Some (get_or table index row).kind
word_kind_in-here table index row spelled within same =
    let it : Spelling = get_or table index row in
    let yes : bytes_eq (folded it.text.now) (folded spelled) ≡ true = (bytes_eq-Decides (folded it.text.now) (folded spelled)).1 same in
    ap (λ rest. word_kind_in (rows_of rest) spelled) (drop-cons table index row within) ∙ rw yes refl
