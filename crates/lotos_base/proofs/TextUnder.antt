use Rattle.std.proofs.Common.{◌≡◌, ◌≢◌, ℕ, suc, ◌+◌, ◌<◌, List, [], ◌∷◌, ◌++◌, take, drop, length, get_or, Option, Some, None, true, false, cond, string_bytes, refl, sym, ap, ◌∙◌, set}
use Rattle.std.proofs.lemmas.Slice.Eq.{bytes_eq-Decides}
use Rattle.std.proofs.lemmas.List.{take_more, set_split, take-append-drop}
use Rattle.std.proofs.Math.Seq.{drop-cons}
use Rattle.std.specs.Str.{bytes_eq}
use Rattle.std.proofs.lemmas.Bool.{false_from_ne_true}
use Rattle.lotos_base.specs.MemShelf.{File, text_under, IsFirstNamed}
use Rattle.lotos_base.specs.Outside.{Puts}
use Rattle.lotos_base.proofs.Bytes.{bytes_same}

-- the first of two answers that is there
abbrev pub first_of_two : Option (List ℕ) → Option (List ℕ) → Option (List ℕ)
first_of_two None other = other
first_of_two (Some text) other = Some text

-- the first of two lists with the name decides
pub text_under-append : (files others : List File) (name : List ℕ)
    → text_under (files ++ others) name ≡ first_of_two (text_under files name) (text_under others name)
text_under-append [] others name = refl
text_under-append (file ∷ files) others name =
    elim (bytes_eq (string_bytes file.0) name) as (λ same. cond same (Some file.1.items) (text_under (files ++ others) name)
    ≡ first_of_two (cond same (Some file.1.items) (text_under files name)) (text_under others name))
    [ true ↦ refl | false ↦ text_under-append files others name ]

bytes_eq-other : (one other : List ℕ) → other ≢ one → bytes_eq one other ≡ false
bytes_eq-other one other differs = false_from_ne_true (bytes_eq one other) (λ same. differs (sym ((bytes_eq-Decides one other).0 same)))

-- a list, split at the item at an index
split_at_item : (files : List File) (index : ℕ) (file : File) → index < length files
    → files ≡ take index files ++ get_or files index file ∷ drop (suc index) files
split_at_item files index file within = sym (take-append-drop index files)
    ∙ ap (λ rest. take index files ++ rest) (drop-cons files index file within)

-- one more file that has another name
pub none_before_more : (files : List File) (index : ℕ) (file : File) (name : List ℕ) → index < length files → file ≡ get_or files index file
    → text_under (take index files) name ≡ None → bytes_eq (string_bytes file.0) name ≡ false
    → text_under (take (index + 1) files) name ≡ None
none_before_more files index file name within item none other =
    let step : take (index + 1) files ≡ take index files ++ file ∷ [] = take_more files index file within
    ∙ ap (λ it. take index files ++ it ∷ []) (sym item) in
    rw step (rw text_under-append (rw none (rw other refl)))

-- a list whose part before one file has no file with the name, where that file has it
text_under-here : (before after : List File) (file : File) (name : List ℕ) → text_under before name ≡ None
    → bytes_eq (string_bytes file.0) name ≡ true → text_under (before ++ file ∷ after) name ≡ Some file.1.items
text_under-here before after file name none same = rw text_under-append (rw none (rw same refl))

-- a file with one name says nothing of another
text_under-other : (before after : List File) (one other : File) (name : List ℕ)
    → bytes_eq (string_bytes one.0) name ≡ false → bytes_eq (string_bytes other.0) name ≡ false
    → text_under (before ++ one ∷ after) name ≡ text_under (before ++ other ∷ after) name
text_under-other before after one other name differs differs_too =
    text_under-append before (one ∷ after) name ∙ (rw differs (rw differs_too refl) ∙ sym (text_under-append before (other ∷ after) name))

-- the text of the first file with the name is the text under the name
pub text_under-first : (files : List File) (index : ℕ) (file : File) (name : List ℕ) → IsFirstNamed files name index
    → file ≡ get_or files index file
    → Some file.1.items ≡ text_under files name
text_under-first files index file name first item =
    let split : files ≡ take index files ++ file ∷ drop (suc index) files =
    split_at_item files index file first.within ∙ ap (λ it. take index files ++ it ∷ drop (suc index) files) (sym item) in
    let named : string_bytes file.0 ≡ name = ap (λ it. string_bytes it.0) item ∙ first.named file in
    sym (ap (λ it. text_under it name) split ∙ text_under-here (take index files) (drop (suc index) files) file name first.none_before
    (rw named (bytes_same name name refl)))

-- the texts by name after the first file with a name was replaced
pub Puts-set : (files : List File) (index : ℕ) (name : List ℕ) (file : File) → IsFirstNamed files name index → string_bytes file.0 ≡ name
    → Puts (text_under files) (text_under (set files index file)) name file.1.items
Puts-set files index name file first named =
    let old : File = get_or files index file in
    let front : List File = take index files in
    let back : List File = drop (suc index) files in
    let old_named : string_bytes old.0 ≡ name = first.named file in
    let split : files ≡ front ++ old ∷ back = split_at_item files index file first.within in
    let made : set files index file ≡ front ++ file ∷ back = set_split files index file first.within in
    record {
      stored = ap (λ it. text_under it name) made ∙ text_under-here front back file name first.none_before
          (rw named (bytes_same name name refl));
      others = λ other differs.
          ap (λ it. text_under it other) made
          ∙ (text_under-other front back file old other (rw named (bytes_eq-other name other differs))
          (rw old_named (bytes_eq-other name other differs))
          ∙ ap (λ it. text_under it other) (sym split));
    }

first_of_two-None : (text : Option (List ℕ)) → first_of_two text None ≡ text
first_of_two-None None = refl
first_of_two-None (Some text) = refl

-- the texts by name after a file with a new name was added
pub Puts-added : (files : List File) (name : List ℕ) (file : File) → text_under files name ≡ None → string_bytes file.0 ≡ name
    → Puts (text_under files) (text_under (files ++ file ∷ [])) name file.1.items
Puts-added files name file none named = record {
  stored = text_under-here files [] file name none (rw named (bytes_same name name refl));
  others = λ other differs.
      let no : bytes_eq (string_bytes file.0) other ≡ false = rw named (bytes_eq-other name other differs) in
      text_under-append files (file ∷ []) other ∙ rw no (first_of_two-None (text_under files other));
}
