-- The words behind a verb, word by word.
use Rattle.std.proofs.Common.{refl, ap, sym, ◌∙◌, ◌≡◌, subst, ℕ, ◌+◌, ◌-◌, ◌<◌, List, [], ◌∷◌, ◌++◌, length, arith, take, drop, get_or, Bool, true, false}
use Rattle.std.specs.Prelude.{String, string_bytes, if◌then◌else◌}
use Rattle.std.proofs.lemmas.List.{drop_more, take_more, length-drop}
use Rattle.std.proofs.Math.ListN.{drop_of_length-le}
use Rattle.std.proofs.Math.Seq.{take-length}
use Rattle.spec_acceptance.specs.HandedOn.{words_of}
use Rattle.std.specs.declared.alloc.Global.{Global}
use Rattle.command_words.specs.Words.{WordsBehind, words_behind, ends_files, file_before, cut_at_with}

-- words before those that are cut
abbrev pub files_before : List (List ℕ) → WordsBehind → WordsBehind
files_before [] behind = behind
files_before (file ∷ files) behind = file_before file (files_before files behind)

-- none of the first words ends the files
abbrev pub CutBehind : ℕ → List (String Global) → Type 0
CutBehind index words =
    cut_at_with (words_of words) ≡ files_before (words_of (take index words)) (cut_at_with (words_of (drop index words)))

one_file_more : (words : List (String Global)) (word : String Global) (behind : WordsBehind)
    → files_before (words_of (words ++ word ∷ [])) behind ≡ files_before (words_of words) (file_before (string_bytes word) behind)
one_file_more [] word behind = refl
one_file_more (first ∷ words) word behind = ap (λ (it : WordsBehind). file_before (string_bytes first) it) (one_file_more words word behind)

files_alone : (files : List (List ℕ)) (has_with : Bool) (values : List (List ℕ))
    → files_before files (words_behind [] has_with values) ≡ words_behind files has_with values
files_alone [] has_with values = refl
files_alone (file ∷ files) has_with values = ap (λ (it : WordsBehind). file_before file it) (files_alone files has_with values)

-- the words from this one on
from_here : (words : List (String Global)) (index : ℕ) (word : String Global) → index < length words → word ≡ get_or words index word
    → drop index words ≡ word ∷ drop (index + 1) words
from_here words index word within is = drop_more words index word within ∙ ap (λ w. w ∷ drop (index + 1) words) (sym is)

up_to_here : (words : List (String Global)) (index : ℕ) (word : String Global) → index < length words → word ≡ get_or words index word
    → take (index + 1) words ≡ take index words ++ word ∷ []
up_to_here words index word within is = take_more words index word within ∙ ap (λ w. take index words ++ w ∷ []) (sym is)

-- the words from this one on are cut, by whether it is `with`
cut_here : (words : List (String Global)) (index : ℕ) (word : String Global) (bytes : List ℕ) (b : Bool) → index < length words
    → word ≡ get_or words index word → bytes ≡ string_bytes word → b ≡ ends_files bytes
    → cut_at_with (words_of (drop index words))
    ≡ (if b then words_behind [] true (words_of (drop (index + 1) words))
    else file_before (string_bytes word) (cut_at_with (words_of (drop (index + 1) words))))
cut_here words index word bytes b within is same ends =
    ap (λ (ws : List (String Global)). cut_at_with (words_of ws)) (from_here words index word within is)
    ∙ ap (λ (it : Bool). if it then words_behind [] true (words_of (drop (index + 1) words))
    else file_before (string_bytes word) (cut_at_with (words_of (drop (index + 1) words))))
    (ap (λ (it : List ℕ). ends_files it) (sym same) ∙ sym ends)

-- a word that does not end the files is one of them
pub next_file : (words : List (String Global)) (index : ℕ) (word : String Global) (bytes : List ℕ) → index < length words
    → word ≡ get_or words index word → bytes ≡ string_bytes word → false ≡ ends_files bytes → CutBehind index words
    → CutBehind (index + 1) words
next_file words index word bytes within is same ends before =
    before
    ∙ ap (λ (it : WordsBehind). files_before (words_of (take index words)) it)
    (cut_here words index word bytes false within is same ends)
    ∙ sym (one_file_more (take index words) word (cut_at_with (words_of (drop (index + 1) words))))
    ∙ ap (λ (ws : List (String Global)). files_before (words_of ws) (cut_at_with (words_of (drop (index + 1) words))))
    (sym (up_to_here words index word within is))

-- all that is left is left
left_whole : (words : List (String Global)) (index : ℕ) → take (length words - index) (drop index words) ≡ drop index words
left_whole words index =
    ap (λ (n : ℕ). take n (drop index words)) (sym (length-drop index words)) ∙ take-length (drop index words)

-- at the word that ends the files
pub files_end : (words : List (String Global)) (index : ℕ) (word : String Global) (bytes : List ℕ) → index < length words
    → word ≡ get_or words index word → bytes ≡ string_bytes word → true ≡ ends_files bytes → CutBehind index words
    → words_behind (words_of (take index words)) true (words_of (take (length words - (index + 1)) (drop (index + 1) words)))
    ≡ cut_at_with (words_of words)
files_end words index word bytes within is same ends before =
    ap (λ (ws : List (String Global)). words_behind (words_of (take index words)) true (words_of ws)) (left_whole words (index + 1))
    ∙ sym (files_alone (words_of (take index words)) true (words_of (drop (index + 1) words)))
    ∙ sym (ap (λ (it : WordsBehind). files_before (words_of (take index words)) it)
    (cut_here words index word bytes true within is same ends))
    ∙ sym before

-- where no word ends the files
pub files_to_the_end : (words : List (String Global)) (index : ℕ) → index ≡ length words → CutBehind index words
    → cut_at_with (words_of words) ≡ words_behind (words_of words) false []
files_to_the_end words index past before =
    let whole = subst (λ (i : ℕ). CutBehind i words) past before in
    whole
    ∙ ap (λ (ws : List (String Global)). files_before (words_of ws) (cut_at_with (words_of (drop (length words) words))))
    (take-length words)
    ∙ ap (λ (ws : List (String Global)). files_before (words_of words) (cut_at_with (words_of ws)))
    (drop_of_length-le words (omega arith))
    ∙ files_alone (words_of words) false []
