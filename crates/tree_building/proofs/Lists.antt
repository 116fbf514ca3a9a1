-- Lists of members with separators, taken apart and put together as the rows do.
use Rattle.std.proofs.Common.{◌≡◌, ℕ, List, [], ◌∷◌, ◌++◌, sym, subst}
use Rattle.std.specs.Prelude.{Some}
use Rattle.std.proofs.lemmas.List.{append-nil}
use Rattle.lotos_lexer.specs.declared.tokens.Token.{Token}
use Rattle.lotos_rows.specs.Words.{IsOfKind, left_out, there, Separated, last, before_more, Loosely, last_loose, with_separator, without_separator, behind}
use Rattle.tree_building.specs.Meaning.{Meaning}
use Rattle.tree_building.specs.PartSentences.{As, as_one}
use Rattle.tree_building.specs.NamesSentences.{Further, FurtherLoosely, none_further, further_behind, further_at_once}

pub is_of : {kind : ℕ} (word : Token) → word.kind ≡ kind → IsOfKind kind word
is_of word is = record { kind_is = is }

-- the value that a row gives, of tokens that are the row's
pub shown : {A : Type 0} {make : A → Meaning} {one : List Token → A → Type 0} {tokens : List Token} {value : Meaning} (found : A)
    (other : List Token) →
    Some (make found) ≡ Some value → one other found → other ≡ tokens → As make one tokens value
shown {A} {make} {one} {tokens} {value} found other same it e =
    let is : make found ≡ value = cc in
    subst (As make one tokens) is (subst (λ (l : List Token). As make one l (make found)) e (as_one it))

pub joined : {A : Type 0} {separator : ℕ} {one : List Token → A → Type 0} (own : List Token) (value : A) {tokens : List Token}
    {values : List A} →
    one own value → Further separator one tokens values → Separated separator one (own ++ tokens) (value ∷ values)
joined {separator = separator} {one = one} own value it left_out =
    subst (λ (l : List Token). Separated separator one l (value ∷ [])) (sym (append-nil own)) (last it)
joined own value it (there (behind comma more)) = before_more it comma more

pub joined_loosely : {A : Type 0} {separator : ℕ} {one : List Token → A → Type 0} (own : List Token) (value : A) {tokens : List Token}
    {values : List A} →
    one own value → FurtherLoosely separator one tokens values → Loosely separator one (own ++ tokens) (value ∷ values)
joined_loosely {separator = separator} {one = one} own value it none_further =
    subst (λ (l : List Token). Loosely separator one l (value ∷ [])) (sym (append-nil own)) (last_loose it)
joined_loosely own value it (further_behind comma more) = with_separator it comma more
joined_loosely own value it (further_at_once more) = without_separator it more
