-- What the tables have after one more name was given.
use Rattle.std.proofs.Common.{◌≡◌, ◌+◌, ◌<◌, ◌≤◌, ◌^◌, ℕ, suc, List, ◌∷◌, ◌++◌, length, Bool, true, false, if◌then◌else◌, Option, Some, None, codes, decimal, refl, ap, sym, ◌∙◌, arith}
use Rattle.std.specs.Prelude.{is_some}
use Rattle.std.specs.Char.{to_ascii_lowercase}
use Rattle.std.specs.Str.{bytes_eq}
use Rattle.std.proofs.lemmas.List.{map-append}
use Rattle.std.proofs.lemmas.Bool.{or_right}
use Rattle.std.proofs.lemmas.Option.{same_Some}
use Rattle.lotos_base.specs.Names.{folded}
use Rattle.lotos_base.proofs.Bytes.{same_bytes, bytes_same}
use Rattle.scope_parts.specs.Scope.{Binding, bind, bound_to}
use Rattle.sort_terms.specs.ReadingOutcome.{one_name}
use Rattle.flat_text.specs.FreeNames.{has_name, with_number, least_free}
use Rattle.flat_text.specs.GivenNames.{numbered_name, given_name}
use Rattle.flat_text.specs.NameLaws.{IsLeastFree}
use Rattle.flat_text.specs.WritingView.{HasTheseNames, IsLeastUnbound}
use Rattle.flat_text.specs.GivingView.{HaveGiven}
use Rattle.flat_text.proofs.NumberedNames.{alike, least_is_free}
use Rattle.flat_text.proofs.TableLemmas.{names_more, unbound_free, least_is_one, tried_before}

-- whether an earlier process has the name
earlier_has : (known : List Binding) (earlier : List (List ℕ)) (name : List ℕ) (found : Option ℕ) → HasTheseNames known earlier
    → bound_to known (folded name) ≡ found → has_name earlier name ≡ is_some found
earlier_has known earlier name found has at = sym (has.same name) ∙ ap (λ (o : Option ℕ). is_some o) at

-- names that fold alike have the same names with numbers
folded_with : (word : List ℕ) (k : ℕ)
    → folded (with_number (word ++ codes "_") k) ≡ (folded word ++ folded (codes "_")) ++ folded (decimal k)
folded_with word k =
    map-append to_ascii_lowercase (word ++ codes "_") (decimal k)
    ∙ ap (λ (t : List ℕ). t ++ folded (decimal k)) (map-append to_ascii_lowercase word (codes "_"))

same_numbered : (taken : List (List ℕ)) (one other : List ℕ) (k : ℕ) → folded one ≡ folded other
    → has_name taken (with_number (one ++ codes "_") k) ≡ has_name taken (with_number (other ++ codes "_") k)
same_numbered taken one other k same =
    alike taken (with_number (one ++ codes "_") k) (with_number (other ++ codes "_") k)
    (bytes_same (folded (with_number (one ++ codes "_") k)) (folded (with_number (other ++ codes "_") k))
    (folded_with one k
    ∙ ap (λ (t : List ℕ). (t ++ folded (codes "_")) ++ folded (decimal k)) same
    ∙ sym (folded_with other k)))

-- A name that no earlier process has is given as it is.
pub kept : (known used : List Binding) (earlier taken : List (List ℕ)) (name : List ℕ) → HaveGiven known used earlier taken
    → bound_to known (folded name) ≡ None
    → (name ≡ given_name earlier taken name) × HaveGiven (bind name 2 known) (bind name 0 used) (name ∷ earlier) (name ∷ taken)
kept known used earlier taken name has at = (
  sym (ap (λ (b : Bool). if b then numbered_name taken name else name) (earlier_has known earlier name None has.earlier_names at)),
  record {
    earlier_names = names_more name 2 known earlier has.earlier_names;
    taken_names = names_more name 0 used taken has.taken_names;
    low = λ q n found. low q n (bytes_eq (folded q) (folded name)) found;
    tried = λ q n k found here there. tried q n k here there (bytes_eq (folded q) (folded name)) found;
  },
)
  where
    low : (q : List ℕ) (n : ℕ) (b : Bool) → (if b then Some 2 else bound_to known (folded q)) ≡ Some n → 2 ≤ n
    low q n true found = let e : 2 ≡ n = same_Some 2 n found in omega (arith, e)
    low q n false found = has.low q n found

    tried : (q : List ℕ) (n k : ℕ) → 2 ≤ k → k < n → (b : Bool) → (if b then Some 2 else bound_to known (folded q)) ≡ Some n
        → has_name (name ∷ taken) (with_number (q ++ codes "_") k) ≡ true
    tried q n k here there true found = let e : 2 ≡ n = same_Some 2 n found in absurd (omega (arith, here, there, e))
    tried q n k here there false found =
        or_right (one_name (with_number (q ++ codes "_") k) name) (has_name taken (with_number (q ++ codes "_") k))
        (has.tried q n k found here there)

-- Another one is given with the least number that gives no taken name.
module _ (known used : List Binding) (earlier taken : List (List ℕ)) (name : List ℕ) (from number : ℕ)
    (has : HaveGiven known used earlier taken) (at : bound_to known (folded name) ≡ Some from)
    (least : IsLeastUnbound used (name ++ codes "_") from number) (room : from + suc (length used) < 2 ^ 64) where
  from_two : IsLeastFree taken (name ++ codes "_") 2 number
  from_two =
      tried_before taken (name ++ codes "_") 2 from number (λ k here there. has.tried name from k at here there) (has.low name from at)
      (unbound_free used taken (name ++ codes "_") from number has.taken_names least)

  is_least : number ≡ least_free taken (name ++ codes "_") 2
  is_least =
      least_is_one taken (name ++ codes "_") 2 number (least_free taken (name ++ codes "_") 2) from_two
      (least_is_free taken (name ++ codes "_") 2 (omega (arith, room, has.low name from at, has.taken_names.as_many)))

  pub given_next : with_number (name ++ codes "_") number ≡ given_name earlier taken name
  given_next =
      ap (with_number (name ++ codes "_")) is_least
      ∙ sym (ap (λ (b : Bool). if b then numbered_name taken name else name)
      (earlier_has known earlier name (Some from) has.earlier_names at))

  low_next : (q : List ℕ) (n : ℕ) (b : Bool) → (if b then Some number else bound_to known (folded q)) ≡ Some n → 2 ≤ n
  low_next q n true found =
      let e : number ≡ n = same_Some number n found in let two : 2 ≤ number = from_two.from in omega (arith, e, two)
  low_next q n false found = has.low q n found

  tried_next : (q : List ℕ) (n k : ℕ) → 2 ≤ k → k < n → (b : Bool) → bytes_eq (folded q) (folded name) ≡ b
      → (if b then Some number else bound_to known (folded q)) ≡ Some n
      → has_name taken (with_number (q ++ codes "_") k) ≡ true
  tried_next q n k here there true same found =
      let e : number ≡ n = same_Some number n found in
      same_numbered taken q name k (same_bytes (folded q) (folded name) same)
      ∙ from_two.least k here (omega (arith, there, e))
  tried_next q n k here there false same found = has.tried q n k found here there

  pub have_next : HaveGiven (bind name number known) (bind (with_number (name ++ codes "_") number) 0 used) (name ∷ earlier)
      (with_number (name ++ codes "_") number ∷ taken)
  have_next = record {
    earlier_names = names_more name number known earlier has.earlier_names;
    taken_names = names_more (with_number (name ++ codes "_") number) 0 used taken has.taken_names;
    low = λ q n found. low_next q n (bytes_eq (folded q) (folded name)) found;
    tried = λ q n k found here there.
        or_right (one_name (with_number (q ++ codes "_") k) (with_number (name ++ codes "_") number))
        (has_name taken (with_number (q ++ codes "_") k))
        (tried_next q n k here there (bytes_eq (folded q) (folded name)) refl found);
  }
