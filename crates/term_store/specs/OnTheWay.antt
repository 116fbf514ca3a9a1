-- A term that is on its way to its number: a list of what is still to be done, of which the last member comes next, over
-- terms that have theirs.
use Rattle.std.specs.Prelude.{◌≡◌, ℕ, ◌+◌, ◌*◌, List, [], ◌∷◌, ◌++◌, drop, length, map, reverse, take}
use Rattle.lotos_base.specs.Signature.{Signature, IsOperation}
use Rattle.sort_terms.specs.Operations.{operation_of}
use Rattle.sort_terms.specs.ProfiledTerm.{ProfiledTerm, profiled_node, IsOf, AreOf}
use Rattle.sort_terms.specs.TermSize.{sizes_of}
use Rattle.sort_terms.specs.TermView.{all_profiled, profiled_of, profiled_terms}
use Rattle.term_store.specs.Cells.{AreBelow, HaveTermsOf, Grows}
use Rattle.term_store.specs.Numbered.{term_at, TakesIn}
use Rattle.term_store.specs.declared.numbering.Numbering.{Numbering}
use Rattle.term_store.specs.declared.numbering.Numbering.TheVariants.{First, Head}

-- what is there when one more thing is done, and when all is done
abbrev pub with_numbered : Numbering → List ProfiledTerm → List ProfiledTerm
with_numbered (First terms count) made = map profiled_of (take count terms.now.items) ++ made
with_numbered (Head op profile count) made =
    profiled_node op (operation_of profile.now.value) (profiled_terms (take count made)) ∷ drop count made

abbrev pub numbered_by : List Numbering → List ProfiledTerm → List ProfiledTerm
numbered_by [] made = made
numbered_by (next ∷ left) made = with_numbered next (numbered_by left made)

-- What is still to be done is done on terms of the signature.
abbrev pub IsLeftOf : Signature → Numbering → Type 0
IsLeftOf signature (First terms count) = AreOf signature (all_profiled (take count terms.now.items))
IsLeftOf signature (Head op profile count) = IsOperation signature op (operation_of profile.now.value)

abbrev pub AreLeftOf : Signature → List Numbering → Type 0
AreLeftOf signature [] = Unit {0}
AreLeftOf signature (next ∷ left) = IsLeftOf signature next × AreLeftOf signature left

-- the keys, what is still to be done, and the numbers that were got
pub record Halfway : Type 0 where
  pub keys : List (List ℕ)
  pub left : List Numbering
  pub made : List ℕ

abbrev pub halfway_of : List (List ℕ) → List Numbering → List ℕ → Halfway
halfway_of keys left made = record { keys = keys; left = left; made = made }

-- the terms with the numbers that were got, the last one first
abbrev pub terms_made : Signature → Halfway → List ProfiledTerm
terms_made signature halfway = map (term_at signature halfway.keys) (reverse halfway.made)

-- With these terms on top of those that have numbers, all that is still to be done comes to the term.
pub record ComesToTerm (signature : Signature) (t : ProfiledTerm) (next : List ProfiledTerm) (halfway : Halfway) : Type 0 where
  pub terms : HaveTermsOf signature halfway.keys
  pub left_of : AreLeftOf signature halfway.left
  pub next_of : AreOf signature (profiled_terms next)
  pub comes : numbered_by halfway.left (next ++ terms_made signature halfway) ≡ t ∷ []

-- The term is on its way from the keys before, with these terms to be numbered next.
pub record IsOnItsWay (t : ProfiledTerm) (before : List (List ℕ)) (next : List ProfiledTerm) (halfway : Halfway) : Type 0 where
  pub grows : Grows before halfway.keys
  pub below : AreBelow (length halfway.keys) (reverse halfway.made)
  pub sound : (signature : Signature) → IsOf signature t → HaveTermsOf signature before → ComesToTerm signature t next halfway

-- Each term that was on its way is so still, and has its parts among the keys.
abbrev pub KeepsWay : List ProfiledTerm → Halfway → Halfway → Type 0
KeepsWay next old new =
    (t : ProfiledTerm) (before : List (List ℕ)) → IsOnItsWay t before next old → IsOnItsWay t before [] new

abbrev pub KeepsTaken : List ProfiledTerm → Halfway → List (List ℕ) → Type 0
KeepsTaken next old keys = (t : ProfiledTerm) (before : List (List ℕ)) → IsOnItsWay t before next old → TakesIn t before keys

-- how many turns it takes, at most
abbrev pub numbering_turns : Numbering → ℕ
numbering_turns (First terms count) = 1 + 3 * sizes_of (take count terms.now.items)
numbering_turns (Head op profile count) = 1

abbrev pub numbering_turns_of : List Numbering → ℕ
numbering_turns_of [] = 0
numbering_turns_of (next ∷ left) = numbering_turns next + numbering_turns_of left
