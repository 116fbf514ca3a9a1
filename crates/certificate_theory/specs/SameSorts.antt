-- Behaviours of one form whose terms at the same places have one sort as well. By itself `Alike` says nothing of sorts:
-- terms with a variable of a sort that has no values are alike whatever they are.
use Rattle.std.specs.Prelude.{ℕ, List, [], ◌∷◌, Option, None, Some}
use Rattle.lotos_base.specs.Signature.{Signature}
use Rattle.lotos_base.specs.Term.{Term}
use Rattle.lotos_base.specs.Sorting.{HasSort}
use Rattle.lotos_base.specs.Equation.{Data}
use Rattle.behaviour_semantics.specs.Behaviour.{Behaviour, stop, exit_with, action, inner_action, guard, choice, parallel, hide, enable, disable, let_be, choose_value, choose_gate, par_gate, call, relabel, Test, Offer, give, ask, ExitValue, exit_value, any_of}
use Rattle.behaviour_semantics.specs.Alike.{Alike}

-- The two terms have one sort.
pub record AreOfOneSort (signature : Signature) (t u : Term) : Type 0 where
  pub sort : ℕ
  pub left : HasSort signature t sort
  pub right : HasSort signature u sort

abbrev pub SameSortsOfTests : Signature → Test → Test → Type 0
SameSortsOfTests signature test other = AreOfOneSort signature test.left other.left × AreOfOneSort signature test.right other.right

abbrev pub SameSortsOfOptions : Signature → Option Test → Option Test → Type 0
SameSortsOfOptions signature None None = Unit {0}
SameSortsOfOptions signature (Some test) (Some other) = SameSortsOfTests signature test other
SameSortsOfOptions signature _ _ = ⊥

abbrev pub SameSortsOfOffers : Signature → List Offer → List Offer → Type 0
SameSortsOfOffers signature [] [] = Unit {0}
SameSortsOfOffers signature (give t ∷ offers) (give u ∷ others) = AreOfOneSort signature t u × SameSortsOfOffers signature offers others
SameSortsOfOffers signature (ask x ∷ offers) (ask y ∷ others) = SameSortsOfOffers signature offers others
SameSortsOfOffers signature _ _ = ⊥

abbrev pub SameSortsOfResults : Signature → List ExitValue → List ExitValue → Type 0
SameSortsOfResults signature [] [] = Unit {0}
SameSortsOfResults signature (exit_value t ∷ results) (exit_value u ∷ others) =
    AreOfOneSort signature t u × SameSortsOfResults signature results others
SameSortsOfResults signature (any_of s ∷ results) (any_of r ∷ others) = SameSortsOfResults signature results others
SameSortsOfResults signature _ _ = ⊥

-- The behaviours have one form, and the terms of their offers, values of `exit` and tests have one sort place by place.
-- The terms of a `let` and of a call have the sorts of its variables and parameters anyway.
abbrev pub SameSorts : Signature → Behaviour → Behaviour → Type 0
SameSorts signature stop stop = Unit {0}
SameSorts signature (exit_with results) (exit_with others) = SameSortsOfResults signature results others
SameSorts signature (action g offers test b) (action h others test' c) =
    SameSortsOfOffers signature offers others × SameSortsOfOptions signature test test' × SameSorts signature b c
SameSorts signature (inner_action b) (inner_action c) = SameSorts signature b c
SameSorts signature (guard test b) (guard test' c) = SameSortsOfTests signature test test' × SameSorts signature b c
SameSorts signature (choice b c) (choice b' c') = SameSorts signature b b' × SameSorts signature c c'
SameSorts signature (parallel meet b c) (parallel meet' b' c') = SameSorts signature b b' × SameSorts signature c c'
SameSorts signature (hide gates b) (hide gates' c) = SameSorts signature b c
SameSorts signature (enable b xs c) (enable b' xs' c') = SameSorts signature b b' × SameSorts signature c c'
SameSorts signature (disable b c) (disable b' c') = SameSorts signature b b' × SameSorts signature c c'
SameSorts signature (let_be bindings b) (let_be others c) = SameSorts signature b c
SameSorts signature (choose_value x b) (choose_value y c) = SameSorts signature b c
SameSorts signature (choose_gate g gates b) (choose_gate h gates' c) = SameSorts signature b c
SameSorts signature (par_gate g gates meet b) (par_gate h gates' meet' c) = SameSorts signature b c
SameSorts signature (call number gates arguments) (call number' gates' arguments') = Unit {0}
SameSorts signature (relabel pairs b) (relabel pairs' c) = SameSorts signature b c
SameSorts signature _ _ = ⊥

-- Two behaviours are alike, and their terms at the same places have one sort.
pub record AreAlikeInSorts (data_ : Data) (b c : Behaviour) : Type 0 where
  pub alike : Alike data_ b c
  pub sorts : SameSorts data_.signature b c
