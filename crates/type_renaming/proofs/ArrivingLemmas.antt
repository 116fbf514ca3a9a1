-- Members of a base that come one after another.
use Rattle.std.proofs.Common.{◌≡◌, ℕ, zero, suc, ◌+◌, Bool, true, false, List, [], ◌∷◌, ◌++◌, append_assoc, map, length, refl, ap, sym, ◌∙◌, subst, arith}
use Rattle.std.specs.Prelude.{Option, Some, None, ◌||◌, nat_lt, slice_get, slice_index, if◌then◌else◌}
use Rattle.std.specs.List.{list_any}
use Rattle.std.proofs.lemmas.List.{append-nil}
use Rattle.std.proofs.lemmas.Option.{none-some}
use Rattle.lotos_base.proofs.Pieces.{same_heads, same_tails}
use Rattle.lotos_base.specs.Equation.{Place}
use Rattle.sort_terms.specs.WellFormedTest.{all_differ}
use Rattle.type_presentations.proofs.KeptLemmas.{added_is_there, first_stays}
use Rattle.type_definitions.specs.TypeFault.{TypeFault, first_fault, too_large}
use Rattle.type_definitions.specs.Presentation.{first_position, is_marked_number, presentation_limit, with_new}
use Rattle.type_definitions.specs.Actualisation.{Actualising, unmarked_from}
use Rattle.type_definitions.specs.ActualisationFaults.{Coming, coming_clash, coming_too_many, there_already}
use Rattle.type_renaming.specs.Actuals.{actuals_from}
use Rattle.type_renaming.specs.Condensed.{Kind, members_clash, images_of, makers_of}
use Rattle.type_renaming.specs.Noting.{no_makers}
use Rattle.type_renaming.specs.CameView.{Arrived, HasActual, HasImage, HasSettled, are_one_member}
use Rattle.type_renaming.specs.FaultPlaces.{fault_at, kept_place, stands_at}
use Rattle.type_renaming.proofs.SettlingLemmas.{Condensed, IsLawful, asked_if_none, clash_is, condensed_next, kept_fault, last_fault, none_kept}

-- What comes in: the kind of members, the clash of two, the marks of the formal ones and their actual ones, what becomes of the
-- others, those of the actual types, and all of the base.
pub record Setting (A : Type 0) : Type 0 where
  pub k : Kind A
  pub a : Actualising
  pub clash_kind : Place → List ℕ → TypeFault
  pub marks : List ℕ
  pub actual : A → ℕ
  pub come : A → Coming A
  pub start : List A
  pub whole : List A

-- those that come from a number on
abbrev pub due : {A : Type 0} → Setting A → ℕ → List A → List (Coming A)
due s i rest = map s.come (unmarked_from s.marks i rest)

-- their images
abbrev pub due_images : {A : Type 0} → Setting A → ℕ → List A → List A
due_images {A} s i rest = map (λ (x : A). (s.come x).image) (unmarked_from s.marks i rest)

-- all of them, once they came
abbrev pub at_end : {A : Type 0} → Setting A → List A
at_end s = with_new (are_one_member s.k) s.start (due_images s 0 s.whole)

-- the new numbers from a number on
abbrev pub numbers_from : {A : Type 0} → Setting A → List A → ℕ → List A → List ℕ
numbers_from s final i [] = []
numbers_from s final i (x ∷ xs) =
    (if is_marked_number s.marks i then s.actual x else first_position (are_one_member s.k (s.come x).image) final) ∷ numbers_from s final
    (suc i) xs

-- the first clash behind earlier members
abbrev pub clash_behind : {A : Type 0} → Setting A → List (Coming A) → List (Coming A) → Option TypeFault
clash_behind s earlier xs = coming_clash s.a (members_clash s.k) s.clash_kind earlier xs

-- the first that is too many
abbrev pub many_behind : {A : Type 0} → Setting A → List A → List (Coming A) → Option TypeFault
many_behind s there xs = coming_too_many s.a (are_one_member s.k) there xs

-- what is so of clashes once the rest is still to come
pub record Clashing {A : Type 0} (s : Setting A) (st : Arrived A) (rest : List (Coming A)) : Type 0 where
  pub earlier : List (Coming A)
  pub faults : clash_behind s (map there_already s.start) (due s 0 s.whole)
      ≡ first_fault (fault_at s.clash_kind st.clash) (clash_behind s earlier rest)
  pub condensed : st.clash ≡ None → Condensed s.k earlier st

-- what is so once the rest is still to come, the first of which has this number
pub record Arriving {A : Type 0} (s : Setting A) (st : Arrived A) (i : ℕ) (rest : List A) (actuals : List (Option ℕ)) : Type 0 where
  pub members : with_new (are_one_member s.k) st.list (due_images s i rest) ≡ at_end s
  pub numbered : st.numbers ++ numbers_from s (at_end s) i rest ≡ numbers_from s (at_end s) 0 s.whole
  pub known : actuals ≡ actuals_from s.marks s.actual i rest
  pub many : many_behind s s.start (due s 0 s.whole)
      ≡ first_fault (fault_at too_large st.too_many) (many_behind s st.list (due s i rest))
  pub clash : Clashing s st (due s i rest)

-- ---- Nothing came yet.

no_images : {A : Type 0} (xs : List A) → images_of (map there_already xs) ≡ xs
no_images [] = refl
no_images {A = A} (x ∷ xs) = ap (λ (ys : List A). x ∷ ys) (no_images xs)

no_pairs : {A : Type 0} (xs : List A) → makers_of (map there_already xs) ≡ no_makers (length xs)
no_pairs [] = refl
no_pairs (x ∷ xs) = ap (λ (ps : List (Option Place)). None ∷ ps) (no_pairs xs)

all_to_come : {A : Type 0} (s : Setting A) (st : Arrived A) (actuals : List (Option ℕ)) → st.list ≡ s.start → st.numbers ≡ []
    → st.makers ≡ no_makers (length st.list) → st.clash ≡ None → st.too_many ≡ None → all_differ s.k.one st.list ≡ true
    → actuals ≡ actuals_from s.marks s.actual 0 s.whole → Arriving s st 0 s.whole actuals
all_to_come {A = A} s st actuals there none makers no_clash not_many differ are = record {
  members = ap (λ (ys : List A). with_new (are_one_member s.k) ys (due_images s 0 s.whole)) there;
  numbered = ap (λ (ns : List ℕ). ns ++ numbers_from s (at_end s) 0 s.whole) none;
  known = are;
  many =
      ap (λ (ys : List A). many_behind s ys (due s 0 s.whole)) (sym there)
      ∙ ap (λ o. first_fault (fault_at too_large o) (many_behind s st.list (due s 0 s.whole))) (sym not_many);
  clash = record {
    earlier = map there_already s.start;
    faults =
        ap (λ o. first_fault (fault_at s.clash_kind o) (clash_behind s (map there_already s.start) (due s 0 s.whole))) (sym no_clash);
    condensed = λ _. record {
      members = map there_already s.start;
      told = λ z. refl;
      images = no_images s.start ∙ sym there;
      makers = no_pairs s.start ∙ ap (λ (ys : List A). no_makers (length ys)) (sym there) ∙ sym makers;
      differ = differ;
    };
  };
}

pub begins : {A : Type 0} (s : Setting A) (st : Arrived A) (there rest : List A) (actuals : List (Option ℕ)) → s.start ≡ there
    → s.whole ≡ rest → st.list ≡ there → st.numbers ≡ [] → st.makers ≡ no_makers (length there) → st.clash ≡ None → st.too_many ≡ None
    → all_differ s.k.one there ≡ true → actuals ≡ actuals_from s.marks s.actual 0 rest → Arriving s st 0 rest actuals
begins {A = A} s st there rest actuals starts all are none makers no_clash not_many differ given =
    subst (λ (ys : List A). Arriving s st 0 ys actuals) all
    (all_to_come s st actuals (are ∙ sym starts) none (makers ∙ ap (λ (ys : List A). no_makers (length ys)) (sym are)) no_clash not_many
    (ap (λ (ys : List A). all_differ s.k.one ys) are ∙ differ)
    (given ∙ ap (λ (ys : List A). actuals_from s.marks s.actual 0 ys) (sym all)))

-- ---- One of them came.

unmarked : (b : Bool) (n : ℕ) → None ≡ (if b then Some n else None) → b ≡ false
unmarked true n e = absurd (none-some n e)
unmarked false n e = refl

marked : (b : Bool) (m n : ℕ) → Some m ≡ (if b then Some n else None) → (b ≡ true) × (m ≡ n)
marked true m n e = (refl, (cc))
marked false m n e = absurd (none-some m (sym e))

-- one that is formal: its actual one has this number
formal_next : {A : Type 0} (s : Setting A) (st new : Arrived A) (i number : ℕ) (x : A) (later : List A) (actuals more : List (Option ℕ))
    → Arriving s st i (x ∷ later) actuals → actuals ≡ Some number ∷ more → HasActual st new number → Arriving s new (suc i) later more
formal_next {A = A} s st new i number x later actuals more before next has =
    let are : Some number ∷ more ≡ (if is_marked_number s.marks i then Some (s.actual x) else None)
    ∷ actuals_from s.marks s.actual (suc i) later =
    sym next ∙ before.known in
    let here = marked (is_marked_number s.marks i) number (s.actual x) (same_heads (Some number) _ more _ are) in
    let gone : unmarked_from s.marks i (x ∷ later) ≡ unmarked_from s.marks (suc i) later =
    ap (λ (b : Bool). if b then unmarked_from s.marks (suc i) later else x ∷ unmarked_from s.marks (suc i) later) here.0 in record {
      members =
          ap (λ (ys : List A). with_new (are_one_member s.k) ys (due_images s (suc i) later)) has.list
          ∙ ap (λ (ys : List A). with_new (are_one_member s.k) st.list (map (λ (y : A). (s.come y).image) ys)) (sym gone) ∙ before.members;
      numbered =
          ap (λ (ns : List ℕ). ns ++ numbers_from s (at_end s) (suc i) later) has.numbers
          ∙ append_assoc st.numbers (number ∷ []) (numbers_from s (at_end s) (suc i) later)
          ∙ ap (λ (n : ℕ). st.numbers ++ n ∷ numbers_from s (at_end s) (suc i) later) here.1
          ∙ ap
          (λ (b : Bool).
          st.numbers ++ (if b then s.actual x else first_position (are_one_member s.k (s.come x).image) (at_end s))
          ∷ numbers_from s (at_end s) (suc i) later) (sym here.0)
          ∙ before.numbered;
      known = same_tails (Some number) _ more _ are;
      many =
          before.many
          ∙ ap (λ (ys : List A). first_fault (fault_at too_large st.too_many) (many_behind s st.list (map s.come ys))) gone
          ∙ ap (λ (ys : List A). first_fault (fault_at too_large st.too_many) (many_behind s ys (due s (suc i) later))) (sym has.list)
          ∙ ap (λ o. first_fault (fault_at too_large o) (many_behind s new.list (due s (suc i) later))) (sym has.too_many);
      clash = record {
        earlier = before.clash.earlier;
        faults =
            before.clash.faults
            ∙ ap (λ (ys : List A). first_fault (fault_at s.clash_kind st.clash) (clash_behind s before.clash.earlier (map s.come ys))) gone
            ∙ ap (λ o. first_fault (fault_at s.clash_kind o) (clash_behind s before.clash.earlier (due s (suc i) later))) (sym has.clash);
        condensed = λ none.
            let c = before.clash.condensed (sym has.clash ∙ none) in record {
              members = c.members;
              told = c.told;
              images = c.images ∙ sym has.list;
              makers = c.makers ∙ sym has.makers;
              differ = ap (λ (ys : List A). all_differ s.k.one ys) has.list ∙ c.differ;
            };
      };
    }

-- the clashes, once one came that is not formal
clash_next : {A : Type 0} (s : Setting A) (st new : Arrived A) (x : Coming A) (rest : List (Coming A)) → IsLawful s.k
    → Clashing s st (x ∷ rest) → HasImage s.k s.a.base.at x st new → Clashing s new rest
clash_next {A = A} s st new x rest is before has =
    let asked : new.clash ≡ kept_place st.clash (list_any (members_clash s.k x) before.earlier) (stands_at x.pair s.a.base.at) =
    has.clash
    ∙ asked_if_none st.clash _ (list_any (members_clash s.k x) before.earlier) (stands_at x.pair s.a.base.at)
    (λ none. clash_is s.k is before.earlier st (before.condensed none) x new.list has.is_second has.list has.seconds) in record {
      earlier = before.earlier ++ x ∷ [];
      faults =
          before.faults
          ∙ kept_fault s.a s.clash_kind st.clash (list_any (members_clash s.k x) before.earlier) x (clash_behind s
          (before.earlier ++ x ∷ []) rest)
          ∙ ap (λ o. first_fault (fault_at s.clash_kind o) (clash_behind s (before.earlier ++ x ∷ []) rest)) (sym asked);
      condensed = λ none.
          let parts =
          none_kept st.clash (list_any (members_clash s.k x) before.earlier) (stands_at x.pair s.a.base.at) (sym asked ∙ none) in
          let c = before.condensed parts.0 in
          let told = clash_is s.k is before.earlier st c x new.list has.is_second has.list has.seconds in
          condensed_next s.k is before.earlier st new c x has.is_second has.list has.makers has.seconds
          (neither has.is_second _ (told ∙ parts.1)) parts.1;
    }
  where
    neither : (b c : Bool) → (b || c) ≡ false → b ≡ false
    neither true c e = e
    neither false c e = refl

-- one that is not formal
other_next : {A : Type 0} (s : Setting A) (st new : Arrived A) (i : ℕ) (x : A) (later : List A) (actuals more : List (Option ℕ))
    → IsLawful s.k → Arriving s st i (x ∷ later) actuals → actuals ≡ None ∷ more → HasImage s.k s.a.base.at (s.come x) st new
    → Arriving s new (suc i) later more
other_next {A = A} s st new i x later actuals more is before next has =
    let are : None ∷ more ≡ (if is_marked_number s.marks i then Some (s.actual x) else None) ∷ actuals_from s.marks s.actual (suc i) later =
    sym next ∙ before.known in
    let here = unmarked (is_marked_number s.marks i) (s.actual x) (same_heads None _ more _ are) in
    let stays : unmarked_from s.marks i (x ∷ later) ≡ x ∷ unmarked_from s.marks (suc i) later =
    ap (λ (b : Bool). if b then unmarked_from s.marks (suc i) later else x ∷ unmarked_from s.marks (suc i) later) here in
    let same : A → A → Bool = are_one_member s.k in
    let image : A = (s.come x).image in
    let all : with_new same new.list (due_images s (suc i) later) ≡ at_end s =
    ap (λ (ys : List A). with_new same ys (due_images s (suc i) later)) has.list
    ∙ ap (λ (ys : List A). with_new same st.list (map (λ (y : A). (s.come y).image) ys)) (sym stays) ∙ before.members in
    let there : list_any (same image) new.list ≡ true =
    ap (λ (ys : List A). list_any (same image) ys) has.list ∙ added_is_there same st.list image (is.itself image) in
    let number : first_position (same image) new.list ≡ first_position (same image) (at_end s) =
    sym (ap (λ (ys : List A). first_position (same image) ys) (sym all)
    ∙ first_stays same (same image) new.list (due_images s (suc i) later) there) in record {
      members = all;
      numbered =
          ap (λ (ns : List ℕ). ns ++ numbers_from s (at_end s) (suc i) later) has.numbers
          ∙ append_assoc st.numbers (first_position (same image) new.list ∷ []) (numbers_from s (at_end s) (suc i) later)
          ∙ ap (λ (n : ℕ). st.numbers ++ n ∷ numbers_from s (at_end s) (suc i) later) number
          ∙ ap
          (λ (b : Bool).
          st.numbers ++ (if b then s.actual x else first_position (same image) (at_end s)) ∷ numbers_from s (at_end s) (suc i) later)
          (sym here)
          ∙ before.numbered;
      known = same_tails None _ more _ are;
      many =
          before.many
          ∙ ap (λ (ys : List A). first_fault (fault_at too_large st.too_many) (many_behind s st.list (map s.come ys))) stays
          ∙ kept_fault s.a too_large st.too_many (nat_lt presentation_limit (length (with_new same st.list (image ∷ [])))) (s.come x)
          (many_behind s (with_new same st.list (image ∷ [])) (due s (suc i) later))
          ∙ ap
          (λ (ys : List A).
          first_fault (fault_at too_large (kept_place st.too_many (nat_lt presentation_limit (length ys)) (stands_at
          (s.come x).pair s.a.base.at)))
          (many_behind s ys (due s (suc i) later)))
          (sym has.list)
          ∙ ap (λ o. first_fault (fault_at too_large o) (many_behind s new.list (due s (suc i) later))) (sym has.too_many);
      clash =
          clash_next s st new (s.come x) (due s (suc i) later) is
          (subst (λ (ys : List A). Clashing s st (map s.come ys)) stays before.clash) has;
    }

-- a member, whose actual one is given if it is formal
pub one_next : {A : Type 0} (s : Setting A) (st new : Arrived A) (i : ℕ) (rest later : List A) (x : A) (actuals more : List (Option ℕ))
    (actual : Option ℕ) → IsLawful s.k → Arriving s st i rest actuals → rest ≡ x ∷ later → actuals ≡ actual ∷ more
    → HasSettled s.k s.a.base.at (s.come x) st new actual → Arriving s new (i + 1) later more
one_next {A = A} s st new i rest later x actuals more actual is before next given has =
    subst (λ (n : ℕ). Arriving s new n later more) plus
    (go actual given has (subst (λ (ys : List A). Arriving s st i ys actuals) next before))
  where
    plus : suc i ≡ i + 1
    plus = omega arith

    go : (o : Option ℕ) → actuals ≡ o ∷ more → HasSettled s.k s.a.base.at (s.come x) st new o → Arriving s st i (x ∷ later) actuals
        → Arriving s new (suc i) later more
    go None are h b = other_next s st new i x later actuals more is b are h
    go (Some n) are h b = formal_next s st new i n x later actuals more b are h

-- ---- All came.

pub record AllArrived {A : Type 0} (s : Setting A) (st : Arrived A) : Type 0 where
  pub list : st.list ≡ at_end s
  pub numbers : st.numbers ≡ numbers_from s (at_end s) 0 s.whole
  pub clash : clash_behind s (map there_already s.start) (due s 0 s.whole) ≡ fault_at s.clash_kind st.clash
  pub too_many : many_behind s s.start (due s 0 s.whole) ≡ fault_at too_large st.too_many
  pub differ : st.clash ≡ None → all_differ s.k.one st.list ≡ true

pub ends : {A : Type 0} (s : Setting A) (st : Arrived A) (i : ℕ) (rest : List A) (actuals : List (Option ℕ)) → Arriving s st i rest actuals
    → rest ≡ [] → AllArrived s st
ends {A = A} s st i rest actuals before none =
    let last : Arriving s st i [] actuals = subst (λ (ys : List A). Arriving s st i ys actuals) none before in record {
      list = last.members;
      numbers = sym (append-nil st.numbers) ∙ last.numbered;
      clash = last.clash.faults ∙ last_fault (fault_at s.clash_kind st.clash);
      too_many = last.many ∙ last_fault (fault_at too_large st.too_many);
      differ = λ no_clash. (last.clash.condensed no_clash).differ;
    }

-- the new number of each
pub number_at : {A : Type 0} (s : Setting A) (final : List A) (becomes : ℕ → Option A → ℕ) → ((n : ℕ) → becomes n None ≡ 0)
    → ((n : ℕ) (x : A)
    → becomes n (Some x) ≡ (if is_marked_number s.marks n then s.actual x else first_position (are_one_member s.k (s.come x).image) final))
    → (i : ℕ) (xs : List A) (n : ℕ) → slice_index (numbers_from s final i xs) n ≡ becomes (i + n) (slice_get xs n)
number_at s final becomes none some i [] n = sym (none (i + n))
number_at s final becomes none some i (x ∷ xs) zero =
    let at : i ≡ i + 0 = omega arith in sym (some i x) ∙ ap (λ (m : ℕ). becomes m (Some x)) at
number_at s final becomes none some i (x ∷ xs) (suc n) =
    let at : suc i + n ≡ i + suc n = omega arith in
    number_at s final becomes none some (suc i) xs n ∙ ap (λ (m : ℕ). becomes m (slice_get xs n)) at
