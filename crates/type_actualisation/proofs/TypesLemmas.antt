-- Types with their formal equations, as the code keeps them.
use Rattle.std.proofs.Common.{◌≡◌, ℕ, zero, suc, ◌+◌, ◌<◌, Bool, true, false, List, [], ◌∷◌, ◌++◌, length, map, fold, take, get_or, refl, ap, sym, ◌∙◌, subst, arith}
use Rattle.std.specs.Prelude.{Option, None, Some, slice_get, if◌then◌else◌, ◌||◌}
use Rattle.std.specs.List.{list_any}
use Rattle.std.proofs.lemmas.List.{map-append}
use Rattle.std.proofs.lemmas.List.Sums.{fold-append}
use Rattle.lotos_base.specs.Equation.{Equation}
use Rattle.lotos_base.specs.WrittenTerm.{PlacedName}
use Rattle.sort_terms.specs.ReadingOutcome.{one_name}
use Rattle.type_definitions.specs.DeclaredTypes.{DeclaredType}
use Rattle.type_definitions.specs.Flattened.{presentation_named}
use Rattle.type_definitions.specs.FormalEquations.{FlattenedType, WithFormals, formals_joined, formals_named, formals_of_union, mentioned_in, no_formals, with_formals_named}
use Rattle.type_definitions.specs.Presentation.{Presentation, first_position, nothing}
use Rattle.type_definitions.specs.Union.{Mentioned}
use Rattle.type_presentations.specs.EquationListView.{HasEquationKeys, equations_in}
use Rattle.type_presentations.specs.NamesView.{HasNames}
use Rattle.type_presentations.specs.PresentationView.{presentation_of}
use Rattle.type_presentations.specs.declared.presentations.Presentation.{Presentation as CodePresentation}
use Rattle.type_presentations.specs.PositionOfName.{position_of_name}
use Rattle.type_presentations.specs.declared.equation_list.EquationList.{EquationList}
use Rattle.type_presentations.specs.PresentedView.{AreSoundTypes, presented_in}
use Rattle.type_actualisation.specs.FormalLists.{AreFormalsOver, IsUnionWith}
use Rattle.type_actualisation.specs.FormalTypesView.{AreAllFormals, AreFormalTypes, AreFormalsOfType, IsListNamed, list_at}
use Rattle.type_actualisation.specs.declared.formal_types.FormalTypes.{FormalTypes}
use Rattle.type_actualisation.proofs.FormalListLemmas.{none_over}

-- ---- Lists that go along with the types.

pub one_more_list : (all : List FlattenedType) (lists : List EquationList) (t : FlattenedType) (list : EquationList)
    → AreAllFormals all lists → AreFormalsOfType t list → AreAllFormals (all ++ t ∷ []) (lists ++ list ∷ [])
one_more_list [] [] t list are one = (one, tt)
one_more_list [] (l ∷ ls) t list are one = absurd are
one_more_list (x ∷ xs) [] t list are one = absurd are
one_more_list (x ∷ xs) (l ∷ ls) t list are one = (are.0, one_more_list xs ls t list are.1 one)

pub as_many_lists : (all : List FlattenedType) (lists : List EquationList) → AreAllFormals all lists → length all ≡ length lists
as_many_lists [] [] are = refl
as_many_lists [] (l ∷ ls) are = absurd are
as_many_lists (x ∷ xs) [] are = absurd are
as_many_lists (x ∷ xs) (l ∷ ls) are = ap (λ (n : ℕ). suc n) (as_many_lists xs ls are.1)

-- ---- By name.

abbrev pub names_of : List FlattenedType → List (List ℕ)
names_of all = map (λ (t : FlattenedType). t.mentioned.at.name) all

-- the list at the first position of a name
abbrev by_position : EquationList → List EquationList → Option ℕ → EquationList
by_position none lists None = none
by_position none lists (Some n) = list_at none (slice_get lists n)

list_by_position : (all : List FlattenedType) (lists : List EquationList) (none : EquationList) (name : List ℕ) → HasEquationKeys none
    → equations_in none ≡ [] → AreAllFormals all lists
    → IsListNamed all name (by_position none lists (position_of_name (names_of all) name))
list_by_position [] [] none name keyed empty are = (empty, none_over nothing.signature none keyed empty)
list_by_position [] (l ∷ ls) none name keyed empty are = absurd are
list_by_position (t ∷ ts) [] none name keyed empty are = absurd are
list_by_position (t ∷ ts) (l ∷ ls) none name keyed empty are =
    go (one_name t.mentioned.at.name name) (list_any (λ n. one_name n name) (names_of ts)) refl
    (list_by_position ts ls none name keyed empty are.1)
  where
    go : (b c : Bool) → list_any (λ n. one_name n name) (names_of ts) ≡ c
        → IsListNamed ts name (by_position none ls (position_of_name (names_of ts) name))
        → (equations_in
        (by_position none (l ∷ ls)
        (if b || c then Some (if b then 0 else suc (first_position (λ (n : List ℕ). one_name n name) (names_of ts))) else None))
        ≡ (if b then t.formals else formals_named ts name))
        × AreFormalsOver (if b then t.mentioned.presentation else presentation_named (mentioned_in ts) name).signature
        (by_position none (l ∷ ls)
        (if b || c then Some (if b then 0 else suc (first_position (λ (n : List ℕ). one_name n name) (names_of ts))) else None))
    go true c is later = are.0
    go false true is later =
        subst (λ (x : EquationList). IsListNamed ts name x)
        (ap (λ (d : Bool).
        by_position none ls (if d then Some (first_position (λ (n : List ℕ). one_name n name) (names_of ts)) else None)) is) later
    go false false is later =
        subst (λ (x : EquationList). IsListNamed ts name x)
        (ap (λ (d : Bool).
        by_position none ls (if d then Some (first_position (λ (n : List ℕ). one_name n name) (names_of ts)) else None)) is) later

pub list_here : (all : List FlattenedType) (types : FormalTypes) (name : List ℕ) (found : Option ℕ) (n : ℕ) (list : EquationList)
    → AreFormalTypes all types → found ≡ position_of_name (names_of all) name → found ≡ Some n
    → list ≡ list_at types.none (slice_get types.formals.items n) → IsListNamed all name list
list_here all types name found n list are is at here =
    subst (λ (x : EquationList). IsListNamed all name x)
    (ap (λ (o : Option ℕ). by_position types.none types.formals.items o) (sym is ∙ at) ∙ sym here)
    (list_by_position all types.formals.items types.none name are.none_keyed are.none_there are.formals)

pub list_nowhere : (all : List FlattenedType) (types : FormalTypes) (name : List ℕ) (found : Option ℕ) (list : EquationList)
    → AreFormalTypes all types → found ≡ position_of_name (names_of all) name → found ≡ None → list ≡ types.none
    → IsListNamed all name list
list_nowhere all types name found list are is at here =
    subst (λ (x : EquationList). IsListNamed all name x)
    (ap (λ (o : Option ℕ). by_position types.none types.formals.items o) (sym is ∙ at) ∙ sym here)
    (list_by_position all types.formals.items types.none name are.none_keyed are.none_there are.formals)

-- ---- With the presentation.

-- the presentation that was found is that of the type
pub presentation_is : (all : List FlattenedType) (types : FormalTypes) (name : List ℕ) (p : CodePresentation) → AreFormalTypes all types
    → presentation_of p ≡ presentation_named (presented_in types.types) name
    → presentation_of p ≡ presentation_named (mentioned_in all) name
presentation_is all types name p are is = is ∙ ap (λ (ms : List Mentioned). presentation_named ms name) are.types_are

pub over_found : (all : List FlattenedType) (types : FormalTypes) (name : List ℕ) (p : CodePresentation) (list : EquationList)
    → AreFormalTypes all types → presentation_of p ≡ presentation_named (presented_in types.types) name → IsListNamed all name list
    → AreFormalsOver (presentation_of p).signature list
over_found all types name p list are is named =
    subst (λ (q : Presentation). AreFormalsOver q.signature list) (sym (presentation_is all types name p are is)) named.1

-- ---- One more type.

pub with_one_type : (all : List FlattenedType) (t : FlattenedType) (old new : FormalTypes) (m : Mentioned) (list : EquationList)
    → AreFormalTypes all old → t.mentioned ≡ m → presented_in new.types ≡ presented_in old.types ++ m ∷ []
    → AreSoundTypes new.types → HasNames new.names (names_of all ++ m.at.name ∷ [])
    → new.formals.items ≡ old.formals.items ++ list ∷ [] → new.none ≡ old.none → t.formals ≡ equations_in list
    → AreFormalsOver m.presentation.signature list → AreFormalTypes (all ++ t ∷ []) new
with_one_type all t old new m list are is grown sound names pushed same formals over = record {
  types_are = grown ∙ ap (λ (ms : List Mentioned). ms ++ m ∷ []) are.types_are
      ∙ ap (λ (x : Mentioned). mentioned_in all ++ x ∷ []) (sym is)
      ∙ sym (map-append (λ (x : FlattenedType). x.mentioned) all (t ∷ []));
  sound = sound;
  names = subst (λ (ns : List (List ℕ)). HasNames new.names ns)
      (ap (λ (x : Mentioned). names_of all ++ x.at.name ∷ []) (sym is)
      ∙ sym (map-append (λ (x : FlattenedType). x.mentioned.at.name) all (t ∷ []))) names;
  formals = subst (λ (ls : List EquationList). AreAllFormals (all ++ t ∷ []) ls) (sym pushed)
      (one_more_list all old.formals.items t list are.formals (
        sym formals,
        subst (λ (x : Mentioned). AreFormalsOver x.presentation.signature list) (sym is) over,
      ));
  none_there = ap equations_in same ∙ are.none_there;
  none_keyed = subst (λ (l : EquationList). HasEquationKeys l) (sym same) are.none_keyed;
}

-- ---- Unions of what is named.

pub union_next : (all : List FlattenedType) (xs : List PlacedName) (x : PlacedName)
    → formals_of_union (map (with_formals_named all) (xs ++ x ∷ []))
    ≡ formals_joined (formals_of_union (map (with_formals_named all) xs)) (with_formals_named all x)
union_next all xs x =
    ap (λ (ws : List WithFormals). formals_of_union ws) (map-append (with_formals_named all) xs (x ∷ []))
    ∙ fold-append formals_joined no_formals (map (with_formals_named all) xs) (with_formals_named all x ∷ [])
