-- What the code's written terms and counted terms are seen as; the readings of a node by what its arguments have.
use Rattle.std.proofs.Common.{◌≡◌, ℕ, ◌+◌, ◌<◌, Bor, get_or, List, [], ◌∷◌, ◌++◌, map, length, refl, ap, sym, ◌∙◌, subst, arith}
use Rattle.std.specs.Prelude.{Option, Some, None, slice_get, MatchOption}
use Rattle.std.proofs.lemmas.Option.{same_Some, slice_get-get_or, slice_get_within}
use Rattle.std.proofs.lemmas.List.{length-map}
use Rattle.lotos_base.proofs.Members.{from_map, at_map}
use Rattle.lotos_base.specs.Name.{spelling}
use Rattle.lotos_base.specs.WrittenLaws.{head_of}
use Rattle.lotos_base.specs.WrittenTerm.{WrittenTerm, WrittenTerms, written, written_terms}
use Rattle.lotos_base.specs.WrittenView.{form_of, written_node_of, written_term_of, written_terms_of}
use Rattle.lotos_base.specs.declared.written_terms.Written.{Written, out-Written}
use Rattle.lotos_base.specs.declared.written_terms.Written.TheFolds.{fold_out-Written}
use Rattle.lotos_base.specs.declared.written_terms.Form.{Form}
use Rattle.lotos_base.specs.declared.written_terms.Form.TheVariants.{Prefix, Infix}
use Rattle.lotos_base.specs.Names.{folded, AreOneName}
use Rattle.lotos_base.specs.Signature.{Signature, Operation as PlainOperation, IsOperation, prefix_form}
use Rattle.lotos_base.specs.Equation.{Variable as DeclaredVariable}
use Rattle.lotos_base.specs.Term.{Term}
use Rattle.sort_terms.specs.Positions.{positions_of}
use Rattle.sort_terms.specs.Reading.{Reads, IsBare, IsVisible, IsLastNamed, NoneNamed}
use Rattle.sort_terms.specs.Tables.{Table, Tables, table, gathered, operation_offered, only_variable}
use Rattle.sort_terms.specs.TableView.{table_level, table_of, tables_of}
use Rattle.sort_terms.specs.Suiting.{source_of, Means, Suits, AllSuit}
use Rattle.sort_terms.specs.ChoicesView.{choice_at}
use Rattle.sort_terms.specs.EquationView.{variable_of}
use Rattle.sort_terms.specs.declared.asked.Asked.{Asked}
use Rattle.sort_terms.specs.declared.equations.Variable.{Variable}
use Rattle.sort_terms.specs.declared.operations.Op.{Op}
use Rattle.sort_terms.specs.declared.choices.Choice.{Choice}
use Rattle.sort_terms.specs.declared.choices.Source.TheVariants.{Operation as FromOperation}
use Rattle.sort_terms.proofs.MeaningLemmas.{HeadIn}
use Rattle.sort_terms.specs.declared.counted.Counted.{Counted, out-Counted}
use Rattle.sort_terms.specs.declared.counted.Counted.TheOpen.{Counted-F}
use Rattle.sort_terms.specs.declared.counted.Counted.TheViews.{out-roll-Counted, roll-Counted}
use Rattle.sort_terms.specs.declared.counted.Counted.TheFolds.{fold_out-Counted}
use Rattle.sort_terms.proofs.NodeLemmas.{AllowsAsked, node_means, variable_means}
use Rattle.sort_terms.proofs.PositionMembers.{position_is, positions_apart, position_there}

-- the arguments of the code's written term
abbrev pub arguments_of : Written → WrittenTerms
arguments_of w = written_terms (written_terms_of (out-Written w).args.items)

-- a written term is seen by its head and its arguments
pub written_opened : (w : Written) → written_term_of w ≡ written (head_of w) (arguments_of w)
written_opened w = fold_out-Written WrittenTerm written_node_of w

-- a counted term is seen by its choices and its arguments
pub counted_opened : (a : Counted) → table_of a ≡ table (choice_at (out-Counted a).choices) (tables_of (out-Counted a).arguments.items)
counted_opened a = fold_out-Counted Table table_level a

-- a node that is a variable
pub variable_node : (signature : Signature) (scope : List DeclaredVariable) (w : Written) (asked : Asked) (v : DeclaredVariable)
    (choices : ℕ → Option Choice) → AllowsAsked signature (head_of w) asked → IsBare (head_of w) (arguments_of w)
    → IsLastNamed scope (head_of w).name v → ((s : ℕ) → choices s ≡ only_variable asked v s)
    → (s : ℕ) → Means (λ t. Reads signature scope (written_term_of w) t s) (choices s)
variable_node signature scope w asked v choices asks bare last are s =
    subst (λ (x : WrittenTerm). Means (λ t. Reads signature scope x t s) (choices s)) (sym (written_opened w))
    (subst (λ (c : Option Choice). Means (λ t. Reads signature scope (written (head_of w) (arguments_of w)) t s) c) (sym (are s))
    (variable_means signature scope (head_of w) (arguments_of w) asked v asks bare last s))

-- a node that is an operation
pub operation_node : (signature : Signature) (scope : List DeclaredVariable) (w : Written) (ts : Tables) (asked : Asked)
    (choices : ℕ → Option Choice) → AllSuit signature scope (arguments_of w) ts → AllowsAsked signature (head_of w) asked
    → IsVisible scope (head_of w) (arguments_of w)
    → ((s : ℕ) → choices s ≡ gathered (operation_offered signature (head_of w).form asked ts) s None
    (positions_of (folded (head_of w).name) (map (λ o. o.name) signature.operations)))
    → (s : ℕ) → Means (λ t. Reads signature scope (written_term_of w) t s) (choices s)
operation_node signature scope w ts asked choices suits asks visible are s =
    subst (λ (x : WrittenTerm). Means (λ t. Reads signature scope x t s) (choices s)) (sym (written_opened w))
    (subst (λ (c : Option Choice). Means (λ t. Reads signature scope (written (head_of w) (arguments_of w)) t s) c) (sym (are s))
    (node_means signature scope (head_of w) (arguments_of w) ts asked suits asks visible
    (positions_of (folded (head_of w).name) names) (positions_apart 0 (folded (head_of w).name) names) sound complete s))
  where
    names : List (List ℕ)
    names = map (λ o. o.name) signature.operations

    sound : (i f : ℕ) → slice_get (positions_of (folded (head_of w).name) names) i ≡ Some f
        → (o : PlainOperation) × IsOperation signature f o × AreOneName o.name (head_of w).name
    sound i f found =
        let at = position_is 0 (folded (head_of w).name) names i f found in
        let member = from_map (λ (o : PlainOperation). o.name) signature.operations at.0 at.1 at.3 in
        let here : at.0 ≡ f = sym (at.2 ∙ omega arith) in
        (member.0, subst (λ (n : ℕ). IsOperation signature n member.0) here member.1, ap folded member.2 ∙ sym at.4)

    complete : (f : ℕ) (o : PlainOperation) (t : Term) → IsOperation signature f o → AreOneName o.name (head_of w).name
        → source_of t ≡ FromOperation f → HeadIn (positions_of (folded (head_of w).name) names) t
    complete f o t there named is =
        position_there 0 (folded (head_of w).name) names f f o.name t (omega arith)
        (at_map (λ (p : PlainOperation). p.name) signature.operations f o there) (sym named) is

rolled : (r : Counted-F Counted) → table_of (roll-Counted r) ≡ table (choice_at r.choices) (tables_of r.arguments.items)
rolled r = counted_opened (roll-Counted r) ∙ ap (λ (n : Counted-F Counted). table (choice_at n.choices) (tables_of n.arguments.items))
    (out-roll-Counted r)

-- the same for a counted term that is made
pub suits_made : (signature : Signature) (scope : List DeclaredVariable) (w : Written) (r : Counted-F Counted)
    → ((s : ℕ) → Means (λ t. Reads signature scope (written_term_of w) t s) (choice_at r.choices s))
    → AllSuit signature scope (arguments_of w) (tables_of r.arguments.items)
    → Suits signature scope (written_term_of w) (table_of (roll-Counted r))
suits_made signature scope w r means all =
    subst (λ (t : Table). Suits signature scope (written_term_of w) t) (sym (rolled r))
    (subst (λ (x : WrittenTerm). Suits signature scope x (table (choice_at r.choices) (tables_of r.arguments.items)))
    (sym (written_opened w)) (
      (λ s. subst (λ (x : WrittenTerm). Means (λ t. Reads signature scope x t s) (choice_at r.choices s)) (written_opened w)
          (means s)),
      all,
    ))

-- one argument more
all_suit-append : (signature : Signature) (scope : List DeclaredVariable) (ws : List Written) (cs : List Counted) (w : Written)
    (c : Counted)
    → AllSuit signature scope (written_terms (written_terms_of ws)) (tables_of cs) → Suits signature scope (written_term_of w) (table_of c)
    → AllSuit signature scope (written_terms (written_terms_of (ws ++ w ∷ []))) (tables_of (cs ++ c ∷ []))
all_suit-append signature scope [] [] w c all suits = (suits, tt)
all_suit-append signature scope [] (d ∷ cs) w c all suits = absurd all
all_suit-append signature scope (v ∷ ws) [] w c all suits = absurd all
all_suit-append signature scope (v ∷ ws) (d ∷ cs) w c all suits = (all.0, all_suit-append signature scope ws cs w c all.1 suits)

pub all_suit_more : (signature : Signature) (scope : List DeclaredVariable) (before after : List Written) (old new : List Counted)
    (w : Written)
    (c : Counted) → after ≡ before ++ w ∷ [] → new ≡ old ++ c ∷ []
    → AllSuit signature scope (written_terms (written_terms_of before)) (tables_of old)
    → Suits signature scope (written_term_of w) (table_of c)
    → AllSuit signature scope (written_terms (written_terms_of after)) (tables_of new)
all_suit_more signature scope before after old new w c is made all suits =
    subst (λ (xs : List Written). AllSuit signature scope (written_terms (written_terms_of xs)) (tables_of new)) (sym is)
    (subst (λ (ys : List Counted). AllSuit signature scope (written_terms (written_terms_of (before ++ w ∷ []))) (tables_of ys)) (sym made)
    (all_suit-append signature scope before old w c all suits))

-- names of operations are spellings of the code's
pub mapped_names : {A B C : Type 0} (f : A → B) (g : B → C) (h : A → C) (xs : List A) → ((x : A) → g (f x) ≡ h x)
    → map g (map f xs) ≡ map h xs
mapped_names f g h [] same = refl
mapped_names f g h (x ∷ xs) same = ap (λ y. y ∷ map g (map f xs)) (same x) ∙ ap (λ ys. h x ∷ ys) (mapped_names f g h xs same)

-- the number is that of an operation
pub number_below : (ops : List Op) (key numbers : List ℕ) (i : ℕ) → numbers ≡ positions_of key (map (λ o. spelling o.name) ops)
    → i < length numbers → get_or numbers i 0 < length ops
number_below ops key numbers i are within =
    let found : slice_get (positions_of key (map (λ o. spelling o.name) ops)) i ≡ Some (get_or numbers i 0) =
    ap (λ (ns : List ℕ). slice_get ns i) (sym are) ∙ slice_get-get_or numbers i 0 within in
    let at = position_is 0 key (map (λ o. spelling o.name) ops) i (get_or numbers i 0) found in
    let inside : at.0 < length (map (λ o. spelling o.name) ops) = slice_get_within (map (λ o. spelling o.name) ops) at.0 at.1 at.3 in
    let as_many : length (map (λ o. spelling o.name) ops) ≡ length ops = length-map ops (λ o. spelling o.name) in
    let is : get_or numbers i 0 ≡ 0 + at.0 = at.2 in
    omega arith

-- what a match of an option says in each case
pub of_none : {A : Type 0} (o : Option A) (P : Type 0) (Q : A → Type 0) → o ≡ None → MatchOption o P Q → P
of_none None P Q e h = h
of_none (Some x) P Q e h = cc

pub of_some : {A : Type 0} (o : Option A) (P : Type 0) (Q : A → Type 0) (x : A) → o ≡ Some x → MatchOption o P Q → Q x
of_some None P Q x e h = cc
of_some (Some y) P Q x e h = subst (λ z. Q z) (same_Some _ _ e) h

-- the last variable of a bare name
pub bare_variable : (scope : List DeclaredVariable) (w : Written) (found : Option (Bor Variable)) → IsBare (head_of w) (arguments_of w)
    → MatchOption found (NoneNamed scope (head_of w).name) (λ v. IsLastNamed scope (head_of w).name (variable_of v.now))
    → MatchOption found (IsVisible scope (head_of w) (arguments_of w))
    (λ v. IsBare (head_of w) (arguments_of w) × IsLastNamed scope (head_of w).name (variable_of v.now))
bare_variable scope w None bare none = λ b. none
bare_variable scope w (Some v) bare last = (bare, last)

-- what is bare, and what is not
pub bare_of : (w : Written) → (out-Written w).form ≡ Prefix → ¬ (0 < length (out-Written w).args.items) → IsBare (head_of w)
    (arguments_of w)
bare_of w is none = go (out-Written w).args.items none
  where
    go : (ws : List Written) → ¬ (0 < length ws) → IsBare (head_of w) (written_terms (written_terms_of ws))
    go [] none = ap form_of is
    go (v ∷ ws) none = absurd (none (omega arith))

pub infix_visible : (scope : List DeclaredVariable) (w : Written) → ¬ ((out-Written w).form ≡ Prefix) → IsVisible scope (head_of w)
    (arguments_of w)
infix_visible scope w other bare = absurd (go (out-Written w).args.items bare)
  where
    prefixed : (f : Form) → form_of f ≡ prefix_form → f ≡ Prefix
    prefixed Prefix e = refl
    prefixed Infix e = cc

    go : (ws : List Written) → IsBare (head_of w) (written_terms (written_terms_of ws)) → ⊥
    go [] bare = other (prefixed (out-Written w).form bare)
    go (v ∷ ws) bare = bare

pub applied_visible : (scope : List DeclaredVariable) (w : Written) → 0 < length (out-Written w).args.items
    → IsVisible scope (head_of w) (arguments_of w)
applied_visible scope w some bare = absurd (go (out-Written w).args.items some bare)
  where
    go : (ws : List Written) → 0 < length ws → IsBare (head_of w) (written_terms (written_terms_of ws)) → ⊥
    go [] some bare = omega arith
    go (v ∷ ws) some bare = bare
