-- The one reading of a sort, built from the tables.
use Rattle.std.proofs.Common.{◌≡◌, ℕ, Bool, true, false, List, [], ◌∷◌, refl, ap, sym, ◌∙◌, subst}
use Rattle.std.specs.Prelude.{Option, Some, None}
use Rattle.lotos_base.specs.WrittenTerm.{WrittenTerm, WrittenTerms, WrittenHead, written, no_written, written_then}
use Rattle.lotos_base.specs.Signature.{Signature, IsSort}
use Rattle.lotos_base.specs.Equation.{Variable as DeclaredVariable}
use Rattle.lotos_base.specs.Term.{Term, Terms, variable, node, no_terms, term_then}
use Rattle.sort_terms.specs.Counting.{IsOnly}
use Rattle.sort_terms.specs.ProfiledTerm.{ProfiledTerm, ProfiledTerms, profiled_variable, profiled_node, no_profiled_terms, profiled_term_then, bare, all_bare, head_sort, FitsProfiles, FitArguments, IsOf, AreOf}
use Rattle.sort_terms.specs.Reading.{Reads, AllRead, IsScopeOver}
use Rattle.sort_terms.specs.Tables.{Table, Tables, table, no_tables, table_then, built_from, all_built_from}
use Rattle.sort_terms.specs.Suiting.{source_of, Means, MeansSome, Suits, AllSuit}
use Rattle.sort_terms.specs.declared.choices.Choice.{Choice}
use Rattle.sort_terms.specs.declared.choices.Source.{Source}

-- the term with profiles is that term, of the signature and of the sort
pub record IsBuilt (signature : Signature) (u : Term) (s : ℕ) (p : ProfiledTerm) : Type 0 where
  pub bare_is : bare p ≡ u
  pub is_of : IsOf signature p
  pub fits : FitsProfiles p
  pub headed : head_sort p ≡ s

abbrev pub Built : Signature → Term → ℕ → Option ProfiledTerm → Type 0
Built signature u s o = (p : ProfiledTerm) × (o ≡ Some p) × IsBuilt signature u s p

abbrev pub BuiltAll : Signature → Terms → List ℕ → Option ProfiledTerms → Type 0
BuiltAll signature us ss o =
    (ps : ProfiledTerms) × (o ≡ Some ps) × (all_bare ps ≡ us) × AreOf signature ps × FitArguments ps ss

-- an argument list that is the only one has only parts
only_first : (P : Term → Type 0) (Q R : Terms → Type 0) (u : Term) (us : Terms) →
    ((x : Term) (xs : Terms) → P x → Q xs → R (term_then x xs))
    → P u → Q us → IsOnly R (term_then u us) → IsOnly P u
only_first P Q R u us make p q only = record {
  is_answer = p;
  only = λ x h. let same : term_then x us ≡ term_then u us = only.only (term_then x us) (make x us h q) in cc;
}

only_rest : (P : Term → Type 0) (Q R : Terms → Type 0) (u : Term) (us : Terms) → ((x : Term) (xs : Terms) → P x → Q xs → R (term_then x xs))
    → P u → Q us → IsOnly R (term_then u us) → IsOnly Q us
only_rest P Q R u us make p q only = record {
  is_answer = q;
  only = λ xs h. let same : term_then u xs ≡ term_then u us = only.only (term_then u xs) (make u xs p h) in cc;
}

-- what is known where there is only one
single : (P : Term → Type 0) (u : Term) → IsOnly P u → (source : Source) (several : Bool) → MeansSome P source several → source_of u
    ≡ source
single P u only source true two =
    let one : two.one ≡ u = only.only two.one two.one_is in
    let other : two.other ≡ u = only.only two.other two.other_is in
    absurd (two.differ (one ∙ sym other))
single P u only source false one = ap source_of (one.1.only u only.is_answer) ∙ one.2

known : (P : Term → Type 0) (u : Term) → IsOnly P u → (o : Option Choice) → Means P o → (c : Choice) × (o ≡ Some c) ×
    (source_of u ≡ c.source)
known P u only None none = absurd (none u only.is_answer)
known P u only (Some c) some = (c, refl, single P u only c.source c.several some)

built_node : (signature : Signature) (scope : List DeclaredVariable) (head : WrittenHead) (ws : WrittenTerms) (choices : ℕ → Option Choice)
    (ts : Tables) → IsScopeOver signature scope
    → ((us : Terms) (ss : List ℕ) → IsOnly (λ xs. AllRead signature scope ws xs ss) us → BuiltAll signature us ss
    (all_built_from signature ts ss))
    → (s : ℕ) (c : Choice) (u : Term) → choices s ≡ Some c → IsOnly (λ x. Reads signature scope (written head ws) x s) u
    → source_of u ≡ c.source → Built signature u s (built_from signature (table choices ts) s)
built_node signature scope head ws choices ts over below s c (variable n r) at only is =
    let v = only.is_answer.0 in
    let known_sort : IsSort signature s =
    subst (λ (q : ℕ). IsSort signature q) (v.sorted ∙ only.is_answer.1) (over v.last.position v.declared v.last.found) in (
      profiled_variable n s,
      rw at (rw (sym is) refl),
      record {
        bare_is = ap (λ (q : ℕ). variable n q) (sym only.is_answer.1);
        is_of = known_sort;
        fits = tt;
        headed = refl;
      },
    )
built_node signature scope head ws choices ts over below s c (node f us) at only is =
    let operation = only.is_answer.0 in
    let there = only.is_answer.1 in
    let arguments = below us operation.arguments (record {
      is_answer = only.is_answer.3;
      only = λ xs h.
          let same : node f xs ≡ node f us = only.only (node f xs) (operation, there, only.is_answer.2, h) in
          cc;
    }) in (
      profiled_node f operation arguments.0,
      rw at (rw (sym is) (rw there.is_there (rw arguments.1 refl))),
      record {
        bare_is = ap (λ (xs : Terms). node f xs) arguments.2;
        is_of = (there.is_there, arguments.3);
        fits = arguments.4;
        headed = only.is_answer.2;
      },
    )

no_arguments : (signature : Signature) (scope : List DeclaredVariable) (us : Terms) → AllRead signature scope no_written us []
    → no_terms ≡ us
no_arguments signature scope no_terms h = refl
no_arguments signature scope (term_then u us) h = absurd h

missing_arguments : (signature : Signature) (scope : List DeclaredVariable) (us : Terms) (s : ℕ) (ss : List ℕ)
    → AllRead signature scope no_written us (s ∷ ss) → ⊥
missing_arguments signature scope no_terms s ss h = h
missing_arguments signature scope (term_then u us) s ss h = h

surplus_arguments : (signature : Signature) (scope : List DeclaredVariable) (w : WrittenTerm) (ws : WrittenTerms) (us : Terms)
    → AllRead signature scope (written_then w ws) us [] → ⊥
surplus_arguments signature scope w ws no_terms h = h
surplus_arguments signature scope w ws (term_then u us) h = h

mutual
  -- the only reading of a sort is what the table tells
  pub built_one : (signature : Signature) (scope : List DeclaredVariable) → IsScopeOver signature scope → (w : WrittenTerm) (t : Table)
      → Suits signature scope w t → (s : ℕ) (u : Term) → IsOnly (λ x. Reads signature scope w x s) u
      → Built signature u s (built_from signature t s)
  built_one signature scope over (written head ws) (table choices ts) suits s u only =
      let is = known (λ x. Reads signature scope (written head ws) x s) u only (choices s) (suits.0 s) in
      built_node signature scope head ws choices ts over
      (λ us ss h. built_all signature scope over ws ts suits.1 ss us h) s is.0 u is.1 only is.2

  -- and so are the only arguments
  pub built_all : (signature : Signature) (scope : List DeclaredVariable) → IsScopeOver signature scope → (ws : WrittenTerms) (ts : Tables)
      → AllSuit signature scope ws ts → (ss : List ℕ) (us : Terms) → IsOnly (λ xs. AllRead signature scope ws xs ss) us
      → BuiltAll signature us ss (all_built_from signature ts ss)
  built_all signature scope over no_written no_tables suits [] us only =
      (no_profiled_terms, refl, no_arguments signature scope us only.is_answer, tt, tt)
  built_all signature scope over no_written no_tables suits (s ∷ ss) us only =
      absurd (missing_arguments signature scope us s ss only.is_answer)
  built_all signature scope over no_written (table_then t ts) suits ss us only = absurd suits
  built_all signature scope over (written_then w ws) no_tables suits ss us only = absurd suits
  built_all signature scope over (written_then w ws) (table_then t ts) suits [] us only =
      absurd (surplus_arguments signature scope w ws us only.is_answer)
  built_all signature scope over (written_then w ws) (table_then t ts) suits (s ∷ ss) no_terms only = absurd only.is_answer
  built_all signature scope over (written_then w ws) (table_then t ts) suits (s ∷ ss) (term_then u us) only =
      let first = built_one signature scope over w t suits.0 s u
      (only_first (λ x. Reads signature scope w x s) (λ xs. AllRead signature scope ws xs ss)
      (λ xs. AllRead signature scope (written_then w ws) xs (s ∷ ss)) u us (λ x xs p q. (p, q)) only.is_answer.0 only.is_answer.1 only) in
      let rest = built_all signature scope over ws ts suits.1 ss us
      (only_rest (λ x. Reads signature scope w x s) (λ xs. AllRead signature scope ws xs ss)
      (λ xs. AllRead signature scope (written_then w ws) xs (s ∷ ss)) u us (λ x xs p q. (p, q)) only.is_answer.0 only.is_answer.1 only) in (
        profiled_term_then first.0 rest.0,
        rw first.1 (rw rest.1 refl),
        ap (λ (x : Term). term_then x (all_bare rest.0)) first.2.bare_is ∙ ap (λ (xs : Terms). term_then u xs) rest.2,
        (first.2.is_of, rest.3),
        (first.2.headed, first.2.fits, rest.4),
      )
