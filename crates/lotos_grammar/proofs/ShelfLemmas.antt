-- Files that a shelf gave one after another.
use Rattle.std.proofs.Common.{subst, refl, ap, sym, ◌∙◌, ◌≡◌, ℕ, List, [], ◌∷◌, ◌++◌, All, ◌⊎◌, Option, None, IfSome, IsSomeAnd, inl, inr, Err}
use Rattle.std.proofs.lemmas.List.Elements.{All-append, All-nil}
use Rattle.lotos_base.specs.Counts.{Rises, next_count}
use Rattle.lotos_base.specs.Outside.{Texts, GetCounts}
use Rattle.lotos_base.specs.declared.faults.GetFault.{GetFault}
use Rattle.lotos_base.specs.declared.faults.GetFault.TheVariants as get_fault
use Rattle.lotos_grammar.specs.Gathering.{GotFile}
use Rattle.lotos_grammar.specs.ShelfUse.{ShelfState, calls_after, IsFileOf, Gives, GivesAndLacks, GivesSome}

calls_after_more : (files more : List GotFile) (calls : ℕ) → calls_after (files ++ more) calls ≡ calls_after more (calls_after files calls)
calls_after_more [] more calls = refl
calls_after_more (file ∷ files) more calls = calls_after_more files more (next_count calls)

-- nothing was got
pub gives_nothing : (s : ShelfState) → Gives s s []
gives_nothing s = record { texts = refl; content = All-nil (IsFileOf s.texts); faults = refl; calls = refl }

content_from : (told other : Option Texts) (files : List GotFile) → other ≡ told → All (IsFileOf other) files → All (IsFileOf told) files
content_from told other files same all = subst (λ (t : Option Texts). All (IsFileOf t) files) same all

pub gives_then : (a b c : ShelfState) (files more : List GotFile) → Gives a b files → Gives b c more → Gives a c (files ++ more)
gives_then a b c files more first second = record {
  texts = second.texts ∙ first.texts;
  content = All-append (IsFileOf a.texts) files more first.content (content_from a.texts b.texts more first.texts second.content);
  faults = second.faults ∙ first.faults;
  calls = second.calls ∙ ap (calls_after more) first.calls ∙ sym (calls_after_more files more a.calls);
}

lacks_from : (a b : ShelfState) (after : ℕ) (name : List ℕ) → b.texts ≡ a.texts → b.faults ≡ a.faults →
    Rises b.faults after ⊎ ((after ≡ b.faults) × IsSomeAnd b.texts (λ texts. texts name ≡ None)) →
    Rises a.faults after ⊎ ((after ≡ a.faults) × IsSomeAnd a.texts (λ texts. texts name ≡ None))
lacks_from a b after name texts faults cause = rw (sym texts, sym faults) cause

pub gives_then_lacks : (a b c : ShelfState) (files more : List GotFile) (name : List ℕ) → Gives a b files → GivesAndLacks b c more name →
    GivesAndLacks a c (files ++ more) name
gives_then_lacks a b c files more name first second = record {
  texts = second.texts ∙ first.texts;
  content = All-append (IsFileOf a.texts) files more first.content (content_from a.texts b.texts more first.texts second.content);
  cause = lacks_from a b c.faults name first.texts first.faults second.cause;
  calls = second.calls ∙ ap (λ calls. next_count (calls_after more calls)) first.calls
      ∙ ap next_count (sym (calls_after_more files more a.calls));
}

some_calls : (first second after : ℕ) (files more : List GotFile) (Here There : Type 0) → (Here → There)
    → second ≡ calls_after files first
    → (after ≡ calls_after more second) ⊎ (Here × (after ≡ next_count (calls_after more second)))
    → (after ≡ calls_after (files ++ more) first) ⊎ (There × (after ≡ next_count (calls_after (files ++ more) first)))
some_calls first second after files more Here There leads counted (inl is) =
    inl (is ∙ ap (calls_after more) counted ∙ sym (calls_after_more files more first))
some_calls first second after files more Here There leads counted (inr is) = inr (
  leads is.0,
  is.1 ∙ ap (λ calls. next_count (calls_after more calls)) counted ∙ ap next_count (sym (calls_after_more files more first)),
)

-- it gave some files, and then some more until memory was wanted
pub gives_then_some : (a b c : ShelfState) (files more : List GotFile) (Here There : Type 0) → (Here → There) → Gives a b files
    → GivesSome b c more Here → GivesSome a c (files ++ more) There
gives_then_some a b c files more Here There leads first second = record {
  texts = second.texts ∙ first.texts;
  content = All-append (IsFileOf a.texts) files more first.content (content_from a.texts b.texts more first.texts second.content);
  faults = second.faults ∙ first.faults;
  calls = some_calls a.calls b.calls c.calls files more Here There leads first.calls second.calls;
}

-- it gave them, and memory was wanted behind that
pub gives_some : (a b : ShelfState) (files : List GotFile) (More : Type 0) → Gives a b files → GivesSome a b files More
gives_some a b files More is = record { texts = is.texts; content = is.content; faults = is.faults; calls = inl is.calls }

-- what is asked for behind them, said of more
pub some_within : (a b : ShelfState) (files : List GotFile) (Here There : Type 0) → (Here → There) → GivesSome a b files Here
    → GivesSome a b files There
some_within a b files Here There leads is = gives_then_some a a b [] files Here There leads (gives_nothing a) is

-- memory was wanted before a file was got, or by the call that was to get it
pub wanted_uncalled : (s : ShelfState) → GivesSome s s [] (Unit {0})
wanted_uncalled s = gives_some s s [] (Unit {0}) (gives_nothing s)

wanted_called : (a b : ShelfState) → b.texts ≡ a.texts → b.faults ≡ a.faults → b.calls ≡ next_count a.calls
    → GivesSome a b [] (Unit {0})
wanted_called a b texts faults calls = record {
  texts = texts;
  content = All-nil (IsFileOf a.texts);
  faults = faults;
  calls = inr (tt, calls);
}

pub wanted_by_get : (T : Type 0) (a b : ShelfState) (fault : GetFault) → b.texts ≡ a.texts → fault ≡ get_fault.NoMemory
    → GetCounts {T = T} (Err fault) a.faults b.faults → b.calls ≡ next_count a.calls → GivesSome a b [] (Unit {0})
wanted_by_get T a b fault texts is counts calls =
    wanted_called a b texts (subst (λ (e : GetFault). GetCounts {T = T} (Err e) a.faults b.faults) is counts) calls
