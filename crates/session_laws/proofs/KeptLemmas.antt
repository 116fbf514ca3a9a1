-- Whatever comes of a text that stands for a specification, something with the places of the text is kept of it on the way.
use Rattle.std.proofs.Common.{◌≡◌, inl, inr, ℕ, List, [], ◌∷◌, ◌++◌, Option, Some, refl, ap, sym, subst}
use Rattle.lotos_base.specs.Equation.{Data}
use Rattle.syntax_trees.specs.WrittenDefinition.{WrittenSpecification}
use Rattle.behaviour_semantics.specs.Behaviour.{Specification}
use Rattle.behaviour_tree.specs.declared.definitions.Spec.{Spec}
use Rattle.type_definitions.specs.DeclaredTypes.{types_of}
use Rattle.lotos_top.specs.HandedOn.{Files, GotFile, AreGotFrom, Comes, goes_on, unread, stops, wants_memory, Part, Then, ends_both, EndsSo, IsDetermined, Lacks, Founded, IsFounded, FoundedBy, Founds, Gathered, GetsFile, is_got, ReadsSpecification, Gathers, Flattens, Resolves, StandsFor, Breaks, scopes_told, HaveData, HaveFault, types_told, KeepsSpecification, FunctionalityFault, differ_at, Disagree, Refused}
use Rattle.lotos_top.proofs.HandedOn.{AfterScopes, AfterData, AfterTypes, value_or, looks_determined, gets_determined, front, back, reads_determined, gathers_determined, types_are_decided, scopes_are_decided}
use Rattle.session_laws.specs.ReadBack.{IsResolvedAs}

-- ---- Behind a part that goes on

module _ (got : Files) where
  -- what comes next
  pub record Behind {E B : Type 0} (next : Part E B) (comes : Comes E B) : Type 0 where
    pub later : List GotFile
    pub came : next later comes
    pub got_later : AreGotFrom got later

  -- a part that goes on ends nothing
  never_ends : {E A B : Type 0} (First : Part E A) (a : A) (first files : List GotFile) (comes : Comes E B) → IsDetermined got First
      → First first (goes_on a) → AreGotFrom got first → EndsSo First files (ends_both {E = E} {A = A} {B = B} comes)
      → AreGotFrom got files → Lacks got comes → ⊥
  never_ends First a first files (goes_on b) determined is firsts ends all lacks = ends
  never_ends First a first files (unread name) determined is firsts ends all lacks =
      let no = (determined first files (goes_on a) (unread name) is ends firsts all tt lacks).1 in cc no
  never_ends First a first files (stops e) determined is firsts ends all lacks =
      let no = (determined first files (goes_on a) (stops e) is ends firsts all tt tt).1 in cc no
  never_ends First a first files wants_memory determined is firsts ends all lacks = lacks

  behind_first : {E A B : Type 0} (First : Part E A) (next : A → Part E B) (a : A) (first files : List GotFile) (comes : Comes E B)
      → IsDetermined got First → First first (goes_on a) → AreGotFrom got first → Then First next files comes → AreGotFrom got files
      → Lacks got comes → Behind (next a) comes
  behind_first First next a first files comes determined is firsts (inl ends) all lacks =
      absurd (never_ends First a first files comes determined is firsts ends all lacks)
  behind_first {E} {A} First next a first files comes determined is firsts (inr then_) all lacks =
      let parts : AreGotFrom got (then_.1 ++ then_.2) = subst (λ (xs : List GotFile). AreGotFrom got xs) then_.5 all in
      let one : goes_on a ≡ goes_on then_.0 =
      (determined first then_.1 (goes_on a) (goes_on then_.0) is then_.3 firsts (front got then_.1 then_.2 parts) tt tt).1 in
      let same : a ≡ then_.0 = ap (λ (c : Comes E A). value_or a c) one in
      record {
        later = then_.2;
        came = subst (λ (x : A). next x then_.2 comes) (sym same) then_.4;
        got_later = back got then_.1 then_.2 parts;
      }

-- ---- What is kept

pub record IsKept (data_ : Data) (tree : WrittenSpecification) (spec : Specification) : Type 0 where
  pub kept : Spec
  pub keeps : KeepsSpecification data_ tree spec kept

disagreement_keeps : (data_ : Data) (tree : WrittenSpecification) (spec : Specification) (fault : FunctionalityFault)
    → Disagree data_ tree spec fault → IsKept data_ tree spec
disagreement_keeps data_ tree spec (differ_at place left right) is = record { kept = is.0; keeps = is.1 }

module _ (got : Files) (order : Option (List ℕ)) (gathered : Gathered) (data_ : Data) (tree : WrittenSpecification)
    (spec : Specification) where
  kept_behind : (files : List GotFile) (comes : Comes Refused Founded) → AfterScopes order tree gathered data_ spec files comes
      → Lacks got comes → IsKept data_ tree spec
  kept_behind files comes (inr then_) lacks = record { kept = then_.3.1.1.0; keeps = then_.3.1.1.1 }
  kept_behind files (goes_on founded) (inl ends) lacks = absurd ends
  kept_behind files (unread name) (inl ends) lacks = absurd ends
  kept_behind files (stops told) (inl ends) lacks = disagreement_keeps data_ tree spec ends.1.0 ends.1.1
  kept_behind files wants_memory (inl ends) lacks = absurd lacks

abbrev named : (name bytes : List ℕ) → GotFile
named name bytes = record { name = name; bytes = bytes }

pub kept_there : (got : Files) (name : List ℕ) (order : Option (List ℕ)) (text : List ℕ) (data_ : Data) (spec : Specification)
    (resolved : IsResolvedAs text data_ spec) → got name ≡ Some text → (files : List GotFile) (comes : Comes Refused Founded)
    → IsFounded name order files comes → AreGotFrom got files → Lacks got comes → IsKept data_ resolved.tree spec
kept_there got name order text data_ spec resolved there files comes is all lacks =
    let tree : WrittenSpecification = resolved.tree in
    let gathered : Gathered = resolved.gathered in
    let gets = behind_first got (GetsFile name) (λ bytes. Founds bytes order) text (named name text ∷ []) files comes
    (gets_determined name got) (is_got text) (there, tt) is all lacks in
    let reads = behind_first got (ReadsSpecification text) (λ read. FoundedBy order read) tree [] gets.later comes
    (reads_determined text got) resolved.read tt gets.came gets.got_later lacks in
    let gathers = behind_first got (Gathers tree) (λ g. AfterTypes order tree g) gathered [] reads.later comes
    (gathers_determined tree got) resolved.gathers tt reads.came reads.got_later lacks in
    let flattens = behind_first got (Flattens gathered) (λ d. AfterData order tree gathered d) data_ [] gathers.later comes
    (looks_determined (HaveData (types_of gathered.types)) (HaveFault (types_of gathered.types)) (types_told gathered.read) got
    (types_are_decided (types_of gathered.types)))
    (refl, resolved.has_data) tt gathers.came gathers.got_later lacks in
    let resolves = behind_first got (Resolves gathered data_ tree) (λ s. AfterScopes order tree gathered data_ s) spec [] flattens.later
    comes
    (looks_determined (StandsFor data_ tree) (Breaks data_ tree) (scopes_told gathered.read data_) got (scopes_are_decided data_ tree))
    (refl, resolved.stands) tt flattens.came flattens.got_later lacks in
    kept_behind got order gathered data_ tree spec resolves.later comes resolves.came lacks
