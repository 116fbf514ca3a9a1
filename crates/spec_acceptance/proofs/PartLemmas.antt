-- Parts are determined, and where memory is wanted the first ones of the files were got.
use Rattle.std.proofs.Common.{refl, ap, sym, ◌∙◌, ◌≡◌, inl, inr, subst, List, [], ◌++◌, append_assoc}
use Rattle.refusal_lines.specs.HandedOn.{GotFile, Files, AreGotFrom}
use Rattle.refusal_lines.proofs.HandedOn.{front, back, joined}
use Rattle.spec_acceptance.specs.Part.{Comes, goes_on, unread, stops, wants_memory, Part, ends_both, EndsSo, Then, Has, Looks}
use Rattle.spec_acceptance.specs.PartLaws.{Lacks, IsDetermined, WantsBehindFirst, IsDecided}

-- what came, or another thing where it did not go on
abbrev pub value_or : {E A : Type 0} → A → Comes E A → A
value_or other (goes_on a) = a
value_or other (unread name) = other
value_or other (stops e) = other
value_or other wants_memory = other

-- ---- What is there, and a look at it

pub has_determined : {E B : Type 0} (b : B) (got : Files) → IsDetermined {E = E} got (Has b)
has_determined b got files others (goes_on c) (goes_on d) is also all both lack lacks =
    (is.0 ∙ sym also.0, ap (λ x. goes_on x) (is.1 ∙ sym also.1))
has_determined b got files others (goes_on c) (unread name) is also all both lack lacks = absurd also
has_determined b got files others (goes_on c) (stops e) is also all both lack lacks = absurd also
has_determined b got files others (goes_on c) wants_memory is also all both lack lacks = absurd lacks
has_determined b got files others (unread name) come is also all both lack lacks = absurd is
has_determined b got files others (stops e) come is also all both lack lacks = absurd is
has_determined b got files others wants_memory come is also all both lack lacks = absurd lack

pub looks_determined : {E F B : Type 0} (IsFine : B → Type 0) (IsFault : F → Type 0) (tell : F → E) (got : Files)
    → IsDecided IsFine IsFault → IsDetermined got (Looks IsFine IsFault tell)
looks_determined IsFine IsFault tell got decided files others (goes_on b) (goes_on c) is also all both lack lacks =
    (is.0 ∙ sym also.0, ap (λ x. goes_on x) (decided.one_value b c is.1 also.1))
looks_determined IsFine IsFault tell got decided files others (goes_on b) (unread name) is also all both lack lacks = absurd also
looks_determined IsFine IsFault tell got decided files others (goes_on b) (stops e) is also all both lack lacks =
    absurd (decided.not_both b also.1.0 is.1 also.1.1)
looks_determined IsFine IsFault tell got decided files others (goes_on b) wants_memory is also all both lack lacks = absurd lacks
looks_determined IsFine IsFault tell got decided files others (unread name) come is also all both lack lacks = absurd is
looks_determined IsFine IsFault tell got decided files others (stops e) (goes_on b) is also all both lack lacks =
    absurd (decided.not_both b is.1.0 also.1 is.1.1)
looks_determined IsFine IsFault tell got decided files others (stops e) (unread name) is also all both lack lacks = absurd also
looks_determined IsFine IsFault tell got decided files others (stops d) (stops e) is also all both lack lacks =
    let same : is.1.0 ≡ also.1.0 = decided.one_fault is.1.0 also.1.0 is.1.1 also.1.1 in
    let one : d ≡ e = is.1.2 ∙ ap tell same ∙ sym also.1.2 in
    (is.0 ∙ sym also.0, ap (λ x. stops x) one)
looks_determined IsFine IsFault tell got decided files others (stops e) wants_memory is also all both lack lacks = absurd lacks
looks_determined IsFine IsFault tell got decided files others wants_memory come is also all both lack lacks = absurd lack

-- ---- One part and then the next

-- the end of the first part, as one of the next, which is no going on
abbrev moved : {E A B : Type 0} → Comes E A → Comes E B
moved (goes_on a) = wants_memory
moved (unread name) = unread name
moved (stops e) = stops e
moved wants_memory = wants_memory

-- what ended both ended the first one, where memory was there
record EndedFirst {E A B : Type 0} (got : Files) (First : Part E A) (files : List GotFile) (comes : Comes E B) : Type 0 where
  pub end : Comes E A
  pub is : First files end
  pub lacks : Lacks got end
  pub same : moved end ≡ comes

ended_first : {E A B : Type 0} (got : Files) (First : Part E A) (files : List GotFile) (comes : Comes E B)
    → EndsSo First files (ends_both comes) → Lacks got comes → EndedFirst got First files comes
ended_first got First files (goes_on b) is lacks = absurd is
ended_first got First files (unread name) is lacks = record { end = unread name; is = is; lacks = lacks; same = refl }
ended_first got First files (stops e) is lacks = record { end = stops e; is = is; lacks = tt; same = refl }
ended_first got First files wants_memory is lacks = absurd lacks

-- the first part went on in the one way, and ended both in the other
apart : {E A B : Type 0} (got : Files) (First : Part E A) → IsDetermined got First
    → (a : A) (f l files others : List GotFile) (comes : Comes E B) → First f (goes_on a) → files ≡ f ++ l
    → EndedFirst got First others comes → AreGotFrom got files → AreGotFrom got others → Lacks got comes → ⊥
apart {E} {A} {B} got First firsts a f l files others comes is cut ended all both lacks =
    let parts : AreGotFrom got (f ++ l) = subst (λ (xs : List GotFile). AreGotFrom got xs) cut all in
    let same : goes_on a ≡ ended.end = (firsts f others (goes_on a) ended.end is ended.is (front got f l parts) both tt ended.lacks).1 in
    subst (λ (c : Comes E B). Lacks got c) (sym (ap (λ (c : Comes E A). moved c) same ∙ ended.same)) lacks

module _ {E A B : Type 0} (First : Part E A) (next : A → Part E B) (got : Files) (firsts : IsDetermined got First) where
  -- both went on
  went_on : ((a : A) (f : List GotFile) → First f (goes_on a) → IsDetermined got (next a)) → (a b : A)
      (f l g m files others : List GotFile) (one other : Comes E B)
      → First f (goes_on a) → next a l one → files ≡ f ++ l → First g (goes_on b) → next b m other → others ≡ g ++ m
      → AreGotFrom got files → AreGotFrom got others → Lacks got one → Lacks got other → (files ≡ others) × (one ≡ other)
  went_on nexts a b f l g m files others one other is then cut also later split all both lack lacks =
      let all_parts : AreGotFrom got (f ++ l) = subst (λ (xs : List GotFile). AreGotFrom got xs) cut all in
      let both_parts : AreGotFrom got (g ++ m) = subst (λ (xs : List GotFile). AreGotFrom got xs) split both in
      let first : (f ≡ g) × (goes_on a ≡ goes_on b)
      = firsts f g (goes_on a) (goes_on b) is also (front got f l all_parts) (front got g m both_parts) tt tt in
      let same : a ≡ b = ap (λ (c : Comes E A). value_or a c) first.1 in
      let rest : (l ≡ m) × (one ≡ other)
      = nexts a f is l m one other then (subst (λ (v : A). next v m other) (sym same) later)
      (back got f l all_parts) (back got g m both_parts) lack lacks in
      (cut ∙ joined first.0 rest.0 ∙ sym split, rest.1)

  -- The next part may count on what the first one found.
  pub then_determined : ((a : A) (f : List GotFile) → First f (goes_on a) → IsDetermined got (next a)) → IsDetermined got (Then First next)
  then_determined nexts files others one other (inl is) (inl also) all both lack lacks =
      let here = ended_first got First files one is lack in
      let there = ended_first got First others other also lacks in
      let same = firsts files others here.end there.end here.is there.is all both here.lacks there.lacks in
      (same.0, sym here.same ∙ ap (λ (c : Comes E A). moved c) same.1 ∙ there.same)
  then_determined nexts files others one other (inl is) (inr also) all both lack lacks =
      absurd (apart got First firsts also.0 also.1 also.2 others files one also.3 also.5 (ended_first got First files one is lack)
      both all lack)
  then_determined nexts files others one other (inr is) (inl also) all both lack lacks =
      absurd (apart got First firsts is.0 is.1 is.2 files others other is.3 is.5 (ended_first got First others other also lacks)
      all both lacks)
  then_determined nexts files others one other (inr is) (inr also) all both lack lacks =
      went_on nexts is.0 also.0 is.1 is.2 also.1 also.2 files others one other is.3 is.4 is.5 also.3 also.4 also.5 all both lack lacks

-- ---- Want of memory

-- nothing was got
pub nothing_first : (files others : List GotFile) → files ≡ [] → (rest : List GotFile) × (others ≡ files ++ rest)
nothing_first files others none = (others, ap (λ (x : List GotFile). x ++ others) (sym none))

pub has_wants : {E B : Type 0} (b : B) (got : Files) → WantsBehindFirst {E = E} got (Has b)
has_wants b got files others comes is also all both lacks = nothing_first files others is

pub looks_wants : {E F B : Type 0} (IsFine : B → Type 0) (IsFault : F → Type 0) (tell : F → E) (got : Files)
    → WantsBehindFirst got (Looks IsFine IsFault tell)
looks_wants IsFine IsFault tell got files others comes is also all both lacks = nothing_first files others is

module _ {E A B : Type 0} (First : Part E A) (next : A → Part E B) (got : Files) (firsts : IsDetermined got First) where
  -- both went on, and memory was wanted behind that
  wanted_later : ((a : A) (f : List GotFile) → First f (goes_on a) → WantsBehindFirst got (next a)) → (a b : A)
      (f l g m files others : List GotFile) (other : Comes E B)
      → First f (goes_on a) → next a l wants_memory → files ≡ f ++ l → First g (goes_on b) → next b m other → others ≡ g ++ m
      → AreGotFrom got files → AreGotFrom got others → Lacks got other → (rest : List GotFile) × (others ≡ files ++ rest)
  wanted_later nexts a b f l g m files others other is then cut also later split all both lacks =
      let all_parts : AreGotFrom got (f ++ l) = subst (λ (xs : List GotFile). AreGotFrom got xs) cut all in
      let both_parts : AreGotFrom got (g ++ m) = subst (λ (xs : List GotFile). AreGotFrom got xs) split both in
      let first : (f ≡ g) × (goes_on a ≡ goes_on b)
      = firsts f g (goes_on a) (goes_on b) is also (front got f l all_parts) (front got g m both_parts) tt tt in
      let same : a ≡ b = ap (λ (c : Comes E A). value_or a c) first.1 in
      let rest : (rest : List GotFile) × (m ≡ l ++ rest)
      = nexts a f is l m other then (subst (λ (v : A). next v m other) (sym same) later)
      (back got f l all_parts) (back got g m both_parts) lacks in (
        rest.0,
        split ∙ joined (sym first.0) rest.1 ∙ sym (append_assoc f l rest.0) ∙ ap (λ (x : List GotFile). x ++ rest.0) (sym cut),
      )

  -- memory was wanted in the first part, and it went on where memory was there
  wanted_first : WantsBehindFirst got First → (b : A) (g m files others : List GotFile) → First files wants_memory → First g (goes_on b)
      → others ≡ g ++ m → AreGotFrom got files → AreGotFrom got others → (rest : List GotFile) × (others ≡ files ++ rest)
  wanted_first wants b g m files others is also split all both =
      let both_parts : AreGotFrom got (g ++ m) = subst (λ (xs : List GotFile). AreGotFrom got xs) split both in
      let rest : (rest : List GotFile) × (g ≡ files ++ rest)
      = wants files g (goes_on b) is also all (front got g m both_parts) tt in
      (rest.0 ++ m, split ∙ ap (λ (x : List GotFile). x ++ m) rest.1 ∙ append_assoc files rest.0 m)

  pub then_wants : WantsBehindFirst got First → ((a : A) (f : List GotFile) → First f (goes_on a) → WantsBehindFirst got (next a))
      → WantsBehindFirst got (Then First next)
  then_wants wants nexts files others comes (inl is) (inl also) all both lacks =
      let there = ended_first got First others comes also lacks in
      wants files others there.end is there.is all both there.lacks
  then_wants wants nexts files others comes (inl is) (inr also) all both lacks =
      wanted_first wants also.0 also.1 also.2 files others is also.3 also.5 all both
  then_wants wants nexts files others comes (inr is) (inl also) all both lacks =
      absurd (apart got First firsts is.0 is.1 is.2 files others comes is.3 is.5 (ended_first got First others comes also lacks)
      all both lacks)
  then_wants wants nexts files others comes (inr is) (inr also) all both lacks =
      wanted_later nexts is.0 also.0 is.1 is.2 also.1 also.2 files others comes is.3 is.4 is.5 also.3 also.4 also.5 all both lacks
