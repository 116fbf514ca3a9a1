-- What two terms that are compared tell: that they are identical or not, or two of their last arguments on which that hangs.
use Rattle.std.specs.Prelude.{◌≡◌, ◌↔◌, ℕ, ◌<◌, IsTrue}
use Rattle.lotos_base.specs.Term.{Term as PlainTerm, Terms}
use Rattle.sort_terms.specs.TermSize.{size_of}
use Rattle.sort_terms.specs.TermView.{term_of}
use Rattle.sort_terms.specs.declared.terms.Likeness.{Likeness}
use Rattle.sort_terms.specs.declared.terms.Likeness.TheVariants.{Decided, ByLast}

-- of two terms
abbrev pub Tells : PlainTerm → PlainTerm → Likeness → Type 0
Tells x y (Decided same) = IsTrue same ↔ (x ≡ y)
Tells x y (ByLast first second) = (term_of first.now ≡ term_of second.now) ↔ (x ≡ y)

-- of two lists
abbrev pub TellsAll : Terms → Terms → Likeness → Type 0
TellsAll xs ys (Decided same) = IsTrue same ↔ (xs ≡ ys)
TellsAll xs ys (ByLast first second) = (term_of first.now ≡ term_of second.now) ↔ (xs ≡ ys)

-- what is left to be compared is smaller
abbrev pub IsBelow : ℕ → Likeness → Type 0
IsBelow size (Decided same) = Unit {0}
IsBelow size (ByLast first second) = size_of first.now < size
