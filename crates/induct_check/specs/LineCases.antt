-- Worked cases: the forms of some lines.
use Rattle.std.specs.Prelude.{◌≡◌, [], ◌∷◌, None, Some, codes}
use Rattle.lotos_base.specs.Equality.{forward, backward}
use Rattle.induct_parts.specs.HandedOn.{left_side, right_side, by_lemma, by_hypothesis}
use Rattle.induct_check.specs.CertificateLines.{parts_at, path_of, cover_form, tree_form, split_form, lemma_form, left_form, use_form, leaf_form, same_form, no_form, line_form_of}

-- Lines that have a form.
pub record LinesHaveForms : Type 0 where
  pub cover : line_form_of (codes "cover Nat 0; Succ;") ≡ cover_form (codes "Nat") (codes "0; Succ;")
  pub empty_cover : line_form_of (codes "cover Nat") ≡ cover_form (codes "Nat") []
  pub tree : line_form_of (codes "tree _+_;") ≡ tree_form (codes "_+_;")
  pub leaf : line_form_of (codes "leaf") ≡ leaf_form
  pub lemma_ : line_form_of (codes "lemma x : Nat") ≡ lemma_form (Some (codes "x : Nat"))
  pub bare_lemma : line_form_of (codes "lemma") ≡ lemma_form None
  pub left : line_form_of (codes "left 0 + x") ≡ left_form (codes "0 + x")
  pub split : line_form_of (codes "split x.1") ≡ split_form (codes "x.1")
  pub hypothesis : line_form_of (codes "use hyp 1 left 0 forward")
      ≡ use_form (record { source = by_hypothesis 0; side = left_side; path = 0 ∷ []; direction = forward })
  pub earlier : line_form_of (codes "use lemma 12 right - backward")
      ≡ use_form (record { source = by_lemma 11; side = right_side; path = []; direction = backward })
  pub same : line_form_of (codes "same") ≡ same_form

-- Lines that have none.
pub record CertificateLinesHaveNoForm : Type 0 where
  pub empty : line_form_of (codes "") ≡ no_form
  pub two_blanks : line_form_of (codes "use hyp  1 left 0 forward") ≡ no_form
  pub blank_behind : line_form_of (codes "same ") ≡ no_form
  pub no_side : line_form_of (codes "use hyp 1 both 0 forward") ≡ no_form
  pub leading_zero : line_form_of (codes "use hyp 01 left 0 forward") ≡ no_form
  pub two_words : line_form_of (codes "split x y") ≡ no_form
  pub no_word : line_form_of (codes "split ") ≡ no_form
  pub capitals : line_form_of (codes "Leaf") ≡ no_form

-- Paths and numbers.
pub record WordsArePaths : Type 0 where
  pub root : path_of (codes "-") ≡ Some []
  pub one : path_of (codes "10") ≡ Some (10 ∷ [])
  pub two : path_of (codes "1.0") ≡ Some (1 ∷ 0 ∷ [])
  pub leading_zero : path_of (codes "1.01") ≡ None
  pub no_position : path_of (codes "1.") ≡ None
  pub no_digit : path_of (codes "x") ≡ None

-- Lines of a text: what stands behind the last line feed is none.
pub record TextsHaveLines : Type 0 where
  pub none : parts_at 10 (codes "") ≡ [] ∷ []
  pub one : parts_at 10 (97 ∷ 10 ∷ []) ≡ (97 ∷ []) ∷ [] ∷ []
  pub two : parts_at 10 (97 ∷ 10 ∷ 10 ∷ 98 ∷ []) ≡ (97 ∷ []) ∷ [] ∷ (98 ∷ []) ∷ []
