-- How many lines trees and lemmas have, counted one after another.
use Rattle.std.proofs.Common.{◌≡◌, ◌<◌, ◌≤◌, ℕ, suc, ◌+◌, List, ◌∷◌, length, map, drop, get_or, refl, ap, sym, ◌∙◌, arith}
use Rattle.std.proofs.lemmas.List.{length-map}
use Rattle.std.proofs.Math.ListN.{drop_of_length-le}
use Rattle.lotos_base.proofs.Pieces.{next_member}
use Rattle.certificate_theory.specs.Certified.{lines_of_tree, lines_of_trees, lines_of_lemma}
use Rattle.induct_parts.specs.CertificateView.{tree_in, tree_line_of, trees_in, lemma_in, proof_line_of, lemmas_in, lines_of_lemmas}
use Rattle.induct_parts.specs.declared.certificates.PatternTree.{PatternTree as CodeTree}
use Rattle.induct_parts.specs.declared.certificates.StatedLemma.{StatedLemma}

module _ {C X : Type 0} (length_of : X → ℕ) (total : List X → ℕ)
    (first : (x : X) (xs : List X) → total (x ∷ xs) ≡ length_of x + total xs) (view : C → X) (all : List C) where
  -- with one thing more, the lines before the rest and those of the rest are as many
  pub lines_go_on : (n line more whole : ℕ) (c : C) → n < length all → c ≡ get_or all n c → more ≡ line + length_of (view c)
      → line + total (map view (drop n all)) ≡ whole → more + total (map view (drop (n + 1) all)) ≡ whole
  lines_go_on n line more whole c within is e so_far =
      let parted : total (map view (drop n all)) ≡ length_of (view c) + total (map view (drop (n + 1) all)) =
      ap (λ (cs : List C). total (map view cs)) (next_member all n c within is) ∙ first (view c) (map view (drop (n + 1) all)) in
      omega (arith, parted, e, so_far)

  pub lines_within : (n line whole : ℕ) (c : C) → n < length all → c ≡ get_or all n c
      → line + total (map view (drop n all)) ≡ whole → line + length_of (view c) ≤ whole
  lines_within n line whole c within is so_far =
      let parted : total (map view (drop n all)) ≡ length_of (view c) + total (map view (drop (n + 1) all)) =
      ap (λ (cs : List C). total (map view cs)) (next_member all n c within is) ∙ first (view c) (map view (drop (n + 1) all)) in
      omega (arith, parted, so_far)

pub tree_length : (tree : CodeTree) → lines_of_tree (tree_in tree) ≡ 1 + length tree.lines.items
tree_length tree =
    let same : length (map tree_line_of tree.lines.items) ≡ length tree.lines.items = length-map tree.lines.items tree_line_of in
    let more : suc (length (map tree_line_of tree.lines.items)) ≡ 1 + length tree.lines.items = omega (arith, same) in
    more

pub lemma_length : (lemma : StatedLemma) → lines_of_lemma (lemma_in lemma) ≡ 3 + length lemma.lines.items
lemma_length lemma =
    let same : length (map proof_line_of lemma.lines.items) ≡ length lemma.lines.items = length-map lemma.lines.items proof_line_of in
    let more : 3 + length (map proof_line_of lemma.lines.items) ≡ 3 + length lemma.lines.items = omega (arith, same) in
    more

-- ---- trees

pub trees_go_on : (trees : List CodeTree) (n line more whole : ℕ) (tree : CodeTree) → n < length trees → tree ≡ get_or trees n tree
    → more ≡ line + (1 + length tree.lines.items) → line + lines_of_trees (trees_in (drop n trees)) ≡ whole
    → more + lines_of_trees (trees_in (drop (n + 1) trees)) ≡ whole
trees_go_on trees n line more whole tree within is e so_far =
    lines_go_on lines_of_tree lines_of_trees (λ t ts. refl) tree_in trees n line more whole tree within is
    (e ∙ ap (λ (k : ℕ). line + k) (sym (tree_length tree))) so_far

pub tree_within : (trees : List CodeTree) (n line whole : ℕ) (tree : CodeTree) → n < length trees → tree ≡ get_or trees n tree
    → line + lines_of_trees (trees_in (drop n trees)) ≡ whole → line + 1 + length tree.lines.items ≤ whole
tree_within trees n line whole tree within is so_far =
    let less = lines_within lines_of_tree lines_of_trees (λ t ts. refl) tree_in trees n line whole tree within is so_far in
    let same = tree_length tree in
    omega (arith, less, same)

pub trees_end : (trees : List CodeTree) (n line whole : ℕ) → length trees ≤ n → line + lines_of_trees (trees_in (drop n trees)) ≡ whole
    → line ≡ whole
trees_end trees n line whole past so_far =
    let none : lines_of_trees (trees_in (drop n trees)) ≡ 0 =
    ap (λ (ts : List CodeTree). lines_of_trees (trees_in ts)) (drop_of_length-le trees past) in
    omega (arith, none, so_far)

-- ---- lemmas

pub lemmas_go_on : (lemmas : List StatedLemma) (n line more whole : ℕ) (lemma : StatedLemma) → n < length lemmas
    → lemma ≡ get_or lemmas n lemma → more ≡ line + (3 + length lemma.lines.items)
    → line + lines_of_lemmas (lemmas_in (drop n lemmas)) ≡ whole → more + lines_of_lemmas (lemmas_in (drop (n + 1) lemmas)) ≡ whole
lemmas_go_on lemmas n line more whole lemma within is e so_far =
    lines_go_on lines_of_lemma lines_of_lemmas (λ t ts. refl) lemma_in lemmas n line more whole lemma within is
    (e ∙ ap (λ (k : ℕ). line + k) (sym (lemma_length lemma))) so_far

pub lemma_within : (lemmas : List StatedLemma) (n line whole : ℕ) (lemma : StatedLemma) → n < length lemmas
    → lemma ≡ get_or lemmas n lemma → line + lines_of_lemmas (lemmas_in (drop n lemmas)) ≡ whole
    → line + 3 + length lemma.lines.items ≤ whole
lemma_within lemmas n line whole lemma within is so_far =
    let less = lines_within lines_of_lemma lines_of_lemmas (λ t ts. refl) lemma_in lemmas n line whole lemma within is so_far in
    let same = lemma_length lemma in
    omega (arith, less, same)
