-- Texts over the signature of the data, and over what a session holds.
use Rattle.std.proofs.Common.{◌≡◌, ℕ, List, [], ◌++◌, map, codes, decimal, ◌∙◌}
use Rattle.lotos_base.specs.Name.{spelling}
use Rattle.lotos_base.specs.Signature.{Signature}
use Rattle.behaviour_semantics.specs.Label.{Label}
use Rattle.session_log.specs.HandedOn.{entries_in, Menu, label_text, menu_text, Spec}

abbrev pub label_of_spec : Signature → Spec → Label → List ℕ
label_of_spec signature spec label = label_text signature (map spelling spec.gate_names.items) label

abbrev pub menu_of_spec : Signature → Spec → Menu → List ℕ
menu_of_spec signature spec menu = menu_text signature (map spelling spec.gate_names.items) (entries_in menu)

abbrev pub did_of : Signature → Spec → Menu → Label → List ℕ
did_of signature spec menu label = codes "did " ++ label_of_spec signature spec label ++ codes "\n" ++ menu_of_spec signature spec menu

module _ (shown data_ : Signature) (given kept : Spec) (offered reached : Menu) (over : shown ≡ data_) (same : given ≡ kept)
    (there : offered ≡ reached) where
  pub did_here : (label : Label) (text : List ℕ) → text ≡ did_of shown given offered label → text ≡ did_of data_ kept reached label
  did_here label text is = is ∙ (λ i. did_of (over i) (same i) (there i) label)

  pub menu_here : (text : List ℕ) → text ≡ menu_of_spec shown given offered → text ≡ menu_of_spec data_ kept reached
  menu_here text is = is ∙ (λ i. menu_of_spec (over i) (same i) (there i))

  pub undone_here : (text : List ℕ) → text ≡ codes "undone\n" ++ menu_of_spec shown given offered
      → text ≡ codes "undone\n" ++ menu_of_spec data_ kept reached
  undone_here text is = is ∙ (λ i. codes "undone\n" ++ menu_of_spec (over i) (same i) (there i))

  pub replayed_here : (count : ℕ) (text : List ℕ)
      → text ≡ codes "replayed " ++ decimal count ++ codes "\n" ++ menu_of_spec shown given offered
      → text ≡ codes "replayed " ++ decimal count ++ codes "\n" ++ menu_of_spec data_ kept reached
  replayed_here count text is = is ∙ (λ i. codes "replayed " ++ decimal count ++ codes "\n" ++ menu_of_spec (over i) (same i) (there i))

-- a text by the signature, behind nothing
pub over_data : (by : Signature → List ℕ) (shown data_ : Signature) (start text : List ℕ) → shown ≡ data_ → start ≡ []
    → text ≡ start ++ by shown → text ≡ by data_
over_data by shown data_ start text over none is =
    is ∙ (λ i. none i ++ by (over i))
