-- Drafts that the rules make have terms of the signature.
use Rattle.std.proofs.Common.{◌≡◌, ◌++◌, [], map, sym, subst}
use Rattle.std.specs.Prelude.{zip}
use Rattle.lotos_base.specs.Signature.{Signature}
use Rattle.behaviour_semantics.proofs.ListLemmas.{Every-append}
use Rattle.sort_terms.specs.ProfiledTerm.{IsOf}
use Rattle.term_match.specs.ProfiledInstance.{profiled_instance}
use Rattle.behaviour_tree.specs.BehaviourTerms.{profiles_of}
use Rattle.behaviour_tree.specs.Over.{AreTermsOf}
use Rattle.event_offers.specs.OfferView.{condition_profiles, label_profiles}
use Rattle.event_offers.specs.Offers.{IsConditionOf, AreConditionsOf}
use Rattle.event_offers.specs.Renaming.{pair_instance, profiled_renaming_of}
use Rattle.event_offers.specs.declared.drafts.Draft.{Draft}
use Rattle.event_offers.specs.declared.renaming.Renaming.{Renaming}
use Rattle.event_offers.proofs.RenamingLemmas.{renamed_terms_of, renamed_pairs_of}
use Rattle.event_offers.proofs.JoinLemmas.{zipped_of}
use Rattle.draft_parts.specs.DraftTerms.{HasTermsOf}

-- a copy
pub copy_over : (signature : Signature) (draft made : Draft)
    → label_profiles made.label ≡ label_profiles draft.label
    → profiles_of made.leaves.items ≡ profiles_of draft.leaves.items
    → condition_profiles made.conditions.items ≡ condition_profiles draft.conditions.items
    → HasTermsOf signature draft → HasTermsOf signature made
copy_over signature draft made values leaves conditions h = record {
  values = subst (AreTermsOf signature) (sym values) h.values;
  leaves = subst (AreTermsOf signature) (sym leaves) h.leaves;
  conditions = subst (AreConditionsOf signature) (sym conditions) h.conditions;
}

-- both sides of a parallel
pub both_over : (signature : Signature) (left right made : Draft) (r : Renaming)
    → label_profiles made.label ≡ label_profiles left.label
    → profiles_of made.leaves.items ≡ profiles_of left.leaves.items ++ map (profiled_instance (profiled_renaming_of r))
    (profiles_of right.leaves.items)
    → condition_profiles made.conditions.items ≡ condition_profiles left.conditions.items
    ++ map (pair_instance (profiled_renaming_of r)) (condition_profiles right.conditions.items)
    ++ zip (label_profiles left.label) (map (profiled_instance (profiled_renaming_of r)) (label_profiles right.label))
    → HasTermsOf signature left → HasTermsOf signature right → HasTermsOf signature made
both_over signature left right made r values leaves conditions h k = record {
  values = subst (AreTermsOf signature) (sym values) h.values;
  leaves = subst (AreTermsOf signature) (sym leaves)
      (Every-append (IsOf signature) (profiles_of left.leaves.items) _ h.leaves (renamed_terms_of signature r (profiles_of
      right.leaves.items) k.leaves));
  conditions = subst (AreConditionsOf signature) (sym conditions)
      (Every-append (IsConditionOf signature) (condition_profiles left.conditions.items ++ map (pair_instance (profiled_renaming_of r))
      (condition_profiles right.conditions.items)) _
      (Every-append (IsConditionOf signature) (condition_profiles left.conditions.items) _ h.conditions
      (renamed_pairs_of signature r (condition_profiles right.conditions.items) k.conditions))
      (zipped_of signature (label_profiles left.label) _ h.values (renamed_terms_of signature r (label_profiles right.label) k.values)));
}

-- other numbers for the variables
pub renamed_over : (signature : Signature) (draft made : Draft) (r : Renaming)
    → label_profiles made.label ≡ map (profiled_instance (profiled_renaming_of r)) (label_profiles draft.label)
    → profiles_of made.leaves.items ≡ map (profiled_instance (profiled_renaming_of r)) (profiles_of draft.leaves.items)
    → condition_profiles made.conditions.items ≡ map (pair_instance (profiled_renaming_of r)) (condition_profiles draft.conditions.items)
    → HasTermsOf signature draft → HasTermsOf signature made
renamed_over signature draft made r values leaves conditions h = record {
  values = subst (AreTermsOf signature) (sym values) (renamed_terms_of signature r (label_profiles draft.label) h.values);
  leaves = subst (AreTermsOf signature) (sym leaves) (renamed_terms_of signature r (profiles_of draft.leaves.items) h.leaves);
  conditions = subst (AreConditionsOf signature) (sym conditions)
      (renamed_pairs_of signature r (condition_profiles draft.conditions.items) h.conditions);
}
