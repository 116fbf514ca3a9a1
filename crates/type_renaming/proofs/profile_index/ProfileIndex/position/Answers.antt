use Rattle.sort_terms.specs.Operations.{operation_of}
use Rattle.type_renaming.proofs.SoughtLemmas.{position_by_profile}
use Rattle.type_renaming.proofs.profile_index.ProfileIndex.position.Goals as goal

pub returns : goal.returns
returns c = λ operations has differ.
    position_by_profile c.args.self.now.profiles.keys operations (operation_of c.args.op.now) c.in_ok-key.key.items c.get_index_of.result
    c.get_index_of.ensures.index (record { kept = has; differ = differ }) c.in_ok-key.ensures
