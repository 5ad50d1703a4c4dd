use Rattle.std.proofs.Common.{[], sym, ◌∙◌}
use Rattle.std.proofs.lemmas.List.{append-nil}
use Rattle.lmp_codec.proofs.Verdicts.{same_forms}
use Rattle.lmp_codec.proofs.laws.no_form_begins_another.Goals as goal

pub returns : goal.returns
returns c = λ header other tics others more form its_form same. (same_forms header other tics others more [] form its_form (same ∙ sym (append-nil _))).2
