use Rattle.std.proofs.Common.{inl, inr, refl, sym, ◌∙◌}
use Rattle.fixed_angle.specs.Tables.{kind_number}
use Rattle.fixed_angle.proofs.Numbers.{new_kind, old_kind}
use Rattle.fixed_angle.proofs.read.kind_fault.Goals as goal

pub returns-then-has_number : goal.returns-then-has_number
returns-then-has_number c = inr (old_kind c.args.kinds.now c.args.i (kind_number c.args.kinds.now c.args.i) c.requires.at refl (sym c.has_number.ensures ∙ c.if-has_number.true), refl)

pub returns-else-has_number : goal.returns-else-has_number
returns-else-has_number c = inl (new_kind c.args.kinds.now c.args.i (kind_number c.args.kinds.now c.args.i) c.requires.at refl (sym c.has_number.ensures ∙ c.if-has_number.false), refl)
