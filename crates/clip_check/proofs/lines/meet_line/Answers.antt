use Rattle.std.proofs.Common.{ℕ, ◌<◌, All, length, sym, subst}
use Rattle.clip_check.specs.declared.trial.Checked.{Checked}
use Rattle.clip_check.proofs.Listing.{listed_there}
use Rattle.clip_check.proofs.lines.meet_line.Goals as goal

pub returns-clause-there : goal.returns-clause-there
returns-clause-there c =
    let There : ℕ → Type 0 = λ line. line < length c.args.level.now.lines in
    let AreThere : Checked → Type 0 = λ found. All There found.listed in
    listed_there c.list.result There c.narrow.new.found c.list.new.found c.args.line c.requires.line (subst AreThere (sym c.narrow.ensures) c.requires.there) c.list.ensures
