use Rattle.std.proofs.Common.{sym, subst, rules}
use Rattle.std.proofs.lemmas.Result.{on_ok_weaker}
use Rattle.cow_world.specs.Flat.{Gridded}
use Rattle.clip_check.specs.Aside.{TouchesOnly}
use Rattle.clip_check.proofs.Asides.{touch_aside}
use Rattle.clip_check.proofs.touch.touch.Goals as goal

pub returns-clause-ok : goal.returns-clause-ok
returns-clause-ok c = search rules

pub returns-clause-aside : goal.returns-clause-aside
returns-clause-aside c =
    let Aside : Gridded → Type 0 = λ world. TouchesOnly c.args.world.now world in
    on_ok_weaker c.take_from.result (λ is. subst Aside (sym is) (touch_aside c.args.level.now c.args.world.now c.args.thing c.requires.there)) (returns-clause-ok c)
