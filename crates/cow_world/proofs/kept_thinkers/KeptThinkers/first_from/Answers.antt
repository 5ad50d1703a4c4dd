use Rattle.std.proofs.Common.{◌≡◌, ◌<◌, ◌≤◌, get_or, arith}
use Rattle.std.proofs.lemmas.Bool.Decides.{nat_tests}
use Rattle.std.proofs.lemmas.Option.{get_or_from_slice_get}
use Rattle.page_store.specs.Over.{seen}
use Rattle.cow_world.specs.KeptThinkers.{no_entry}
use Rattle.cow_world.proofs.KeptPlaces.{lower_more, upper_less}
use Rattle.cow_world.proofs.kept_thinkers.KeptThinkers.first_from.Goals as goal

pub loop-low-preserved-then-get-place : goal.loop-low-preserved-then-get-place
loop-low-preserved-then-get-place c =
    let kept = seen c.args.base.now c.args.self.now.kept in
    let middle = c.between-middle.result in
    let read : get_or kept middle no_entry ≡ c.get.result = get_or_from_slice_get kept middle c.get.result no_entry c.get.ensures in
    let under : (get_or kept middle no_entry).place < c.args.place = rw read (grind (arith, nat_tests, c.if-get-place.true)) in
    record {
      order = omega (arith, c.between-middle.ensures.most);
      within = c.loop-low.invariant.within;
      before = lower_more kept c.requires.rise c.args.place middle (omega (arith, c.between-middle.ensures.most, c.loop-low.invariant.within)) under;
      behind = c.loop-low.invariant.behind;
    }

pub loop-low-preserved : goal.loop-low-preserved
loop-low-preserved c =
    let kept = seen c.args.base.now c.args.self.now.kept in
    let middle = c.between-middle.result in
    let read : get_or kept middle no_entry ≡ c.get.result = get_or_from_slice_get kept middle c.get.result no_entry c.get.ensures in
    let above : c.args.place ≤ (get_or kept middle no_entry).place = rw read (grind (arith, nat_tests, c.if-get-place.false)) in
    record {
      order = c.between-middle.ensures.least;
      within = omega (arith, c.between-middle.ensures.most, c.loop-low.invariant.within);
      before = c.loop-low.invariant.before;
      behind = upper_less kept c.requires.rise c.args.place middle above;
    }
