use Rattle.std.proofs.Common.{◌≡◌, ◌+◌, ◌++◌, length, take, drop}
use Rattle.build_script.specs.Searches.{narrowed_from, narrowed}
use Rattle.build_script.proofs.search.narrow.Given as goal

-- the tics so far, and what becomes of those that are left, are what becomes of all
abbrev pub invariant-loop-place : goal.invariant-loop-place
invariant-loop-place l = record {
  long : length l.all.items ≡ length l.fn.all.items;
  same : take l.place l.all.items ++ narrowed_from (l.place + 1) l.tics l.axis l.range (drop l.place l.all.items) ≡ narrowed l.tics l.axis l.range l.fn.all.items;
}
