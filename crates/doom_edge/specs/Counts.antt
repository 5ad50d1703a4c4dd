-- Counts that stop at the end of their type.
--     Counts            what a counter of steps has counted
--     raised            a count after some more steps
--     Rose              a count of faults has risen
--     raised-..         laws of `raised`
use Rattle.std.specs.Prelude.{◌≡◌, ℕ, ◌+◌, ◌-◌, ◌^◌, ◌≤◌, min, max, refl}
use Rattle.std.proofs.Common.{arith}

-- what a counter of steps has counted
pub record Counts : Type 0 where
  pub tics : ℕ
  pub pages : ℕ

-- a count after `by` more: it stops at 2^64 - 1, and a count that is above that stays
unfoldable pub raised : ℕ → ℕ → ℕ
raised count by = max count (min (count + by) (2 ^ 64 - 1))

-- a count of faults rose from `before` to `now`: it is greater, or at the end of its type
abbrev pub Rose : ℕ → ℕ → Type 0
Rose before now = min (before + 1) (2 ^ 64 - 1) ≤ now

-- no step leaves the count
pub raised-zero : (count : ℕ) → raised count 0 ≡ count
unfolding raised
raised-zero count = omega arith

-- some steps and then more are their sum
pub raised-raised : (count first then : ℕ) → raised (raised count first) then ≡ raised count (first + then)
unfolding raised
raised-raised count first then = omega arith

-- one more step after some
pub raised_step : (count by : ℕ) → raised (raised count by) 1 ≡ raised count (by + 1)
raised_step count by = raised-raised count by 1

-- steps after a count that was raised already
pub raised_from : (count now first then : ℕ) → now ≡ raised count first → raised now then ≡ raised count (first + then)
unfolding raised
raised_from count now first then is = omega arith

-- a count rises by no more than the steps
pub raised-at_most : (count by : ℕ) → raised count by ≤ count + by
unfolding raised
raised-at_most count by = omega arith

-- and never falls
pub raised-at_least : (count by : ℕ) → count ≤ raised count by
unfolding raised
raised-at_least count by = omega arith

-- more steps raise it no less
pub raised_grows : (count fewer more : ℕ) → fewer ≤ more → raised count fewer ≤ raised count more
unfolding raised
raised_grows count fewer more le = omega arith
