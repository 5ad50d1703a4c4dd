-- The costs of all blocks together.
use Rattle.std.proofs.Common.{zero, suc, ◌≡◌, ℕ, ◌+◌, ◌-◌, ◌*◌, ◌^◌, ◌<◌, ◌≤◌, inl, inr, Bool, min, Some, None, List, [], ◌∷◌, nat_lt, slice_get, if◌then◌else◌, refl, sym, ◌∙◌, ap, arith}
use Rattle.std.specs.Prelude.{All, sum_by}
use Rattle.std.specs.Option.{ForSome}
use Rattle.std.proofs.Math.Nat.{mul-le-mul_right}
use Rattle.std.proofs.lemmas.Bool.{cases_lt, lt-ltb, le-ltb}
use Rattle.std.proofs.lemmas.Grind.{div_ceil_times}
use Rattle.doom_edge.specs.Counts.{raised}
use Rattle.doom_edge.specs.Costs.{Rises}
use Rattle.brute_ranges.specs.Space.{Ranges}
use Rattle.search_core.specs.Numbers.{block_count, first_of, sum_below}
use Rattle.claim_board.specs.declared.view.View.{View}
use Rattle.brute_run.specs.Search.{count_of}
use Rattle.brute_run.specs.Costs.{block_size, new_tics, tics_until_met, block_cost, cost_by}
use Rattle.brute_run.specs.Working.{passing, first_passing, new_below, least_block, HasWorked}
use Rattle.brute_run.proofs.Passing.{passing_within}

-- more numbers are no less, and none past a place add nothing
sum_grows : (f : ℕ → ℕ) (a d : ℕ) → sum_below f a ≤ sum_below f (a + d)
sum_grows f a zero = let same : a + zero ≡ a = omega arith in omega (arith, ap (sum_below f) same)
sum_grows f a (suc d) = let more : a + suc d ≡ suc (a + d) = omega arith in omega (arith, ap (sum_below f) more, sum_grows f a d)

sum_le : (f : ℕ → ℕ) (a b : ℕ) → a ≤ b → sum_below f a ≤ sum_below f b
sum_le f a b le = let whole : a + (b - a) ≡ b = omega arith in omega (arith, sum_grows f a (b - a), ap (sum_below f) whole)

sum_stays : (f : ℕ → ℕ) (a d : ℕ) → ((n : ℕ) → a ≤ n → f n ≡ 0) → sum_below f (a + d) ≡ sum_below f a
sum_stays f a zero none = ap (sum_below f) (let same : a + zero ≡ a = omega arith in same)
sum_stays f a (suc d) none =
    let more : a + suc d ≡ suc (a + d) = omega arith in
    omega (arith, ap (sum_below f) more, sum_stays f a d none, none (a + d) (omega arith))

-- blocks past the last one cost nothing
past_cost : (test : ℕ → Bool) (ranges : Ranges) (n : ℕ) → block_count (count_of ranges) block_size ≤ n → block_cost test ranges n ≡ 0
past_cost test ranges n past =
    let filled = (div_ceil_times (count_of ranges) block_size (omega arith)).0 in
    let far : block_count (count_of ranges) block_size * block_size ≤ n * block_size = mul-le-mul_right block_size past in
    let none : min block_size (count_of ranges - n * block_size) ≡ 0 = omega arith in
    ap (tics_until_met test ranges (n * block_size)) none

pub all_cost : (test : ℕ → Bool) (ranges : Ranges) (next : ℕ) → sum_below (block_cost test ranges) next ≤ sum_below (block_cost test ranges) (block_count (count_of ranges) block_size)
all_cost test ranges next =
    let blocks : ℕ = block_count (count_of ranges) block_size in
    elim (cases_lt next (block_count (count_of ranges) block_size)) [
      | inl below ↦ sum_le (block_cost test ranges) next (block_count (count_of ranges) block_size) (omega arith)
      | inr above ↦
          let whole : block_count (count_of ranges) block_size + (next - block_count (count_of ranges) block_size) ≡ next = omega arith in
          omega (
            arith,
            ap (sum_below (block_cost test ranges)) whole,
            sum_stays (block_cost test ranges) (block_count (count_of ranges) block_size) (next - block_count (count_of ranges) block_size) (past_cost test ranges),
          )
    ]

-- the least costs of the blocks are those of the numbers
below_grows : (ranges : Ranges) (first a b : ℕ) → a ≤ b → new_below ranges first a ≤ new_below ranges first b
below_grows ranges first a b le = sum_le (new_tics ranges) (min first a) (min first b) (omega arith)

least_blocks : (ranges : Ranges) (first next : ℕ) → sum_below (least_block ranges first) next ≡ new_below ranges first (next * block_size)
least_blocks ranges first zero = let none : min first (zero * block_size) ≡ 0 = omega arith in sym (ap (sum_below (new_tics ranges)) none)
least_blocks ranges first (suc n) =
    let start : (n + 1) * block_size ≡ suc n * block_size = omega arith in
    omega (arith, least_blocks ranges first n, below_grows ranges first (n * block_size) ((n + 1) * block_size) (omega arith), ap (new_below ranges first) start)

pub all_least : (ranges : Ranges) (first next : ℕ) → first ≤ next * block_size → sum_below (least_block ranges first) next ≡ sum_below (new_tics ranges) first
all_least ranges first next within =
    let whole : min first (next * block_size) ≡ first = omega arith in
    least_blocks ranges first next ∙ ap (sum_below (new_tics ranges)) whole

-- a counter that rose by what was played
pub rises_by : (test : ℕ → Bool) (ranges : Ranges) (before own after : ℕ) → own ≤ sum_below (block_cost test ranges) (block_count (count_of ranges) block_size)
    → min (sum_below (new_tics ranges) (first_passing test (count_of ranges))) (2 ^ 64 - 1) ≤ own → after ≡ raised before own
    → Rises (cost_by test ranges (first_passing test (count_of ranges))) before after
unfolding raised
rises_by test ranges before own after most least is = record { least = omega arith; most = omega arith }

-- what the workers have played, when the board is closed
pub played_cost : (test : ℕ → Bool) (ranges : Ranges) (parts : ℕ) (view : View) (before own after next : ℕ) → HasWorked test ranges parts view own
    → ForSome view.last (λ last. last < next) → ((f : ℕ → ℕ) → sum_by f view.mine ≡ sum_below f next) → after ≡ raised before own
    → Rises (cost_by test ranges (first_passing test (count_of ranges))) before after
played_cost test ranges parts view before own after next done above weighed is =
    let last : done.over.0 < next = above done.over.0 done.over.1 in
    let blocks : done.over.0 * view.block ≡ done.over.0 * block_size = ap (λ b. done.over.0 * b) done.block_is in
    let within : first_passing test (count_of ranges) ≤ next * block_size = omega (arith, done.first, done.over.2) in
    rises_by test ranges before own after
    (omega (arith, done.most, weighed (block_cost test ranges), all_cost test ranges next))
    (omega (arith, done.least, weighed (least_block ranges (first_passing test (count_of ranges))), all_least ranges (first_passing test (count_of ranges)) next within)) is

-- the least number, where it is one, is the first that meets
found_first : (count : ℕ) (xs : List ℕ) → All (λ k. k < count) xs → (if nat_lt (first_of count xs) count then Some (first_of count xs) else None) ≡ slice_get xs 0
found_first count [] within = let t = le-ltb count count (omega arith) in rw t refl
found_first count (x ∷ xs) within = let below : x < count = within 0 0 (omega arith) in let t = lt-ltb x count below in rw t refl

pub found_is : (test : ℕ → Bool) (count least : ℕ) → least ≡ first_passing test count → (if nat_lt least count then Some least else None) ≡ slice_get (passing test count) 0
found_is test count least is = ap (λ n. if nat_lt n count then Some n else None) is ∙ found_first count (passing test count) (passing_within test count)
