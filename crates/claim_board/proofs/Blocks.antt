-- How many blocks were claimed.
use Rattle.std.proofs.Common.{◌≡◌, ℕ, zero, suc, ◌+◌, ◌*◌, ◌/◌, ◌%◌, ◌<◌, ◌≤◌, nat_le, cond, min, ap, arith, ⊎_elim, mul-le-mul_left, mul-le-mul_right, div-add-mod'}
use Rattle.std.proofs.lemmas.Bool.{le-leb, cases_lt}
use Rattle.std.proofs.lemmas.Nat.{mod_below}
use Rattle.search_core.specs.Numbers.{sum_below, block_count}
use Rattle.claim_board.proofs.Sums.{one_if}

-- 1 where block n starts at or above the count
abbrev pub past : ℕ → ℕ → ℕ → ℕ
past count block n = cond (nat_le count (n * block)) 1 0

-- a block that starts below the count is one of the blocks
pub block_below : (count block n : ℕ) → 0 < block → n * block < count → n < block_count count block
block_below count block n some_block starts =
    let q : ℕ = count / block in
    let r : ℕ = count % block in
    let whole : q * block + r ≡ count = div-add-mod' count block in
    let rest : r < block = mod_below count block some_block in
    ⊎_elim (λ (l : n < block_count count block). l)
    (λ (g : q + min 1 r ≤ n). ⊎_elim
    (λ (l : 0 < r). let up : (q + 1) * block ≤ n * block = mul-le-mul_right block (omega arith) in absurd (omega arith))
    (λ (z : r ≤ 0). let up : q * block ≤ n * block = mul-le-mul_right block (omega arith) in absurd (omega arith))
    (cases_lt 0 r))
    (cases_lt n (q + min 1 r))

-- the numbers below n are blocks, or start past the count
pub blocks_cover : (count block n : ℕ) → 0 < block → n ≤ block_count count block + sum_below (past count block) n
blocks_cover count block zero h = omega arith
blocks_cover count block (suc n) h = ⊎_elim
    (λ (starts : n * block < count). omega (arith, block_below count block n h starts))
    (λ (beyond : count ≤ n * block). omega (arith, blocks_cover count block n h, ap one_if (le-leb count (n * block) beyond)))
    (cases_lt (n * block) count)

-- a count of at most 2^40 has at most as many blocks
pub blocks-le : (count block : ℕ) → 0 < block → block_count count block ≤ count
blocks-le count block h =
    let q : ℕ = count / block in
    let wide : q * 1 ≤ q * block = mul-le-mul_left q h in
    omega (arith, div-add-mod' count block)
