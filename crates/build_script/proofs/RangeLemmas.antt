-- How many numbers a range has.
use Rattle.std.proofs.Common.{◌≡◌, ◌≤◌, Bool, false, refl, ap, sym, ◌∙◌, arith, inl, inr, nat_lt, Ok, ℤ, pos, negsuc, ◌≤ℤ◌, ◌<ℤ◌, ◌+ℤ◌, ◌-ℤ◌, to_z, of_z, w32, w64}
use Rattle.std.specs.Prelude.{int_lt}
use Rattle.std.proofs.lemmas.Int.{ints}
use Rattle.std.proofs.lemmas.Bool.{cases_Bool}
use Rattle.std.proofs.lemmas.Bool.Decides.{nat_tests}
use Rattle.lmp_codec.specs.Turns.{turn_count}
use Rattle.brute_ranges.specs.Tics.{natural, width}
use Rattle.build_script.specs.Searches.{range_of}

natural_is : (z : ℤ) → pos 0 ≤ℤ z → pos (natural z) ≡ z
natural_is (pos n) h = refl
natural_is (negsuc n) h = absurd (omega (arith, ints))

-- how many numbers a range has that isn't empty
width_is : (low high : ℤ) → low ≤ℤ high → pos (width (record { low = low; high = high })) ≡ high +ℤ pos 1 -ℤ low
width_is low high h = natural_is (high +ℤ pos 1 -ℤ low) (omega (arith, ints))

not_below : (a b : ℤ) → b ≤ℤ a → int_lt a b ≡ false
not_below a b le = elim (cases_Bool (int_lt a b)) [ inl e ↦ absurd (omega (arith, ints)) | inr e ↦ e ]

few_are : (long : Bool) (low high : ℤ) → low ≤ℤ high → (high -ℤ low) <ℤ pos (turn_count long) → width (record { low = low; high = high }) ≤ turn_count long
few_are long low high le few = omega (arith, ints, width_is low high le)

range_is : (long : Bool) (low high : ℤ) → int_lt high low ≡ false → (high -ℤ low) <ℤ pos (turn_count long) → range_of long low high ≡ Ok (record { low = low; high = high })
range_is long low high e few =
    let small = few_are long low high (omega (arith, ints)) few in
    let test : nat_lt (turn_count long) (width (record { low = low; high = high })) ≡ false = grind (arith, nat_tests) in
    rw (e, test) refl

-- a number that is passed on twice
passed : (x : ℤ) → negsuc 32767 ≤ℤ x → x ≤ℤ pos 65535 → to_z w32 (of_z w32 (to_z w64 (of_z w64 x))) ≡ x
passed x least greatest = omega (arith, ints)

pub made_range : (long : Bool) (low high : ℤ) → negsuc 32767 ≤ℤ low → low ≤ℤ pos 65535 → negsuc 32767 ≤ℤ high → high ≤ℤ pos 65535 → low ≤ℤ high → (high -ℤ low) <ℤ pos (turn_count long)
    → Ok (record { low = to_z w32 (of_z w32 (to_z w64 (of_z w64 low))); high = to_z w32 (of_z w32 (to_z w64 (of_z w64 high))) }) ≡ range_of long low high
made_range long low high a b c d le few =
    let e : int_lt high low ≡ false = not_below high low le in
    ap (λ (x : ℤ). Ok (record { low = x; high = to_z w32 (of_z w32 (to_z w64 (of_z w64 high))) })) (passed low a b)
    ∙ ap (λ (x : ℤ). Ok (record { low = low; high = x })) (passed high c d)
    ∙ sym (range_is long low high e few)
