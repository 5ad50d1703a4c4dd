-- The bytes of the tics of a gallery's demo.
use Rattle.std.proofs.Common.{◌≡◌, ℕ, zero, suc, ◌*◌, ◌/◌, ◌%◌, ◌<◌, ◌≤◌, ◌^◌, ℤ, pos, negsuc, true, false, List, [], ◌∷◌, ◌++◌, length, map, refl, sym, ap, ◌∙◌, arith, rules}
use Rattle.std.specs.Prelude.{FitsSigned, slice_index, slice_index_or}
use Rattle.std.specs.Int.{w8, cast_unsigned, int_max}
use Rattle.std.specs.List.{flat_map, AllByRecursion}
use Rattle.std.proofs.lemmas.Bool.{agree_below_at}
use Rattle.std.proofs.lemmas.List.{append-nil}
use Rattle.lmp_codec.specs.Header.{may_stand}
use Rattle.lmp_codec.specs.Demo.{tic_bytes, written, FitsBytes, IsDemo}
use Rattle.gallery_gen.specs.Draws.{draws, state_after}
use Rattle.gallery_gen.specs.Plan.{room_count}
use Rattle.gallery_gen.specs.Gallery.{tic_of, tic_count, demo_head, demo_bytes}
use Rattle.gallery_gen.proofs.Drawing.{length_draws}
use Rattle.gallery_laws.specs.Played.{tic_by, tics_of}

-- each field is one of four, or of two

abbrev ahead : List ℤ
ahead = pos 50 ∷ pos 25 ∷ pos 0 ∷ pos 50 ∷ []

abbrev aside : List ℤ
aside = pos 0 ∷ pos 24 ∷ negsuc 23 ∷ pos 0 ∷ []

abbrev turns : List ℕ
turns = 0 ∷ 0 ∷ 2 ∷ 254 ∷ []

-- what holds of each of the first four numbers
four : (P : ℕ → Type 0) → P 0 → P 1 → P 2 → P 3 → (k : ℕ) → k < 4 → P k
four P a b c d zero below = a
four P a b c d (suc zero) below = b
four P a b c d (suc (suc zero)) below = c
four P a b c d (suc (suc (suc zero))) below = d
four P a b c d (suc (suc (suc (suc k)))) below = absurd (omega (arith, below))

record Ahead (k : ℕ) : Type 0 where
  byte : cast_unsigned w8 (int_max (negsuc 126) (slice_index_or ahead k (pos 0))) ≡ slice_index (50 ∷ 25 ∷ 0 ∷ 50 ∷ []) k
  fits : FitsSigned w8 (int_max (negsuc 126) (slice_index_or ahead k (pos 0)))

goes_ahead : (k : ℕ) → k < 4 → Ahead k
goes_ahead = four Ahead (record { byte = refl; fits = search rules }) (record { byte = refl; fits = search rules }) (record { byte = refl; fits = search rules }) (record { byte = refl; fits = search rules })

record Aside (k : ℕ) : Type 0 where
  byte : cast_unsigned w8 (slice_index_or aside k (pos 0)) ≡ slice_index (0 ∷ 24 ∷ 232 ∷ 0 ∷ []) k
  fits : FitsSigned w8 (slice_index_or aside k (pos 0))

goes_aside : (k : ℕ) → k < 4 → Aside k
goes_aside = four Aside (record { byte = refl; fits = search rules }) (record { byte = refl; fits = search rules }) (record { byte = refl; fits = search rules }) (record { byte = refl; fits = search rules })

record Turned (k : ℕ) : Type 0 where
  byte : 256 * slice_index turns k / 256 ≡ slice_index turns k
  fits : 256 * slice_index turns k < 2 ^ 16
  held : 256 * slice_index turns k % 256 ≡ 0

turned : (k : ℕ) → k < 4 → Turned k
turned = four Turned (record { byte = refl; fits = omega arith; held = refl }) (record { byte = refl; fits = omega arith; held = refl }) (record { byte = refl; fits = omega arith; held = refl }) (record { byte = refl; fits = omega arith; held = refl })

below_four : (n : ℕ) → n % 4 < 4
below_four n = omega arith

-- ---- a tic

spelt : (drawn : ℕ) → tic_bytes false (tic_by drawn) ≡ tic_of drawn
spelt drawn =
    let forward = (goes_ahead (drawn % 4) (below_four drawn)).byte in
    let side = (goes_aside (drawn / 4 % 4) (below_four (drawn / 4))).byte in
    let turn = (turned (drawn / 16 % 4) (below_four (drawn / 16))).byte in
    ap (λ byte. byte ∷ cast_unsigned w8 (tic_by drawn).side ∷ (tic_by drawn).turn / 256 ∷ (tic_by drawn).buttons ∷ []) forward
    ∙ (ap (λ byte. slice_index (50 ∷ 25 ∷ 0 ∷ 50 ∷ []) (drawn % 4) ∷ byte ∷ (tic_by drawn).turn / 256 ∷ (tic_by drawn).buttons ∷ []) side
    ∙ ap (λ byte. slice_index (50 ∷ 25 ∷ 0 ∷ 50 ∷ []) (drawn % 4) ∷ slice_index (0 ∷ 24 ∷ 232 ∷ 0 ∷ []) (drawn / 4 % 4) ∷ byte ∷ (tic_by drawn).buttons ∷ []) turn)

fits : (drawn : ℕ) → FitsBytes false (tic_by drawn)
fits drawn =
    let turn = turned (drawn / 16 % 4) (below_four (drawn / 16)) in
    record {
      forward = (goes_ahead (drawn % 4) (below_four drawn)).fits;
      side = (goes_aside (drawn / 4 % 4) (below_four (drawn / 4))).fits;
      turn = turn.fits;
      held = λ _. turn.held;
      buttons = omega arith;
    }

-- ---- all of them

all_fit : (drawn : List ℕ) → AllByRecursion (FitsBytes false) (map tic_by drawn)
all_fit [] = tt
all_fit (d ∷ ds) = (fits d, all_fit ds)

all_spelt : (drawn : List ℕ) → flat_map (tic_bytes false) (map tic_by drawn) ≡ flat_map tic_of drawn
all_spelt [] = refl
all_spelt (d ∷ ds) = ap (λ bytes. bytes ++ flat_map (tic_bytes false) (map tic_by ds)) (spelt d) ∙ ap (λ bytes. tic_of d ++ bytes) (all_spelt ds)

as_many : (drawn : List ℕ) → length (map tic_by drawn) ≡ length drawn
as_many [] = refl
as_many (d ∷ ds) = ap suc (as_many ds)

head_stands : (place : ℕ) → place < 13 → may_stand place (slice_index demo_head place) ≡ true
head_stands place below = agree_below_at (λ k. may_stand k (slice_index demo_head k)) (λ _. true) 13 place refl below

-- what is written for any numbers
written_by : (drawn : List ℕ) → length drawn ≤ 1000 → IsDemo (demo_head ++ flat_map tic_of drawn ++ 128 ∷ []) demo_head (map tic_by drawn)
written_by drawn few = record {
  form = record {
    valid = record { whole = refl; rules = head_stands };
    fits = all_fit drawn;
    within = let size : length (map tic_by drawn) ≡ length drawn = as_many drawn in omega (arith, size, few);
  };
  begins = ([], sym (append-nil (written demo_head (map tic_by drawn)) ∙ ap (λ bytes. demo_head ++ bytes ++ 128 ∷ []) (all_spelt drawn)));
}

pub demo_read : (number : ℕ) → IsDemo (demo_bytes number) demo_head (tics_of number)
unfolding demo_bytes tics_of
demo_read number =
    let drawn = draws (tic_count number) (state_after (room_count number) number) in
    let size : length drawn ≡ tic_count number = length_draws (tic_count number) (state_after (room_count number) number) in
    written_by drawn (omega (arith, size))

pub tics_counted : (number : ℕ) → length (tics_of number) ≡ tic_count number
unfolding tics_of
tics_counted number =
    let drawn = draws (tic_count number) (state_after (room_count number) number) in
    as_many drawn ∙ length_draws (tic_count number) (state_after (room_count number) number)
