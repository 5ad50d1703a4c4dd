-- The file of a gallery's play tables.
use Rattle.std.proofs.Common.{◌≡◌, ℕ, suc, ◌+◌, ◌*◌, pos, List, [], ◌∷◌, ◌++◌, length, take, subst, refl, sym, ap, ◌∙◌, inl, arith}
use Rattle.std.specs.Prelude.{None, slice_index}
use Rattle.std.specs.Int.{w32, cast_signed}
use Rattle.std.specs.List.{flat_map, range_with_len}
use Rattle.std.proofs.Math.Nat.{mul-suc}
use Rattle.std.proofs.lemmas.List.{length-append, get_or-append_right}
use Rattle.std.proofs.lemmas.List.FromFn.{length-range_with_len}
use Rattle.byteorder.specs.Endian.{little_bytes}
use Rattle.fixed_angle.specs.FirstFault.{FirstFault, for_each}
use Rattle.fixed_angle.specs.TableFile.{entries, kind_count, kind_at, kinds_of, tables_of, head_conditions, kind_conditions, table_conditions}
use Rattle.fixed_angle.specs.declared.kind.Kind.{Kind}
use Rattle.fixed_angle.proofs.Order.{first_after}
use Rattle.gallery_gen.specs.Tables.{sine_at, sines, arc_at, arcs, random_at, random_numbers, key, tables_bytes}

-- ---- how long it is

-- records of one length, one after the other
each_long : (f : ℕ → List ℕ) (size : ℕ) → ((x : ℕ) → length (f x) ≡ size) → (xs : List ℕ) → length (flat_map f xs) ≡ size * length xs
each_long f size long [] = omega arith
each_long f size long (x ∷ xs) =
    let here = long x in
    let rest = each_long f size long xs in
    let more = mul-suc size (length xs) in
    length-append (f x) (flat_map f xs) ∙ omega (arith, here, rest, more)

numbered : (f : ℕ → List ℕ) (size count : ℕ) → ((x : ℕ) → length (f x) ≡ size) → length (flat_map f (range_with_len 0 count)) ≡ size * count
numbered f size count long = each_long f size long (range_with_len 0 count) ∙ ap (λ n. size * n) (length-range_with_len 0 count)

sines_long : (count : ℕ) → length (sines count) ≡ 4 * count
unfolding sines
sines_long count = numbered sine_at 4 count (λ x. refl)

arcs_long : (count : ℕ) → length (arcs count) ≡ 4 * count
unfolding arcs
arcs_long count = numbered arc_at 4 count (λ x. refl)

random_long : (count : ℕ) → length (random_numbers count) ≡ 1 * count
unfolding random_numbers
random_long count = numbered random_at 1 count (λ x. refl)

-- all but the kind
abbrev before_key : List ℕ
before_key = (80 ∷ 84 ∷ 65 ∷ 66 ∷ []) ++ little_bytes 4 1 ++ sines 10240 ++ arcs 2049 ++ random_numbers 256

before_long : length before_key ≡ 49420
before_long =
    let of_sines = sines_long 10240 in
    let of_arcs = arcs_long 2049 in
    let of_random = random_long 256 in
    let tail : length (sines 10240 ++ arcs 2049 ++ random_numbers 256) ≡ 49412 =
    length-append (sines 10240 ++ arcs 2049) (random_numbers 256) ∙ (ap (λ n. n + length (random_numbers 256)) (length-append (sines 10240) (arcs 2049)) ∙ omega (arith, of_sines, of_arcs, of_random)) in
    ap (λ n. suc (suc (suc (suc (suc (suc (suc (suc n)))))))) tail

all_long : (before : List ℕ) → length before ≡ 49420 → length (before ++ key) ≡ 49436
all_long before long = length-append before key ∙ ap (λ n. n + 16) long

-- ---- its conditions

-- what follows the letters and the number of kinds makes no difference but by its length
front_sound : (bytes rest : List ℕ) → bytes ≡ 80 ∷ 84 ∷ 65 ∷ 66 ∷ 1 ∷ 0 ∷ 0 ∷ 0 ∷ rest → length bytes ≡ 49436 → (kind_count bytes ≡ 1) × FirstFault (head_conditions bytes) None
front_sound bytes rest front long =
    let one : kind_count bytes ≡ 1 = ap kind_count front in
    let letters = ap (λ (xs : List ℕ). take 4 xs) front in
    (one, inl (omega (arith, long), inl (letters, inl (omega (arith, one), inl (omega (arith, long, one), refl)))))

-- the first kind's number is new
first_new : (bytes : List ℕ) → kind_count bytes ≡ 1 → FirstFault (for_each (kind_count bytes) (kind_conditions (kinds_of bytes))) None
first_new bytes one = subst (λ n. FirstFault (for_each n (kind_conditions (kinds_of bytes))) None) (sym one) (inl (λ k below. absurd (omega (arith, below)), refl))

conditions_hold : (bytes rest : List ℕ) → bytes ≡ 80 ∷ 84 ∷ 65 ∷ 66 ∷ 1 ∷ 0 ∷ 0 ∷ 0 ∷ rest → length bytes ≡ 49436 → FirstFault (table_conditions bytes) None
conditions_hold bytes rest front long =
    let parts = front_sound bytes rest front long in
    first_after (head_conditions bytes) (for_each (kind_count bytes) (kind_conditions (kinds_of bytes))) None parts.1 (first_new bytes parts.0)

pub tables_read : FirstFault (table_conditions tables_bytes) None
unfolding tables_bytes
tables_read = conditions_hold (before_key ++ key) (sines 10240 ++ arcs 2049 ++ random_numbers 256 ++ key) refl (all_long before_key before_long)

-- ---- its kind

-- the blue key
abbrev pub blue_key : Kind
blue_key = record { number = 5; flags = 1; radius = pos 1310720; height = pos 1048576; first = pos 10 }

-- a kind by the bytes of its record
abbrev kind_by : (ℕ → ℕ) → Kind
kind_by byte = record {
  number = byte 0 + 256 * byte 1;
  flags = byte 2 + 256 * byte 3;
  radius = cast_signed w32 (byte 4 + 256 * byte 5 + 65536 * (byte 6 + 256 * byte 7));
  height = cast_signed w32 (byte 8 + 256 * byte 9 + 65536 * (byte 10 + 256 * byte 11));
  first = cast_signed w32 (byte 12 + 256 * byte 13 + 65536 * (byte 14 + 256 * byte 15));
}

key_read : (before : List ℕ) → length before ≡ 49420 → kind_at (before ++ key) 49420 ≡ blue_key
key_read before long =
    let at : (k : ℕ) → slice_index (before ++ key) (49420 + k) ≡ slice_index key k =
    λ k. get_or-append_right before key 49420 (49420 + k) 0 long (omega arith) ∙ ap (λ (n : ℕ). slice_index key n) (omega arith) in
    ap kind_by (λ i k. at k i)

one_kind : (before : List ℕ) → length before ≡ 49420 → kind_count (before ++ key) ≡ 1 → kinds_of (before ++ key) ≡ blue_key ∷ []
unfolding entries
one_kind before long one = ap (entries (λ i. kind_at (before ++ key) (49420 + 16 * i))) one ∙ ap (λ kind. kind ∷ []) (key_read before long)

-- the tables have the blue key alone
pub kinds_read : (tables_of tables_bytes).kinds ≡ blue_key ∷ []
unfolding tables_bytes
kinds_read = one_kind before_key before_long refl
