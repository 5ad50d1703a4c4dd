-- Sequences by their number, and the wheels that give their tics.
use Rattle.std.proofs.Common.{Bool, zero, suc, add-one, ◌≡◌, ◌≢◌, ℕ, ◌+◌, ◌-◌, ◌*◌, ◌/◌, ◌%◌, ◌^◌, ◌<◌, ◌≤◌, Some, List, [], ◌∷◌, ◌++◌, length, get_or, set, length-drop, take, drop, map, refl, sym, ◌∙◌, ap, subst, arith, drop-cons}
use Rattle.std.specs.Prelude.{All, IsSomeAnd}
use Rattle.std.specs.List.{slice_get, AllByRecursion}
use native.Mathlib.Nat.{mul-add-div_right, mul-add-mod_self_right, mod-eq_of_lt, div-lt_iff_lt-mul}
use Rattle.std.proofs.Math.Nat.{div-mul-le_self}
use Rattle.std.proofs.lemmas.Nat.{le-div, mul-lt, mul-le, div-add-mod', div_below}
use Rattle.std.proofs.lemmas.List.{length-map, get_or-map, take_more, get_or-drop}
use Rattle.std.proofs.lemmas.List.Edits.{paste_more}
use lib.Seq.{paste}
use Rattle.std.proofs.lemmas.List.Elements.{recursion_from_All}
use Rattle.std.proofs.lemmas.Option.{slice_get-get_or, get_or_from_slice_get, slice_get_within}
use Rattle.lmp_codec.specs.declared.input.Tic.{Tic}
use Rattle.brute_ranges.specs.declared.ranges.TicRanges.{TicRanges}
use Rattle.brute_ranges.specs.declared.space.Wheel.{Wheel}
use Rattle.std.specs.Prelude.{pos}
use Rattle.brute_ranges.specs.Tics.{tic_with, tics_of, tic_count, InBounds, HasValues, IsSound}
use Rattle.brute_ranges.specs.Space.{Ranges, ranges_with, IsDeep, IsSpace, sequences_of, all_sequences, sequence_at, SharesExactly}
use Rattle.brute_ranges.specs.Wheels.{ranges_of, seen, AreWheels}
use Rattle.brute_ranges.proofs.Product.{rows_length, rows_at, counts_few, tics_apart}

-- the sequence with this number, by the ranges and the version
abbrev nth_sequence : Bool → List TicRanges → ℕ → List Tic
nth_sequence long ranges number = sequence_at (ranges_with ranges long) number

module _ (long : Bool) where
  -- how many sequences there are
  pub length-all : (ranges : TicRanges) (rest : List TicRanges) → length (sequences_of long (ranges ∷ rest)) ≡ tic_count long ranges * length (sequences_of long rest)
  length-all ranges rest =
      rows_length (λ tic. map (λ sequence. tic ∷ sequence) (sequences_of long rest)) (length (sequences_of long rest)) (tics_of long ranges)
      (λ tic. length-map (sequences_of long rest) (λ (sequence : List Tic). tic ∷ sequence))

  -- a sequence is a tic of the first ranges, and a sequence of the rest
  pub sequence-cons : (ranges : TicRanges) (rest : List TicRanges) (d e : ℕ) (tic : Tic) → d < tic_count long ranges → e < length (sequences_of long rest)
      → nth_sequence long (ranges ∷ rest) (d * length (sequences_of long rest) + e) ≡ get_or (tics_of long ranges) d tic ∷ nth_sequence long rest e
  sequence-cons ranges rest d e tic within inside =
      rows_at (λ x. map (λ sequence. x ∷ sequence) (sequences_of long rest)) (length (sequences_of long rest)) (tics_of long ranges)
      (λ x. length-map (sequences_of long rest) (λ (sequence : List Tic). x ∷ sequence)) d e tic [] within inside
      ∙ get_or-map (λ (sequence : List Tic). get_or (tics_of long ranges) d tic ∷ sequence) (sequences_of long rest) e [] [] inside

  -- the wheels count the sequences
  pub wheels_count : (wheels : List Wheel) (count : ℕ) → AreWheels long wheels count → count ≡ length (sequences_of long (ranges_of wheels))
  wheels_count [] count are = are
  wheels_count (w ∷ rest) count are =
      let behind = wheels_count rest w.later are.2 in
      are.1 ∙ ap (λ n. n * w.later) are.0 ∙ ap (λ n. tic_count long w.ranges * n) behind ∙ sym (length-all w.ranges (ranges_of rest))

  -- wheels that are built from the last tic on
  pub record BuiltFrom (tics : List TicRanges) (left : ℕ) (wheels : List Wheel) (count : ℕ) : Type 0 where
    pub within : left ≤ length tics
    pub ranges : ranges_of wheels ≡ drop left tics
    pub are : AreWheels long wheels count
    pub some_sequence : 0 < count
    pub few : count ≤ 2 ^ 40

  abbrev pub SoundWheels : List Wheel → Type 0
  SoundWheels wheels = AllByRecursion (IsSound long) (ranges_of wheels)

  pub some_count : (wheels : List Wheel) (count : ℕ) → AreWheels long wheels count → SoundWheels wheels → 0 < count
  some_count [] count are sound = omega arith
  some_count (w ∷ rest) count are sound =
      let few = counts_few long w.ranges sound.0 in
      let tics : 0 < w.tics = omega (arith, are.0, few.some_tic, few.count long) in
      rw are.1 (mul-lt 0 0 w.tics w.later tics (some_count rest w.later are.2 sound.1))

  -- what is known of one wheel
  pub record WheelAt (count : ℕ) (w : Wheel) : Type 0 where
    pub sound : (IsSound long) w.ranges
    pub tics : w.tics ≡ tic_count long w.ranges
    pub some_tic : 0 < w.tics
    pub later : 0 < w.later
    pub divides : (q : ℕ) × (count ≡ q * (w.tics * w.later))

  pub wheel_at : (wheels : List Wheel) (count i : ℕ) (d : Wheel) → AreWheels long wheels count → SoundWheels wheels → i < length wheels → WheelAt count (get_or wheels i d)
  wheel_at [] count i d are sound within = absurd (omega arith)
  wheel_at (w ∷ rest) count zero d are sound within =
      let few = counts_few long w.ranges sound.0 in
      record {
        sound = sound.0;
        tics = are.0;
        some_tic = omega (arith, are.0, few.some_tic, few.count long);
        later = some_count rest w.later are.2 sound.1;
        divides = (1, omega (arith, are.1));
      }
  wheel_at (w ∷ rest) count (suc i) d are sound within =
      let behind = wheel_at rest w.later i d are.2 sound.1 (omega arith) in
      let q = behind.divides.0 in
      let all = ap (λ n. w.tics * n) behind.divides.1 in
      record {
        sound = behind.sound;
        tics = behind.tics;
        some_tic = behind.some_tic;
        later = behind.later;
        divides = (w.tics * q, omega (arith, are.1, all));
      }

  -- a number as quotient and remainder, where a smaller place value divides the larger one
  split : (k c q t l : ℕ) → 0 < l → c ≡ q * (t * l) → k / l ≡ k / c * (q * t) + k % c / l
  split k c q t l positive is =
      let whole = div-add-mod' k c in
      let parts = ap (λ n. k / c * n) is in
      let same : k ≡ k / c * (q * t) * l + k % c = omega (arith, whole, parts) in
      ap (λ n. n / l) same ∙ mul-add-div_right positive (k / c * (q * t)) (k % c)

  digit_kept : (k c q t l : ℕ) → 0 < l → c ≡ q * (t * l) → k % c / l % t ≡ k / l % t
  digit_kept k c q t l positive is =
      let regrouped : k / c * (q * t) + k % c / l ≡ k / c * q * t + k % c / l = omega arith in
      sym (ap (λ n. n % t) (split k c q t l positive is ∙ regrouped) ∙ mul-add-mod_self_right (k / c * q) t (k % c / l))

  pub none : Tic
  none = tic_with long (pos 0) (pos 0) (pos 0) (pos 0)

  -- a sequence by the digits of its number
  pub sequence_split : (w : Wheel) (rest : List Wheel) (count k : ℕ) → AreWheels long (w ∷ rest) count → 0 < w.later → k < count
      → nth_sequence long (ranges_of (w ∷ rest)) k ≡ get_or (tics_of long w.ranges) (k / w.later) none ∷ nth_sequence long (ranges_of rest) (k % w.later)
  sequence_split w rest count k are later within =
      let behind = wheels_count rest w.later are.2 in
      let high : k / w.later < tic_count long w.ranges = rw (← are.0) (div_below k w.later w.tics later (omega (arith, are.1))) in
      let low : k % w.later < length (sequences_of long (ranges_of rest)) = omega (arith, behind) in
      let whole : k ≡ k / w.later * length (sequences_of long (ranges_of rest)) + k % w.later = sym (div-add-mod' k w.later) ∙ ap (λ n. k / w.later * n + k % w.later) behind in
      ap (nth_sequence long (ranges_of (w ∷ rest))) whole ∙ sequence-cons w.ranges (ranges_of rest) (k / w.later) (k % w.later) none high low

  pub length-sequence : (wheels : List Wheel) (count k : ℕ) → AreWheels long wheels count → SoundWheels wheels → k < count → length (nth_sequence long (ranges_of wheels) k) ≡ length wheels
  length-sequence [] count k are sound within = let first : k ≡ 0 = omega arith in rw first refl
  length-sequence (w ∷ rest) count k are sound within =
      let later = some_count rest w.later are.2 sound.1 in
      ap length (sequence_split w rest count k are later within) ∙ ap suc (length-sequence rest w.later (k % w.later) are.2 sound.1 (omega arith))

  pub tic_of_wheel : (wheels : List Wheel) (count k i : ℕ) (d : Wheel) → AreWheels long wheels count → SoundWheels wheels → k < count → i < length wheels
      → slice_get (nth_sequence long (ranges_of wheels) k) i ≡ slice_get (tics_of long (get_or wheels i d).ranges) (k / (get_or wheels i d).later % (get_or wheels i d).tics)
  tic_of_wheel [] count k i d are sound within there = absurd (omega arith)
  tic_of_wheel (w ∷ rest) count k zero d are sound within there =
      let later = some_count rest w.later are.2 sound.1 in
      let high : k / w.later < w.tics = div_below k w.later w.tics later (omega (arith, are.1)) in
      ap (λ (xs : List Tic). slice_get xs zero) (sequence_split w rest count k are later within)
      ∙ sym (slice_get-get_or (tics_of long w.ranges) (k / w.later) none (rw (← are.0) high))
      ∙ ap (slice_get (tics_of long w.ranges)) (sym (mod-eq_of_lt high))
  tic_of_wheel (w ∷ rest) count k (suc i) d are sound within there =
      let later = some_count rest w.later are.2 sound.1 in
      let at = wheel_at rest w.later i d are.2 sound.1 (omega arith) in
      ap (λ (xs : List Tic). slice_get xs (suc i)) (sequence_split w rest count k are later within)
      ∙ tic_of_wheel rest w.later (k % w.later) i d are.2 sound.1 (omega arith) (omega arith)
      ∙ ap (slice_get (tics_of long (get_or rest i d).ranges)) (digit_kept k w.later at.divides.0 (get_or rest i d).tics (get_or rest i d).later at.later at.divides.1)

  -- fewer tics make no more sequences
  pub all_grows : (tics : List TicRanges) (n : ℕ) → AllByRecursion (IsSound long) tics → length (sequences_of long (drop n tics)) ≤ length (sequences_of long tics)
  all_grows tics zero sound = omega arith
  all_grows [] (suc n) sound = omega arith
  all_grows (r ∷ rest) (suc n) sound =
      let few = counts_few long r sound.0 in
      let behind = all_grows rest n sound.1 in
      let more = mul-le 1 (length (sequences_of long rest)) (tic_count long r) (length (sequences_of long rest)) (omega (arith, few.some_tic, few.count long)) (omega arith) in
      omega (arith, length-all r rest, behind, more)

  -- the same of a space that is seen as now
  pub counted : (now : Ranges) (wheels : List Wheel) (count : ℕ) → seen wheels long ≡ now → AreWheels long wheels count → count ≡ length (all_sequences now)
  counted now wheels count same are = wheels_count wheels count are ∙ ap (λ (rs : Ranges). length (all_sequences rs)) same

  pub each_length : (now : Ranges) (wheels : List Wheel) (count : ℕ) → seen wheels long ≡ now → IsSpace (seen wheels long) → AreWheels long wheels count
      → (k : ℕ) → k < length (all_sequences now) → length (sequence_at now k) ≡ length now.tics
  each_length now wheels count same space are k within =
      subst (λ (rs : Ranges). length (sequence_at rs k) ≡ length rs.tics) same
      (length-sequence wheels count k are (recursion_from_All (IsSound long) (ranges_of wheels) space.each) (omega (arith, counted now wheels count same are))
      ∙ sym (length-map wheels (λ w. w.ranges)))

  in_wheels : (now : Ranges) (wheels : List Wheel) (i : ℕ) → seen wheels long ≡ now → i < length now.tics → i < length wheels
  in_wheels now wheels i same within = omega (arith, ap (λ (rs : Ranges). length rs.tics) same, length-map wheels (λ w. w.ranges))

  pub wheel_facts : (now : Ranges) (wheels : List Wheel) (count i : ℕ) (w : Wheel) → seen wheels long ≡ now → IsSpace (seen wheels long) → AreWheels long wheels count
      → i < length now.tics → w ≡ get_or wheels i w → WheelAt count w
  wheel_facts now wheels count i w same space are within is =
      subst (λ (x : Wheel). WheelAt count x) (sym is)
      (wheel_at wheels count i w are (recursion_from_All (IsSound long) (ranges_of wheels) space.each) (in_wheels now wheels i same within))

  pub tic_is : (now : Ranges) (wheels : List Wheel) (count i k : ℕ) (w : Wheel) → seen wheels long ≡ now → IsSpace (seen wheels long) → AreWheels long wheels count
      → i < length now.tics → w ≡ get_or wheels i w → k < length (all_sequences now)
      → slice_get (sequence_at now k) i ≡ slice_get (tics_of long w.ranges) (k / w.later % w.tics)
  tic_is now wheels count i k w same space are within is number =
      let few : k < count = omega (arith, counted now wheels count same are) in
      ap (λ (rs : Ranges). slice_get (sequence_at rs k) i) (sym same)
      ∙ tic_of_wheel wheels count k i w are (recursion_from_All (IsSound long) (ranges_of wheels) space.each) few (in_wheels now wheels i same within)
      ∙ ap (λ (x : Wheel). slice_get (tics_of long x.ranges) (k / x.later % x.tics)) (sym is)

  -- too many sequences of some tics are too many of all
  pub too_many : (tics : List TicRanges) (left radix count : ℕ) (wheels : List Wheel) (r d : TicRanges) → All (IsSound long) tics → BuiltFrom tics (left + 1) wheels count
      → r ≡ get_or tics left d → radix ≡ tic_count long r → 2 ^ 40 / count < radix → 2 ^ 40 < length (sequences_of long tics)
  too_many tics left radix count wheels r d sound built is radix_is more =
      let within : left < length tics = omega (arith, built.within) in
      let behind = counted (ranges_with (drop (left + 1) tics) long) wheels count (ap (λ (rs : List TicRanges). ranges_with rs long) built.ranges) built.are in
      let product = (div-lt_iff_lt-mul {k = count} {x = 2 ^ 40} {y = radix} built.some_sequence).0 more in
      let front : drop left tics ≡ r ∷ drop (left + 1) tics = rw (add-one, drop-cons tics left d) (ap (λ (x : TicRanges). x ∷ drop (suc left) tics) (sym is)) in
      let these = ap (λ (rs : List TicRanges). length (sequences_of long rs)) front ∙ length-all r (drop (left + 1) tics) in
      let radix_times = ap (λ n. n * count) radix_is in
      let behind_times = ap (λ n. tic_count long r * n) behind in
      let all = all_grows tics left (recursion_from_All (IsSound long) tics sound) in
      omega (arith, product, these, radix_times, behind_times, all)

  pub too_many_before : (tics : List TicRanges) (left radix count : ℕ) (wheels : List Wheel) (d : TicRanges) → All (IsSound long) tics → BuiltFrom tics left wheels count → 0 < left
      → radix ≡ tic_count long (get_or tics (left - 1) d) → 2 ^ 40 / count < radix → 2 ^ 40 < length (sequences_of long tics)
  too_many_before tics left radix count wheels d sound built some_left radix_is more =
      let one : left ≡ left - 1 + 1 = omega arith in
      too_many tics (left - 1) radix count wheels (get_or tics (left - 1) d) d sound (subst (λ n. BuiltFrom tics n wheels count) one built) refl radix_is more

  -- a tic whose ranges have no number
  pub some_fault : (tics : List TicRanges) (i : ℕ) (d : TicRanges) → i < length tics → InBounds long (get_or tics i d) → (HasValues (get_or tics i d) → ⊥)
      → IsSomeAnd (slice_get tics i) (λ r. InBounds long r × (HasValues r → ⊥))
  some_fault tics i d within bounds empty = rw (slice_get-get_or tics i d within) (bounds, empty)

  -- one more tic of a sequence
  pub next_tic : (sequence so_far : List Tic) (i : ℕ) (tic : Tic) → slice_get sequence i ≡ Some tic → so_far ≡ take i sequence → so_far ++ tic ∷ [] ≡ take (i + 1) sequence
  next_tic sequence so_far i tic is taken =
      ap (λ (xs : List Tic). xs ++ tic ∷ []) taken
      ∙ ap (λ (x : Tic). take i sequence ++ x ∷ []) (sym (get_or_from_slice_get sequence i tic tic is))
      ∙ sym (take_more sequence i tic (slice_get_within sequence i tic is))

  pub next_written : (old so_far sequence : List Tic) (from n : ℕ) (tic : Tic) → slice_get sequence (from + n) ≡ Some tic → length old ≡ length sequence
      → so_far ≡ paste old from (drop from sequence) n → set so_far (from + n) tic ≡ paste old from (drop from sequence) (n + 1)
  next_written old so_far sequence from n tic is long written =
      let within = slice_get_within sequence (from + n) tic is in
      let read : get_or (drop from sequence) n tic ≡ tic = get_or-drop from sequence n tic ∙ get_or_from_slice_get sequence (from + n) tic tic is in
      let rest = length-drop from sequence in
      ap (λ (xs : List Tic). set xs (from + n) tic) written
      ∙ ap (λ (x : Tic). set (paste old from (drop from sequence) n) (from + n) x) (sym read)
      ∙ paste_more old from (drop from sequence) n tic (omega (arith, long)) (omega (arith, rest))

  -- sequences share as many tics as their numbers share quotients by the place values
  quotients_kept : (a b c q t l : ℕ) → 0 < l → c ≡ q * (t * l) → a / c ≡ b / c → a / l ≡ b / l → a % c / l ≡ b % c / l
  quotients_kept a b c q t l positive is high same =
      let high' = ap (λ n. n * (q * t)) high in
      omega (arith, split a c q t l positive is, split b c q t l positive is, high', same)

  quotients_joined : (a b c q t l : ℕ) → 0 < l → c ≡ q * (t * l) → a / c ≡ b / c → a % c / l ≡ b % c / l → a / l ≡ b / l
  quotients_joined a b c q t l positive is high same =
      let high' = ap (λ n. n * (q * t)) high in
      omega (arith, split a c q t l positive is, split b c q t l positive is, high', same)

  pub shares_front : (wheels : List Wheel) (count a b n : ℕ) → AreWheels long wheels count → SoundWheels wheels → a < count → b < count → n ≤ length wheels
      → ((j : ℕ) (d : Wheel) → j < n → a / (get_or wheels j d).later ≡ b / (get_or wheels j d).later)
      → take n (nth_sequence long (ranges_of wheels) a) ≡ take n (nth_sequence long (ranges_of wheels) b)
  shares_front wheels count a b zero are sound a_in b_in within same = refl
  shares_front [] count a b (suc n) are sound a_in b_in within same = absurd (omega arith)
  shares_front (w ∷ rest) count a b (suc n) are sound a_in b_in within same =
      let later = some_count rest w.later are.2 sound.1 in
      let high = same zero w (omega arith) in
      let behind = shares_front rest w.later (a % w.later) (b % w.later) n are.2 sound.1 (omega arith) (omega arith) (omega arith)
      (λ j d below. let at = wheel_at rest w.later j d are.2 sound.1 (omega arith) in
      quotients_kept a b w.later at.divides.0 (get_or rest j d).tics (get_or rest j d).later at.later at.divides.1 high (same (suc j) d (omega arith))) in
      ap (take (suc n)) (sequence_split w rest count a are later a_in)
      ∙ ap (λ m. get_or (tics_of long w.ranges) m none ∷ take n (nth_sequence long (ranges_of rest) (a % w.later))) high
      ∙ ap (λ (xs : List Tic). get_or (tics_of long w.ranges) (b / w.later) none ∷ xs) behind
      ∙ sym (ap (take (suc n)) (sequence_split w rest count b are later b_in))

  pub shares_end : (wheels : List Wheel) (count a b n : ℕ) (d : Wheel) → AreWheels long wheels count → SoundWheels wheels → a < count → b < count → n < length wheels
      → ((j : ℕ) (e : Wheel) → j < n → a / (get_or wheels j e).later ≡ b / (get_or wheels j e).later)
      → a / (get_or wheels n d).later ≢ b / (get_or wheels n d).later
      → slice_get (nth_sequence long (ranges_of wheels) a) n ≢ slice_get (nth_sequence long (ranges_of wheels) b) n
  shares_end [] count a b n d are sound a_in b_in within same other equal = omega arith
  shares_end (w ∷ rest) count a b zero d are sound a_in b_in within same other equal =
      let later = some_count rest w.later are.2 sound.1 in
      let tic_a = ap (λ (xs : List Tic). slice_get xs zero) (sequence_split w rest count a are later a_in) in
      let tic_b = ap (λ (xs : List Tic). slice_get xs zero) (sequence_split w rest count b are later b_in) in
      let both : Some (get_or (tics_of long w.ranges) (a / w.later) none) ≡ Some (get_or (tics_of long w.ranges) (b / w.later) none) = sym tic_a ∙ equal ∙ tic_b in
      let tics : get_or (tics_of long w.ranges) (a / w.later) none ≡ get_or (tics_of long w.ranges) (b / w.later) none = cc in
      other (tics_apart long w.ranges (a / w.later) (b / w.later) none sound.0
      (rw (← are.0) (div_below a w.later w.tics later (omega (arith, are.1)))) (rw (← are.0) (div_below b w.later w.tics later (omega (arith, are.1)))) tics)
  shares_end (w ∷ rest) count a b (suc n) d are sound a_in b_in within same other equal =
      let later = some_count rest w.later are.2 sound.1 in
      let high = same zero w (omega arith) in
      let last = wheel_at rest w.later n d are.2 sound.1 (omega arith) in
      let a_rest = ap (λ (xs : List Tic). slice_get xs (suc n)) (sequence_split w rest count a are later a_in) in
      let b_rest = ap (λ (xs : List Tic). slice_get xs (suc n)) (sequence_split w rest count b are later b_in) in
      shares_end rest w.later (a % w.later) (b % w.later) n d are.2 sound.1 (omega arith) (omega arith) (omega arith)
      (λ j e below. let at = wheel_at rest w.later j e are.2 sound.1 (omega arith) in
      quotients_kept a b w.later at.divides.0 (get_or rest j e).tics (get_or rest j e).later at.later at.divides.1 high (same (suc j) e (omega arith)))
      (λ low. other (quotients_joined a b w.later last.divides.0 (get_or rest n d).tics (get_or rest n d).later last.later last.divides.1 high low))
      (sym a_rest ∙ equal ∙ b_rest)

  -- the ranges that the wheels were made of are a space
  pub made_space : (tics read made : List TicRanges) (wheels : List Wheel) (count : ℕ) → IsDeep tics → All (IsSound long) read → read ≡ tics → ranges_of wheels ≡ made → made ≡ tics → AreWheels long wheels count → count ≤ 2 ^ 40
      → IsSpace (seen wheels long)
  made_space tics read made wheels count deep each reads ranges makes are few =
      let all : ranges_of wheels ≡ tics = ranges ∙ makes in
      let same : seen wheels long ≡ ranges_with tics long = ap (λ (rs : List TicRanges). ranges_with rs long) all in
      subst IsSpace (sym same) (record { deep = deep; each = subst (All (IsSound long)) reads each; few = omega (arith, counted (ranges_with tics long) wheels count same are) })

  pub seen_as : (tics made : List TicRanges) (wheels : List Wheel) → ranges_of wheels ≡ made → made ≡ tics → seen wheels long ≡ ranges_with tics long
  seen_as tics made wheels ranges makes = ap (λ (rs : List TicRanges). ranges_with rs long) (ranges ∙ makes)

  pub shares : (now : Ranges) (wheels : List Wheel) (count a b n : ℕ) (w : Wheel) → seen wheels long ≡ now → IsSpace (seen wheels long) → AreWheels long wheels count
      → a < length (all_sequences now) → b < length (all_sequences now) → n < length now.tics
      → ((j : ℕ) (d : Wheel) → j < n → a / (get_or wheels j d).later ≡ b / (get_or wheels j d).later) → w ≡ get_or wheels n w → a / w.later ≢ b / w.later
      → SharesExactly n (sequence_at now a) (sequence_at now b)
  shares now wheels count a b n w same space are a_in b_in within equal is other =
      let sound = recursion_from_All (IsSound long) (ranges_of wheels) space.each in
      let all = counted now wheels count same are in
      let there = in_wheels now wheels n same within in
      let other' : a / (get_or wheels n w).later ≢ b / (get_or wheels n w).later = λ e. other (ap (λ (x : Wheel). a / x.later) is ∙ e ∙ sym (ap (λ (x : Wheel). b / x.later) is)) in
      subst (λ (rs : Ranges). SharesExactly n (sequence_at rs a) (sequence_at rs b)) same (record {
        within = omega (arith, length-sequence wheels count a are sound (omega (arith, all)));
        same = shares_front wheels count a b n are sound (omega (arith, all)) (omega (arith, all)) (omega arith) equal;
        differ = λ _. shares_end wheels count a b n w are sound (omega (arith, all)) (omega (arith, all)) there equal other';
      })

  pub shares_all : (now : Ranges) (wheels : List Wheel) (count a b n : ℕ) → seen wheels long ≡ now → IsSpace (seen wheels long) → AreWheels long wheels count
      → a < length (all_sequences now) → b < length (all_sequences now) → n ≡ length now.tics
      → ((j : ℕ) (d : Wheel) → j < n → a / (get_or wheels j d).later ≡ b / (get_or wheels j d).later)
      → SharesExactly n (sequence_at now a) (sequence_at now b)
  shares_all now wheels count a b n same space are a_in b_in whole equal =
      let sound = recursion_from_All (IsSound long) (ranges_of wheels) space.each in
      let all = counted now wheels count same are in
      let many : length wheels ≡ length now.tics = sym (length-map wheels (λ w. w.ranges)) ∙ ap (λ (rs : Ranges). length rs.tics) same in
      let long = length-sequence wheels count a are sound (omega (arith, all)) in
      subst (λ (rs : Ranges). SharesExactly n (sequence_at rs a) (sequence_at rs b)) same (record {
        within = omega (arith, long, many);
        same = shares_front wheels count a b n are sound (omega (arith, all)) (omega (arith, all)) (omega (arith, many)) equal;
        differ = λ below. absurd (omega (arith, long, many, below));
      })

  -- what lies between two numbers with one quotient has it too
  same_quotient : (a b m l : ℕ) → 0 < l → a ≤ m → m ≤ b → a / l ≡ b / l → a / l ≡ m / l
  same_quotient a b m l some low high same =
      let least = le-div (a / l) m l some (omega (arith, div-mul-le_self a l)) in
      let most = le-div (m / l) b l some (omega (arith, div-mul-le_self m l)) in
      omega (arith, least, most, same)

  -- and so the sequences between two share what these share
  pub shares_between : (now : Ranges) (wheels : List Wheel) (count a b n : ℕ) → seen wheels long ≡ now → IsSpace (seen wheels long) → AreWheels long wheels count
      → b < length (all_sequences now) → n ≤ length now.tics
      → ((j : ℕ) (d : Wheel) → j < n → a / (get_or wheels j d).later ≡ b / (get_or wheels j d).later)
      → (m : ℕ) → a ≤ m → m ≤ b → take n (sequence_at now a) ≡ take n (sequence_at now m)
  shares_between now wheels count a b n same space are b_in within equal m low high =
      let sound = recursion_from_All (IsSound long) (ranges_of wheels) space.each in
      let all = counted now wheels count same are in
      let many : length wheels ≡ length now.tics = sym (length-map wheels (λ w. w.ranges)) ∙ ap (λ (rs : Ranges). length rs.tics) same in
      subst (λ (rs : Ranges). take n (sequence_at rs a) ≡ take n (sequence_at rs m)) same
      (shares_front wheels count a m n are sound (omega (arith, all)) (omega (arith, all)) (omega (arith, many))
      (λ j d below. let at = wheel_at wheels count j d are sound (omega (arith, many)) in
      same_quotient a b m (get_or wheels j d).later at.later low high (equal j d below)))
