-- A demo of the version that a search is for holds the turns of its sequences.
use Rattle.std.proofs.Common.{◌≡◌, ℕ, zero, suc, ◌%◌, ℤ, Bool, true, false, List, [], ◌∷◌, map, sym, subst, arith}
use Rattle.std.specs.Prelude.{All, slice_index_or}
use Rattle.std.specs.List.{flat_map}
use Rattle.std.proofs.lemmas.List.Elements.{All-nil, All-cons, All-head, All-tail, All-append, All-map, All-weaker}
use Rattle.std.proofs.lemmas.List.Concat.{flat_map-cons}
use Rattle.lmp_codec.specs.Turns.{turn_of}
use Rattle.lmp_codec.specs.Tics.{HoldsTurn, HoldsTurns}
use Rattle.lmp_codec.specs.declared.input.Tic.{Tic}
use Rattle.brute_ranges.specs.declared.ranges.TicRanges.{TicRanges}
use Rattle.brute_ranges.specs.Tics.{tics_of, tic_with, values}
use Rattle.brute_ranges.specs.Space.{Ranges, sequences_of, all_sequences, sequence_at}

-- what holds of each list holds of all of them joined
all_joined : {X A : Type 0} (P : A → Type 0) (f : X → List A) (xs : List X) → ((x : X) → All P (f x)) → All P (flat_map f xs)
all_joined P f [] each = All-nil P
all_joined P f (x ∷ xs) each =
    subst (All P) (sym (flat_map-cons f x xs)) (All-append P (f x) (flat_map f xs) (each x) (all_joined P f xs each))

all_mapped : {X A : Type 0} (P : A → Type 0) (f : X → A) (xs : List X) → ((x : X) → P (f x)) → All P (map f xs)
all_mapped P f [] each = All-nil P
all_mapped P f (x ∷ xs) each = All-cons P (f x) (map f xs) (each x) (all_mapped P f xs each)

turn_holds : (long : Bool) (number : ℤ) → long ≡ false → turn_of long number % 256 ≡ 0
turn_holds true number is = absurd cc
turn_holds false number is = omega arith

tic_holds : (long : Bool) (forward side turn using : ℤ) → HoldsTurn long (tic_with long forward side turn using)
tic_holds long forward side turn using = turn_holds long turn

tics_hold : (long : Bool) (ranges : TicRanges) → HoldsTurns long (tics_of long ranges)
tics_hold long ranges =
    all_joined (HoldsTurn long) _ (values ranges.forward) (λ forward.
    all_joined (HoldsTurn long) _ (values ranges.side) (λ side.
    all_joined (HoldsTurn long) _ (values ranges.turn) (λ turn.
    all_mapped (HoldsTurn long) _ (values ranges.using) (λ using. tic_holds long forward side turn using))))

-- each of some tics, put before each of some sequences
behind : (long : Bool) (tics : List Tic) (sequences : List (List Tic)) → HoldsTurns long tics → All (HoldsTurns long) sequences
    → All (HoldsTurns long) (flat_map (λ tic. map (λ sequence. tic ∷ sequence) sequences) tics)
behind long [] sequences held each = All-nil (HoldsTurns long)
behind long (tic ∷ tics) sequences held each =
    subst (All (HoldsTurns long)) (sym (flat_map-cons (λ tic. map (λ sequence. tic ∷ sequence) sequences) tic tics))
    (All-append (HoldsTurns long) _ _
    (All-map (HoldsTurns long) (λ sequence. tic ∷ sequence) sequences
    (All-weaker (HoldsTurns long) (λ sequence. HoldsTurns long (tic ∷ sequence)) (λ sequence holds. All-cons (HoldsTurn long) tic sequence (All-head (HoldsTurn long) tic tics held) holds) sequences each))
    (behind long tics sequences (All-tail (HoldsTurn long) tic tics held) each))

sequences_hold : (long : Bool) (tics : List TicRanges) → All (HoldsTurns long) (sequences_of long tics)
sequences_hold long [] = All-cons (HoldsTurns long) [] [] (All-nil (HoldsTurn long)) (All-nil (HoldsTurns long))
sequences_hold long (ranges ∷ rest) = behind long (tics_of long ranges) (sequences_of long rest) (tics_hold long ranges) (sequences_hold long rest)

at_or_empty : (long : Bool) (sequences : List (List Tic)) (number : ℕ) → All (HoldsTurns long) sequences → HoldsTurns long (slice_index_or sequences number [])
at_or_empty long [] number held = All-nil (HoldsTurn long)
at_or_empty long (sequence ∷ sequences) zero held = All-head (HoldsTurns long) sequence sequences held
at_or_empty long (sequence ∷ sequences) (suc number) held = at_or_empty long sequences number (All-tail (HoldsTurns long) sequence sequences held)

-- a demo of this version holds a sequence of the search
pub sequence_holds : (ranges : Ranges) (number : ℕ) → HoldsTurns ranges.long (sequence_at ranges number)
sequence_holds ranges number = at_or_empty ranges.long (all_sequences ranges) number (sequences_hold ranges.long ranges.tics)
