-- The worlds of a walk: one more tic, and those that another sequence shares.
use Rattle.std.proofs.Common.{zero, suc, ◌≡◌, ℕ, ◌+◌, ◌-◌, ◌<◌, ◌≤◌, Bool, true, false, ◌||◌, ◌&&◌, List, [], ◌∷◌, ◌++◌, length, take, get_or, Option, Some, None, slice_get, nat_eq, refl, sym, ◌∙◌, ap, subst, inl, inr, arith}
use Rattle.std.specs.Option.{option_map_or}
use Rattle.std.proofs.lemmas.Bool.{cases_lt, eq-eqb}
use Rattle.std.proofs.lemmas.Bool.Decides.{Decides-int_eq}
use Rattle.std.proofs.lemmas.Nat.Bits.{bit_at-zero}
use Rattle.std.proofs.lemmas.List.{get_or_default, take_more, take_all, take-take, length-take, length_push, get_or_append_left, get_or_push, get_or-take}
use Rattle.std.proofs.lemmas.List.Sums.{fold-append}
use Rattle.std.specs.Ordering.{int_eq}
use Rattle.doom_edge.specs.Counts.{raised, raised-zero, raised_step}
use Rattle.lmp_codec.specs.declared.input.Tic.{Tic}
use Rattle.game_trait.specs.declared.game.Game.{Ghosts}
use Rattle.game_trait.specs.Replay.{after_all}
use Rattle.brute_ranges.specs.Space.{Ranges, sequence_at, is_same, shared_front}
use Rattle.brute_targets.specs.declared.want.Want.{Want}
use Rattle.brute_targets.specs.Lines.{has_bit}
use Rattle.brute_targets.specs.Targets.{acts_now, acts_at}
use Rattle.brute_targets.specs.Meets.{acted_in, tics_meet, AreLines}
use Rattle.brute_run.specs.Search.{count_of, meets}
use Rattle.brute_run.specs.Walks.{Walked, top_world, top_lines, IsStop, AreAlong, Belongs, shared_with}

-- the world after one tic more
after_push : {G W : Type 0} (rules : Ghosts G W) (game : G) (kept : W) (tics : List Tic) (tic : Tic)
    → after_all rules game kept (tics ++ tic ∷ []) ≡ rules.after game (after_all rules game kept tics) tic
after_push rules game kept tics tic = fold-append (rules.after game) kept tics (tic ∷ [])

-- a line acted in the tics before, or in the one after them
or_last : (a b c : Bool) → (a || (b || c)) ≡ ((a || b) || c)
or_last true b c = refl
or_last false b c = refl

or_false : (a : Bool) → (a || false) ≡ a
or_false true = refl
or_false false = refl

acted_push : {G W : Type 0} (rules : Ghosts G W) (game : G) (kept : W) (tics : List Tic) (tic : Tic) (want : Want)
    → acted_in rules game kept (tics ++ tic ∷ []) want
    ≡ (acted_in rules game kept tics want || acts_now rules game (rules.after game (after_all rules game kept tics) tic) want)
acted_push rules game kept [] tic want = or_false (acts_now rules game (rules.after game kept tic) want)
acted_push rules game kept (first ∷ rest) tic want =
    ap (λ b. acts_now rules game (rules.after game kept first) want || b) (acted_push rules game (rules.after game kept first) rest tic want)
    ∙ or_last (acts_now rules game (rules.after game kept first) want) (acted_in rules game (rules.after game kept first) rest want) _

acted_at_push : {G W : Type 0} (rules : Ghosts G W) (game : G) (kept : W) (tics : List Tic) (tic : Tic) (found : Option Want)
    → option_map_or (acted_in rules game kept (tics ++ tic ∷ [])) found false
    ≡ (option_map_or (acted_in rules game kept tics) found false || option_map_or (acts_now rules game (rules.after game (after_all rules game kept tics) tic)) found false)
acted_at_push rules game kept tics tic None = refl
acted_at_push rules game kept tics tic (Some want) = acted_push rules game kept tics tic want

-- a stop, and the next one
next_stop : {G W : Type 0} (rules : Ghosts G W) (game : G) (kept : W) (wants : List Want) (tics : List Tic) (n : ℕ) (tic : Tic) (world next : W) (lines more : ℕ)
    → slice_get tics n ≡ Some tic → IsStop rules game kept wants (take n tics) world lines
    → next ≡ rules.after game world tic → rules.fits game next
    → ((i : ℕ) → has_bit more i ≡ (has_bit lines i || acts_at rules game next wants i))
    → IsStop rules game kept wants (take (n + 1) tics) next more
next_stop {G} {W} rules game kept wants tics n tic world next lines more at stop plays fits bits =
    let read = slice_get_read' tics n tic at in
    let front : take (n + 1) tics ≡ take n tics ++ tic ∷ [] = take_more tics n tic read.0 ∙ ap (λ t. take n tics ++ t ∷ []) read.1 in
    let led : next ≡ rules.after game (after_all rules game kept (take n tics)) tic = plays ∙ ap (λ v. rules.after game v tic) stop.same in
    rw front (record {
      same = led ∙ sym (after_push rules game kept (take n tics) tic);
      fitting = fits;
      lines_are = λ i. bits i
          ∙ ap (λ b. b || acts_at rules game next wants i) (stop.lines_are i)
          ∙ ap (λ (v : W). option_map_or (acted_in rules game kept (take n tics)) (slice_get wants i) false || acts_at rules game v wants i) led
          ∙ sym (acted_at_push rules game kept (take n tics) tic (slice_get wants i));
    })
  where
    slice_get_read' : (xs : List Tic) (i : ℕ) (x : Tic) → slice_get xs i ≡ Some x → (i < length xs) × (get_or xs i x ≡ x)
    slice_get_read' [] i x is = absurd cc
    slice_get_read' (y ∷ ys) zero x is = (omega arith, cc)
    slice_get_read' (y ∷ ys) (suc i) x is = let rest = slice_get_read' ys i x is in let less : i < length ys = rest.0 in (omega arith, rest.1)

no_lines : {G W : Type 0} (rules : Ghosts G W) (game : G) (kept : W) (found : Option Want) → option_map_or (acted_in rules game kept []) found false ≡ false
no_lines rules game kept None = refl
no_lines rules game kept (Some want) = refl

-- where the walk has come to
pub top_stop : {G W : Type 0} (rules : Ghosts G W) (game : G) (kept : W) (wants : List Want) (tics : List Tic) (worlds : List W) (lines : List ℕ)
    → rules.fits game kept → AreAlong rules game kept wants tics worlds lines
    → IsStop rules game kept wants (take (length worlds) tics) (top_world kept worlds) (top_lines lines)
top_stop rules game kept wants tics [] [] fits along = record {
  same = refl;
  fitting = fits;
  lines_are = λ i. ap (λ n. nat_eq n 1) (bit_at-zero i) ∙ sym (no_lines rules game kept (slice_get wants i));
}
top_stop rules game kept wants tics [] (l ∷ ls) fits along = absurd (omega (arith, along.paired))
top_stop rules game kept wants tics (w ∷ ws) lines fits along =
    let last = along.each (length (w ∷ ws) - 1) (omega arith) in
    let whole : (length (w ∷ ws) - 1) + 1 ≡ length (w ∷ ws) = omega arith in
    let same : length (w ∷ ws) - 1 ≡ length lines - 1 = omega (arith, along.paired) in
    subst (λ n. IsStop rules game kept wants (take n tics) (top_world kept (w ∷ ws)) (top_lines lines)) whole
    (subst (λ n. IsStop rules game kept wants (take ((length (w ∷ ws) - 1) + 1) tics) (top_world kept (w ∷ ws)) (get_or lines n 0)) same last)

-- one world more
pub along_push : {G W : Type 0} (rules : Ghosts G W) (game : G) (kept : W) (wants : List Want) (tics : List Tic) (worlds now : List W) (lines now_lines : List ℕ) (tic : Tic) (next : W) (more : ℕ)
    → rules.fits game kept → AreAlong rules game kept wants tics worlds lines → slice_get tics (length worlds) ≡ Some tic → length worlds < length tics
    → next ≡ rules.after game (top_world kept worlds) tic → rules.fits game next
    → ((i : ℕ) → has_bit more i ≡ (has_bit (top_lines lines) i || acts_at rules game next wants i))
    → now ≡ worlds ++ next ∷ [] → now_lines ≡ lines ++ more ∷ []
    → AreAlong rules game kept wants tics now now_lines
along_push rules game kept wants tics worlds now lines now_lines tic next more fits along at inside plays fitting bits pushed lines_pushed = rw (pushed, lines_pushed) (record {
  within = omega (arith, length_push worlds next);
  paired = omega (arith, length_push worlds next, length_push lines more, along.paired);
  each = λ k below. elim (cases_lt k (length worlds)) [
    | inl before ↦
        let world = get_or_append_left worlds (next ∷ []) kept k before in
        let line = get_or_append_left lines (more ∷ []) 0 k (omega (arith, along.paired)) in
        rw (world, line) (along.each k before)
    | inr not_before ↦
        let last : length worlds ≡ k = omega (arith, length_push worlds next) in
        let world = get_or_push worlds next kept k last in
        let line = get_or_push lines more 0 k (omega (arith, along.paired)) in
        rw (world, line) (subst (λ n. IsStop rules game kept wants (take (n + 1) tics) next more) last
        (next_stop rules game kept wants tics (length worlds) tic (top_world kept worlds) next (top_lines lines) more at
        (top_stop rules game kept wants tics worlds lines fits along) plays fitting bits))
  ];
})

-- the worlds that another sequence shares
pub along_cut : {G W : Type 0} (rules : Ghosts G W) (game : G) (kept : W) (wants : List Want) (tics other : List Tic) (worlds now : List W) (lines now_lines : List ℕ) (c : ℕ)
    → AreAlong rules game kept wants tics worlds lines → take c tics ≡ take c other → c ≤ length other
    → now ≡ take c worlds → now_lines ≡ take c lines
    → AreAlong rules game kept wants other now now_lines
along_cut rules game kept wants tics other worlds now lines now_lines c along same inside cut lines_cut = rw (cut, lines_cut) (record {
  within = omega (arith, length-take c worlds);
  paired = omega (arith, length-take c worlds, length-take c lines, along.paired);
  each = λ k below.
      let less : k < c = omega (arith, length-take c worlds) in
      let had : k < length worlds = omega (arith, length-take c worlds) in
      let le : k + 1 ≤ c = omega arith in
      let front : take (k + 1) tics ≡ take (k + 1) other = sym (take-take (k + 1) c tics le) ∙ ap (take (k + 1)) same ∙ take-take (k + 1) c other le in
      let world = get_or-take c worlds k kept less in
      let line = get_or-take c lines k 0 less in
      rw (world, line) (rw (← front) (along.each k had));
})

-- sequences that begin alike share that much at least
all_true : (a b c d : Bool) → a ≡ true → b ≡ true → c ≡ true → d ≡ true → (a && (b && (c && d))) ≡ true
all_true a b c d one two three four = rw (one, two, three, four) refl

tic_itself : (a : Tic) → is_same a a ≡ true
tic_itself a = all_true (int_eq a.forward a.forward) (int_eq a.side a.side) (nat_eq a.turn a.turn) (nat_eq a.buttons a.buttons)
    ((Decides-int_eq a.forward a.forward).1 refl) ((Decides-int_eq a.side a.side).1 refl) (eq-eqb a.turn a.turn refl) (eq-eqb a.buttons a.buttons refl)

tic_same : (a b : Tic) → a ≡ b → is_same a b ≡ true
tic_same a b same = ap (is_same a) (sym same) ∙ tic_itself a

pub shares_front : (c : ℕ) (a b : List Tic) → take c a ≡ take c b → c ≤ length a → c ≤ length b → c ≤ shared_front a b
shares_front zero a b same in_a in_b = omega arith
shares_front (suc c) [] b same in_a in_b = absurd (omega arith)
shares_front (suc c) (x ∷ a) [] same in_a in_b = absurd (omega arith)
shares_front (suc c) (x ∷ a) (y ∷ b) same in_a in_b =
    let head : x ≡ y = cc in
    let tail : take c a ≡ take c b = cc in
    let rest = shares_front c a b tail (omega arith) (omega arith) in
    rw (tic_same x y head) (omega arith)

-- the walk after one world more
pub belongs_push : {G W : Type 0} (rules : Ghosts G W) (game : G) (wants : List Want) (ranges : Ranges) (old new : Walked W) (tic : Tic) (next : W) (more : ℕ)
    → Belongs rules game wants ranges old → slice_get (sequence_at ranges old.last) (length old.worlds) ≡ Some tic → length old.worlds < length (sequence_at ranges old.last)
    → next ≡ rules.after game (top_world old.kept old.worlds) tic → rules.fits game next
    → ((i : ℕ) → has_bit more i ≡ (has_bit (top_lines old.lines) i || acts_at rules game next wants i))
    → new.worlds ≡ old.worlds ++ next ∷ [] → new.lines ≡ old.lines ++ more ∷ [] → new.kept ≡ old.kept → new.last ≡ old.last
    → Belongs rules game wants ranges new
belongs_push rules game wants ranges old new tic next more is at inside plays fitting bits pushed lines_pushed kept last = record {
  fitting = rw kept is.fitting;
  last = rw last is.last;
  along = rw (kept, last) (along_push rules game old.kept wants (sequence_at ranges old.last) old.worlds new.worlds old.lines new.lines tic next more
      is.fitting is.along at inside plays fitting bits pushed lines_pushed);
}

-- the walk that goes on with another number
pub belongs_cut : {G W : Type 0} (rules : Ghosts G W) (game : G) (wants : List Want) (ranges : Ranges) (old new : Walked W) (k c : ℕ)
    → Belongs rules game wants ranges old → k < count_of ranges → take c (sequence_at ranges old.last) ≡ take c (sequence_at ranges k) → c ≤ length (sequence_at ranges k)
    → new.worlds ≡ take c old.worlds → new.lines ≡ take c old.lines → new.kept ≡ old.kept → new.last ≡ k
    → Belongs rules game wants ranges new
belongs_cut rules game wants ranges old new k c is below same inside cut lines_cut kept last = record {
  fitting = rw kept is.fitting;
  last = rw last below;
  along = rw (kept, last) (along_cut rules game old.kept wants (sequence_at ranges old.last) (sequence_at ranges k) old.worlds new.worlds old.lines new.lines c is.along same inside cut lines_cut);
}

-- so many steps so far
pub steps_none : (count now length' : ℕ) → now ≡ length' → count ≡ raised count (now - length')
steps_none count now length' same = let none : now - length' ≡ 0 = omega arith in rw none (sym (raised-zero count))

pub steps_more : (count now then place from : ℕ) → from ≤ place → now ≡ raised count (place - from) → then ≡ raised now 1 → then ≡ raised count (place + 1 - from)
steps_more count now then place from later so more =
    let sum : (place - from) + 1 ≡ place + 1 - from = omega arith in
    more ∙ ap (λ n. raised n 1) so ∙ raised_step count (place - from) ∙ ap (raised count) sum

-- what a number shares with the last one is no more than with any between them
pub nearest_all : {W : Type 0} (walk : Walked W) (ranges : Ranges) (k c last : ℕ) → last ≡ walk.last → walk.last < count_of ranges → k < count_of ranges
    → ((j : ℕ) → j < count_of ranges → length (sequence_at ranges j) ≡ length ranges.tics)
    → c ≡ shared_front (sequence_at ranges last) (sequence_at ranges k) → c ≤ length (sequence_at ranges last)
    → ((m : ℕ) → last ≤ m → m ≤ k → take c (sequence_at ranges last) ≡ take c (sequence_at ranges m))
    → (m : ℕ) → walk.last ≤ m → m ≤ k → shared_with walk ranges k ≤ shared_front (sequence_at ranges m) (sequence_at ranges k)
nearest_all walk ranges k c last here last_below below each is within same m after before =
    let in_last = each last (omega arith) in
    let in_m = each m (omega arith) in
    let in_k = each k below in
    let from : last ≤ m = omega arith in
    let le : last ≤ k = omega arith in
    let le_k : k ≤ k = omega arith in
    let front = shares_front c (sequence_at ranges m) (sequence_at ranges k) (sym (same m from before) ∙ same k le le_k) (omega arith) (omega arith) in
    let is_last : shared_front (sequence_at ranges last) (sequence_at ranges k) ≡ shared_front (sequence_at ranges walk.last) (sequence_at ranges k) =
    ap (λ n. shared_front (sequence_at ranges n) (sequence_at ranges k)) here in
    omega (arith, front, is_last)

-- the last world and its line bits judge the number
pub top_meets : {G W : Type 0} (rules : Ghosts G W) (game : G) (wants : List Want) (ranges : Ranges) (walk : Walked W) (worlds : List W) (bits : List ℕ) (d : ℕ) (world : W) (lines : ℕ) (result : Bool)
    → Belongs rules game wants ranges walk → worlds ≡ walk.worlds → bits ≡ walk.lines → d ≡ length ranges.tics → length walk.worlds ≡ length ranges.tics → 0 < length ranges.tics
    → length (sequence_at ranges walk.last) ≡ length ranges.tics
    → world ≡ get_or worlds (d - 1) world → lines ≡ get_or bits (d - 1) lines
    → ((kept : W) (tics : List Tic) → world ≡ after_all rules game kept tics → AreLines rules game kept wants tics lines → result ≡ tics_meet rules game kept wants tics)
    → result ≡ meets rules game walk.kept wants ranges walk.last
top_meets {W = W} rules game wants ranges walk worlds bits d world lines result is same_worlds same_lines deep full some_tic long world_is lines_is judges =
    let last = is.along.each (d - 1) (omega arith) in
    let inside : d - 1 < length walk.worlds = omega arith in
    let inside_lines : d - 1 < length walk.lines = omega (arith, is.along.paired) in
    let whole : (d - 1) + 1 ≡ length (sequence_at ranges walk.last) = omega arith in
    let all : take ((d - 1) + 1) (sequence_at ranges walk.last) ≡ sequence_at ranges walk.last = take_all ((d - 1) + 1) (sequence_at ranges walk.last) (omega arith) in
    let world_at : get_or walk.worlds (d - 1) walk.kept ≡ world =
    get_or_default walk.worlds (d - 1) walk.kept world inside ∙ sym (world_is ∙ ap (λ xs. get_or xs (d - 1) world) same_worlds) in
    let lines_at : get_or walk.lines (d - 1) 0 ≡ lines =
    get_or_default walk.lines (d - 1) 0 lines inside_lines ∙ sym (lines_is ∙ ap (λ xs. get_or xs (d - 1) lines) same_lines) in
    let stop : IsStop rules game walk.kept wants (sequence_at ranges walk.last) world lines =
    subst (λ n. IsStop rules game walk.kept wants (sequence_at ranges walk.last) world n) lines_at
    (subst (λ (v : W). IsStop rules game walk.kept wants (sequence_at ranges walk.last) v (get_or walk.lines (d - 1) 0)) world_at
    (subst (λ xs. IsStop rules game walk.kept wants xs (get_or walk.worlds (d - 1) walk.kept) (get_or walk.lines (d - 1) 0)) all last)) in
    judges walk.kept (sequence_at ranges walk.last) stop.same stop.lines_are
