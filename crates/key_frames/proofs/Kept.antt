-- Frames after one more, after a cut, and a replay that goes on from one.
use Rattle.std.proofs.Common.{ℕ, zero, suc, ◌+◌, ◌-◌, ◌*◌, ◌/◌, ◌<◌, ◌≤◌, ◌≡◌, ◌++◌, ◌⊎◌, inl, inr, List, [], ◌∷◌, length, take, drop, get_or, arith, ap, refl, sym, ◌∙◌, Some, slice_get, Result, Ok, Err, IfOk}
use Rattle.std.proofs.lemmas.List.{take-append-le, take_more, take-take, take-append-drop, drop-take, length-take, length_push}
use Rattle.std.proofs.lemmas.List.Sums.{fold-append}
use Rattle.std.specs.List.{fold}
use Rattle.doom_edge.specs.Counts.{raised, raised_from, raised-at_most}
use Rattle.lmp_codec.specs.declared.input.Tic.{Tic}
use Rattle.game_trait.specs.declared.game.Game.{Ghosts}
use Rattle.game_trait.specs.Replay.{after_all, replay, IsReplay}
use Rattle.key_frames.specs.Frames.{frame_tics, frame_tic, frame_below, not_past, AreFrames}

-- what is read of a list after a push
get_push : {X : Type 0} (xs : List X) (x : X) (k : ℕ) (v : X)
    → slice_get (xs ++ x ∷ []) k ≡ Some v
    → (slice_get xs k ≡ Some v) ⊎ ((k ≡ length xs) × (x ≡ v))
get_push [] x zero v is = inr (refl, cc)
get_push [] x (suc k) v is = absurd cc
get_push (y ∷ ys) x zero v is = inl is
get_push (y ∷ ys) x (suc k) v is =
    elim (get_push ys x k v is) [ inl there ↦ inl there | inr last ↦ inr (ap suc last.0, last.1) ]

-- what is read of the front of a list
get_take : {X : Type 0} (n : ℕ) (xs : List X) (k : ℕ) (v : X)
    → slice_get (take n xs) k ≡ Some v
    → (k < n) × (slice_get xs k ≡ Some v)
get_take zero xs k v is = absurd cc
get_take (suc n) [] k v is = absurd cc
get_take (suc n) (y ∷ ys) zero v is = (omega arith, is)
get_take (suc n) (y ∷ ys) (suc k) v is =
    let rest = get_take n ys k v is in
    let less : k < n = rest.0 in
    (omega arith, rest.1)

-- one more tic
pub after_more : {G W : Type 0}
    (rules : Ghosts G W) (game : G) (world played next : W) (tics : List Tic) (i : ℕ) (tic : Tic)
    → i < length tics
    → tic ≡ get_or tics i tic
    → played ≡ after_all rules game world (take i tics)
    → next ≡ rules.after game played tic
    → next ≡ after_all rules game world (take (i + 1) tics)
after_more {W = W} rules game world played next tics i tic within is so then =
    let plays : List Tic → W = after_all rules game world in
    let front : plays (take (i + 1) tics) ≡ plays (take i tics ++ get_or tics i tic ∷ []) =
    ap (fold (rules.after game) world) (take_more tics i tic within) in
    let more : plays (take i tics ++ get_or tics i tic ∷ [])
    ≡ rules.after game (plays (take i tics)) (get_or tics i tic) =
    fold-append (rules.after game) world (take i tics) (get_or tics i tic ∷ []) in
    cc

-- tics are the first of them and then those between
front_and_more : (tics : List Tic) (from to : ℕ)
    → from ≤ to
    → take from tics ++ take (to - from) (drop from tics) ≡ take to tics
front_and_more tics from to le =
    let more : List Tic = take (to - from) (drop from tics) in
    let sum : to ≡ from + (to - from) = omega arith in
    let back : drop from (take to tics) ≡ more =
    ap (λ (n : ℕ). drop from (take n tics)) sum ∙ drop-take from (to - from) tics in
    let front : take from (take to tics) ≡ take from tics = take-take from to tics le in
    ap (λ (xs : List Tic). xs ++ more) (sym front)
    ∙ ap (λ (xs : List Tic). take from (take to tics) ++ xs) (sym back)
    ∙ take-append-drop from (take to tics)

-- a replay goes on from the replay of the first tics
pub replay_on : {G W : Type 0}
    (rules : Ghosts G W) (game : G) (tics : List Tic) (from to : ℕ) (frame world : W)
    → from ≤ to
    → frame ≡ replay rules game (take from tics)
    → world ≡ after_all rules game frame (take (to - from) (drop from tics))
    → world ≡ replay rules game (take to tics)
replay_on rules game tics from to frame world le first is =
    let more : List Tic = take (to - from) (drop from tics) in
    let joined : replay rules game (take from tics ++ more)
    ≡ after_all rules game (replay rules game (take from tics)) more =
    fold-append (rules.after game) (rules.opening game) (take from tics) more in
    is
    ∙ ap (λ w. after_all rules game w more) first
    ∙ sym joined
    ∙ ap (replay rules game) (front_and_more tics from to le)

-- the same of a call that may find no memory
pub replay_found : {G W E : Type 0}
    (rules : Ghosts G W) (game : G) (tics : List Tic) (from to : ℕ) (frame : W) (found : Result W E)
    → from ≤ to
    → IsReplay rules game (take from tics) frame
    → IfOk found (λ world. world ≡ after_all rules game frame (take (to - from) (drop from tics)))
    → IfOk found (rules.fits game)
    → IfOk found (IsReplay rules game (take to tics))
replay_found rules game tics from to frame (Ok world) le first is fits =
    record { same = replay_on rules game tics from to frame world le first.same is; fitting = fits }
replay_found rules game tics from to frame (Err e) le first is fits = tt

-- the replay of some tics, shown by a list of them that goes on or doesn't
pub replay_further : {G W : Type 0}
    (rules : Ghosts G W) (game : G) (tics rest : List Tic) (n : ℕ) (world : W)
    → n ≤ length tics
    → IsReplay rules game (take n tics) world
    → IsReplay rules game (take n (tics ++ rest)) world
replay_further rules game tics rest n world inside is = rw (take-append-le n tics rest inside) is

pub replay_nearer : {G W : Type 0}
    (rules : Ghosts G W) (game : G) (tics rest : List Tic) (n : ℕ) (world : W)
    → n ≤ length tics
    → IsReplay rules game (take n (tics ++ rest)) world
    → IsReplay rules game (take n tics) world
replay_nearer rules game tics rest n world inside is = rw (← take-append-le n tics rest inside) is

-- one more frame
pub frames_push : {G W : Type 0}
    (rules : Ghosts G W) (game : G) (tics : List Tic) (frames : List W) (frame : W) (n : ℕ)
    → n ≡ length frames
    → AreFrames rules game tics frames
    → frame_tics * n ≤ length tics
    → IsReplay rules game (take (frame_tics * n) tics) frame
    → AreFrames rules game tics (frames ++ frame ∷ [])
frames_push rules game tics frames frame n len are inside next =
    let opened = are.opened in
    record {
      opened = omega (arith, length_push frames frame);
      within = omega (arith, length_push frames frame);
      each = λ k v is.
          elim (get_push frames frame k v is) [
            | inl there ↦ are.each k v there
            | inr last ↦ rw (last.0, ← last.1, ← len) next
          ];
    }

-- frames that an edit leaves
pub frames_cut : {G W : Type 0}
    (rules : Ghosts G W) (game : G) (tics other : List Tic) (frames : List W) (t : ℕ)
    → AreFrames rules game tics frames
    → take t tics ≡ take t other
    → t ≤ length other
    → AreFrames rules game other (not_past frames t)
frames_cut rules game tics other frames t are same inside =
    let opened = are.opened in
    record {
      opened = omega (arith, length-take (t / frame_tics + 1) frames);
      within = omega (arith, length-take (t / frame_tics + 1) frames);
      each = λ k v is.
          let got = get_take (t / frame_tics + 1) frames k v is in
          let less : k < t / frame_tics + 1 = got.0 in
          let le : frame_tics * k ≤ t = omega arith in
          let front : take (frame_tics * k) tics ≡ take (frame_tics * k) other =
          sym (take-take (frame_tics * k) t tics le)
          ∙ ap (take (frame_tics * k)) same
          ∙ take-take (frame_tics * k) t other le in
          rw (← front) (are.each k v got.1);
    }

-- steps after a count that was raised already
pub raised_on : (count now then first by sum : ℕ)
    → now ≡ raised count first
    → then ≡ raised now by
    → first + by ≡ sum
    → then ≡ raised count sum
raised_on count now then first by sum so more is =
    more ∙ raised_from count now first by so ∙ ap (raised count) is

-- a tic that a frame is near to takes less steps than frames are apart
pub raised_near : (before now last tic : ℕ)
    → now ≡ raised before (tic - frame_below last tic)
    → frame_tic tic ≤ last
    → now < before + frame_tics
raised_near before now last tic is near =
    omega (arith, raised-at_most before (tic - frame_below last tic))
