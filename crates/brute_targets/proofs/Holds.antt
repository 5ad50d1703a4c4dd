-- Targets by their places, and in a list.
use Rattle.std.proofs.Common.{suc, ◌≡◌, ℕ, ◌+◌, ◌<◌, ◌≤◌, Bool, false, ◌&&◌, not, List, [], ◌∷◌, length, get_or, slice_get, refl, sym, ◌∙◌, ap, arith}
use Rattle.std.specs.List.{list_all}
use Rattle.std.specs.Option.{option_map_or}
use Rattle.std.proofs.lemmas.Option.{slice_get-get_or, slice_get_past}
use Rattle.lmp_codec.specs.declared.input.Tic.{Tic}
use Rattle.game_trait.specs.declared.game.Game.{Ghosts}
use Rattle.game_trait.specs.Replay.{after_all}
use Rattle.game_trait.specs.Shown.{is_halted}
use Rattle.brute_targets.specs.declared.want.Want.{Want}
use Rattle.brute_targets.specs.Lines.{has_bit}
use Rattle.brute_targets.specs.Targets.{all_hold, is_met, acts_now, acts_at}
use Rattle.brute_targets.specs.Meets.{acted_in, holds, tics_meet, AreLines}

-- where the bits tell of each target whether its line acted, each target is judged as of the tics
hold_all : {G W : Type 0} (rules : Ghosts G W) (game : G) (kept : W) (tics : List Tic) (acted : ℕ → Bool) (wants : List Want) (place : ℕ)
    → ((i : ℕ) → acted (place + i) ≡ option_map_or (acted_in rules game kept tics) (slice_get wants i) false)
    → all_hold rules game (after_all rules game kept tics) acted place wants ≡ list_all (holds rules game kept tics) wants
hold_all rules game kept tics acted [] place are = refl
hold_all rules game kept tics acted (want ∷ rest) place are =
    let here : acted place ≡ acted_in rules game kept tics want = ap acted (let e : place ≡ place + 0 = omega arith in e) ∙ are 0 in
    let more = hold_all rules game kept tics acted rest (place + 1) (λ i. ap acted (let e : (place + 1) + i ≡ place + suc i = omega arith in e) ∙ are (suc i)) in
    rw (here, more) refl

pub met_by : {G W : Type 0} (rules : Ghosts G W) (game : G) (kept world : W) (tics : List Tic) (lines : ℕ) (wants : List Want)
    → world ≡ after_all rules game kept tics → AreLines rules game kept wants tics lines
    → is_met rules game world (has_bit lines) wants ≡ tics_meet rules game kept wants tics
met_by rules game kept world tics lines wants leads are =
    ap (λ w. is_met rules game w (has_bit lines) wants) leads
    ∙ ap (λ b. not (is_halted (rules.shown_of game (after_all rules game kept tics))) && b) (hold_all rules game kept tics (has_bit lines) wants 0 (λ i. ap (has_bit lines) (let e : 0 + i ≡ i = omega arith in e) ∙ are i))

-- what is said of the target at a place
pub acts_here : {G W : Type 0} (rules : Ghosts G W) (game : G) (world : W) (wants items : List Want) (i : ℕ) (acts : Bool) (d : Want)
    → items ≡ wants → i < length items → acts ≡ acts_now rules game world (get_or items i d) → acts ≡ acts_at rules game world wants i
acts_here rules game world wants items i acts d same within is =
    is ∙ sym (ap (λ o. option_map_or (acts_now rules game world) o false) (slice_get-get_or items i d within))
    ∙ ap (λ xs. acts_at rules game world xs i) same

pub acts_past : {G W : Type 0} (rules : Ghosts G W) (game : G) (world : W) (wants : List Want) (i : ℕ) → length wants ≤ i → acts_at rules game world wants i ≡ false
acts_past rules game world wants i past = ap (λ o. option_map_or (acts_now rules game world) o false) (slice_get_past wants i past)
