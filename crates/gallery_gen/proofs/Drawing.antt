-- Numbers that are drawn one after the other.
use Rattle.std.proofs.Common.{◌≡◌, ℕ, zero, suc, ◌+◌, ◌-◌, ◌<◌, List, [], ◌∷◌, ◌++◌, length, refl, sym, ap, ◌∙◌, append_assoc, arith}
use Rattle.std.proofs.lemmas.List.{append-nil}
use Rattle.gallery_gen.specs.Draws.{next_state, drawn, draws, state_after}

-- so many are drawn, and those that are left give what all give from the first state
pub record Drawing (first count k : ℕ) (numbers : List ℕ) (state : ℕ) : Type 0 where
  pub left : numbers ++ draws (count - k) state ≡ draws count first
  pub last : state_after (count - k) state ≡ state_after count first

pub drawing_first : (first count : ℕ) → Drawing first count 0 [] first
drawing_first first count =
    let all : count - 0 ≡ count = omega arith in
    record { left = rw all refl; last = rw all refl }

pub drawing_next : (first count k : ℕ) (numbers : List ℕ) (state : ℕ) → k < count → Drawing first count k numbers state → Drawing first count (k + 1) (numbers ++ drawn state ∷ []) (next_state state)
drawing_next first count k numbers state below drawing =
    let more : count - k ≡ suc (count - (k + 1)) = omega arith in
    record {
      left = append_assoc numbers (drawn state ∷ []) (draws (count - (k + 1)) (next_state state)) ∙ (rw more at drawing.left);
      last = rw more at drawing.last;
    }

pub drawing_all : (first count : ℕ) (numbers : List ℕ) (state : ℕ) → Drawing first count count numbers state → (numbers ≡ draws count first) × (state ≡ state_after count first)
drawing_all first count numbers state drawing =
    let none : count - count ≡ 0 = omega arith in
    (sym (append-nil numbers) ∙ (rw none at drawing.left), rw none at drawing.last)

pub length_draws : (count state : ℕ) → length (draws count state) ≡ count
length_draws zero state = refl
length_draws (suc more) state = ap suc (length_draws more (next_state state))
