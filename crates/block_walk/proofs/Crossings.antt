-- Whether a way crosses a line, from the sides that the code asks for.
use Rattle.std.proofs.Common.{◌≡◌, ℕ, ◌<◌, ℤ, true, false, not, eqb, List, [], ◌∷◌, length, Option, Some, None, All, refl, ap, ◌∙◌}
use Rattle.std.specs.Prelude.{option_map}
use Rattle.std.specs.List.{cons_option}
use Rattle.std.proofs.lemmas.List.Elements.{All-nil, All-cons, All-head, All-tail}
use Rattle.map_geometry.specs.Lists.{Lists, nth_line}
use Rattle.map_geometry.specs.declared.records.Line.{Line}
use Rattle.map_geometry.specs.declared.records.DivLine.{DivLine}
use Rattle.map_geometry.specs.Sides.{plus, side_of_line, side_of_trace}
use Rattle.map_geometry.specs.declared.blocks.Block.{Block}
use Rattle.block_walk.specs.Near.{near_all, near}
use Rattle.block_walk.specs.Steps.{is_marked, IsClear, Meets, fresh}
use Rattle.block_walk.specs.Traces.{is_long, is_crossed, fraction_at, crossed}
use Rattle.block_walk.proofs.Fresh.{fresh_first_ones, All-fresh}

module _ (way : DivLine) (line : Line) (a b : ℕ) where
  pub crossed_long : is_long way ≡ true → a ≡ side_of_trace way line.x line.y → b ≡ side_of_trace way (plus line.x line.dx) (plus line.y line.dy) → not (eqb a b) ≡ is_crossed way line
  unfolding is_crossed
  crossed_long long a_is b_is = rw (long, a_is, b_is) refl

  pub crossed_short : is_long way ≡ false → a ≡ side_of_line line way.x way.y → b ≡ side_of_line line (plus way.x way.dx) (plus way.y way.dy) → not (eqb a b) ≡ is_crossed way line
  unfolding is_crossed
  crossed_short short a_is b_is = rw (short, a_is, b_is) refl

-- ---- the pairs of a walk from the start

-- a fact of lines holds of the lines in pairs
pub All-crossed : (P : ℕ → Type 0) (l : Lists) (way : DivLine) (lines : List ℕ) → All P lines → All (λ (pair : ℤ × ℕ). P pair.1) (crossed l way lines)
All-crossed P l way [] all = All-nil (λ (pair : ℤ × ℕ). P pair.1)
All-crossed P l way (line ∷ lines) all = with_first P l way line lines (fraction_at way (nth_line l line)) (All-head P line lines all) (All-crossed P l way lines (All-tail P line lines all))
  where
    with_first : (P : ℕ → Type 0) (l : Lists) (way : DivLine) (line : ℕ) (lines : List ℕ) (fraction : Option ℤ) → P line → All (λ (pair : ℤ × ℕ). P pair.1) (crossed l way lines)
        → All (λ (pair : ℤ × ℕ). P pair.1) (cons_option (option_map (λ f. (f, line)) fraction) (crossed l way lines))
    with_first P l way line lines None here rest = rest
    with_first P l way line lines (Some f) here rest = All-cons (λ (pair : ℤ × ℕ). P pair.1) (f, line) (crossed l way lines) here rest

module _ (l : Lists) (way : DivLine) (met : List ℕ) (blocks : List Block) (clear : IsClear met) where
  pub crossed_near : (lists new : List ℕ) (out : List (ℤ × ℕ)) → Meets (crossed l way) l lists met new [] out blocks → out ≡ crossed l way (near l blocks)
  crossed_near lists new out meets = meets.lines.more ∙ ap (crossed l way) (fresh_first_ones (is_marked met) clear (near_all l blocks))

  pub crossed_there : (lists new : List ℕ) (out : List (ℤ × ℕ)) → Meets (crossed l way) l lists met new [] out blocks → All (λ pair. pair.1 < length l.lines) out
  crossed_there lists new out meets =
      rw meets.lines.more (All-crossed (λ line. line < length l.lines) l way (fresh (is_marked met) (near_all l blocks)) (All-fresh (λ line. line < length l.lines) (is_marked met) (near_all l blocks) meets.there))

  pub crossed_many : 128 < length (crossed l way (fresh (is_marked met) (near_all l blocks))) → 128 < length (crossed l way (near l blocks))
  crossed_many many = rw (fresh_first_ones (is_marked met) clear (near_all l blocks)) at many
