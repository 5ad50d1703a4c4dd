-- A slide, pass by pass.
use Rattle.std.proofs.Common.{◌≡◌, ℕ, suc, ◌-◌, ◌+◌, ◌<◌, ◌∙◌, ap, arith}
use Rattle.std.specs.Prelude.{refl}
use Rattle.fixed_angle.specs.Tables.{Tables}
use Rattle.map_geometry.specs.Lists.{Lists}
use Rattle.cow_world.specs.Flat.{Gridded}
use Rattle.cow_world.specs.Outcome.{Outcome, goes, and_then}
use Rattle.player_move.specs.declared.slides.Pass.{Pass}
use Rattle.player_move.specs.declared.slides.Pass.TheVariants.{Ended, Stuck, Again}
use Rattle.player_move.specs.Slides.{stair_of, pass_of, after_pass, slide_of}

one_more : (level : Lists) (tables : Tables) (left : ℕ) (world : Gridded) → slide_of level tables (suc left) world ≡ and_then (pass_of level tables world) (λ pass. after_pass level tables (slide_of level tables left) pass.0 pass.1)
unfolding slide_of
one_more level tables left world = refl

-- what is left of a slide begins with a pass
pub passes : (level : Lists) (tables : Tables) (i : ℕ) (world : Gridded) (outcome : Outcome (Gridded × Pass)) → i < 2 → pass_of level tables world ≡ outcome
    → slide_of level tables (2 - i) world ≡ and_then outcome (λ pass. after_pass level tables (slide_of level tables (2 - (i + 1))) pass.0 pass.1)
passes level tables i world outcome below is =
    let more : 2 - i ≡ suc (2 - (i + 1)) = omega arith in
    ap (λ n. slide_of level tables n world) more ∙ one_more level tables (2 - (i + 1)) world
    ∙ ap (λ o. and_then o (λ pass. after_pass level tables (slide_of level tables (2 - (i + 1))) pass.0 pass.1)) is

-- after the last pass comes the stair step
pub no_more : (level : Lists) (tables : Tables) (i : ℕ) (world : Gridded) → i ≡ 2 → slide_of level tables (2 - i) world ≡ stair_of level tables world
unfolding slide_of
no_more level tables i world last =
    let none : 2 - i ≡ 0 = omega arith in
    ap (λ n. slide_of level tables n world) none

module _ (level : Lists) (tables : Tables) (i : ℕ) (world next : Gridded) (pass : Pass) (below : i < 2) (is : pass_of level tables world ≡ goes (next, pass)) where
  after : slide_of level tables (2 - i) world ≡ after_pass level tables (slide_of level tables (2 - (i + 1))) next pass
  after = passes level tables i world (goes (next, pass)) below is

  pub slide_ends : pass ≡ Ended → slide_of level tables (2 - i) world ≡ goes next
  slide_ends end = after ∙ ap (λ p. after_pass level tables (slide_of level tables (2 - (i + 1))) next p) end

  pub slide_sticks : pass ≡ Stuck → slide_of level tables (2 - i) world ≡ stair_of level tables next
  slide_sticks end = after ∙ ap (λ p. after_pass level tables (slide_of level tables (2 - (i + 1))) next p) end

  pub slide_goes_on : pass ≡ Again → slide_of level tables (2 - i) world ≡ slide_of level tables (2 - (i + 1)) next
  slide_goes_on end = after ∙ ap (λ p. after_pass level tables (slide_of level tables (2 - (i + 1))) next p) end

-- the slide begins with a pass, whatever that comes to
pub begins : (level : Lists) (tables : Tables) (i : ℕ) (world : Gridded) → i < 2
    → slide_of level tables (2 - i) world ≡ and_then (pass_of level tables world) (λ pass. after_pass level tables (slide_of level tables (2 - (i + 1))) pass.0 pass.1)
begins level tables i world below = passes level tables i world (pass_of level tables world) below refl
