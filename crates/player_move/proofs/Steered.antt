-- Who is steered stands for the same thing, and is as well as before.
use Rattle.std.proofs.Common.{◌≡◌, ℕ, ℤ, Bool, true, false, pos, ◌<ℤ◌, ◌∙◌, ap, subst, sym}
use Rattle.std.specs.Prelude.{refl, nat_lt, int_le, if◌then◌else◌}
use Rattle.std.specs.Ordering.{int_eq}
use Rattle.lmp_codec.specs.declared.input.Tic.{Tic}
use Rattle.fixed_angle.specs.Angle.{quarter}
use Rattle.fixed_angle.specs.Tables.{Tables}
use Rattle.cow_world.specs.declared.records.Player.{Player}
use Rattle.cow_world.specs.declared.records.Thing.{Thing}
use Rattle.cow_world.specs.Flat.{Gridded}
use Rattle.cow_world.specs.Fits.{StaysAlive}
use Rattle.slide_geom.specs.Angles.{turned_back}
use Rattle.player_move.specs.Player.{HasPlayer, player_of}
use Rattle.player_move.specs.Thinks.{looking, thrust, driven, driven_both, recovering, steered}

-- what a test chooses between, where both give the same
either_way : {A B : Type 0} (f : A → B) (test : Bool) (x y : A) (z : B) → f x ≡ z → f y ≡ z → f (if test then x else y) ≡ z
either_way f true x y z one other = one
either_way f false x y z one other = other

-- the thing, and the health
abbrev standing : Player → ℕ × ℤ
standing player = (player.thing, player.body.health)

driven_stands : (tables : Tables) (angle : ℕ) (key : ℤ) (player : Player) → standing (driven tables angle key player) ≡ standing player
driven_stands tables angle key player = either_way standing (int_eq key (pos 0)) player (thrust tables angle _ player) (standing player) refl refl

both_stand : (tables : Tables) (tic : Tic) (player : Player) → standing (driven_both tables tic player) ≡ standing player
both_stand tables tic player =
    driven_stands tables (turned_back player.angle quarter) tic.side (driven tables player.angle tic.forward player) ∙ driven_stands tables player.angle tic.forward player

steered_stands : (tables : Tables) (tic : Tic) (thing : Thing) (player : Player) → standing (steered tables tic thing player) ≡ standing player
steered_stands tables tic thing player =
    either_way standing (nat_lt 0 player.body.react) (recovering player) _ (standing player) refl
    (either_way standing (int_le thing.z thing.floorz) (driven_both tables tic (looking tic.turn player)) (looking tic.turn player) (standing player) (both_stand tables tic (looking tic.turn player)) refl)

pub stays_alive : (tables : Tables) (tic : Tic) (thing : Thing) (world : Gridded) (to : Player) → to ≡ steered tables tic thing (player_of world) → HasPlayer world → StaysAlive world to
stays_alive tables tic thing world to is has =
    let same : standing to ≡ standing (player_of world) = ap standing is ∙ steered_stands tables tic thing (player_of world) in
    let Lives : ℤ → Type 0 = λ health. pos 0 <ℤ health in
    record { thing = ap (λ pair. pair.0) same; alive = subst Lives (sym (ap (λ pair. pair.1) same)) has.alive }
