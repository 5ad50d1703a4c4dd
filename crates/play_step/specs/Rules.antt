-- The rules of the game, as what is generic over games takes them, and what is shown beside them.
use Rattle.std.specs.Prelude.{ℕ, ◌<◌, length}
use Rattle.game_trait.specs.declared.game.Game.{Ghosts}
use Rattle.game_trait.specs.declared.details.Ground.{Ground}
use Rattle.game_trait.specs.declared.details.Vitals.{Vitals}
use Rattle.cow_world.specs.Flat.{Gridded, parts, sector_at, has_acted}
use Rattle.play_step.specs.Doom.{Setup, PlaysOn, opening_of}
use Rattle.play_step.specs.Shown.{shown_of, reading_of}
use Rattle.play_step.specs.Step.{step_of}

abbrev pub doom_rules : Ghosts Setup Gridded
doom_rules = record {
  fits = PlaysOn;
  opening = opening_of;
  after = λ setup world tic. step_of setup.level setup.tables world tic;
  shown_of = λ setup world. shown_of world;
  reading_of = λ setup world quantity. reading_of world quantity;
  acted_of = λ setup world line. has_acted world line;
}

-- the level has a sector with this number
abbrev pub HasSector : Setup → ℕ → Type 0
HasSector setup sector = sector < length setup.level.sectors

-- what is shown of a sector: its heights, and its light
abbrev pub ground_of : Setup → Gridded → ℕ → Ground
ground_of setup world sector = record {
  floor = (sector_at world sector).floor;
  ceiling = (sector_at world sector).ceiling;
  light = (sector_at world sector).light;
}

-- what is shown of the player's body
abbrev pub vitals_of : Setup → Gridded → Vitals
vitals_of setup world = record {
  health = (parts world).player.body.health;
  armour = (parts world).player.body.armour;
  kind = (parts world).player.body.kind;
  suit = (parts world).player.body.suit;
  guard = (parts world).player.body.guard;
  react = (parts world).player.body.react;
}
