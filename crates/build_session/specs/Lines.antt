-- The lines of a report. Numbers are decimal, and each line ends by an LF.
use Rattle.std.specs.Prelude.{ℕ, ℤ, nat_eq, if◌then◌else◌, Option, Some, None, List, [], ◌++◌, codes}
use Rattle.std.specs.Fmt.{decimal, signed_decimal}
use Rattle.game_trait.specs.declared.shown.Shown.{Shown}
use Rattle.game_trait.specs.declared.shown.Shown.TheVariants.{Live, Halted}
use Rattle.game_trait.specs.declared.shown.Halt.{Halt}
use Rattle.game_trait.specs.declared.shown.Halt.TheVariants.{Attack, Button, Special, Sector, Listed, Intercepts, Lifts, Unset, Mover, NoBack, Died, Stomp}
use Rattle.game_trait.specs.declared.details.Ground.{Ground}
use Rattle.game_trait.specs.declared.details.Vitals.{Vitals}

-- why a world is halted
abbrev pub halt_text : Halt → List ℕ
halt_text Attack = codes "attack"
halt_text Button = codes "button"
halt_text (Special number) = codes "special " ++ decimal number
halt_text (Sector number) = codes "sector " ++ decimal number
halt_text Listed = codes "listed"
halt_text Intercepts = codes "intercepts"
halt_text Lifts = codes "lifts"
halt_text Unset = codes "unset"
halt_text Mover = codes "mover"
halt_text (NoBack line) = codes "noback " ++ decimal line
halt_text Died = codes "died"
halt_text Stomp = codes "stomp"

-- how the level was left, if it was
abbrev pub exit_text : ℕ → List ℕ
exit_text exited = if nat_eq exited 0 then [] else if nat_eq exited 1 then codes " exit" else codes " secret"

-- a world: the tics and the player, or the tic that halted and why
unfoldable pub world_line : Shown → List ℕ
world_line (Live tic x y z momx momy momz angle rng exited) =
    codes "tic " ++ decimal tic
    ++ codes " x " ++ signed_decimal x
    ++ codes " y " ++ signed_decimal y
    ++ codes " z " ++ signed_decimal z
    ++ codes " momx " ++ signed_decimal momx
    ++ codes " momy " ++ signed_decimal momy
    ++ codes " momz " ++ signed_decimal momz
    ++ codes " angle " ++ decimal angle
    ++ codes " rng " ++ decimal rng
    ++ exit_text exited ++ codes "\n"
world_line (Halted tic halt) = codes "halt tic " ++ decimal tic ++ codes " " ++ halt_text halt ++ codes "\n"

-- a sector with its number
unfoldable pub ground_line : ℕ → Ground → List ℕ
ground_line sector shown =
    codes "sector " ++ decimal sector
    ++ codes " floor " ++ signed_decimal shown.floor
    ++ codes " ceiling " ++ signed_decimal shown.ceiling
    ++ codes " light " ++ signed_decimal shown.light
    ++ codes "\n"

-- the keys held
unfoldable pub keys_line : ℤ → List ℕ
keys_line keys = codes "keys " ++ signed_decimal keys ++ codes "\n"

-- the player's body
unfoldable pub vitals_line : Vitals → List ℕ
vitals_line vitals =
    codes "health " ++ signed_decimal vitals.health
    ++ codes " armour " ++ signed_decimal vitals.armour
    ++ codes " type " ++ decimal vitals.kind
    ++ codes " suit " ++ decimal vitals.suit
    ++ codes " guard " ++ decimal vitals.guard
    ++ codes " react " ++ decimal vitals.react
    ++ codes "\n"

-- the first number that meets, if there is one
abbrev pub first_line : Option ℕ → List ℕ
first_line (Some number) = codes "found " ++ decimal number ++ codes "\n"
first_line None = codes "none\n"

-- how many turns the search took, where that is told
abbrev pub turns_line : Option ℕ → List ℕ
turns_line (Some turns) = codes "turns " ++ decimal turns ++ codes "\n"
turns_line None = []

-- what a search came to
abbrev pub answer_lines : Option ℕ → Option ℕ → List ℕ
answer_lines first turns = first_line first ++ turns_line turns
