-- What `level` reports: the name of the level that a demo plays, how much there is of each kind, and the start.
use Rattle.std.specs.Prelude.{ℕ, ◌/◌, ◌%◌, Bool, true, false, List, [], ◌∷◌, ◌++◌, length, codes, slice_index}
use Rattle.std.specs.Fmt.{decimal, signed_decimal}
use Rattle.map_geometry.specs.Lists.{Lists}
use Rattle.cow_world.specs.Flat.{Gridded, parts, player_thing}

-- the episode and the map that a demo's header names
abbrev pub episode_of : List ℕ → ℕ
episode_of header = slice_index header 2

abbrev pub map_of : List ℕ → ℕ
map_of header = slice_index header 3

-- `ExMy`, where the map's label is of that form, and else `MAPnn` with two digits
unfoldable pub level_name : List ℕ → Bool → List ℕ
level_name header true = codes "E" ++ decimal (episode_of header) ++ (codes "M" ++ decimal (map_of header))
level_name header false = codes "MAP" ++ decimal (map_of header / 10) ++ decimal (map_of header % 10)

-- how long each list is, and the columns and rows of the block map
unfoldable pub counts_text : Lists → List ℕ
counts_text l =
    codes "things " ++ decimal (length l.things)
    ++ codes " lines " ++ decimal (length l.lines)
    ++ codes " sides " ++ decimal (length l.sides)
    ++ codes " vertices " ++ decimal (length l.vertices)
    ++ codes " segs " ++ decimal (length l.segs)
    ++ codes " subsectors " ++ decimal (length l.subsectors)
    ++ codes " nodes " ++ decimal (length l.nodes)
    ++ codes " sectors " ++ decimal (length l.sectors)
    ++ codes " blocks " ++ decimal l.width
    ++ codes " " ++ decimal l.height

-- where the player stands, in fixed point, the way it looks, in angle units, and the random index
unfoldable pub start_line : Gridded → List ℕ
start_line world =
    codes "start x " ++ signed_decimal (player_thing world).x
    ++ codes " y " ++ signed_decimal (player_thing world).y
    ++ codes " z " ++ signed_decimal (player_thing world).z
    ++ codes " angle " ++ decimal (parts world).player.angle
    ++ codes " rng " ++ decimal (parts world).rng

-- the report: three lines
unfoldable pub level_lines : List ℕ → Lists → Gridded → List ℕ
level_lines header l world = codes "level " ++ level_name header l.episode_form ++ (10 ∷ counts_text l ++ (10 ∷ start_line world ++ 10 ∷ []))
