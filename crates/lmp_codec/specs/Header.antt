-- The rules of a demo's header, the thirteen bytes at its front. This file names no type of the crate.
use Rattle.std.specs.Prelude.{ℕ, ◌<◌, ◌≡◌, ◌==◌, ◌&&◌, ◌||◌, Bool, true, not, nat_le, if◌then◌else◌, List, length, IsTrue, slice_index}

-- how many bytes a header has
abbrev pub header_len : ℕ
header_len = 13

-- Whether a byte may stand at a place of the header. By place: 0 is the version, 109 or 111; 1 the skill, at most 4; 2
-- the episode, 1 to 9; 3 the map, 1 to 99; 4 deathmatch, off; 5 respawn and 6 fast monsters, on or off; 7 no monsters, on;
-- 8 the player who recorded, the first; 9 that the first player plays, on; 10 to 12 the same of the others, off.
abbrev pub may_stand : ℕ → ℕ → Bool
may_stand place byte =
    if place == 0 then byte == 109 || byte == 111
    else if place == 1 then nat_le byte 4
    else if place == 2 then nat_le 1 byte && nat_le byte 9
    else if place == 3 then nat_le 1 byte && nat_le byte 99
    else if place == 5 then true
    else if place == 6 then true
    else if place == 7 then not (byte == 0)
    else if place == 9 then not (byte == 0)
    else byte == 0

-- the bytes are a header that this program plays: thirteen, each as its place allows
pub record IsHeader (bytes : List ℕ) : Type 0 where
  pub whole : length bytes ≡ header_len
  pub rules : (place : ℕ) → place < header_len → IsTrue (may_stand place (slice_index bytes place))

-- a long demo is one of version 111, whose turns have two bytes
abbrev pub is_long : List ℕ → Bool
is_long header = slice_index header 0 == 111
