-- What one step of a walk tells the next. No public contract cites these.
use Rattle.std.specs.Prelude.{◌≡◌, ◌⊎◌, ℕ, ◌*◌, ◌/◌, ◌%◌, ◌<◌, ◌≤◌, min, ◌==◌, Bool, true, false, ◌||◌, List, [], ◌∷◌, ◌++◌, length, slice_index, All, if◌then◌else◌}
use Rattle.std.specs.Int.{bit_at}
use Rattle.std.specs.List.{list_any}
use Rattle.map_geometry.specs.Lists.{Lists}
use Rattle.map_geometry.specs.Blocks.{block_list}
use Rattle.map_geometry.specs.declared.blocks.Block.{Block}
use Rattle.block_walk.specs.Near.{near_all}

-- whether a line's bit is set
unfoldable pub is_marked : List ℕ → ℕ → Bool
is_marked met line = bit_at (slice_index met (line / 64)) (line % 64) == 1

-- the words have a bit for each line that a list of 16-bit numbers can name
pub record HasBits (l : Lists) (met : List ℕ) : Type 0 where
  pub enough : min (length l.lines) 65536 ≤ 64 * length met

-- whether a number stands in a list
abbrev pub has : List ℕ → ℕ → Bool
has xs n = list_any (λ x. x == n) xs

-- the lines of a list are marked besides those that were
pub record Marks (old new : List ℕ) (xs : List ℕ) : Type 0 where
  pub each : (n : ℕ) → is_marked new n ≡ (is_marked old n || has xs n)

-- the elements of a list that were not seen, each at its first place alone
abbrev pub fresh : (ℕ → Bool) → List ℕ → List ℕ
fresh seen [] = []
fresh seen (x ∷ xs) = if seen x then fresh seen xs else x ∷ fresh (λ n. seen n || x == n) xs

-- A walk met the lines of a list. They are marked, and what `keep` makes of those that were not is appended.
pub record Adds {X : Type 0} (keep : List ℕ → List X) (old new : List ℕ) (before after : List X) (xs : List ℕ) : Type 0 where
  pub marks : Marks old new xs
  pub more : after ≡ before ++ keep (fresh (is_marked old) xs)

-- the lines themselves
abbrev pub itself : List ℕ → List ℕ
itself xs = xs

-- nothing is marked
abbrev pub IsClear : List ℕ → Type 0
IsClear met = (line : ℕ) → is_marked met line ≡ false

-- numbers of lines that are there
abbrev pub AreLines : Lists → List ℕ → Type 0
AreLines l xs = All (λ line. line < length l.lines) xs

-- the lines of each list that was walked are marked
pub record AreWalked (l : Lists) (met walked : List ℕ) : Type 0 where
  pub each : (place line : ℕ) → has walked place ≡ true → has (block_list l.words place) line ≡ true → is_marked met line ≡ true

-- Where the bit of a word of the block map is set, all lines of the list from this word on are marked.
pub record ArePassed (l : Lists) (met passed : List ℕ) : Type 0 where
  pub each : (at line : ℕ) → is_marked passed at ≡ true → has (block_list l.words at) line ≡ true → is_marked met line ≡ true

-- From no word of a range on has a list a line that the list from the first word doesn't have.
pub record LieIn (words : List ℕ) (first stop : ℕ) : Type 0 where
  pub each : (at line : ℕ) → first ≤ at → at < stop → has (block_list words at) line ≡ true → has (block_list words first) line ≡ true

-- no number is marked besides those that were and those from one up to another
pub record MarksOnly (old new : List ℕ) (first stop : ℕ) : Type 0 where
  pub each : (n : ℕ) → is_marked new n ≡ true → (is_marked old n ≡ true) ⊎ ((first ≤ n) × (n < stop))

-- A walk met the lines of blocks. It has walked lists whose lines are all marked, and the blocks' lines are there.
pub record Meets {X : Type 0} (keep : List ℕ → List X) (l : Lists) (lists old new : List ℕ) (before after : List X) (blocks : List Block) : Type 0 where
  pub walked : AreWalked l new lists
  pub lines : Adds keep old new before after (near_all l blocks)
  pub there : AreLines l (near_all l blocks)
