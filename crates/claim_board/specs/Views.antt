-- What a seat knows at first, and how each step changes it.
use Rattle.std.specs.Prelude.{◌≡◌, ℕ, ◌+◌, ◌-◌, ◌*◌, ◌<◌, ◌≤◌, ◌⊎◌, min, List, [], ◌∷◌, ◌++◌, None, Some, Contains}
use Rattle.std.specs.Option.{ForSome}
use Rattle.claim_board.specs.declared.view.View.{View}

-- The first seat of a board for `count` numbers in blocks of `block`, of which those in `meets` meet
abbrev pub opening : ℕ → ℕ → List ℕ → View
opening count block meets = record { mine = []; last = None; seen = count; parts = 1; spare = 63; count = count; block = block; meets = meets }

-- The new seat that a seat splits off: it has no blocks, knows the same least number, and may split off none
abbrev pub split_off : View → View
split_off v = record { mine = []; last = None; seen = v.seen; parts = 1; spare = 0; count = v.count; block = v.block; meets = v.meets }

-- The seat that splits has one fewer to split off
abbrev pub after_split : View → View
after_split v = record v { spare = v.spare - 1 }

-- Block n was claimed, and is the open block now
abbrev pub claimed : View → ℕ → View
claimed v n = record v { mine = v.mine ++ n ∷ []; last = Some n }

-- The least word was found to be `least`
abbrev pub looked : View → ℕ → View
looked v least = record v { seen = least }

-- k was posted, where the least word had been `least`
abbrev pub posted : View → ℕ → ℕ → View
posted v least k = record v { seen = min least k }

-- Two seats made one: the blocks of both, the first one's open block, the lesser least number
abbrev pub joined : View → View → View
joined v w = record v { mine = v.mine ++ w.mine; seen = min v.seen w.seen; parts = v.parts + w.parts; spare = v.spare + w.spare }

-- What is left of a seat that was joined to another: nothing
abbrev pub spent : View
spent = record { mine = []; last = None; seen = 0; parts = 0; spare = 0; count = 0; block = 0; meets = [] }

-- The numbers that meet become known, which happens once, when the board is made
abbrev pub told : List ℕ → View → View
told meets v = record v { meets = meets }

-- k is a number of block n: those from n * block up to the lesser of (n + 1) * block and the count
abbrev pub IsInBlock : View → ℕ → ℕ → Type 0
IsInBlock v n k = (n * v.block ≤ k) × (k < (n + 1) * v.block) × (k < v.count)

-- k is a number of the open block
abbrev pub IsInOpenBlock : View → ℕ → Type 0
IsInOpenBlock v k = (n : ℕ) × (v.last ≡ Some n) × IsInBlock v n k

-- The seat has made no claim, or its last claim started below the count
abbrev pub StartedBelowCount : View → Type 0
StartedBelowCount v = ForSome v.last (λ n. n * v.block < v.count)

-- No number of the open block below the least that was seen meets: each of them has been tried
abbrev pub HasTriedOpenBlock : View → Type 0
HasTriedOpenBlock v = (k : ℕ) → IsInOpenBlock v k → k < v.seen → ¬ Contains v.meets k

-- The seat has made no claim, or its last claim started at or above the least that it has seen
abbrev pub HasEnded : View → Type 0
HasEnded v = ForSome v.last (λ n. v.seen ≤ n * v.block)

-- The seat has made a claim, and its last one started at or above the least that it has seen
abbrev pub IsOver : View → Type 0
IsOver v = (n : ℕ) × (v.last ≡ Some n) × (v.seen ≤ n * v.block)

-- The number stands in the least word at some time: the count, or a number that meets
abbrev pub IsLeastWord : View → ℕ → Type 0
IsLeastWord v least = (least ≡ v.count) ⊎ Contains v.meets least
