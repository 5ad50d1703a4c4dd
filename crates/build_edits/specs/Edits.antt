-- What each command makes of the parts of a tape, or why it is refused. The cursor stands between the parts.
use Rattle.std.specs.Prelude.{ℕ, ◌+◌, ◌-◌, ◌≡◌, ◌==◌, ◌&&◌, ◌++◌, nat_lt, nat_le, if◌then◌else◌, List, [], ◌∷◌, length, drop, replicate, Option, None, Some, slice_get, Result, Ok, Err}
use Rattle.lmp_codec.specs.Demo.{most_tics}
use Rattle.lmp_codec.specs.declared.input.Tic.{Tic}
use Rattle.build_edits.specs.Parts.{Parts, all_tics, parts_at}
use Rattle.build_edits.specs.declared.fault.EditFault.{EditFault}
use Rattle.build_edits.specs.declared.fault.EditFault.TheVariants.{Place, Before, TooLong, Memory}

-- what a command comes to: the parts that it leaves, or its refusal
abbrev pub Outcome : Type 0
Outcome = Result Parts EditFault

-- `seek`: the same tics, cut at another place, which is at most their number
abbrev pub seek_outcome : ℕ → Parts → Outcome
seek_outcome place parts =
    if nat_lt (length (all_tics parts)) place
    then Err (Place (length (all_tics parts)))
    else Ok (parts_at (all_tics parts) place)

-- `put`: the tic takes the place of the one at the cursor, or is appended where there is none, if a demo may
-- be longer
abbrev pub put_outcome : Tic → Parts → Outcome
put_outcome tic parts =
    if length parts.after == 0 && nat_le most_tics (length parts.before)
    then Err TooLong
    else Ok (record { before = parts.before ++ tic ∷ []; after = drop 1 parts.after })

-- the tic stands before the one at the cursor, and before the cursor
abbrev pub inserted : Tic → Parts → Parts
inserted tic parts = record { before = parts.before ++ tic ∷ []; after = parts.after }

-- `insert`: the tic comes before the one at the cursor, if a demo may be longer
abbrev pub insert_outcome : Tic → Parts → Outcome
insert_outcome tic parts = if nat_le most_tics (length (all_tics parts)) then Err TooLong else Ok (inserted tic parts)

-- `delete`: the tic at the cursor goes, if there is one
abbrev pub delete_outcome : Parts → Outcome
delete_outcome parts =
    if length parts.after == 0
    then Err (Place (length parts.before))
    else Ok (record { before = parts.before; after = drop 1 parts.after })

-- `cut`: the tics from the cursor on go
abbrev pub cut_outcome : Parts → Outcome
cut_outcome parts = Ok (record { before = parts.before; after = [] })

-- the last tic of a list, if there is one
abbrev pub last_of : List Tic → Option Tic
last_of tics = slice_get tics (length tics - 1)

-- so many copies of a tic, and none of no tic
abbrev pub copies : ℕ → Option Tic → List Tic
copies count None = []
copies count (Some tic) = replicate count tic

-- `repeat`: so many times a `put` of the tic just before the cursor, if there is one and a demo may be that
-- long
abbrev pub repeat_outcome : ℕ → Parts → Outcome
repeat_outcome count parts =
    if length parts.before == 0 then Err Before
    else if nat_lt most_tics (length parts.before + count) then Err TooLong
    else Ok (record {
      before = parts.before ++ copies count (last_of parts.before);
      after = drop count parts.after;
    })

-- `accept`: these tics come after the ones before the cursor, in place of the rest, if a demo may be that
-- long
abbrev pub accept_outcome : List Tic → Parts → Outcome
accept_outcome tics parts =
    if nat_lt most_tics (length parts.before + length tics)
    then Err TooLong
    else Ok (record { before = parts.before ++ tics; after = [] })

-- The call did what its command comes to. Refused, it left what stood.
abbrev pub Edits : {D S : Type 0} → Result D EditFault → S → S → Result S EditFault → Type 0
Edits (Ok done) old new outcome = outcome ≡ Ok new
Edits (Err fault) old new outcome = (outcome ≡ Err fault) × (new ≡ old)

-- The same of a call that may find no memory, and then leaves what stood.
abbrev pub MayEdit : {D S : Type 0} → Result D EditFault → S → S → Result S EditFault → Type 0
MayEdit (Ok done) old new outcome = outcome ≡ Ok new
MayEdit (Err Memory) old new outcome = new ≡ old
MayEdit (Err (Place count)) old new outcome = (outcome ≡ Err (Place count)) × (new ≡ old)
MayEdit (Err Before) old new outcome = (outcome ≡ Err Before) × (new ≡ old)
MayEdit (Err TooLong) old new outcome = (outcome ≡ Err TooLong) × (new ≡ old)
