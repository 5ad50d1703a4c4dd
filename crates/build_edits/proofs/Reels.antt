-- What edits of the list of a tape come to at its cursor.
use Rattle.std.proofs.Common.{ℕ, ◌+◌, ◌-◌, ◌<◌, ◌≤◌, ◌≡◌, ◌++◌, List, [], ◌∷◌, length, take, drop, min, Bool, true, false, cond, arith, ap, sym, ◌∙◌, append_assoc, Some, Result, Ok, Err, slice_get, nat_eq, nat_lt}
use Rattle.std.specs.List.{splice}
use Rattle.std.specs.Prelude.{OnOk, OnErr}
use Rattle.std.proofs.Math.Seq.{drop-append-add}
use Rattle.std.proofs.lemmas.List.{take-append-drop, take_at, drop_at, drop-drop, drop_min, length-append, length-drop, length-take-le, get_or-take}
use Rattle.std.proofs.lemmas.Bool.{false_from_ne_true, ltb-true, eqb-true}
use Rattle.std.proofs.lemmas.Option.{slice_get-get_or}
use Rattle.lmp_codec.specs.Demo.{most_tics}
use Rattle.lmp_codec.specs.declared.input.Tic.{Tic}
use Rattle.build_edits.specs.Parts.{Parts, all_tics, parts_at}
use Rattle.build_edits.specs.Edits.{MayEdit, delete_outcome, repeat_outcome, copies, last_of}
use Rattle.build_edits.specs.declared.fault.EditFault.{EditFault}
use Rattle.build_edits.specs.declared.fault.EditFault.TheVariants.{Place, Before, TooLong, Memory}

-- parts are equal where both lists are
same_parts : (front other back rest : List Tic) → front ≡ other → back ≡ rest
    → (let these : Parts = record { before = front; after = back } in these) ≡ record { before = other; after = rest }
same_parts front other back rest ef eb = cc

-- the tics of both parts
pub all_at : (tics : List Tic) (place : ℕ) (now : Parts) → parts_at tics place ≡ now → length (all_tics now) ≡ length tics
all_at tics place now is = ap (λ (p : Parts). length (all_tics p)) (sym is) ∙ ap length (take-append-drop place tics)

-- tics were put at the cursor, and as many as are to go were taken from behind them
pub put_over_is : (tics middle new others : List Tic) (cursor gone end : ℕ)
    → cursor ≤ length tics
    → end ≡ cursor + length others
    → middle ≡ splice tics cursor cursor others
    → new ≡ splice middle end (end + gone) []
    → parts_at new end ≡ record { before = take cursor tics ++ others; after = drop gone (drop cursor tics) }
put_over_is tics middle new others cursor gone end inside ends put taken =
    let front : List Tic = take cursor tics ++ others in
    let back : List Tic = drop cursor tics in
    let len : length front ≡ end = omega (arith, ends, length-append (take cursor tics) others, length-take-le cursor tics inside) in
    let whole : middle ≡ front ++ back = put ∙ sym (append_assoc (take cursor tics) others back) in
    let low : take end middle ≡ front = ap (take end) whole ∙ take_at front back end len in
    let sum : end + gone ≡ length front + gone = omega (arith, len) in
    let high : drop (end + gone) middle ≡ drop gone back =
    ap (drop (end + gone)) whole ∙ ap (λ (n : ℕ). drop n (front ++ back)) sum ∙ drop-append-add front back gone in
    let all : new ≡ front ++ drop gone back =
    taken ∙ ap (λ (x : List Tic). x ++ drop (end + gone) middle) low ∙ ap (λ (x : List Tic). front ++ x) high in
    same_parts (take end new) front (drop end new) (drop gone back)
    (ap (take end) all ∙ take_at front (drop gone back) end len)
    (ap (drop end) all ∙ drop_at front (drop gone back) end len)

-- a test that fails, and one that can't hold
otherwise : {A : Type 0} (test : Bool) (x y z : A) → test ≡ false → y ≡ z → cond test x y ≡ z
otherwise true x y z fails is = absurd cc
otherwise false x y z fails is = is

no_more : (n : ℕ) → n ≤ most_tics → nat_lt most_tics n ≡ false
no_more n most = false_from_ne_true _ (λ yes. let h = ltb-true most_tics n yes in absurd (omega arith))

some_there : (n : ℕ) → 0 < n → nat_eq n 0 ≡ false
some_there n some = false_from_ne_true _ (λ yes. let h = eqb-true n 0 yes in absurd (omega arith))

-- the tic at the cursor is gone
pub delete_is : (tics new : List Tic) (cursor : ℕ)
    → cursor < length tics
    → new ≡ splice tics cursor (cursor + 1) []
    → delete_outcome (parts_at tics cursor) ≡ Ok (parts_at new cursor)
delete_is tics new cursor inside is =
    let some : 0 < length (drop cursor tics) = omega (arith, length-drop cursor tics) in
    let len : length (take cursor tics) ≡ cursor = length-take-le cursor tics (omega arith) in
    let low : take cursor new ≡ take cursor tics = ap (take cursor) is ∙ take_at (take cursor tics) (drop (cursor + 1) tics) cursor len in
    let high : drop cursor new ≡ drop (cursor + 1) tics = ap (drop cursor) is ∙ drop_at (take cursor tics) (drop (cursor + 1) tics) cursor len in
    otherwise _ _ _ _ (some_there (length (drop cursor tics)) some)
    (ap Ok (same_parts _ _ _ _ (sym low) (drop-drop 1 cursor tics ∙ sym high)))

-- the last of the tics before a place is the tic just before it
last_before : (tics : List Tic) (place : ℕ) (tic : Tic)
    → 0 < place
    → place ≤ length tics
    → last_of (take place tics) ≡ slice_get tics (place - 1)
last_before tics place tic some inside =
    let front : length (take place tics) ≡ place = length-take-le place tics inside in
    let there : place - 1 < length (take place tics) = omega (arith, front) in
    let within : place - 1 < place = omega arith in
    let here : place - 1 < length tics = omega arith in
    ap (λ (n : ℕ). slice_get (take place tics) (n - 1)) front
    ∙ slice_get-get_or (take place tics) (place - 1) tic there
    ∙ ap Some (get_or-take place tics (place - 1) tic within)
    ∙ sym (slice_get-get_or tics (place - 1) tic here)

some_tic : (tics : List Tic) → 0 < length tics → Tic
some_tic [] some = absurd (omega arith)
some_tic (tic ∷ tics) some = tic

-- copies of the tic before the cursor were put over as many tics as there are
pub repeat_is : (tics copied : List Tic) (cursor count gone : ℕ)
    → 0 < cursor
    → cursor ≤ length tics
    → cursor + count ≤ most_tics
    → copied ≡ copies count (slice_get tics (cursor - 1))
    → gone ≡ min count (length tics - cursor)
    → repeat_outcome count (parts_at tics cursor) ≡ Ok (record { before = take cursor tics ++ copied; after = drop gone (drop cursor tics) })
repeat_is tics copied cursor count gone some inside room is least =
    let front : length (take cursor tics) ≡ cursor = length-take-le cursor tics inside in
    let any : Tic = some_tic tics (omega arith) in
    let last : copies count (last_of (take cursor tics)) ≡ copied = ap (copies count) (last_before tics cursor any some inside) ∙ sym is in
    let left : gone ≡ min count (length (drop cursor tics)) = omega (arith, least, length-drop cursor tics) in
    let rest : drop count (drop cursor tics) ≡ drop gone (drop cursor tics) =
    sym (ap (λ (n : ℕ). drop n (drop cursor tics)) left ∙ drop_min count (drop cursor tics)) in
    otherwise _ _ _ _ (some_there (length (take cursor tics)) (rw front some))
    (otherwise _ _ _ _ (no_more (length (take cursor tics) + count) (rw front room))
    (ap Ok (same_parts _ _ _ _ (ap (λ (x : List Tic). take cursor tics ++ x) last) rest)))

-- a call that did what its command comes to, or found no memory
pub may_edit : {D S : Type 0} (result : Result D EditFault) (old new edited : S) (outcome : Result S EditFault)
    → outcome ≡ Ok edited
    → OnOk result (new ≡ edited)
    → OnErr result (new ≡ old)
    → OnErr result (result ≡ Err Memory)
    → MayEdit result old new outcome
may_edit (Ok done) old new edited outcome is ok err memory = is ∙ ap Ok (sym ok)
may_edit (Err Memory) old new edited outcome is ok err memory = err
may_edit (Err (Place count)) old new edited outcome is ok err memory = absurd cc
may_edit (Err Before) old new edited outcome is ok err memory = absurd cc
may_edit (Err TooLong) old new edited outcome is ok err memory = absurd cc
