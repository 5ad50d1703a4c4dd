-- The tics of blocks that are joined: at a block, and after an edit of one.
use Rattle.std.proofs.Common.{ℕ, ◌+◌, ◌<◌, ◌≤◌, ◌≡◌, ◌++◌, List, [], ◌∷◌, length, take, drop, set, get_or, suc, arith, ap, sym, ◌∙◌, append_assoc, append-nil, inl, inr}
use Rattle.std.specs.List.{splice}
use Rattle.std.proofs.lemmas.Bool.{cases_lt}
use Rattle.std.specs.Prelude.{Vec, vec_items, insert, remove, slice_get, Some}
use Rattle.std.proofs.lemmas.List.{take-append-drop, take_more, drop_more, drop_all, set_split, length-append, drop_at, take-append-le, length-take-le, take-take, get_or_read, nil_from_length}
use Rattle.std.proofs.lemmas.List.Edits.{length-insert, get_or-insert_below}
use Rattle.std.proofs.lemmas.List.Concat.{flat_map-append, get_or-flat_map}
use Rattle.std.proofs.lemmas.Option.{slice_get-get_or}
use Rattle.lmp_codec.specs.declared.input.Tic.{Tic}
use Rattle.build_edits.specs.Kept.{joined, IsSpot}
use Rattle.build_edits.proofs.Splices.{inside, whole_gone}

module _ {Z : Type 0} where
  -- a block that is read twice
  pub read_again : (blocks : List (Vec Tic Z)) (block : ℕ) (these again : Vec Tic Z)
      → block < length blocks
      → these ≡ get_or blocks block these
      → again ≡ get_or blocks block again
      → again ≡ these
  read_again blocks block these again there read reread = get_or_read blocks block again there reread these ∙ sym read

  -- blocks up to one, and from it on
  parted : (blocks : List (Vec Tic Z)) (block : ℕ) → joined blocks ≡ joined (take block blocks) ++ joined (drop block blocks)
  parted blocks block = ap joined (sym (take-append-drop block blocks)) ∙ flat_map-append vec_items (take block blocks) (drop block blocks)

  -- from a block on, the block's tics come first
  pub from_block : (blocks : List (Vec Tic Z)) (block : ℕ) (none : Vec Tic Z)
      → block < length blocks
      → joined (drop block blocks) ≡ vec_items (get_or blocks block none) ++ joined (drop (block + 1) blocks)
  from_block blocks block none there = ap joined (drop_more blocks block none there)

  -- a block, with what is before it and behind it
  pub around : (blocks : List (Vec Tic Z)) (block : ℕ) (none : Vec Tic Z)
      → block < length blocks
      → joined blocks ≡ joined (take block blocks) ++ (vec_items (get_or blocks block none) ++ joined (drop (block + 1) blocks))
  around blocks block none there =
      parted blocks block ∙ ap (λ (tics : List Tic). joined (take block blocks) ++ tics) (from_block blocks block none there)

  -- the same where another block is in its place
  pub around_other : (blocks : List (Vec Tic Z)) (block : ℕ) (other : Vec Tic Z)
      → block < length blocks
      → joined (set blocks block other) ≡ joined (take block blocks) ++ (vec_items other ++ joined (drop (block + 1) blocks))
  around_other blocks block other there =
      let next : suc block ≡ block + 1 = omega arith in
      ap joined (set_split blocks block other there)
      ∙ flat_map-append vec_items (take block blocks) (other ∷ drop (suc block) blocks)
      ∙ ap (λ (n : ℕ). joined (take block blocks) ++ (vec_items other ++ joined (drop n blocks))) next

  -- the blocks before the next one have this one's tics more
  pub length_before_next : (blocks : List (Vec Tic Z)) (block : ℕ) (none : Vec Tic Z)
      → block < length blocks
      → length (joined (take (block + 1) blocks)) ≡ length (joined (take block blocks)) + length (vec_items (get_or blocks block none))
  length_before_next blocks block none there =
      let these : List Tic = vec_items (get_or blocks block none) in
      ap (λ (bs : List (Vec Tic Z)). length (joined bs)) (take_more blocks block none there)
      ∙ ap length (flat_map-append vec_items (take block blocks) (get_or blocks block none ∷ []))
      ∙ length-append (joined (take block blocks)) (these ++ [])
      ∙ ap (λ (tics : List Tic). length (joined (take block blocks)) + length tics) (append-nil these)

  pub length_from_block : (blocks : List (Vec Tic Z)) (block : ℕ) (none : Vec Tic Z)
      → block < length blocks
      → length (joined (drop block blocks)) ≡ length (vec_items (get_or blocks block none)) + length (joined (drop (block + 1) blocks))
  length_from_block blocks block none there =
      ap length (from_block blocks block none there) ∙ length-append (vec_items (get_or blocks block none)) (joined (drop (block + 1) blocks))

  -- where tics are left, a block is
  pub block_left : (blocks : List (Vec Tic Z)) (block rest : ℕ)
      → rest < length (joined (drop block blocks))
      → block < length blocks
  block_left blocks block rest some = elim (cases_lt block (length blocks)) [
    | inl there ↦ there
    | inr past ↦
        let none : length (joined (drop block blocks)) ≡ 0 = ap (λ (bs : List (Vec Tic Z)). length (joined bs)) (drop_all block blocks past) in
        absurd (omega (arith, none, some))
  ]

  -- an edit of a block is one of the joined blocks
  pub edited : (blocks : List (Vec Tic Z)) (block : ℕ) (these other : Vec Tic Z) (others : List Tic) (from to start end : ℕ)
      → block < length blocks
      → these ≡ get_or blocks block these
      → from ≤ length (vec_items these)
      → to ≤ length (vec_items these)
      → start ≡ length (joined (take block blocks)) + from
      → end ≡ length (joined (take block blocks)) + to
      → vec_items other ≡ splice (vec_items these) from to others
      → joined (set blocks block other) ≡ splice (joined blocks) start end others
  edited blocks block these other others from to start end there read low high starts ends is =
      let front : List Tic = joined (take block blocks) in
      let back : List Tic = joined (drop (block + 1) blocks) in
      let all : joined blocks ≡ front ++ (vec_items these ++ back) =
      around blocks block these there ∙ ap (λ (b : Vec Tic Z). front ++ (vec_items b ++ back)) (sym read) in
      around_other blocks block other there
      ∙ ap (λ (x : List Tic). front ++ (x ++ back)) is
      ∙ sym (inside front (vec_items these) back others from to low high)
      ∙ ap (λ (x : List Tic). splice x (length front + from) (length front + to) others) (sym all)
      ∙ ap (λ (n : ℕ). splice (joined blocks) n (length front + to) others) (sym starts)
      ∙ ap (λ (n : ℕ). splice (joined blocks) start n others) (sym ends)

  -- a block that was cut in two
  pub cut_in_two : (blocks more : List (Vec Tic Z)) (block most : ℕ) (whole again front tail : Vec Tic Z)
      → block < length blocks
      → whole ≡ get_or blocks block whole
      → more ≡ insert blocks (block + 1) tail
      → again ≡ get_or more block again
      → vec_items front ≡ take most (vec_items again)
      → vec_items tail ≡ drop most (vec_items whole)
      → joined (set more block front) ≡ joined blocks
  cut_in_two blocks more block most whole again front tail there read is reread first second =
      let before : List Tic = joined (take block blocks) in
      let these : List Tic = vec_items whole in
      let back : List Tic = joined (drop (block + 1) blocks) in
      let here : block + 1 ≤ length blocks = omega arith in
      let next : block ≤ block + 1 = omega arith in
      let len : length (take (block + 1) blocks) ≡ block + 1 = length-take-le (block + 1) blocks here in
      let long : length more ≡ length blocks + 1 = ap length is ∙ length-insert blocks (block + 1) tail here in
      let inside : block < length more = omega (arith, long) in
      let low : block < block + 1 = omega arith in
      let same : again ≡ whole =
      get_or_read more block again inside reread whole
      ∙ ap (λ (bs : List (Vec Tic Z)). get_or bs block whole) is
      ∙ get_or-insert_below blocks (block + 1) tail whole block low here
      ∙ sym read in
      let within : block ≤ length (take (block + 1) blocks) = omega (arith, len) in
      let start : take block more ≡ take block blocks =
      ap (take block) is
      ∙ take-append-le block (take (block + 1) blocks) (tail ∷ drop (block + 1) blocks) within
      ∙ take-take block (block + 1) blocks next in
      let end : drop (block + 1) more ≡ tail ∷ drop (block + 1) blocks =
      ap (drop (block + 1)) is ∙ drop_at (take (block + 1) blocks) (tail ∷ drop (block + 1) blocks) (block + 1) len in
      let firsts : vec_items front ≡ take most these = first ∙ ap (λ (b : Vec Tic Z). take most (vec_items b)) same in
      around_other more block front inside
      ∙ ap (λ (bs : List (Vec Tic Z)). joined bs ++ (vec_items front ++ joined (drop (block + 1) more))) start
      ∙ ap (λ (bs : List (Vec Tic Z)). before ++ (vec_items front ++ joined bs)) end
      ∙ ap (λ (x : List Tic). before ++ (x ++ (vec_items tail ++ back))) firsts
      ∙ ap (λ (x : List Tic). before ++ (take most these ++ (x ++ back))) second
      ∙ ap (λ (x : List Tic). before ++ x) (sym (append_assoc (take most these) (drop most these) back))
      ∙ ap (λ (x : List Tic). before ++ (x ++ back)) (take-append-drop most these)
      ∙ ap (λ (b : Vec Tic Z). before ++ (vec_items b ++ back)) read
      ∙ sym (around blocks block whole there)

  -- a block that has the same tics as the one before
  pub same_tics : (blocks : List (Vec Tic Z)) (block : ℕ) (these other : Vec Tic Z)
      → block < length blocks
      → these ≡ get_or blocks block these
      → vec_items other ≡ vec_items these
      → joined (set blocks block other) ≡ joined blocks
  same_tics blocks block these other there read same =
      let before : List Tic = joined (take block blocks) in
      let back : List Tic = joined (drop (block + 1) blocks) in
      around_other blocks block other there
      ∙ ap (λ (x : List Tic). before ++ (x ++ back)) same
      ∙ ap (λ (b : Vec Tic Z). before ++ (vec_items b ++ back)) read
      ∙ sym (around blocks block these there)

  -- a block that was removed
  pub removed : (blocks : List (Vec Tic Z)) (block : ℕ) (these : Vec Tic Z) (start len : ℕ)
      → block < length blocks
      → these ≡ get_or blocks block these
      → start ≡ length (joined (take block blocks))
      → len ≡ length (vec_items these)
      → joined (remove blocks block) ≡ splice (joined blocks) start (start + len) []
  removed blocks block these start len there read starts long =
      let before : List Tic = joined (take block blocks) in
      let back : List Tic = joined (drop (block + 1) blocks) in
      let next : suc block ≡ block + 1 = omega arith in
      let all : joined blocks ≡ before ++ (vec_items these ++ back) =
      around blocks block these there ∙ ap (λ (b : Vec Tic Z). before ++ (vec_items b ++ back)) (sym read) in
      flat_map-append vec_items (take block blocks) (drop (suc block) blocks)
      ∙ ap (λ (n : ℕ). before ++ joined (drop n blocks)) next
      ∙ sym (whole_gone before (vec_items these) back start len starts long)
      ∙ ap (λ (x : List Tic). splice x start (start + len) []) (sym all)

  -- the first block that has a tic stands at the start
  pub first_of : (blocks : List (Vec Tic Z)) (block inside : ℕ) (these : Vec Tic Z)
      → IsSpot blocks 0 block inside
      → these ≡ get_or blocks block these
      → joined blocks ≡ vec_items these ++ joined (drop (block + 1) blocks)
  first_of blocks block inside these spot read =
      let none : joined (take block blocks) ≡ [] = nil_from_length (joined (take block blocks)) (omega (arith, spot.sum)) in
      around blocks block these spot.there
      ∙ ap (λ (x : List Tic). x ++ (vec_items (get_or blocks block these) ++ joined (drop (block + 1) blocks))) none
      ∙ ap (λ (b : Vec Tic Z). vec_items b ++ joined (drop (block + 1) blocks)) (sym read)

  -- the tic at a spot
  pub tic_of : (blocks : List (Vec Tic Z)) (place block inside : ℕ) (these : Vec Tic Z) (tic : Tic)
      → IsSpot blocks place block inside
      → these ≡ get_or blocks block these
      → tic ≡ get_or (vec_items these) inside tic
      → place < length (joined blocks)
      → slice_get (joined blocks) place ≡ Some tic
  tic_of blocks place block inside these tic spot read is within =
      let there : inside < length (vec_items (get_or blocks block these)) = spot.within these in
      slice_get-get_or (joined blocks) place tic within
      ∙ ap (λ (n : ℕ). Some (get_or (joined blocks) n tic)) spot.sum
      ∙ ap Some (get_or-flat_map vec_items blocks block inside these tic spot.there there)
      ∙ ap (λ (b : Vec Tic Z). Some (get_or (vec_items b) inside tic)) (sym read)
      ∙ ap Some (sym is)
