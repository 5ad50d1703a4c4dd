-- A search down the nodes, with its way from the last node, and the nodes that are settled: from a settled node
-- each way down is shorter than the number of settled nodes.
use Rattle.std.proofs.Common.{◌≡◌, ◌⊎◌, ℕ, zero, suc, ◌+◌, ◌-◌, ◌*◌, ◌<◌, ◌≤◌, Bool, true, false, List, [], ◌∷◌, ◌++◌, length, get_or, set, replicate, refl, sym, ap, subst, ◌∙◌, inl, inr, arith, add-one}
use Rattle.std.specs.List.{sum_by}
use Rattle.std.proofs.lemmas.Bool.{cases_eq, cases_lt, false≢true}
use Rattle.std.proofs.lemmas.List.{length-append, length-set, length-replicate, get_or_append_left, get_or_push, get_or_past, get_or-set_same, get_or-set_other, get_or-replicate}
use Rattle.std.proofs.lemmas.List.Sums.{sum_by-cons, sum_by-set}
use Rattle.map_geometry.specs.declared.records.Node.{Node}
use Rattle.map_geometry.specs.Lists.{no_node}
use Rattle.map_geometry.specs.Nodes.{IsBelow, IsWalk, WalksEnd}
use Rattle.map_load.specs.Steps.{IsSettled}

-- how many nodes are settled
abbrev pub one : Bool → ℕ
one true = 1
one false = 0

abbrev pub settled : List Bool → ℕ
settled done = sum_by one done

settled-le : (done : List Bool) → settled done ≤ length done
settled-le [] = omega arith
settled-le (true ∷ done) = omega (arith, settled-le done, sum_by-cons one true done)
settled-le (false ∷ done) = omega (arith, settled-le done, sum_by-cons one false done)

-- what the search keeps
pub record Searches (nodes : List Node) (done : List Bool) (path : List ℕ) : Type 0 where
  pub len : length done ≡ length nodes
  pub short : (d : ℕ) → get_or done d false ≡ true → (steps : List ℕ) → IsWalk nodes d steps → length steps < settled done
  pub first : 0 < length path → get_or path 0 0 ≡ length nodes - 1
  pub within : (p : ℕ) → p < length path → get_or path p 0 < length nodes
  pub each : (p : ℕ) → p + 1 < length path → IsBelow nodes (get_or path p 0) (get_or path (p + 1) 0)
  pub unsettled : (p : ℕ) → p < length path → get_or done (get_or path p 0) false ≡ false
  pub last : length path ≡ 0 → get_or done (length nodes - 1) false ≡ true

-- ---- the beginning

none_settled : (n d : ℕ) → get_or (replicate n false) d false ≡ false
none_settled n d = elim (cases_lt d n) [
  | inl below ↦ get_or-replicate n d false false below
  | inr above ↦ get_or_past (replicate n false) d false (omega (arith, length-replicate n false))
]

pub searches_begin : (nodes : List Node) → 0 < length nodes → Searches nodes (replicate (length nodes) false) ((length nodes - 1) ∷ [])
searches_begin nodes some = record {
  len = length-replicate (length nodes) false;
  short = λ d is steps walk. absurd (false≢true (sym (none_settled (length nodes) d) ∙ is));
  first = λ _. refl;
  within = λ p below. let begin : p ≡ 0 = omega (arith, below) in rw begin (omega (arith, some));
  each = λ p below. absurd (omega (arith, below));
  unsettled = λ p below. none_settled (length nodes) (get_or ((length nodes - 1) ∷ []) p 0);
  last = λ empty. absurd (omega (arith, empty));
}

-- ---- a step down, and back

-- the place in the way after the last, and those before it
pushed_at : (path : List ℕ) (child p : ℕ) → p < length path → get_or (path ++ child ∷ []) p 0 ≡ get_or path p 0
pushed_at path child p below = get_or_append_left path (child ∷ []) 0 p below

length_pushed : (path : List ℕ) (child : ℕ) → length (path ++ child ∷ []) ≡ length path + 1
length_pushed path child = length-append path (child ∷ [])

pushed_each : (nodes : List Node) (path : List ℕ) (child : ℕ) → ((p : ℕ) → p + 1 < length path → IsBelow nodes (get_or path p 0) (get_or path (p + 1) 0))
    → IsBelow nodes (get_or path (length path - 1) 0) child
    → (p : ℕ) → p + 1 < length (path ++ child ∷ []) → IsBelow nodes (get_or (path ++ child ∷ []) p 0) (get_or (path ++ child ∷ []) (p + 1) 0)
pushed_each nodes path child each below p within =
    let count = length_pushed path child in
    let here : p < length path = omega (arith, count, within) in
    rw (pushed_at path child p here) (elim (cases_lt (p + 1) (length path)) [
      | inl inside ↦ rw (pushed_at path child (p + 1) inside) (each p inside)
      | inr outside ↦
          let top : p ≡ length path - 1 = omega (arith, here, outside) in
          let next : length path ≡ p + 1 = omega (arith, here, outside) in
          rw (get_or_push path child 0 (p + 1) next, top) below
    ])

pushed_unsettled : (done : List Bool) (path : List ℕ) (child : ℕ) → ((p : ℕ) → p < length path → get_or done (get_or path p 0) false ≡ false)
    → get_or done child false ≡ false → (p : ℕ) → p < length (path ++ child ∷ []) → get_or done (get_or (path ++ child ∷ []) p 0) false ≡ false
pushed_unsettled done path child unsettled new p within =
    let count = length_pushed path child in
    elim (cases_lt p (length path)) [
      | inl inside ↦ rw (pushed_at path child p inside) (unsettled p inside)
      | inr outside ↦
          let next : length path ≡ p = omega (arith, count, within, outside) in
          rw (get_or_push path child 0 p next) new
    ]

pushed_within : (nodes : List Node) (path : List ℕ) (child : ℕ) → ((p : ℕ) → p < length path → get_or path p 0 < length nodes) → child < length nodes
    → (p : ℕ) → p < length (path ++ child ∷ []) → get_or (path ++ child ∷ []) p 0 < length nodes
pushed_within nodes path child within there p below =
    let count = length_pushed path child in
    elim (cases_lt p (length path)) [
      | inl inside ↦ rw (pushed_at path child p inside) (within p inside)
      | inr outside ↦
          let next : length path ≡ p = omega (arith, count, below, outside) in
          rw (get_or_push path child 0 p next) there
    ]

-- an unsettled child of the last node of the way
searches_down : (nodes : List Node) (done : List Bool) (path : List ℕ) (child : ℕ) → Searches nodes done path → 0 < length path
    → IsBelow nodes (get_or path (length path - 1) 0) child → child < length nodes → get_or done child false ≡ false → Searches nodes done (path ++ child ∷ [])
searches_down nodes done path child s some below there new =
    let count = length_pushed path child in
    record {
      len = s.len;
      short = s.short;
      first = λ _. pushed_at path child 0 some ∙ s.first some;
      within = pushed_within nodes path child s.within there;
      each = pushed_each nodes path child s.each below;
      unsettled = pushed_unsettled done path child s.unsettled new;
      last = λ empty. absurd (omega (arith, count, empty));
    }

-- one more node is settled
settled-set : (done : List Bool) (at : ℕ) → at < length done → get_or done at false ≡ false → settled (set done at true) ≡ settled done + 1
settled-set done at within new =
    let change = sum_by-set one done at true false within in
    let before : one (get_or done at false) ≡ 0 = rw new refl in
    omega (arith, change, before)

-- the ways down from a node whose children are settled
short_after : (nodes : List Node) (done : List Bool) (at : ℕ) → ((d : ℕ) → get_or done d false ≡ true → (steps : List ℕ) → IsWalk nodes d steps → length steps < settled done)
    → IsSettled done (get_or nodes at no_node).child_0 → IsSettled done (get_or nodes at no_node).child_1 → (steps : List ℕ) → IsWalk nodes at steps → length steps < settled done + 1
short_after nodes done at short left right [] walk = omega arith
short_after nodes done at short left right (next ∷ steps) walk =
    let is : get_or done next false ≡ true = elim walk.0.named [
      | inl named ↦ rw named at left walk.0.node
      | inr named ↦ rw named at right walk.0.node
    ] in
    omega (arith, short next is steps walk.1)

-- The last node of the way is settled, and the way goes back by one. It stands nowhere else on the way, since from
-- there the way goes on to a child that is not settled.
searches_back : (nodes : List Node) (done : List Bool) (path : List ℕ) (at : ℕ) → Searches nodes done (path ++ at ∷ []) → at < length nodes
    → IsSettled done (get_or nodes at no_node).child_0 → IsSettled done (get_or nodes at no_node).child_1
    → Searches nodes (set done at true) path × (settled (set done at true) ≡ settled done + 1)
searches_back nodes done path at s within left right =
    let count = length_pushed path at in
    let there : at < length done = omega (arith, s.len, within) in
    let new : get_or done at false ≡ false = rw (get_or_push path at 0 (length path) refl) at (s.unsettled (length path) (omega (arith, count))) in
    let more = settled-set done at there new in
    let apart : (p : ℕ) → p < length path → get_or path p 0 ≡ at → ⊥ = λ p below same.
    let step = s.each p (omega (arith, count, below)) in
    let from_at : IsBelow nodes at (get_or (path ++ at ∷ []) (p + 1) 0) = rw (pushed_at path at p below, same) at step in
    let is : get_or done (get_or (path ++ at ∷ []) (p + 1) 0) false ≡ true = elim from_at.named [
      | inl named ↦ rw named at left from_at.node
      | inr named ↦ rw named at right from_at.node
    ] in
    false≢true (sym (s.unsettled (p + 1) (omega (arith, count, below))) ∙ is) in (
      record {
        len = length-set done at true ∙ s.len;
        short = λ d is steps walk. rw more (elim (cases_eq d at) [
          | inl same ↦ short_after nodes done at s.short left right steps (rw same at walk)
          | inr other ↦ let before = s.short d (sym (get_or-set_other done at d true false other) ∙ is) steps walk in omega (arith, before)
        ]);
        first = λ some. sym (pushed_at path at 0 some) ∙ s.first (omega (arith, count));
        within = λ p below. rw (pushed_at path at p below) at (s.within p (omega (arith, count, below)));
        each = λ p inside.
            let step = s.each p (omega (arith, count, inside)) in
            rw (pushed_at path at p (omega (arith, inside)), pushed_at path at (p + 1) inside) at step;
        unsettled = λ p below. get_or-set_other done at (get_or path p 0) true false (apart p below) ∙ (rw (pushed_at path at p below) at (s.unsettled p (omega (arith, count, below))));
        last = λ empty.
            let is : at ≡ length nodes - 1 = sym (get_or_push path at 0 0 empty) ∙ s.first (omega (arith, count)) in
            rw (← is) (get_or-set_same done at true false there);
      },
      more,
    )

-- ---- the end

-- the way is empty: each way down from the last node ends
pub searches_end : (nodes : List Node) (done : List Bool) (path : List ℕ) → Searches nodes done path → length path ≡ 0 → WalksEnd nodes
searches_end nodes done path s empty = record {
  shorter = λ some steps walk.
      let short = s.short (length nodes - 1) (s.last empty) steps walk in
      omega (arith, short, settled-le done, s.len);
}

walk_of : (nodes : List Node) (x : ℕ) (xs : List ℕ) → ((p : ℕ) → p + 1 < length (x ∷ xs) → IsBelow nodes (get_or (x ∷ xs) p 0) (get_or (x ∷ xs) (p + 1) 0)) → IsWalk nodes x xs
walk_of nodes x [] each = tt
walk_of nodes x (y ∷ ys) each = (
  each 0 (omega arith),
  walk_of nodes y ys (λ p below.
      let step = each (suc p) (omega (arith, below)) in
      let place : suc p + 1 ≡ suc (p + 1) = omega arith in
      rw place at step),
)

-- a way of more nodes than there are is a walk that does not end
pub too_long : (nodes : List Node) (done : List Bool) (path : List ℕ) → Searches nodes done path → 0 < length nodes → length nodes < length path → WalksEnd nodes → ⊥
too_long nodes done [] s some long ends = absurd (omega (arith, long))
too_long nodes done (x ∷ xs) s some long ends =
    let walk = walk_of nodes x xs s.each in
    let from_last : IsWalk nodes (length nodes - 1) xs = rw (s.first (omega arith)) at walk in
    let short = ends.shorter some xs from_last in
    omega (arith, short, long)

-- ---- the same of a way whose last node was taken from it

-- how far the search is from its end
abbrev pub left : List Node → List Bool → List ℕ → ℕ
left nodes done path = 2 * (length nodes - settled done) + (length nodes + 2 - length path)

module _ (nodes : List Node) (done : List Bool) (path rest : List ℕ) (at : ℕ) (s : Searches nodes done path) (taken : path ≡ rest ++ at ∷ []) where
  last_at : get_or path (length path - 1) 0 ≡ at
  last_at =
      let count = length_pushed rest at in
      let place : length (rest ++ at ∷ []) - 1 ≡ length rest = omega (arith, count) in
      rw (taken, place) (get_or_push rest at 0 (length rest) refl)

  length_taken : length path ≡ length rest + 1
  length_taken = ap length taken ∙ length_pushed rest at

  pub top_within : at < length nodes
  top_within = rw last_at at (s.within (length path - 1) (omega (arith, length_taken)))

  pub stops : length nodes ≤ length rest → WalksEnd nodes → ⊥
  stops long ends = too_long nodes done path s (omega (arith, top_within)) (omega (arith, length_taken, long)) ends

  pub goes_down : (child : ℕ) (next : List ℕ) → length rest < length nodes → IsBelow nodes at child → child < length nodes → get_or done child false ≡ false → next ≡ path ++ child ∷ []
      → Searches nodes done next × (left nodes done next < left nodes done path)
  goes_down child next short below there new is =
      let count = length_pushed path child in
      let from_last : IsBelow nodes (get_or path (length path - 1) 0) child = rw last_at below in
      rw is (searches_down nodes done path child s (omega (arith, length_taken)) from_last there new, omega (arith, count, length_taken, short))

  pub goes_back : (marks : List Bool) → length rest < length nodes → IsSettled done (get_or nodes at no_node).child_0 → IsSettled done (get_or nodes at no_node).child_1 → marks ≡ set done at true
      → Searches nodes marks rest × (left nodes marks rest < left nodes done path)
  goes_back marks short left_one right_one is =
      let on_path : Searches nodes done (rest ++ at ∷ []) = rw taken at s in
      let back = searches_back nodes done rest at on_path top_within left_one right_one in
      let most = settled-le (set done at true) in
      rw is (back.0, omega (arith, back.1, back.0.len, most, length_taken, short))
