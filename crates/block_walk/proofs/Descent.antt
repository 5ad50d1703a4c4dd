-- The way down to a place's subsector.
use Rattle.std.proofs.Common.{◌≡◌, ℕ, zero, suc, ◌+◌, ◌-◌, ◌<◌, ◌≤◌, false, eqb, ltb, List, [], ◌∷◌, ◌++◌, length, ℤ, refl, sym, ap, ◌∙◌, ◌⊎◌, inl, inr, arith}
use Rattle.std.proofs.lemmas.Bool.{cases_Bool, lt-ltb}
use Rattle.std.proofs.lemmas.List.{length_push}
use Rattle.map_geometry.specs.declared.records.Node.{Node}
use Rattle.map_geometry.specs.Lists.{Lists, nth_node}
use Rattle.map_geometry.specs.Nodes.{IsChildIn, IsBelow, IsWalk, WalksEnd}
use Rattle.map_geometry.specs.Level.{IsNodeIn}
use Rattle.map_geometry.specs.Sides.{side_of_node}
use Rattle.map_geometry.specs.Places.{child_of, subsector_below, subsector_of}

-- the node at which a way down ends
abbrev pub end_of : ℕ → List ℕ → ℕ
end_of at [] = at
end_of at (next ∷ steps) = end_of next steps

walk_on : (nodes : List Node) (at : ℕ) (steps : List ℕ) (next : ℕ) → IsWalk nodes at steps → IsBelow nodes (end_of at steps) next → IsWalk nodes at (steps ++ next ∷ [])
walk_on nodes at [] next walk below = (below, tt)
walk_on nodes at (first ∷ steps) next walk below = (walk.0, walk_on nodes first steps next walk.1 below)

end_on : (at : ℕ) (steps : List ℕ) (next : ℕ) → end_of at (steps ++ next ∷ []) ≡ next
end_on at [] next = refl
end_on at (first ∷ steps) next = end_on first steps next

-- the child for a place is one of the two
one_child : (node : Node) (x y : ℤ) → (node.child_0 ≡ child_of node x y) ⊎ (node.child_1 ≡ child_of node x y)
unfolding child_of
one_child node x y = elim (cases_Bool (eqb (side_of_node node x y) 0)) [
  | inl front ↦ inl (rw front refl)
  | inr back ↦ inr (rw back refl)
]

child_within : (l : Lists) (node : Node) (x y : ℤ) → IsNodeIn l node → IsChildIn (length l.nodes) (length l.subsectors) (child_of node x y)
child_within l node x y there = elim (one_child node x y) [
  | inl front ↦ rw (← front) there.child_0
  | inr back ↦ rw (← back) there.child_1
]

-- The way from the last node passed so many nodes and came to a child, from which it leads on to the place's
-- subsector.
pub record Descends (l : Lists) (x y : ℤ) (passed child : ℕ) : Type 0 where
  pub way : List ℕ
  pub walk : IsWalk l.nodes (length l.nodes - 1) way
  pub long : length way ≡ passed
  pub there : end_of (length l.nodes - 1) way < length l.nodes
  pub here : child ≡ child_of (nth_node l (end_of (length l.nodes - 1) way)) x y
  pub within : IsChildIn (length l.nodes) (length l.subsectors) child
  pub left : subsector_below l x y (length l.nodes - passed) child ≡ subsector_of l x y

pub without_nodes : (l : Lists) (x y : ℤ) → length l.nodes ≡ 0 → subsector_of l x y ≡ 0
unfolding subsector_of
without_nodes l x y none = rw none refl

above_zero : (n : ℕ) → 0 < n → eqb n 0 ≡ false
above_zero n some = grind arith

from_last : (l : Lists) (x y : ℤ) → 0 < length l.nodes → subsector_of l x y ≡ subsector_below l x y (length l.nodes) (child_of (nth_node l (length l.nodes - 1)) x y)
unfolding subsector_of
from_last l x y some = rw (above_zero (length l.nodes) some) refl

pub begins : (l : Lists) (x y : ℤ) (child : ℕ) → 0 < length l.nodes → child ≡ child_of (nth_node l (length l.nodes - 1)) x y → IsNodeIn l (nth_node l (length l.nodes - 1)) → Descends l x y 0 child
begins l x y child some here there =
    let all : length l.nodes - 0 ≡ length l.nodes = omega arith in
    record {
      way = [];
      walk = tt;
      long = refl;
      there = omega arith;
      here = here;
      within = rw here (child_within l (nth_node l (length l.nodes - 1)) x y there);
      left = rw (here, all) (sym (from_last l x y some));
    }

-- no way passes as many nodes as there are
pub short : (l : Lists) (x y : ℤ) (passed child : ℕ) → WalksEnd l.nodes → 0 < length l.nodes → Descends l x y passed child → passed < length l.nodes
short l x y passed child ends some d = let less = ends.shorter some d.way d.walk in omega (arith, less, d.long)

arrives : (l : Lists) (x y : ℤ) (more child : ℕ) → 32768 ≤ child → subsector_below l x y more child ≡ child - 32768
unfolding subsector_below
arrives l x y zero child from = refl
arrives l x y (suc more) child from =
    let not_node : ltb child 32768 ≡ false = grind arith in
    rw not_node refl

passes : (l : Lists) (x y : ℤ) (more child : ℕ) → child < 32768 → subsector_below l x y (suc more) child ≡ subsector_below l x y more (child_of (nth_node l child) x y)
unfolding subsector_below
passes l x y more child node = rw (lt-ltb child 32768 node) refl

pub comes_to : (l : Lists) (x y : ℤ) (passed child : ℕ) → Descends l x y passed child → 32768 ≤ child → child - 32768 ≡ subsector_of l x y
comes_to l x y passed child d from = sym (arrives l x y (length l.nodes - passed) child from) ∙ d.left

pub goes_on : (l : Lists) (x y : ℤ) (passed child next : ℕ) → Descends l x y passed child → WalksEnd l.nodes → 0 < length l.nodes → child < 32768 → next ≡ child_of (nth_node l child) x y
    → IsNodeIn l (nth_node l child) → Descends l x y (passed + 1) next
goes_on l x y passed child next d ends some node is there =
    let last = length l.nodes - 1 in
    let lt = short l x y passed child ends some d in
    let below : IsBelow l.nodes (end_of last d.way) child = record {
      within = d.there;
      node = node;
      named = rw d.here (one_child (nth_node l (end_of last d.way)) x y);
    } in
    let end = end_on last d.way child in
    let more : length l.nodes - passed ≡ suc (length l.nodes - (passed + 1)) = omega arith in
    record {
      way = d.way ++ child ∷ [];
      walk = walk_on l.nodes last d.way child d.walk below;
      long = length_push d.way child ∙ ap (λ n. n + 1) d.long;
      there = rw end (d.within.node node);
      here = rw end is;
      within = rw is (child_within l (nth_node l child) x y there);
      left = rw is (sym (passes l x y (length l.nodes - (passed + 1)) child node) ∙ (rw more at d.left));
    }
