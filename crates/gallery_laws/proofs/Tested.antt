-- What tests that pass tell: the conditions of a level's lists hold.
use Rattle.std.proofs.Common.{◌≡◌, ℕ, zero, suc, ◌-◌, ◌<◌, ◌≤◌, ℤ, pos, Bool, true, ◌||◌, ltb, leb, List, [], ◌∷◌, ◌++◌, length, All, refl, sym, subst, inl, inr, arith}
use Rattle.std.specs.Prelude.{Option, Some, None, IfSome, ◌<ℤ◌, int_lt, slice_index}
use Rattle.std.specs.List.{list_all}
use Rattle.std.specs.Int.Signed.{lt_z_yes}
use Rattle.std.proofs.lemmas.Bool.{and_parts, or_cases, leb-true, ltb-true, eqb-true, cases_lt}
use Rattle.std.proofs.lemmas.Float.{T_from_true}
use Rattle.std.proofs.lemmas.List.Elements.{All-nil, All-cons}
use Rattle.fixed_angle.specs.FirstFault.{Condition, FirstFault, for_each}
use Rattle.fixed_angle.proofs.Order.{first_after}
use Rattle.map_geometry.specs.Lists.{Lists, nth_line, nth_subsector, nth_node, nth_cell}
use Rattle.map_geometry.specs.Blocks.{ReachesEnd, HasBlockShape, block_list, end_mark}
use Rattle.map_geometry.specs.Nodes.{IsChildIn, IsBelow, IsWalk, WalksEnd}
use Rattle.map_geometry.specs.Conditions.{conditions, line_conditions, back_faces_sector, line_checks, subsector_conditions, subsector_checks, node_conditions, node_checks, no_loop, cell_conditions, block_checks}
use Rattle.gallery_laws.proofs.Tests.{passes, back_test, line_test, subsector_test, child_test, node_test, shape_test, cell_test, level_test}

-- ---- tests

pub passes_at : (n : ℕ) (test : ℕ → Bool) → passes n test ≡ true → (i : ℕ) → i < n → test i ≡ true
passes_at zero test all i below = absurd (omega (arith, below))
passes_at (suc n) test all i below =
    let parts = and_parts (passes n test) (test n) all in
    elim (cases_lt i n) [
      | inl before ↦ passes_at n test parts.0 i before
      | inr past ↦ let last : n ≡ i = omega (arith, below, past) in subst (λ k. test k ≡ true) last parts.1
    ]

all_pass : {A : Type 0} (P : A → Type 0) (test : A → Bool) → ((x : A) → test x ≡ true → P x) → (xs : List A) → list_all test xs ≡ true → All P xs
all_pass P test tells [] all = All-nil P
all_pass P test tells (x ∷ xs) all =
    let parts = and_parts (test x) (list_all test xs) all in
    All-cons P x xs (tells x parts.0) (all_pass P test tells xs parts.1)

above_zero : (z : ℤ) → int_lt (pos 0) z ≡ true → pos 0 <ℤ z
above_zero z is = lt_z_yes (T_from_true (int_lt (pos 0) z) is)

-- conditions on each record hold where they hold on each
pub each_holds : {F : Type 0} (g : ℕ → List (Condition F)) (n : ℕ) → ((i : ℕ) → i < n → FirstFault (g i) None) → FirstFault (for_each n g) None
each_holds g zero holds = refl
each_holds g (suc n) holds = first_after (for_each n g) (g n) None (each_holds g n (λ i below. holds i (omega (arith, below)))) (holds n (omega arith))

-- ---- lines

back_faces : (l : Lists) (back : Option ℕ) → back_test l back ≡ true → FirstFault (back_faces_sector l back) None
back_faces l None is = refl
back_faces l (Some side) is = inl (ltb-true _ _ (and_parts _ _ is).1, refl)

back_there : (l : Lists) (back : Option ℕ) → back_test l back ≡ true → IfSome back (λ side. side < length l.sides)
back_there l None is = tt
back_there l (Some side) is = ltb-true _ _ (and_parts _ _ is).0

line_sound : (l : Lists) (i : ℕ) → line_test l (nth_line l i) ≡ true → FirstFault (line_conditions l i) None
line_sound l i is =
    let first = and_parts _ _ is in
    let second = and_parts _ _ first.1 in
    let third = and_parts _ _ second.1 in
    let fourth = and_parts _ _ third.1 in
    inl (
      ltb-true _ _ first.0,
      inl (
        ltb-true _ _ second.0,
        inl (
          ltb-true _ _ third.0,
          inl (back_there l (nth_line l i).back_side fourth.1, inl (ltb-true _ _ fourth.0, back_faces l (nth_line l i).back_side fourth.1)),
        ),
      ),
    )

-- ---- subsectors

subsector_sound : (l : Lists) (i : ℕ) → subsector_test l (nth_subsector l i) ≡ true → FirstFault (subsector_conditions l i) None
subsector_sound l i is =
    let first = and_parts _ _ is in
    let second = and_parts _ _ first.1 in
    let third = and_parts _ _ second.1 in
    inl (ltb-true _ _ first.0, inl (ltb-true _ _ second.0, inl (ltb-true _ _ third.0, inl (third.1, refl))))

-- ---- nodes

-- a child that is a node comes before
record IsBefore (l : Lists) (i child : ℕ) : Type 0 where
  node : child < 32768 → child < i
  subsector : 32768 ≤ child → child - 32768 < length l.subsectors

child_sound : (l : Lists) (i child : ℕ) → child_test l i child ≡ true → IsBefore l i child
child_sound l i child is =
    let parts = and_parts (leb 32768 child || ltb child i) (ltb child 32768 || ltb (child - 32768) (length l.subsectors)) is in
    record {
      node = λ below. elim (or_cases (leb 32768 child) (ltb child i) parts.0) [
        | inl above ↦ let high = leb-true 32768 child above in absurd (omega (arith, high, below))
        | inr before ↦ ltb-true child i before
      ];
      subsector = λ above. elim (or_cases (ltb child 32768) (ltb (child - 32768) (length l.subsectors)) parts.1) [
        | inl below ↦ let low = ltb-true child 32768 below in absurd (omega (arith, low, above))
        | inr there ↦ ltb-true (child - 32768) (length l.subsectors) there
      ];
    }

is_child : (l : Lists) (i child : ℕ) → i < length l.nodes → IsBefore l i child → IsChildIn (length l.nodes) (length l.subsectors) child
is_child l i child within before = record {
  node = λ below. let earlier = before.node below in omega (arith, earlier, within);
  subsector = before.subsector;
}

node_sound : (l : Lists) (i : ℕ) → i < length l.nodes → node_test l i (nth_node l i) ≡ true → FirstFault (node_conditions l i) None
node_sound l i within is =
    let parts = and_parts _ _ is in
    inl (is_child l i _ within (child_sound l i _ parts.0), inl (is_child l i _ within (child_sound l i _ parts.1), refl))

-- each node that is named by one comes before it
record Falls (l : Lists) : Type 0 where
  each : (i : ℕ) → i < length l.nodes → IsBefore l i (nth_node l i).child_0 × IsBefore l i (nth_node l i).child_1

below_falls : (l : Lists) → Falls l → (at next : ℕ) → IsBelow l.nodes at next → next < at
below_falls l falls at next below = elim below.named [
  | inl first ↦ subst (λ c. c < at) first ((falls.each at below.within).0.node (subst (λ c. c < 32768) (sym first) below.node))
  | inr second ↦ subst (λ c. c < at) second ((falls.each at below.within).1.node (subst (λ c. c < 32768) (sym second) below.node))
]

walk_falls : (l : Lists) → Falls l → (at : ℕ) (steps : List ℕ) → IsWalk l.nodes at steps → length steps ≤ at
walk_falls l falls at [] walk = omega arith
walk_falls l falls at (next ∷ steps) walk =
    let less = below_falls l falls at next walk.0 in
    let rest = walk_falls l falls next steps walk.1 in
    omega (arith, less, rest)

walks_end : (l : Lists) → Falls l → WalksEnd l.nodes
walks_end l falls = record { shorter = λ some steps walk. let few = walk_falls l falls (length l.nodes - 1) steps walk in omega (arith, some, few) }

-- ---- the block map

shape_sound : (l : Lists) → shape_test l ≡ true → HasBlockShape l.words l.cells
shape_sound l is =
    let first = and_parts _ _ is in
    let second = and_parts _ _ first.1 in
    let third = and_parts _ _ second.1 in
    let fourth = and_parts _ _ third.1 in
    let fifth = and_parts _ _ fourth.1 in
    let head = leb-true 4 (length l.words) first.0 in
    let last : slice_index l.words (length l.words - 1) ≡ end_mark = eqb-true _ _ fifth.0 in
    record {
      head = head;
      width = above_zero _ second.0;
      height = above_zero _ third.0;
      offsets = leb-true _ _ fourth.0;
      ends = all_pass (ReachesEnd l.words) (λ offset. leb offset (length l.words - 1)) (λ offset before. record {
        place = length l.words - 1;
        after = leb-true offset (length l.words - 1) before;
        within = omega (arith, head);
        mark = last;
      }) l.cells fifth.1;
    }

cell_sound : (l : Lists) (i : ℕ) → cell_test l i ≡ true → FirstFault (cell_conditions l i) None
cell_sound l i is = inl (all_pass (λ entry. entry < length l.lines) (λ entry. ltb entry (length l.lines)) (λ entry. ltb-true entry (length l.lines)) (block_list l.words (nth_cell l i)) is, refl)

-- ---- all

pub level_sound : (l : Lists) → level_test l ≡ true → FirstFault (conditions l) None
level_sound l is =
    let first = and_parts _ _ is in
    let second = and_parts _ _ first.1 in
    let third = and_parts _ _ second.1 in
    let fourth = and_parts _ _ third.1 in
    let fifth = and_parts _ _ fourth.1 in
    let lines : FirstFault (line_checks l) None =
    each_holds (line_conditions l) (length l.lines) (λ i below. line_sound l i (passes_at (length l.lines) (λ k. line_test l (nth_line l k)) first.0 i below)) in
    let subsectors : FirstFault (subsector_checks l) None =
    inl (ltb-true _ _ second.0, each_holds (subsector_conditions l) (length l.subsectors) (λ i below. subsector_sound l i (passes_at (length l.subsectors) (λ k. subsector_test l (nth_subsector l k)) third.0 i below))) in
    let passed : (i : ℕ) → i < length l.nodes → node_test l i (nth_node l i) ≡ true =
    passes_at (length l.nodes) (λ k. node_test l k (nth_node l k)) fourth.0 in
    let falls : Falls l = record { each = λ i below. let parts = and_parts _ _ (passed i below) in (child_sound l i _ parts.0, child_sound l i _ parts.1) } in
    let nodes : FirstFault (node_checks l) None =
    first_after (for_each (length l.nodes) (node_conditions l)) (no_loop l) None (each_holds (node_conditions l) (length l.nodes) (λ i below. node_sound l i below (passed i below))) (inl (walks_end l falls, refl)) in
    let blocks : FirstFault (block_checks l) None =
    inl (shape_sound l fifth.0, each_holds (cell_conditions l) (length l.cells) (λ i below. cell_sound l i (passes_at (length l.cells) (cell_test l) fifth.1 i below))) in
    first_after (line_checks l) (subsector_checks l ++ (node_checks l ++ block_checks l)) None lines
    (first_after (subsector_checks l) (node_checks l ++ block_checks l) None subsectors (first_after (node_checks l) (block_checks l) None nodes blocks))
