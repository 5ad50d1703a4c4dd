-- A walk along blocks.
use Rattle.std.proofs.Common.{◌≡◌, ℕ, ◌<◌, length, true, false, List, [], ◌∷◌, ◌++◌, sym, ap, ◌∙◌, suc, ◌-◌, ◌+◌, ◌≤◌, cond, refl, arith}
use Rattle.std.proofs.lemmas.List.Elements.{All-nil, All-append}
use Rattle.map_geometry.specs.Lists.{Lists}
use Rattle.map_geometry.specs.declared.blocks.Block.{Block}
use Rattle.map_geometry.specs.declared.blocks.BlockBox.{BlockBox}
use Rattle.map_geometry.specs.Blocks.{blocks_in, cut_to_grid}
use Rattle.block_walk.specs.declared.walk.Walk.{Walk}
use Rattle.block_walk.specs.Visits.{is_at_end, next_of, visited}
use Rattle.block_walk.specs.Near.{near_all, first_ones, near}
use Rattle.block_walk.specs.Steps.{is_marked, IsClear, AreLines, AreWalked, Meets, itself, fresh}
use Rattle.block_walk.proofs.Fresh.{fresh_first_ones, All-fresh, IsKept, Leads, leads_begin, leads_step, leads_end, leads_many}
use Rattle.block_walk.proofs.Joined.{near_all-append, near_all_cut}

-- of all blocks of a walk the rest is ahead
pub record IsOnBlocks {X : Type 0} (keep : List ℕ → List X) (l : Lists) (lists : List ℕ) (old met : List ℕ) (before out : List X) (all rest : List Block) : Type 0 where
  pub walked : AreWalked l met lists
  pub leads : Leads keep old met before out (near_all l all) (near_all l rest)
  pub there : AreLines l (near_all l rest) → AreLines l (near_all l all)

pub on_blocks_begin : {X : Type 0} (keep : List ℕ → List X) (l : Lists) (lists met : List ℕ) (out : List X) (all : List Block) → AreWalked l met lists → IsOnBlocks keep l lists met met out out all all
on_blocks_begin keep l lists met out all are = record { walked = are; leads = leads_begin keep met out (near_all l all); there = λ lines. lines }

pub on_blocks_step : {X : Type 0} (keep : List ℕ → List X) → IsKept keep → (l : Lists) (lists lists' old met new : List ℕ) (before out next : List X) (all part rest : List Block)
    → IsOnBlocks keep l lists old met before out all (part ++ rest) → Meets keep l lists' met new out next part → IsOnBlocks keep l lists' old new before next all rest
on_blocks_step keep kept l lists lists' old met new before out next all part rest on meets =
    let split = near_all-append l part rest in
    let ahead : Leads keep old met before out (near_all l all) (near_all l part ++ near_all l rest) = rw split at on.leads in
    record {
      walked = meets.walked;
      leads = leads_step keep kept old met new before out next (near_all l all) (near_all l part) (near_all l rest) ahead meets.lines;
      there = λ more. on.there (rw split (All-append (λ line. line < length l.lines) (near_all l part) (near_all l rest) meets.there more));
    }

pub on_blocks_end : {X : Type 0} (keep : List ℕ → List X) → IsKept keep → (l : Lists) (lists old met : List ℕ) (before out : List X) (all rest : List Block) → IsOnBlocks keep l lists old met before out all rest
    → rest ≡ [] → Meets keep l lists old met before out all
on_blocks_end keep kept l lists old met before out all rest on none = record {
  walked = on.walked;
  lines = leads_end keep kept old met before out (near_all l all) (rw none at on.leads);
  there = on.there (rw none (All-nil (λ line. line < length l.lines)));
}

-- ---- what was met from the start

pub meets_near : (l : Lists) (lists met new out : List ℕ) (box : BlockBox) → IsClear met → Meets itself l lists met new [] out (blocks_in (cut_to_grid l.width l.height box)) → out ≡ near l (blocks_in box)
meets_near l lists met new out box clear meets =
    meets.lines.more ∙ fresh_first_ones (is_marked met) clear (near_all l (blocks_in (cut_to_grid l.width l.height box))) ∙ ap first_ones (sym (near_all_cut l box))

pub meets_there : (l : Lists) (lists met new out : List ℕ) (blocks : List Block) → Meets itself l lists met new [] out blocks → AreLines l out
meets_there l lists met new out blocks meets = rw meets.lines.more (All-fresh (λ line. line < length l.lines) (is_marked met) (near_all l blocks) meets.there)

-- ---- the blocks that a trace visits

-- what is too much in some blocks is too much in the end
pub on_blocks_many : {X : Type 0} (keep : List ℕ → List X) → IsKept keep → (l : Lists) (lists old met : List ℕ) (before out : List X) (all part rest : List Block) (most : ℕ)
    → IsOnBlocks keep l lists old met before out all (part ++ rest) → most < length (out ++ keep (fresh (is_marked met) (near_all l part)))
    → most < length (before ++ keep (fresh (is_marked old) (near_all l all)))
on_blocks_many keep kept l lists old met before out all part rest most on many =
    leads_many keep kept old met before out (near_all l all) (near_all l part) (near_all l rest) most (rw (near_all-append l part rest) at on.leads) many

abbrev pub visits_behind : ℕ → Walk → List Block
visits_behind more walk = cond (is_at_end walk) [] (visited more (next_of walk))

visit_first : (visit : ℕ) (walk : Walk) → visit < 64 → visited (64 - visit) walk ≡ (walk.block ∷ []) ++ visits_behind (64 - (visit + 1)) walk
unfolding visited
visit_first visit walk below =
    let one_more : 64 - visit ≡ suc (64 - (visit + 1)) = omega arith in
    rw one_more refl

pub no_visits : (visit : ℕ) (walk : Walk) → 64 ≤ visit → visited (64 - visit) walk ≡ []
unfolding visited
no_visits visit walk all =
    let none : 64 - visit ≡ 0 = omega arith in
    rw none refl

module _ {X : Type 0} (keep : List ℕ → List X) (kept : IsKept keep) (l : Lists) (lists old met : List ℕ) (before out : List X) (all : List Block) (walk : Walk) (visit : ℕ) (below : visit < 64)
    (on : IsOnBlocks keep l lists old met before out all (visited (64 - visit) walk)) where
  behind : IsOnBlocks keep l lists old met before out all ((walk.block ∷ []) ++ visits_behind (64 - (visit + 1)) walk)
  behind = rw (visit_first visit walk below) at on

  pub visit_step : (lists' new : List ℕ) (next : List X) → Meets keep l lists' met new out next (walk.block ∷ []) → is_at_end walk ≡ false
      → IsOnBlocks keep l lists' old new before next all (visited (64 - (visit + 1)) (next_of walk))
  visit_step lists' new next meets goes_on =
      let after = on_blocks_step keep kept l lists lists' old met new before out next all (walk.block ∷ []) (visits_behind (64 - (visit + 1)) walk) behind meets in
      rw goes_on at after

  pub visit_last : (lists' new : List ℕ) (next : List X) → Meets keep l lists' met new out next (walk.block ∷ []) → is_at_end walk ≡ true → Meets keep l lists' old new before next all
  visit_last lists' new next meets ends =
      let after = on_blocks_step keep kept l lists lists' old met new before out next all (walk.block ∷ []) (visits_behind (64 - (visit + 1)) walk) behind meets in
      on_blocks_end keep kept l lists' old new before next all [] (rw ends at after) refl

  pub visit_many : (most : ℕ) → most < length (out ++ keep (fresh (is_marked met) (near_all l (walk.block ∷ [])))) → most < length (before ++ keep (fresh (is_marked old) (near_all l all)))
  visit_many most many = on_blocks_many keep kept l lists old met before out all (walk.block ∷ []) (visits_behind (64 - (visit + 1)) walk) most behind many
