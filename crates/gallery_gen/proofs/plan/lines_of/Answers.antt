use Rattle.std.proofs.Common.{◌≡◌, ℕ, ◌+◌, ◌-◌, ◌*◌, List, [], ◌∷◌, ◌++◌, map, sym, ap, ◌∙◌, append_assoc}
use Rattle.std.specs.List.{flat_map, range_with_len}
use Rattle.std.proofs.lemmas.List.{map-append}
use Rattle.gallery_gen.specs.declared.plan.PlanLine.{PlanLine}
use Rattle.gallery_gen.specs.Plan.{walls, ends, join}
use Rattle.gallery_gen.proofs.Each.{each_first, range_more}
use Rattle.gallery_gen.proofs.plan.lines_of.Goals as goal

pub loop-room-preserved : goal.loop-room-preserved
loop-room-preserved c = c.in_ok-push_walls.ensures ∙ (ap (λ lines. lines ++ walls c.loop-room.room) c.loop-room.invariant ∙ each_first walls c.loop-room.room)

-- the joins so far, and one more
joined : (rooms room : ℕ) → map (join rooms) (range_with_len 0 room) ++ join rooms room ∷ [] ≡ map (join rooms) (range_with_len 0 (room + 1))
joined rooms room = sym (ap (map (join rooms)) (range_more room) ∙ map-append (join rooms) (range_with_len 0 room) (room ∷ []))

pub loop-room-2-preserved : goal.loop-room-2-preserved
loop-room-2-preserved c =
    let rooms = c.args.rooms in
    let room = c.loop-room-2.room in
    let before : List PlanLine = flat_map walls (range_with_len 0 rooms) ++ ends rooms in
    let pushed : c.push.new.self.items ≡ c.loop-room-2.lines.items ++ join rooms room ∷ [] = rw c.join.ensures at c.in_ok-push.ensures.items in
    pushed
    ∙ (ap (λ lines. lines ++ join rooms room ∷ []) c.loop-room-2.invariant
    ∙ (append_assoc before (map (join rooms) (range_with_len 0 room)) (join rooms room ∷ [])
    ∙ ap (λ joins. before ++ joins) (joined rooms room)))
