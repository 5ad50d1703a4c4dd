use Rattle.std.proofs.Common.{rules, ◌≡◌, refl, w32}
use Rattle.std.proofs.lemmas.Int.{to_z-of_z}
use mir.Val.{SFits}
use Rattle.map_geometry.specs.Level.{lists_of}
use Rattle.map_load.specs.Spelled.{spelled, sides_of, vertices_of, lines_of, segs_of, subsectors_of, words_of}
use Rattle.map_load.proofs.reading.parts.Goals as goal

pub returns : goal.returns
unfolding spelled sides_of vertices_of lines_of segs_of subsectors_of words_of
returns c =
    let x : SFits w32 c.origin-origin_x.result = search rules in
    let y : SFits w32 c.origin-origin_y.result = search rules in
    simp to_z-of_z (rw (
      c.in_ok-things.ensures,
      c.in_ok-subsectors.ensures,
      c.deref-3.ensures.value,
      c.deref-4.ensures.value,
      c.deref-5.ensures.value,
      c.in_ok-lines.ensures,
      c.deref.ensures.value,
      c.deref-2.ensures.value,
      c.in_ok-segs.ensures,
      c.in_ok-nodes.ensures,
      c.in_ok-sectors.ensures,
      c.in_ok-sides.ensures,
      c.in_ok-vertices.ensures,
      c.in_ok-cells.ensures,
      c.deref-6.ensures.value,
      c.origin-origin_x.ensures,
      c.deref-7.ensures.value,
      c.origin-origin_y.ensures,
      c.deref-8.ensures.value,
      c.from-width.ensures,
      c.head_word.ensures,
      c.deref-9.ensures.value,
      c.from-height.ensures,
      c.head_word-2.ensures,
      c.deref-10.ensures.value,
      c.in_ok-words.ensures,
    ) refl)
