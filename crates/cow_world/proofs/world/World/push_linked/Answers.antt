use Rattle.std.proofs.Common.{◌<◌, ◌++◌, ℕ, length, w32, sym, ap, ◌∙◌}
use Rattle.std.proofs.lemmas.Int.{to_z-of_z}
use Rattle.std.proofs.lemmas.List.{append-nil}
use Rattle.std.proofs.lemmas.List.Elements.{All-nil}
use Rattle.cow_world.specs.declared.grid.Grid.{Grid}
use Rattle.cow_world.specs.Flat.{Gridded, parts}
use Rattle.cow_world.specs.Places.{cell_at}
use Rattle.cow_world.proofs.Blocks.{linked_are, linked_there, linked_none}
use Rattle.cow_world.proofs.world.World.push_linked.Goals as goal

pub returns-in_default-clause-things : goal.returns-in_default-clause-things
returns-in_default-clause-things c =
    let column = to_z-of_z w32 c.args.column c.ranges.column in
    let row = to_z-of_z w32 c.args.row c.ranges.row in
    let outside = ap (λ (g : Grid). cell_at g c.args.column c.args.row) c.requires.grid ∙ sym (rw (column, row) at c.in_default.ensures.cell) in
    rw (linked_none c.args.self.now c.args.column c.args.row outside) (sym (append-nil c.args.out.now.items))

pub returns-in_default-clause-there : goal.returns-in_default-clause-there
returns-in_default-clause-there c =
    let column = to_z-of_z w32 c.args.column c.ranges.column in
    let row = to_z-of_z w32 c.args.row c.ranges.row in
    let outside = ap (λ (g : Grid). cell_at g c.args.column c.args.row) c.requires.grid ∙ sym (rw (column, row) at c.in_default.ensures.cell) in
    let There : ℕ → Type 0 = λ i. i < length (parts c.args.self.now).things in
    rw (linked_none c.args.self.now c.args.column c.args.row outside) (All-nil There)

pub returns-clause-things : goal.returns-clause-things
returns-clause-things c =
    let same = ap (λ (w : Gridded). w.grid) c.self.view_is ∙ c.requires.grid in
    let column = to_z-of_z w32 c.args.column c.ranges.column in
    let row = to_z-of_z w32 c.args.row c.ranges.row in
    let cell = ap (λ (g : Grid). cell_at g c.args.column c.args.row) same ∙ sym (rw (column, row) at c.in-Some.ensures.cell) in
    c.in_ok-push_block.ensures ∙ ap (λ things. c.args.out.now.items ++ things) (linked_are c.self.inside c.args.self.now c.self.view_is c.requires.live c.self.invariant c.args.column c.args.row c.in-Some.block cell)

pub returns-clause-there : goal.returns-clause-there
returns-clause-there c =
    let same = ap (λ (w : Gridded). w.grid) c.self.view_is ∙ c.requires.grid in
    let column = to_z-of_z w32 c.args.column c.ranges.column in
    let row = to_z-of_z w32 c.args.row c.ranges.row in
    let cell = ap (λ (g : Grid). cell_at g c.args.column c.args.row) same ∙ sym (rw (column, row) at c.in-Some.ensures.cell) in
    linked_there c.self.inside c.args.self.now c.self.view_is c.requires.live c.self.invariant c.args.column c.args.row c.in-Some.block cell
