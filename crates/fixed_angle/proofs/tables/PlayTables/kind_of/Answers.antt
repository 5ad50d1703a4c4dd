use Rattle.std.proofs.Common.{subst, ap, ◌∙◌, ◌≢◌, ◌↔◌, IsNone, All}
use Rattle.fixed_angle.specs.Tables.{Tables, kind_with}
use Rattle.fixed_angle.proofs.Found.{kind_found, kind_absent}
use Rattle.fixed_angle.proofs.tables.PlayTables.kind_of.Goals as goal

pub returns-clause-kind : goal.returns-clause-kind
returns-clause-kind c =
    kind_found c.self.inside.kinds.items c.self.inside.by_number.items c.deref.result.now c.args.number c.search.result c.deref.ensures.value c.self.invariant.same c.self.invariant.tables.kinds c.search.ensures.found c.search.ensures.number c.search.ensures.absent
    ∙ ap (λ (tables : Tables). kind_with tables c.args.number) c.self.view_is

pub returns-clause-absent : goal.returns-clause-absent
returns-clause-absent c =
    let P : Tables → Type 0 = λ tables. IsNone c.search.result ↔ All (λ kind. kind.number ≢ c.args.number) tables.kinds in
    subst P c.self.view_is (kind_absent c.self.inside.kinds.items c.self.inside.by_number.items c.deref.result.now c.args.number c.search.result c.deref.ensures.value c.self.invariant.same c.search.ensures.found c.search.ensures.number c.search.ensures.absent)
