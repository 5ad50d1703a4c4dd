use Rattle.std.proofs.Common.{◌≡◌, ◌∙◌, ap, FitsSigned, w32, rules}
use Rattle.std.proofs.lemmas.Int.{to_z-of_z}
use Rattle.health_fx.specs.contracts.body.Body.{the_view}
use Rattle.health_fx.specs.Body.{dealt, struck}
use Rattle.health_fx.proofs.Struck.{body_unguarded, fate_unguarded}
use Rattle.health_fx.proofs.body.Body.hurt.Goals as goal

-- what the hit leaves is what the damage that it deals leaves
struck_by : (c : goal.After-settle) → c.strike.new.self ≡ struck (the_view c.self.inside) (dealt (the_view c.self.inside) c.args.damage c.args.finale)
struck_by c =
    let health : FitsSigned w32 c.self.inside.health = search rules in
    let damage : FitsSigned w32 c.args.damage = search rules in
    let dealt_fits : FitsSigned w32 c.dealt-dealt.result = search rules in
    let is : c.strike.new.self ≡ struck (the_view c.self.inside) c.dealt-dealt.result = simp to_z-of_z at (rw (← c.self.view_is) at c.strike.ensures) in
    let of : c.dealt-dealt.result ≡ dealt (the_view c.self.inside) c.args.damage c.args.finale = simp to_z-of_z at c.dealt-dealt.ensures.value in
    is ∙ ap (struck (the_view c.self.inside)) of

pub returns-clause-fate : goal.returns-clause-fate
returns-clause-fate c =
    rw (← c.self.view_is)
    (c.settle.ensures.fate ∙ fate_unguarded (the_view c.self.inside) c.strike.new.self c.args.damage c.args.finale c.if-self-gt0.false (struck_by c))

pub returns-clause-body : goal.returns-clause-body
returns-clause-body c =
    rw (← c.self.view_is)
    (c.settle.ensures.body ∙ body_unguarded (the_view c.self.inside) c.strike.new.self c.args.damage c.args.finale c.if-self-gt0.false (struck_by c))
