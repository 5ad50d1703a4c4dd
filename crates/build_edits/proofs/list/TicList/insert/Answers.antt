use Rattle.std.proofs.Common.{rules, ◌≡◌, ◌++◌, ◌+◌, ◌-◌, List, ℕ, ap, ◌∙◌, arith, length}
use Rattle.std.specs.List.{splice}
use Rattle.lmp_codec.specs.declared.input.Tic.{Tic}
use Rattle.build_edits.specs.Kept.{joined}
use Rattle.build_edits.proofs.Splices.{behind}
use Rattle.build_edits.proofs.list.TicList.insert.Goals as goal

pub returns-clause-ok : goal.returns-clause-ok
returns-clause-ok c =
    let front : List Tic = c.self.inside.front.items in
    let back : List Tic = joined c.self.inside.blocks.items in
    let len : c.len-2.result ≡ length front = search rules in
    let place : ℕ = c.args.place - c.len-2.result in
    let sum : c.args.place ≡ length front + place = omega (arith, len, c.if-place-len.false, c.len.ensures) in
    let old : front ++ back ≡ c.args.self.now.tics = ap (λ k. k.tics) c.self.view_is ∙ c.open.ensures.same in
    let new : joined c.insert-2.new.blocks.items ≡ splice back place place c.args.others.now = search rules in
    ap (λ (x : List Tic). front ++ x) new
    ∙ behind front back c.args.others.now place place c.args.place c.args.place sum sum
    ∙ ap (λ (x : List Tic). splice x c.args.place c.args.place c.args.others.now) old
