use Rattle.std.proofs.Common.{rules, ◌≡◌, ◌++◌, ◌∷◌, List, take, drop, ap, ◌∙◌}
use Rattle.std.proofs.lemmas.List.{take_rest}
use Rattle.lmp_codec.specs.declared.input.Tic.{Tic}
use Rattle.build_edits.specs.Kept.{joined}
use Rattle.build_edits.proofs.Splices.{cut_front}
use Rattle.build_edits.proofs.list.TicList.split.Goals as goal

-- src/list.rt:121:5
pub returns : goal.returns
returns c =
    let front : List Tic = c.self.inside.front.items in
    let tail = c.in_ok-tail.tail in
    let blocks = c.self.inside.blocks.items in
    let first : c.truncate.new.self.items ≡ take c.args.place front = search rules in
    let moved : tail.items ≡ drop c.args.place front = search (rules, take_rest) in
    let more : c.insert.new.self.items ≡ tail ∷ blocks = search rules in
    let old : front ++ joined blocks ≡ c.args.self.now.tics = ap (λ k. k.tics) c.self.view_is in
    let same : c.truncate.new.self.items ++ joined c.insert.new.self.items ≡ c.args.self.now.tics =
    ap (λ (x : List Tic). x ++ joined c.insert.new.self.items) first
    ∙ ap (λ bs. take c.args.place front ++ joined bs) more
    ∙ ap (λ (x : List Tic). take c.args.place front ++ (x ++ joined blocks)) moved
    ∙ cut_front front (joined blocks) c.args.place
    ∙ old in
    record { same = same }
