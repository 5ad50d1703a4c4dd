use Rattle.std.proofs.Common.{rules, ◌≡◌, ◌++◌, ◌-◌, List, ℕ, ap, ◌∙◌, arith, length, min, max}
use Rattle.std.specs.List.{splice}
use Rattle.std.specs.Prelude.{[]}
use Rattle.lmp_codec.specs.declared.input.Tic.{Tic}
use Rattle.build_edits.specs.Kept.{joined}
use Rattle.build_edits.proofs.Splices.{both_parts}
use Rattle.build_edits.proofs.list.TicList.erase.Goals as goal

pub returns : goal.returns
returns c =
    let front : List Tic = c.self.inside.front.items in
    let back : List Tic = joined c.self.inside.blocks.items in
    let len : c.len-front.result ≡ length front = search rules in
    let from : ℕ = c.args.from in
    let to : ℕ = c.args.to in
    let start : c.max-start.result - c.len-front.result ≡ max from (length front) - length front = omega (arith, len, c.max-start.ensures) in
    let end : c.max-end.result - c.len-front.result ≡ max to (length front) - length front = omega (arith, len, c.max-end.ensures) in
    let low : c.min.result ≡ min from (length front) = omega (arith, len, c.min.ensures) in
    let high : c.min-2.result ≡ min to (length front) = omega (arith, len, c.min-2.ensures) in
    let old : front ++ back ≡ c.args.self.now.tics = ap (λ k. k.tics) c.self.view_is ∙ c.open.ensures.same in
    let behind : joined c.erase.new.blocks.items ≡ splice back (max from (length front) - length front) (max to (length front) - length front) [] =
    c.erase.ensures.erased
    ∙ ap (λ (n : ℕ). splice back n (c.max-end.result - c.len-front.result) []) start
    ∙ ap (λ (n : ℕ). splice back (max from (length front) - length front) n []) end in
    let before : c.erase-2.new.tics.items ≡ splice front (min from (length front)) (min to (length front)) [] =
    c.erase-2.ensures.erased
    ∙ ap (λ (n : ℕ). splice front n c.min-2.result []) low
    ∙ ap (λ (n : ℕ). splice front (min from (length front)) n []) high in
    record {
      erased =
          ap (λ (x : List Tic). x ++ joined c.erase.new.blocks.items) before
          ∙ ap (λ (x : List Tic). splice front (min from (length front)) (min to (length front)) [] ++ x) behind
          ∙ both_parts front back from to c.requires.order
          ∙ ap (λ (x : List Tic). splice x from to []) old;
    }
