use Rattle.std.proofs.Common.{◌≡◌, ◌+◌, ◌≤◌, ◌∙◌, ap, subst, arith, length}
use Rattle.doom_edge.specs.Costs.{Cost, Rises}
use Rattle.lmp_codec.specs.Demo.{most_tics}
use Rattle.game_trait.specs.Replay.{replay}
use Rattle.brute_run.specs.Search.{first_meeting}
use Rattle.brute_run.specs.Costs.{search_cost}
use Rattle.build_edits.specs.Built.{Built}
use Rattle.build_session.specs.Searches.{turns_of}
use Rattle.build_session.specs.Session.{play_of}
use Rattle.build_session.specs.Seen.{Seen}
use Rattle.build_session.proofs.Doing.{first_within, go_does}
use Rattle.build_session.proofs.session.Session.go.Goals as goal

pub answer-requires-clause-number : goal.answer-requires-clause-number
answer-requires-clause-number g c =
    first_within g.G.Game c.game-game.result.now c.in_ok-kept.kept c.args.wants.now c.args.space.now c.in_ok-searched.searched.first c.in_ok-searched.ensures.first

pub returns : goal.returns
returns g c =
    let rules = g.G.Game in
    let turns = turns_of c.args.searcher.now rules in
    let play = play_of rules g.G.Details.ground_of g.G.Details.vitals_of turns in
    let build = c.self.inside.build in
    let old : Seen _ = record { build = build; report = c.self.inside.report.items } in
    let mid = c.world.new.steps.tics in
    let after = c.search.new.steps.tics in
    let space = c.args.space.now in
    let wants = c.args.wants.now in
    let game_is : c.game-game.result.now ≡ build.game = c.game-game.ensures.game ∙ ap (λ (b : Built _). b.game) c.in_ok-kept.ensures.kept in
    let kept_is : c.in_ok-kept.kept ≡ replay rules build.game build.tape.before = c.in_ok-kept.ensures.world.same in
    let room : length build.tape.before + length space.tics ≤ most_tics = omega (arith, c.depth.ensures.depth, c.cursor.ensures.value, c.cursor.ensures.within, c.if-depth-cursor.false) in
    rw (← c.self.view_is)
    (go_does play old c.answer.new.self c.world.new.self c.in_ok-kept.ensures.kept c.in_ok-kept.ensures.reach c.args.steps.now.tics mid c.in_ok-kept.ensures.tics
    space wants c.in_ok-searched.searched.first c.in_ok-searched.searched.turns c.answer.result after room
    (c.in_ok-searched.ensures.first ∙ (λ k. first_meeting rules (game_is k) (kept_is k) wants space))
    (c.in_ok-searched.ensures.turns ∙ (λ k. turns (game_is k) (kept_is k) space wants))
    c.answer.ensures.answered c.answer.ensures.memory
    (subst (λ (cost : Cost). Rises cost mid after) (λ k. search_cost rules (game_is k) (kept_is k) wants space) c.in_ok-searched.ensures.cost))
