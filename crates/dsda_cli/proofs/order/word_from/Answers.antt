use Rattle.std.proofs.Common.{◌≡◌, ◌-◌, length, take, drop, refl}
use Rattle.std.proofs.lemmas.List.{take_rest}
use Rattle.dsda_cli.proofs.order.word_from.Goals as goal

pub returns : goal.returns
returns c =
    let text : take (length c.args.bytes.now - c.args.at) (drop c.args.at c.args.bytes.now) ≡ drop c.args.at c.args.bytes.now = take_rest c.args.bytes.now c.args.at in
    rw (c.word_len.ensures.value, text) refl
