use Rattle.std.proofs.Common.{◌≡◌, ◌∙◌, ◌+◌, sym, subst, true, false, Vec, Global, ℕ, arith}
use Rattle.dsda_cli.specs.Order.{begins_word, names_hand, hand_from}
use Rattle.dsda_cli.proofs.OrderLemmas.{ReadSoFar, no_word, a_word, wrong_word, all_read, named_from, unnamed_from}
use Rattle.dsda_cli.proofs.order.read_order.Goals.{then-begins_word+in-Some+in_ok-append-in-Some, else-begins_word}
use Rattle.dsda_cli.proofs.order.read_order.Goals as goal

pub returns-in-None-clause-order : goal.returns-in-None-clause-order
returns-in-None-clause-order c =
    let bytes = c.args.bytes.now in
    let begins : begins_word bytes c.loop-at.at ≡ true = sym c.begins_word.ensures ∙ c.if-begins_word.true in
    let unnamed = unnamed_from (names_hand bytes c.loop-at.at) (hand_from bytes c.loop-at.at) c.in-None.ensures.hand in
    wrong_word bytes c.loop-at.at c.loop-at.hands.items c.loop-at-test.true begins unnamed c.loop-at.invariant

pub returns-clause-order : goal.returns-clause-order
returns-clause-order c = all_read c.args.bytes.now c.loop-at.at c.loop-at.hands.items (omega arith) c.loop-at.invariant

pub loop-at-preserved : goal.loop-at-preserved
loop-at-preserved c =
    let bytes = c.args.bytes.now in
    let at = c.loop-at.at in
    elim c.if-begins_word.branch [
      | then-begins_word+in-Some+in_ok-append-in-Some w ↦
          let begins : begins_word bytes at ≡ true = sym c.begins_word.ensures ∙ w.if-begins_word.true in
          let named = named_from (names_hand bytes at) (hand_from bytes at) w.in-Some.hand w.in-Some.ensures.hand in
          let read = a_word bytes at w.in-Some.hand c.loop-at.hands.items c.loop-at-test.true begins named.0 named.1 w.in-Some.ensures.within c.loop-at.invariant in
          subst (λ (hands : Vec ℕ Global). ReadSoFar bytes (at + 1) hands.items) (sym w.hands-is) (rw w.in_ok-append-in-Some.ensures.appended read)
      | else-begins_word w ↦
          let none : begins_word bytes at ≡ false = sym c.begins_word.ensures ∙ w.if-begins_word.false in
          subst (λ (hands : Vec ℕ Global). ReadSoFar bytes (at + 1) hands.items) (sym w.hands-is) (no_word bytes at c.loop-at.hands.items c.loop-at-test.true none c.loop-at.invariant)
    ]
