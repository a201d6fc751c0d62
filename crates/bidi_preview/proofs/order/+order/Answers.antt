use Rattle.std.proofs.Common.{rules, ◌≡◌, ◌<◌, ◌≤◌, ◌+◌, ◌-◌, ◌++◌, ◌∷◌, [], true, ap, arith, drop, length, subst, List}
use Rattle.std.proofs.Common.{sym, take, ◌∙◌}
use Rattle.std.proofs.lemmas.Grind.{common_steps}
use Rattle.std.proofs.lemmas.List.{append-nil}
use Rattle.std.specs.List.{list_all}
use Rattle.std.specs.Prelude.{nat_le}
use Rattle.bidi_order.specs.VisualOrder.{LeveledCharacter}
use Rattle.bidi_preview.proofs.Orders.{empty_run, run_begins, run_ends, run_longer, run_longer_back, run_none, same_at}
use Rattle.bidi_preview.proofs.order.+order.Goals as goal
use Rattle.bidi_preview.proofs.order.+order.Goals.{push_forward-else-level-lowest}
use Rattle.bidi_preview.proofs.order.+order.Goals.{push_forward-then-level-lowest+in_ok-push_run+in_ok-push}

-- a run ends where it begins, read from the last character on
pub push_backward-loop-index-preserved-then-level-lowest : goal.push_backward-loop-index-preserved-then-level-lowest
push_backward-loop-index-preserved-then-level-lowest t c =
    let xs = c.args.characters.now in
    let i = c.loop-index.index - 1 in
    let some : i < c.loop-index.end = omega (arith, c.loop-index-test.true, c.loop-index.invariant.order) in
    let within : i < length xs = omega (arith, some, c.loop-index.invariant.within) in
    let here = c.copied.ensures ∙ c.index-characters-index-then-level-lowest.is in
    let same : c.from-level.result ≡ c.copied.result.level =
    c.from-level.ensures ∙ c.level.ensures ∙ ap (λ (y : LeveledCharacter). y.level)
    (same_at xs i c.index-characters-index.result c.copied.result _ _ within c.index-characters-index.is here) in
    let below : c.copied.result.level < c.args.lowest = omega (arith, c.if-level-lowest.true, same) in
    record {
      order = omega arith;
      within = omega (arith, c.loop-index.invariant.order, c.loop-index.invariant.within);
      low = omega (arith, c.requires);
      high = omega (arith, c.requires);
      run = run_none (c.args.above - 1) (i - i) (drop i xs) (omega arith);
      list = run_begins c.args.lowest (c.args.above - c.args.lowest) i c.loop-index.end xs c.loop-index.order.items _ _
          c.copied.result _ some c.loop-index.invariant.within here below
          (c.in_ok-push.ensures.items ∙ ap (λ (l : List LeveledCharacter). l ++ c.copied.result ∷ [])
          c.in_ok-push_run.ensures)
          c.loop-index.invariant.list;
    }

-- a run grows by the character before it
pub push_backward-loop-index-preserved : goal.push_backward-loop-index-preserved
push_backward-loop-index-preserved t c =
    let xs = c.args.characters.now in
    let i = c.loop-index.index - 1 in
    let some : i < c.loop-index.end = omega (arith, c.loop-index-test.true, c.loop-index.invariant.order) in
    let same : c.from-level.result ≡ c.index-characters-index.result.level = c.from-level.ensures ∙ c.level.ensures in
    let next : c.loop-index.index ≡ i + 1 = omega (arith, c.loop-index-test.true) in
    let less : c.min-least.result ≤ c.loop-index.least = omega (arith, c.min-least.ensures) in
    let level : c.min-least.result ≤ c.index-characters-index.result.level = omega (arith, c.min-least.ensures, same) in
    record {
      order = omega (arith, c.loop-index.invariant.order);
      within = c.loop-index.invariant.within;
      low = omega (arith, c.min-least.ensures, c.if-level-lowest.false, c.loop-index.invariant.low);
      high = omega (arith, less, c.loop-index.invariant.high);
      run = run_longer_back c.loop-index.least c.min-least.result i c.loop-index.end xs c.index-characters-index.result _
          some c.loop-index.invariant.within c.index-characters-index.is less level
          (subst (λ n. list_all (λ (x : LeveledCharacter). nat_le c.loop-index.least x.level)
          (take (c.loop-index.end - n) (drop n xs)) ≡ true) next c.loop-index.invariant.run);
      list = c.loop-index.invariant.list;
    }

-- a run ends before a character at a lower level, or grows by one
pub push_forward-loop-index-preserved : goal.push_forward-loop-index-preserved
push_forward-loop-index-preserved t c =
    let xs = c.args.characters.now in
    let i = c.loop-index.index in
    elim c.if-level-lowest.branch [
      | push_forward-then-level-lowest+in_ok-push_run+in_ok-push w ↦
          let within : i < length xs = omega arith in
          let here = w.copied.ensures ∙ w.index-characters-index-then-level-lowest.is in
          let same : c.from-level.result ≡ w.copied.result.level =
          c.from-level.ensures ∙ c.level.ensures ∙ ap (λ (y : LeveledCharacter). y.level)
          (same_at xs i c.index-characters-index.result w.copied.result _ _ within c.index-characters-index.is here) in
          let below : w.copied.result.level < c.args.lowest = omega (arith, w.if-level-lowest, same) in
          let none : i + 1 - c.if-level-lowest.start ≡ 0 = omega (arith, w.start-is) in
          record {
            order = omega (arith, w.start-is);
            low = omega (arith, w.least-is, c.requires);
            high = omega (arith, w.least-is, c.requires);
            run = run_none c.if-level-lowest.least (i + 1 - c.if-level-lowest.start) (drop c.if-level-lowest.start xs) none;
            list = cc (
              run_ends c.args.lowest (c.args.above - c.args.lowest) c.loop-index.start i xs c.loop-index.order.items _ _
                  w.copied.result _ c.loop-index.invariant.order within here below
                  (w.in_ok-push.ensures.items ∙ ap (λ (l : List LeveledCharacter). l ++ w.copied.result ∷ [])
                  w.in_ok-push_run.ensures)
                  c.loop-index.invariant.list,
              w.order-is,
            );
          }
      | push_forward-else-level-lowest w ↦
          let same : c.from-level.result ≡ c.index-characters-index.result.level =
          c.from-level.ensures ∙ c.level.ensures in
          let within : i < length xs = omega arith in
          let less : c.if-level-lowest.least ≤ c.loop-index.least = omega (arith, w.min-least.ensures, w.least-is) in
          let level : c.if-level-lowest.least ≤ c.index-characters-index.result.level =
          omega (arith, w.min-least.ensures, w.least-is, same) in
          let from : c.loop-index.start ≡ c.if-level-lowest.start = omega (arith, w.start-is) in
          record {
            order = omega (arith, w.start-is, c.loop-index.invariant.order);
            low = omega (arith, w.min-least.ensures, w.least-is, w.if-level-lowest, c.loop-index.invariant.low);
            high = omega (arith, less, c.loop-index.invariant.high);
            run = subst (λ n. list_all (λ (x : LeveledCharacter). nat_le c.if-level-lowest.least x.level)
                (take (i + 1 - n) (drop n xs)) ≡ true) from
                (run_longer c.loop-index.least c.if-level-lowest.least c.loop-index.start i xs
                c.index-characters-index.result _ c.loop-index.invariant.order within c.index-characters-index.is less
                level c.loop-index.invariant.run);
            list = cc (c.loop-index.invariant.list, w.order-is, w.start-is);
          }
    ]

-- an empty run
pub push_run-returns-then-is_empty : goal.push_run-returns-then-is_empty
push_run-returns-then-is_empty t c =
    let none : length c.args.run.now ≡ 0 = first_of (cc, search rules, grind (arith, common_steps)) in
    sym (ap (λ (l : List LeveledCharacter). c.args.order.now.items ++ l)
    (empty_run c.args.turned c.args.lowest (c.args.above - c.args.lowest) c.args.run.now none)
    ∙ append-nil c.args.order.now.items)
