use Rattle.std.proofs.Common.{◌≡◌, ◌+◌, ◌++◌, ◌∷◌, ap, refl, ◌∙◌, ℕ, [], arith}
use Rattle.std.proofs.lemmas.Bool.{both_ways}
use Rattle.block_store.specs.declared.Width.{Width}
use Rattle.never_heap.specs.Histories.{Started, starts_in}
use Rattle.never_heap.specs.LiveBlocks.{live_blocks}
use Rattle.trace_text.specs.OrderTexts.{item_text}
use Rattle.trace_text.specs.RunTexts.{start_line}
use Rattle.rt_check.proofs.FollowerState.{stands_start}
use Rattle.rt_check.proofs.follower.Follower.take_start.Goals as goal

pub returns-then-not-is_line-clause-taken : goal.returns-then-not-is_line-clause-taken
returns-then-not-is_line-clause-taken c config past s text =
    let starts : c.len.result ≡ starts_in past = omega (arith, c.len.ensures, s.starts) in
    both_ways c.is_line.result c.if-not-is_line.true
    ((c.is_line.ensures (item_text (starts_in past) Started)
    (c.fill_start.ensures.text ∙ ap (λ (n : ℕ). start_line (n + 1)) starts)).1 text)

pub returns-clause-taken : goal.returns-clause-taken
returns-clause-taken c config past s =
    let starts : c.len.result ≡ starts_in past = omega (arith, c.len.ensures, s.starts) in
    let text = (c.is_line.ensures (item_text (starts_in past) Started)
    (c.fill_start.ensures.text
    ∙ ap (λ (n : ℕ). start_line (n + 1)) starts)).0 c.if-not-is_line.false in (
      text,
      stands_start config past c.args.self.now _ s refl refl refl
          (c.in_ok-push.ensures.items
          ∙ ap (λ (n : ℕ). c.args.self.now.live.items ++ n ∷ [])
          (c.in_ok-count_live.ensures
          ∙ ap (λ (w : Width). live_blocks w c.args.self.now.graph.graph) s.width)) refl,
    )
