use Rattle.std.proofs.Common.{◌≡◌, ◌<◌, length, false, true, ◌∙◌, subst, get_or, ℕ, List, [], arith}
use Rattle.std.proofs.lemmas.List.{get_or_default}
use Rattle.never_heap.specs.declared.Command.{Command}
use Rattle.rt_check.proofs.FollowerState.{some_left}
use Rattle.rt_check.proofs.follower.Follower.is_done.Goals as goal

no : false ≡ true → ⊥
no e = cc

pub returns-then-index-trace : goal.returns-then-index-trace
returns-then-index-trace c =
    let t : ℕ = c.loop-t.t in
    let there : t < length c.args.self.now.done.items =
    omega (arith, c.loop-t-test.true, c.len-t-end.ensures) in
    let here : c.index.result.now ≡ get_or c.args.self.now.done.items t 0 =
    c.index.ensures
    ∙ get_or_default c.args.self.now.done.items t c.index.result.now 0 there in
    let few : get_or c.args.self.now.done.items t 0 < length (get_or c.args.job.now.traces t []) =
    subst (λ (n : ℕ). n < length (get_or c.args.job.now.traces t [])) here
    (subst (λ (l : List Command). c.index.result.now < length l) c.trace.ensures
    c.if-index-trace.true) in (
      λ f. absurd (no f),
      λ none. absurd
          (some_left (get_or c.args.job.now.traces t []) (get_or c.args.self.now.done.items t 0) few
          (none t)),
    )
