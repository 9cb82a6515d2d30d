use Rattle.std.proofs.Common.{ℕ, ◌+◌, max, ap, sym, ◌∙◌, arith}
use Rattle.never_heap.specs.LiveBlocks.{live_blocks}
use Rattle.rt_check.specs.declared.rt_limit.counts.Counter.{Counter}
use Rattle.rt_check.proofs.rt_limit.CountLaws.{counted, not_counted}
use Rattle.rt_check.proofs.rt_limit.counts.Counter.went.Goals as goal

pub returns-then-bound-reached : goal.returns-then-bound-reached
returns-then-bound-reached c g past m k graph made =
    let is = c.bind.ensures in
    let old : Counter = c.args.self.now in
    let bound = ap (λ (x : Counter). x.bound) is in
    not_counted c.args.graph.now.width g past m old c.bind.new.self k
    (ap (λ (x : Counter). x.figures.allocated) is
    ∙ ap (λ (n : ℕ). old.figures.allocated + n) (c.from.ensures ∙ made))
    (bound ∙ ap (λ (n : ℕ). old.bound + n) (c.from-2.ensures ∙ made))
    (ap (λ (x : Counter). x.figures.reached) is)
    (omega (arith, bound, c.if-bound-reached.true))
    (ap (λ (x : Counter). x.figures.enough) is
    ∙ ap (λ (n : ℕ). max old.figures.enough n) (sym bound))

pub returns : goal.returns
returns c g past m k graph made =
    let is = c.bind-2.ensures in
    let old : Counter = c.args.self.now in
    let bound = ap (λ (x : Counter). x.bound) is in
    counted c.args.graph.now.width g past m old c.bind-2.new.self k
    (ap (λ (x : Counter). x.figures.allocated) is
    ∙ ap (λ (n : ℕ). old.figures.allocated + n) (c.from.ensures ∙ made))
    (bound ∙ c.in_ok-live.ensures ∙ ap (live_blocks c.args.graph.now.width) graph)
    (ap (λ (x : Counter). x.figures.reached) is ∙ c.max-self.ensures
    ∙ ap (λ (n : ℕ). max old.figures.reached n) (sym bound))
    (ap (λ (x : Counter). x.figures.enough) is
    ∙ ap (λ (n : ℕ). max old.figures.enough n) (sym bound))
