-- A job in bounds takes fewer than 2^64 serial turns.
use Rattle.std.proofs.Common.{ℕ, zero, suc, ◌+◌, ◌-◌, ◌*◌, ◌^◌, ◌≤◌, Bool, true, false, cond, List, [], ◌∷◌, length, get_or, arith}
use Rattle.std.proofs.lemmas.Nat.{mul-le}
use Rattle.std.specs.List.{AllByRecursion}
use Rattle.block_store.specs.declared.Config.{Config}
use Rattle.block_store.specs.Counts.{total}
use Rattle.never_heap.specs.declared.Command.{Command}
use Rattle.never_heap.specs.Bounds.{IsCommandInBounds}
use Rattle.never_heap.specs.Jobs.{IsTraceInBounds, IsJobInBounds}
use Rattle.never_heap.specs.RightWork.{requested_units}
use Rattle.never_heap.specs.Steps.{blocks_of}
use Rattle.rate_plan.specs.solo_bound.Prices.{allocation_bound, idle_bound, other_bound}
use Rattle.heap_system.specs.Alone.{command_bound}
use Rattle.heap_system.specs.Serials.{trace_bound, job_bound}

module _ (c : Config) (rate : ℕ) (threads : c.threads ≤ 16) (object : c.object ≤ 1024)
    (low : rate ≤ 131070) where
  -- the bound of any command
  abbrev most : ℕ
  most = 30000000000

  allocation : (k : ℕ) → k ≤ c.object → allocation_bound c.threads k rate ≤ most
  allocation k few =
      let units : rate * k ≤ 131070 * 1024 = mul-le rate k 131070 1024 low (omega (arith, few)) in
      let passes : (rate * k + 1) * (8 * c.threads + 64) ≤ (131070 * 1024 + 1) * 192 =
      mul-le (rate * k + 1) (8 * c.threads + 64) (131070 * 1024 + 1) 192
      (omega (arith, units)) (omega (arith, threads)) in
      omega (arith, passes, few, threads, object)

  other : other_bound c.object ≤ most
  other = omega (arith, object)

  idle : (u : ℕ) → u ≤ 131070 → idle_bound c.threads u ≤ most
  idle u few =
      let passes : (u + 1) * (8 * c.threads + 64) ≤ 131071 * 192 =
      mul-le (u + 1) (8 * c.threads + 64) 131071 192 (omega (arith, few)) (omega (arith, threads)) in
      omega (arith, passes)

  choice : (makes idles : Bool) (x y z : ℕ) → x ≤ most → y ≤ most → z ≤ most
      → cond makes x (cond idles y z) ≤ most
  choice true idles x y z a b c = a
  choice false true x y z a b c = b
  choice false false x y z a b c = c

  command : (k : Command) → IsCommandInBounds c k → command_bound c rate k ≤ most
  command k b =
      choice _ _ _ _ _ (allocation (blocks_of c.width k) b.blocks) (idle (requested_units k) b.units) other

  commands : (ks : List Command) → AllByRecursion (IsCommandInBounds c) ks
      → trace_bound c rate ks ≤ length ks * most
  commands [] all = omega arith
  commands (k ∷ ks) all = omega (arith, command k all.0, commands ks all.1)

  trace : (ks : List Command) → IsTraceInBounds c ks → trace_bound c rate ks ≤ 131072 * most
  trace ks b =
      let many : length ks * most ≤ 131072 * most = mul-le (length ks) most 131072 most b.few
      (omega arith) in
      omega (arith, commands ks b.commands, many)

  at : (traces : List (List Command)) → AllByRecursion (IsTraceInBounds c) traces → (t : ℕ)
      → trace_bound c rate (get_or traces t []) ≤ 131072 * most
  at [] all t = omega arith
  at (ks ∷ traces) all zero = trace ks all.0
  at (ks ∷ traces) all (suc t) = at traces all.1 t

  sum : (n : ℕ) (f : ℕ → ℕ) → ((t : ℕ) → f t ≤ 131072 * most) → total n f ≤ n * (131072 * most)
  sum zero f each = omega arith
  sum (suc n) f each = omega (arith, sum n f each, each n)

pub job_low : (c : Config) (traces : List (List Command)) (rate : ℕ) → IsJobInBounds c traces
    → rate ≤ 2 * c.blocks → job_bound c rate traces ≤ 2 ^ 64 - 1
job_low c traces rate job small =
    let b = job.config in
    let low : rate ≤ 131070 = omega (arith, small, b.blocks) in
    let all : job_bound c rate traces ≤ c.threads * (131072 * most c rate b.threads b.object low) =
    sum c rate b.threads b.object low c.threads (λ t. trace_bound c rate (get_or traces t []))
    (at c rate b.threads b.object low traces job.each) in
    omega (arith, all, b.threads)
