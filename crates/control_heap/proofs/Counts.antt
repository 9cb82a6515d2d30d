-- What a memory counts that counts one at each operation.
use Rattle.std.proofs.Common.{◌≡◌, ℕ, ◌+◌, ◌-◌, ◌^◌, ◌≤◌, List, [], ◌∷◌, length, min, ap, arith}
use Rattle.rate_plan.specs.Rates.{IsRate}
use Rattle.never_heap.specs.declared.Command.{Command}
use Rattle.never_heap.specs.declared.Reply.{Reply}
use Rattle.heap_system.specs.Alone.{command_bound, command_near}
use Rattle.control_heap.specs.declared.counted.Counted.{Counted}
use Rattle.control_heap.specs.Calls.{HasAsked, MayAnswer}
use Rattle.control_heap.specs.Controls.{ControlOf}
use Rattle.control_heap.specs.Counting.{HasCounted, counted_acts}
use Rattle.heap_system.specs.ThreadMemories.{Ran}
use Rattle.heap_system.specs.Locals.{LocalState, begun, local_got}

abbrev pub count_end : ℕ
count_end = 2 ^ 64 - 1

counted : (m : Counted) (l : LocalState) (ws : List ℕ) (n : Counted) (k : LocalState) → m.made ≤ count_end
    → Ran counted_acts tt m l ws n k → n.made ≡ min (m.made + length ws) count_end
counted m l [] n k low ran = let same : m.made ≡ n.made = ap (λ (x : Counted). x.made) ran.0 in omega (arith, same, low)
counted m l (w ∷ ws) n k low ran =
    let first : ran.0.made ≡ min (m.made + 1) count_end = ran.1.1 in
    let rest : n.made ≡ min (ran.0.made + length ws) count_end = counted ran.0 (local_got l w) ws n k (omega (arith, first)) ran.3 in
    omega (arith, low, first, rest)

-- a command was done, and the counts before and after it were read
pub has_counted : (h z : ControlOf Counted) (k : Command) (a : Reply) → MayAnswer k a → HasAsked counted_acts h k a z
    → h.memory.made ≤ count_end → (n : ℕ) → n ≡ z.memory.made - h.memory.made → HasCounted h k n z
has_counted h z k a fits is low n risen =
    let all : z.memory.made ≡ min (h.memory.made + length is.made.words) count_end = counted h.memory (begun k h.thread) is.made.words z.memory z.thread low is.made.ran in
    record {
      reply = a;
      fits = fits;
      done = is;
      risen = risen;
      exact = omega (arith, all, risen, low);
    }

-- a command counts no more than its bound
pub few_counted : (h z : ControlOf Counted) (k : Command) (n : ℕ) → HasCounted h k n z → (rate : ℕ)
    → IsRate h.config rate → n ≤ command_bound h.config rate k
few_counted h z k n is rate planned =
    let few = is.done.made.few rate planned in
    let exact = is.exact in
    omega (arith, exact, few)

-- and no more than the near one
pub near_counted : (h z : ControlOf Counted) (k : Command) (n : ℕ) → HasCounted h k n z → (rate : ℕ)
    → IsRate h.config rate → n ≤ command_near h.config rate k
near_counted h z k n is rate planned =
    let near = is.done.made.near rate planned in
    let exact = is.exact in
    omega (arith, exact, near)
