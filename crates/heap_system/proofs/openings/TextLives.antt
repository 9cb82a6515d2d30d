-- A trace of a text is a life: it has few commands.
use Rattle.std.proofs.Common.{◌^◌, ◌≡◌, ℕ, ◌+◌, ◌*◌, ◌≤◌, ap, List, [], ◌∷◌, length, arith}
use Rattle.std.proofs.lemmas.Nat.{mul-le}
use Rattle.std.specs.List.{AllByRecursion}
use Rattle.block_store.specs.declared.Config.{Config}
use Rattle.block_store.specs.Configs.{IsInBounds}
use Rattle.rate_plan.specs.Rates.{IsAdmitted}
use Rattle.rate_plan.proofs.Rates.{rate_low}
use Rattle.never_heap.specs.declared.Command.{Command}
use Rattle.never_heap.specs.Bounds.{IsCommandInBounds}
use Rattle.never_heap.specs.Jobs.{IsTraceInBounds, IsJobInBounds}
use Rattle.never_heap.specs.RightWork.{requested_units, units_owed}
use Rattle.never_heap.specs.Steps.{blocks_of}
use Rattle.never_heap.proofs.Lemmas.{blocks_low, told_low}
use Rattle.heap_system.specs.Lives.{sum_after, objects_of, IsLife}
use Rattle.heap_system.specs.Machines.{IsJob}
use Rattle.heap_system.specs.Systems.{commands_in}
use Rattle.heap_system.proofs.accounting.OwedAndPaid.{one_object}

pub one_owes : (c : Config) (rate : ℕ) (k : Command) → rate ≤ 131070 → c.object ≤ 1024 → IsCommandInBounds c k → units_owed c.width rate k ≤ 134346750
one_owes c rate k low object is =
    let price : rate * blocks_of c.width k ≤ 131070 * 1024 = mul-le rate (blocks_of c.width k) 131070 1024 low (omega (arith, blocks_low c k is, object)) in
    omega (arith, price, told_low c k is)

-- and as it is reckoned, of so many blocks and units that it is told of
pub price_few : (c : Config) (rate : ℕ) (k : Command) → rate ≤ 131070 → IsInBounds c → IsCommandInBounds c k → (n told : ℕ) → n ≡ blocks_of c.width k → told ≡ requested_units k → rate * n + told ≤ 134346750
price_few c rate k low bounds fits n told blocks units =
    let price : rate * n ≡ rate * blocks_of c.width k = ap (λ x. rate * x) blocks in
    omega (arith, price, units, one_owes c rate k low bounds.object fits)

all_owe : (c : Config) (rate : ℕ) (ks : List Command) → rate ≤ 131070 → c.object ≤ 1024 → AllByRecursion (IsCommandInBounds c) ks → sum_after (units_owed c.width rate) 0 ks ≤ length ks * 134346750
all_owe c rate [] low object all = omega arith
all_owe c rate (k ∷ ks) low object all = omega (arith, one_owes c rate k low object all.0, all_owe c rate ks low object all.1)

few_objects : (ks : List Command) → sum_after objects_of 0 ks ≤ length ks
few_objects [] = omega arith
few_objects (k ∷ ks) = omega (arith, one_object k, few_objects ks)

pub life_of : (c : Config) (ks : List Command) → IsInBounds c → IsAdmitted c → IsTraceInBounds c ks → IsLife c ks
life_of c ks bounds plan is = record {
  asked = record { few = omega (arith, is.few); commands = is.commands };
  units = λ rate planned. (let all = all_owe c rate ks (rate_low c rate bounds plan planned) bounds.object is.commands in omega (arith, all, is.few));
  objects = omega (arith, few_objects ks, is.few);
}

lives_of : (c : Config) (traces : List (List Command)) → IsInBounds c → IsAdmitted c → AllByRecursion (IsTraceInBounds c) traces → AllByRecursion (IsLife c) traces
lives_of c [] bounds plan all = tt
lives_of c (ks ∷ traces) bounds plan all = (life_of c ks bounds plan all.0, lives_of c traces bounds plan all.1)

-- so the job of a text, whose configuration has a rate, is one
pub job_of_text : (c : Config) (traces : List (List Command)) → IsJobInBounds c traces → IsAdmitted c → IsJob c traces
job_of_text c traces is plan = record {
  bounds = record { config = is.config; threads = is.threads; each = lives_of c traces is.config plan is.each };
  plan = plan;
}

-- and it has few commands
few_in : (c : Config) (traces : List (List Command)) → AllByRecursion (IsTraceInBounds c) traces → commands_in traces ≤ length traces * 131072
few_in c [] all = omega arith
few_in c (trace ∷ traces) all = omega (arith, all.0.few, few_in c traces all.1)

pub text_few : (c : Config) (traces : List (List Command)) → IsJobInBounds c traces → commands_in traces ≤ 2 ^ 32
text_few c traces is = omega (arith, few_in c traces is.each, is.threads, is.config.threads)
