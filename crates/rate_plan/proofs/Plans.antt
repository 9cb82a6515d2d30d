-- The least rate by one division.
use Rattle.std.proofs.Common.{◌≡◌, ℕ, suc, ◌+◌, ◌-◌, ◌*◌, ◌/◌, ◌%◌, ◌<◌, ◌≤◌, min, refl, sym, subst, ◌∙◌, arith}
use Rattle.std.proofs.Math.Nat.{mul-le-mul_right}
use Rattle.std.proofs.lemmas.Nat.{div_below, le-div}
use Rattle.std.proofs.lemmas.Grind.{div_ceil_times}
use Rattle.block_store.specs.declared.Config.{Config}
use Rattle.array_trees.proofs.Counts.{div-over}
use Rattle.rate_plan.specs.Rates.{ceiling, IsRate, IsAdmitted}

-- what is at least a ceiling
pub ceiling_fits : (x y z : ℕ) → 0 < y → x ≤ z * y → ceiling x y ≤ z
ceiling_fits x y z some h =
    let below : (x + (y - 1)) / y < suc z = div_below (x + (y - 1)) y (suc z) some (omega arith) in
    omega arith

pub fits_ceiling : (x y z : ℕ) → 0 < y → ceiling x y ≤ z → x ≤ z * y
fits_ceiling x y z some h =
    let least : x ≤ (x / y + min 1 (x % y)) * y = (div_ceil_times x y some).0 in
    let own : x ≤ ceiling x y * y = subst (λ c. x ≤ c * y) (div-over x y some) least in
    let more : ceiling x y * y ≤ z * y = mul-le-mul_right y h in
    omega arith

-- half of what is not taken is how many blocks may be asked for in one cycle
pub rate_by : (c : Config) (taken spare : ℕ) → taken ≡ c.live + 2 * (c.threads * c.object)
    → taken + 2 ≤ c.blocks
    → spare ≡ (c.blocks - taken) / 2 → IsRate c (ceiling (2 * c.blocks) spare)
rate_by c taken spare e room s =
    let some : 0 < spare = omega arith in
    let least : 2 * c.blocks ≤ ceiling (2 * c.blocks) spare * spare =
    fits_ceiling (2 * c.blocks) spare (ceiling (2 * c.blocks) spare) some (omega arith) in
    let positive : 0 < ceiling (2 * c.blocks) spare =
    le-div 1 (2 * c.blocks + (spare - 1)) spare some (omega arith) in
    let enough : ceiling (2 * c.blocks) (ceiling (2 * c.blocks) spare) ≤ spare =
    ceiling_fits (2 * c.blocks) (ceiling (2 * c.blocks) spare) spare positive (omega arith) in
    record {
      some = positive;
      enough = omega arith;
      least = λ k hk keeps.
          let fits : 2 * c.blocks ≤ spare * k =
          fits_ceiling (2 * c.blocks) k spare hk (omega arith) in
          ceiling_fits (2 * c.blocks) spare k some (omega arith);
    }

pub found : (c : Config) → IsAdmitted c → (p : ℕ) × IsRate c p
found c h = (
  _,
  rate_by c (c.live + 2 * (c.threads * c.object))
      ((c.blocks - (c.live + 2 * (c.threads * c.object))) / 2) refl (omega arith) refl,
)

pub small : (c : Config) (p : ℕ) → IsAdmitted c → IsRate c p → p ≤ 2 * c.blocks
small c p h r =
    let once : ceiling (2 * c.blocks) (2 * c.blocks) ≤ 1 =
    ceiling_fits (2 * c.blocks) (2 * c.blocks) 1 (omega arith) (omega arith) in
    r.least (2 * c.blocks) (omega arith) (omega arith)

-- the result of std's division
pub rate_from : (c : Config) (taken spare p : ℕ) → taken ≡ c.live + 2 * (c.threads * c.object)
    → taken + 2 ≤ c.blocks
    → spare ≡ (c.blocks - taken) / 2 → p ≡ (2 * c.blocks) / spare + min 1 ((2 * c.blocks) % spare)
    → IsRate c p
rate_from c taken spare p e room s is =
    let some : 0 < spare = omega arith in
    subst (λ x. IsRate c x) (sym (div-over (2 * c.blocks) spare some) ∙ sym is)
    (rate_by c taken spare e room s)
