-- The heap of a historian holds a trend of 40 samples, and how long its life is.
use Rattle.std.proofs.Common.{◌≡◌, ◌↔◌, ℕ, zero, suc, ◌+◌, ◌-◌, ◌*◌, ◌^◌, ◌<◌, ◌≤◌, List, length, sym, refl, ap, ◌∙◌, subst, arith}
use Rattle.block_store.specs.declared.Config.{Config}
use Rattle.block_store.specs.declared.Width.TheVariants.{Eight}
use Rattle.rate_plan.specs.Rates.{IsRate, KeepsUp}
use Rattle.object_lists.specs.Records.{record_blocks}
use Rattle.array_trees.specs.Trees.{array_blocks, tree}
use Rattle.never_heap.specs.declared.Command.TheVariants.{Arr}
use Rattle.never_heap.specs.RightWork.{units_owed}
use Rattle.control_heap.specs.Controls.{HasLeft, units}
use Rattle.heap_structures.specs.Heaps.{HasRoom}
use Rattle.heap_structures.specs.Trends.{HoldsTrend}
use Rattle.heap_structures.specs.declared.trend.Sample.{Sample}
use Rattle.historian_core.specs.declared.Historian.{Historian}
use Rattle.historian_core.specs.StoredReadings.{Fits, IsGiven, heap_config, heap_of}
use Rattle.historian_core.specs.ReportTexts.{life}

-- ---- the rate of this configuration is 5

five : (p : ℕ) → 1 ≤ p → KeepsUp heap_config p → 5 ≤ p
five zero some keeps = absurd (omega (arith, some))
five (suc zero) some keeps = absurd (omega (arith, keeps))
five (suc (suc zero)) some keeps = absurd (omega (arith, keeps))
five (suc (suc (suc zero))) some keeps = absurd (omega (arith, keeps))
five (suc (suc (suc (suc zero)))) some keeps = absurd (omega (arith, keeps))
five (suc (suc (suc (suc (suc p))))) some keeps = omega arith

five_is : IsRate heap_config 5
five_is = record { some = omega arith; enough = omega arith; least = five }

rate_is : (rate : ℕ) → IsRate heap_config rate → rate ≡ 5
rate_is rate is =
    omega (arith, is.least 5 five_is.some five_is.enough, five rate is.some is.enough)

-- ---- the trend is held

blocks_are : (array_blocks Eight 1 ≡ 1) × (array_blocks Eight 40 ≡ 6)
unfolding tree
blocks_are = (refl, refl)

pub holds : HoldsTrend heap_config 40
holds =
    let one : array_blocks Eight 1 ≡ 1 = blocks_are.0 in
    let six : array_blocks Eight 40 ≡ 6 = blocks_are.1 in
    let also : record_blocks Eight 40 ≡ 6 = refl in
    record {
      can = record {
        bounds = record {
          some_thread = omega arith;
          threads = omega arith;
          some_block = omega arith;
          blocks = omega arith;
          live = omega arith;
          some_object = omega arith;
          object = omega arith;
          shared = omega arith;
        };
        plan = record { opens = omega (arith, one); room = omega arith };
        single = refl;
      };
      some = omega arith;
      short = omega arith;
      object = omega (arith, six);
      live = omega (arith, one, six, also);
    }

-- ---- what is left of the life

module _ (h : Historian) (most : ℕ) (xs : List Sample) (has : IsGiven h most xs) where
  used : (rate : ℕ) → IsRate (heap_of h).config rate
      → (rate ≡ 5) × (units (heap_of h) ≡ 5 * (12 + length xs))
  used rate is =
      let here : IsRate heap_config rate = subst (λ c. IsRate c rate) has.lays.config is in
      let e = rate_is rate here in (
        e,
        has.lays.units rate here
            ∙ (λ i. e i * (2 * blocks_are.1 i + length xs)),
      )

  pub room : (n : ℕ) → Fits most xs n → HasRoom n (heap_of h)
  room n fits = record {
    commands = omega (arith, has.lays.commands, fits.0);
    objects = omega (arith, has.lays.objects, fits.1);
    units = λ rate is. (let by = used rate is in omega (arith, by.1, fits.1));
  }

  -- there is room for an object exactly where fewer than `life` samples were given
  pub left : most ≤ 2 + 207 * length xs → (length xs < life) ↔ HasLeft (heap_of h) (Arr 1 1)
  left few = (
    λ low. (
      omega (arith, has.lays.commands, few, low),
      (let more : (heap_of h).objects + 1 ≤ 2 ^ 43 - 1 =
          omega (arith, has.lays.objects, low) in more),
      λ rate is.
          let by = used rate is in
          let one : rate * array_blocks Eight 1 ≡ rate * 1 = ap (λ n. rate * n) blocks_are.0 in
          let more : units (heap_of h) + (rate * array_blocks Eight 1 + 0) ≤ 2 ^ 45 =
          omega (arith, low, by.0, by.1, one) in
          subst (λ (c : Config). units (heap_of h) + units_owed c.width rate (Arr 1 1) ≤ 2 ^ 45)
          (sym has.lays.config) more,
    ),
    λ left.
        let is = subst (λ c. IsRate c 5) (sym has.lays.config) five_is in
        let more : units (heap_of h) + (5 * array_blocks Eight 1 + 0) ≤ 2 ^ 45 =
        subst (λ (c : Config). units (heap_of h) + units_owed c.width 5 (Arr 1 1) ≤ 2 ^ 45)
        has.lays.config (left.2 5 is) in
        omega (arith, (used 5 is).1, more, blocks_are.0),
  )
