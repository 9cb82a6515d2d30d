-- Which numbers of blocks have a rate.
use Rattle.std.proofs.Common.{ℕ, ◌+◌, ◌≡◌, ◌<◌, ◌≤◌, ◌↔◌, inl, inr, Bool, true, false, arith, subst}
use Rattle.std.proofs.lemmas.Bool.{both_ways, cases_lt}
use Rattle.block_store.specs.declared.Config.{Config}
use Rattle.block_store.specs.Configs.{IsInBounds}
use Rattle.rate_plan.specs.Rates.{IsAdmitted, IsRate}
use Rattle.rate_plan.specs.Rates.{IsRefusal}
use Rattle.rate_plan.specs.declared.PlanFault.{PlanFault}
use Rattle.rate_plan.specs.declared.PlanFault.TheVariants.{NoRate, LiveTooSmall}
use Rattle.rt_check.specs.rt_limit.Blocks.{with_limits, HasRate, IsLeastBlocks, IsToldBefore}

-- none of the numbers below has one
abbrev pub NoneBelow : Config → ℕ → ℕ → ℕ → Type 0
NoneBelow c live rate blocks = (k : ℕ) → k < blocks → HasRate c live rate k → ⊥

module _ (c : Config) (live rate : ℕ) where
  pub none_first : NoneBelow c live rate 1
  none_first k low has = let some = has.in_bounds.some_block in omega arith

  pub none_last : (blocks : ℕ) → 65536 ≤ blocks → NoneBelow c live rate blocks → (k : ℕ)
      → HasRate c live rate k → ⊥
  none_last blocks all none k has = none k (let few = has.in_bounds.blocks in omega arith) has

  pub in_bounds : (blocks : ℕ) → IsInBounds c → 1 ≤ blocks → blocks ≤ 65535 → live ≤ 65535
      → IsInBounds (with_limits c blocks live)
  in_bounds blocks b some few low = record {
    some_thread = b.some_thread;
    threads = b.threads;
    some_block = some;
    blocks = few;
    live = low;
    some_object = b.some_object;
    object = b.object;
    shared = b.shared;
  }

  pub none_above : 65535 < live → (k : ℕ) → HasRate c live rate k → ⊥
  none_above high k has = let few = has.in_bounds.live in omega arith

  pub none_more : (blocks : ℕ) (found : Bool)
      → (found ≡ true ↔ (IsAdmitted (with_limits c blocks live)
      × ((p : ℕ) × IsRate (with_limits c blocks live) p × (p ≤ rate))))
      → found ≡ false → NoneBelow c live rate blocks → NoneBelow c live rate (blocks + 1)
  none_more blocks found tells not_here none k low has = elim (cases_lt k blocks) [
    | inl below ↦ none k below has
    | inr above ↦
        let here : k ≡ blocks = omega arith in
        let has_here : HasRate c live rate blocks = subst (HasRate c live rate) here has in
        both_ways found not_here (tells.1
        (has_here.admitted, (has_here.rate, has_here.is_rate, has_here.low)))
  ]

  pub found_here : (blocks : ℕ) → IsInBounds (with_limits c blocks live) → (found : Bool)
      → (found ≡ true ↔ (IsAdmitted (with_limits c blocks live)
      × ((p : ℕ) × IsRate (with_limits c blocks live) p × (p ≤ rate))))
      → found ≡ true → NoneBelow c live rate blocks → IsLeastBlocks c live rate blocks
  found_here blocks bounds found tells here none =
      let told = tells.0 here in
      record {
        enough = record {
          in_bounds = bounds;
          admitted = told.0;
          rate = told.1.0;
          is_rate = told.1.1;
          low = told.1.2;
        };
        least = λ k has. elim (cases_lt k blocks) [
          | inl below ↦ absurd (none k below has)
          | inr above ↦ above
        ];
      }

  -- ---- the least heap

  one_least : (a b : ℕ) → IsLeastBlocks c live rate a → IsLeastBlocks c live rate b → a ≡ b
  one_least a b x y =
      let low = x.least b y.enough in
      let high = y.least a x.enough in
      omega arith

  pub none_is_least : (before : ℕ) → ((m : ℕ) → HasRate c live rate m → ⊥)
      → IsToldBefore c live before rate
  none_is_least before none m is = absurd (none m is.enough)

  pub told_before : (before blocks own : ℕ) → IsLeastBlocks c live rate blocks
      → IsAdmitted (with_limits c blocks live) → IsRate (with_limits c blocks live) own
      → own ≤ before → IsToldBefore c live before rate
  told_before before blocks own least admitted is low m other =
      subst (HasRate c live before) (one_least blocks m least other) (record {
        in_bounds = least.enough.in_bounds;
        admitted = admitted;
        rate = own;
        is_rate = is;
        low = low;
      })

  pub not_refused : (blocks : ℕ) → IsLeastBlocks c live rate blocks → (f : PlanFault)
      → IsRefusal (with_limits c blocks live) f → ⊥
  not_refused blocks least LiveTooSmall r =
      let opens = least.enough.admitted.opens in omega arith
  not_refused blocks least NoRate r =
      let room = least.enough.admitted.room in
      let less = r.1 in
      omega arith
