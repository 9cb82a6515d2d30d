-- What keeps the rule of the sweep, by the kind of write; and what it says of a block.
use Rattle.std.proofs.Common.{◌≡◌, ◌≢◌, ℕ, ◌+◌, ◌-◌, ◌≤◌, ◌<◌, ◌⊎◌, ⊎_elim, inl, inr, Bool, true, false, cond, eqb, leb, ltb, refl, arith, subst, sym, ap, ◌∙◌, eq-eqb, ne_eqb, leb-true, ltb-true, le-ltb}
use Rattle.std.proofs.lemmas.Bool.{cases_eq, cases_lt, cases_Bool, and_from, and_parts, le-leb, lt-ltb}
use Rattle.block_store.specs.Colours.{white_word}
use Rattle.block_store.specs.Heaps.{Heap, put_at}
use Rattle.block_store.specs.Phases.{bit, is_sweep, cycle_of}
use Rattle.block_store.specs.Places.{Extent, Place, Phase, Cursor, FreeCount, GreyList, FreeList, ColourOf, OwnerOf, ShapeOf, PayloadOf}
use Rattle.block_store.specs.Counts.{changed}
use Rattle.heap_machine.specs.Operations.{Operation, Load, Exchange, CompareExchange, FetchAdd, FetchSub, place_of, heap_after}
use Rattle.heap_machine.specs.Sweeping.{SweepInHand, no_claim, rest_of, has_claimed, claims, IsRange, SweepOf, SweepKept, is_of_sweep}
use Rattle.block_store.proofs.Lemmas.{bit_le, changed_both, total_changed, total_none, total_parts}

-- a block in the range, below it, and after it
pub claimed_in : (w : SweepInHand) (x : ℕ) → w.low ≤ x → x < w.high → has_claimed w x ≡ true
claimed_in w x low high = and_from _ _ (le-leb w.low x low) (lt-ltb x w.high high)

claimed_parts : (w : SweepInHand) (x : ℕ) → has_claimed w x ≡ true → (w.low ≤ x) × (x < w.high)
claimed_parts w x is =
    let p = and_parts (leb w.low x) (ltb x w.high) is in
    (leb-true w.low x p.0, ltb-true x w.high p.1)

pub not_claimed : (w : SweepInHand) (x : ℕ) → (w.low ≤ x → x < w.high → ⊥)
    → has_claimed w x ≡ false
not_claimed w x none = elim (cases_Bool (has_claimed w x)) [
  | inl is ↦ absurd (let p = claimed_parts w x is in none p.0 p.1)
  | inr is ↦ is
]

-- of a range below the cursor
range_end : (cursor : ℕ) (w : SweepInHand) → IsRange cursor w → w.high ≤ cursor
range_end cursor w r = ⊎_elim (λ n. (let z = n.1 in omega arith)) (λ s. s.2) r

range_more : (cursor next : ℕ) (w : SweepInHand) → cursor ≤ next → IsRange cursor w
    → IsRange next w
range_more cursor next w le r =
    ⊎_elim (λ n. inl n) (λ s. (let z = s.2 in inr (s.0, s.1, omega arith))) r

-- what is left of a range when its first block was passed
rest_case : (P : SweepInHand → Type 0) (w : SweepInHand)
    → (w.low + 1 < w.high → P (record { low = w.low + 1; high = w.high; doomed = 0 }))
    → (w.high ≤ w.low + 1 → P no_claim) → P (rest_of w)
rest_case P w more last = elim (cases_lt (w.low + 1) w.high) [
  | inl is ↦ rw (lt-ltb (w.low + 1) w.high is) (more is)
  | inr is ↦ rw (le-ltb (w.low + 1) w.high is) (last is)
]

rest_range : (cursor : ℕ) (w : SweepInHand) → w.low < w.high → IsRange cursor w
    → IsRange cursor (rest_of w)
rest_range cursor w some r = rest_case (IsRange cursor) w
    (λ more. (let z = range_end cursor w r in inr (omega arith, more, z)))
    (λ last. inl (refl, refl))

rest_free : (w : SweepInHand) → (rest_of w).doomed ≡ 0
rest_free w = rest_case (λ (v : SweepInHand). v.doomed ≡ 0) w (λ _. refl) (λ _. refl)

-- one block less is claimed
one_less : (w v : SweepInHand) → w.low < w.high
    → ((x : ℕ) → (w.low < x) × (x < w.high) → (v.low ≤ x) × (x < v.high))
    → ((x : ℕ) → v.low ≤ x → x < v.high → (w.low < x) × (x < w.high))
    → (x : ℕ) → bit (has_claimed w x) ≡ bit (has_claimed v x) + bit (eqb w.low x)
one_less w v some there back x = elim (cases_eq w.low x) [
  | inl e ↦
      let a : has_claimed w x ≡ true = claimed_in w x (omega arith) (omega arith) in
      let b : has_claimed v x ≡ false =
      not_claimed v x (λ p q. (let z = (back x p q).0 in omega arith)) in
      rw (a, b, eq-eqb w.low x e) (omega arith)
  | inr ne ↦ elim (cases_Bool (has_claimed w x)) [
    | inl has ↦
        let p = claimed_parts w x has in
        let q = there x (let z = p.0 in omega arith, p.1) in
        rw (has, claimed_in v x q.0 q.1, ne_eqb w.low x ne) (omega arith)
    | inr has_not ↦
        let b : has_claimed v x ≡ false =
        not_claimed v x (λ p q. (let z = back x p q in
        absurd (let a : false ≡ true = sym has_not
        ∙ claimed_in w x (let y = z.0 in omega arith) z.1 in cc))) in
        rw (has_not, b, ne_eqb w.low x ne) (omega arith)
  ]
]

rest_same : (w : SweepInHand) → w.low < w.high → (x : ℕ)
    → bit (has_claimed w x) ≡ bit (has_claimed (rest_of w) x) + bit (eqb w.low x)
rest_same w some = rest_case
    (λ (v : SweepInHand). (x : ℕ)
    → bit (has_claimed w x) ≡ bit (has_claimed v x) + bit (eqb w.low x)) w
    (λ more. one_less w (record { low = w.low + 1; high = w.high; doomed = 0 }) some
    (λ x p. (let z = p.0 in omega arith, p.1)) (λ x p q. (omega arith, q)))
    (λ last. one_less w no_claim some
    (λ x p. (let z = p.0 in let y = p.1 in absurd (omega arith)))
    (λ x p q. absurd (omega arith)))

module _ (ex : Extent) (sweep : Bool) (white cursor : ℕ) (colour : ℕ → ℕ) (cs : ℕ → SweepInHand)
    (k : SweepOf ex sweep white cursor colour cs) where
  -- nobody has claimed a block from the cursor on
  fresh : (x : ℕ) → cursor ≤ x → claims ex.threads cs x ≡ 0
  fresh x le = total_none ex.threads (λ t. bit (has_claimed (cs t) x)) (λ u ul.
      (let r = range_end cursor (cs u) (k.ranges u ul) in
      ap bit (not_claimed (cs u) x (λ a b. omega arith))))

  module _ (t : ℕ) (low : t < ex.threads) where
    recount : (w : SweepInHand) (x : ℕ)
        → claims ex.threads (changed cs t w) x + bit (has_claimed (cs t) x)
        ≡ claims ex.threads cs x + bit (has_claimed w x)
    recount w x = total_changed (λ (v : SweepInHand). bit (has_claimed v x)) ex.threads cs t w low

    -- a range from the cursor on is claimed by a thread that has none
    claim_goes : (high : ℕ) → cursor < high → high ≤ ex.blocks + 1 → cs t ≡ no_claim
        → SweepOf ex sweep white high colour
        (changed cs t (record { low = cursor; high = high; doomed = 0 }))
    claim_goes high some last none =
        let w : SweepInHand = record { low = cursor; high = high; doomed = 0 } in
        let old : (x : ℕ) → bit (has_claimed (cs t) x) ≡ 0 =
        λ x. ap (λ (v : SweepInHand). bit (has_claimed v x)) none
        ∙ ap bit (not_claimed no_claim x (λ a b. omega arith)) in
        let inside = k.cursor_in in
        record {
          cursor_in = (omega (arith, inside.0), last);
          ranges = λ u ul. changed_both (λ _ (v : SweepInHand). IsRange high v) cs t w u
              (λ _. inr (inside.0, omega arith, omega arith))
              (λ _. range_more cursor high (cs u) (omega arith) (k.ranges u ul));
          once = λ x. elim (cases_lt x cursor) [
            | inl below ↦
                let z : bit (has_claimed w x) ≡ 0 = ap bit (not_claimed w x (λ a b. omega arith)) in
                omega (arith, recount w x, k.once x)
            | inr above ↦ omega (arith, recount w x, fresh x above, bit_le (has_claimed w x))
          ];
          passed = λ is x pos end none. elim (cases_lt x cursor) [
            | inl below ↦
                let z : bit (has_claimed w x) ≡ 0 = ap bit (not_claimed w x (λ a b. omega arith)) in
                k.passed is x pos below (omega (arith, recount w x, old x))
            | inr above ↦
                let z : bit (has_claimed w x) ≡ 1 = ap bit (claimed_in w x above end) in
                absurd (omega (arith, recount w x, old x))
          ];
          doomed = λ u ul. changed_both
              (λ _ (v : SweepInHand). v.doomed ≢ 0
              → (sweep ≡ true) × (has_claimed v v.doomed ≡ true)
              × (colour v.doomed ≡ white)) cs t w u
              (λ _ ne. absurd (ne refl)) (λ _. k.doomed u ul);
        }

    -- what it has claimed stays, and it is about to free one of these blocks, or none
    claim_stays : (low high doomed : ℕ) → (cs t).low ≡ low → (cs t).high ≡ high
        → (doomed ≢ 0 → (sweep ≡ true) × (low ≤ doomed) × (doomed < high) × (colour doomed ≡ white))
        → SweepOf ex sweep white cursor colour
        (changed cs t (record { low = low; high = high; doomed = doomed }))
    claim_stays l u d is_low is_high about =
        let w : SweepInHand = record { low = l; high = u; doomed = d } in
        let same : (x : ℕ) → bit (has_claimed (cs t) x) ≡ bit (has_claimed w x) =
        λ x. rw (is_low, is_high) refl in
        record {
          cursor_in = k.cursor_in;
          ranges = λ v vl. changed_both (λ _ (z : SweepInHand). IsRange cursor z) cs t w v
              (λ _. (let r = k.ranges t low in
              subst (λ a. (a ≡ 0) × (u ≡ 0) ⊎ (1 ≤ a) × (a < u) × (u ≤ cursor)) is_low
              (subst (λ b. ((cs t).low ≡ 0) × (b ≡ 0) ⊎ (1 ≤ (cs t).low) × ((cs t).low < b)
              × (b ≤ cursor)) is_high r)))
              (λ _. k.ranges v vl);
          once = λ x. omega (arith, recount w x, k.once x, same x);
          passed = λ is x pos end none. k.passed is x pos end (omega (arith, recount w x, same x));
          doomed = λ v vl. changed_both
              (λ _ (z : SweepInHand). z.doomed ≢ 0
              → (sweep ≡ true) × (has_claimed z z.doomed ≡ true)
              × (colour z.doomed ≡ white)) cs t w v
              (λ _ ne. (let a = about ne in (a.0, claimed_in w d a.1 a.2, a.3)))
              (λ _. k.doomed v vl);
        }

    -- its first block is passed: it is not white in the new colours, which else are the old ones
    pass_goes : (new : ℕ → ℕ) (w : SweepInHand) → (cs t).low < (cs t).high
        → IsRange cursor w → w.doomed ≡ 0
        → ((x : ℕ) → bit (has_claimed (cs t) x) ≡ bit (has_claimed w x) + bit (eqb (cs t).low x))
        → new (cs t).low ≢ white → ((x : ℕ) → ((cs t).low ≡ x → ⊥) → new x ≡ colour x)
        → SweepOf ex sweep white cursor new (changed cs t w)
    pass_goes new w some range none same dark still = record {
      cursor_in = k.cursor_in;
      ranges = λ u ul. changed_both (λ _ (v : SweepInHand). IsRange cursor v) cs t w u
          (λ _. range) (λ _. k.ranges u ul);
      once = λ x. omega (arith, recount w x, k.once x, same x);
      passed = λ is x pos end no_one. elim (cases_eq (cs t).low x) [
        | inl e ↦ subst (λ z. new z ≢ white) e dark
        | inr ne ↦
            let z : bit (eqb (cs t).low x) ≡ 0 = ap bit (ne_eqb (cs t).low x ne) in
            subst (λ c. c ≢ white) (sym (still x ne))
            (k.passed is x pos end (omega (arith, recount w x, same x)))
      ];
      doomed = λ u ul. changed_both
          (λ v (z : SweepInHand). v < ex.threads → z.doomed ≢ 0
          → (sweep ≡ true) × (has_claimed z z.doomed ≡ true) × (new z.doomed ≡ white)) cs t w u
          (λ _ _ ne. absurd (ne none))
          (λ away _ ne. (let d = k.doomed u ul ne in (
            d.0,
            d.1,
            still (cs u).doomed (λ e.
                absurd (let a : bit (has_claimed (cs t) (cs u).doomed)
                ≡ 1 = ap bit (claimed_in (cs t) (cs u).doomed
                (let q : (cs t).low ≡ (cs u).doomed = e in omega arith)
                (let q : (cs t).low ≡ (cs u).doomed = e in omega arith)) in
                let b : bit (has_claimed (cs u) (cs u).doomed) ≡ 1 = ap bit d.1 in
                let p = total_parts ex.threads
                (λ v. bit (has_claimed (cs v) (cs u).doomed)) t u low ul away in
                omega (arith, k.once (cs u).doomed))) ∙ d.2,
          ))) ul;
    }

-- where nothing is claimed, the phase, the cycle, the cursor and the colours may be any, as long as
-- what is passed is not white
pub sweep_of : (ex : Extent) (sweep : Bool) (white cursor : ℕ) (colour : ℕ → ℕ)
    (cs : ℕ → SweepInHand)
    → (1 ≤ cursor) × (cursor ≤ ex.blocks + 1)
    → ((t : ℕ) → t < ex.threads → cs t ≡ no_claim)
    → (sweep ≡ true → (x : ℕ) → 1 ≤ x → x < cursor → colour x ≢ white)
    → SweepOf ex sweep white cursor colour cs
sweep_of ex sweep white cursor colour cs inside none dark = record {
  cursor_in = inside;
  ranges = λ t low. subst (IsRange cursor) (sym (none t low)) (inl (refl, refl));
  once = λ x. (let z = total_none ex.threads (λ t. bit (has_claimed (cs t) x)) (λ u ul.
      ap (λ (v : SweepInHand). bit (has_claimed v x)) (none u ul)
      ∙ ap bit (not_claimed no_claim x (λ a b. omega arith))) in omega arith);
  passed = λ is x pos end _. dark is x pos end;
  doomed = λ t low ne. absurd (ne (ap (λ (v : SweepInHand). v.doomed) (none t low)));
}

-- a block that is not about to be freed gets a colour that is not white
pub sweep_colour : (ex : Extent) (h : Heap) (cs : ℕ → SweepInHand) (x v : ℕ)
    → (is_sweep (h Phase) ≡ true
    → (v ≢ white_word (cycle_of (h Phase)))
    × (h (ColourOf x) ≢ white_word (cycle_of (h Phase))))
    → SweepKept ex h cs → SweepKept ex (put_at h (ColourOf x) v) cs
sweep_colour ex h cs x v dark k = record {
  cursor_in = k.cursor_in;
  ranges = k.ranges;
  once = k.once;
  passed = λ is y pos end none. elim (cases_eq x y) [
    | inl e ↦ rw (eq-eqb x y e) (dark is).0
    | inr ne ↦ rw (ne_eqb x y ne) (k.passed is y pos end none)
  ];
  doomed = λ t low ne.
      let d = k.doomed t low ne in
      let away : x ≡ (cs t).doomed → ⊥ = λ e. (dark d.0).1 (ap (λ y. h (ColourOf y)) e ∙ d.2) in
      (d.0, d.1, rw (ne_eqb x (cs t).doomed away) d.2);
}

-- a write of any other place
other_write : (ex : Extent) (h : Heap) (cs : ℕ → SweepInHand) (p : Place) (v : ℕ)
    → is_of_sweep p ≡ false
    → SweepKept ex h cs → SweepKept ex (put_at h p v) cs
other_write ex h cs Phase v o k = absurd (let z : true ≡ false = o in cc)
other_write ex h cs Cursor v o k = absurd (let z : true ≡ false = o in cc)
other_write ex h cs FreeCount v o k = k
other_write ex h cs (GreyList t) v o k = k
other_write ex h cs (FreeList t) v o k = k
other_write ex h cs (ColourOf x) v o k = absurd (let z : true ≡ false = o in cc)
other_write ex h cs (OwnerOf x) v o k = k
other_write ex h cs (ShapeOf x) v o k = k
other_write ex h cs (PayloadOf x j) v o k = k

pub sweep_other : (ex : Extent) (h : Heap) (cs : ℕ → SweepInHand) (o : Operation)
    → is_of_sweep (place_of o) ≡ false
    → SweepKept ex h cs → SweepKept ex (heap_after h o) cs
sweep_other ex h cs (Load p) away k = k
sweep_other ex h cs (Exchange p v) away k = other_write ex h cs p v away k
sweep_other ex h cs (CompareExchange p old v) away k = elim (cases_Bool (eqb (h p) old)) [
  | inl is ↦ rw is (other_write ex h cs p v away k)
  | inr is ↦ rw is k
]
sweep_other ex h cs (FetchAdd p v) away k = other_write ex h cs p (h p + v) away k
sweep_other ex h cs (FetchSub p v) away k = other_write ex h cs p (h p - v) away k

-- the phase word changes, and neither the phase nor the cycle
pub sweep_phase : (ex : Extent) (h : Heap) (cs : ℕ → SweepInHand) (v : ℕ)
    → cycle_of v ≡ cycle_of (h Phase) → is_sweep v ≡ is_sweep (h Phase)
    → SweepKept ex h cs → SweepKept ex (put_at h Phase v) cs
sweep_phase ex h cs v cycle phase k =
    subst (λ s. SweepOf ex s (white_word (cycle_of v)) (h Cursor) (λ x. h (ColourOf x)) cs)
    (sym phase)
    (subst (λ c. SweepOf ex (is_sweep (h Phase)) (white_word c) (h Cursor)
    (λ x. h (ColourOf x)) cs) (sym cycle) k)

-- nobody has claimed anything: the phase word becomes any, in Sweep where the cursor is at the
-- first block
pub sweep_turns : (ex : Extent) (h : Heap) (cs : ℕ → SweepInHand) (v : ℕ)
    → ((t : ℕ) → t < ex.threads → cs t ≡ no_claim) → (is_sweep v ≡ true → h Cursor ≡ 1)
    → SweepKept ex h cs → SweepKept ex (put_at h Phase v) cs
sweep_turns ex h cs v none first k =
    sweep_of ex (is_sweep v) (white_word (cycle_of v)) (h Cursor)
    (λ x. h (ColourOf x)) cs k.cursor_in none
    (λ is x pos end. absurd (let c = first is in omega arith))

-- in Mark, where nobody has claimed anything
pub sweep_begins : (ex : Extent) (h : Heap) (cs : ℕ → SweepInHand)
    → ((t : ℕ) → t < ex.threads → cs t ≡ no_claim) → is_sweep (h Phase) ≡ false
    → (1 ≤ h Cursor) × (h Cursor ≤ ex.blocks + 1) → SweepKept ex h cs
sweep_begins ex h cs none mark inside =
    sweep_of ex (is_sweep (h Phase)) (white_word (cycle_of (h Phase))) (h Cursor)
    (λ x. h (ColourOf x)) cs
    inside none (λ is. absurd (let q : true ≡ false = sym is ∙ mark in cc))

-- and in Mark the cursor becomes any
pub sweep_cursor : (ex : Extent) (h : Heap) (cs : ℕ → SweepInHand) (v : ℕ)
    → ((t : ℕ) → t < ex.threads → cs t ≡ no_claim) → is_sweep (h Phase) ≡ false
    → (1 ≤ v) × (v ≤ ex.blocks + 1)
    → SweepKept ex (put_at h Cursor v) cs
sweep_cursor ex h cs v none mark inside =
    sweep_of ex (is_sweep (h Phase)) (white_word (cycle_of (h Phase))) v
    (λ x. h (ColourOf x)) cs inside none
    (λ is. absurd (let q : true ≡ false = sym is ∙ mark in cc))

module _ (ex : Extent) (h : Heap) (cs : ℕ → SweepInHand) (k : SweepKept ex h cs) (t : ℕ)
    (low : t < ex.threads) (old : SweepInHand) (is : cs t ≡ old) where
  abbrev sweeps : Bool
  sweeps = is_sweep (h Phase)

  abbrev white : ℕ
  white = white_word (cycle_of (h Phase))

  abbrev colours : ℕ → ℕ
  colours x = h (ColourOf x)

  low_is : (cs t).low ≡ old.low
  low_is = ap (λ (w : SweepInHand). w.low) is

  high_is : (cs t).high ≡ old.high
  high_is = ap (λ (w : SweepInHand). w.high) is

  passes_by : (new : ℕ → ℕ) → old.low < old.high → new old.low ≢ white
      → ((x : ℕ) → (old.low ≡ x → ⊥) → new x ≡ h (ColourOf x))
      → SweepOf ex sweeps white (h Cursor) new (changed cs t (rest_of old))
  passes_by new some dark still =
      pass_goes ex sweeps white (h Cursor) colours cs k t low new (rest_of old)
      (omega (arith, low_is, high_is))
      (rest_range (h Cursor) old some (subst (IsRange (h Cursor)) is (k.ranges t low)))
      (rest_free old)
      (λ x. subst (λ (w : SweepInHand). bit (has_claimed w x)
      ≡ bit (has_claimed (rest_of old) x) + bit (eqb w.low x)) (sym is)
      (rest_same old some x))
      (subst (λ z. new z ≢ white) (sym low_is) dark)
      (λ x ne. still x (λ e. ne (low_is ∙ e)))

  pub sweep_stays : SweepKept ex h (changed cs t old)
  sweep_stays = claim_stays ex sweeps white
      (h Cursor) colours cs k t low old.low old.high old.doomed low_is high_is
      (λ ne.
      let d = k.doomed t low (λ z. ne (sym (ap (λ (w : SweepInHand). w.doomed) is) ∙ z)) in
      let e : (has_claimed old old.doomed ≡ true) × (h (ColourOf old.doomed) ≡ white) =
      subst (λ (w : SweepInHand). (has_claimed w w.doomed ≡ true)
      × (h (ColourOf w.doomed) ≡ white)) is (d.1, d.2) in
      let p = claimed_parts old old.doomed e.0 in
      (d.0, p.0, p.1, e.1))

  -- a range from the cursor on is claimed
  pub sweep_claims : (high : ℕ) → h Cursor < high → high ≤ ex.blocks + 1 → old ≡ no_claim
      → SweepKept ex (put_at h Cursor high)
      (changed cs t (record { low = h Cursor; high = high; doomed = 0 }))
  sweep_claims high some last none =
      claim_goes ex sweeps white (h Cursor) colours cs k t low high some last (is ∙ none)

  -- a claimed block was read white, and is about to be freed
  pub sweep_dooms : (x : ℕ) → sweeps ≡ true → old.low ≤ x → x < old.high → h (ColourOf x) ≡ white
      → SweepKept ex h (changed cs t (record old { doomed = x }))
  sweep_dooms x sweeping from below is_white =
      claim_stays ex sweeps white (h Cursor) colours cs k t low old.low old.high x low_is high_is
      (λ _. (sweeping, from, below, is_white))

  -- the first block of the range is passed, since it is not white
  pub sweep_passes : old.low < old.high → h (ColourOf old.low) ≢ white
      → SweepKept ex h (changed cs t (rest_of old))
  sweep_passes some dark = passes_by (λ x. h (ColourOf x)) some dark (λ x ne. refl)

  -- and as it gets another colour
  pub sweep_frees : (v : ℕ) → old.low < old.high → v ≢ white
      → SweepKept ex (put_at h (ColourOf old.low) v) (changed cs t (rest_of old))
  sweep_frees v some dark = passes_by (λ x. cond (eqb old.low x) v (h (ColourOf x))) some
      (rw (eq-eqb old.low old.low refl) dark) (λ x ne. rw (ne_eqb old.low x ne) refl)

-- what the rule says of a block
module _ (ex : Extent) (h : Heap) (cs : ℕ → SweepInHand) (k : SweepKept ex h cs) where
  pub one_claim : (t u x : ℕ) → t < ex.threads → u < ex.threads → has_claimed (cs t) x ≡ true
      → has_claimed (cs u) x ≡ true → t ≡ u
  one_claim t u x low ulow a b = elim (cases_eq t u) [
    | inl e ↦ e
    | inr ne ↦ absurd (
        let p = total_parts ex.threads (λ v. bit (has_claimed (cs v) x)) t u low ulow ne in
        let i : bit (has_claimed (cs t) x) ≡ 1 = ap bit a in
        let j : bit (has_claimed (cs u) x) ≡ 1 = ap bit b in
        omega (arith, k.once x))
  ]

  pub claim_below : (t x : ℕ) → t < ex.threads → has_claimed (cs t) x ≡ true
      → (1 ≤ x) × (x < h Cursor)
  claim_below t x low is =
      let p = claimed_parts (cs t) x is in
      let a = p.0 in
      let b = p.1 in
      ⊎_elim (λ n. absurd (let z = n.1 in omega arith))
      (λ s. (let i = s.0 in let j = s.2 in (omega arith, omega arith))) (k.ranges t low)

  pub sweep_over : is_sweep (h Phase) ≡ true → h Cursor ≡ ex.blocks + 1
      → ((t : ℕ) → t < ex.threads → cs t ≡ no_claim)
      → (x : ℕ) → 1 ≤ x → x ≤ ex.blocks → h (ColourOf x) ≢ white_word (cycle_of (h Phase))
  sweep_over is end none x some high = k.passed is x some (omega arith)
      (total_none ex.threads (λ t. bit (has_claimed (cs t) x)) (λ u ul.
      ap (λ (v : SweepInHand). bit (has_claimed v x)) (none u ul)
      ∙ ap bit (not_claimed no_claim x (λ a b. omega arith))))
