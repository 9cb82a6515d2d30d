-- Events that mark and sweep.
use Rattle.std.proofs.Common.{◌≡◌, ℕ, ◌+◌, ◌*◌, ◌≤◌, ◌<◌, Bool, true, false, ◌&&◌, ◌||◌, eqb, ltb, refl, arith, ap, sym, ◌∙◌, subst, inl, inr, eq-eqb, ne_eqb, lt-ltb}
use Rattle.std.proofs.lemmas.Bool.{cases_eq, cases_lt, cases_Bool, both_ways, le-leb, lt-leb, le-ltb, ltb-true, and_left, and_right, and_parts}
use Rattle.std.proofs.lemmas.Nat.{le-div, div-add-mod'}
use Rattle.std.proofs.lemmas.Bool.Decides.{nat_tests}
use Rattle.block_store.specs.declared.Config.{Config}
use Rattle.block_store.specs.Phases.{bit}
use Rattle.block_store.specs.Counts.{total}
use Rattle.work_account.specs.Accounts.{units_in}
use Rattle.block_store.proofs.Lemmas.{bit_le, bit_one, total_part}
use Rattle.heap_invariant.specs.cycle_tally.Tallies.{Spending, Tally, claims, made_of, due_of, with_made}
use Rattle.heap_invariant.specs.cycle_tally.Events.{Paint, Scan, Claim, Pass, apply, Guard}
use Rattle.heap_invariant.specs.cycle_tally.TallyInvariant.{SpendingKept, TallyKept}
use Rattle.heap_invariant.proofs.cycle_tally.Sums.{rises, made_more, made_cycle, made_units, made_given, made_told, made_sound, made_within, full_is_full, no_claims, claims_within, claims_below, claims_above}
use Rattle.heap_invariant.proofs.cycle_tally.OneThreadEvents.{goes, stays}

module _ (c : Config) (rate : ℕ) (black : ℕ → ℕ) (some : 0 < rate) (s : Tally)
    (k : TallyKept c rate black s) where
  pub repaint : (sweep : Bool) (a w b n : ℕ) → n ≤ bit (sweep || eqb a b)
      → (sweep ≡ false → a ≡ b → w ≡ b) → n ≤ bit (sweep || eqb w b)
  repaint true a w b n h f = h
  repaint false a w b n h f = elim (cases_eq a b) [
    | inl e ↦ rw (eq-eqb w b (f refl e)) (omega (arith, h, bit_le (eqb a b)))
    | inr ne ↦ (let z : bit (eqb a b) ≡ 0 = ap bit (ne_eqb a b ne) in omega (arith, h))
  ]

  pub paints : (x w : ℕ) → Guard c rate black s (Paint x w)
      → TallyKept c rate black (apply c rate black s (Paint x w))
  paints x w g = stays c rate black some s k (apply c rate black s (Paint x w)) (record {
    cursor = k.cursor;
    scans = λ y. elim (cases_eq x y) [
      | inl e ↦ rw (eq-eqb x y e) (repaint s.sweep (s.colour y) w (black s.cycle) (s.scanned y)
          (k.scans y) (λ mark is. g mark (ap s.colour e ∙ is)))
      | inr ne ↦ rw (ne_eqb x y ne) (k.scans y)
    ];
    passes = λ x pos. refl;
    free = omega arith;
  })

  -- a thread makes a unit
  pub spends : (t : ℕ) (w : Spending) → t < c.threads → (s.threads t).inside ≡ true
      → made_of (s.threads t) < due_of rate (s.threads t)
      → w ≡ record (with_made (s.threads t)) { low = w.low; high = w.high }
      → (w.low < w.high → (0 < w.low) × (made_of (s.threads t) + 1 + w.high
      ≤ due_of rate (s.threads t) + w.low)) → SpendingKept c rate s.cycle w
  spends t w tl inside less is cl =
      let w0 : Spending = s.threads t in
      let o = k.each t tl in
      let product : rate * (s.threads t).asked ≤ rate * c.object =
      Rattle.std.proofs.lemmas.Nat.mul-le rate (s.threads t).asked rate c.object
      (omega arith) o.asked in
      let cycle : (with_made (s.threads t)).balance.cycle ≡ (s.threads t).balance.cycle =
      made_cycle (s.threads t) in
      let one : made_of (with_made (s.threads t)) ≡ made_of (s.threads t) + 1 =
      made_more (s.threads t) in
      subst (SpendingKept c rate s.cycle) (sym is) (record {
        sound = made_sound rate c.object w0 o.requested less product o.sound;
        entered = omega (arith, o.entered);
        present = λ _. cycle ∙ o.present inside;
        asked = o.asked;
        requested = made_told w0 o.requested;
        within = made_within rate w0 o.requested less o.within;
        owed = omega arith;
        claimed = λ h. (let q = cl h in (q.0, inside, omega (arith, q.1)));
        reserved = λ h. absurd (let q = o.reserved h in full_is_full rate w0 o.requested h q.1 q.2 less);
      })

  pub scans_one : (t x : ℕ) → Guard c rate black s (Scan t x)
      → TallyKept c rate black (apply c rate black s (Scan t x))
  scans_one t x g =
      let w0 : Spending = s.threads t in
      let w : Spending = with_made w0 in
      let o = k.each t g.0 in
      let up = rises c.blocks s.scanned x g.3 g.4 in
      let uu : units_in s.cycle (with_made w0).balance ≡ units_in s.cycle w0.balance + 1 =
      made_units s.cycle w0 (o.present g.1) in
      let one : made_of (with_made w0) ≡ made_of w0 + 1 = made_more w0 in
      goes c rate black some s k t w (apply c rate black s (Scan t x)) g.0
      (spends t w g.0 g.1 g.6 refl (λ h. absurd (omega (arith, g.7))))
      (record {
        cursor = k.cursor;
        scans = λ y. elim (cases_eq x y) [
          | inl e ↦
              let new : bit (s.sweep || true) ≡ 1 =
              ap bit (Rattle.std.proofs.lemmas.Bool.or_right s.sweep true refl) in
              let old : bit (s.sweep || eqb (s.colour x) (black s.cycle)) ≡ 0 =
              ap bit (Rattle.std.proofs.lemmas.Bool.or_from s.sweep
              (eqb (s.colour x) (black s.cycle)) g.2
              (grind (arith, nat_tests, g.5))) in
              rw (eq-eqb x y e, eq-eqb (black s.cycle) (black s.cycle) refl)
              (omega (arith, k.scans x))
          | inr ne ↦ rw (ne_eqb x y ne) (k.scans y)
        ];
        passes = λ y yp. refl;
        made = omega arith;
        given = made_given s.cycle w0;
        free = omega arith;
        paid = omega arith;
      })

  pub claims_more : (t r : ℕ) → Guard c rate black s (Claim t r)
      → TallyKept c rate black (apply c rate black s (Claim t r))
  claims_more t r g =
      let w0 : Spending = s.threads t in
      let w : Spending = record w0 { low = s.cursor; high = s.cursor + r } in
      let o = k.each t g.0 in
      goes c rate black some s k t w (apply c rate black s (Claim t r)) g.0
      (record {
        sound = o.sound;
        entered = o.entered;
        present = o.present;
        asked = o.asked;
        requested = o.requested;
        within = o.within;
        owed = o.owed;
        reserved = o.reserved;
        claimed = λ h. (k.cursor.0, g.1, omega (arith, g.4));
      })
      (record {
        cursor = (omega (arith, k.cursor.0), omega (arith, g.3));
        scans = k.scans;
        passes = λ x pos.
            let before : claims x w0 ≡ 0 = no_claims x w0 g.5 in
            let old : bit (s.sweep && ltb x s.cursor) ≡ bit (ltb x s.cursor) =
            ap (λ b. bit (b && ltb x s.cursor)) g.2 in
            let new : bit (s.sweep && ltb x (s.cursor + r)) ≡ bit (ltb x (s.cursor + r)) =
            ap (λ b. bit (b && ltb x (s.cursor + r))) g.2 in
            elim (cases_lt x s.cursor) [
              | inl l ↦
                  let a : bit (ltb x s.cursor) ≡ 1 = ap bit (lt-ltb x s.cursor l) in
                  let b : bit (ltb x (s.cursor + r)) ≡ 1 =
                  ap bit (lt-ltb x (s.cursor + r) (omega arith)) in
                  let d : claims x w ≡ 0 = claims_below x w l in
                  omega (arith, k.passes x pos)
              | inr past ↦
                  let a : bit (ltb x s.cursor) ≡ 0 = ap bit (le-ltb x s.cursor past) in
                  elim (cases_lt x (s.cursor + r)) [
                    | inl l ↦
                        let b : bit (ltb x (s.cursor + r)) ≡ 1 =
                        ap bit (lt-ltb x (s.cursor + r) l) in
                        let d : claims x w ≡ 1 = claims_within x w past l in
                        omega (arith, k.passes x pos)
                    | inr h ↦
                        let b : bit (ltb x (s.cursor + r)) ≡ 0 =
                        ap bit (le-ltb x (s.cursor + r) h) in
                        let d : claims x w ≡ 0 = claims_above x w h in
                        omega (arith, k.passes x pos)
                  ]
            ];
        made = refl;
        given = refl;
        free = omega arith;
        paid = refl;
      })

  pub claims_step : (x : ℕ) (w v : Spending) → v.low ≡ w.low + 1 → v.high ≡ w.high → (w.low ≡ x → ⊥)
      → claims x v ≡ claims x w
  claims_step x w v l h ne = elim (cases_lt x w.low) [
    | inl b ↦ claims_below x v (omega arith) ∙ sym (claims_below x w b)
    | inr g ↦ elim (cases_lt x w.high) [
      | inl b ↦ claims_within x v (omega arith) (omega arith) ∙ sym (claims_within x w g b)
      | inr a ↦ claims_above x v (omega arith) ∙ sym (claims_above x w a)
    ]
  ]

  pub claim_low : (t : ℕ) → t < c.threads → 0 < (s.threads t).low
      → (s.threads t).low < (s.threads t).high → (s.threads t).low ≤ c.blocks
  claim_low t tl pos some_left =
      let x : ℕ = (s.threads t).low in
      let own : claims x (s.threads t) ≡ 1 = claims_within x (s.threads t)
      (omega arith) some_left in
      let part : claims x (s.threads t) ≤ total c.threads (λ u. claims x (s.threads u)) =
      total_part c.threads (λ u. claims x (s.threads u)) t tl in
      let there : (s.sweep && ltb x s.cursor) ≡ true =
      bit_one (s.sweep && ltb x s.cursor) (omega (arith, k.passes x pos)) in
      let below : x < s.cursor = ltb-true x s.cursor (and_parts s.sweep (ltb x s.cursor) there).1 in
      omega (arith, k.cursor.1)

  pub passes_one : (t : ℕ) → Guard c rate black s (Pass t)
      → TallyKept c rate black (apply c rate black s (Pass t))
  passes_one t g =
      let w0 : Spending = s.threads t in
      let w : Spending = record (with_made w0) { low = w0.low + 1 } in
      let o = k.each t g.0 in
      let cl = o.claimed g.1 in
      let low : w0.low ≤ c.blocks = claim_low t g.0 cl.0 g.1 in
      let up = rises c.blocks s.passed w0.low cl.0 low in
      let uu : units_in s.cycle (with_made w0).balance ≡ units_in s.cycle w0.balance + 1 =
      made_units s.cycle w0 (o.present cl.1) in
      let one : made_of (with_made w0) ≡ made_of w0 + 1 = made_more w0 in
      goes c rate black some s k t w (apply c rate black s (Pass t)) g.0
      (spends t w g.0 cl.1 (omega (arith, cl.2)) refl
      (λ h. (omega arith, omega (arith, cl.2))))
      (record {
        cursor = k.cursor;
        scans = k.scans;
        passes = λ x pos.
            elim (cases_eq w0.low x) [
              | inl e ↦
                  let a : claims x w0 ≡ 1 = claims_within x w0 (omega arith) (omega (arith, g.1)) in
                  let b : claims x w ≡ 0 = claims_below x w (omega arith) in
                  let same : s.passed w0.low ≡ s.passed x = ap s.passed e in
                  rw (eq-eqb w0.low x e) (omega (arith, k.passes x pos))
              | inr ne ↦
                  let a : claims x w ≡ claims x w0 = claims_step x w0 w refl refl ne in
                  rw (ne_eqb w0.low x ne) (omega (arith, k.passes x pos))
            ];
        made = omega arith;
        given = made_given s.cycle w0;
        free = omega arith;
        paid = omega arith;
      })
