-- Tests of guards: an event may come where its test says so.
use Rattle.std.proofs.Common.{◌≡◌, ◌≢◌, ℕ, zero, suc, ◌+◌, ◌-◌, ◌*◌, ◌≤◌, ◌<◌, max, not, Bool, true, false, ◌&&◌, ◌||◌, eqb, ltb, leb, arith, List, [], ◌∷◌, eq-eqb, inl, inr, ◌⊎◌}
use Rattle.std.proofs.lemmas.Bool.{both_ways, ltb-true, leb-true, eqb-true, and_parts, or_cases, cases_eq, not-true}
use Rattle.block_store.specs.declared.Config.{Config}
use Rattle.block_store.specs.Configs.{IsInBounds}
use Rattle.never_heap.specs.declared.Entry.{Entry}
use Rattle.never_heap.specs.declared.Reply.{Reply}
use Rattle.never_heap.specs.declared.Reply.TheVariants.{Full}
use Rattle.never_heap.specs.declared.TheConstants.{MOST_UNITS}
use Rattle.never_heap.specs.Cycles.{graph_at}
use Rattle.never_heap.specs.GivenBlocks.{given}
use Rattle.never_heap.specs.Histories.{HistoryItem, is_full}
use Rattle.never_heap.specs.LiveBlocks.{live_blocks}
use Rattle.never_heap.specs.RightWork.{requested_units}
use Rattle.never_heap.specs.Steps.{blocks_of}
use Rattle.never_heap.specs.Taken.{taken_by}
use Rattle.heap_invariant.specs.cycle_tally.Tallies.{Spending, Tally, made_of, due_of}
use Rattle.heap_invariant.specs.cycle_tally.Events.{Event, Enter, Leave, SetCursor, Flip, Start, Paint, Scan, Claim, Pass, Clear, Credit, Reserve, Publish, Refuse, Answer, Next, apply, IsAllPaid, Decides, Guard, Guarded}

-- two tests
both : {P Q : Type 0} (a b : Bool) → (a ≡ true → P) → (b ≡ true → Q) → (a && b) ≡ true → P × Q
both a b p q h = let parts = and_parts a b h in (p parts.0, q parts.1)

-- a product of products is one product
flat3 : {A B C : Type 0} → A × (B × C) → A × B × C
flat3 p = (p.0, p.1.0, p.1.1)

flat4 : {A B C D : Type 0} → A × (B × (C × D)) → A × B × C × D
flat4 p = (p.0, p.1.0, p.1.1.0, p.1.1.1)

flat5 : {A B C D E : Type 0} → A × (B × (C × (D × E))) → A × B × C × D × E
flat5 p = (p.0, p.1.0, p.1.1.0, p.1.1.1.0, p.1.1.1.1)

flat6 : {A B C D E F : Type 0} → A × (B × (C × (D × (E × F)))) → A × B × C × D × E × F
flat6 p = (p.0, p.1.0, p.1.1.0, p.1.1.1.0, p.1.1.1.1.0, p.1.1.1.1.1)

flat7 : {A B C D E F G : Type 0} → A × (B × (C × (D × (E × (F × G))))) → A × B × C × D × E × F × G
flat7 p = (p.0, p.1.0, p.1.1.0, p.1.1.1.0, p.1.1.1.1.0, p.1.1.1.1.1.0, p.1.1.1.1.1.1)

flat8 : {A B C D E F G H : Type 0} → A × (B × (C × (D × (E × (F × (G × H))))))
    → A × B × C × D × E × F × G × H
flat8 p =
    (p.0, p.1.0, p.1.1.0, p.1.1.1.0, p.1.1.1.1.0, p.1.1.1.1.1.0, p.1.1.1.1.1.1.0, p.1.1.1.1.1.1.1)

yes_is : (b : Bool) → b ≡ true → b ≡ true
yes_is b h = h

apart : (a b : ℕ) → not (eqb a b) ≡ true → a ≢ b
apart a b h e = both_ways (eqb a b) (not-true (eqb a b) h) (eq-eqb a b e)

abbrev is_full_of : ℕ → Reply → Bool
is_full_of z (Full y) = eqb y z
is_full_of z _ = false

full_is : (z : ℕ) (r : Reply) → is_full_of z r ≡ true → r ≡ Full z
full_is z (Full y) h = ap_full y z (eqb-true y z h)
  where
    ap_full : (y z : ℕ) → y ≡ z → Full y ≡ Full z
    ap_full y z e = cc
full_is z _ h = absurd cc

one_nought : (a b : ℕ) → (eqb a 0 || eqb b 0) ≡ true → (a ≡ 0) ⊎ (b ≡ 0)
one_nought a b h = elim (or_cases (eqb a 0) (eqb b 0) h) [
  | inl e ↦ inl (eqb-true a 0 e)
  | inr e ↦ inr (eqb-true b 0 e)
]

-- a configuration is in bounds where its tests say so
pub in_bounds : (c : Config)
    → (leb 1 c.threads && (leb c.threads 16 && (leb 1 c.blocks && (leb c.blocks 65535
    && (leb c.live 65535 && (leb 1 c.object && (leb c.object 1024 && leb c.shared 1024)))))))
    ≡ true → IsInBounds c
in_bounds c h =
    let p = flat8 (both _ _ (leb-true _ _) (both _ _ (leb-true _ _) (both _ _ (leb-true _ _)
    (both _ _ (leb-true _ _) (both _ _ (leb-true _ _) (both _ _ (leb-true _ _)
    (both _ _ (leb-true _ _) (leb-true _ _))))))) h) in
    record {
      some_thread = p.0;
      threads = p.1;
      some_block = p.2;
      blocks = p.3;
      live = p.4;
      some_object = p.5;
      object = p.6;
      shared = p.7;
    }

-- at most L blocks are live at the starts of the first z cycles of a history
abbrev pub starts_small : Config → List HistoryItem → ℕ → Bool
starts_small c h zero = true
starts_small c h (suc z) =
    leb (live_blocks c.width (graph_at c h (suc z))) c.live && starts_small c h z

pub all_small : (c : Config) (h : List HistoryItem) (n : ℕ) → starts_small c h n ≡ true
    → (z : ℕ) → 1 ≤ z → z ≤ n → live_blocks c.width (graph_at c h z) ≤ c.live
all_small c h zero is z some few = absurd (omega arith)
all_small c h (suc n) is z some few =
    let parts = and_parts (leb (live_blocks c.width (graph_at c h (suc n))) c.live)
    (starts_small c h n) is in
    elim (cases_eq z (suc n)) [
      | inl e ↦ rw e (leb-true _ _ parts.0)
      | inr ne ↦ all_small c h n parts.1 z some (omega arith)
    ]

-- nobody of the first n threads is inside
abbrev all_outside : ℕ → (ℕ → Spending) → Bool
all_outside zero f = true
all_outside (suc n) f = not (f n).inside && all_outside n f

outside_is : (n : ℕ) (f : ℕ → Spending) → all_outside n f ≡ true → (t : ℕ) → t < n
    → (f t).inside ≡ false
outside_is zero f h t l = absurd (omega arith)
outside_is (suc n) f h t l =
    let parts = and_parts (not (f n).inside) (all_outside n f) h in
    elim (cases_eq t n) [
      | inl e ↦ subst_inside n t f e (not-true (f n).inside parts.0)
      | inr ne ↦ outside_is n f parts.1 t (omega arith)
    ]
  where
    subst_inside : (n t : ℕ) (f : ℕ → Spending) → t ≡ n → (f n).inside ≡ false
        → (f t).inside ≡ false
    subst_inside n t f e h = rw e h

module _ (c : Config) (rate : ℕ) (black : ℕ → ℕ) where
  abbrev decides : ℕ → Spending → Entry → Bool
  decides t w e =
      eqb e.thread t && (eqb (blocks_of c.width e.command) w.asked
      && (eqb (requested_units e.command) w.requested && eqb e.work (made_of w)))

  abbrev all_paid : Spending → Bool
  all_paid w = eqb w.balance.paid (rate * w.asked) && eqb w.requested 0

  all_paid_is : (w : Spending) → all_paid w ≡ true → IsAllPaid rate w
  all_paid_is w h =
      let p = both _ _ (eqb-true _ _) (eqb-true _ _) h in
      record { paid = p.0; untold = p.1 }

  decides_is : (t : ℕ) (w : Spending) (e : Entry) → decides t w e ≡ true → Decides c t w e
  decides_is t w e h =
      let p = flat4 (both _ _ (eqb-true _ _) (both _ _ (eqb-true _ _) (both _ _ (eqb-true _ _)
      (eqb-true _ _))) h) in
      record { thread = p.0; blocks = p.1; requested = p.2; work = p.3 }

  abbrev may : Tally → Event → Bool
  may s (Enter t) = ltb t c.threads
  may s (Leave t) =
      ltb t c.threads && (leb (s.threads t).high (s.threads t).low && eqb (s.threads t).reserved 0)
  may s SetCursor = not s.sweep
  may s Flip = not s.sweep && eqb s.cursor 1
  may s Start =
      s.sweep && (ltb c.blocks s.cursor && (all_outside c.threads s.threads
      && leb c.blocks (s.free + live_blocks c.width (graph_at c s.order s.cycle)
      + given c.width s.order s.cycle)))
  may s (Paint x w) = s.sweep || eqb w (black s.cycle)
  may s (Scan t x) =
      let w = s.threads t in
      ltb t c.threads && (w.inside && (not s.sweep && (ltb 0 x && (leb x c.blocks
      && (not (eqb (s.colour x) (black s.cycle)) && (ltb (made_of w) (due_of rate w)
      && leb w.high w.low))))))
  may s (Claim t r) =
      let w = s.threads t in
      ltb t c.threads && (w.inside && (s.sweep && (leb (s.cursor + r) (c.blocks + 1)
      && (leb (made_of w + r) (due_of rate w) && leb w.high w.low))))
  may s (Pass t) = ltb t c.threads && ltb (s.threads t).low (s.threads t).high
  may s (Clear t) = ltb t c.threads && leb (s.threads t).high (s.threads t).low
  may s (Credit k) = true
  may s (Reserve t) =
      let w = s.threads t in
      ltb t c.threads && (w.inside && (eqb w.reserved 0 && (all_paid w
      && leb w.asked s.free)))
  may s (Publish t e) =
      let w = s.threads t in
      ltb t c.threads && (w.inside && (leb w.high w.low && (decides t w e
      && (eqb w.reserved w.asked && (all_paid w
      && (eqb (taken_by c.width e) w.asked && not (is_full e.reply)))))))
  may s (Refuse t e) =
      let w = s.threads t in
      ltb t c.threads && (w.inside && (leb w.high w.low && (decides t w e
      && (eqb w.reserved 0 && (all_paid w
      && (ltb s.free w.asked && is_full_of (max 1 (s.cycle - 1)) e.reply))))))
  may s (Answer t e) =
      let w = s.threads t in
      ltb t c.threads && (decides t w e && (eqb w.asked 0 && (not (is_full e.reply)
      && eqb (made_of w) w.requested)))
  may s (Next t k u) =
      let w = s.threads t in
      ltb t c.threads && (leb w.high w.low && (eqb w.reserved 0 && (eqb (made_of w) 0
      && (leb k c.object && ((eqb u 0 || eqb k 0) && leb u MOST_UNITS)))))

  painted : (s : Tally) (x w : ℕ) → (s.sweep || eqb w (black s.cycle)) ≡ true
      → s.sweep ≡ false → s.colour x ≡ black s.cycle → w ≡ black s.cycle
  painted s x w h mark is = elim (or_cases s.sweep (eqb w (black s.cycle)) h) [
    | inl sw ↦ absurd (both_ways s.sweep mark sw)
    | inr e ↦ eqb-true w (black s.cycle) e
  ]

  may_is : (s : Tally) (e : Event) → may s e ≡ true → Guard c rate black s e
  may_is s (Enter t) h = ltb-true _ _ h
  may_is s (Leave t) h = flat3 (both _ _ (ltb-true _ _) (both _ _ (leb-true _ _) (eqb-true _ _)) h)
  may_is s SetCursor h = not-true _ h
  may_is s Flip h = both _ _ (not-true _) (eqb-true _ _) h
  may_is s Start h = flat4 (both _ _ (yes_is _) (both _ _ (ltb-true _ _)
      (both _ _ (outside_is c.threads s.threads) (leb-true _ _))) h)
  may_is s (Paint x w) h = painted s x w h
  may_is s (Scan t x) h = flat8 (both _ _ (ltb-true _ _) (both _ _ (yes_is _) (both _ _ (not-true _)
      (both _ _ (ltb-true _ _) (both _ _ (leb-true _ _) (both _ _ (apart _ _)
      (both _ _ (ltb-true _ _) (leb-true _ _))))))) h)
  may_is s (Claim t r) h = flat6 (both _ _ (ltb-true _ _) (both _ _ (yes_is _) (both _ _ (yes_is _)
      (both _ _ (leb-true _ _) (both _ _ (leb-true _ _) (leb-true _ _))))) h)
  may_is s (Pass t) h = both _ _ (ltb-true _ _) (ltb-true _ _) h
  may_is s (Clear t) h = both _ _ (ltb-true _ _) (leb-true _ _) h
  may_is s (Credit k) h = tt
  may_is s (Reserve t) h = flat5 (both _ _ (ltb-true _ _)
      (both _ _ (yes_is _) (both _ _ (eqb-true _ _)
      (both _ _ (all_paid_is (s.threads t)) (leb-true _ _)))) h)
  may_is s (Publish t e) h = flat8 (both _ _ (ltb-true _ _)
      (both _ _ (yes_is _) (both _ _ (leb-true _ _)
      (both _ _ (decides_is t (s.threads t) e) (both _ _ (eqb-true _ _)
      (both _ _ (all_paid_is (s.threads t)) (both _ _ (eqb-true _ _) (not-true _))))))) h)
  may_is s (Refuse t e) h = flat8 (both _ _ (ltb-true _ _)
      (both _ _ (yes_is _) (both _ _ (leb-true _ _)
      (both _ _ (decides_is t (s.threads t) e) (both _ _ (eqb-true _ _)
      (both _ _ (all_paid_is (s.threads t))
      (both _ _ (ltb-true _ _) (full_is (max 1 (s.cycle - 1)) e.reply))))))) h)
  may_is s (Answer t e) h = flat5 (both _ _ (ltb-true _ _) (both _ _ (decides_is t (s.threads t) e)
      (both _ _ (eqb-true _ _) (both _ _ (not-true _) (eqb-true _ _)))) h)
  may_is s (Next t k u) h = flat7 (both _ _ (ltb-true _ _)
      (both _ _ (leb-true _ _) (both _ _ (eqb-true _ _)
      (both _ _ (eqb-true _ _) (both _ _ (leb-true _ _)
      (both _ _ (one_nought u k) (leb-true _ _)))))) h)

  -- all of a list may come, one after another
  abbrev pub all_may : Tally → List Event → Bool
  all_may s [] = true
  all_may s (e ∷ es) = may s e && all_may (apply c rate black s e) es

  pub all_guarded : (es : List Event) (s : Tally) → all_may s es ≡ true
      → Guarded c rate black s es
  all_guarded [] s h = tt
  all_guarded (e ∷ es) s h =
      both _ _ (may_is s e) (all_guarded es (apply c rate black s e)) h
