-- Each move lowers what is left, and the first row is within the bound.
use Rattle.std.proofs.Common.{ℕ, zero, suc, ◌+◌, ◌-◌, ◌*◌, ◌≤◌, ◌<◌, ◌≡◌, inl, inr, Bool, true, false, cond, eqb, arith, refl, subst, sym, ap, ◌∙◌, ne_eqb}
use Rattle.std.proofs.lemmas.Bool.{cases_Bool}
use Rattle.std.proofs.Math.Nat.{mul-suc, suc-mul, mul-le-mul_right}
use Rattle.rate_plan.specs.solo_bound.Moves.{Spot, Lone, Terms, at, begun, Goes, Stays, Pays, Dealt, Passed, Writes, Moves}
use Rattle.rate_plan.specs.solo_bound.Prices.{left, left_at, at_look, base, unit_cost, allocation_bound, idle_bound}
use Rattle.rate_plan.proofs.solo_bound.Near.{less, next_mul}

add-suc : (a b : ℕ) → a + suc b ≡ suc (a + b)
add-suc a b = omega arith

mul_add : (unit a b : ℕ) → (a + b) * unit ≡ a * unit + b * unit
mul_add unit a zero = omega arith
mul_add unit a (suc b) =
    let one : (a + suc b) * unit ≡ (a + b) * unit + unit =
    ap (λ v. v * unit) (add-suc a b) ∙ suc-mul (a + b) unit in
    let other : suc b * unit ≡ b * unit + unit = suc-mul b unit in
    let r = mul_add unit a b in omega arith

mul_low : (unit a : ℕ) → 2 ≤ unit → a * 2 ≤ a * unit
mul_low unit zero h = omega arith
mul_low unit (suc a) h =
    let one : suc a * unit ≡ a * unit + unit = suc-mul a unit in
    let r = mul_low unit a h in omega arith

module _ (e : Terms) (unit : ℕ) (wide : 2 ≤ e.payloads)
    (price : unit_cost e.threads e.payloads ≤ unit) where
  abbrev L : Lone → ℕ
  L = left e unit

  abbrev A : Spot → ℕ → Bool → Bool → ℕ
  A = left_at e unit

  abbrev B : ℕ → ℕ
  B = base e unit

  one_more : (r : ℕ) → B (suc r) ≡ B r + unit
  one_more r = let m : suc r * unit ≡ r * unit + unit = suc-mul r unit in omega arith

  pub look_low : (r : ℕ) (sweep ready : Bool) → A Spot.Look r sweep ready ≤ B r
  look_low zero sweep ready = omega arith
  look_low (suc r) true true = let m = one_more r in omega arith
  look_low (suc r) true false = let m = one_more r in omega arith
  look_low (suc r) false true = let m = one_more r in omega arith
  look_low (suc r) false false = let m = one_more r in omega arith

  stands : (z : Lone) (x : Spot) (m : ℕ) → z.spot ≡ x → A x z.owed z.sweep z.ready < m → L z < m
  stands z x m g h = subst (λ q. A q z.owed z.sweep z.ready < m) (sym g) h

  goes : (s z : Lone) (x : Spot) (m : ℕ) → Goes s z x
      → A x s.owed z.sweep z.ready < m → L z < m
  goes s z x m g h =
      stands z x m g.0 (subst (λ q. A x q z.sweep z.ready < m) (sym g.1) h)

  pays : (s z : Lone) (x : Spot) (m : ℕ) → Pays s z x
      → A x (s.owed - 1) z.sweep z.ready < m → L z < m
  pays s z x m g h =
      let same : s.owed - 1 ≡ z.owed = (let q = g.1 in omega arith) in
      stands z x m g.0 (subst (λ q. A x q z.sweep z.ready < m) same h)

  stays : (s z : Lone) (x : Spot) (m : ℕ) → Stays s z x
      → A x s.owed s.sweep z.ready < m → L z < m
  stays s z x m g h =
      stands z x m g.0 (subst (λ q. A x q z.sweep z.ready < m) (sym g.1)
      (subst (λ q. A x s.owed q z.ready < m) (sym g.2) h))

  is : (s z : Lone) (m : ℕ) → z ≡ s → L s < m → L z < m
  is s z m same h = subst (λ q. L q < m) (sym same) h

  abbrev first : Bool → Spot → Bool → Spot
  first b x sweep = cond b x (cond sweep Spot.ReadCursor (Spot.Take 0))

  owing : (b : Bool) (x : Spot) (r : ℕ) (sweep ready : Bool) → b ≡ false
      → A (first b x sweep) (suc r) sweep ready < A Spot.Enter (suc r) sweep ready
  owing true x r sweep ready h = absurd (let z : true ≡ false = h in cc)
  owing false x r true true h = let m : B (suc r - 1) ≡ B r = ap B (less r) in omega arith
  owing false x r true false h = let m : B (suc r - 1) ≡ B r = ap B (less r) in omega arith
  owing false x r false true h = let m : B (suc r - 1) ≡ B r = ap B (less r) in omega arith
  owing false x r false false h = let m : B (suc r - 1) ≡ B r = ap B (less r) in omega arith

  abbrev here : ℕ → Bool → Bool → Spot
  here r sweep ready =
      begun e (record { spot = Spot.Enter; owed = r; sweep = sweep; ready = ready })

  entered : (r : ℕ) (sweep ready : Bool)
      → A (here r sweep ready) r sweep ready < A Spot.Enter r sweep ready
  entered zero sweep ready = elim (cases_Bool e.allocates) [
    | inl y ↦ rw y (omega arith)
    | inr y ↦ rw y (omega arith)
  ]
  entered (suc r) sweep ready =
      owing (eqb (suc r) 0) _ r sweep ready (ne_eqb (suc r) 0 (λ q. omega arith))

  -- a look in a phase in which a pass will find something, with a unit owed
  ready_look : (r : ℕ) (sweep : Bool) → 0 < r
      → A Spot.Look r sweep true ≡ B (r - 1) + cond sweep 10 (e.threads + 2 * e.payloads + 6)
  ready_look zero sweep h = absurd (omega arith)
  ready_look (suc r) true h = let m : B (suc r - 1) ≡ B r = ap B (less r) in omega arith
  ready_look (suc r) false h = let m : B (suc r - 1) ≡ B r = ap B (less r) in omega arith

  dealt : (s z : Lone) (j m : ℕ) → j < e.payloads → Dealt e s z j
      → B (s.owed - 1) + 2 * (e.payloads - j) + 1 < m → L z < m
  dealt s z j m jl d h = elim d [
    | inl p ↦ goes s z Spot.Blacken m p.1 (let q = p.0 in omega arith)
    | inr p ↦ goes s z (Spot.Scan (j + 1)) m p.1 (let q = p.0 in omega arith)
  ]

  closed : (r : ℕ) (sweep ready : Bool)
      → A (cond sweep (Spot.ShadeRoot 0) (Spot.Check 0)) r sweep ready
      < A Spot.Close r sweep ready
  closed r true ready = omega arith
  closed r false ready = omega arith

  writes : (z : Lone) (m : ℕ) → Writes e z → (e.payloads + 3) * e.blocks + 2 < m → L z < m
  writes z m p h =
      let one : (e.payloads + 3) * e.blocks ≡ (e.payloads + 3) * p.0 + (e.payloads + 3) =
      ap (λ v. (e.payloads + 3) * v) (sym p.1) ∙ mul-suc (e.payloads + 3) p.0 in
      stands z (Spot.Write p.0 0) m p.2 (omega arith)

  range : (s : Lone) (q p : ℕ) → q ≡ suc p → B (s.owed - q) ≡ B (s.owed - 1 - p)
  range s q p same = ap B (let k : q ≡ suc p = same in omega arith)

  last_of : (s : Lone) (q : ℕ) → q ≡ 1 → B (s.owed - q) ≡ B (s.owed - 1)
  last_of s q one = ap (λ v. B (s.owed - v)) one

  -- what follows a passed block, with q blocks of the range left before it
  passed : (s z : Lone) (q m : ℕ) (f : Bool) → Passed s z q f
      → B (s.owed - q) + 2 * q + cond f 1 2 < m → L z < m
  passed s z q m true d h = elim d [
    | inl p ↦
        let b = last_of s q p.0 in
        let one : q ≡ 1 = p.0 in
        pays s z Spot.PutFree m p.1 (omega arith)
    | inr p ↦
        let b = range s q p.0 p.1 in
        let more : q ≡ suc p.0 = p.1 in
        pays s z (Spot.Pass p.0 true) m p.3 (omega arith)
  ]
  passed s z q m false d h = elim d [
    | inl p ↦
        let b = last_of s q p.0 in
        let one : q ≡ 1 = p.0 in
        pays s z Spot.Leave m p.1 (omega arith)
    | inr p ↦
        let b = range s q p.0 p.1 in
        let more : q ≡ suc p.0 = p.1 in
        pays s z (Spot.Pass p.0 false) m p.3 (omega arith)
  ]

  -- the events of a claimed range are paid by the units that it makes
  far : (r q : ℕ) → 0 < q → q ≤ r → B (r - q) + 2 * q + 5 < B (r - 1) + 8
  far r q some le =
      let d : r - 1 ≡ (r - q) + (q - 1) = omega arith in
      let split : (r - 1) * unit ≡ (r - q) * unit + (q - 1) * unit =
      ap (λ v. v * unit) d ∙ mul_add unit (r - q) (q - 1) in
      let more : (q - 1) * 2 ≤ (q - 1) * unit = mul_low unit (q - 1) (omega arith) in
      omega arith

  wrote : (o p : ℕ) → o ≡ suc p
      → (e.payloads + 3) * o ≡ (e.payloads + 3) * p + (e.payloads + 3)
  wrote o p more = ap (λ v. (e.payloads + 3) * v) more ∙ mul-suc (e.payloads + 3) p

  pub lower : (x : Spot) (s z : Lone) → Moves e x s z → L z < A x s.owed s.sweep s.ready
  lower Spot.Over s z h = absurd h
  lower Spot.LeaveDone s z h = stands z Spot.Over 1 h (omega arith)
  lower Spot.Look s z h = is (at s Spot.Enter) z _ h (omega arith)
  lower Spot.Enter s z h = is (at s (begun e s)) z _ h (entered s.owed s.sweep s.ready)
  lower Spot.Leave s z h =
      goes s z Spot.Look _ h (let m = look_low s.owed z.sweep z.ready in omega arith)
  lower Spot.LeaveNone s z h = stays s z Spot.CloseLook _ h (omega arith)
  lower Spot.CloseLook s z h = stays s z Spot.Close _ h (omega arith)
  lower Spot.Close s z h =
      stays s z (cond s.sweep (Spot.ShadeRoot 0) (Spot.Check 0)) _ h
      (closed s.owed s.sweep z.ready)
  lower (Spot.Check u) s z h = elim h [
    | inl p ↦ goes s z (Spot.Check (u + 1)) _ p.1 (let q = p.0 in omega arith)
    | inr p ↦ goes s z Spot.SetCursor _ p.1 (let q = p.0 in omega arith)
  ]
  lower Spot.SetCursor s z h = goes s z Spot.Flip _ h (omega arith)
  lower Spot.Flip s z h =
      is (record { spot = Spot.Look; owed = s.owed; sweep = true; ready = true }) z _ h.1
      (let m = ready_look s.owed true h.0 in omega arith)
  lower (Spot.ShadeRoot u) s z h = elim h [
    | inl p ↦ goes s z (Spot.ShadeRoot (u + 1)) _ p.1 (let q = p.0 in omega arith)
    | inr p ↦ goes s z Spot.PutRoots _ p.1 (let q = p.0 in omega arith)
  ]
  lower Spot.PutRoots s z h = goes s z Spot.Start _ h (omega arith)
  lower Spot.Start s z h =
      is (record { spot = Spot.Look; owed = s.owed; sweep = false; ready = true }) z _ h.1
      (let m = ready_look s.owed false h.0 in omega arith)
  lower (Spot.Take u) s z h = elim h.1 [
    | inl p ↦ goes s z Spot.Pop _ p.1 (let q = h.0 in rw p.0 (omega arith))
    | inr p ↦ elim p [
      | inl g ↦ is (at s (Spot.Take (u + 1))) z _ g.1 (let q = g.0 in omega arith)
      | inr g ↦
          stays s z Spot.LeaveNone _ g.2 (let q = h.0 in rw (g.0, g.1) (omega arith))
    ]
  ]
  lower Spot.Pop s z h = goes s z (Spot.Scan 0) _ h (omega arith)
  lower (Spot.Scan j) s z h = elim h.1 [
    | inl g ↦ goes s z (Spot.Shade j) _ g (omega arith)
    | inr d ↦ dealt s z j _ h.0 d (omega arith)
  ]
  lower (Spot.Shade j) s z h = elim h [
    | inl p ↦ goes s z Spot.Blacken _ p.1 (let q = p.0 in omega arith)
    | inr p ↦ goes s z (Spot.Scan (j + 1)) _ p.1 (let q = p.0 in omega arith)
  ]
  lower Spot.Blacken s z h = elim h [
    | inl p ↦ pays s z Spot.Leave _ p (omega arith)
    | inr p ↦ pays s z Spot.PutGrey _ p (omega arith)
  ]
  lower Spot.PutGrey s z h = goes s z Spot.Leave _ h (omega arith)
  lower Spot.ReadCursor s z h = elim h [
    | inl p ↦
        (let q = p.1 in
        goes s z (Spot.Claim q.0) _ q.3 (rw p.0 (far s.owed q.0 q.1 q.2)))
    | inr p ↦ stays s z Spot.LeaveNone _ p.2 (rw (p.0, p.1) (omega arith))
  ]
  lower (Spot.Claim q) s z h = goes s z (Spot.Pass q false) _ h (omega arith)
  lower (Spot.Pass q f) s z h = elim h [
    | inl p ↦ goes s z (Spot.TakeFree q) _ p.1 (rw p.0 (omega arith))
    | inr p ↦ elim p [
      | inl g ↦ goes s z (Spot.Free q) _ g.1 (rw g.0 (omega arith))
      | inr g ↦ passed s z q _ f g (elim (cases_Bool f) [
        | inl y ↦ rw y (omega arith)
        | inr y ↦ rw y (omega arith)
      ])
    ]
  ]
  lower (Spot.TakeFree q) s z h = goes s z (Spot.Free q) _ h (omega arith)
  lower (Spot.Free q) s z h = passed s z q _ true h (omega arith)
  lower Spot.PutFree s z h = goes s z Spot.Credit _ h (omega arith)
  lower Spot.Credit s z h = goes s z Spot.Leave _ h (omega arith)
  lower Spot.Count s z h = elim h [
    | inl p ↦ stands z Spot.Reserve _ p (omega arith)
    | inr p ↦ stands z Spot.LeaveDone _ p (omega arith)
  ]
  lower Spot.Reserve s z h = stands z (Spot.Grab 0 0) _ h (omega arith)
  lower (Spot.Grab u b) s z h = elim h.1 [
    | inl p ↦ stands z (Spot.Collect u b) _ p (let q = h.0 in omega arith)
    | inr p ↦ stands z (Spot.Grab (u + 1) b) _ p.1 (let q = p.0 in omega arith)
  ]
  lower (Spot.Collect u b) s z h = elim h.1 [
    | inl p ↦ elim p.1 [
      | inl g ↦ stands z Spot.PutRest _ g (let q = h.0 in omega arith)
      | inr g ↦ (let q = h.0 in writes z _ g (omega arith))
    ]
    | inr p ↦ elim p.1 [
      | inl g ↦ stands z (Spot.Collect u (b + 1)) _ g (let q = p.0 in omega arith)
      | inr g ↦
          stands z (Spot.Grab (u + 1) (b + 1)) _ g.1
          (let q = g.0 in let q2 = p.0 in omega arith)
    ]
  ]
  lower Spot.PutRest s z h = writes z _ h (omega arith)
  lower (Spot.Write o j) s z h = elim h [
    | inl p ↦ stands z (Spot.Write o (j + 1)) _ p.1 (let q = p.0 in omega arith)
    | inr p ↦ elim p.1 [
      | inl g ↦ stands z Spot.Publish _ g.1 (let q = p.0 in omega arith)
      | inr g ↦
          stands z (Spot.Write g.0 0) _ g.2
          (let q = p.0 in let m = wrote o g.0 g.1 in omega arith)
    ]
  ]
  lower Spot.Publish s z h = stands z Spot.LeaveDone _ h (omega arith)
  lower (Spot.Access j) s z h = elim h [
    | inl p ↦ stands z Spot.LeaveDone _ p.1 (let q = p.0 in omega arith)
    | inr p ↦ stands z (Spot.Access p.0) _ p.2 (let q = p.1 in omega arith)
  ]

pub exactly : (e : Terms) (r : ℕ) (sweep ready : Bool) → 2 ≤ e.payloads → e.allocates ≡ true
    → at_look e (unit_cost e.threads e.payloads) r sweep ready
    ≤ r * unit_cost e.threads e.payloads + ((e.payloads + 4) * e.blocks + e.threads + 7)
exactly e r sweep ready wide makes =
    let unit = unit_cost e.threads e.payloads in
    let a : at_look e unit r sweep ready ≤ base e unit r =
    look_low e unit wide (omega arith) r sweep ready in
    let inside : base e unit r
    ≡ r * unit + ((e.payloads + 3) * e.blocks + e.blocks + e.threads + 5) + 2 =
    rw makes refl in
    let b : (e.payloads + 4) * e.blocks ≡ (e.payloads + 3) * e.blocks + e.blocks =
    next_mul (e.payloads + 4) (e.payloads + 3) e.blocks (omega arith) in
    omega arith

pub within : (e : Terms) (rate : ℕ) (sweep ready : Bool)
    → 2 ≤ e.payloads → e.payloads ≤ 8 → e.allocates ≡ true
    → at_look e (8 * e.threads + 64) (rate * e.blocks) sweep ready
    ≤ allocation_bound e.threads e.blocks rate
within e rate sweep ready wide low makes =
    let unit = 8 * e.threads + 64 in
    let r = rate * e.blocks in
    let a : at_look e unit r sweep ready ≤ base e unit r =
    look_low e unit wide (omega arith) r sweep ready in
    let inside : base e unit r
    ≡ r * unit + ((e.payloads + 3) * e.blocks + e.blocks + e.threads + 5) + 2 =
    rw makes refl in
    let b : (e.payloads + 3) * e.blocks ≤ 11 * e.blocks =
    mul-le-mul_right e.blocks (let z : e.payloads + 3 ≤ 11 = omega arith in z) in
    let c : (r + 1) * unit ≡ r * unit + unit = next_mul (r + 1) r unit (omega arith) in
    omega arith

pub one_event : (e : Terms) (r : ℕ) (sweep ready : Bool)
    → 2 ≤ e.payloads → e.payloads ≤ 8 → e.allocates ≡ false → e.most ≡ 1
    → at_look e (8 * e.threads + 64) r sweep ready ≤ idle_bound e.threads r
one_event e r sweep ready wide low none one =
    let unit = 8 * e.threads + 64 in
    let a : at_look e unit r sweep ready ≤ base e unit r =
    look_low e unit wide (omega arith) r sweep ready in
    let inside : base e unit r ≡ r * unit + (e.most + 1) + 2 = rw none refl in
    let c : (r + 1) * unit ≡ r * unit + unit = next_mul (r + 1) r unit (omega arith) in
    omega arith
