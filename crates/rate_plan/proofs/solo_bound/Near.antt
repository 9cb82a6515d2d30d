-- Each move lowers what is left, where units and changes of phase are counted apart.
use Rattle.std.proofs.Common.{ℕ, zero, suc, ◌+◌, ◌-◌, ◌*◌, ◌/◌, ◌≤◌, ◌<◌, ◌≡◌, inl, inr, Bool, true, false, cond, eqb, arith, refl, subst, sym, ap, ◌∙◌, ne_eqb, mul_comm}
use Rattle.std.proofs.lemmas.Bool.{cases_Bool, cases_lt}
use Rattle.std.proofs.lemmas.Nat.{le-div, div_below}
use Rattle.std.proofs.Math.Nat.{mul-suc, suc-mul, mul-le-mul_right, div-mul-le_self}
use Rattle.rate_plan.specs.solo_bound.Moves.{Spot, Lone, Terms, at, begun, Goes, Stays, Pays, Dealt, Passed, Writes, Moves}
use Rattle.rate_plan.specs.solo_bound.Prices.{allocation_bound, idle_bound, inside_cost}
use Rattle.rate_plan.specs.solo_bound.Near.{Scene, Keeps, Sweeps, NoFarther, near_unit, near_bound, near_other_bound, cycle_cost, farthest, changes_cost, near_at, near_left, paid, cycles, mark_debt, sweep_debt, debt, closing, marking}

pub less : (r : ℕ) → suc r - 1 ≡ r
less r = omega arith

pub next_mul : (b a unit : ℕ) → b ≡ suc a → b * unit ≡ a * unit + unit
next_mul b a unit next = ap (λ v. v * unit) next ∙ suc-mul a unit

mul_next : (b a unit : ℕ) → b ≡ suc a → unit * b ≡ unit * a + unit
mul_next b a unit next = ap (λ v. unit * v) next ∙ mul-suc unit a

-- quotients
pub div_low : (a b m : ℕ) → 0 < m → a ≤ b → a / m ≤ b / m
div_low a b m some low = le-div (a / m) b m some (omega (arith, div-mul-le_self a m, low))

div_one : (a m : ℕ) → 0 < m → suc (a / m) ≤ (a + m) / m
div_one a m some =
    le-div (suc (a / m)) (a + m) m some
    (omega (arith, div-mul-le_self a m, suc-mul (a / m) m))

div_most : (a m : ℕ) → 0 < m → (a + m) / m ≤ suc (a / m)
div_most a m some =
    let low = div_below (a + m) m (suc (suc (a / m))) some
    (omega (arith, above a m some, suc-mul (suc (a / m)) m)) in omega arith
  where
    -- the quotient is the greatest
    above : (a m : ℕ) → 0 < m → a < suc (a / m) * m
    above a m some = elim (cases_lt a (suc (a / m) * m)) [
      | inl low ↦ low
      | inr high ↦ (let more = le-div (suc (a / m)) a m some high in omega arith)
    ]

div_none : (a m : ℕ) → a < m → a / m ≤ 0
div_none a m low =
    let few = div_below a m 1 (omega arith) (omega arith) in omega arith

times_low : (r a b : ℕ) → a ≤ b → r * a ≤ r * b
times_low zero a b low = omega arith
times_low (suc r) a b low =
    let m = times_low r a b low in
    let x = suc-mul r a in
    let y = suc-mul r b in omega arith

module _ (e : Terms) (m : ℕ) (wide : 2 ≤ e.payloads) (some : 0 < m) where
  abbrev A : Spot → ℕ → Bool → ℕ → (ℕ → ℕ) → ℕ
  A = near_at e m

  abbrev B : ℕ → ℕ
  B = paid e m

  one_more : (r : ℕ) → 0 < r → B r ≡ B (r - 1) + near_unit e.payloads
  one_more zero h = absurd (omega arith)
  one_more (suc r) h =
      let s : suc r * near_unit e.payloads ≡ r * near_unit e.payloads + near_unit e.payloads =
      suc-mul r (near_unit e.payloads) in
      let l : B (suc r - 1) ≡ B r = ap B (less r) in
      omega arith

  fewer_cycles : (r : ℕ) → cycles e m (r - 1) ≤ cycles e m r
  fewer_cycles r =
      times_low (cycle_cost e.threads) ((r - 1 - 1) / m) ((r - 1) / m)
      (div_low (r - 1 - 1) (r - 1) m some (omega arith))

  -- a sweep begins
  swept_none : (r : ℕ) → sweep_debt e m r m ≤ cycles e m r
  swept_none r =
      times_low (cycle_cost e.threads) ((r - m + (m - 1)) / m) ((r - 1) / m)
      (elim (cases_lt m r) [
        | inl more ↦ div_low (r - m + (m - 1)) (r - 1) m some (omega arith)
        | inr few ↦
            (let z = div_none (r - m + (m - 1)) m (omega arith) in omega arith)
      ])

  -- and ends
  swept_all : (r : ℕ) → 0 < r → cycle_cost e.threads + cycles e m r ≤ sweep_debt e m r 0
  swept_all r more =
      let d : suc ((r - 1) / m) ≤ (r - 0 + (m - 1)) / m =
      subst (λ a. suc ((r - 1) / m) ≤ a / m)
      (let q : r - 1 + m ≡ r - 0 + (m - 1) = omega arith in q) (div_one (r - 1) m some) in
      let t = times_low (cycle_cost e.threads) (suc ((r - 1) / m)) ((r - 0 + (m - 1)) / m) d in
      let s = mul-suc (cycle_cost e.threads) ((r - 1) / m) in omega arith

  -- no more than that is owed in a sweep
  pub sweeping_most : (r room : ℕ) → sweep_debt e m r room ≤ cycle_cost e.threads + cycles e m r
  sweeping_most zero room =
      let z = div_none (zero - room + (m - 1)) m (omega arith) in
      let t = times_low (cycle_cost e.threads) ((zero - room + (m - 1)) / m) 1 (omega arith) in
      omega arith
  sweeping_most (suc r) room =
      let d = div_low (suc r - room + (m - 1)) (r + m) m some (omega arith) in
      let u = div_most r m some in
      let t = times_low (cycle_cost e.threads) ((suc r - room + (m - 1)) / m) (suc (r / m)) (omega arith) in
      let s = mul-suc (cycle_cost e.threads) (r / m) in
      let l = ap (λ v. cycle_cost e.threads * (v / m)) (less r) in omega arith

  same_swept : (r x y : ℕ) → x ≡ y → sweep_debt e m r x ≡ sweep_debt e m r y
  same_swept r x y same = ap (sweep_debt e m r) same

  swept : (s z : Scene) → Sweeps s z
      → sweep_debt e m z.lone.owed z.room ≡ sweep_debt e m s.lone.owed s.room
  swept s z k =
      ap (λ d. cycle_cost e.threads * ((d + (m - 1)) / m))
      (let q = k.1 in
      let d : z.lone.owed - z.room ≡ s.lone.owed - s.room = omega arith in d)

  mark_low : (r : ℕ) (far near : ℕ → ℕ) → ((v : ℕ) → near v ≤ far v)
      → mark_debt e m r near ≤ mark_debt e m r far
  mark_low zero far near low = omega arith
  mark_low (suc r) far near low = let f = low r in omega arith

  same_debt : (sweep : Bool) (r x y : ℕ) (far near : ℕ → ℕ) → y ≡ x
      → ((v : ℕ) → near v ≤ far v) → debt e m sweep r y near ≤ debt e m sweep r x far
  same_debt true r x y far near same low = let e = same_swept r y x same in omega arith
  same_debt false r x y far near same low = mark_low r far near low

  stands : (z : Scene) (x : Spot) (k : ℕ) → z.lone.spot ≡ x
      → A x z.lone.owed z.lone.sweep z.room z.far < k → near_left e m z < k
  stands z x k g h =
      subst (λ q. A q z.lone.owed z.lone.sweep z.room z.far < k) (sym g) h

  goes : (s z : Scene) (x : Spot) (k : ℕ) → Goes s.lone z.lone x
      → A x s.lone.owed z.lone.sweep z.room z.far < k → near_left e m z < k
  goes s z x k g h =
      stands z x k g.0
      (subst (λ q. A x q z.lone.sweep z.room z.far < k) (sym g.1) h)

  pays : (s z : Scene) (x : Spot) (k : ℕ) → Pays s.lone z.lone x
      → A x (s.lone.owed - 1) z.lone.sweep z.room z.far < k → near_left e m z < k
  pays s z x k g h =
      let same : s.lone.owed - 1 ≡ z.lone.owed = (let q = g.1 in omega arith) in
      stands z x k g.0 (subst (λ q. A x q z.lone.sweep z.room z.far < k) same h)

  stays : (s z : Scene) (x : Spot) (k : ℕ) → Stays s.lone z.lone x
      → A x s.lone.owed s.lone.sweep z.room z.far < k → near_left e m z < k
  stays s z x k g h =
      goes s z x k (g.0, g.1)
      (subst (λ q. A x s.lone.owed q z.room z.far < k) (sym g.2) h)

  is : (z : Scene) (y : Lone) (k : ℕ) → z.lone ≡ y
      → A y.spot y.owed y.sweep z.room z.far < k → near_left e m z < k
  is z y k same h =
      subst (λ (q : Lone). A q.spot q.owed q.sweep z.room z.far < k) (sym same) h

  abbrev first : Bool → Spot → Bool → Spot
  first b x sweep = cond b x (cond sweep Spot.ReadCursor (Spot.Take 0))

  owing : (b : Bool) (x : Spot) (r room : ℕ) (far : ℕ → ℕ) (sweep : Bool) → b ≡ false
      → A (first b x sweep) (suc r) sweep room far < A Spot.Enter (suc r) sweep room far
  owing true x r room far sweep h = absurd (let z : true ≡ false = h in cc)
  owing false x r room far true h = omega arith
  owing false x r room far false h =
      let o = one_more (suc r) (omega arith) in
      let l = ap far (less r) in omega arith

  entered : (r : ℕ) (sweep ready : Bool) (room : ℕ) (far : ℕ → ℕ)
      → A (begun e (record { spot = Spot.Enter; owed = r; sweep = sweep; ready = ready }))
      r sweep room far < A Spot.Enter r sweep room far
  entered zero sweep ready room far = elim (cases_Bool e.allocates) [
    | inl y ↦ rw y (omega arith)
    | inr y ↦ rw y (omega arith)
  ]
  entered (suc r) sweep ready room far =
      owing (eqb (suc r) 0) _ r room far sweep (ne_eqb (suc r) 0 (λ q. omega arith))

  begins : (s : Lone) (x y : ℕ) (far near : ℕ → ℕ) → y ≡ x → ((v : ℕ) → near v ≤ far v)
      → A (begun e s) s.owed s.sweep y near < A Spot.Enter s.owed s.sweep x far
  begins s x y far near same low =
      let a = entered s.owed s.sweep s.ready y near in
      let b = same_debt s.sweep s.owed x y far near same low in omega arith

  marks : (s z : Scene) (r : ℕ) → NoFarther s z → mark_debt e m r z.far ≤ mark_debt e m r s.far
  marks s z r low = mark_low r s.far z.far low

  dealt : (s z : Scene) (j k : ℕ) → j < e.payloads → NoFarther s z → Dealt e s.lone z.lone j
      → marking e m s.lone.owed s.far + 2 * (e.payloads - j) + 3 < k
      → near_left e m z < k
  dealt s z j k jl f d h =
      let low = marks s z (s.lone.owed - 1) f in elim d [
        | inl p ↦ goes s z Spot.Blacken k p.1 (let q = p.0 in omega arith)
        | inr p ↦ goes s z (Spot.Scan (j + 1)) k p.1 (let q = p.0 in omega arith)
      ]

  closed : (r room : ℕ) (far : ℕ → ℕ) (sweep : Bool)
      → A (cond sweep (Spot.ShadeRoot 0) (Spot.Check 0)) r sweep room far
      < A Spot.Close r sweep room far
  closed r room far true = omega arith
  closed r room far false = omega arith

  writes : (z : Scene) (k : ℕ) → Writes e z.lone → (e.payloads + 3) * e.blocks + 2 < k
      → near_left e m z < k
  writes z k p h =
      let one = mul_next e.blocks p.0 (e.payloads + 3) (sym p.1) in
      stands z (Spot.Write p.0 0) k p.2 (omega arith)

  -- the row after, in this phase
  in_phase : (z : Scene) (r k : ℕ) (sweep : Bool) → z.lone.sweep ≡ sweep
      → A Spot.Leave r sweep z.room z.far < k → A Spot.Leave r z.lone.sweep z.room z.far < k
  in_phase z r k sweep e h =
      subst (λ q. A Spot.Leave r q z.room z.far < k) (sym e) h

  -- a unit of the sweep pays for more than the events after it
  paying : (s z : Scene) → suc z.lone.owed ≡ s.lone.owed → Sweeps s z
      → B (s.lone.owed - 1) + sweep_debt e m (s.lone.owed - 1) z.room + near_unit e.payloads
      ≤ B s.lone.owed + sweep_debt e m s.lone.owed s.room
  paying s z o k =
      let a = swept s z k in
      let same : s.lone.owed - 1 ≡ z.lone.owed = omega arith in
      let c = ap (λ r. sweep_debt e m r z.room) same in
      let b = one_more s.lone.owed k.0 in omega arith

  staying : (s z : Scene) → z.lone.owed ≡ s.lone.owed → Sweeps s z
      → sweep_debt e m s.lone.owed z.room ≡ sweep_debt e m s.lone.owed s.room
  staying s z o k =
      ap (sweep_debt e m s.lone.owed)
      (let q = k.1 in let r : z.room ≡ s.room = omega arith in r)

  passed : (s z : Scene) (q k : ℕ) (f : Bool) → Passed s.lone z.lone q f → Sweeps s z
      → B s.lone.owed + sweep_debt e m s.lone.owed s.room ≤ k + 4
      → near_left e m z < k
  passed s z q k true d w h = elim d [
    | inl p ↦ pays s z Spot.PutFree k p.1 (let a = paying s z p.1.1 w in omega arith)
    | inr p ↦ pays s z (Spot.Pass p.0 true) k p.3 (let a = paying s z p.3.1 w in omega arith)
  ]
  passed s z q k false d w h = elim d [
    | inl p ↦
        pays s z Spot.Leave k p.1
        (in_phase z (s.lone.owed - 1) k true w.2
        (let a = paying s z p.1.1 w in omega arith))
    | inr p ↦ pays s z (Spot.Pass p.0 false) k p.3 (let a = paying s z p.3.1 w in omega arith)
  ]

  -- a cycle has begun
  started : (r : ℕ) (far : ℕ → ℕ) → ((v : ℕ) → far v ≡ 0)
      → B r + 2 + mark_debt e m r far < B r + cycles e m r + 2 * e.threads + 10
  started zero far none = omega arith
  started (suc r) far none = let f = none r in omega arith

  taken : (r u far : ℕ) → u < e.threads
      → B r + cycles e m r + closing e m false + 2
      < B (r - 1) + near_unit e.payloads + (e.threads - u) + e.threads + 7 + far + cycles e m r
  taken zero u far h = omega arith
  taken (suc r) u far h = let o = one_more (suc r) (omega arith) in omega arith

  -- a list of another is found u lists on
  finds : (r u : ℕ) (far near : ℕ → ℕ) → u < e.threads
      → ((v : ℕ) → near v + u ≤ far (suc v))
      → mark_debt e m (r - 1) near + u ≤ e.threads + e.threads + 7 + far (r - 1) + cycles e m r
  finds zero u far near low fewer = omega arith
  finds (suc zero) u far near low fewer = omega arith
  finds (suc (suc r)) u far near low fewer =
      let f = fewer r in
      let l = ap far (less (suc r)) in
      let d = ap (λ v. mark_debt e m v near) (less (suc r)) in
      let c = fewer_cycles (suc (suc r)) in
      let o = ap (cycles e m) (less (suc r)) in omega arith

  passing : (s z : Scene) (q : ℕ) (f : Bool) → Moves e (Spot.Pass q f) s.lone z.lone → Sweeps s z
      → near_left e m z < A (Spot.Pass q f) s.lone.owed s.lone.sweep s.room s.far
  passing s z q true h k = elim h [
    | inl p ↦ absurd (let w : true ≡ false = p.0 in cc)
    | inr p ↦ elim p [
      | inl g ↦
          goes s z (Spot.Free q) _ g.1
          (let c = staying s z g.1.1 k in let o = one_more s.lone.owed k.0 in omega arith)
      | inr g ↦ passed s z q _ true g k (let o = one_more s.lone.owed k.0 in omega arith)
    ]
  ]
  passing s z q false h k = elim h [
    | inl p ↦
        goes s z (Spot.TakeFree q) _ p.1
        (let c = staying s z p.1.1 k in let o = one_more s.lone.owed k.0 in omega arith)
    | inr p ↦ elim p [
      | inl g ↦ absurd (let w : false ≡ true = g.0 in cc)
      | inr g ↦ passed s z q _ false g k (let o = one_more s.lone.owed k.0 in omega arith)
    ]
  ]

  pub lower : (x : Spot) (s z : Scene) → Moves e x s.lone z.lone → Keeps m x s z
      → near_left e m z < A x s.lone.owed s.lone.sweep s.room s.far
  lower Spot.Over s z h k = absurd h
  lower Spot.LeaveDone s z h k = stands z Spot.Over 1 h (omega arith)
  lower Spot.Look s z h k =
      is z (at s.lone Spot.Enter) _ h
      (let d = same_debt s.lone.sweep s.lone.owed s.room z.room s.far z.far k.0 k.1 in omega arith)
  lower Spot.Enter s z h k =
      is z (at s.lone (begun e s.lone)) _ h
      (begins s.lone s.room z.room s.far z.far k.0 k.1)
  lower Spot.Leave s z h k =
      goes s z Spot.Look _ h
      (subst (λ q. A Spot.Look s.lone.owed q z.room z.far
      < A Spot.Leave s.lone.owed s.lone.sweep s.room s.far) (sym k.2)
      (let d = same_debt s.lone.sweep s.lone.owed s.room z.room s.far z.far k.0 k.1 in omega arith))
  lower Spot.LeaveNone s z h k = stays s z Spot.CloseLook _ h (omega arith)
  lower Spot.CloseLook s z h k = stays s z Spot.Close _ h (omega arith)
  lower Spot.Close s z h k =
      stays s z (cond s.lone.sweep (Spot.ShadeRoot 0) (Spot.Check 0)) _ h
      (closed s.lone.owed z.room z.far s.lone.sweep)
  lower (Spot.Check u) s z h k = elim h [
    | inl p ↦ goes s z (Spot.Check (u + 1)) _ p.1 (let q = p.0 in omega arith)
    | inr p ↦ goes s z Spot.SetCursor _ p.1 (let q = p.0 in omega arith)
  ]
  lower Spot.SetCursor s z h k = goes s z Spot.Flip _ h (omega arith)
  lower Spot.Flip s z h k =
      is z (record { spot = Spot.Look; owed = s.lone.owed; sweep = true; ready = true }) _ h.1
      (subst (λ v. A Spot.Look s.lone.owed true v z.far
      < A Spot.Flip s.lone.owed s.lone.sweep s.room s.far) (sym k)
      (let f = swept_none s.lone.owed in omega arith))
  lower (Spot.ShadeRoot u) s z h k = elim h [
    | inl p ↦ goes s z (Spot.ShadeRoot (u + 1)) _ p.1 (let q = p.0 in omega arith)
    | inr p ↦ goes s z Spot.PutRoots _ p.1 (let q = p.0 in omega arith)
  ]
  lower Spot.PutRoots s z h k = goes s z Spot.Start _ h (omega arith)
  lower Spot.Start s z h k =
      is z (record { spot = Spot.Look; owed = s.lone.owed; sweep = false; ready = true }) _ h.1
      (started s.lone.owed z.far k)
  lower (Spot.Take u) s z h k = elim h.1 [
    | inl p ↦
        goes s z Spot.Pop _ p.1
        (let q = h.0 in
        let d = finds s.lone.owed u s.far z.far q (k.1 p.1.0) in omega arith)
    | inr p ↦ elim p [
      | inl g ↦
          is z (at s.lone (Spot.Take (u + 1))) _ g.1
          (let f = k.0 (s.lone.owed - 1) in let q = g.0 in omega arith)
      | inr g ↦
          stays s z Spot.LeaveNone _ g.2
          (rw g.1 (let q = h.0 in taken s.lone.owed u (s.far (s.lone.owed - 1)) q))
    ]
  ]
  lower Spot.Pop s z h k =
      goes s z (Spot.Scan 0) _ h (let f = marks s z (s.lone.owed - 1) k in omega arith)
  lower (Spot.Scan j) s z h k = elim h.1 [
    | inl g ↦ goes s z (Spot.Shade j) _ g (let f = marks s z (s.lone.owed - 1) k in omega arith)
    | inr d ↦ dealt s z j _ h.0 k d (omega arith)
  ]
  lower (Spot.Shade j) s z h k = elim h [
    | inl p ↦
        goes s z Spot.Blacken _ p.1
        (let f = marks s z (s.lone.owed - 1) k in let q = p.0 in omega arith)
    | inr p ↦
        goes s z (Spot.Scan (j + 1)) _ p.1
        (let f = marks s z (s.lone.owed - 1) k in let q = p.0 in omega arith)
  ]
  lower Spot.Blacken s z h k = elim h [
    | inl p ↦
        pays s z Spot.Leave _ p
        (in_phase z (s.lone.owed - 1) _ false k.1
        (let f = marks s z (s.lone.owed - 1) k.0 in omega arith))
    | inr p ↦ pays s z Spot.PutGrey _ p (let f = marks s z (s.lone.owed - 1) k.0 in omega arith)
  ]
  lower Spot.PutGrey s z h k =
      goes s z Spot.Leave _ h
      (in_phase z s.lone.owed _ false k.1 (let f = marks s z s.lone.owed k.0 in omega arith))
  lower Spot.ReadCursor s z h k = elim h [
    | inl p ↦
        (let q = p.1 in
        goes s z (Spot.Claim q.0) _ q.3
        (let c = same_swept s.lone.owed z.room s.room k.0 in
        let o = one_more s.lone.owed k.1 in omega arith))
    | inr p ↦
        stays s z Spot.LeaveNone _ p.2
        (rw p.1 (let c = same_swept s.lone.owed s.room 0 (k.2 p.0) in
        let a = swept_all s.lone.owed k.1 in omega arith))
  ]
  lower (Spot.Claim q) s z h k =
      goes s z (Spot.Pass q false) _ h
      (let c = staying s z h.1 k in let o = one_more s.lone.owed k.0 in omega arith)
  lower (Spot.Pass q f) s z h k = passing s z q f h k
  lower (Spot.TakeFree q) s z h k =
      goes s z (Spot.Free q) _ h
      (let c = staying s z h.1 k in let o = one_more s.lone.owed k.0 in omega arith)
  lower (Spot.Free q) s z h k =
      passed s z q _ true h k (let o = one_more s.lone.owed k.0 in omega arith)
  lower Spot.PutFree s z h k =
      goes s z Spot.Credit _ h
      (let c = same_swept s.lone.owed z.room s.room k.0 in omega arith)
  lower Spot.Credit s z h k =
      goes s z Spot.Leave _ h
      (in_phase z s.lone.owed _ true k.1
      (let c = same_swept s.lone.owed z.room s.room k.0 in omega arith))
  lower Spot.Count s z h k = elim h [
    | inl p ↦ stands z Spot.Reserve _ p (omega arith)
    | inr p ↦ stands z Spot.LeaveDone _ p (omega arith)
  ]
  lower Spot.Reserve s z h k = stands z (Spot.Grab 0 0) _ h (omega arith)
  lower (Spot.Grab u b) s z h k = elim h.1 [
    | inl p ↦ stands z (Spot.Collect u b) _ p (let q = h.0 in omega arith)
    | inr p ↦ stands z (Spot.Grab (u + 1) b) _ p.1 (let q = p.0 in omega arith)
  ]
  lower (Spot.Collect u b) s z h k = elim h.1 [
    | inl p ↦ elim p.1 [
      | inl g ↦ stands z Spot.PutRest _ g (let q = h.0 in omega arith)
      | inr g ↦ (let q = h.0 in writes z _ g (omega arith))
    ]
    | inr p ↦ elim p.1 [
      | inl g ↦ stands z (Spot.Collect u (b + 1)) _ g (let q = p.0 in omega arith)
      | inr g ↦
          stands z (Spot.Grab (u + 1) (b + 1)) _ g.1
          (let q = g.0 in let q2 = p.0 in omega arith)
    ]
  ]
  lower Spot.PutRest s z h k = writes z _ h (omega arith)
  lower (Spot.Write o j) s z h k = elim h [
    | inl p ↦ stands z (Spot.Write o (j + 1)) _ p.1 (let q = p.0 in omega arith)
    | inr p ↦ elim p.1 [
      | inl g ↦ stands z Spot.Publish _ g.1 (let q = p.0 in omega arith)
      | inr g ↦
          stands z (Spot.Write g.0 0) _ g.2
          (let q = p.0 in let c = mul_next o g.0 (e.payloads + 3) g.1 in omega arith)
    ]
  ]
  lower Spot.Publish s z h k = stands z Spot.LeaveDone _ h (omega arith)
  lower (Spot.Access j) s z h k = elim h [
    | inl p ↦ stands z Spot.LeaveDone _ p.1 (let q = p.0 in omega arith)
    | inr p ↦ stands z (Spot.Access p.0) _ p.2 (let q = p.1 in omega arith)
  ]

  -- at the look
  owed_most : (r room : ℕ) (far : ℕ → ℕ) (sweep : Bool)
      → ((v : ℕ) → far v ≤ farthest e.threads v)
      → debt e m sweep r room far ≤ changes_cost e.threads m r
  owed_most zero room far true few = let z = div_none (zero - room + (m - 1)) m (omega arith) in
      let t = times_low (cycle_cost e.threads) ((zero - room + (m - 1)) / m) 0 (omega arith) in
      omega arith
  owed_most (suc r) room far true few =
      let s = sweeping_most (suc r) room in
      let l = ap (λ v. cycle_cost e.threads * (v / m)) (less r) in omega arith
  owed_most zero room far false few = omega arith
  owed_most (suc r) room far false few =
      let f = few r in
      let l = ap (λ v. cycle_cost e.threads * (v / m)) (less r) in omega arith

  -- of any command
  pub near_look : (r room : ℕ) (far : ℕ → ℕ) (sweep : Bool)
      → ((v : ℕ) → far v ≤ farthest e.threads v)
      → A Spot.Look r sweep room far
      ≤ r * near_unit e.payloads + changes_cost e.threads m r + inside_cost e 0 + 2
  near_look r room far sweep few = let d = owed_most r room far sweep few in omega arith

  -- an allocation is within the near bound
  pub near : (r room : ℕ) (far : ℕ → ℕ) (sweep : Bool) → e.allocates ≡ true
      → ((v : ℕ) → far v ≤ farthest e.threads v)
      → A Spot.Look r sweep room far ≤ near_bound e.threads e.payloads m r e.blocks
  near r room far sweep makes few =
      let b = next_mul (e.payloads + 4) (e.payloads + 3) e.blocks (omega arith) in
      let inside : inside_cost e 0 ≡ (e.payloads + 3) * e.blocks + e.blocks + e.threads + 5 =
      rw makes refl in
      let l = near_look r room far sweep few in omega arith

  -- and so is another command
  pub near_other : (r room : ℕ) (far : ℕ → ℕ) (sweep : Bool) → e.allocates ≡ false
      → ((v : ℕ) → far v ≤ farthest e.threads v)
      → A Spot.Look r sweep room far ≤ near_other_bound e.threads e.payloads m r e.most
  near_other r room far sweep serves few =
      let inside : inside_cost e 0 ≡ e.most + 1 = rw serves refl in
      let l = near_look r room far sweep few in omega arith

farthest_low : (n r : ℕ) → n ≤ 16 → farthest n r ≤ 15 * n
farthest_low zero r low = omega arith
farthest_low (suc n) zero low = omega arith
farthest_low (suc n) (suc r) low = let f = farthest_low n r (omega arith) in omega arith

-- the cycles' changes are within so much for a unit
cycles_low : (n m r : ℕ) → n ≤ m → 1 ≤ m → cycle_cost n * (r / m) ≤ 18 * r
cycles_low n m r more some =
    let q = r / m in
    let a : q * cycle_cost n ≤ q * (18 * m) = times_low q (cycle_cost n) (18 * m) (omega arith) in
    let b : q * m ≤ r = div-mul-le_self r m in
    omega (arith, a, b, mul_comm q (cycle_cost n), mul_swap q m)
  where
    mul_swap : (q m : ℕ) → q * (18 * m) ≡ 18 * (q * m)
    mul_swap zero m = omega arith
    mul_swap (suc q) m =
        let l = mul_swap q m in
        let x = suc-mul q (18 * m) in
        let y = suc-mul q m in omega arith

-- and all changes are within this
changes_low : (n m r : ℕ) → n ≤ 16 → n ≤ m → 1 ≤ m → changes_cost n m r ≤ 18 * r + 17 * n + 15
changes_low n m zero many more some = omega arith
changes_low n m (suc r) many more some =
    let d = farthest_low n r many in
    let f = cycles_low n m r more some in omega arith

-- the near bound is within the stated one
pub near_within : (n m w rate k : ℕ) → n ≤ 16 → w ≤ 8 → n ≤ m → 1 ≤ m
    → near_bound n w m (rate * k) k ≤ allocation_bound n k rate
near_within n m w rate k many wide more some =
    let a : rate * k * near_unit w ≤ rate * k * 23 =
    times_low (rate * k) (near_unit w) 23 (omega arith) in
    let u : rate * k * 64 ≤ rate * k * (8 * n + 64) =
    times_low (rate * k) 64 (8 * n + 64) (omega arith) in
    let b : (rate * k + 1) * (8 * n + 64) ≡ rate * k * (8 * n + 64) + (8 * n + 64) =
    next_mul (rate * k + 1) (rate * k) (8 * n + 64) (omega arith) in
    let c : (w + 4) * k ≤ 16 * k =
    mul-le-mul_right k (let z : w + 4 ≤ 16 = omega arith in z) in
    let f = changes_low n m (rate * k) many more some in
    omega arith

pub idle_within : (n m w r : ℕ) → n ≤ 16 → w ≤ 8 → n ≤ m → 1 ≤ m
    → near_other_bound n w m r 1 ≤ idle_bound n r
idle_within n m w zero many wide more some = omega arith
idle_within n m w (suc r) many wide more some =
    let a : suc r * near_unit w ≤ suc r * 23 = times_low (suc r) (near_unit w) 23 (omega arith) in
    let u : r * 64 ≤ r * (8 * n + 64) = times_low r 64 (8 * n + 64) (omega arith) in
    let b : (suc r + 1) * (8 * n + 64) ≡ suc r * (8 * n + 64) + (8 * n + 64) =
    next_mul (suc r + 1) (suc r) (8 * n + 64) (omega arith) in
    let d : suc r * (8 * n + 64) ≡ r * (8 * n + 64) + (8 * n + 64) =
    next_mul (suc r) r (8 * n + 64) refl in
    let f = changes_low n m (suc r) many more some in
    omega arith
