-- After a change of phase comes a unit before the next change.
use Rattle.std.proofs.Common.{ℕ, suc, ◌+◌, ◌<◌, ◌≡◌, ◌⊎◌, inl, inr, Bool, true, false, cond, eqb, refl, arith, subst, sym, ap, ◌∙◌, ne_eqb}
use Rattle.rate_plan.specs.solo_bound.Moves.{Spot, Lone, Terms, at, begun, Goes, Dealt, Passed, Moves, Fresh}

abbrev Goal : Lone → Lone → Type 0
Goal s z = Fresh z.spot z × (z.owed ≡ s.owed) ⊎ (suc z.owed ≡ s.owed)

goes : (s z : Lone) (x : Spot) → Fresh x z → Goes s z x → Goal s z
goes s z x f g = inl (subst (λ q. Fresh q z) (sym g.0) f, g.1)

is : (s z y : Lone) → z ≡ y → Fresh y.spot y → y.owed ≡ s.owed → Goal s z
is s z y e f o = inl (subst (λ q. Fresh q.spot q) (sym e) f, ap (λ (q : Lone). q.owed) e ∙ o)

dealt : (e : Terms) (s z : Lone) (j : ℕ) → Dealt e s z j → Goal s z
dealt e s z j d = elim d [
  | inl p ↦ goes s z Spot.Blacken tt p.1
  | inr p ↦ goes s z (Spot.Scan (j + 1)) tt p.1
]

passed : (s z : Lone) (q : ℕ) (f : Bool) → Passed s z q f → Goal s z
passed s z q f d = elim d [ inl p ↦ inr p.1.1 | inr p ↦ inr p.3.1 ]

abbrev first : Bool → Spot → Bool → Spot
first b x sweep = cond b x (cond sweep Spot.ReadCursor (Spot.Take 0))

entering : (s : Lone) (b sweep : Bool) → b ≡ false → (s.ready ≡ true) × (0 < s.owed)
    → (x : Spot) → Fresh (first b x sweep) (at s (first b x sweep))
entering s true sweep e f x = absurd (let z : true ≡ false = e in cc)
entering s false true e f x = f
entering s false false e f x = f

owing : (s : Lone) → 0 < s.owed → eqb s.owed 0 ≡ false
owing s o = ne_eqb s.owed 0 (λ q. (omega arith))

pub fresh : (e : Terms) (x : Spot) (s z : Lone) → Moves e x s z → Fresh x s → Goal s z
fresh e Spot.Look s z h f = is s z (at s Spot.Enter) h f refl
fresh e Spot.Enter s z h f =
    is s z (at s (begun e s)) h (entering s (eqb s.owed 0) s.sweep (owing s f.1) f _) refl
fresh e (Spot.Take u) s z h f = elim h.1 [
  | inl p ↦ goes s z Spot.Pop tt p.1
  | inr p ↦ elim p [
    | inl g ↦ is s z (at s (Spot.Take (u + 1))) g.1 f refl
    | inr g ↦ absurd (let q : true ≡ false = sym f.0 ∙ g.0 in cc)
  ]
]
fresh e Spot.Pop s z h f = goes s z (Spot.Scan 0) tt h
fresh e (Spot.Scan j) s z h f = elim h.1 [
  | inl g ↦ goes s z (Spot.Shade j) tt g
  | inr d ↦ dealt e s z j d
]
fresh e (Spot.Shade j) s z h f = dealt e s z j h
fresh e Spot.Blacken s z h f = elim h [ inl p ↦ inr p.1 | inr p ↦ inr p.1 ]
fresh e Spot.ReadCursor s z h f = elim h [
  | inl p ↦ goes s z (Spot.Claim p.1.0) tt p.1.3
  | inr p ↦ absurd (let q : true ≡ false = sym f.0 ∙ p.0 in cc)
]
fresh e (Spot.Claim q) s z h f = goes s z (Spot.Pass q false) tt h
fresh e (Spot.Pass q g) s z h f = elim h [
  | inl p ↦ goes s z (Spot.TakeFree q) tt p.1
  | inr p ↦ elim p [ inl y ↦ goes s z (Spot.Free q) tt y.1 | inr y ↦ passed s z q g y ]
]
fresh e (Spot.TakeFree q) s z h f = goes s z (Spot.Free q) tt h
fresh e (Spot.Free q) s z h f = passed s z q true h
fresh e x s z h f = absurd f
