-- What a turn of a lone thread does to the blocks that the sweep has not passed, and to the grey
-- lists of the others.
use Rattle.std.proofs.Common.{◌≡◌, ℕ, zero, suc, ◌+◌, ◌-◌, ◌*◌, ◌%◌, ◌≤◌, ◌<◌, true, false, cond, eqb, ltb, eq-eqb, ne_eqb, ltb-true, lt-ltb, le-ltb, mod-eq_of_lt, refl, sym, ap, ◌∙◌, subst, arith, inl, inr}
use Rattle.std.proofs.lemmas.Bool.{cases_Bool, cases_eq, cases_lt}
use Rattle.std.proofs.lemmas.Nat.{mod-mul-add}
use Rattle.block_store.specs.declared.Config.{Config}
use Rattle.block_store.specs.declared.Width.{Width}
use Rattle.block_store.specs.Colours.{white_word}
use Rattle.block_store.specs.Heaps.{Heap, put_at}
use Rattle.block_store.specs.Phases.{is_sweep}
use Rattle.block_store.specs.Places.{Phase, Cursor, GreyList, ColourOf}
use Rattle.never_heap.specs.Steps.{blocks_of}
use Rattle.heap_machine.specs.Gating.{Gating, is_outside}
use Rattle.heap_machine.specs.declared.gate.GateRow.{GateRow}
use Rattle.heap_machine.specs.declared.gate.GateRow.TheVariants as gates
use Rattle.heap_machine.specs.declared.pass.Pass.{Pass}
use Rattle.grey_steps.specs.declared.rows.GreyRow.{GreyRow}
use Rattle.grey_steps.specs.declared.rows.GreyRow.TheVariants as greys
use Rattle.grey_steps.specs.Rows.{list_of}
use Rattle.grey_steps.proofs.GreyRuleKept.{list_low}
use Rattle.sweep_steps.specs.declared.rows.SweepRow.{SweepRow}
use Rattle.sweep_steps.specs.declared.rows.SweepRow.TheVariants as sweeps
use Rattle.sweep_steps.specs.Rows.{SweepState, next_block, sweep_over, sweep_nothing}
use Rattle.build_steps.specs.declared.rows.BuildRow.{BuildRow}
use Rattle.build_steps.specs.declared.rows.BuildRow.TheVariants as builds
use Rattle.rate_plan.specs.solo_bound.Moves.{Spot}
use Rattle.rate_plan.specs.solo_bound.Near.{Scene, Keeps, farthest}
use Rattle.heap_system.specs.Parts.{Part, Rest, Enter, Access, Mark, Sweep, Build, Retry, LeaveToChangePhase, PhaseChange, Leave}
use Rattle.heap_system.specs.Locals.{if_over}
use Rattle.heap_system.proofs.step_rows.PartLaws.{AtPart, PartEvent}
use Rattle.heap_system.proofs.invariant.SeenAndKept.{Seen}
use Rattle.heap_system.proofs.alone.Gate.{less_inside}
use Rattle.heap_system.proofs.alone.Heads.{open_here, has_pass}
use Rattle.heap_system.proofs.alone.LoneThread.{spot_of, build_spot, lone_of, grey_heads, OthersDry, LoneKnows, Alone, heap_left, paid_left, part_left, is_out}
use Rattle.heap_system.proofs.alone.Sweep.{still_owes}

-- the blocks that the cursor has not passed, and those of a range that the thread has not
abbrev pub unswept : Config → Heap → ℕ
unswept c h = c.blocks + 1 - h Cursor

abbrev pub in_range : SweepRow → ℕ
in_range (sweeps.PassBlock x high passed list freed) = high - x
in_range (sweeps.TakeFree x high passed) = high - x
in_range (sweeps.FreeBlock x high passed list freed) = high - x
in_range _ = 0

abbrev pub room_of : Config → Heap → Part → ℕ
room_of c h (Sweep s) = unswept c h + in_range s.row
room_of c h _ = unswept c h

-- the most turns of so many passes to the lists below n that have a block, by their heads
abbrev pub reach : ℕ → ℕ → (ℕ → ℕ) → ℕ
reach zero passes f = 0
reach (suc n) zero f = 0
reach (suc n) (suc passes) f = cond (eqb (f n) 0) (reach n (suc passes) f) (n + reach n passes f)

abbrev pub far_of : Config → Heap → ℕ → ℕ → ℕ
far_of c h t passes = reach c.threads passes (grey_heads c h t)

abbrev pub scene_of : Config → Heap → ℕ → ℕ → Part → Scene
scene_of c h t owed p = record {
  lone = lone_of c h t owed p;
  room = room_of c h p;
  far = far_of c h t;
}

abbrev pub KeepStep : (c : Config) → Seen c → Part → Type 0
KeepStep c s p = Keeps c.blocks (spot_of c p) (scene_of c s.heap s.thread (s.due - s.spent) p)
    (scene_of c (heap_left c s p) s.thread (s.due - paid_left c s p) (part_left c s p))

abbrev pub KeepLaw : Config → Part → Type 0
KeepLaw c p = (s : Seen c) → AtPart c s p → Alone c s → PartEvent c s p
    → LoneKnows c s.heap s.thread s.pass s.due s.spent p → KeepStep c s p

reach_none : (n : ℕ) (f : ℕ → ℕ) → reach n 0 f ≡ 0
reach_none zero f = refl
reach_none (suc n) f = refl

-- the lists after the own one are those from 1 on
abbrev Behind : ℕ → (ℕ → Type 0) → Type 0
Behind n P = (v : ℕ) → v < n → 0 < v → P v

fewer : (n : ℕ) (P : ℕ → Type 0) → Behind (suc n) P → Behind n P
fewer n P each v low some = each v (omega arith) some

-- where list n is empty, or has a block
skips : (n p : ℕ) (f : ℕ → ℕ) → f n ≡ 0 → reach (suc n) p f ≡ reach n p f
skips n zero f none = sym (reach_none n f)
skips n (suc p) f none = rw (eq-eqb (f n) 0 none) refl

goes : (n p : ℕ) (f : ℕ → ℕ) → (f n ≡ 0 → ⊥) → reach (suc n) (suc p) f ≡ n + reach n p f
goes n p f some = rw (ne_eqb (f n) 0 some) refl

farthest_more : (n p : ℕ) → farthest n p ≤ farthest (suc n) p
farthest_more zero zero = omega arith
farthest_more zero (suc p) = omega arith
farthest_more (suc n) zero = omega arith
farthest_more (suc n) (suc p) = let r = farthest_more n p in omega arith

pub far_few : (n p : ℕ) (f : ℕ → ℕ) → reach n p f ≤ farthest n p
far_few zero p f = omega arith
far_few (suc n) zero f = omega arith
far_few (suc n) (suc p) f = elim (cases_eq (f n) 0) [
  | inl e ↦
      let s = skips n (suc p) f e in
      let r = far_few n (suc p) f in
      let m = farthest_more n (suc p) in omega arith
  | inr ne ↦ (let g = goes n p f ne in let r = far_few n p f in omega arith)
]

-- one pass more
reach_more : (n p : ℕ) (f : ℕ → ℕ) → reach n (suc p) f ≤ n + reach n p f
reach_more zero p f = omega arith
reach_more (suc n) zero f = elim (cases_eq (f n) 0) [
  | inl e ↦ (let s = skips n 1 f e in let r = reach_more n 0 f in let z = reach_none n f in omega arith)
  | inr ne ↦ (let g = goes n 0 f ne in let z = reach_none n f in omega arith)
]
reach_more (suc n) (suc p) f = elim (cases_eq (f n) 0) [
  | inl e ↦
      let s = skips n (suc (suc p)) f e in
      let o = skips n (suc p) f e in
      let r = reach_more n (suc p) f in omega arith
  | inr ne ↦
      let s = goes n (suc p) f ne in
      let o = goes n p f ne in
      let r = reach_more n p f in omega arith
]

-- no list more has a block
reach_low : (n p : ℕ) (f g : ℕ → ℕ) → Behind n (λ v. f v ≡ 0 → g v ≡ 0) → reach n p g ≤ reach n p f
reach_low zero p f g none = omega arith
reach_low (suc zero) zero f g none = omega arith
reach_low (suc zero) (suc p) f g none = elim (cases_eq (g 0) 0) [
  | inl e ↦ (let s = skips 0 (suc p) g e in omega arith)
  | inr ne ↦ (let s = goes 0 p g ne in omega arith)
]
reach_low (suc (suc n)) zero f g none = omega arith
reach_low (suc (suc n)) (suc p) f g none = elim (cases_eq (g (suc n)) 0) [
  | inl e ↦
      let s = skips (suc n) (suc p) g e in
      let r = reach_low (suc n) (suc p) f g (fewer (suc n) (λ v. f v ≡ 0 → g v ≡ 0) none) in
      elim (cases_eq (f (suc n)) 0) [
        | inl z ↦ (let o = skips (suc n) (suc p) f z in omega arith)
        | inr nz ↦
            let o = goes (suc n) p f nz in
            let m = reach_more (suc n) p f in omega arith
      ]
  | inr ne ↦
      let nz : f (suc n) ≡ 0 → ⊥ = λ z. ne (none (suc n) (omega arith) (omega arith) z) in
      let s = goes (suc n) p g ne in
      let o = goes (suc n) p f nz in
      let r = reach_low (suc n) p f g (fewer (suc n) (λ v. f v ≡ 0 → g v ≡ 0) none) in
      omega arith
]

-- without one that was found, before the last list
nearer : (n p : ℕ) (f g : ℕ → ℕ) (u : ℕ) → u < n → Behind (suc n) (λ v. f v ≡ 0 → g v ≡ 0)
    → ((q : ℕ) → reach n q g + u ≤ reach n (suc q) f)
    → reach (suc n) p g + u ≤ reach (suc n) (suc p) f
nearer n zero f g u ul none less = elim (cases_eq (f n) 0) [
  | inl z ↦
      let o = skips n 1 f z in
      let r = less 0 in let e = reach_none n g in omega arith
  | inr nz ↦ (let o = goes n 0 f nz in omega arith)
]
nearer n (suc p) f g u ul none less = elim (cases_eq (f n) 0) [
  | inl z ↦
      let s = skips n (suc p) g (none n (omega arith) (omega arith) z) in
      let o = skips n (suc (suc p)) f z in
      let r = less (suc p) in omega arith
  | inr nz ↦
      let o = goes n (suc p) f nz in
      elim (cases_eq (g n) 0) [
        | inl e ↦
            let s = skips n (suc p) g e in
            let r = reach_low n (suc p) f g (fewer n (λ v. f v ≡ 0 → g v ≡ 0) none) in
            omega arith
        | inr ne ↦ (let s = goes n p g ne in let r = less p in omega arith)
      ]
]

-- without the one that was found
reach_less : (n p : ℕ) (f g : ℕ → ℕ) (u : ℕ) → u < n → Behind n (λ v. f v ≡ 0 → g v ≡ 0)
    → (f u ≡ 0 → ⊥) → g u ≡ 0 → reach n p g + u ≤ reach n (suc p) f
reach_less zero p f g u low none some empty = absurd (omega arith)
reach_less (suc n) p f g u low none some empty = elim (cases_eq u n) [
  | inl e ↦
      let s = skips n p g (ap g (sym e) ∙ empty) in
      let o = goes n p f (λ z. some (ap f e ∙ z)) in
      let r = reach_low n p f g (fewer n (λ v. f v ≡ 0 → g v ≡ 0) none) in omega arith
  | inr ne ↦
      let ul : u < n = omega arith in
      nearer n p f g u ul none
      (λ q. reach_less n q f g u ul (fewer n (λ v. f v ≡ 0 → g v ≡ 0) none) some empty)
]

-- where none has
reach_all : (n p : ℕ) (f : ℕ → ℕ) → Behind n (λ v. f v ≡ 0) → reach n p f ≡ 0
reach_all n p f none =
    let r = reach_low n p (λ v. 0) f (λ v low some e. none v low some) in
    let z = empty n p in omega arith
  where
    empty : (n p : ℕ) → reach n p (λ v. 0) ≡ 0
    empty zero p = refl
    empty (suc n) zero = refl
    empty (suc n) (suc p) = empty n (suc p)

-- the own list is the first alone
own_alone : (t n v : ℕ) → t < n → v < n → 0 < v → list_of t n v ≡ t → ⊥
unfolding list_of
own_alone t n v low vlow some is = elim (cases_lt (t + v) n) [
  | inl below ↦ (let e = mod-eq_of_lt below in omega (arith, e, is))
  | inr above ↦
      let sum : t + v ≡ 1 * n + (t + v - n) = omega arith in
      let e : (t + v) % n ≡ t + v - n =
      ap (λ x. x % n) sum ∙ mod-mul-add 1 n (t + v - n) (omega arith) in
      omega (arith, e, is)
]

-- a word written on the own list
far_own : (c : Config) (h : Heap) (t w passes : ℕ) → t < c.threads
    → far_of c (put_at h (GreyList t) w) t passes ≤ far_of c h t passes
far_own c h t w passes low =
    reach_low c.threads passes (grey_heads c h t) (grey_heads c (put_at h (GreyList t) w) t)
    (λ v l some none. rw (ne_eqb t (list_of t c.threads v)
    (λ e. own_alone t c.threads v low l some (sym e))) none)

put_none : (h : Heap) (a b : ℕ) → h (GreyList b) ≡ 0 → put_at h (GreyList a) 0 (GreyList b) ≡ 0
put_none h a b none = elim (cases_Bool (eqb a b)) [
  | inl e ↦ rw e refl
  | inr e ↦ rw e none
]

-- list u is taken, which had something
far_taken : (c : Config) (h : Heap) (t u passes : ℕ) → u < c.threads → (grey_heads c h t u ≡ 0 → ⊥)
    → far_of c (put_at h (GreyList (list_of t c.threads u)) 0) t passes + u
    ≤ far_of c h t (suc passes)
far_taken c h t u passes l some =
    let later = put_at h (GreyList (list_of t c.threads u)) 0 in
    reach_less c.threads passes (grey_heads c h t) (grey_heads c later t) u l
    (λ v vl more none. put_none h (list_of t c.threads u) (list_of t c.threads v) none) some
    (rw (eq-eqb (list_of t c.threads u) (list_of t c.threads u) refl) refl)

-- or had not
far_emptied : (c : Config) (h : Heap) (t u passes : ℕ)
    → far_of c (put_at h (GreyList (list_of t c.threads u)) 0) t passes ≤ far_of c h t passes
far_emptied c h t u passes =
    reach_low c.threads passes (grey_heads c h t)
    (grey_heads c (put_at h (GreyList (list_of t c.threads u)) 0) t)
    (λ v vl more none. put_none h (list_of t c.threads u) (list_of t c.threads v) none)

-- no other thread has a list
far_dry : (c : Config) (h : Heap) (t passes : ℕ) → t < c.threads → OthersDry c h t
    → far_of c h t passes ≡ 0
far_dry c h t passes low dry =
    reach_all c.threads passes (grey_heads c h t)
    (λ v l some. dry (list_of t c.threads v) (list_low t c.threads v low)
    (λ e. own_alone t c.threads v low l some (sym e)))

stays : (x : ℕ) → x ≤ x
stays x = omega arith

-- at the gate
rest_keeps : (c : Config) → KeepLaw c Rest
rest_keeps c s is alone event known =
    let free = open_here c s alone (ap (λ (g : Gating). is_outside g.stand) is.gating) in
    rw free.opened (refl, λ p. stays _)

enters : (c : Config) (s : Seen c) → KeepStep c s (Enter (gates.Enter (s.heap Phase)))
enters c s =
    let won : eqb (s.heap Phase) (s.heap Phase) ≡ true = eq-eqb (s.heap Phase) (s.heap Phase) refl in
    elim (cases_Bool (ltb 0 (s.due - s.spent))) [
      | inl due ↦ elim (cases_Bool (is_sweep (s.heap Phase))) [
        | inl sweeps ↦ rw (won, due, sweeps) (omega arith, λ p. stays _)
        | inr marks ↦ rw (won, due, marks) (refl, λ p. stays _)
      ]
      | inr due ↦ elim (cases_Bool (ltb 0 (blocks_of c.width s.command))) [
        | inl makes ↦ rw (won, due, makes) (refl, λ p. stays _)
        | inr serves ↦ rw (won, due, serves) (refl, λ p. stays _)
      ]
    ]

enter_keeps : (c : Config) (g : GateRow) → KeepLaw c (Enter g)
enter_keeps c gates.Look s is alone event known =
    let free = open_here c s alone (ap (λ (g : Gating). is_outside g.stand) is.gating) in
    rw free.opened (refl, λ p. stays _)
enter_keeps c (gates.Enter seen) s is alone event known =
    subst (λ v. KeepStep c s (Enter (gates.Enter v))) (sym known) (enters c s)
enter_keeps c g s is alone event known = absurd is.part

again_keeps : (c : Config) → KeepLaw c Retry
again_keeps c s is alone event known =
    (refl, (λ p. stays _), (less_inside c s (ap (λ (g : Gating). g.stand) is.gating)).1)

turn_keeps : (c : Config) (g : GateRow) → KeepLaw c (PhaseChange g)
turn_keeps c (gates.CloseLook p) s is alone event known = tt
turn_keeps c (gates.Close p seen) s is alone event known = tt
turn_keeps c (gates.CheckList p u) s is alone event known = tt
turn_keeps c (gates.SetCursor p) s is alone event known = tt
turn_keeps c (gates.Flip p) s is alone event known =
    let first : s.heap Cursor ≡ 1 = is.knows.first in omega arith
turn_keeps c (gates.Reopen p) s is alone event known = absurd known
turn_keeps c (gates.ShadeRoot p u list) s is alone event known = tt
turn_keeps c (gates.PutRoots p list) s is alone event known = tt
turn_keeps c (gates.Start p) s is alone event known =
    λ passes. far_dry c s.heap s.thread passes s.low known.2
turn_keeps c g s is alone event known = absurd is.part.0

-- the rows of a builder say nothing
built : (m : ℕ) (w : Width) (h : ℕ) (r : BuildRow) (s z : Scene) → Keeps m (build_spot w h r) s z
built m w h builds.ReadCount s z = tt
built m w h (builds.Reserve seen) s z = tt
built m w h (builds.TakeFree u) s z = tt
built m w h (builds.Collect list u) s z = tt
built m w h (builds.PutRest list) s z = tt
built m w h (builds.WriteOwner o) s z = tt
built m w h (builds.WriteShape o) s z = tt
built m w h (builds.WritePayload o j) s z = tt
built m w h (builds.WriteColour o) s z = tt
built m w h builds.Publish s z = tt
built m w h _ s z = tt

-- in a Mark pass
module _ (c : Config) (s : Seen c) where
  abbrev Marks : Pass → GreyRow → Part
  Marks p r = Mark (record { pass = p; row = r })

  module _ (p : Pass) (own : p.thread ≡ s.thread) (many : p.threads ≡ c.threads)
      (u : ℕ) (ul : u < c.threads) where
    abbrev q : Pass
    q = record { thread = s.thread; threads = c.threads; cycle = p.cycle; sweep = p.sweep }

    emptied : (passes : ℕ) → far_of c (put_at s.heap (GreyList (list_of s.thread c.threads u)) 0) s.thread passes
        ≤ far_of c s.heap s.thread passes
    emptied passes = far_emptied c s.heap s.thread u passes

    takes_here : KeepStep c s (Marks q (greys.Take u))
    takes_here = elim (cases_eq (grey_heads c s.heap s.thread u) 0) [
      | inl z ↦
          let none = eq-eqb (grey_heads c s.heap s.thread u) 0 z in
          elim (cases_Bool (ltb (u + 1) c.threads)) [
            | inl more ↦ rw (none, more) (emptied, λ e. absurd (let w : Spot.Take (u + 1) ≡ Spot.Pop = e in cc))
            | inr last ↦ rw (none, last) (emptied, λ e. absurd (let w : Spot.LeaveNone ≡ Spot.Pop = e in cc))
          ]
      | inr ne ↦
          rw (ne_eqb (grey_heads c s.heap s.thread u) 0 ne)
          (emptied, λ e passes. far_taken c s.heap s.thread u passes ul ne)
    ]

    takes : KeepStep c s (Marks p (greys.Take u))
    takes = subst (λ (x : Pass). KeepStep c s (Marks x (greys.Take u)))
        (λ i. record { thread = sym own i; threads = sym many i; cycle = p.cycle; sweep = p.sweep })
        takes_here

  puts : (p : Pass) (list : ℕ) → p.thread ≡ s.thread → is_sweep (s.heap Phase) ≡ false
      → KeepStep c s (Marks p (greys.Put list))
  puts p list own mark = (
    λ passes. subst (λ t. far_of c (put_at s.heap (GreyList t) list) s.thread passes
        ≤ far_of c s.heap s.thread passes) (sym own) (far_own c s.heap s.thread list passes s.low),
    mark,
  )

  blackens : (p : Pass) (x list : ℕ) → is_sweep (s.heap Phase) ≡ false
      → KeepStep c s (Marks p (greys.Blacken x list))
  blackens p x list mark = ((λ passes. stays _), mark)

mark_keeps : (c : Config) (p : Pass) (r : GreyRow) → KeepLaw c (Mark (record { pass = p; row = r }))
mark_keeps c p (greys.Take u) s is alone event known =
    takes c s p is.part.thread is.fits.0.threads u is.fits.0.row
mark_keeps c p (greys.Pop list) s is alone event known = λ passes. stays _
mark_keeps c p (greys.ScanWord x j list) s is alone event known = λ passes. stays _
mark_keeps c p (greys.Shade x j y list) s is alone event known =
    elim (cases_Bool (eqb (s.heap (ColourOf y)) (white_word p.cycle))) [
      | inl e ↦ rw e (λ passes. stays _)
      | inr e ↦ rw e (λ passes. stays _)
    ]
mark_keeps c p (greys.Blacken x list) s is alone event known =
    let phase = has_pass c s (Mark (record { pass = p; row = greys.Blacken x list })) is.gating refl in
    blackens c s p x list (phase.1 ∙ is.part.mark)
mark_keeps c p (greys.Put list) s is alone event known =
    let phase = has_pass c s (Mark (record { pass = p; row = greys.Put list })) is.gating refl in
    puts c s p list is.part.thread (phase.1 ∙ is.part.mark)
mark_keeps c p greys.Scanned s is alone event known =
    absurd (let z : true ≡ false = is.part.going in cc)
mark_keeps c p greys.NothingGrey s is alone event known =
    absurd (let z : true ≡ false = is.part.going in cc)
mark_keeps c p r s is alone event known = absurd (let z : true ≡ false = is.part.scans in cc)

-- in a Sweep pass
module _ (c : Config) (s : Seen c) (p : SweepState) where
  abbrev At : SweepRow → Part
  At r = Sweep (record { thread = p.thread; cycle = p.cycle; blocks = p.blocks; owed = p.owed; row = r })

  abbrev To : SweepRow → Part
  To r = if_over (sweep_over r) (sweep_nothing r) (At r)

  passes_room : (h : Heap) (x high passed list freed : ℕ) → s.spent < s.due → x < high
      → room_of c h (To (next_block x high passed list freed)) + (s.due - s.spent)
      ≡ unswept c h + (high - x) + (s.due - (s.spent + 1))
  passes_room h x high passed list freed owes low = elim (cases_lt (x + 1) high) [
    | inl more ↦ rw (lt-ltb (x + 1) high more) (omega arith)
    | inr last ↦ elim (cases_Bool (eqb freed 0)) [
      | inl e ↦ rw (le-ltb (x + 1) high last, e) (omega arith)
      | inr e ↦ rw (le-ltb (x + 1) high last, e) (omega arith)
    ]
  ]

  reads_cursor : p.blocks ≡ c.blocks → is_sweep (s.heap Phase) ≡ true → s.spent < s.due
      → KeepStep c s (At sweeps.ReadCursor)
  reads_cursor blocks phase owes = elim (cases_Bool (ltb p.blocks (s.heap Cursor))) [
    | inl behind ↦
        let past = ltb-true p.blocks (s.heap Cursor) behind in
        rw behind (omega arith, omega arith, λ e. omega arith)
    | inr there ↦
        let left : ltb c.blocks (s.heap Cursor) ≡ false = ap (λ m. ltb m (s.heap Cursor)) (sym blocks) ∙ there in
        rw (there, phase, left) (omega arith, omega arith, λ e. absurd (let z : true ≡ false = e in cc))
  ]

  claims : (x high : ℕ) → x ≡ s.heap Cursor → is_sweep (s.heap Phase) ≡ true → s.spent < s.due
      → x < high → high ≤ c.blocks + 1 → KeepStep c s (At (sweeps.ClaimRange x high))
  claims x high known phase owes low last =
      rw (eq-eqb (s.heap Cursor) x (sym known)) (omega arith, omega arith, phase)

  passes : (x high passed list freed : ℕ) → is_sweep (s.heap Phase) ≡ true → s.spent < s.due
      → x < high → KeepStep c s (At (sweeps.PassBlock x high passed list freed))
  passes x high passed list freed phase owes low =
      elim (cases_Bool (eqb (s.heap (ColourOf x)) (white_word p.cycle))) [
        | inl white ↦ elim (cases_Bool (eqb freed 0)) [
          | inl e ↦ rw (white, e) (omega arith, refl, phase)
          | inr e ↦ rw (white, e) (omega arith, refl, phase)
        ]
        | inr dark ↦
            rw dark (omega arith, passes_room s.heap x high passed list freed owes low, phase)
      ]

  frees : (x high passed list freed : ℕ) → is_sweep (s.heap Phase) ≡ true → s.spent < s.due
      → x < high → KeepStep c s (At (sweeps.FreeBlock x high passed list freed))
  frees x high passed list freed phase owes low = (
    omega arith,
    passes_room (heap_left c s (At (sweeps.FreeBlock x high passed list freed)))
        x high passed x (freed + 1) owes low,
    phase,
  )

-- by the rows
sweep_row : (c : Config) (t cycle m owed : ℕ) (r : SweepRow)
    → KeepLaw c (Sweep (record { thread = t; cycle = cycle; blocks = m; owed = owed; row = r }))
sweep_row c t cycle m owed sweeps.ReadCursor s is alone event known =
    let p : SweepState = record { thread = t; cycle = cycle; blocks = m; owed = owed; row = sweeps.ReadCursor } in
    let phase = has_pass c s (Sweep p) is.gating refl in
    reads_cursor c s p is.fits.0.blocks (phase.1 ∙ is.part.sweep)
    (omega (arith, is.settled, is.pays, is.fits.0.owed))
sweep_row c t cycle m owed (sweeps.ClaimRange x high) s is alone event known =
    let p : SweepState = record { thread = t; cycle = cycle; blocks = m; owed = owed; row = sweeps.ClaimRange x high } in
    let phase = has_pass c s (Sweep p) is.gating refl in
    claims c s p x high known (phase.1 ∙ is.part.sweep)
    (still_owes c.blocks owed s.due s.spent x high 0 is.fits.0.row is.settled)
    is.fits.0.row.left is.fits.0.row.last
sweep_row c t cycle m owed (sweeps.PassBlock x high passed list freed) s is alone event known =
    let p : SweepState = record { thread = t; cycle = cycle; blocks = m; owed = owed; row = sweeps.PassBlock x high passed list freed } in
    let phase = has_pass c s (Sweep p) is.gating refl in
    passes c s p x high passed list freed (phase.1 ∙ is.part.sweep)
    (still_owes c.blocks owed s.due s.spent x high passed is.fits.0.row.0 is.settled) is.fits.0.row.0.left
sweep_row c t cycle m owed (sweeps.TakeFree x high passed) s is alone event known =
    let p : SweepState = record { thread = t; cycle = cycle; blocks = m; owed = owed; row = sweeps.TakeFree x high passed } in
    let phase = has_pass c s (Sweep p) is.gating refl in
    let owes = still_owes c.blocks owed s.due s.spent x high passed is.fits.0.row is.settled in
    (omega arith, refl, phase.1 ∙ is.part.sweep)
sweep_row c t cycle m owed (sweeps.FreeBlock x high passed list freed) s is alone event known =
    let p : SweepState = record { thread = t; cycle = cycle; blocks = m; owed = owed; row = sweeps.FreeBlock x high passed list freed } in
    let phase = has_pass c s (Sweep p) is.gating refl in
    frees c s p x high passed list freed (phase.1 ∙ is.part.sweep)
    (still_owes c.blocks owed s.due s.spent x high passed is.fits.0.row.0 is.settled) is.fits.0.row.0.left
sweep_row c t cycle m owed (sweeps.PutFree list passed freed) s is alone event known =
    let p : SweepState = record { thread = t; cycle = cycle; blocks = m; owed = owed; row = sweeps.PutFree list passed freed } in
    let phase = has_pass c s (Sweep p) is.gating refl in (omega arith, phase.1 ∙ is.part.sweep)
sweep_row c t cycle m owed (sweeps.Credit passed freed) s is alone event known =
    let p : SweepState = record { thread = t; cycle = cycle; blocks = m; owed = owed; row = sweeps.Credit passed freed } in
    let phase = has_pass c s (Sweep p) is.gating refl in (omega arith, phase.1 ∙ is.part.sweep)
sweep_row c t cycle m owed _ s is alone event known = absurd (let z : true ≡ false = is.part.going in cc)

pub keep_law : (c : Config) (p : Part) → is_out p ≡ false → KeepLaw c p
keep_law c Rest on = rest_keeps c
keep_law c (Enter g) on = enter_keeps c g
keep_law c (Access f) on = λ s is alone event known. tt
keep_law c (Mark m) on = mark_keeps c m.pass m.row
keep_law c (Sweep s) on = sweep_row c s.thread s.cycle s.blocks s.owed s.row
keep_law c (Build b) on = λ s is alone event known. built _ _ _ b.row _ _
keep_law c Retry on = again_keeps c
keep_law c LeaveToChangePhase on = λ s is alone event known. tt
keep_law c (PhaseChange g) on = turn_keeps c g
keep_law c Leave on = absurd (let z : true ≡ false = on in cc)
