-- What holds of the rows of the gate.
use Rattle.std.proofs.Common.{◌≡◌, ℕ, ◌+◌, ◌-◌, ◌^◌, ◌≤◌, ◌<◌, Bool, true, false, eqb, ltb, cond, refl, arith, subst, inl, inr, ltb-true, IsSome}
use Rattle.std.proofs.lemmas.Bool.{cases_Bool, lt-ltb, and_from, le-leb}
use Rattle.block_store.specs.declared.Config.{Config}
use Rattle.block_store.specs.declared.Colour.TheVariants.{Grey}
use Rattle.block_store.specs.declared.Width.{Width}
use Rattle.block_store.specs.Colours.{colour_of, grey_word, link}
use Rattle.block_store.specs.Places.{extent, in_range, is_block}
use Rattle.block_store.specs.Phases.{inside_of, is_closed, cycle_of}
use Rattle.block_store.specs.Registers.{root_block}
use Rattle.block_store.proofs.Lemmas.{colour-code, end_few, end_more, link-grey, root_in, root_some}
use Rattle.heap_machine.specs.Gating.{closed_word, open_word}
use Rattle.heap_machine.specs.Operations.{place_of, Fits}
use Rattle.heap_machine.specs.Readings.{IsPhaseWord, CanHold, StoresHeld}
use Rattle.heap_machine.specs.Passes.{IsPass}
use Rattle.heap_machine.specs.Gates.{gate_want, gate_got, is_of_pass, is_empty, closed_by, IsAt, GateFits, GateAt}
use Rattle.heap_machine.specs.ChangingPhase.{turns_over, HasRoom}
use Rattle.heap_machine.specs.declared.gate.GateRow.{GateRow}
use Rattle.heap_machine.specs.declared.gate.GateRow.TheVariants.{Look, Enter, Entered, Leave, CloseLook, Close, CheckList, SetCursor, Flip, Reopen, ShadeRoot, PutRoots, Start, TurnedOver, StartedCycle, KeptOut}
use Rattle.heap_machine.specs.declared.pass.Pass.{Pass}
use Rattle.heap_machine.proofs.Gatings.{close_parts, open_parts}

-- the root block of a thread is a block of the heap
pub root_is : (c : Config) (p : Pass) (u : ℕ) → IsAt c p → u < p.threads → is_block (extent c) (root_block c.width u) ≡ true
root_is c p u a low =
    let below : u < c.threads = subst (λ n. u < n) a.threads low in
    let end = root_in c.width c.threads u below in
    and_from _ _ (le-leb 1 (root_block c.width u) (root_some c.width u)) (le-leb (root_block c.width u) c.blocks (omega (arith, a.arrays)))

-- each row is on a place of the heap
pub gate_place : (c : Config) (r : GateRow) → GateFits r → GateAt c r → in_range (extent c) (place_of (gate_want c.width r)) ≡ true
gate_place c (CheckList p u) f a = (let low : u < c.threads = subst (λ n. u < n) a.threads f.1 in lt-ltb u c.threads low)
gate_place c (ShadeRoot p u list) f a = root_is c p u a.0 f.1
gate_place c (PutRoots p list) f a = (let low : p.thread < c.threads = subst (λ n. p.thread < n) a.0.threads f.pass.thread in lt-ltb p.thread c.threads low)
gate_place c _ f a = refl

-- what holds of both rows of a choice holds of the one that is taken
either : (P : GateRow → Type 0) (b : Bool) (p q : GateRow) → (b ≡ true → P p) → (b ≡ false → P q) → P (cond b p q)
either P true p q h k = h refl
either P false p q h k = k refl

closed_fits : (p : Pass) (b : Bool) → p.sweep ≡ b → IsPass p → GateFits (cond b (ShadeRoot p 0 0) (CheckList p 0))
closed_fits p true e k = (record { pass = k; sweep = e }, omega (arith, k.thread))
closed_fits p false e k = (record { pass = k; mark = e }, omega (arith, k.thread))

-- the numbers of the next row fit
pub gate_fits : (c : Config) (r : GateRow) (w : ℕ) → GateFits r → CanHold (extent c) (place_of (gate_want c.width r)) w → GateFits (gate_got c.width r w)
gate_fits c Look w f h = elim (cases_Bool (is_closed w)) [
  | inl is ↦ rw is tt
  | inr is ↦ rw is (record { word = h; opened = is })
]
gate_fits c (Enter seen) w f h = either GateFits (eqb w seen) (Entered seen) Look (λ _. f) (λ _. tt)
gate_fits c (Entered seen) w f h = f
gate_fits c (CloseLook p) w f h =
    either GateFits (is_of_pass p w) (cond (is_empty w) (Close p w) KeptOut) KeptOut (λ of. either GateFits (is_empty w) (Close p w) KeptOut (λ is. (f, record { word = h; pass = of; empty = is })) (λ _. tt)) (λ _. tt)
gate_fits c (Close p seen) w f h = either GateFits (eqb w seen) (closed_by p) KeptOut (λ _. closed_fits p p.sweep refl f.0) (λ _. tt)
gate_fits c (CheckList p u) w f h =
    either GateFits (eqb w 0) (cond (ltb (u + 1) p.threads) (CheckList p (u + 1)) (SetCursor p)) (Reopen p) (λ _. either GateFits (ltb (u + 1) p.threads) (CheckList p (u + 1)) (SetCursor p) (λ less. (f.0, ltb-true _ _ less)) (λ _. f.0)) (λ _. f.0)
gate_fits c (SetCursor p) w f h = f
gate_fits c (ShadeRoot p u list) w f h =
    either GateFits (ltb (u + 1) p.threads) (ShadeRoot p (u + 1) (root_block c.width u)) (PutRoots p (root_block c.width u)) (λ less. (f.0, ltb-true _ _ less)) (λ _. f.0)
gate_fits c (PutRoots p list) w f h = f
gate_fits c _ w f h = tt

closed_at : (c : Config) (p : Pass) (b : Bool) → IsAt c p → GateAt c (cond b (ShadeRoot p 0 0) (CheckList p 0))
closed_at c p true a = (a, omega arith)
closed_at c p false a = a

-- the next row is one of the heap
pub gate_at : (c : Config) (r : GateRow) (w : ℕ) → GateFits r → GateAt c r → GateAt c (gate_got c.width r w)
gate_at c Look w f a = either (GateAt c) (is_closed w) Look (Enter w) (λ _. tt) (λ _. tt)
gate_at c (Enter seen) w f a = either (GateAt c) (eqb w seen) (Entered seen) Look (λ _. tt) (λ _. tt)
gate_at c (CloseLook p) w f a =
    either (GateAt c) (is_of_pass p w) (cond (is_empty w) (Close p w) KeptOut) KeptOut (λ _. either (GateAt c) (is_empty w) (Close p w) KeptOut (λ _. a) (λ _. tt)) (λ _. tt)
gate_at c (Close p seen) w f a = either (GateAt c) (eqb w seen) (closed_by p) KeptOut (λ _. closed_at c p p.sweep a) (λ _. tt)
gate_at c (CheckList p u) w f a =
    either (GateAt c) (eqb w 0) (cond (ltb (u + 1) p.threads) (CheckList p (u + 1)) (SetCursor p)) (Reopen p) (λ _. either (GateAt c) (ltb (u + 1) p.threads) (CheckList p (u + 1)) (SetCursor p) (λ _. a) (λ _. a)) (λ _. a)
gate_at c (SetCursor p) w f a = a
gate_at c (ShadeRoot p u list) w f a =
    let below : u < c.threads = subst (λ n. u < n) a.0.threads f.1 in
    either (GateAt c) (ltb (u + 1) p.threads) (ShadeRoot p (u + 1) (root_block c.width u)) (PutRoots p (root_block c.width u)) (λ _. (a.0, root_in c.width (u + 1) u (omega arith))) (λ _. (a.0, root_in c.width c.threads u below))
gate_at c (PutRoots p list) w f a = a.0
gate_at c _ w f a = tt

-- a word that counts one inside is not 0
pub inside_low : (w : ℕ) → 1 ≤ inside_of w → 1 ≤ w
unfolding inside_of
inside_low w h = omega arith

-- the difference stays in 64 bits where the word counts a thread inside
pub gate_sum : (W : Width) (r : GateRow) (w : ℕ) → 1 ≤ inside_of w → Fits (gate_want W r) w
gate_sum W Leave w h = inside_low w h
gate_sum W _ w h = tt

-- the words of a closed gate, and of one that is opened, are phase words
closed_held : (w : ℕ) → IsPhaseWord w → IsPhaseWord (closed_word w)
closed_held w h =
    let low : inside_of w < 256 = omega (arith, h.inside) in
    let e = close_parts w low in
    let i : inside_of (closed_word w) ≡ inside_of w = e.0 in
    let y : cycle_of (closed_word w) ≡ cycle_of w = e.3 in
    record { inside = rw i h.inside; cycle = rw y h.cycle }

open_held : (y : ℕ) (s : Bool) → y < 2 ^ 54 - 1 → IsPhaseWord (open_word y s)
open_held y s low =
    let e = open_parts y s in
    let i : inside_of (open_word y s) ≡ 0 = e.0 in
    let same : cycle_of (open_word y s) ≡ y = e.3 in
    record { inside = rw i (omega arith); cycle = rw same low }

grey_held : (c : Config) (list : ℕ) → list ≤ 65535 → list ≤ c.blocks → IsSome (colour_of (grey_word list)) × (link (grey_word list) ≤ c.blocks)
grey_held c list small low = (rw (colour-code (Grey list) small) refl, rw (link-grey list) low)

-- what a part that changes the phase stores is what its place can hold
pub gate_stores : (c : Config) (r : GateRow) → turns_over r ≡ true → GateFits r → GateAt c r → HasRoom r → StoresHeld c (gate_want c.width r)
gate_stores c (CloseLook p) e f a room = tt
gate_stores c (Close p seen) e f a room = closed_held seen f.1.word
gate_stores c (CheckList p u) e f a room = tt
gate_stores c (SetCursor p) e f a room = (omega arith, omega arith)
gate_stores c (Flip p) e f a room = open_held p.cycle true (omega (arith, f.pass.last))
gate_stores c (Reopen p) e f a room = open_held p.cycle false (omega (arith, f.pass.last))
gate_stores c (ShadeRoot p u list) e f a room =
    let below : u < c.threads = subst (λ n. u < n) a.0.threads f.1 in
    let few : c.threads ≤ 16 = subst (λ n. n ≤ 16) a.0.threads f.0.pass.few in
    let small = end_few c.width u (omega arith) in
    let more = end_more c.width u c.threads (omega arith) in
    grey_held c list (omega (arith, a.1)) (omega (arith, a.1, a.0.arrays))
gate_stores c (PutRoots p list) e f a room = omega (arith, a.1, a.0.arrays)
gate_stores c (Start p) e f a room = open_held (p.cycle + 1) false (omega (arith, room))
gate_stores c TurnedOver e f a room = tt
gate_stores c (StartedCycle y) e f a room = tt
gate_stores c KeptOut e f a room = tt
gate_stores c _ e f a room = absurd cc

-- the same, where it holds of both rows whatever the test says
pub either_row : (P : GateRow → Type 0) (b : Bool) (p q : GateRow) → P p → P q → P (cond b p q)
either_row P true p q h k = h
either_row P false p q h k = k
