-- What keeps the rule of the gate.
use Rattle.std.proofs.Common.{◌≡◌, ℕ, zero, suc, inl, inr, ◌+◌, ◌-◌, ◌≤◌, ◌<◌, Bool, true, false, refl, arith, sym, ap, ◌∙◌}
use Rattle.std.proofs.lemmas.Bool.{cases_eq}
use Rattle.block_store.specs.Phases.{bit, phase_of, inside_of, is_sweep, is_closed, cycle_of}
use Rattle.block_store.proofs.Lemmas.{bit_le, bit_one, changed_both, phase-code, phase-less, phase-more, total_bits, total_changed, total_none, total_part, total_parts}
use Rattle.block_store.specs.declared.PhaseWord.{PhaseWord}
use Rattle.block_store.specs.Counts.{changed, total}
use Rattle.heap_machine.specs.Gating.{Stand, Outside, Inside, Closing, is_outside, is_inside, is_closing, Gating, GateOf, closed_word, open_word}

-- the four parts of one word are those of another, but for the inside count
parts : (v w i : ℕ) → phase_of v ≡ record (phase_of w) { inside = i } → (inside_of v ≡ i) × (is_sweep v ≡ is_sweep w) × (is_closed v ≡ is_closed w) × (cycle_of v ≡ cycle_of w)
parts v w i e = (ap (λ (p : PhaseWord). p.inside) e, ap (λ (p : PhaseWord). p.sweep) e, ap (λ (p : PhaseWord). p.closed) e, ap (λ (p : PhaseWord). p.cycle) e)

enter_parts : (w : ℕ) → inside_of w < 255 → (inside_of (w + 1) ≡ inside_of w + 1) × (is_sweep (w + 1) ≡ is_sweep w) × (is_closed (w + 1) ≡ is_closed w) × (cycle_of (w + 1) ≡ cycle_of w)
enter_parts w low = parts (w + 1) w (inside_of w + 1) (phase-more w low)

leave_parts : (w : ℕ) → 0 < inside_of w → (inside_of (w - 1) ≡ inside_of w - 1) × (is_sweep (w - 1) ≡ is_sweep w) × (is_closed (w - 1) ≡ is_closed w) × (cycle_of (w - 1) ≡ cycle_of w)
leave_parts w some = parts (w - 1) w (inside_of w - 1) (phase-less w some)

four : (v : ℕ) (p : PhaseWord) → phase_of v ≡ p → (inside_of v ≡ p.inside) × (is_sweep v ≡ p.sweep) × (is_closed v ≡ p.closed) × (cycle_of v ≡ p.cycle)
four v p e = (ap (λ (q : PhaseWord). q.inside) e, ap (λ (q : PhaseWord). q.sweep) e, ap (λ (q : PhaseWord). q.closed) e, ap (λ (q : PhaseWord). q.cycle) e)

pub close_parts : (w : ℕ) → inside_of w < 256 → (inside_of (closed_word w) ≡ inside_of w) × (is_sweep (closed_word w) ≡ is_sweep w) × (is_closed (closed_word w) ≡ true) × (cycle_of (closed_word w) ≡ cycle_of w)
close_parts w low = four (closed_word w) (record (phase_of w) { closed = true }) (phase-code (record (phase_of w) { closed = true }) low)

pub open_parts : (c : ℕ) (s : Bool) → (inside_of (open_word c s) ≡ 0) × (is_sweep (open_word c s) ≡ s) × (is_closed (open_word c s) ≡ false) × (cycle_of (open_word c s) ≡ c)
open_parts c s = four (open_word c s) (record { inside = 0; sweep = s; closed = false; cycle = c }) (phase-code (record { inside = 0; sweep = s; closed = false; cycle = c }) (omega arith))

pub stand_out : (s : Stand) → bit (is_inside s) ≡ 0 → bit (is_closing s) ≡ 0 → s ≡ Outside
stand_out Outside a b = refl
stand_out Inside a b = absurd (omega arith)
stand_out Closing a b = absurd (omega arith)

-- at most all threads are inside
pub inside_most : (n phase : ℕ) (gs : ℕ → Gating) → GateOf n phase gs → inside_of phase ≤ n
inside_most n phase gs k = omega (arith, k.count, total_bits n (λ u. is_inside (gs u).stand))

-- a thread that goes in, or closes the gate, leaves the cycle and the phase
pub entered_phase : (n phase : ℕ) (gs : ℕ → Gating) → GateOf n phase gs → n < 255 → (cycle_of (phase + 1) ≡ cycle_of phase) × (is_sweep (phase + 1) ≡ is_sweep phase)
entered_phase n phase gs k small =
    let parts = enter_parts phase (omega (arith, inside_most n phase gs k)) in
    (parts.3, parts.1)

pub closed_phase : (phase : ℕ) → inside_of phase ≡ 0 → (cycle_of (closed_word phase) ≡ cycle_of phase) × (is_sweep (closed_word phase) ≡ is_sweep phase)
closed_phase phase none =
    let parts = close_parts phase (omega (arith, none)) in
    (parts.3, parts.1)

module _ (n phase : ℕ) (gs : ℕ → Gating) (k : GateOf n phase gs) (t : ℕ) (tl : t < n) where
  -- thread t goes in
  pub gate_enters : (g : Gating) → n < 255 → is_closed phase ≡ false → (gs t).stand ≡ Outside → g.stand ≡ Inside → g.cycle ≡ cycle_of phase → g.sweep ≡ is_sweep phase → GateOf n (phase + 1) (changed gs t g)
  gate_enters g small opened out new cy sw =
      let a = total_changed (λ (q : Gating). bit (is_inside q.stand)) n gs t g tl in
      let b = total_changed (λ (q : Gating). bit (is_closing q.stand)) n gs t g tl in
      let i0 : bit (is_inside (gs t).stand) ≡ 0 = ap (λ s. bit (is_inside s)) out in
      let i1 : bit (is_inside g.stand) ≡ 1 = ap (λ s. bit (is_inside s)) new in
      let c0 : bit (is_closing (gs t).stand) ≡ 0 = ap (λ s. bit (is_closing s)) out in
      let c1 : bit (is_closing g.stand) ≡ 0 = ap (λ s. bit (is_closing s)) new in
      let le = total_bits n (λ u. is_inside (gs u).stand) in
      let p = enter_parts phase (omega (arith, k.count)) in
      record {
        count = omega (arith, k.count, p.0);
        closers = rw p.2 (omega (arith, k.closers));
        alone = λ e. (let z : true ≡ false = sym e ∙ p.2 ∙ opened in cc);
        passes = λ u ul. changed_both (λ _ (q : Gating). is_outside q.stand ≡ false → (q.cycle ≡ cycle_of (phase + 1)) × (q.sweep ≡ is_sweep (phase + 1))) gs t g u
            (λ _ _. (cy ∙ sym p.3, sw ∙ sym p.1))
            (λ _ e. (let r = k.passes u ul e in (r.0 ∙ sym p.3, r.1 ∙ sym p.1)));
      }

  -- thread t goes out
  pub gate_leaves : (g : Gating) → (gs t).stand ≡ Inside → g.stand ≡ Outside → GateOf n (phase - 1) (changed gs t g)
  gate_leaves g is new =
      let a = total_changed (λ (q : Gating). bit (is_inside q.stand)) n gs t g tl in
      let b = total_changed (λ (q : Gating). bit (is_closing q.stand)) n gs t g tl in
      let i0 : bit (is_inside (gs t).stand) ≡ 1 = ap (λ s. bit (is_inside s)) is in
      let i1 : bit (is_inside g.stand) ≡ 0 = ap (λ s. bit (is_inside s)) new in
      let c0 : bit (is_closing (gs t).stand) ≡ 0 = ap (λ s. bit (is_closing s)) is in
      let c1 : bit (is_closing g.stand) ≡ 0 = ap (λ s. bit (is_closing s)) new in
      let p = leave_parts phase (omega (arith, k.count)) in
      record {
        count = omega (arith, k.count, p.0);
        closers = rw p.2 (omega (arith, k.closers));
        alone = λ e. (let z = k.alone (sym p.2 ∙ e) in omega (arith, p.0));
        passes = λ u ul. changed_both (λ _ (q : Gating). is_outside q.stand ≡ false → (q.cycle ≡ cycle_of (phase - 1)) × (q.sweep ≡ is_sweep (phase - 1))) gs t g u
            (λ _ e. (let z : true ≡ false = sym (ap is_outside new) ∙ e in cc))
            (λ _ e. (let r = k.passes u ul e in (r.0 ∙ sym p.3, r.1 ∙ sym p.1)));
      }

  -- thread t closes the gate
  pub gate_closes : (g : Gating) → is_closed phase ≡ false → inside_of phase ≡ 0 → (gs t).stand ≡ Outside → g.stand ≡ Closing → g.cycle ≡ cycle_of phase → g.sweep ≡ is_sweep phase → GateOf n (closed_word phase) (changed gs t g)
  gate_closes g opened none out new cy sw =
      let a = total_changed (λ (q : Gating). bit (is_inside q.stand)) n gs t g tl in
      let b = total_changed (λ (q : Gating). bit (is_closing q.stand)) n gs t g tl in
      let i0 : bit (is_inside (gs t).stand) ≡ 0 = ap (λ s. bit (is_inside s)) out in
      let i1 : bit (is_inside g.stand) ≡ 0 = ap (λ s. bit (is_inside s)) new in
      let c0 : bit (is_closing (gs t).stand) ≡ 0 = ap (λ s. bit (is_closing s)) out in
      let c1 : bit (is_closing g.stand) ≡ 1 = ap (λ s. bit (is_closing s)) new in
      let o : bit (is_closed phase) ≡ 0 = ap bit opened in
      let p = close_parts phase (omega (arith, none)) in
      record {
        count = omega (arith, k.count, p.0);
        closers = rw p.2 (omega (arith, k.closers));
        alone = λ _. p.0 ∙ none;
        passes = λ u ul. changed_both (λ _ (q : Gating). is_outside q.stand ≡ false → (q.cycle ≡ cycle_of (closed_word phase)) × (q.sweep ≡ is_sweep (closed_word phase))) gs t g u
            (λ _ _. (cy ∙ sym p.3, sw ∙ sym p.1))
            (λ _ e. (let r = k.passes u ul e in (r.0 ∙ sym p.3, r.1 ∙ sym p.1)));
      }

  -- where a thread has closed the gate, the word says so
  is_closed_by : (gs t).stand ≡ Closing → is_closed phase ≡ true
  is_closed_by is =
      let c1 : bit (is_closing (gs t).stand) ≡ 1 = ap (λ s. bit (is_closing s)) is in
      let one = total_part n (λ v. bit (is_closing (gs v).stand)) t tl in
      bit_one (is_closed phase) (omega (arith, k.closers))

  -- while the gate is closed nobody is inside, and no other thread has closed it
  pub gate_alone : (gs t).stand ≡ Closing → (u : ℕ) → u < n → (t ≡ u → ⊥) → (gs u).stand ≡ Outside
  gate_alone is u ul ne =
      let c1 : bit (is_closing (gs t).stand) ≡ 1 = ap (λ s. bit (is_closing s)) is in
      let two = total_parts n (λ v. bit (is_closing (gs v).stand)) t u tl ul ne in
      let le = bit_le (is_closed phase) in
      let none = total_part n (λ v. bit (is_inside (gs v).stand)) u ul in
      stand_out (gs u).stand (omega (arith, k.count, k.alone (is_closed_by is))) (omega (arith, k.closers))

  -- while thread t has closed the gate it is closed, nobody is inside, and the others are outside
  pub gate_closing : (gs t).stand ≡ Closing → (is_closed phase ≡ true) × (inside_of phase ≡ 0) × ((u : ℕ) → u < n → (t ≡ u → ⊥) → (gs u).stand ≡ Outside)
  gate_closing is = (is_closed_by is, k.alone (is_closed_by is), gate_alone is)

  -- thread t opens the gate again
  pub gate_opens : (g : Gating) (c : ℕ) (s : Bool) → (gs t).stand ≡ Closing → g.stand ≡ Outside → GateOf n (open_word c s) (changed gs t g)
  gate_opens g c s is new =
      let p = open_parts c s in
      let out : (u : ℕ) → u < n → (changed gs t g u).stand ≡ Outside = λ u ul. changed_both (λ _ (q : Gating). q.stand ≡ Outside) gs t g u (λ _. new) (λ ne. gate_alone is u ul ne) in
      record {
        count = total_none n (λ u. bit (is_inside (changed gs t g u).stand)) (λ u ul. ap (λ q. bit (is_inside q)) (out u ul)) ∙ sym p.0;
        closers = rw p.2 (total_none n (λ u. bit (is_closing (changed gs t g u).stand)) (λ u ul. ap (λ q. bit (is_closing q)) (out u ul)));
        alone = λ _. p.0;
        passes = λ u ul e. (let z : true ≡ false = sym (ap is_outside (out u ul)) ∙ e in cc);
      }

  -- an event that leaves the word, and the are of its thread
  pub gate_stays : (g : Gating) → g.stand ≡ (gs t).stand → (is_outside g.stand ≡ false → (g.cycle ≡ (gs t).cycle) × (g.sweep ≡ (gs t).sweep)) → GateOf n phase (changed gs t g)
  gate_stays g same rest =
      let a = total_changed (λ (q : Gating). bit (is_inside q.stand)) n gs t g tl in
      let b = total_changed (λ (q : Gating). bit (is_closing q.stand)) n gs t g tl in
      let i : bit (is_inside g.stand) ≡ bit (is_inside (gs t).stand) = ap (λ s. bit (is_inside s)) same in
      let c : bit (is_closing g.stand) ≡ bit (is_closing (gs t).stand) = ap (λ s. bit (is_closing s)) same in
      record {
        count = omega (arith, k.count);
        closers = omega (arith, k.closers);
        alone = k.alone;
        passes = λ u ul. changed_both (λ _ (q : Gating). is_outside q.stand ≡ false → (q.cycle ≡ cycle_of phase) × (q.sweep ≡ is_sweep phase)) gs t g u
            (λ e z. (let r = rest z in let p = k.passes t tl (ap is_outside (sym same) ∙ z) in (r.0 ∙ p.0, r.1 ∙ p.1)))
            (λ _ e. k.passes u ul e);
      }

  -- a thread that goes out leaves the cycle and the phase
  pub left_phase : (gs t).stand ≡ Inside → (cycle_of (phase - 1) ≡ cycle_of phase) × (is_sweep (phase - 1) ≡ is_sweep phase)
  left_phase is =
      let one : bit (is_inside (gs t).stand) ≡ 1 = ap (λ s. bit (is_inside s)) is in
      let parts = leave_parts phase (omega (arith, k.count, total_part n (λ u. bit (is_inside (gs u).stand)) t tl)) in
      (parts.3, parts.1)

  -- where a thread is inside, the word counts one
  pub inside_some : (gs t).stand ≡ Inside → 1 ≤ inside_of phase
  inside_some is =
      let one : bit (is_inside (gs t).stand) ≡ 1 = ap (λ s. bit (is_inside s)) is in
      omega (arith, k.count, total_part n (λ u. bit (is_inside (gs u).stand)) t tl)

-- where a sum is not 0, one of its parts is not
some_part : (n : ℕ) (f : ℕ → ℕ) → 1 ≤ total n f → (t : ℕ) × (t < n) × (1 ≤ f t)
some_part zero f h = absurd (omega arith)
some_part (suc n) f h = elim (cases_eq (f n) 0) [
  | inl none ↦ (let r = some_part n f (omega arith) in (r.0, omega (arith, r.1), r.2))
  | inr some ↦ (n, omega arith, omega arith)
]

stand_closing : (s : Stand) → 1 ≤ bit (is_closing s) → s ≡ Closing
stand_closing Outside h = absurd (omega arith)
stand_closing Inside h = absurd (omega arith)
stand_closing Closing h = refl

-- a closed gate was closed by one thread, and the others are outside
pub gate_closer : (n phase : ℕ) (gs : ℕ → Gating) → GateOf n phase gs → is_closed phase ≡ true → (t : ℕ) × (t < n) × ((gs t).stand ≡ Closing) × ((u : ℕ) → u < n → (t ≡ u → ⊥) → (gs u).stand ≡ Outside)
gate_closer n phase gs k closed =
    let one : bit (is_closed phase) ≡ 1 = ap bit closed in
    let r = some_part n (λ u. bit (is_closing (gs u).stand)) (omega (arith, k.closers)) in
    let is : (gs r.0).stand ≡ Closing = stand_closing (gs r.0).stand r.2 in
    (r.0, r.1, is, gate_alone n phase gs k r.0 r.1 is)
