-- Whether some of a few numbers is not 0, and that nobody is inside where every thread is outside.
use Rattle.std.proofs.Common.{◌≡◌, ℕ, zero, suc, ◌+◌, ◌-◌, ◌<◌, ◌≤◌, Bool, true, false, eq-eqb, ne_eqb, refl, sym, ap, ◌∙◌, arith, inl, inr}
use Rattle.std.proofs.lemmas.Bool.{cases_eq}
use Rattle.block_store.specs.Phases.{bit, inside_of, is_closed}
use Rattle.block_store.specs.Places.{Phase}
use Rattle.block_store.specs.declared.Config.{Config}
use Rattle.block_store.proofs.Lemmas.{bit_zero, total_none}
use Rattle.heap_machine.specs.Gating.{Stand, Gating, Outside, Inside, Closing, is_outside, is_inside, is_closing}
use Rattle.heap_system.specs.Parts.{Part}
use Rattle.heap_system.specs.Pictures.{gating, stand_of}
use Rattle.heap_system.proofs.invariant.SeenAndKept.{Seen}
use Rattle.heap_system.proofs.alone.LoneThread.{some, IsOfPass, Alone}
use Rattle.rate_plan.specs.solo_bound.Moves.{Spot, Lone}

pub some_none : (f : ℕ → ℕ) (n i : ℕ) → ((v : ℕ) → i ≤ v → v < i + n → f v ≡ 0) → some f i n ≡ false
some_none f zero i none = refl
some_none f (suc n) i none =
    rw (eq-eqb (f i) 0 (none i (omega arith) (omega arith)))
    (some_none f n (i + 1) (λ v low up. none v (omega arith) (omega arith)))

pub some_first : (f : ℕ → ℕ) (n i : ℕ) → 0 < n → 0 < f i → some f i n ≡ true
some_first f zero i more first = absurd (omega arith)
some_first f (suc n) i more first = rw (ne_eqb (f i) 0 (λ e. omega arith)) refl

pub some_same : (f g : ℕ → ℕ) (n i : ℕ) → ((v : ℕ) → i ≤ v → v < i + n → f v ≡ g v)
    → some f i n ≡ some g i n
some_same f g zero i same = refl
some_same f g (suc n) i same =
    let first : f i ≡ g i = same i (omega arith) (omega arith) in
    let rest = some_same f g n (i + 1) (λ v low up. same v (omega arith) (omega arith)) in
    rw (first, rest) refl

-- after a number that is 0
pub some_next : (f : ℕ → ℕ) (n i : ℕ) → f i ≡ 0 → 0 < n → some f i n ≡ some f (i + 1) (n - 1)
some_next f zero i none more = absurd (omega arith)
some_next f (suc n) i none more =
    let less : suc n - 1 ≡ n = omega arith in
    rw (eq-eqb (f i) 0 none) (ap (some f (i + 1)) (sym less))

pub same_lone : (z : Lone) (x : Spot) (o : ℕ) (b r : Bool) → z.spot ≡ x → z.owed ≡ o
    → z.sweep ≡ b → z.ready ≡ r → z ≡ record { spot = x; owed = o; sweep = b; ready = r }
same_lone z x o b r p q v w =
    λ i. record { spot = p i; owed = q i; sweep = v i; ready = w i }

stands_out : (s : Stand) → is_outside s ≡ true → (bit (is_inside s) ≡ 0) × (bit (is_closing s) ≡ 0)
stands_out Outside out = (refl, refl)
stands_out Inside out = absurd (let z : false ≡ true = out in cc)
stands_out Closing out = absurd (let z : false ≡ true = out in cc)

-- a thread outside that is alone finds the gate open, and nobody inside
pub record IsOpen (w : ℕ) : Type 0 where
  pub nobody : inside_of w ≡ 0
  pub opened : is_closed w ≡ false

module _ (c : Config) (s : Seen c) (alone : Alone c s) where
  each_out : is_outside (s.gatings s.thread).stand ≡ true
      → (u : ℕ) → u < c.threads → is_outside (s.gatings u).stand ≡ true
  each_out out u low = elim (cases_eq s.thread u) [
    | inl e ↦ ap (λ v. is_outside (s.gatings v).stand) (sym e) ∙ out
    | inr ne ↦ alone.others u low ne
  ]

  pub open_here : is_outside (s.gatings s.thread).stand ≡ true → IsOpen (s.heap Phase)
  open_here out =
      let none = total_none c.threads (λ u. bit (is_inside (s.gatings u).stand))
      (λ u low. (stands_out (s.gatings u).stand (each_out out u low)).0) in
      let shut = total_none c.threads (λ u. bit (is_closing (s.gatings u).stand))
      (λ u low. (stands_out (s.gatings u).stand (each_out out u low)).1) in
      record {
        nobody = sym s.gate.count ∙ none;
        opened = bit_zero (is_closed (s.heap Phase)) (sym s.gate.closers ∙ shut);
      }

-- a thread that is not outside has the cycle and phase of the word
pub has_pass : (c : Config) (s : Seen c) (p : Part) → s.gatings s.thread ≡ gating c s.pass p
    → is_outside (stand_of c p) ≡ false → IsOfPass s.heap s.pass
has_pass c s p is out =
    let both = s.gate.passes s.thread s.low (ap (λ (g : Gating). is_outside g.stand) is ∙ out) in
    (sym both.0 ∙ ap (λ (g : Gating). g.cycle) is, sym both.1 ∙ ap (λ (g : Gating). g.sweep) is)
