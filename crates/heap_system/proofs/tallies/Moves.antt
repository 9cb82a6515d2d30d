-- How the event of a part moves a tally: not at all, or by one event of the tally or a few.
use Rattle.std.proofs.Common.{◌≡◌, ℕ, Bool, false, ◌&&◌, List, [], ◌++◌, append-nil, refl, sym, ap, ◌∙◌, arith}
use Rattle.block_store.specs.declared.Config.{Config}
use Rattle.block_store.specs.Colours.{black_word}
use Rattle.block_store.specs.Heaps.{Heap, put_at}
use Rattle.block_store.specs.Phases.{is_sweep, cycle_of}
use Rattle.block_store.specs.Places.{Phase, Cursor, FreeCount, ColourOf}
use Rattle.never_heap.specs.RightWork.{requested_units}
use Rattle.never_heap.specs.Histories.{HistoryItem}
use Rattle.never_heap.specs.Steps.{blocks_of}
use Rattle.heap_machine.specs.Gating.{is_inside}
use Rattle.work_account.specs.Accounts.{Balance}
use Rattle.heap_invariant.specs.cycle_tally.Events.{Event, run, Guarded}
use Rattle.heap_invariant.specs.cycle_tally.Tallies.{Spending, Tally, units_now, made_of}
use Rattle.heap_invariant.proofs.Lemmas.{run_kept}
use Rattle.heap_system.specs.Parts.{Part}
use Rattle.heap_system.specs.Locals.{Effect, Open, view, paid_part, spent_got, balance_got}
use Rattle.heap_system.specs.Machines.{starts_by}
use Rattle.heap_system.specs.Naming.{Naming, Begun}
use Rattle.heap_system.specs.Pictures.{stand_of, work_in_hand}
use Rattle.heap_system.proofs.accounting.Balances.{both_parts}
use Rattle.heap_system.proofs.invariant.SeenAndKept.{Seen, items_told}
use Rattle.heap_system.proofs.accounting.TallyLaw.{reserved_for, IsSpending, IsTallyOf, Counted, TallyEvent, asked_got, scans_at, passes_at, more_if, in_cycle, past_by, Asking, asking}

-- the words that a tally counts are the same
pub record SameWords (h new : Heap) : Type 0 where
  pub cycle : cycle_of (new Phase) ≡ cycle_of (h Phase)
  pub sweep : is_sweep (new Phase) ≡ is_sweep (h Phase)
  pub cursor : new Cursor ≡ h Cursor
  pub free : new FreeCount ≡ h FreeCount
  pub colour : (x : ℕ) → new (ColourOf x) ≡ h (ColourOf x)

pub same_words : (h : Heap) → SameWords h h
same_words h = record { cycle = refl; sweep = refl; cursor = refl; free = refl; colour = λ x. refl }

-- a write of the phase word that leaves the cycle and the phase
pub phase_words : (h : Heap) (v : ℕ) → cycle_of v ≡ cycle_of (h Phase) → is_sweep v ≡ is_sweep (h Phase) → SameWords h (put_at h Phase v)
phase_words h v cycle sweep = record { cycle = cycle; sweep = sweep; cursor = refl; free = refl; colour = λ x. refl }

-- a thread at a part that is, claims and has reserved the same
pub spends_on : (c : Config) (p q : Part) (b : Balance) (asked : Asking) (w : Spending) → is_inside (stand_of c p) ≡ is_inside (stand_of c q) → (work_in_hand c p).low ≡ (work_in_hand c q).low → (work_in_hand c p).high ≡ (work_in_hand c q).high
    → reserved_for c.width (view c p).build ≡ reserved_for c.width (view c q).build → IsSpending c p b asked w → IsSpending c q b asked w
spends_on c p q b asked w inside low high reserved own = record { inside = own.inside ∙ inside; account = own.account; asked = own.asked; requested = own.requested; idled = own.idled; low = own.low ∙ low; high = own.high ∙ high; reserved = own.reserved ∙ reserved }

-- an item that is not added
pub nothing_told : (order items starts : List HistoryItem) → items ≡ [] → starts ≡ [] → order ++ (items ++ starts) ≡ order
nothing_told order items starts none still = ap (λ xs. order ++ (xs ++ starts)) none ∙ ap (λ xs. order ++ xs) still ∙ append-nil order

-- where no cycle starts and no unit is made the counts stay
pub no_more : (n : Naming) (unit b : Bool) (count : ℕ) → starts_by n ≡ [] → unit ≡ false → count ≡ in_cycle n (more_if (unit && b) count)
no_more Begun unit b count still none = absurd cc
no_more _ unit b count still none = rw none refl

pub same_past : (n : Naming) (now past : ℕ) → starts_by n ≡ [] → past ≡ past_by n now past
same_past Begun now past still = absurd cc
same_past _ now past still = refl

module _ (c : Config) (rate : ℕ) (s : Seen c) (p : Part) (before : Tally) (k : Counted c rate s p before) where
  -- what the thread has made
  pub paid_by : made_of (before.threads s.thread) ≡ s.spent
  paid_by =
      let paid : (before.threads s.thread).balance.paid ≡ paid_part (requested_units s.command) s.spent = ap (λ (b : Balance). b.paid) k.own.account ∙ s.account in
      omega (arith, paid, k.own.idled, both_parts (requested_units s.command) s.spent)

  -- the order of an event that decides nothing and starts no cycle
  pub told_none : (e : Effect) → e.verdict ≡ Open → starts_by e.naming ≡ [] → before.order ≡ s.order ++ (items_told s.graph s.thread s.command s.spent e.verdict ++ starts_by e.naming)
  told_none e undecided still = k.of.order ∙ sym (nothing_told s.order _ _ (ap (items_told s.graph s.thread s.command s.spent) undecided) still)

  -- nothing that the tally counts changes
  pub stays : (new : Heap) (e : Effect) (q : Part) (next : Asking) → SameWords s.heap new → e.verdict ≡ Open → starts_by e.naming ≡ [] → e.unit ≡ false
      → IsSpending c q (balance_got e (requested_units s.command) (blocks_of c.width s.command) s.balance) (asked_got e.reply (asking c s.command (spent_got e.reply e.unit s.spent)) next) (before.threads s.thread)
      → TallyEvent c rate s new e q next before
  stays new e q next same undecided still none own = record {
    tally = before;
    kept = k.kept;
    of = record {
      cycle = k.of.cycle ∙ sym same.cycle;
      sweep = k.of.sweep ∙ sym same.sweep;
      cursor = k.of.cursor ∙ sym same.cursor;
      free = k.of.free ∙ sym same.free;
      colour = λ x. k.of.colour x ∙ sym (same.colour x);
      order = told_none e undecided still;
    };
    own = own;
    others = λ u other. refl;
    scanned = λ x. no_more e.naming e.unit _ (before.scanned x) still none;
    passed = λ x. no_more e.naming e.unit _ (before.passed x) still none;
    past = same_past e.naming _ before.past still;
  }

  -- the tally moves by these events, which leave the other threads
  pub moves : (es : List Event) → Guarded c rate black_word before es → (new : Heap) (e : Effect) (q : Part) (next : Asking)
      → IsTallyOf new (s.order ++ (items_told s.graph s.thread s.command s.spent e.verdict ++ starts_by e.naming)) (run c rate black_word before es)
      → IsSpending c q (balance_got e (requested_units s.command) (blocks_of c.width s.command) s.balance) (asked_got e.reply (asking c s.command (spent_got e.reply e.unit s.spent)) next) ((run c rate black_word before es).threads s.thread)
      → ((u : ℕ) → (s.thread ≡ u → ⊥) → (run c rate black_word before es).threads u ≡ before.threads u)
      → ((x : ℕ) → (run c rate black_word before es).scanned x ≡ in_cycle e.naming (more_if (scans_at s.heap new e x) (before.scanned x)))
      → ((x : ℕ) → (run c rate black_word before es).passed x ≡ in_cycle e.naming (more_if (passes_at s.heap e (before.threads s.thread) x) (before.passed x)))
      → (run c rate black_word before es).past ≡ past_by e.naming (units_now c.blocks before) before.past
      → TallyEvent c rate s new e q next before
  moves es guarded new e q next of own others scanned passed past = record {
    tally = run c rate black_word before es;
    kept = run_kept c rate black_word k.some k.plan es before k.kept guarded;
    of = of;
    own = own;
    others = others;
    scanned = scanned;
    passed = passed;
    past = past;
  }
