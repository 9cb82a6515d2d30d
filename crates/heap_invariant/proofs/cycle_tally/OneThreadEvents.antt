-- What an event of one thread makes of a tally.
use Rattle.std.proofs.Common.{◌≡◌, ℕ, ◌+◌, ◌-◌, ◌*◌, ◌≤◌, ◌<◌, ◌&&◌, ◌||◌, eqb, ltb, arith, ap, sym, ◌∙◌, [], ◌∷◌, ◌++◌, subst}
use Rattle.std.proofs.lemmas.Nat.{mul-le}
use Rattle.block_store.specs.declared.Config.{Config}
use Rattle.block_store.specs.Counts.{changed, total}
use Rattle.block_store.specs.Phases.{bit}
use Rattle.block_store.proofs.Lemmas.{changed_else, changed_here, total_changed}
use Rattle.never_heap.specs.declared.Entry.{Entry}
use Rattle.never_heap.specs.GivenBlocks.{given}
use Rattle.never_heap.specs.Histories.{Did, work_in}
use Rattle.never_heap.specs.Licensed.{IsLicensedReply}
use Rattle.never_heap.specs.Steps.{blocks_of}
use Rattle.never_heap.specs.Taken.{taken_by}
use Rattle.never_heap.proofs.Lemmas.{licensed_more, right_work_more, starts_append, work_append}
use Rattle.work_account.specs.Accounts.{units_in, given_in}
use Rattle.heap_invariant.specs.cycle_tally.Entries.{entries_in}
use Rattle.heap_invariant.specs.cycle_tally.Events.{Decides, with_thread, ordered}
use Rattle.heap_invariant.specs.cycle_tally.TallyInvariant.{most_work, SpendingKept, TallyKept}
use Rattle.heap_invariant.specs.cycle_tally.Tallies.{Spending, Tally, claims, units_now, made_of, due_of}
use Rattle.heap_invariant.proofs.cycle_tally.CycleUnits.{one_more, entries_more, in_threads_more, given_here, given_then, base_same, each_changed}

-- plain arithmetic
cheaper_by : (work more due most below now limit : ℕ) → now ≡ work + more → limit ≡ below + most
    → more ≤ due → due ≤ most → work ≤ below → now ≤ limit
cheaper_by work more due most below now limit a b c d e = omega arith

-- the sums over n threads in the cycle z, where thread t becomes w
record Sums (n z : ℕ) (f : ℕ → Spending) (t : ℕ) (w : Spending) : Type 0 where
  claimed : (x : ℕ) → total n (λ u. claims x (changed f t w u)) + claims x (f t)
      ≡ total n (λ u. claims x (f u)) + claims x w
  made : total n (λ u. units_in z (changed f t w u).balance) + units_in z (f t).balance
      ≡ total n (λ u. units_in z (f u).balance) + units_in z w.balance
  given : total n (λ u. given_in z (changed f t w u).balance) + given_in z (f t).balance
      ≡ total n (λ u. given_in z (f u).balance) + given_in z w.balance
  reserved : total n (λ u. (changed f t w u).reserved) + (f t).reserved
      ≡ total n (λ u. (f u).reserved) + w.reserved
  paid : total n (λ u. made_of (changed f t w u)) + made_of (f t)
      ≡ total n (λ u. made_of (f u)) + made_of w

sums : (n z : ℕ) (f : ℕ → Spending) (t : ℕ) (w : Spending) → t < n → Sums n z f t w
sums n z f t w tl = record {
  claimed = λ x. total_changed (claims x) n f t w tl;
  made = total_changed (λ (v : Spending). units_in z v.balance) n f t w tl;
  given = total_changed (λ (v : Spending). given_in z v.balance) n f t w tl;
  reserved = total_changed (λ (v : Spending). v.reserved) n f t w tl;
  paid = total_changed made_of n f t w tl;
}

-- The counts of r go with thread t, which becomes w, in the cycle and phase of s.
pub record Goes (c : Config) (black : ℕ → ℕ) (s : Tally) (t : ℕ) (w : Spending) (r : Tally)
    : Type 0 where
  pub cursor : (0 < r.cursor) × (r.cursor ≤ c.blocks + 1)
  pub scans : (x : ℕ) → r.scanned x ≤ bit (s.sweep || eqb (r.colour x) (black s.cycle))
  pub passes : (x : ℕ) → 0 < x
      → r.passed x + claims x w + bit (s.sweep && ltb x s.cursor)
      ≡ s.passed x + claims x (s.threads t) + bit (s.sweep && ltb x r.cursor)
  pub made : units_now c.blocks r + units_in s.cycle (s.threads t).balance
      ≡ units_now c.blocks s + units_in s.cycle w.balance
  pub given : given_in s.cycle w.balance ≡ given_in s.cycle (s.threads t).balance
  pub free : s.free + (s.threads t).reserved ≤ r.free + w.reserved
  pub paid : made_of w + units_now c.blocks s ≡ made_of (s.threads t) + units_now c.blocks r

-- The phase, the cursor, the free count and the colours of r go with the threads and counts of s.
pub record Stays (c : Config) (black : ℕ → ℕ) (s r : Tally) : Type 0 where
  pub cursor : (0 < r.cursor) × (r.cursor ≤ c.blocks + 1)
  pub scans : (x : ℕ) → s.scanned x ≤ bit (r.sweep || eqb (r.colour x) (black s.cycle))
  pub passes : (x : ℕ) → 0 < x
      → bit (s.sweep && ltb x s.cursor) ≡ bit (r.sweep && ltb x r.cursor)
  pub free : s.free ≤ r.free

-- Thread t becomes w with the entry e, where all that it asked for is paid.
pub record Settles (c : Config) (rate : ℕ) (s : Tally) (t : ℕ) (w : Spending) (e : Entry)
    : Type 0 where
  pub claimed : (x : ℕ) → claims x w ≡ claims x (s.threads t)
  pub made : units_in s.cycle w.balance ≡ units_in s.cycle (s.threads t).balance
  pub given : given_in s.cycle w.balance
      ≡ given_in s.cycle (s.threads t).balance + taken_by c.width e
  pub reserved : w.reserved + taken_by c.width e ≡ (s.threads t).reserved
  pub unpaid : made_of w ≡ 0
  pub whole : made_of (s.threads t) ≡ due_of rate (s.threads t)
  pub licensed : IsLicensedReply c s.order e.reply

module _ (c : Config) (rate : ℕ) (black : ℕ → ℕ) (some : 0 < rate) (s : Tally)
    (k : TallyKept c rate black s) where
  pub goes : (t : ℕ) (w : Spending) (r : Tally) → t < c.threads → SpendingKept c rate s.cycle w
      → Goes c black s t w r → TallyKept c rate black (record (with_thread s t w) {
        cursor = r.cursor;
        free = r.free;
        colour = r.colour;
        scanned = r.scanned;
        passed = r.passed;
      })
  goes t w r tl kw q = let sum = sums c.threads s.cycle s.threads t w tl in record {
    starts = k.starts;
    some = k.some;
    each = each_changed c rate black some s k s.cycle t w k.each kw;
    cursor = q.cursor;
    scans = q.scans;
    passes = λ x pos. omega (arith, k.passes x pos, q.passes x pos, sum.claimed x);
    counted = omega (arith, k.counted, q.made, sum.made);
    handed = omega (arith, k.handed, q.given, sum.given);
    ended = k.ended;
    room = omega (arith, k.room, q.given, q.free, sum.given, sum.reserved);
    few = k.few;
    many = k.many;
    works = omega (arith, k.works, q.paid, sum.paid);
    cheap = k.cheap;
    entries = k.entries;
    right = k.right;
    licensed = k.licensed;
  }

  pub stays : (r : Tally) → Stays c black s r → TallyKept c rate black (record s {
    sweep = r.sweep;
    cursor = r.cursor;
    free = r.free;
    colour = r.colour;
  })
  stays r q = record {
    starts = k.starts;
    some = k.some;
    each = k.each;
    cursor = q.cursor;
    scans = q.scans;
    passes = λ x pos. k.passes x pos ∙ q.passes x pos;
    counted = k.counted;
    handed = k.handed;
    ended = k.ended;
    room = omega (arith, k.room, q.free);
    few = k.few;
    many = k.many;
    works = k.works;
    cheap = k.cheap;
    entries = k.entries;
    right = k.right;
    licensed = k.licensed;
  }

  work_more : (e : Entry) → work_in (s.order ++ Did e ∷ []) ≡ work_in s.order + e.work
  work_more e = work_append s.order (Did e ∷ []) ∙ ap (λ z. work_in s.order + z) (omega arith)

  cheaper : (t : ℕ) (e : Entry) → t < c.threads → Decides c t (s.threads t) e
      → work_in (s.order ++ Did e ∷ []) ≤ entries_in (s.order ++ Did e ∷ []) * most_work c rate
  cheaper t e tl d =
      let most : ℕ = most_work c rate in
      let q : entries_in (s.order ++ Did e ∷ []) * most_work c rate
      ≡ (entries_in s.order + 1) * most_work c rate =
      ap (λ z. z * most_work c rate) (entries_more s.order e) in
      let r : (entries_in s.order + 1) * most_work c rate
      ≡ entries_in s.order * most_work c rate + most_work c rate =
      one_more (entries_in s.order) (most_work c rate) in
      let o = k.each t tl in
      let product : rate * (s.threads t).asked ≤ rate * c.object =
      mul-le rate (s.threads t).asked rate c.object (omega arith) o.asked in
      cheaper_by (work_in s.order) e.work (rate * (s.threads t).asked + (s.threads t).requested)
      (most_work c rate) (entries_in s.order * most_work c rate) _ _
      (work_more e) (q ∙ r) (omega (arith, d.work, o.owed))
      (omega (arith, o.requested.few)) k.cheap

  pub decided : (t : ℕ) (w : Spending) (e : Entry) → t < c.threads
      → Decides c t (s.threads t) e → SpendingKept c rate s.cycle w → Settles c rate s t w e
      → TallyKept c rate black (ordered (with_thread s t w) (Did e))
  decided t w e tl d kw q =
      let sum = sums c.threads s.cycle s.threads t w tl in
      let here : given c.width (s.order ++ Did e ∷ []) s.cycle
      ≡ given c.width s.order s.cycle + taken_by c.width e =
      given_here c rate black some s k e in
      let base = base_same c rate black some s k (Did e) in
      let before : given c.width (s.order ++ Did e ∷ []) (s.cycle - 1)
      ≡ given c.width s.order (s.cycle - 1) =
      given_then c rate black some s k (Did e) (s.cycle - 1) (omega (arith, k.some)) in
      record {
        starts = starts_append s.order (Did e ∷ []) ∙ (let z = k.starts in omega arith);
        some = k.some;
        each = each_changed c rate black some s k s.cycle t w k.each kw;
        cursor = k.cursor;
        scans = k.scans;
        passes = λ x pos. omega (arith, k.passes x pos, q.claimed x, sum.claimed x);
        counted = omega (arith, k.counted, q.made, sum.made);
        handed = omega (arith, k.handed, q.given, sum.given);
        ended = λ z l. (let z' : given c.width (s.order ++ Did e ∷ []) z ≡ given c.width s.order z =
            given_then c rate black some s k (Did e) z l in omega (arith, k.ended z l));
        room = omega (arith, k.room, q.given, q.reserved, sum.given, sum.reserved);
        few = k.few;
        many = k.many;
        works = omega (arith, k.works, work_more e, d.work, q.unpaid, sum.paid);
        cheap = cheaper t e tl d;
        entries = in_threads_more c.threads s.order (Did e) k.entries (omega (arith, d.thread), tt);
        right = right_work_more c.width rate s.order (Did e) k.right
            (d.work ∙ q.whole ∙ ap (λ z. rate * z + (s.threads t).requested) (sym d.blocks)
            ∙ ap (λ z. rate * blocks_of c.width e.command + z) (sym d.requested));
        licensed = licensed_more c s.order (Did e) k.licensed q.licensed;
      }

-- what holds of a thread that is changed once, and twice
pub spends_here : (P : Spending → Type 0) (f : ℕ → Spending) (t : ℕ) (w : Spending) → P w → P (changed f t w t)
spends_here P f t w p = subst P (sym (changed_here f t w)) p

pub spends_twice : (P : Spending → Type 0) (f : ℕ → Spending) (t : ℕ) (w : Spending) (g : Spending → Spending) → P (g w) → P (changed (changed f t w) t (g (changed f t w t)) t)
spends_twice P f t w g p = subst P (sym (changed_here (changed f t w) t (g (changed f t w t)) ∙ ap g (changed_here f t w))) p

pub others_twice : (f : ℕ → Spending) (t : ℕ) (w v : Spending) (u : ℕ) → (t ≡ u → ⊥) → changed (changed f t w) t v u ≡ f u
others_twice f t w v u other = changed_else (changed f t w) t u v other ∙ changed_else f t u w other
