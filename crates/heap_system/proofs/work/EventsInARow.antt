-- Events in a row, one by one.
use Rattle.std.proofs.Common.{◌≡◌, ℕ, zero, suc, ◌+◌, ◌-◌, ◌<◌, ◌≤◌, true, false, ◌&&◌, eqb, List, [], ◌∷◌, ◌++◌, length, length-append, refl, sym, ap, ◌∙◌, subst, arith}
use Rattle.std.specs.Vec.{vec_capacity}
use Rattle.block_store.specs.declared.Config.{Config}
use Rattle.block_store.specs.Places.{extent, words_count}
use Rattle.heap_machine.specs.declared.op.Op.{Op}
use Rattle.heap_machine.specs.declared.Step.{Step}
use Rattle.heap_machine.specs.declared.Step.TheVariants as steps
use Rattle.heap_machine.specs.Memories.{Acts, ReadsOnly, ActsOnce}
use Rattle.heap_machine.specs.Operations.{op_at, op_place}
use Rattle.never_heap.specs.RightWork.{units_owed}
use Rattle.heap_system.specs.declared.local.Local.TheInside.{Inside}
use Rattle.heap_system.specs.declared.Turn.{Turn}
use Rattle.heap_system.specs.declared.Turn.TheVariants.{Went}
use Rattle.heap_system.specs.Parts.{Part, Rest}
use Rattle.heap_system.specs.Locals.{LocalState, IsLocal, HasGot, LocalReads, PartReads, command_behind, is_build, is_done, is_rest, is_serving, local_got, op_wanted, part_step, part_want, turn_of}
use Rattle.heap_system.specs.ThreadMemories.{has_waited, HasRun, HasRunIn, IsGoing, MakesTheNextEvent, MayRun, Ran, TellsLast}
use Rattle.heap_system.proofs.accounting.OwedAndPaid.{view_of}
use Rattle.heap_system.proofs.step_rows.WantedPlaces.{want_low}

-- the thread after events that read these words, one after the other
abbrev pub after_words : LocalState → List ℕ → LocalState
after_words l [] = l
after_words l (w ∷ ws) = after_words (local_got l w) ws

-- the event that came last was told alone
tells_last : (l : LocalState) (ws : List ℕ) (w : ℕ) (turn : Turn) → TellsLast l ws Went
    → turn ≡ turn_of (part_step (after_words l ws).config (after_words l ws).part w)
    → TellsLast l (ws ++ w ∷ []) turn
tells_last l [] w turn told is = is
tells_last l (v ∷ []) w turn told is = (told, is)
tells_last l (v ∷ u ∷ ws) w turn told is = (told.0, tells_last (local_got l v) (u ∷ ws) w turn told.1 is)

module _ {M S : Type 0} (acts : Acts M S) (s : S) where
  pub ran_ends : (m : M) (l : LocalState) (ws : List ℕ) (n : M) (k : LocalState)
      → Ran acts s m l ws n k → k ≡ after_words l ws
  ran_ends m l [] n k ran = sym ran.1
  ran_ends m l (w ∷ ws) n k ran = ran_ends ran.0 (local_got l w) ws n k ran.3

  ran_last : (m : M) (l : LocalState) (ws : List ℕ) (n : M) (k : LocalState) (w : ℕ) (o : M)
      → Ran acts s m l ws n k → acts n s (op_wanted k) w o → LocalReads k.config k w → IsGoing k
      → Ran acts s m l (ws ++ w ∷ []) o (local_got k w)
  ran_last m l [] n k w o ran acted reads going = (
    o,
    subst (λ x. acts x s (op_wanted l) w o) (sym ran.0)
        (subst (λ (x : LocalState). acts n s (op_wanted x) w o) (sym ran.1) acted),
    subst (λ (x : LocalState). LocalReads x.config x w) (sym ran.1) reads,
    (refl, ap (λ x. local_got x w) ran.1),
    subst IsGoing (sym ran.1) going,
  )
  ran_last m l (v ∷ ws) n k w o ran acted reads going =
      (ran.0, ran.1, ran.2, ran_last ran.0 (local_got l v) ws n k w o ran.3 acted reads going, ran.4)

  -- one event more
  pub run_more : (m : M) (a : LocalState) (n : M) (l : LocalState) (w : ℕ) (o : M) (b : LocalState)
      (turn : Turn) (run : HasRun acts s m a n l Went) → acts n s (op_wanted l) w o
      → LocalReads l.config l w → IsGoing l → b ≡ local_got l w
      → turn ≡ turn_of (part_step l.config l.part w)
      → (more : HasRun acts s m a o b turn) × (length more.words ≡ length run.words + 1)
  run_more m a n l w o b turn run acted reads going got is = (
    record {
      words = run.words ++ w ∷ [];
      ran = subst (λ x. Ran acts s m a (run.words ++ w ∷ []) o x) (sym got)
          (ran_last m a run.words n l w o run.ran acted reads going);
      told = tells_last a run.words w turn run.told
          (is ∙ ap (λ (x : LocalState). turn_of (part_step x.config x.part w))
          (ran_ends m a run.words n l run.ran));
    },
    length-append run.words (w ∷ []),
  )

-- What holds between the events of a pass that pays, where the code has the row in hand and the
-- numbers that it counts in place: the thread at that row.
pub record Goes {M S : Type 0} (acts : Acts M S) (s : S) (before : M) (self : LocalState) (after : M)
    (i : Inside) : Type 0 where
  pub fits : IsLocal (view_of i)
  pub rate : i.account.rate ≡ i.rate
  pub object : i.account.object ≡ i.config.object
  pub room : length i.trace.items ≤ vec_capacity i.log
  pub price : i.price ≡ units_owed i.config.width i.rate (command_behind i.trace.items i.log.items)
  pub run : HasRun acts s before self after (view_of i) Went

-- The next event of a thread, where its part is p and the code has x for its configuration.
module _ {M S : Type 0} {may : M → S → Op → Type 0} {acts : Acts M S}
    {stands : M → S → LocalState → Type 0} {m : M} {s : S} {l : LocalState} (x : Config)
    (p : Part) (same : x ≡ l.config) (at : l.part ≡ p) (lead : MakesTheNextEvent may acts stands m s l) where
  op_same : op_at (extent x) (part_want x p) ≡ op_wanted l
  op_same = ap (λ y. op_at (extent y) (part_want y p)) same
      ∙ sym (ap (λ q. op_at (extent l.config) (part_want l.config q)) at)

  pub allowed : may m s (op_at (extent x) (part_want x p))
  allowed = subst (may m s) (sym op_same) lead.allowed

  pub reads_well : ReadsOnly acts m s (op_at (extent x) (part_want x p)) (PartReads x p)
  reads_well w n acted = subst (λ y. PartReads y p w) (sym same)
      (subst (λ q. PartReads l.config q w) at
      (lead.reads w n (subst (λ o. acts m s o w n) op_same acted)).0)

  -- what an event by it was, and that it represents the thread that has moved on
  pub leads_on : (w : ℕ) (n : M) → acts m s (op_at (extent x) (part_want x p)) w n
      → acts m s (op_wanted l) w n × LocalReads l.config l w × stands n s (local_got l w)
  leads_on w n acted =
      let by = subst (λ o. acts m s o w n) op_same acted in (by, lead.reads w n by, lead.on w n by)

-- The next event where so many may be made, of which k were.
pub leads_at : {M S : Type 0} (may : M → S → Op → Type 0) (acts : Acts M S) (n k : ℕ) → k < n
    → (m : M) (s : S) (l : LocalState) → MayRun may acts (n - k) m s l → IsGoing l
    → MakesTheNextEvent may acts (MayRun may acts (n - (k + 1))) m s l
leads_at may acts n k low m s l has going =
    let more : n - k ≡ suc (n - (k + 1)) = omega (arith, low) in
    (subst (λ x. MayRun may acts x m s l) more has) going

-- none of them was made
pub none_made : {M S : Type 0} (may : M → S → Op → Type 0) (acts : Acts M S) (n : ℕ) (m : M) (s : S)
    (l : LocalState) → MayRun may acts n m s l → MayRun may acts (n - 0) m s l
none_made may acts n m s l has =
    let same : n ≡ n - 0 = omega arith in subst (λ x. MayRun may acts x m s l) same has

-- one may be made that is allowed and reads what it may
pub may_once : {M S : Type 0} (may : M → S → Op → Type 0) (acts : Acts M S) (m : M) (s : S)
    (l : LocalState) → may m s (op_wanted l)
    → ReadsOnly acts m s (op_wanted l) (LocalReads l.config l) → MayRun may acts 1 m s l
may_once may acts m s l allowed reads going = record {
  allowed = allowed;
  reads = reads;
  on = λ w n acted. tt;
}

-- and where one at most was made it is this one
pub made_once : {M S : Type 0} (acts : Acts M S) (s : S) (m : M) (l : LocalState) (n : M)
    (k : LocalState) (turn : Turn) → HasRunIn 1 acts s m l n k turn
    → ActsOnce acts m s (op_wanted l) n (λ w. HasGot l w k turn)
made_once acts s m l n k turn has = by has.0.words has.0.ran has.0.told has.1 has.2
  where
    by : (ws : List ℕ) → Ran acts s m l ws n k → TellsLast l ws turn → 0 < length ws
        → length ws ≤ 1 → ActsOnce acts m s (op_wanted l) n (λ w. HasGot l w k turn)
    by [] ran told some few = absurd (omega (arith, some))
    by (w ∷ []) ran told some few =
        (w, subst (λ x. acts m s (op_wanted l) w x) ran.3.0 ran.1, (sym ran.3.1, told))
    by (w ∷ v ∷ ws) ran told some few = absurd (omega (arith, few))

-- A memory that represents a thread may make any number of its events, and represents it then.
module _ {M S : Type 0} (may : M → S → Op → Type 0) (acts : Acts M S)
    (stands : M → S → LocalState → Type 0)
    (law : (m : M) (s : S) (l : LocalState) → stands m s l → is_done l ≡ false
    → op_place (op_wanted l) < words_count (extent l.config) → MakesTheNextEvent may acts stands m s l) where
  pub stands_may : (n : ℕ) (m : M) (s : S) (l : LocalState) → stands m s l → MayRun may acts n m s l
  stands_may zero m s l stand = tt
  stands_may (suc n) m s l stand = λ (going : IsGoing l).
      let lead = law m s l stand going.0 going.1 in
      record {
        allowed = lead.allowed;
        reads = lead.reads;
        on = λ w o acted. stands_may n o s (local_got l w) (lead.on w o acted);
      }

  pub stands_then : (s : S) (m : M) (l : LocalState) (ws : List ℕ) (n : M) (k : LocalState)
      → stands m s l → Ran acts s m l ws n k → stands n s k
  stands_then s m l [] n k stand ran =
      subst (λ x. stands x s k) ran.0 (subst (λ x. stands m s x) ran.1 stand)
  stands_then s m l (w ∷ ws) n k stand ran =
      stands_then s ran.0 (local_got l w) ws n k
      ((law m s l stand ran.4.0 ran.4.1).on w ran.0 ran.1) ran.3

-- a thread in a part
pub going_in : (l : LocalState) → IsLocal l → is_done l ≡ false → IsGoing l
going_in l k going = (going, want_low l k (op_wanted l) refl)

-- a thread in its command, or that builds, is not done
pub serving_going : (l : LocalState) → is_serving l.part ≡ true → is_done l ≡ false
serving_going l e = ap (λ b. b && eqb (length l.log) (length l.trace)) (here l.part e)
  where
    here : (p : Part) → is_serving p ≡ true → is_rest p ≡ false
    here Rest e = absurd cc
    here _ e = refl

pub building_going : (l : LocalState) → is_build l.part ≡ true → is_done l ≡ false
building_going l e = ap (λ b. b && eqb (length l.log) (length l.trace)) (here l.part e)
  where
    here : (p : Part) → is_build p ≡ true → is_rest p ≡ false
    here Rest e = absurd cc
    here _ e = refl

-- a turn that did not wait, of a thread that was not done
pub turn_went : (s : Step) → has_waited (turn_of s) ≡ false → Went ≡ turn_of s
turn_went steps.Went e = refl
turn_went steps.Over e = refl
turn_went steps.Waited e = absurd cc
turn_went steps.WaitedOver e = absurd cc

-- A loop that has made so many of these events makes one more: there it ends, or goes on.
module _ {M S : Type 0} (may : M → S → Op → Type 0) {acts : Acts M S} {s : S} {before : M}
    {self : LocalState} {m : M} {l : LocalState} (run : HasRun acts s before self m l Went)
    (most made : ℕ) (long : length run.words ≡ made) (low : made < most)
    (has : MayRun may acts (most - made) m s l) (going : IsGoing l)
    {w : ℕ} {after : M} (acted : acts m s (op_wanted l) w after) {k : LocalState} {turn : Turn}
    (got : HasGot l w k turn) where
  abbrev lead : MakesTheNextEvent may acts (MayRun may acts (most - (made + 1))) m s l
  lead = leads_at may acts most made low m s l has going

  pub more_ends : HasRunIn most acts s before self after k turn
  more_ends =
      let more = run_more acts s before self m l w after k turn run acted (lead.reads w after acted) going got.0 got.1 in
      (more.0, omega (arith, more.1), omega (arith, more.1, long, low))

  pub more_goes : has_waited turn ≡ false
      → (more : HasRun acts s before self after k Went)
      × MayRun may acts (most - (made + 1)) after s k × (length more.words ≡ made + 1)
  more_goes went =
      let step = part_step l.config l.part w in
      let on : Went ≡ turn_of step = turn_went step (sym (ap has_waited got.1) ∙ went) in
      let more = run_more acts s before self m l w after k Went run acted (lead.reads w after acted) going got.0 on in (
        more.0,
        subst (MayRun may acts (most - (made + 1)) after s) (sym got.0) (lead.on w after acted),
        more.1 ∙ ap (λ n. n + 1) long,
      )

-- two courses of a memory, one after the other
pub ran_on : {M S : Type 0} (acts : Acts M S) (s : S) (m : M) (l : LocalState) (ws : List ℕ) (n : M)
    (k : LocalState) (vs : List ℕ) (o : M) (j : LocalState)
    → Ran acts s m l ws n k → Ran acts s n k vs o j → Ran acts s m l (ws ++ vs) o j
ran_on acts s m l [] n k vs o j ran rest =
    subst (λ x. Ran acts s x l vs o j) (sym ran.0) (subst (λ y. Ran acts s n y vs o j) (sym ran.1) rest)
ran_on acts s m l (w ∷ ws) n k vs o j ran rest =
    (ran.0, ran.1, ran.2, ran_on acts s ran.0 (local_got l w) ws n k vs o j ran.3 rest, ran.4)
