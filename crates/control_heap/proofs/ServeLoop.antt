-- What the code meets that serves a command.
use Rattle.std.proofs.Common.{◌≡◌, ℕ, zero, suc, ◌+◌, ◌^◌, ◌≤◌, Bool, true, false, ◌&&◌, subst, get_or, List, [], ◌∷◌, ◌++◌, length, length-append, refl, sym, ap, ◌∙◌, arith, inl, inr}
use Rattle.std.proofs.lemmas.Bool.{cases_lt}
use Rattle.never_heap.specs.declared.Command.{Command}
use Rattle.never_heap.specs.declared.Entry.{Entry}
use Rattle.never_heap.specs.declared.Reply.{Reply}
use Rattle.never_heap.specs.Bounds.{IsCommandInBounds}
use Rattle.heap_machine.specs.Memories.{Acts}
use Rattle.heap_machine.specs.Operations.{op_place, words_after, HasActed, MayAct}
use Rattle.heap_machine.specs.declared.op.Op.{Op}
use Rattle.heap_system.specs.ThreadMemories.{HasRunOn, IsGoing, MayRun, Ran, longest}
use Rattle.heap_system.specs.declared.Turn.{Turn}
use Rattle.heap_system.specs.Locals.{LocalState, LocalReads, begun, is_done, is_rest, local_got, op_wanted}
use Rattle.block_store.specs.declared.Config.{Config}
use Rattle.heap_system.specs.Machines.{Run}
use Rattle.heap_system.specs.Lives.{objects_of}
use Rattle.heap_system.specs.Parts.{Rest}
use Rattle.heap_system.proofs.Lemmas.{ran_on, rest_is}
use Rattle.control_heap.specs.Controls.{HasLeft, HasMade, ControlOf, Machine, Served, HasAnswered, HasBegun, Stands, GoesOn, moved, moved_times, given_to}
use Rattle.control_heap.proofs.HeapAsRun.{IsSafe}
use Rattle.control_heap.proofs.CommandBound.{config_is, rests, has_answered, events_few, events_near, never_long, stays_safe}

no_longer : (b : Bool) → (b && false) ≡ false
no_longer true = refl
no_longer false = refl

-- a thread that begins a command is alone and at rest
module _ {M : Type 0} (m : Machine) (b : HasBegun M m) where
  pub begins_at_rest : m.thread.part ≡ Rest
  begins_at_rest = ap (λ (y : Machine). y.thread.part) b.same ∙ rest_is b.heap.thread.part (rests b.heap b.run b.stood)

  pub begins_undone : is_done m.thread ≡ false
  begins_undone = ap (λ (y : Machine). is_done y.thread) b.same ∙ no_longer (is_rest b.heap.thread.part)

  pub begins_alone : m.thread.config.threads ≡ 1
  begins_alone = ap (λ (y : Machine). y.thread.config.threads) b.same
      ∙ ap (λ (c : Config). c.threads) (config_is b.heap b.run b.stood) ∙ b.stood.single

module _ {M : Type 0} (m : Machine) (b : HasBegun M m) (n : ℕ) (going : GoesOn n m) where
  pub few : n ≤ 2 ^ 40
  few = never_long b.heap b.run b.stood b.command b.bounds b.left n (subst (λ x. GoesOn n x) b.same going)

  module _ (x : Machine) (at : x ≡ moved_times n m) where
    pub safe_here : IsSafe x.thread.config x.words x.thread
    safe_here =
        subst (λ y. IsSafe y.thread.config y.words y.thread) (ap (moved_times n) (sym b.same) ∙ sym at)
        (stays_safe b.heap b.run b.stood b.command b.bounds b.left n (subst (λ z. GoesOn n z) b.same going))

pub goes_more : (m : Machine) (n : ℕ) → GoesOn n m → (x : Machine) → x ≡ moved_times n m → is_done x.thread ≡ false → GoesOn (n + 1) m
goes_more m n going x at undone i il = elim (cases_lt i n) [
  | inl lower ↦ going i lower
  | inr high ↦ (let e : n ≡ i = omega (arith, il, high) in subst (λ j. is_done (moved_times j m).thread ≡ false) e (ap (λ (y : Machine). is_done y.thread) (sym at) ∙ undone))
]

pub moves_on : (m : Machine) (n : ℕ) (x : Machine) → x ≡ moved_times n m → (op : Op) → op ≡ op_wanted x.thread → (w : ℕ) → w ≡ get_or x.words (op_place op) 0 → (ws : List ℕ) → ws ≡ words_after op x.words → (l : LocalState) → l ≡ local_got x.thread w
    → record { words = ws; thread = l } ≡ moved_times (n + 1) m
moves_on m n x at op wants w reads ws acts l gets =
    let one : suc n ≡ n + 1 = omega arith in
    (λ i. record { words = acts i; thread = gets i })
    ∙ (λ i. record { words = words_after (wants i) x.words; thread = local_got x.thread (reads i) })
    ∙ (λ i. record { words = words_after (op_wanted x.thread) x.words; thread = local_got x.thread (get_or x.words (op_place (wants i)) 0) })
    ∙ ap moved at ∙ ap (λ j. moved_times j m) one

-- the words that a memory shows, and a thread
abbrev pub machine : {M : Type 0} → (M → List ℕ) → M → LocalState → Machine
machine shows m l = record { words = shows m; thread = l }

-- The memory and the thread after so many events, of which each run of them made one at least: the
-- memory made their operations and no other.
pub record Came {M : Type 0} (acts : Acts M (Unit {0})) (shows : M → List ℕ) (first : M)
    (l : LocalState) (now : M) (k : LocalState) (runs : ℕ) : Type 0 where
  pub words : List ℕ
  pub ran : Ran acts tt first l words now k
  pub events : ℕ
  pub at : machine shows now k ≡ moved_times events (machine shows first l)
  pub goes : GoesOn events (machine shows first l)
  pub many : runs ≤ events
  pub counted : events ≡ length words

module _ {M : Type 0} (may : M → Unit {0} → Op → Type 0) (acts : Acts M (Unit {0}))
    (shows : M → List ℕ)
    (allows : (m : M) (op : Op) → MayAct (shows m) op → may m tt op)
    (keeps : (m : M) (op : Op) (w : ℕ) (n : M) → acts m tt op w n → HasActed (shows m) op w (shows n))
    (first : M) (l : LocalState) (b : HasBegun M (machine shows first l)) where
  abbrev m : Machine
  m = machine shows first l

  on : (n : ℕ) (x : M) (t : LocalState) → machine shows x t ≡ moved_times n m → (w : ℕ) (y : M)
      → acts x tt (op_wanted t) w y → machine shows y (local_got t w) ≡ moved_times (n + 1) m
  on n x t at w y acted =
      let has = keeps x (op_wanted t) w y acted in
      moves_on m n (machine shows x t) at (op_wanted t) refl w has.0 (shows y) has.1 (local_got t w) refl

  -- any number of events may come after these
  pub may_run : (k n : ℕ) (x : M) (t : LocalState) → machine shows x t ≡ moved_times n m
      → GoesOn n m → MayRun may acts k x tt t
  may_run zero n x t at goes = tt
  may_run (suc k) n x t at goes = λ (going : IsGoing t).
      let safe = safe_here m b n goes (machine shows x t) at in
      record {
        allowed = allows x (op_wanted t) (safe.0, safe.1);
        reads = λ w after acted.
            subst (λ y. LocalReads t.config t y) (sym (keeps x (op_wanted t) w after acted).0) safe.2;
        on = λ w after acted. may_run k (n + 1) after (local_got t w) (on n x t at w after acted)
            (goes_more m n goes (machine shows x t) at going.0);
      }

  -- and those that came
  came : (n : ℕ) (x : M) (t : LocalState) → machine shows x t ≡ moved_times n m → GoesOn n m
      → (ws : List ℕ) (y : M) (u : LocalState) → Ran acts tt x t ws y u
      → (machine shows y u ≡ moved_times (n + length ws) m) × GoesOn (n + length ws) m
  came n x t at goes [] y u ran =
      let same : n ≡ n + 0 = omega arith in (
        (λ i. machine shows (sym ran.0 i) (sym ran.1 i)) ∙ at ∙ ap (λ j. moved_times j m) same,
        subst (λ j. GoesOn j m) same goes,
      )
  came n x t at goes (w ∷ ws) y u ran =
      let rest = came (n + 1) ran.0 (local_got t w) (on n x t at w ran.0 ran.1)
      (goes_more m n goes (machine shows x t) at ran.4.0) ws y u ran.3 in
      let same : n + 1 + length ws ≡ n + suc (length ws) = omega arith in (
        rest.0 ∙ ap (λ j. moved_times j m) same,
        subst (λ j. GoesOn j m) same rest.1,
      )

  -- a run more
  pub came_more : (x : M) (t : LocalState) (runs : ℕ) → Came acts shows first l x t runs
      → (y : M) (u : LocalState) (turn : Turn) → HasRunOn acts tt x t y u turn
      → Came acts shows first l y u (runs + 1)
  came_more x t runs is y u turn has =
      let all = came is.events x t is.at is.goes has.0.words y u has.0.ran in
      record {
        words = is.words ++ has.0.words;
        ran = ran_on acts tt first l is.words x t has.0.words y u is.ran has.0.ran;
        events = is.events + length has.0.words;
        at = all.0;
        goes = all.1;
        many = (let more = is.many in let some = has.1 in omega (arith, more, some));
        counted = ap (λ n. n + length has.0.words) is.counted ∙ sym (length-append is.words has.0.words);
      }

  -- before the first event
  pub not_yet : Came acts shows first l first l 0
  not_yet = record {
    words = [];
    ran = (refl, refl);
    events = 0;
    at = refl;
    goes = λ i low. absurd (omega (arith, low));
    many = omega arith;
    counted = refl;
  }

  -- the first run of events, which is not counted
  pub came_first : (y : M) (u : LocalState) (turn : Turn) → HasRunOn acts tt first l y u turn
      → Came acts shows first l y u 0
  came_first y u turn has =
      let is = came_more first l 0 not_yet y u turn has in
      record {
        words = is.words;
        ran = is.ran;
        events = is.events;
        at = is.at;
        goes = is.goes;
        many = omega arith;
        counted = is.counted;
      }

  -- and it may be made
  pub may_begin : MayRun may acts longest first tt l
  may_begin = may_run longest 0 first l refl (λ i low. absurd (omega (arith, low)))

-- the heap after a command
abbrev pub behind_it : {M : Type 0} → ControlOf M → Command → Machine → M → ControlOf M
behind_it h k z m = record { config = h.config; memory = m; words = z.words; thread = z.thread; count = h.count + 1; objects = h.objects + objects_of k }

module _ {M : Type 0} (h now : ControlOf M) (same : h ≡ now) (k : Command) (z : Machine) (m : M)
    (is : Served (given_to h k) z) where
  -- the reply is the one of each run for which the heap stood
  pub all_answered : (d : Entry) (a : Reply) → a ≡ (get_or z.thread.log 0 d).reply
      → IsCommandInBounds now.config k → HasLeft now k → HasAnswered now k a (behind_it h k z m)
  all_answered d a e =
      subst (λ (x : ControlOf M). IsCommandInBounds x.config k → HasLeft x k → HasAnswered x k a (behind_it h k z m)) same
      (λ fits left r st. has_answered h r st k fits left z m is d a e (behind_it h k z m) refl)

  -- and what was made is what its bound has room for
  pub all_made : (acts : Acts M (Unit {0})) (r : Run) → Stands h r → (words : List ℕ)
      → Ran acts tt h.memory (begun k h.thread) words m z.thread → is.events ≡ length words
      → IsCommandInBounds now.config k → HasLeft now k → HasMade acts now k (behind_it h k z m)
  all_made acts r st words ran counted =
      subst (λ (x : ControlOf M). IsCommandInBounds x.config k → HasLeft x k → HasMade acts x k (behind_it h k z m)) same
      (λ fits left. record {
        words = words;
        ran = ran;
        few = events_few h r st k fits left z m is (length words) counted;
        near = events_near h r st k fits left z m is (length words) counted;
      })
