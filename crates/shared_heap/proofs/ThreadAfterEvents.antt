-- A seat's thread after events in a row.
use Rattle.std.proofs.Common.{◌≡◌, ℕ, ◌+◌, List, [], ◌∷◌, length, refl, subst, sym, ap, ◌∙◌, arith}
use Rattle.atomic_table.specs.Table as table
use Rattle.atomic_table.specs.Seated.{TableId}
use Rattle.never_heap.specs.declared.Command.{Command}
use Rattle.never_heap.specs.declared.Entry.{Entry}
use Rattle.heap_machine.specs.declared.op.Op.{Op}
use Rattle.heap_machine.specs.Memories.{Acts}
use Rattle.heap_system.specs.ThreadMemories.{Ran}
use Rattle.heap_system.specs.Locals.{LocalState, local_got, op_wanted}
use Rattle.control_heap.proofs.DroppedHistory.{behind_done, behind_got}
use Rattle.shared_heap.specs.declared.rules.SeenHistory.{SeenHistory}
use Rattle.shared_heap.specs.declared.rules.View.{View}
use Rattle.shared_heap.specs.Shared.{AllRead, AllSeenIn, behind, got_of, held, later_past, one_view, stepped_past}
use Rattle.shared_heap.specs.Ports.{HasTurned, HasGoneOn}
use Rattle.shared_heap.specs.Turns.{GoesFar, LastWaited, MadeTurns}
use Rattle.shared_heap.proofs.Views.{starts_itself, starts_on}

pub gone_nowhere : (me : table.Me Command View) (l : LocalState) → HasGoneOn me l [] me l
gone_nowhere me l = record {
  front = λ ks es p long knows. record {
    now = p.seen;
    turns = p.span.last;
    knows = knows ∙ ap (λ o. (one_view (held (behind ks es l) (later_past p.seen p.span.last o p)) [], [])) (let e : p.span.own ≡ p.span.own + 0 = omega arith in e);
    more = starts_itself p.seen;
    made = refl;
  };
  trace = refl;
  config = refl;
  thread = refl;
  before = refl;
}

module _ {M S : Type 0} (acts : Acts M S) (me : M → table.Me Command View) (own : M → TableId) (id : M → ℕ)
    (turned : (m : M) (s : S) (o : Op) (w : ℕ) (n : M) → acts m s o w n
    → HasTurned (own m) (id m) (me m) w (own n) (id n) (me n)) where
  pub ran_on : (s : S) (m : M) (l : LocalState) (ws : List ℕ) (n : M) (k : LocalState) → Ran acts s m l ws n k → HasGoneOn (me m) l ws (me n) k
  ran_on s m l [] n k ran =
      subst (λ x. HasGoneOn (me m) l [] (me x) k) ran.0 (subst (λ x. HasGoneOn (me m) l [] (me m) x) ran.1 (gone_nowhere (me m) l))
  ran_on s m l (w ∷ ws) n k ran =
      let by = turned m s (op_wanted l) w ran.0 ran.1 in
      let rest = ran_on s ran.0 (local_got l w) ws n k ran.3 in
      record {
        front = λ ks es p long knows.
            (let step = by.2 in
            let p1 : SeenHistory = stepped_past step.now step.turns p in
            let next = step.moved ∙ ap (λ x. got_of w step.now step.turns x) knows ∙ ap (λ y. (one_view (held y p1) [], [])) (behind_got ks es long l w) in
            let first = (subst (λ (x : table.Me Command View). AllSeenIn step.now x.0.threads) knows step.seen).0 in
            let reads = (subst (λ (x : table.Me Command View). AllRead x.0.threads w) knows step.reads).0 in
            let two = rest.front ks es p1 long next in
            let sum : p.span.own + 1 + length ws ≡ p.span.own + length (w ∷ ws) = omega arith in
            record {
              now = two.now;
              turns = two.turns;
              knows = two.knows ∙ ap (λ o. (one_view (held (behind ks es k) (later_past two.now two.turns o p)) [], [])) sum;
              more = starts_on p.seen step.now two.now first two.more;
              made = (behind_done ks es long l ∙ ran.4.0, reads, subst (λ x. MadeTurns x ws (behind ks es k)) (sym (behind_got ks es long l w)) two.made);
            });
        trace = rest.trace;
        config = rest.config;
        thread = rest.thread;
        before = rest.before;
      }

-- the last event waits, whatever commands and entries come before
module _ (ks : List Command) (es : List Entry) (long : length ks ≡ length es) where
  waited_behind : (l : LocalState) (ws : List ℕ) → LastWaited l ws → LastWaited (behind ks es l) ws
  waited_behind l [] is = is
  waited_behind l (w ∷ []) is = is
  waited_behind l (w ∷ v ∷ ws) is = subst (λ x. LastWaited x (v ∷ ws)) (sym (behind_got ks es long l w)) (waited_behind (local_got l w) (v ∷ ws) is)

  pub far_behind : (most : ℕ) (l : LocalState) (ws : List ℕ) (k : LocalState) → GoesFar most l ws k → GoesFar most (behind ks es l) ws (behind ks es k)
  far_behind most l ws k far going few = waited_behind l ws (far (sym (behind_done ks es long k) ∙ going) few)
