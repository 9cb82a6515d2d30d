-- A step of the table keeps the rule: the list of turns is longer by the thread's number.
use Rattle.std.proofs.Common.{◌≡◌, ◌≢◌, ℕ, zero, suc, ◌≤◌, ◌<◌, ◌+◌, ◌-◌, ◌%◌, ◌^◌, true, false, eqb, refl, arith, subst, sym, ap, ◌∙◌, List, [], ◌∷◌, ◌++◌, length, get_or, set, inl, inr, ⊎_elim, eq-eqb, ne_eqb, get_or-set_same, get_or-set_other}
use Rattle.std.proofs.lemmas.List.{set-get_or}
use Rattle.std.proofs.lemmas.Bool.{cases_Bool}
use mathlib.Core.Option.{some, some-injective, some-ne-none}
use lib.ListN.{get_elem?}
use Rattle.atomic_table.specs.Table as table
use Rattle.atomic_table.proofs.Lists.{at_set, at_snoc}
use Rattle.block_store.specs.declared.Config.{Config}
use Rattle.block_store.specs.Counts.{times}
use Rattle.block_store.specs.Phases.{bit}
use Rattle.heap_machine.specs.declared.op.Op.{Op}
use Rattle.heap_machine.specs.declared.op.Op.TheVariants as ops
use Rattle.heap_machine.specs.Operations.{op_place, words_after, SumFits}
use Rattle.heap_system.specs.Locals.{LocalState, is_done, part_step, turn_of, local_got, op_wanted}
use Rattle.heap_system.specs.Machines.{State, no_local, local_at, next, turned, opened, IsJob, IsRunOf}
use Rattle.heap_system.specs.Systems.{Whole, traces_of, IsReached}
use Rattle.heap_system.proofs.Lemmas.{after_last, reached_kept, turn_facts, turn_made, turned_traces}
use Rattle.atom_board.proofs.InTime.{in_time, own_more, few_more}
use Rattle.atom_board.specs.LoneTurns.{EndsAlone}
use Rattle.atom_board.specs.declared.rules.ThreadView.{ThreadView}
use Rattle.atom_board.specs.declared.rules.View.{View}
use Rattle.atom_board.specs.Boards.{IsStateAfter, HeldFits, AllFit, helds_of, seats_of, BoardKept, held, no_view, one_view, first_in, rest_in, first_of, rest_of, joined, moves_on, written, found_by, table_after, MayGo, IsLonger}

sum_mod : (w v : ℕ) → w + v < 2 ^ 64 → w + v ≡ (w + v) % 2 ^ 64
sum_mod w v low = omega arith

difference_mod : (w v : ℕ) → v ≤ w → w < 2 ^ 64 → w - v ≡ (w + (2 ^ 64 - v)) % 2 ^ 64
difference_mod w v low small = omega arith

-- an operation on the words is one write
pub one_write : (o : Op) (ws : List ℕ) → SumFits o (get_or ws (op_place o) 0) → get_or ws (op_place o) 0 < 2 ^ 64 → words_after o ws ≡ set ws (op_place o) (written o (get_or ws (op_place o) 0))
one_write (ops.Load i) ws fits low = sym (set-get_or ws i 0)
one_write (ops.Exchange i v) ws fits low = refl
one_write (ops.CompareExchange i old v) ws fits low = elim (cases_Bool (eqb (get_or ws i 0) old)) [
  | inl is ↦ rw is refl
  | inr is ↦ rw is (sym (set-get_or ws i 0))
]
one_write (ops.FetchAdd i v) ws fits low = ap (set ws i) (sum_mod (get_or ws i 0) v fits)
one_write (ops.FetchSub i v) ws fits low = ap (set ws i) (difference_mod (get_or ws i 0) v fits low)

times_last : (t u : ℕ) (ts : List ℕ) → times t (ts ++ u ∷ []) ≡ times t ts + bit (eqb t u)
times_last t u [] = omega arith
times_last t u (v ∷ ts) = omega (arith, times_last t u ts)

-- one turn more
turned_after : (c : Config) (ts : List ℕ) (s : State) (t : ℕ) → IsStateAfter c ts s → IsStateAfter c (ts ++ t ∷ []) (turned c t s)
turned_after c ts s t k = record {
  job = subst (λ x. IsJob c x) (sym (turned_traces c t s)) k.job;
  run = next c t k.run;
  by_turns = subst (λ x. IsRunOf c x (ts ++ t ∷ []) (next c t k.run)) (sym (turned_traces c t s)) (record {
    first = k.by_turns.first;
    opening = k.by_turns.opening;
    turns = ap (next c t) k.by_turns.turns ∙ sym (after_last c (opened c k.by_turns.first) ts t);
  });
  state = ap (turned c t) k.state;
}

pub reached : (c : Config) (ts : List ℕ) (s : State) → IsStateAfter c ts s → IsReached c s
reached c ts s k = record { job = k.job; turns = ts; run = k.run; by_turns = k.by_turns; state = k.state }

-- a seat's threads t are at most all
pub seat_part : (t : ℕ) (views : List View) (id : ℕ) (v : View) → get_elem? views id ≡ some v → helds_of t v.locals ≤ seats_of t views
seat_part t [] id v e = absurd (some-ne-none v (sym e))
seat_part t (u ∷ us) zero v e = let s : helds_of t u.locals ≡ helds_of t v.locals = ap (λ (w : View). helds_of t w.locals) (some-injective u v e) in omega arith
seat_part t (u ∷ us) (suc id) v e = omega (arith, seat_part t us id v e)

-- two seats' threads t are at most all
seat_parts : (t : ℕ) (views : List View) (i j : ℕ) (v w : View) → get_elem? views i ≡ some v → get_elem? views j ≡ some w → i ≢ j → helds_of t v.locals + helds_of t w.locals ≤ seats_of t views
seat_parts t [] i j v w e f ne = absurd (some-ne-none v (sym e))
seat_parts t (u ∷ us) zero zero v w e f ne = absurd (ne refl)
seat_parts t (u ∷ us) zero (suc j) v w e f ne = let s : helds_of t u.locals ≡ helds_of t v.locals = ap (λ (x : View). helds_of t x.locals) (some-injective u v e) in omega (arith, seat_part t us j w f)
seat_parts t (u ∷ us) (suc i) zero v w e f ne = let s : helds_of t u.locals ≡ helds_of t w.locals = ap (λ (x : View). helds_of t x.locals) (some-injective u w f) in omega (arith, seat_part t us i v e)
seat_parts t (u ∷ us) (suc i) (suc j) v w e f ne = omega (arith, seat_parts t us i j v w e f (λ k. ne (ap suc k)))

-- a sum over the views after one has changed
pub seats_set : (t : ℕ) (views : List View) (id : ℕ) (v w : View) → get_elem? views id ≡ some v → seats_of t (set views id w) + helds_of t v.locals ≡ seats_of t views + helds_of t w.locals
seats_set t [] id v w e = absurd (some-ne-none v (sym e))
seats_set t (u ∷ us) zero v w e = let s : helds_of t u.locals ≡ helds_of t v.locals = ap (λ (x : View). helds_of t x.locals) (some-injective u v e) in omega arith
seats_set t (u ∷ us) (suc id) v w e = omega (arith, seats_set t us id v w e)

-- a turn of t leaves the other threads, and their counts
others_fit : (c : Config) (ls : List LocalState) (ts : List ℕ) (t : ℕ) (l : LocalState) (hs : List ThreadView) → helds_of t hs ≡ 0 → AllFit c ls ts hs → AllFit c (set ls t l) (ts ++ t ∷ []) hs
others_fit c ls ts t l [] none fit = tt
others_fit c ls ts t l (h ∷ hs) none fit =
    let f = fit.0 in
    let apart : eqb t h.local.thread ≡ false = elim (cases_Bool (eqb t h.local.thread)) [ inl is ↦ absurd (let b : bit (eqb t h.local.thread) ≡ 1 = ap bit is in omega arith) | inr is ↦ is ] in
    let ne : h.local.thread ≡ t → ⊥ = λ e. let b : true ≡ false = sym (eq-eqb t h.local.thread (sym e)) ∙ apart in cc in
    let count : times h.local.thread (ts ++ t ∷ []) ≡ times h.local.thread ts = times_last h.local.thread t ts ∙ rw (ne_eqb h.local.thread t ne) (omega arith) in
    ((f.0, f.1 ∙ sym (get_or-set_other ls t h.local.thread l h.local ne), f.2 ∙ sym count), others_fit c ls ts t l hs (omega arith) fit.1)

-- a turn keeps the rule, and the list of turns is longer by the thread's number
abbrev TurnKept : (k : Whole) (s : table.State Unit View) → BoardKept k s → ℕ → ℕ → LocalState → Type 0
TurnKept k s kept id n l =
    IsLonger k s kept id n l × moves_on (one_view l n, []) (found_by l s) (one_view (local_got l (found_by l s)) (n + 1), [])

pub turn_keeps : (k : Whole) (s : table.State Unit View) (kept : BoardKept k s) (id n : ℕ) (l : LocalState) → MayGo s id n l → TurnKept k s kept id n l
turn_keeps k s kept id n l may =
    let at = may.seat in
    let going = may.going in
    let c = k.config in
    let ls = kept.locals in
    let ts = kept.turns in
    let t = l.thread in
    let st : State = record { words = s.words; locals = ls } in
    let f : HeldFits c ls ts (held l n) = (kept.each id (one_view l n) at).0 in
    let tl : t < c.threads = f.0 in
    let r : IsReached c st = reached c ts st kept.after in
    let facts = turn_facts c st t l r tl f.1 in
    let w : ℕ = get_or s.words (op_place (op_wanted l)) 0 in
    let new : LocalState = local_got l w in
    let made = turn_made c st t l r tl f.1 (op_wanted l) refl w refl going (words_after (op_wanted l) s.words) new (turn_of (part_step l.config l.part w)) refl refl refl in
    let words : set s.words (op_place (op_wanted l)) (written (op_wanted l) w) ≡ words_after (op_wanted l) s.words = sym (one_write (op_wanted l) s.words facts.sums may.word) in
    let state : record { words = set s.words (op_place (op_wanted l)) (written (op_wanted l) w); locals = set ls t new } ≡ turned c t st = ap (λ ws. let x : State = record { words = ws; locals = set ls t new } in x) words ∙ made.state in
    let long : length ls ≡ c.threads = (reached_kept c st r).threads in
    let is_one : bit (eqb t t) ≡ 1 = rw (eq-eqb t t refl) refl in
    let count : n + 1 ≡ times t (ts ++ t ∷ []) = omega (arith, f.2, times_last t t ts) in
    let here : new ≡ local_at c (turned c t st) t = sym (get_or-set_same ls t new (no_local c) (omega arith)) ∙ ap (λ x. local_at c x t) state in
    let ends : EndsAlone new (n + 1) = in_time c ts (ts ++ t ∷ []) st (turned c t st) t n l new kept.after (turned_after c ts st t kept.after) tl facts.same facts.config here refl refl going f.2 count in
    let fit : HeldFits c (set ls t new) (ts ++ t ∷ []) (held new (n + 1)) = (tl, sym (get_or-set_same ls t new new (omega arith)), count) in
    let after : BoardKept k (table_after id n l s) =
    record {
      locals = set ls t new;
      turns = ts ++ t ∷ [];
      after = subst (λ x. IsStateAfter c (ts ++ t ∷ []) x) (sym state) (turned_after c ts st t kept.after);
      given = ap traces_of state ∙ turned_traces c t st ∙ kept.given;
      own = own_more c ts t kept.own tl;
      few = few_more c ts st t l (traces_of k.state) kept.after kept.given kept.own tl facts.same going;
      each = λ j u e. ⊎_elim
          (λ p. subst (λ (x : View). AllFit c (set ls t new) (ts ++ t ∷ []) x.locals) p.1 (fit, tt))
          (λ p.
          let both = seat_parts t s.views id j (one_view l n) u at p.1 (λ q. p.0 (sym q)) in
          let one = kept.once t tl in
          others_fit c ls ts t new u.locals (omega arith) (kept.each j u p.1))
          (at_set s.views id j (one_view new (n + 1)) u e);
      once = λ u ul. omega (arith, seats_set u s.views id (one_view l n) (one_view new (n + 1)) at, kept.once u ul);
    } in
    (record { after = after; turns = refl }, (refl, (facts.reads, tt), (ends, tt)))

-- whatever the table is, a seat with one thread makes the turn of it
pub allowed : (k : Whole) (id n : ℕ) (l : LocalState) → is_done l ≡ false → table.Allows (BoardKept k) 0 id (one_view l n, []) (op_place (op_wanted l)) (written (op_wanted l)) (moves_on (one_view l n, []))
allowed k id n l going s kept homes at low =
    let made = turn_keeps k s kept id n l (record { seat = at; going = going; word = low }) in
    (one_view (local_got l (found_by l s)) (n + 1), table.keeps, tt, made.0.after, made.1)

seats_append : (t : ℕ) (views : List View) (w : View) → seats_of t (views ++ w ∷ []) ≡ seats_of t views + helds_of t w.locals
seats_append t [] w = omega arith
seats_append t (v ∷ views) w = omega (arith, seats_append t views w)

pub helds_append : (t : ℕ) (hs gs : List ThreadView) → helds_of t (hs ++ gs) ≡ helds_of t hs + helds_of t gs
helds_append t [] gs = omega arith
helds_append t (h ∷ hs) gs = omega (arith, helds_append t hs gs)

fit_append : (c : Config) (ls : List LocalState) (ts : List ℕ) (hs gs : List ThreadView) → AllFit c ls ts hs → AllFit c ls ts gs → AllFit c ls ts (hs ++ gs)
fit_append c ls ts [] gs f g = g
fit_append c ls ts (h ∷ hs) gs f g = (f.0, fit_append c ls ts hs gs f.1 g)

first_fit : (c : Config) (ls : List LocalState) (ts : List ℕ) (hs : List ThreadView) → AllFit c ls ts hs → AllFit c ls ts (first_in hs)
first_fit c ls ts [] f = tt
first_fit c ls ts (h ∷ hs) f = (f.0, tt)

rest_fit : (c : Config) (ls : List LocalState) (ts : List ℕ) (hs : List ThreadView) → AllFit c ls ts hs → AllFit c ls ts (rest_in hs)
rest_fit c ls ts [] f = tt
rest_fit c ls ts (h ∷ hs) f = f.1

cut_sum : (t : ℕ) (hs : List ThreadView) → helds_of t (rest_in hs) + helds_of t (first_in hs) ≡ helds_of t hs
cut_sum t [] = omega arith
cut_sum t (h ∷ hs) = omega arith

-- the first thread goes to a new seat
pub splits : (k : Whole) (id : ℕ) (v : View) → table.Splits (BoardKept k) id v (rest_of v) (first_of v)
splits k id v s kept at = record {
  locals = kept.locals;
  turns = kept.turns;
  after = kept.after;
  given = kept.given;
  own = kept.own;
  few = kept.few;
  each = λ j u e. ⊎_elim
      (λ old. ⊎_elim
      (λ p. subst (λ (x : View). AllFit k.config kept.locals kept.turns x.locals) p.1 (rest_fit k.config kept.locals kept.turns v.locals (kept.each id v at)))
      (λ p. kept.each j u p.1)
      (at_set s.views id j (rest_of v) u old))
      (λ new. subst (λ (x : View). AllFit k.config kept.locals kept.turns x.locals) new (first_fit k.config kept.locals kept.turns v.locals (kept.each id v at)))
      (at_snoc (set s.views id (rest_of v)) (first_of v) u j e);
  once = λ t tl. omega (arith, seats_append t (set s.views id (rest_of v)) (first_of v), seats_set t s.views id v (rest_of v) at, cut_sum t v.locals, kept.once t tl);
}

-- a seat takes the threads of another
pub joins : (k : Whole) (id : ℕ) (v : View) (other : ℕ) (w : View) → table.Joins (BoardKept k) id v other w (joined v w) no_view
joins k id v other w s kept at ne that =
    let there : get_elem? s.views other ≡ some w = ⊎_elim (λ p. absurd (ne p.0)) (λ p. p.1) (at_set s.views id other (joined v w) w that) in
    record {
      locals = kept.locals;
      turns = kept.turns;
      after = kept.after;
      given = kept.given;
      own = kept.own;
      few = kept.few;
      each = λ j u e. ⊎_elim
          (λ p. subst (λ (x : View). AllFit k.config kept.locals kept.turns x.locals) p.1 tt)
          (λ p. ⊎_elim
          (λ q. subst (λ (x : View). AllFit k.config kept.locals kept.turns x.locals) q.1 (fit_append k.config kept.locals kept.turns v.locals w.locals (kept.each id v at) (kept.each other w there)))
          (λ q. kept.each j u q.1)
          (at_set s.views id j (joined v w) u p.1))
          (at_set (set s.views id (joined v w)) other j no_view u e);
      once = λ t tl. omega (arith, seats_set t (set s.views id (joined v w)) other w no_view that, seats_set t s.views id v (joined v w) at, helds_append t v.locals w.locals, kept.once t tl);
    }

-- the same, for the operation that the thread wants
pub op_allowed : (k : Whole) (slots id n : ℕ) (l : LocalState) (me : table.Me Unit View) (op : Op) → is_done l ≡ false → slots ≡ 0 → me ≡ (one_view l n, []) → op ≡ op_wanted l → table.Allows (BoardKept k) slots id me (op_place op) (written op) (moves_on me)
op_allowed k slots id n l me op going none knows wants =
    subst (λ x. table.Allows (BoardKept k) x id me (op_place op) (written op) (moves_on me)) (sym none)
    (subst (λ x. table.Allows (BoardKept k) 0 id x (op_place op) (written op) (moves_on x)) (sym knows)
    (subst (λ x. table.Allows (BoardKept k) 0 id (one_view l n, []) (op_place x) (written x) (moves_on (one_view l n, []))) (sym wants) (allowed k id n l going)))
