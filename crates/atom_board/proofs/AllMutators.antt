-- The mutators of a board: when it is made, and when it is closed.
use Rattle.std.proofs.Common.{◌≡◌, ℕ, zero, suc, ◌<◌, ◌+◌, refl, arith, subst, sym, ap, ◌∙◌, List, [], ◌∷◌, ◌++◌, length, length-append, get_or, map}
use Rattle.std.specs.Prelude.{remove}
use Rattle.std.proofs.lemmas.List.{get_or_default, length-map}
use mathlib.Core.Option.{some}
use lib.ListN.{get_elem?}
use Rattle.atomic_table.specs.Table as table
use Rattle.atomic_table.specs.Seated.{TableId}
use Rattle.block_store.specs.declared.Config.{Config}
use Rattle.block_store.specs.Phases.{cycle_of}
use Rattle.block_store.specs.Places.{extent, words_count}
use Rattle.never_heap.specs.declared.Command.{Command}
use Rattle.never_heap.specs.declared.Entry.{Entry}
use Rattle.heap_system.specs.Locals.{LocalState, is_done}
use Rattle.heap_system.specs.Machines.{State, no_local, IsJob, IsOpening}
use Rattle.heap_system.specs.Systems.{Whole, traces_of}
use Rattle.heap_system.proofs.Lemmas.{here, start_at, start_count}
use Rattle.atom_board.specs.declared.rules.ThreadView.{ThreadView}
use Rattle.atom_board.specs.declared.rules.View.{View}
use Rattle.atom_board.specs.Boards.{BoardKept, first_view, one_view}
use Rattle.atom_board.specs.LoneTurns.{EndsAlone}
use Rattle.atom_board.specs.Mutators.{BoardState, MutatorState, AreInOrder, AllAreDone, AreFresh, IsFinishedBy, start_mutator, held_of, local_of, log_of}
use Rattle.atom_board.proofs.InTime.{in_time_at_first}
use Rattle.atom_board.proofs.InitialHeaps.{opened_after, opens}
use Rattle.atom_board.proofs.Endings.{IsEndedBy, ended}

middle : {A : Type 0} (ys zs : List A) (x d : A) → get_or (ys ++ x ∷ zs) (length ys) d ≡ x
middle [] zs x d = refl
middle (y ∷ ys) zs x d = middle ys zs x d

-- what holds of each thread holds of the one that is dealt next
pub dealt_next : (P : LocalState → Type 0) (ys xs all zs : List LocalState) (x : LocalState)
    → ys ++ xs ≡ all → xs ≡ x ∷ zs
    → ((i : ℕ) (d : LocalState) → i < length all → P (get_or all i d)) → P x
dealt_next P ys xs all zs x whole is each =
    let same : ys ++ x ∷ zs ≡ all = ap (λ l. ys ++ l) (sym is) ∙ whole in
    let low : length ys < length (ys ++ x ∷ zs) = omega (arith, length-append ys (x ∷ zs)) in
    subst P (middle ys zs x x)
    (subst (λ l. (i : ℕ) (d : LocalState) → i < length l → P (get_or l i d)) (sym same) each
    (length ys) x low)

-- the element after those that were taken
pub at_middle : {A : Type 0} (ys zs rest all : List A) (x d : A) → ys ++ rest ≡ all → rest ≡ x ∷ zs → (get_or all (length ys) d ≡ x) × (length ys < length all)
at_middle ys zs rest all x d split steps =
    let whole : ys ++ (x ∷ zs) ≡ all = ap (λ r. ys ++ r) (sym steps) ∙ split in
    let long : length ys + suc (length zs) ≡ length all = sym (length-append ys (x ∷ zs)) ∙ ap length whole in
    (subst (λ l. get_or l (length ys) d ≡ x) whole (middle ys zs x d), omega arith)

-- the first is taken out
pub taken_first : (xs ys : List MutatorState) (x : MutatorState) → 0 < length xs → x ≡ get_or xs 0 x → ys ≡ remove xs 0 → x ∷ ys ≡ xs
taken_first [] ys x low is are = absurd (omega arith)
taken_first (z ∷ xs) ys x low is are = ap (λ u. u ∷ ys) is ∙ ap (λ us. z ∷ us) are

-- mutators in order are their board's
pub own_of : (b : BoardState) (who ms : List MutatorState) (id : TableId) → ms ≡ who → b.id ≡ id → AreInOrder b who → (i : ℕ) (d : MutatorState) → i < length ms → (get_or ms i d).board ≡ id
own_of b who ms id same named order i d low =
    let il : i < length who = omega (arith, ap length same) in
    ap (λ (xs : List MutatorState). (get_or xs i d).board) same ∙ (order.each i d il).0 ∙ named

-- what the first one's seat knows
pub first_seat : (me : table.Me Unit View) (l : LocalState) (n : ℕ) (id : TableId) (m : MutatorState) → me ≡ (one_view l n, []) → record { board = id; local = l; turns = n } ≡ m → me ≡ (record { locals = held_of m ∷ [] }, [])
first_seat me l n id m knows seen = subst (λ (x : MutatorState). me ≡ (record { locals = held_of x ∷ [] }, [])) seen knows

pub first_local : (ls room : List LocalState) (l : LocalState) (m : MutatorState) → ls ≡ room ++ l ∷ [] → room ≡ [] → l ≡ m.local → ls ≡ local_of m ∷ []
first_local ls room l m pushed none same = pushed ∙ ap (λ (xs : List LocalState). xs ++ l ∷ []) none ∙ ap (λ (x : LocalState). x ∷ []) same

pub get_or_map : {A B : Type 0} (f : A → B) (l : List A) (i : ℕ) (d : B) (e : A) → i < length l → get_or (map f l) i d ≡ f (get_or l i e)
get_or_map f [] i d e low = absurd (omega arith)
get_or_map f (x ∷ l) zero d e low = refl
get_or_map f (x ∷ l) (suc i) d e low = get_or_map f l i d e (omega arith)

pub map_map : {A B C : Type 0} (f : A → B) (g : B → C) (l : List A) → map g (map f l) ≡ map (λ x. g (f x)) l
map_map f g [] = refl
map_map f g (x ∷ l) = ap (λ ys. g (f x) ∷ ys) (map_map f g l)

module _ (c : Config) (traces : List (List Command)) (job : IsJob c traces) (s : State) (start : IsOpening c traces s) where
  pub start_words : (ws : ℕ) → ws ≡ length s.words → (i : ℕ) (d : LocalState) → i < length s.locals → words_count (extent (get_or s.locals i d).config) ≡ ws
  start_words ws long i d low = ap (λ (l : LocalState). words_count (extent l.config)) (start_at c traces job s start i d low) ∙ sym (long ∙ start.count)

  pub start_in_order : (id : TableId) (d : MutatorState) → AreInOrder (record { id = id; config = c; traces = traces }) (map (start_mutator id) s.locals)
  start_in_order id d = record {
    count = length-map s.locals (start_mutator id) ∙ start_count c traces job s start;
    each = λ t d low.
        (let tl : t < length s.locals = omega (arith, length-map s.locals (start_mutator id)) in
        let e = get_or_map (start_mutator id) s.locals t d (no_local c) tl in
        (ap (λ (h : MutatorState). h.board) e, ap (λ (h : MutatorState). h.local.thread) e ∙ ap (λ (l : LocalState). l.thread) (start_at c traces job s start t (no_local c) tl)));
  }

  pub start_fresh : (id : TableId) → AreFresh c traces (map (start_mutator id) s.locals)
  start_fresh id t d low =
      let tl : t < length s.locals = omega (arith, length-map s.locals (start_mutator id)) in
      let e = get_or_map (start_mutator id) s.locals t d (no_local c) tl in
      let a = start_at c traces job s start t (no_local c) tl in
      record {
        config = ap (λ (h : MutatorState). h.local.config) e ∙ ap (λ (l : LocalState). l.config) a;
        turns = ap (λ (h : MutatorState). h.turns) e;
        log = ap (λ (h : MutatorState). h.local.log) e ∙ ap (λ (l : LocalState). l.log) a;
        trace = ap (λ (h : MutatorState). h.local.trace) e ∙ ap (λ (l : LocalState). l.trace) a;
      }

  pub start_few : (i : ℕ) (d : LocalState) → i < length s.locals → EndsAlone (get_or s.locals i d) 0
  start_few i d low = in_time_at_first c s i (get_or s.locals i d) (opened_after c traces s job start) (omega (arith, start_count c traces job s start)) (get_or_default s.locals i d (no_local c) low) (ap (λ (l : LocalState). l.config) (start_at c traces job s start i d low))

-- the system from which a table is made
pub opens_of : (k : Whole) (c : Config) (traces : List (List Command)) (ws : List ℕ) → k.config ≡ c → IsJob c traces → IsOpening c traces k.state → ws ≡ k.state.words → BoardKept k (table.opening ws [] (first_view k))
opens_of k c traces ws same job start is =
    subst (λ x. BoardKept k (table.opening x [] (first_view k))) (sym is) (opens k traces (subst (λ x. IsJob x traces) (sym same) job) (subst (λ x. IsOpening x traces k.state) (sym same) start))

pub in_order_of : (b : BoardState) (c : Config) (traces : List (List Command)) (s : State) (mutators : List MutatorState) → b ≡ record { id = b.id; config = c; traces = traces } → IsJob c traces → IsOpening c traces s → mutators ≡ map (start_mutator b.id) s.locals → AreInOrder b mutators
in_order_of b c traces s mutators is job start are =
    subst (λ x. AreInOrder x mutators) (sym is) (subst (λ x. AreInOrder (record { id = b.id; config = c; traces = traces }) x) (sym are) (start_in_order c traces job s start b.id (record { board = b.id; local = no_local c; turns = 0 })))

pub fresh_of : (id : TableId) (c : Config) (traces : List (List Command)) (s : State) (mutators : List MutatorState) → IsJob c traces → IsOpening c traces s → mutators ≡ map (start_mutator id) s.locals → AreFresh c traces mutators
fresh_of id c traces s mutators job start are = subst (λ x. AreFresh c traces x) (sym are) (start_fresh c traces job s start id)

-- a seat with the threads of all mutators, each done
pub closes : (b : BoardState) (k : Whole) (s : table.State Unit View) (id : ℕ) (v : View) (mutators : List MutatorState) (logs : List (List Entry)) (cycles : ℕ) → BoardKept k s → get_elem? s.views id ≡ some v → v ≡ record { locals = map held_of mutators } → k.config ≡ b.config → traces_of k.state ≡ b.traces
    → AreInOrder b mutators → AllAreDone mutators → logs ≡ map log_of mutators → cycles ≡ cycle_of (get_or s.words 0 0) → IsFinishedBy b.config b.traces mutators logs cycles
closes b k s id v mutators logs cycles kept at knows config traces crew done are read =
    let d : MutatorState = record { board = b.id; local = no_local b.config; turns = 0 } in
    let long : length v.locals ≡ length mutators = ap (λ (x : View). length x.locals) knows ∙ length-map mutators held_of in
    let seen : (t : ℕ) (e : ThreadView) → t < length v.locals → get_or v.locals t e ≡ held_of (get_or mutators t d) = λ t e low.
    ap (λ (x : View). get_or x.locals t e) knows ∙ get_or_map held_of mutators t e d (omega arith) in
    let all : map (λ (h : ThreadView). h.local.log) v.locals ≡ logs = ap (λ (x : View). map (λ (h : ThreadView). h.local.log) x.locals) knows ∙ map_map held_of (λ (h : ThreadView). h.local.log) mutators ∙ sym are in
    let e : IsEndedBy k.config (traces_of k.state) v.locals (map (λ (h : ThreadView). h.local.log) v.locals) (cycle_of (get_or s.words 0 0)) = ended k s id v kept at (long ∙ crew.count ∙ sym (ap (λ (x : Config). x.threads) config))
    (λ t e low. ap (λ (h : ThreadView). h.local.thread) (seen t e low) ∙ (crew.each t d (omega arith)).1)
    (λ t e low. ap (λ (h : ThreadView). is_done h.local) (seen t e low) ∙ done t d (omega arith)) in
    let count : length mutators ≡ k.config.threads = crew.count ∙ sym (ap (λ (x : Config). x.threads) config) in
    let over : IsFinishedBy k.config (traces_of k.state) mutators (map (λ (h : ThreadView). h.local.log) v.locals) (cycle_of (get_or s.words 0 0)) = record {
      finished = e.finished;
      counted = λ t tl. (
        t,
        omega (arith, count),
        λ m. (
            let ml : t < length mutators = omega (arith, count) in
            let here : get_or v.locals t (held_of m) ≡ held_of (get_or mutators t m) =
            ap (λ (x : View). get_or x.locals t (held_of m)) knows ∙ get_or_map held_of mutators t (held_of m) m ml in
            record {
              thread = (crew.each t m ml).1;
              local = sym (ap (λ (h : ThreadView). h.local) here) ∙ e.local t (held_of m) (omega (arith, long));
              turns = sym (ap (λ (h : ThreadView). h.turns) here) ∙ e.turns t (held_of m) (omega (arith, long));
            }
            ),
      );
      own = e.own;
      few = e.few;
    } in
    subst (λ n. IsFinishedBy b.config b.traces mutators logs n) (sym read)
    (subst (λ x. IsFinishedBy b.config x mutators logs (cycle_of (get_or s.words 0 0))) traces
    (subst (λ x. IsFinishedBy x (traces_of k.state) mutators logs (cycle_of (get_or s.words 0 0))) config
    (subst (λ x. IsFinishedBy k.config (traces_of k.state) mutators x (cycle_of (get_or s.words 0 0))) all over)))
