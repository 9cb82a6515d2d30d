-- One entry more at the end of a run's history.
use Rattle.std.proofs.Common.{◌≡◌, ℕ, ◌≤◌, ◌<◌, ◌+◌, ◌-◌, ◌⊎◌, max, Result, Ok, Err, IfOk, inl, inr, true, false, cond, List, [], ◌∷◌, ◌++◌, length, eq-eqb, ne_eqb, sym, refl, ap, ◌∙◌, subst, arith}
use Rattle.std.proofs.lemmas.Bool.{cases_eq, cases_Bool, cases_lt}
use Rattle.std.proofs.lemmas.List.{append_cancel_left}
use Rattle.block_store.specs.declared.Config.{Config}
use Rattle.never_heap.specs.declared.Command.{Command}
use Rattle.never_heap.specs.declared.Entry.{Entry}
use Rattle.never_heap.specs.declared.Reply.{Reply}
use Rattle.never_heap.specs.Cycles.{before_start, graph_at}
use Rattle.never_heap.specs.Graphs.{Graph, start_graph}
use Rattle.never_heap.specs.Histories.{HistoryItem, Started, Did, is_full, after, replay, replay_from, IsAnswered, Legal, LegalFrom, part, starts_in}
use Rattle.never_heap.specs.Licensed.{Licensed, NoFulls, StartsSmall}
use Rattle.never_heap.specs.Steps.{makes_object, step}
use Rattle.never_heap.proofs.Lemmas.{answered_by_step, graph_at_more, legal_back, replay_append, starts_append}
use Rattle.heap_system.specs.Alone.{after_alone}
use Rattle.heap_system.specs.Machines.{Run}
use Rattle.control_heap.specs.Controls.{Control, Stands, Answers, HasAnswered, entries_in}
use Rattle.control_heap.specs.declared.control.OpenFault.{OpenFault}
use Rattle.control_heap.specs.declared.control.Refused.{Refused}
use Rattle.control_heap.specs.Growth.{run_grown}
use Rattle.control_heap.specs.WayBack.{StartsSmallFrom}
use Rattle.control_heap.proofs.Items.{Added, added_alone}
use Rattle.control_heap.proofs.WayBacks.{licensed_behind, none_from}
use Rattle.control_heap.specs.graph_view.ShownGraph.{IsSmall, StaySmall, Shows, HasMetNoFull, Leaves, Follows, Goes, graph_told}

pub small_append : (c : Config) (g : Graph) (h k : List HistoryItem) → StaySmall c g h
    → StaySmall c (replay_from g h) k → StaySmall c g (h ++ k)
small_append c g [] k a b = b
small_append c g (i ∷ h) k a b = (a.0, small_append c (after g i) h k a.1 b)

pub small_last : (c : Config) (g : Graph) (h : List HistoryItem) → StaySmall c g h
    → IsSmall c (replay_from g h)
small_last c g [] a = a
small_last c g (i ∷ h) a = small_last c (after g i) h a.1

legal_history : (c : Config) (h k : List HistoryItem) → Legal c h → Legal c (h ++ k)
    → LegalFrom (replay c h) k
legal_history c [] k a l = absurd a
legal_history c (Started ∷ h) k a l = legal_back (start_graph c) h k l
legal_history c (Did e ∷ h) k a l = absurd a

-- each cycle of a history that stays small began small
small_start : (c : Config) (g : Graph) (h : List HistoryItem) (z : ℕ) → 1 ≤ z → z ≤ starts_in h
    → StaySmall c g h → IsSmall c (replay_from g (before_start z h))
small_start c g [] z l m s = absurd (omega arith)
small_start c g (Started ∷ h) z l m s = elim (cases_eq z 1) [
  | inl e ↦ rw (eq-eqb z 1 e) s.0
  | inr n ↦ rw (ne_eqb z 1 n) (small_start c g h (z - 1) (omega arith) (omega arith) s.1)
]
small_start c g (Did e ∷ h) z l m s = small_start c (after g (Did e)) h z l m s.1

pub starts_small : (c : Config) (h : List HistoryItem) → StaySmall c (start_graph c) h
    → StartsSmall c h
starts_small c h s z l m = small_start c (start_graph c) h z l m s

-- the items before a start that comes after a history
before_behind : (h k : List HistoryItem) (y z : ℕ) → 1 ≤ z → y ≡ starts_in h + z
    → before_start y (h ++ k) ≡ h ++ before_start z k
before_behind [] k y z some e = ap (λ x. before_start x k) (let s : y ≡ z = omega arith in s)
before_behind (Started ∷ h) k y z some e =
    let later : (y ≡ 1) → ⊥ = (λ one. omega arith) in
    rw (ne_eqb y 1 later)
    (ap (λ x. Started ∷ x) (before_behind h k (y - 1) z some (omega (arith, e, some))))
before_behind (Did x ∷ h) k y z some e = ap (λ is. Did x ∷ is) (before_behind h k y z some e)

-- each start after a history is small, where the items after it stay so
pub small_behind : (c : Config) (g : Graph) (h k : List HistoryItem) (y : ℕ)
    → replay c h ≡ g → StaySmall c g k → starts_in h < y → y ≤ starts_in (h ++ k)
    → IsSmall c (graph_at c (h ++ k) y)
small_behind c g h k y graph small low high =
    let all : starts_in (h ++ k) ≡ starts_in h + starts_in k = starts_append h k in
    let at : before_start y (h ++ k) ≡ h ++ before_start (y - starts_in h) k =
    before_behind h k y (y - starts_in h) (omega arith) (omega arith) in
    subst (IsSmall c)
    (sym (ap (replay c) at ∙ replay_append (start_graph c) h (before_start (y - starts_in h) k)
    ∙ ap (λ x. replay_from x (before_start (y - starts_in h) k)) graph))
    (small_start c g k (y - starts_in h) (omega arith) (omega (arith, high, all)) small)

-- and so is each from one on, where those of the history are
few_more : (c : Config) (g : Graph) (h k : List HistoryItem) (n : ℕ) → 1 ≤ n
    → replay c h ≡ g → StaySmall c g k → StartsSmallFrom c n h → StartsSmallFrom c n (h ++ k)
few_more c g h k n some graph small few y low high = elim (cases_lt (starts_in h) y) [
  | inl later ↦ small_behind c g h k y graph small later high
  | inr sooner ↦
      subst (IsSmall c) (sym (graph_at_more c h k y (omega (arith, some, low)) sooner))
      (few y low sooner)
]

legal_begun : (c : Config) (h : List HistoryItem) → Legal c h → 1 ≤ starts_in h
legal_begun c [] l = absurd l
legal_begun c (Started ∷ h) l = omega arith
legal_begun c (Did e ∷ h) l = absurd l

-- the opening, where its graph is small
opened_few : (c : Config) → IsSmall c (start_graph c) → StartsSmallFrom c 1 (Started ∷ [])
opened_few c small z low high =
    let one : z ≡ 1 = omega arith in rw (eq-eqb z 1 one) small

pub opened_shows : (c : Config) (x : Result Control OpenFault) → IfOk x (λ h. h.config ≡ c)
    → IfOk x (λ h. (r : Run) × Stands h r × (r.order ≡ Started ∷ []))
    → IsSmall c (start_graph c) → IfOk x (λ h. HasMetNoFull h (start_graph c))
opened_shows c (Err f) same stands small = tt
opened_shows c (Ok h) same stands small =
    let order : Started ∷ [] ≡ stands.0.order = sym stands.2 in record {
      shows = record {
        run = stands.0;
        stands = stands.1;
        graph = (λ i. replay (same i) (stands.2 i));
        now = subst (λ d. IsSmall d (start_graph c)) (sym same) small;
        lately = subst (λ o. StartsSmallFrom h.config (max 1 (starts_in o - 1)) o) order
            (subst (λ d. StartsSmallFrom d 1 (Started ∷ [])) (sym same) (opened_few c small));
      };
      small = subst (λ o. StaySmall h.config (start_graph h.config) o) order
          (subst (λ d. StaySmall d (start_graph d) (Started ∷ [])) (sym same) (small, small));
    }

-- a heap whose history stays small shows the graph that it leaves
pub small_shown : (h : Control) (g : Graph) (r : Run) → Stands h r → replay h.config r.order ≡ g
    → StaySmall h.config (start_graph h.config) r.order
    → (s : HasMetNoFull h g) × (s.shows.run ≡ r)
small_shown h g r stands graph small = (
  record {
    shows = record {
      run = r;
      stands = stands;
      graph = graph;
      now = subst (IsSmall h.config) graph (small_last h.config (start_graph h.config) r.order small);
      lately = λ y low high.
          starts_small h.config r.order small y (omega (arith, low)) high;
    };
    small = small;
  },
  refl,
)

-- ---- items of which one is an entry

few_own : (is : List HistoryItem) → length (part 0 is) ≤ length (entries_in is)
few_own [] = omega arith
few_own (Started ∷ is) = few_own is
few_own (Did e ∷ is) = elim (cases_eq e.thread 0) [
  | inl y ↦ rw (eq-eqb e.thread 0 y) (omega (arith, few_own is))
  | inr n ↦ rw (ne_eqb e.thread 0 n) (omega (arith, few_own is))
]

pub record HasOne (c : Config) (g : Graph) (is : List HistoryItem) (e : Entry) : Type 0 where
  pub thread : e.thread ≡ 0
  pub graph : replay_from g is ≡ after g (Did e)
  pub answered : LegalFrom g is → IsAnswered g (Did e)
  pub full : NoFulls is → is_full e.reply ≡ false
  pub small : IsSmall c g → IsSmall c (after g (Did e)) → StaySmall c g is

starts_alone : (c : Config) (g : Graph) (is : List HistoryItem) → entries_in is ≡ []
    → (replay_from g is ≡ g) × (IsSmall c g → StaySmall c g is)
starts_alone c g [] e = (refl, λ s. s)
starts_alone c g (Started ∷ is) e =
    let rest = starts_alone c g is e in (rest.0, λ s. (s, rest.1 s))
starts_alone c g (Did x ∷ is) e = absurd cc

own_thread : (x : Entry) (is : List HistoryItem) → part 0 (Did x ∷ is) ≡ x ∷ entries_in is
    → x.thread ≡ 0
own_thread x is own = elim (cases_eq x.thread 0) [
  | inl y ↦ y
  | inr n ↦
      let same : part 0 is ≡ x ∷ entries_in is =
      ap (λ b. cond b (x ∷ part 0 is) (part 0 is)) (sym (ne_eqb x.thread 0 n)) ∙ own in
      absurd (omega (arith, ap length same, few_own is))
]

abbrev front_of : (x : Entry) → List Entry → Entry
front_of x [] = x
front_of x (e ∷ es) = e

abbrev back_of : List Entry → List Entry
back_of [] = []
back_of (e ∷ es) = es

pub one_entry : (c : Config) (g : Graph) (is : List HistoryItem) (e : Entry)
    → entries_in is ≡ e ∷ [] → part 0 is ≡ entries_in is → HasOne c g is e
one_entry c g [] e es own = absurd cc
one_entry c g (Started ∷ is) e es own =
    let rest = one_entry c g is e es own in
    record {
      thread = rest.thread;
      graph = rest.graph;
      answered = λ l. rest.answered l.1;
      full = λ n. rest.full n;
      small = λ a b. (a, rest.small a b);
    }
one_entry c g (Did x ∷ is) e es own =
    subst (λ (y : Entry). HasOne c g (Did x ∷ is) y) (ap (front_of x) es)
    (record {
      thread = own_thread x is own;
      graph = (starts_alone c (after g (Did x)) is (ap back_of es)).0;
      answered = λ l. l.0;
      full = λ n. n.0;
      small = λ a b. (a, (starts_alone c (after g (Did x)) is (ap back_of es)).1 b);
    })

-- ---- a command more

-- the items that a request adds hold one entry, and it is the thread's own
pub own_items : (c : Config) (k : Command) (a : Reply) (r z : Run) (s : Answers c k a r z)
    → part 0 s.items ≡ entries_in s.items
own_items c k a r z s =
    let added : Added (run_grown 0 k r) (after_alone c 0 (run_grown 0 k r) s.turns) =
    added_alone c s.turns (run_grown 0 k r) in
    let same : added.items ≡ s.items =
    append_cancel_left r.order added.items s.items
    (sym added.order ∙ ap (λ (x : Run). x.order) (sym s.after) ∙ s.order) in
    subst (λ is. part 0 is ≡ entries_in is) same added.own

-- which is small in each case
small_after : (c : Config) (g : Graph) (e : Entry) → IsSmall c g
    → IsSmall c (step g e.thread e.command).0 → IsSmall c (after g (Did e))
small_after c g e s t = elim (cases_Bool (is_full e.reply)) [
  | inl y ↦ rw y s
  | inr n ↦ rw n t
]

-- the graph after the one entry
pub told_is : (g : Graph) (k : Command) (a : Reply) (e : Entry) → e.thread ≡ 0 → e.command ≡ k
    → e.reply ≡ a → after g (Did e) ≡ graph_told g k a
told_is g k a e thread command reply =
    λ i. cond (is_full (reply i)) g (step g (thread i) (command i)).0

-- Whatever was answered full, a command goes on from the graph that the heap leaves.
goes_on : (g : Graph) (e : Entry) (k : Command) (a : Reply) → e.thread ≡ 0 → e.command ≡ k
    → e.reply ≡ a → IsAnswered g (Did e)
    → (a ≡ (step g 0 k).1) ⊎ ((is_full a ≡ true) × (makes_object k ≡ true))
goes_on g e k a thread command reply (inl is) =
    inl (sym reply ∙ is ∙ (λ i. (step g (thread i) (command i)).1))
goes_on g e k a thread command reply (inr full) =
    inr (ap is_full (sym reply) ∙ full.0, ap makes_object (sym command) ∙ full.1)

module _ (laws_legal : (h : Control) (r : Run) → Stands h r → Legal h.config r.order)
    (laws_licensed : (h : Control) (r : Run) → Stands h r → Licensed h.config r.order) where
  module _ (k : Command) (a : Reply) (new : Control) (c : Config) (is : new.config ≡ c)
      (g : Graph) (r : Run) (legal : Legal c r.order) (graph : replay c r.order ≡ g)
      (z : Run) (stands : Stands new z) (s : Answers c k a r z) where
    abbrev e : Entry
    e = s.entry

    one : HasOne c g s.items e
    one = one_entry c g s.items e s.entries (own_items c k a r z s)

    legal_now : Legal c z.order
    legal_now = subst (λ d. Legal d z.order) is (laws_legal new z stands)

    by_graph : IsAnswered g (Did e)
    by_graph = one.answered (subst (λ x. LegalFrom x s.items) graph
        (legal_history c r.order s.items legal (subst (Legal c) s.order legal_now)))

    graph_then : replay c z.order ≡ graph_told g k a
    graph_then =
        ap (replay c) s.order
        ∙ replay_append (start_graph c) r.order s.items
        ∙ ap (λ x. replay_from x s.items) graph
        ∙ one.graph
        ∙ told_is g k a e one.thread s.command s.reply

    pub goes_next : ((a ≡ (step g 0 k).1) ⊎ ((is_full a ≡ true) × (makes_object k ≡ true)))
        × Leaves new (graph_told g k a)
    goes_next = (
      goes_on g e k a one.thread s.command s.reply by_graph,
      record {
        run = z;
        stands = stands;
        graph = ap (λ d. replay d z.order) is ∙ graph_then;
      },
    )

    module _ (now : IsSmall c g)
        (lately : StartsSmallFrom c (max 1 (starts_in r.order - 1)) r.order)
        (next : IsSmall c (step g 0 k).0) where
      abbrev from : ℕ
      from = max 1 (starts_in r.order - 1)

      -- the step is that of the command
      step_is : step g e.thread e.command ≡ step g 0 k
      step_is = (λ i. step g (one.thread i) (s.command i))

      fits : IsSmall c (after g (Did e))
      fits = small_after c g e now (subst (λ p. IsSmall c p.0) (sym step_is) next)

      few : StartsSmallFrom c from (r.order ++ s.items)
      few = few_more c g r.order s.items from (omega arith) graph (one.small now fits) lately

      none : NoFulls s.items
      none = none_from c from r.order s.items (omega arith) (omega arith)
          (legal_begun c r.order legal) few
          (licensed_behind c [] r.order s.items (subst (Licensed c) s.order
          (subst (λ d. Licensed d z.order) is (laws_licensed new z stands))))

      not_full : is_full e.reply ≡ false
      not_full = one.full none

      answered : e.reply ≡ (step g e.thread e.command).1
      answered = answered_by_step g e by_graph not_full

      left : replay c z.order ≡ (step g 0 k).0
      left =
          graph_then
          ∙ ap (λ b. cond b g (step g 0 k).0) (ap is_full (sym s.reply) ∙ not_full)

      starts : starts_in z.order ≡ starts_in r.order + starts_in s.items
      starts = ap starts_in s.order ∙ starts_append r.order s.items

      lately_then : StartsSmallFrom c (max 1 (starts_in z.order - 1)) z.order
      lately_then y low high =
          subst (λ o. StartsSmallFrom c from o) (sym s.order) few y
          (let more = starts in omega (arith, low, more)) high

      abbrev shown_then : Shows new (step g 0 k).0
      shown_then = record {
        run = z;
        stands = stands;
        graph = ap (λ d. replay d z.order) is ∙ left;
        now = subst (λ d. IsSmall d (step g 0 k).0) (sym is) next;
        lately = subst (λ d. StartsSmallFrom d (max 1 (starts_in z.order - 1)) z.order) (sym is)
            lately_then;
      }

      pub shown_next : (a ≡ (step g 0 k).1) × Shows new (step g 0 k).0
      shown_next = (sym s.reply ∙ answered ∙ ap (λ p. p.1) step_is, shown_then)

      stay : StaySmall c (start_graph c) r.order → StaySmall c (start_graph c) z.order
      stay before =
          subst (StaySmall c (start_graph c)) (sym s.order)
          (small_append c (start_graph c) r.order s.items before
          (subst (λ x. StaySmall c x s.items) (sym graph) (one.small now fits)))

      pub never_next : StaySmall c (start_graph c) r.order
          → (a ≡ (step g 0 k).1) × HasMetNoFull new (step g 0 k).0
      never_next before = (
        shown_next.0,
        record {
          shows = shown_then;
          small = subst (λ d. StaySmall d (start_graph d) z.order) (sym is) (stay before);
        },
      )

  follows : (old new : Control) (k : Command) (a : Reply) → new.config ≡ old.config
      → HasAnswered old k a new → Follows Shows old k a new
  follows old new k a is answered g shows next =
      let by = answered shows.run shows.stands in
      shown_next k a new old.config is g shows.run
      (laws_legal old shows.run shows.stands) shows.graph by.0 by.1 by.2 shows.now shows.lately
      next

  follows_never : (old new : Control) (k : Command) (a : Reply) → new.config ≡ old.config
      → HasAnswered old k a new → Follows HasMetNoFull old k a new
  follows_never old new k a is answered g met next =
      let shows = met.shows in
      let by = answered shows.run shows.stands in
      never_next k a new old.config is g shows.run
      (laws_legal old shows.run shows.stands) shows.graph by.0 by.1 by.2 shows.now shows.lately
      next met.small

  goes : (old new : Control) (k : Command) (a : Reply) → new.config ≡ old.config
      → HasAnswered old k a new → Goes old k a new
  goes old new k a is answered g leaves =
      let by = answered leaves.run leaves.stands in
      goes_next k a new old.config is g leaves.run
      (laws_legal old leaves.run leaves.stands) leaves.graph by.0 by.1 by.2

  module _ (old new : Control) (k : Command) where
    pub follows_ok : (a : Result Reply Refused) → new.config ≡ old.config
        → IfOk a (λ reply. HasAnswered old k reply new)
        → IfOk a (λ reply. Follows Shows old k reply new)
    follows_ok (Ok reply) is told = follows old new k reply is told
    follows_ok (Err e) is told = tt

    pub never_ok : (a : Result Reply Refused) → new.config ≡ old.config
        → IfOk a (λ reply. HasAnswered old k reply new)
        → IfOk a (λ reply. Follows HasMetNoFull old k reply new)
    never_ok (Ok reply) is told = follows_never old new k reply is told
    never_ok (Err e) is told = tt

    pub goes_ok : (a : Result Reply Refused) → new.config ≡ old.config
        → IfOk a (λ reply. HasAnswered old k reply new)
        → IfOk a (λ reply. Goes old k reply new)
    goes_ok (Ok reply) is told = goes old new k reply is told
    goes_ok (Err e) is told = tt
