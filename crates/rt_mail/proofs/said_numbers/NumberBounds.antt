-- Every number of a graph is below 2^62, and stays so where the commands are in their ranges.
use Rattle.std.proofs.Common.{◌≡◌, ℕ, zero, suc, ◌-◌, ◌<◌, ◌^◌, ◌==◌, inl, inr, Bool, true, false, cond, ltb, List, [], ◌∷◌, ◌++◌, length, map, get_or, set, replicate, eq-eqb, ne_eqb, sym, refl, subst}
use Rattle.std.specs.List.{AllByRecursion}
use Rattle.std.proofs.lemmas.Bool.{cases_eq, cases_Bool}
use Rattle.block_store.specs.declared.Config.{Config}
use Rattle.block_store.specs.declared.Name.{Name}
use Rattle.block_store.specs.declared.Value.{Value}
use Rattle.block_store.specs.declared.Value.TheVariants.{Nil, Int, Ref}
use Rattle.never_heap.specs.declared.Command.{Command}
use Rattle.never_heap.specs.declared.Command.TheVariants as commands
use Rattle.never_heap.specs.declared.Entry.{Entry}
use Rattle.never_heap.specs.declared.Reply.{Reply}
use Rattle.never_heap.specs.declared.Reply.TheVariants as replies
use Rattle.never_heap.specs.Bounds.{IsCommandInBounds}
use Rattle.never_heap.specs.Graphs.{Graph, Object, ObjectKind, Mutator, no_object, no_mutator, nils, nil_object, start_graph, start_mutator, mutator_at, register_of, object_of, field_of, with_mutator, with_register, set_field, with_field, with_object, next_name}
use Rattle.never_heap.specs.Histories.{HistoryItem, Started, Did, LegalFrom, Legal, HasTraces, after, is_full, IsAnswered, part}
use Rattle.never_heap.specs.Jobs.{IsTraceInBounds}
use Rattle.never_heap.specs.Steps.{step, at_field, at_object, same_value}
use Rattle.rt_mail.specs.said_numbers.Said.{shown_by, numbers_said, with_number, AreNumbers}

-- ---- lists

all_at : {X : Type 0} (P : X → Type 0) (xs : List X) (i : ℕ) (d : X) → P d → AllByRecursion P xs
    → P (get_or xs i d)
all_at P [] i d p all = p
all_at P (x ∷ xs) zero d p all = all.0
all_at P (x ∷ xs) (suc i) d p all = all_at P xs i d p all.1

all_set : {X : Type 0} (P : X → Type 0) (xs : List X) (i : ℕ) (x : X) → P x → AllByRecursion P xs
    → AllByRecursion P (set xs i x)
all_set P [] i x p all = tt
all_set P (y ∷ ys) zero x p all = (p, all.1)
all_set P (y ∷ ys) (suc i) x p all = (all.0, all_set P ys i x p all.1)

all_more : {X : Type 0} (P : X → Type 0) (xs : List X) (x : X) → P x → AllByRecursion P xs
    → AllByRecursion P (xs ++ x ∷ [])
all_more P [] x p all = (p, tt)
all_more P (y ∷ ys) x p all = (all.0, all_more P ys x p all.1)

all_same : {X : Type 0} (P : X → Type 0) (n : ℕ) (x : X) → P x → AllByRecursion P (replicate n x)
all_same P zero x p = tt
all_same P (suc n) x p = (p, all_same P n x p)

-- ---- values, objects, threads, graphs

abbrev pub IsSmall : Value → Type 0
IsSmall Nil = Unit {0}
IsSmall (Int v) = v < 2 ^ 62
IsSmall (Ref a) = Unit {0}

abbrev pub AreSmall : Object → Type 0
AreSmall o = AllByRecursion IsSmall o.fields

pub record IsSmallThread (m : Mutator) : Type 0 where
  pub registers : AllByRecursion IsSmall m.registers
  pub objects : AllByRecursion AreSmall m.objects

pub record IsSmallGraph (g : Graph) : Type 0 where
  pub shared : AreSmall g.shared
  pub threads : AllByRecursion IsSmallThread g.mutators

nils_small : (n : ℕ) → AllByRecursion IsSmall (nils n)
nils_small n = all_same IsSmall n Nil tt

start_small : (c : Config) → IsSmallGraph (start_graph c)
start_small c = record {
  shared = nils_small c.shared;
  threads = all_same IsSmallThread c.threads (start_mutator c.threads)
      (record { registers = (tt, nils_small 15); objects = tt });
}

none_small : IsSmallThread no_mutator
none_small = record { registers = tt; objects = tt }

module _ (g : Graph) (s : IsSmallGraph g) where
  thread_small : (t : ℕ) → IsSmallThread (mutator_at g t)
  thread_small t = all_at IsSmallThread g.mutators t no_mutator none_small s.threads

  pub register_small : (t r : ℕ) → IsSmall (register_of g t r)
  register_small t r =
      all_at IsSmall (mutator_at g t).registers r Nil tt (thread_small t).registers

  object_small : (a : Name) → AreSmall (object_of g a)
  object_small a = elim (cases_eq a.serial 0) [
    | inl z ↦ rw (eq-eqb a.serial 0 z) (elim (cases_eq a.thread (length g.mutators)) [
      | inl e ↦ rw (eq-eqb a.thread (length g.mutators) e) s.shared
      | inr ne ↦ rw (ne_eqb a.thread (length g.mutators) ne) tt
    ])
    | inr nz ↦ rw (ne_eqb a.serial 0 nz) (all_at AreSmall (mutator_at g a.thread).objects _ no_object tt
        (thread_small a.thread).objects)
  ]

  pub field_small : (a : Name) (i : ℕ) → IsSmall (field_of (object_of g a) i)
  field_small a i = all_at IsSmall (object_of g a).fields i Nil tt (object_small a)

  with_small : (t : ℕ) (m : Mutator) → IsSmallThread m → IsSmallGraph (with_mutator g t m)
  with_small t m small = record {
    shared = s.shared;
    threads = all_set IsSmallThread g.mutators t m small s.threads;
  }

  pub store_small : (t d : ℕ) (v : Value) → IsSmall v → IsSmallGraph (with_register g t d v)
  store_small t d v small = with_small t _ (record {
    registers = all_set IsSmall (mutator_at g t).registers d v small (thread_small t).registers;
    objects = (thread_small t).objects;
  })

  pub put_small : (a : Name) (i : ℕ) (v : Value) → IsSmall v → IsSmallGraph (with_field g a i v)
  put_small a i v small =
      let array : Graph = record { shared = set_field g.shared i v; mutators = g.mutators } in
      let own : Mutator = record {
        registers = (mutator_at g a.thread).registers;
        objects = set (mutator_at g a.thread).objects (a.serial - 1)
            (set_field (object_of g a) i v);
      } in
      let here : Graph = cond (a.thread == length g.mutators) array g in
      let there : Graph = with_mutator g a.thread own in
      let array_small : IsSmallGraph array = record {
        shared = all_set IsSmall g.shared.fields i v small s.shared;
        threads = s.threads;
      } in
      let own_small : IsSmallThread own = record {
        registers = (thread_small a.thread).registers;
        objects = all_set AreSmall (mutator_at g a.thread).objects (a.serial - 1)
            (set_field (object_of g a) i v)
            (all_set IsSmall (object_of g a).fields i v small (object_small a))
            (thread_small a.thread).objects;
      } in
      elim (cases_Bool (a.serial == 0)) [
        | inl y ↦ subst (λ b. IsSmallGraph (cond b here there)) (sym y)
            (elim (cases_Bool (a.thread == length g.mutators)) [
              | inl e ↦ subst (λ b. IsSmallGraph (cond b array g)) (sym e) array_small
              | inr n ↦ subst (λ b. IsSmallGraph (cond b array g)) (sym n) s
            ])
        | inr n ↦ subst (λ b. IsSmallGraph (cond b here there)) (sym n)
            (with_small a.thread own own_small)
      ]

  pub make_small : (t n : ℕ) (kind : ObjectKind) → IsSmallGraph (with_object g t (nil_object kind n))
  make_small t n kind = with_small t _ (record {
    registers = (thread_small t).registers;
    objects = all_more AreSmall (mutator_at g t).objects (nil_object kind n) (nils_small n)
        (thread_small t).objects;
  })

-- ---- a step

abbrev IsSmallReply : Reply → Type 0
IsSmallReply (replies.Val v) = IsSmall v
IsSmallReply _ = Unit {0}

abbrev Keeps : Graph × Reply → Type 0
Keeps r = IsSmallGraph r.0 × IsSmallReply r.1

at_field_keeps : (g : Graph) (v : Value) (i : ℕ) (act : Name → Graph × Reply) → IsSmallGraph g
    → ((a : Name) → Keeps (act a)) → Keeps (at_field g v i act)
at_field_keeps g Nil i act s h = (s, tt)
at_field_keeps g (Int n) i act s h = (s, tt)
at_field_keeps g (Ref a) i act s h =
    elim (cases_Bool (ltb i (length (object_of g a).fields))) [
      | inl y ↦ subst (λ b. Keeps (cond b (act a) (g, replies.Range))) (sym y) (h a)
      | inr n ↦ subst (λ b. Keeps (cond b (act a) (g, replies.Range))) (sym n) (s, tt)
    ]

at_object_keeps : (g : Graph) (v : Value) (act : Name → Graph × Reply) → IsSmallGraph g
    → ((a : Name) → Keeps (act a)) → Keeps (at_object g v act)
at_object_keeps g Nil act s h = (s, tt)
at_object_keeps g (Int n) act s h = (s, tt)
at_object_keeps g (Ref a) act s h = h a

either_keeps : (k : Bool) (g h : Graph) → IsSmallGraph g → IsSmallGraph h
    → Keeps (cond {A = Graph × Reply} k (g, replies.Yes) (h, replies.No))
either_keeps true g h s z = (s, tt)
either_keeps false g h s z = (z, tt)

yes_or_no : (k : Bool) → IsSmallReply (cond k replies.Yes replies.No)
yes_or_no true = tt
yes_or_no false = tt

pub step_keeps : (c : Config) (g : Graph) (t : ℕ) (command : Command) → IsCommandInBounds c command
    → IsSmallGraph g → Keeps (step g t command)
step_keeps c g t (commands.New d f) b s =
    (store_small _ (make_small g s t f _) t d (Ref (next_name g t)) tt, tt)
step_keeps c g t (commands.Arr d e) b s =
    (store_small _ (make_small g s t e _) t d (Ref (next_name g t)) tt, tt)
step_keeps c g t (commands.Set d v) b s = (store_small g s t d (Int v) b.range.1, tt)
step_keeps c g t (commands.Nil d) b s = (store_small g s t d Nil tt, tt)
step_keeps c g t (commands.Mov d r) b s =
    (store_small g s t d (register_of g t r) (register_small g s t r), tt)
step_keeps c g t (commands.Get d r i) b s =
    at_field_keeps g (register_of g t r) i _ s (λ a.
    (store_small g s t d _ (field_small g s a i), field_small g s a i))
step_keeps c g t (commands.Put r i v) b s =
    at_field_keeps g (register_of g t r) i _ s (λ a.
    (put_small g s a i (register_of g t v) (register_small g s t v), tt))
step_keeps c g t (commands.Len r) b s =
    at_object_keeps g (register_of g t r) _ s (λ a. (s, tt))
step_keeps c g t (commands.Same p q) b s =
    (s, yes_or_no (same_value (register_of g t p) (register_of g t q)))
step_keeps c g t (commands.Say r) b s = (s, register_small g s t r)
step_keeps c g t (commands.Swap r i v) b s =
    at_field_keeps g (register_of g t r) i _ s (λ a. (
      store_small _ (put_small g s a i (register_of g t v) (register_small g s t v)) t v
          (field_of (object_of g a) i) (field_small g s a i),
      field_small g s a i,
    ))
step_keeps c g t (commands.Cas r i p v) b s =
    at_field_keeps g (register_of g t r) i _ s (λ a.
    either_keeps (same_value (field_of (object_of g a) i) (register_of g t p))
    (with_field g a i (register_of g t v)) g
    (put_small g s a i (register_of g t v) (register_small g s t v)) s)
step_keeps c g t (commands.Idle u) b s = (s, tt)

-- ---- a history

abbrev IsEntryInBounds : Config → Entry → Type 0
IsEntryInBounds c e = IsCommandInBounds c e.command

abbrev AreItemsInBounds : Config → List HistoryItem → Type 0
AreItemsInBounds c [] = Unit {0}
AreItemsInBounds c (Started ∷ h) = AreItemsInBounds c h
AreItemsInBounds c (Did e ∷ h) = IsEntryInBounds c e × AreItemsInBounds c h

full_small : (r : Reply) → is_full r ≡ true → IsSmallReply r
full_small (replies.Val v) e = absurd cc
full_small _ e = tt

after_keeps : (c : Config) (g : Graph) (e : Entry) → IsSmallGraph g → IsEntryInBounds c e
    → IsAnswered g (Did e) → IsSmallGraph (after g (Did e)) × IsSmallReply e.reply
after_keeps c g e s b answered =
    let kept = step_keeps c g e.thread e.command b s in (
      elim (cases_Bool (is_full e.reply)) [
        | inl y ↦ subst (λ k. IsSmallGraph (cond k g (step g e.thread e.command).0)) (sym y) s
        | inr n ↦ subst (λ k. IsSmallGraph (cond k g (step g e.thread e.command).0)) (sym n) kept.0
      ],
      elim answered [
        | inl is ↦ subst IsSmallReply (sym is) kept.1
        | inr full ↦ full_small e.reply full.0
      ],
    )

said_small : (command : Command) (r : Reply) (vs : List ℕ) → IsSmallReply r → AreNumbers vs
    → AreNumbers (with_number (shown_by command r) vs)
said_small (commands.Say s) (replies.Val (Int v)) vs small all = (small, all)
said_small (commands.Say s) (replies.Val Nil) vs small all = all
said_small (commands.Say s) (replies.Val (Ref a)) vs small all = all
said_small (commands.Say s) _ vs small all = all
said_small _ r vs small all = all

numbers_small : (c : Config) (g : Graph) (h : List HistoryItem) (t : ℕ) → IsSmallGraph g
    → AreItemsInBounds c h → LegalFrom g h → AreNumbers (numbers_said (part t h))
numbers_small c g [] t s b legal = tt
numbers_small c g (Started ∷ h) t s b legal = numbers_small c g h t s b legal.1
numbers_small c g (Did e ∷ h) t s b legal =
    let kept = after_keeps c g e s b.0 legal.0 in
    let rest = numbers_small c (after g (Did e)) h t kept.0 b.1 legal.1 in
    elim (cases_eq e.thread t) [
      | inl is ↦ rw (eq-eqb e.thread t is)
          (said_small e.command e.reply (numbers_said (part t h)) kept.1 rest)
      | inr ne ↦ rw (ne_eqb e.thread t ne) rest
    ]

-- each entry is in its thread's part, whose commands are in their ranges
abbrev PartsInBounds : Config → List HistoryItem → Type 0
PartsInBounds c h = (t : ℕ) → AllByRecursion (IsEntryInBounds c) (part t h)

items_in_bounds : (c : Config) (h : List HistoryItem) → PartsInBounds c h → AreItemsInBounds c h
items_in_bounds c [] each = tt
items_in_bounds c (Started ∷ h) each = items_in_bounds c h each
items_in_bounds c (Did e ∷ h) each = (
  (subst (λ b. AllByRecursion (IsEntryInBounds c) (cond b (e ∷ part e.thread h) (part e.thread h)))
      (eq-eqb e.thread e.thread refl) (each e.thread)).0,
  items_in_bounds c h (λ t. elim (cases_eq e.thread t) [
    | inl is ↦ (subst (λ b. AllByRecursion (IsEntryInBounds c) (cond b (e ∷ part t h) (part t h)))
        (eq-eqb e.thread t is) (each t)).1
    | inr ne ↦ subst (λ b. AllByRecursion (IsEntryInBounds c) (cond b (e ∷ part t h) (part t h)))
        (ne_eqb e.thread t ne) (each t)
  ]),
)

by_commands : (c : Config) (log : List Entry)
    → AllByRecursion (IsCommandInBounds c) (map (λ (e : Entry). e.command) log)
    → AllByRecursion (IsEntryInBounds c) log
by_commands c [] all = tt
by_commands c (e ∷ es) all = (all.0, by_commands c es all.1)

trace_at : (c : Config) (traces : List (List Command)) (t : ℕ)
    → AllByRecursion (IsTraceInBounds c) traces
    → AllByRecursion (IsCommandInBounds c) (get_or traces t [])
trace_at c [] t all = tt
trace_at c (x ∷ xs) zero all = all.0.commands
trace_at c (x ∷ xs) (suc t) all = trace_at c xs t all.1

pub said_numbers_small : (c : Config) (traces : List (List Command)) (h : List HistoryItem) (t : ℕ)
    → AllByRecursion (IsTraceInBounds c) traces → Legal c h → HasTraces traces h
    → AreNumbers (numbers_said (part t h))
said_numbers_small c traces [] t all legal whole = absurd legal
said_numbers_small c traces (Did e ∷ h) t all legal whole = absurd legal
said_numbers_small c traces (Started ∷ h) t all legal whole =
    numbers_small c (start_graph c) h t (start_small c)
    (items_in_bounds c h (λ u. by_commands c (part u h)
    (subst (AllByRecursion (IsCommandInBounds c)) (sym (whole u)) (trace_at c traces u all))))
    legal
