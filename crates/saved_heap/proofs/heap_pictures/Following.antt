-- The same commands on two graphs of one thread that are one up to names.
use Rattle.std.proofs.Common.{◌≡◌, ℕ, ◌<◌, Bool, true, false, inl, inr, ltb, cond, get_or, zero, suc, List, [], ◌∷◌, length, map, refl, sym, ap, ◌∙◌, subst, arith}
use Rattle.std.specs.List.{AllByRecursion, list_all}
use Rattle.std.proofs.lemmas.Bool.{and_from, both_ways, cases_Bool, false_from_ne_true, ltb-true, or_left}
use Rattle.std.proofs.lemmas.List.{length-map}
use Rattle.block_store.specs.declared.Config.{Config}
use Rattle.block_store.specs.declared.Name.{Name}
use Rattle.block_store.specs.declared.TheConstants.{REGISTERS}
use Rattle.block_store.specs.declared.Value.{Value}
use Rattle.block_store.specs.declared.Value.TheVariants.{Nil, Int, Ref}
use Rattle.never_heap.specs.declared.Command.{Command}
use Rattle.never_heap.specs.declared.Command.TheVariants as commands
use Rattle.never_heap.specs.declared.Reply.{Reply}
use Rattle.never_heap.specs.declared.Reply.TheVariants as replies
use Rattle.never_heap.specs.Bounds.{IsCommandInRange}
use Rattle.never_heap.specs.Histories.{HistoryItem, replay}
use Rattle.never_heap.specs.Graphs.{Graph, Object, ObjectKind, Record, Array, field_of, has_name, next_name, nil_object, object_of, register_of, same_name, start_graph, with_field, with_object, with_register}
use Rattle.never_heap.specs.Steps.{at_field, at_object, made, same_value, step, swapped}
use Rattle.never_heap.proofs.Lemmas.{one_name, ref_name, registers_of_start, registers_with_field, registers_with_object, replay_keeps, same_itself, step_registers, step_threads, threads_of_start, threads_with_field, with_object_threads}
use Rattle.saved_heap.specs.heap_pictures.Following.{HasOneThread, StayOneUpToNames, names_only, renamed_reply, replies_to}
use Rattle.saved_heap.specs.heap_pictures.Plans.{graph_after}
use Rattle.saved_heap.specs.heap_pictures.UpToNames.{AreOneUpToNames, renamed}
use Rattle.saved_heap.proofs.heap_pictures.RenamedGraphs.{AreOneUnder, IsNamed, and_next, fields_under, objects_under, old_is_reached, old_name, registers_under, to_next, under, up_to_names}

-- ---- one thread stays

pub any_thread_stays : (g : Graph) (t : ℕ) (k : Command) → HasOneThread g
    → HasOneThread (step g t k).0
any_thread_stays g t k lone = record {
  threads = step_threads g t k ∙ lone.threads;
  registers = step_registers g t k 0 ∙ lone.registers;
}

pub thread_stays : (g : Graph) (k : Command) → HasOneThread g → HasOneThread (step g 0 k).0
thread_stays g k lone = any_thread_stays g 0 k lone

-- the graph of each history has one thread
pub thread_of_replay : (c : Config) (h : List HistoryItem) → c.threads ≡ 1
    → HasOneThread (replay c h)
thread_of_replay c h one = replay_keeps HasOneThread any_thread_stays h (start_graph c) (record {
  threads = threads_of_start c ∙ one;
  registers = registers_of_start c 0 (omega (arith, one));
})

-- also where a field is stored or an object is made
lone_field : (g : Graph) (a : Name) (i : ℕ) (v : Value) → has_name g a ≡ true → HasOneThread g
    → HasOneThread (with_field g a i v)
lone_field g a i v has lone = record {
  threads = threads_with_field g a i v has ∙ lone.threads;
  registers = ap length (registers_with_field g a i v has 0) ∙ lone.registers;
}

lone_object : (g : Graph) (o : Object) → HasOneThread g → HasOneThread (with_object g 0 o)
lone_object g o lone = record {
  threads = with_object_threads g 0 o ∙ lone.threads;
  registers = ap length (registers_with_object g 0 o (omega (arith, lone.threads)) 0)
      ∙ lone.registers;
}

pub threads_stay : (g : Graph) (ks : List Command) → HasOneThread g
    → HasOneThread (graph_after g ks)
threads_stay g [] lone = lone
threads_stay g (k ∷ ks) lone = threads_stay (step g 0 k).0 ks (thread_stays g k lone)

-- ---- one command

-- The graphs after a command are one under names that go on from those before, and the replies are
-- one under them.
record GoOn (R : Name → Bool) (T : Name → Name) (p q : Graph × Reply) : Type 0 where
  reached : Name → Bool
  to : Name → Name
  more : (a : Name) → R a ≡ true → reached a ≡ true
  same : (a : Name) → R a ≡ true → to a ≡ T a
  next : AreOneUnder reached to p.0 q.0
  reply : q.1 ≡ renamed_reply to p.1
  names : names_only reached p.1 ≡ true

named_by_ref : (R : Name → Bool) (b a : Name) → R b ≡ true → Ref b ≡ Ref a → R a ≡ true
named_by_ref R b a rb e = subst (λ c. R c ≡ true) (ref_name b a e) rb

-- a field of an object whose names are replaced
field_under : (T : Name → Name) (vs : List Value) (i : ℕ)
    → get_or (map (renamed T) vs) i Nil ≡ renamed T (get_or vs i Nil)
field_under T [] i = refl
field_under T (v ∷ vs) zero = refl
field_under T (v ∷ vs) (suc i) = field_under T vs i

-- a reply that is a value
value_names : (R : Name → Bool) (v : Value) → IsNamed R v → names_only R (replies.Val v) ≡ true
value_names R Nil named = refl
value_names R (Int n) named = refl
value_names R (Ref a) named = named a refl

module _ (R : Name → Bool) (T : Name → Name) where
  -- the names stay
  stays : (h y : Graph) (a b : Reply) → AreOneUnder R T h y → b ≡ renamed_reply T a
      → names_only R a ≡ true → GoOn R T (h, a) (y, b)
  stays h y a b next reply names = record {
    reached = R;
    to = T;
    more = λ c rc. rc;
    same = λ c rc. refl;
    next = next;
    reply = reply;
    names = names;
  }

  answer_by : (b : Bool)
      → cond b replies.Yes replies.No ≡ renamed_reply T (cond b replies.Yes replies.No)
  answer_by true = refl
  answer_by false = refl

  answer_names : (b : Bool) → names_only R (cond b replies.Yes replies.No) ≡ true
  answer_names true = refl
  answer_names false = refl

  -- what is one of two by a test
  chosen : (b : Bool) (p q h y : Graph × Reply) → (b ≡ true → GoOn R T p q) → GoOn R T h y
      → GoOn R T (cond {A = Graph × Reply} b p h) (cond {A = Graph × Reply} b q y)
  chosen true p q h y won lost = won refl
  chosen false p q h y won lost = lost

  module _ (g z : Graph) (one : AreOneUnder R T g z) where
    -- two values are the same where they are so in the other graph
    same_under : (v w : Value) → IsNamed R v → IsNamed R w
        → same_value (renamed T v) (renamed T w) ≡ same_value v w
    same_under Nil Nil nv nw = refl
    same_under Nil (Int n) nv nw = refl
    same_under Nil (Ref b) nv nw = refl
    same_under (Int m) Nil nv nw = refl
    same_under (Int m) (Int n) nv nw = refl
    same_under (Int m) (Ref b) nv nw = refl
    same_under (Ref a) Nil nv nw = refl
    same_under (Ref a) (Int n) nv nw = refl
    same_under (Ref a) (Ref b) nv nw = elim (cases_Bool (same_name a b)) [
      | inl y ↦ ap (λ c. same_name (T a) (T c)) (sym (one_name a b y)) ∙ same_itself (T a) ∙ sym y
      | inr n ↦ false_from_ne_true (same_name (T a) (T b)) (λ y.
          both_ways (same_name a b) n
          (ap (same_name a)
          (sym (one.apart a b (nv a refl) (nw b refl) (one_name (T a) (T b) y)))
          ∙ same_itself a))
          ∙ sym n
    ]

    field_named : (a : Name) (i : ℕ) → R a ≡ true → IsNamed R (field_of (object_of g a) i)
    field_named a i ra b e = one.closed a b i ra e

    field_there : (a : Name) (i : ℕ) → R a ≡ true
        → field_of (object_of z (T a)) i ≡ renamed T (field_of (object_of g a) i)
    field_there a i ra =
        ap (λ o. field_of o i) (one.objects a ra) ∙ field_under T (object_of g a).fields i

    long_there : (a : Name) → R a ≡ true
        → length (object_of z (T a)).fields ≡ length (object_of g a).fields
    long_there a ra =
        ap (λ o. length o.fields) (one.objects a ra) ∙ length-map (object_of g a).fields (renamed T)

    -- what is done at a field, and what is done at an object
    at_field_under : (v : Value) (i : ℕ) (act acts : Name → Graph × Reply) → IsNamed R v
        → ((a : Name) → R a ≡ true → i < length (object_of g a).fields
        → GoOn R T (act a) (acts (T a)))
        → GoOn R T (at_field g v i act) (at_field z (renamed T v) i acts)
    at_field_under Nil i act acts named h = stays g z replies.Null replies.Null one refl refl
    at_field_under (Int n) i act acts named h = stays g z replies.Kind replies.Kind one refl refl
    at_field_under (Ref a) i act acts named h =
        let ra : R a ≡ true = named a refl in
        let here : ℕ = length (object_of g a).fields in
        subst (λ n. GoOn R T (cond {A = Graph × Reply} (ltb i here) (act a) (g, replies.Range))
        (cond {A = Graph × Reply} (ltb i n) (acts (T a)) (z, replies.Range)))
        (sym (long_there a ra))
        (chosen (ltb i here) (act a) (acts (T a)) (g, replies.Range) (z, replies.Range)
        (λ y. h a ra (ltb-true i here y))
        (stays g z replies.Range replies.Range one refl refl))

    at_object_under : (v : Value) (act acts : Name → Graph × Reply) → IsNamed R v
        → ((a : Name) → R a ≡ true → GoOn R T (act a) (acts (T a)))
        → GoOn R T (at_object g v act) (at_object z (renamed T v) acts)
    at_object_under Nil act acts named h = stays g z replies.Null replies.Null one refl refl
    at_object_under (Int n) act acts named h = stays g z replies.Kind replies.Kind one refl refl
    at_object_under (Ref a) act acts named h = h a (named a refl)

    at_base : (s i : ℕ) (act acts : Name → Graph × Reply)
        → ((a : Name) → R a ≡ true → i < length (object_of g a).fields
        → GoOn R T (act a) (acts (T a)))
        → GoOn R T (at_field g (register_of g 0 s) i act) (at_field z (register_of z 0 s) i acts)
    at_base s i act acts h =
        subst (λ v. GoOn R T (at_field g (register_of g 0 s) i act) (at_field z v i acts))
        (sym (one.registers s))
        (at_field_under (register_of g 0 s) i act acts (one.roots s) h)

    -- a length
    len_under : (s : ℕ) → GoOn R T (step g 0 (commands.Len s)) (step z 0 (commands.Len s))
    len_under s =
        subst (λ v. GoOn R T (step g 0 (commands.Len s))
        (at_object z v (λ name. (z, replies.Len (length (object_of z name).fields)))))
        (sym (one.registers s))
        (at_object_under (register_of g 0 s)
        (λ name. (g, replies.Len (length (object_of g name).fields)))
        (λ name. (z, replies.Len (length (object_of z name).fields)))
        (one.roots s)
        (λ a ra. stays g z (replies.Len (length (object_of g a).fields))
        (replies.Len (length (object_of z (T a)).fields)) one
        (ap replies.Len (long_there a ra)) refl))

    -- a test of two registers
    same_registers_under : (a b : ℕ)
        → same_value (register_of z 0 a) (register_of z 0 b)
        ≡ same_value (register_of g 0 a) (register_of g 0 b)
    same_registers_under a b =
        ap (λ v. same_value v (register_of z 0 b)) (one.registers a)
        ∙ ap (λ v. same_value (renamed T (register_of g 0 a)) v) (one.registers b)
        ∙ same_under (register_of g 0 a) (register_of g 0 b) (one.roots a) (one.roots b)

    test_under : (a b : ℕ)
        → GoOn R T (step g 0 (commands.Same a b)) (step z 0 (commands.Same a b))
    test_under a b =
        let test : Bool = same_value (register_of g 0 a) (register_of g 0 b) in
        stays g z (cond test replies.Yes replies.No)
        (cond (same_value (register_of z 0 a) (register_of z 0 b)) replies.Yes replies.No) one
        (ap (λ t. cond t replies.Yes replies.No) (same_registers_under a b) ∙ answer_by test)
        (answer_names test)

    -- a store in a field
    put_under : (a : Name) (i v : ℕ) (r : Reply) → R a ≡ true → i < length (object_of g a).fields
        → r ≡ renamed_reply T r → names_only R r ≡ true
        → GoOn R T (with_field g a i (register_of g 0 v), r)
        (with_field z (T a) i (register_of z 0 v), r)
    put_under a i v r ra low same names =
        stays (with_field g a i (register_of g 0 v)) (with_field z (T a) i (register_of z 0 v)) r r
        (subst (λ w. AreOneUnder R T (with_field g a i (register_of g 0 v))
        (with_field z (T a) i w))
        (sym (one.registers v))
        (fields_under R T g z one a ra i low (register_of g 0 v) (one.roots v)))
        same names

    -- the test of a field with a register
    field_same_under : (a : Name) (i b : ℕ) → R a ≡ true
        → same_value (field_of (object_of z (T a)) i) (register_of z 0 b)
        ≡ same_value (field_of (object_of g a) i) (register_of g 0 b)
    field_same_under a i b ra =
        ap (λ v. same_value v (register_of z 0 b)) (field_there a i ra)
        ∙ ap (λ v. same_value (renamed T (field_of (object_of g a) i)) v) (one.registers b)
        ∙ same_under (field_of (object_of g a) i) (register_of g 0 b) (field_named a i ra)
        (one.roots b)

    cas_under : (s i b v : ℕ)
        → GoOn R T (step g 0 (commands.Cas s i b v)) (step z 0 (commands.Cas s i b v))
    cas_under s i b v = at_base s i
        (λ name. cond {A = Graph × Reply}
        (same_value (field_of (object_of g name) i) (register_of g 0 b))
        (with_field g name i (register_of g 0 v), replies.Yes) (g, replies.No))
        (λ name. cond {A = Graph × Reply}
        (same_value (field_of (object_of z name) i) (register_of z 0 b))
        (with_field z name i (register_of z 0 v), replies.Yes) (z, replies.No))
        (λ a ra low.
        let test : Bool = same_value (field_of (object_of g a) i) (register_of g 0 b) in
        subst (λ t. GoOn R T (cond {A = Graph × Reply} test
        (with_field g a i (register_of g 0 v), replies.Yes) (g, replies.No))
        (cond {A = Graph × Reply} t
        (with_field z (T a) i (register_of z 0 v), replies.Yes) (z, replies.No)))
        (sym (field_same_under a i b ra))
        (chosen test (with_field g a i (register_of g 0 v), replies.Yes)
        (with_field z (T a) i (register_of z 0 v), replies.Yes) (g, replies.No) (z, replies.No)
        (λ _. put_under a i v replies.Yes ra low refl refl)
        (stays g z replies.No replies.No one refl refl)))

    module _ (lone : HasOneThread g) (also : HasOneThread z) where
      -- a store in a register
      set_under : (d : ℕ) → d < REGISTERS → (v w : Value) → IsNamed R v → w ≡ renamed T v
          → (a b : Reply) → b ≡ renamed_reply T a → names_only R a ≡ true
          → GoOn R T (with_register g 0 d v, a) (with_register z 0 d w, b)
      set_under d low v w named e a b reply names =
          stays (with_register g 0 d v) (with_register z 0 d w) a b
          (subst (λ x. AreOneUnder R T (with_register g 0 d v) (with_register z 0 d x)) (sym e)
          (registers_under R T g z one lone also d low v named))
          reply names

      get_under : (d s i : ℕ) → d < REGISTERS
          → GoOn R T (step g 0 (commands.Get d s i)) (step z 0 (commands.Get d s i))
      get_under d s i low = at_base s i
          (λ name. (
            with_register g 0 d (field_of (object_of g name) i),
            replies.Val (field_of (object_of g name) i),
          ))
          (λ name. (
            with_register z 0 d (field_of (object_of z name) i),
            replies.Val (field_of (object_of z name) i),
          ))
          (λ a ra _. set_under d low (field_of (object_of g a) i) (field_of (object_of z (T a)) i)
          (field_named a i ra) (field_there a i ra) (replies.Val (field_of (object_of g a) i))
          (replies.Val (field_of (object_of z (T a)) i)) (ap replies.Val (field_there a i ra))
          (value_names R (field_of (object_of g a) i) (field_named a i ra)))

      -- an exchange
      swapped_under : (a : Name) (i v : ℕ) → R a ≡ true → i < length (object_of g a).fields
          → v < REGISTERS → AreOneUnder R T (swapped g 0 a i v) (swapped z 0 (T a) i v)
      swapped_under a i v ra long low =
          let x : Value = register_of g 0 v in
          let f : Value = field_of (object_of g a) i in
          subst (λ y. AreOneUnder R T (swapped g 0 a i v)
          (with_register (with_field z (T a) i (register_of z 0 v)) 0 v y))
          (sym (field_there a i ra))
          (subst (λ y. AreOneUnder R T (swapped g 0 a i v)
          (with_register (with_field z (T a) i y) 0 v (renamed T f)))
          (sym (one.registers v))
          (registers_under R T (with_field g a i x) (with_field z (T a) i (renamed T x))
          (fields_under R T g z one a ra i long x (one.roots v))
          (lone_field g a i x (one.here a ra) lone)
          (lone_field z (T a) i (renamed T x) (one.there a ra) also)
          v low f (field_named a i ra)))

      swap_under : (s i v : ℕ) → v < REGISTERS
          → GoOn R T (step g 0 (commands.Swap s i v)) (step z 0 (commands.Swap s i v))
      swap_under s i v low = at_base s i
          (λ name. (swapped g 0 name i v, replies.Val (field_of (object_of g name) i)))
          (λ name. (swapped z 0 name i v, replies.Val (field_of (object_of z name) i)))
          (λ a ra long. stays (swapped g 0 a i v) (swapped z 0 (T a) i v)
          (replies.Val (field_of (object_of g a) i))
          (replies.Val (field_of (object_of z (T a)) i)) (swapped_under a i v ra long low)
          (ap replies.Val (field_there a i ra))
          (value_names R (field_of (object_of g a) i) (field_named a i ra)))

      -- a new object has the next name in both graphs
      made_under : (d n : ℕ) (kind : ObjectKind) → d < REGISTERS
          → GoOn R T (made g 0 d (nil_object kind n)) (made z 0 d (nil_object kind n))
      made_under d n kind low =
          let o : Object = nil_object kind n in
          let to : next_name z 0 ≡ to_next T g z (next_name g 0) =
          sym (ap (λ t. cond t (next_name z 0) (T (next_name g 0)))
          (same_itself (next_name g 0))) in
          let is : and_next R g (next_name g 0) ≡ true =
          or_left (same_name (next_name g 0) (next_name g 0)) (R (next_name g 0))
          (same_itself (next_name g 0)) in
          record {
            reached = and_next R g;
            to = to_next T g z;
            more = old_is_reached R T g z one lone also kind n;
            same = old_name R T g z one lone also kind n;
            next = subst (λ a. AreOneUnder (and_next R g) (to_next T g z) (made g 0 d o).0
                (with_register (with_object z 0 o) 0 d (Ref a))) (sym to)
                (registers_under (and_next R g) (to_next T g z) (with_object g 0 o)
                (with_object z 0 o) (objects_under R T g z one lone also kind n)
                (lone_object g o lone) (lone_object z o also) d low (Ref (next_name g 0))
                (λ a e. named_by_ref (and_next R g) (next_name g 0) a is e));
            reply = ap replies.New to;
            names = is;
          }

      step_under : (k : Command) → IsCommandInRange k → GoOn R T (step g 0 k) (step z 0 k)
      step_under (commands.New d f) range = made_under d f Record range.0
      step_under (commands.Arr d e) range = made_under d e Array range.0
      step_under (commands.Set d v) range =
          set_under d range.0 (Int v) (Int v) (λ a e. absurd cc) refl replies.Stored replies.Stored
          refl refl
      step_under (commands.Nil d) range =
          set_under d range Nil Nil (λ a e. absurd cc) refl replies.Stored replies.Stored refl refl
      step_under (commands.Mov d s) range =
          set_under d range.0 (register_of g 0 s) (register_of z 0 s) (one.roots s)
          (one.registers s) replies.Stored replies.Stored refl refl
      step_under (commands.Get d s i) range = get_under d s i range.0
      step_under (commands.Put s i v) range = at_base s i
          (λ name. (with_field g name i (register_of g 0 v), replies.Stored))
          (λ name. (with_field z name i (register_of z 0 v), replies.Stored))
          (λ a ra low. put_under a i v replies.Stored ra low refl refl)
      step_under (commands.Len s) range = len_under s
      step_under (commands.Same a b) range = test_under a b
      step_under (commands.Say s) range =
          stays g z (replies.Val (register_of g 0 s)) (replies.Val (register_of z 0 s)) one
          (ap replies.Val (one.registers s)) (value_names R (register_of g 0 s) (one.roots s))
      step_under (commands.Swap s i v) range = swap_under s i v range.2
      step_under (commands.Cas s i a v) range = cas_under s i a v
      step_under (commands.Idle u) range = stays g z replies.Idle replies.Idle one refl refl

-- ---- commands in a row

-- replies under two renamings that agree on their names
same_reply_under : (R : Name → Bool) (T S : Name → Name) (r : Reply)
    → ((a : Name) → R a ≡ true → S a ≡ T a) → names_only R r ≡ true
    → renamed_reply T r ≡ renamed_reply S r
same_reply_under R T S (replies.New a) e names = ap replies.New (sym (e a names))
same_reply_under R T S (replies.Val Nil) e names = refl
same_reply_under R T S (replies.Val (Int n)) e names = refl
same_reply_under R T S (replies.Val (Ref a)) e names =
    ap (λ b. replies.Val (Ref b)) (sym (e a names))
same_reply_under R T S _ e names = refl

more_names : (R Q : Name → Bool) (r : Reply) → ((a : Name) → R a ≡ true → Q a ≡ true)
    → names_only R r ≡ true → names_only Q r ≡ true
more_names R Q (replies.New a) e names = e a names
more_names R Q (replies.Val Nil) e names = refl
more_names R Q (replies.Val (Int n)) e names = refl
more_names R Q (replies.Val (Ref a)) e names = e a names
more_names R Q _ e names = refl

record AllGoOn (R : Name → Bool) (T : Name → Name) (h y : Graph) (xs ys : List Reply) : Type 0 where
  reached : Name → Bool
  to : Name → Name
  more : (a : Name) → R a ≡ true → reached a ≡ true
  same : (a : Name) → R a ≡ true → to a ≡ T a
  next : AreOneUnder reached to h y
  replies : ys ≡ map (renamed_reply to) xs
  names : list_all (names_only reached) xs ≡ true

then_all : (R : Name → Bool) (T : Name → Name) (p q : Graph × Reply) (h y : Graph)
    (xs ys : List Reply) (first : GoOn R T p q) → AllGoOn first.reached first.to h y xs ys
    → AllGoOn R T h y (p.1 ∷ xs) (q.1 ∷ ys)
then_all R T p q h y xs ys first rest = record {
  reached = rest.reached;
  to = rest.to;
  more = λ a ra. rest.more a (first.more a ra);
  same = λ a ra. rest.same a (first.more a ra) ∙ first.same a ra;
  next = rest.next;
  replies = ap (λ r. r ∷ ys)
      (first.reply ∙ same_reply_under first.reached first.to rest.to p.1 rest.same first.names)
      ∙ ap (λ rs. renamed_reply rest.to p.1 ∷ rs) rest.replies;
  names = and_from (names_only rest.reached p.1) (list_all (names_only rest.reached) xs)
      (more_names first.reached rest.reached p.1 rest.more first.names) rest.names;
}

all_under : (g z : Graph) (ks : List Command) (R : Name → Bool) (T : Name → Name)
    → AreOneUnder R T g z → HasOneThread g → HasOneThread z
    → AllByRecursion IsCommandInRange ks
    → AllGoOn R T (graph_after g ks) (graph_after z ks) (replies_to g ks) (replies_to z ks)
all_under g z [] R T one lone also range = record {
  reached = R;
  to = T;
  more = λ a ra. ra;
  same = λ a ra. refl;
  next = one;
  replies = refl;
  names = refl;
}
all_under g z (k ∷ ks) R T one lone also range =
    let first : GoOn R T (step g 0 k) (step z 0 k) = step_under R T g z one lone also k range.0 in
    then_all R T (step g 0 k) (step z 0 k) (graph_after (step g 0 k).0 ks)
    (graph_after (step z 0 k).0 ks) (replies_to (step g 0 k).0 ks) (replies_to (step z 0 k).0 ks)
    first
    (all_under (step g 0 k).0 (step z 0 k).0 ks first.reached first.to first.next
    (thread_stays g k lone) (thread_stays z k also) range.1)

pub names_stay : (g z : Graph) (ks : List Command) → HasOneThread g → HasOneThread z
    → AllByRecursion IsCommandInRange ks → (one : AreOneUpToNames g z)
    → StayOneUpToNames one (graph_after g ks) (graph_after z ks) (replies_to g ks) (replies_to z ks)
names_stay g z ks lone also range one =
    let all : AllGoOn one.reached one.to (graph_after g ks) (graph_after z ks) (replies_to g ks)
    (replies_to z ks) = all_under g z ks one.reached one.to (under one) lone also range in
    record {
      next = up_to_names all.reached all.to all.next;
      kept = record { reached = all.more; to = all.same };
      replies = all.replies;
      names = all.names;
    }
