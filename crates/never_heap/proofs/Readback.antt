-- What a field holds is what was last stored there.
use Rattle.std.proofs.Common.{ℕ, Option, Some, None, ◌≡◌, ◌<◌, true, false, cond, ltb, List, [], ◌∷◌, ◌++◌, length, get_or, ap, sym, ◌∙◌, refl, subst, arith, inl, inr, ◌⊎◌}
use Rattle.std.proofs.lemmas.Bool.{cases_eq, cases_lt, cases_Bool, lt-ltb}
use Rattle.std.proofs.lemmas.List.{get_or_past, get_or-set_same}
use Rattle.block_store.specs.declared.Config.{Config}
use Rattle.block_store.specs.declared.Name.{Name}
use Rattle.block_store.specs.declared.Value.{Value}
use Rattle.block_store.specs.declared.Value.TheVariants.{Nil, Int, Ref}
use Rattle.never_heap.specs.declared.Command.{Command}
use Rattle.never_heap.specs.declared.Command.TheVariants as commands
use Rattle.never_heap.specs.declared.Entry.{Entry}
use Rattle.never_heap.specs.declared.Reply.{Reply}
use Rattle.never_heap.specs.declared.Reply.TheVariants as replies
use Rattle.never_heap.specs.Graphs.{Graph, Object, start_graph, register_of, object_of, has_name, same_name, with_register, with_field, with_object, set_field, field_of, nils, next_name}
use Rattle.never_heap.specs.Histories.{HistoryItem, Started, Did, is_full, after, replay, replay_from, IsAnswered, Legal, LegalFrom}
use Rattle.never_heap.specs.Reach.{refers}
use Rattle.never_heap.specs.Steps.{step, made, at_field, makes_object}
use Rattle.never_heap.specs.Readback.{stored_by, StoresIn, NoneStores, IsLastStore, IsLastStored}
use Rattle.never_heap.proofs.FieldStores.{object_with_field, object_with_object}
use Rattle.never_heap.proofs.HistoryGrowth.{replay_more, legal_front, replay_append, legal_back, legal_from}
use Rattle.never_heap.proofs.NameLists.{one_name, same_itself, refers-ref, ref-refers}
use Rattle.never_heap.proofs.ReachSteps.{nil_of}
use Rattle.never_heap.proofs.StartGraph.{object_of_start}
use Rattle.never_heap.proofs.Outcomes.{Outcome, unchanged, in_register, in_field, in_both, new_object, outcome_of}
use Rattle.never_heap.proofs.StepChanges.{has_field}
use Rattle.never_heap.proofs.UnchangedBySteps.{past_with, next_is_new, register_object, field_at, put_apart, replay_shape}
use Rattle.never_heap.proofs.StepAnswers.{answered_by_step}

-- a field of a name that the graph has not is nil
field_of_none : (g : Graph) (a : Name) (i : ℕ) → has_name g a ≡ false → field_at g a i ≡ Nil
field_of_none g a i none = elim (cases_lt i (length (object_of g a).fields)) [
  | inl l ↦ absurd (let both : true ≡ false = sym (has_field g a i l) ∙ none in cc)
  | inr l ↦ get_or_past (object_of g a).fields i Nil l
]

-- one more object has a new name, and nothing but nils
made_fields : (g : Graph) (t d n : ℕ) (o : Object) (a : Name) (i : ℕ) → o.fields ≡ nils n
    → field_at (made g t d o).0 a i ≡ field_at g a i
made_fields g t d n o a i nil =
    ap (λ (p : Object). field_of p i)
    (register_object (with_object g t o) t d (Ref (next_name g t)) a)
    ∙ elim (cases_lt t (length g.mutators)) [
      | inr past ↦ ap (λ (k : Graph). field_at k a i) (past_with g t _ past)
      | inl there ↦ ap (λ (p : Object). field_of p i) (object_with_object g t o there a)
          ∙ elim (cases_Bool (same_name (next_name g t) a)) [
            | inr other ↦ ap (λ k. field_of (cond k o (object_of g a)) i) other
            | inl same ↦ ap (λ k. field_of (cond k o (object_of g a)) i) same
                ∙ ap (λ fs. get_or fs i Nil) nil ∙ nil_of n i
                ∙ sym (field_of_none g a i
                (ap (has_name g) (sym (one_name (next_name g t) a same)) ∙ next_is_new g t))
          ]
    ]

-- what is done at a field that the object has
at_field_there : (g : Graph) (v : Value) (a : Name) (i : ℕ) (act : Name → Graph × Reply)
    → v ≡ Ref a → i < length (object_of g a).fields → at_field g v i act ≡ act a
at_field_there g v a i act e l =
    ap (λ w. at_field g w i act) e
    ∙ ap (λ b. cond b (act a) (g, replies.Range)) (lt-ltb i (length (object_of g a).fields) l)

-- a command that does not store in a field leaves it
field_after : (g : Graph) (t : ℕ) (k : Command) (p : Graph × Reply) → Outcome g t k p
    → (a : Name) (i : ℕ)
    → ((s w : ℕ) → stored_by k p.1 ≡ Some (s, (i, w)) → register_of g t s ≡ Ref a → ⊥)
    → field_at p.0 a i ≡ field_at g a i
field_after g t k _ (unchanged r told makes by) a i apart = refl
field_after g t k _ (in_register d v r s said to makes by) a i apart =
    ap (λ (o : Object). field_of o i) (register_object g t d v a)
field_after g t k _ (in_field s j w b r e l said at makes by) a i apart =
    put_apart g j (register_of g t w) b a i l (λ same is.
    apart s w (by ∙ ap (λ k. Some (s, (k, w))) is) (e ∙ ap Ref same))
field_after g t k _ (in_both s j w b e l to at makes by) a i apart =
    ap (λ (o : Object). field_of o i)
    (register_object (with_field g b j (register_of g t w)) t w (field_at g b j) a)
    ∙ put_apart g j (register_of g t w) b a i l (λ same is.
    apart s w (by ∙ ap (λ k. Some (s, (k, w))) is) (e ∙ ap Ref same))
field_after g t k _ (new_object d kind n is to at by) a i apart = made_fields g t d n _ a i refl

step_leaves_field : (g : Graph) (t : ℕ) (command : Command) (a : Name) (i : ℕ)
    → ((s w : ℕ) → stored_by command (step g t command).1 ≡ Some (s, (i, w))
    → register_of g t s ≡ Ref a → ⊥)
    → field_at (step g t command).0 a i ≡ field_at g a i
step_leaves_field g t command = field_after g t command _ (outcome_of g t command)

-- no command that is answered full has stored
full_stores_nothing : (command : Command) (c : ℕ) → stored_by command (replies.Full c) ≡ None
full_stores_nothing (commands.Put s i v) c = refl
full_stores_nothing (commands.Swap s i v) c = refl
full_stores_nothing (commands.Cas s i a v) c = refl
full_stores_nothing _ c = refl

abbrev Stored : Type 0
Stored = ℕ × (ℕ × ℕ)

abbrev parts_of : Option Stored → Stored
parts_of None = (0, (0, 0))
parts_of (Some p) = p

-- what is in a field in which it was just stored
field_put_there : (g : Graph) (a : Name) (i : ℕ) (w : Value) → i < length (object_of g a).fields
    → field_at (with_field g a i w) a i ≡ w
field_put_there g a i w there =
    ap (λ (o : Object). field_of o i)
    (object_with_field g a i w (has_field g a i there) a
    ∙ ap (λ b. cond b (set_field (object_of g a) i w) (object_of g a)) (same_itself a))
    ∙ get_or-set_same (object_of g a).fields i w Nil there

-- A command that has stored, by its answer, found its field, which holds what its register held.
record Stores (g : Graph) (t : ℕ) (h : Graph) (a : Name) (i w : ℕ) : Type 0 where
  there : i < length (object_of g a).fields
  now : field_at h a i ≡ register_of g t w

-- it is the field that its answer tells of
stores_there : (g : Graph) (t : ℕ) (h : Graph) (told : Option Stored) (q j u s i w : ℕ) (b a : Name)
    → Stores g t h b j u → told ≡ Some (q, (j, u)) → told ≡ Some (s, (i, w))
    → register_of g t q ≡ Ref b → register_of g t s ≡ Ref a → Stores g t h a i w
stores_there g t h told q j u s i w b a stores one other e f =
    let is : ◌≡◌ {A = Stored} (q, (j, u)) (s, (i, w)) = ap parts_of (sym one ∙ other) in
    let refs : Ref b ≡ Ref a =
    sym e ∙ ap (λ (p : Stored). register_of g t p.0) is ∙ f in
    let same : b ≡ a = cc in
    subst (λ (p : Stored). Stores g t h a p.1.0 p.1.1) is
    (subst (λ (x : Name). Stores g t h x j u) same stores)

does : (g : Graph) (t : ℕ) (k : Command) (p : Graph × Reply) → Outcome g t k p
    → (s i w : ℕ) (a : Name) → stored_by k p.1 ≡ Some (s, (i, w)) → register_of g t s ≡ Ref a
    → Stores g t p.0 a i w
does g t k _ (unchanged r quiet makes by) s i w a told f =
    absurd (let both : None ≡ Some (s, (i, w)) = sym by ∙ told in cc)
does g t k _ (in_register d v r x said to makes by) s i w a told f =
    absurd (let both : None ≡ Some (s, (i, w)) = sym by ∙ told in cc)
does g t k _ (in_field q j u b r e l said at makes by) s i w a told f =
    stores_there g t _ (stored_by k r) q j u s i w b a
    (record { there = l; now = field_put_there g b j (register_of g t u) l }) by told e f
does g t k _ (in_both q j u b e l to at makes by) s i w a told f =
    stores_there g t _ (stored_by k (replies.Val (field_at g b j))) q j u s i w b a (record {
      there = l;
      now = ap (λ (o : Object). field_of o j)
          (register_object (with_field g b j (register_of g t u)) t u (field_at g b j) b)
          ∙ field_put_there g b j (register_of g t u) l;
    }) by told e f
does g t k _ (new_object d kind n is to at by) s i w a told f =
    absurd (let both : None ≡ Some (s, (i, w)) = sym (by _) ∙ told in cc)

stepped : (g : Graph) (e : Entry) → is_full e.reply ≡ false
    → after g (Did e) ≡ (step g e.thread e.command).0
stepped g e unfull = ap (λ b. cond b g (step g e.thread e.command).0) unfull

-- a reply that something was stored is no full
stored_not_full : (command : Command) (r : Reply) (p : Stored) → stored_by command r ≡ Some p
    → is_full r ≡ false
stored_not_full command (replies.Full c) p told =
    absurd (let both : None ≡ Some p = sym (full_stores_nothing command c) ∙ told in cc)
stored_not_full command _ p told = refl

-- a command that stores in a field finds it there
module _ (g : Graph) (e : Entry) (a : Name) (i : ℕ) (v : Value) (s : StoresIn g e a i v)
    (ok : IsAnswered g (Did e)) where
  not_full : is_full e.reply ≡ false
  not_full = stored_not_full e.command e.reply _ s.stored

  stores : Stores g e.thread (step g e.thread e.command).0 a i s.w
  stores = does g e.thread e.command _ (outcome_of g e.thread e.command) s.s i s.w a
      (ap (stored_by e.command) (sym (answered_by_step g e ok not_full)) ∙ s.stored) s.object

  pub store_there : i < length (object_of g a).fields
  store_there = stores.there

  -- which holds what was stored
  pub store_stands : field_at (after g (Did e)) a i ≡ v
  store_stands = ap (λ k. field_at k a i) (stepped g e not_full) ∙ stores.now ∙ s.value

-- an entry that does not store in a field leaves it
no_store : (g : Graph) (e : Entry) (a : Name) (i : ℕ) → IsAnswered g (Did e)
    → ((v : Value) → StoresIn g e a i v → ⊥) → field_at (after g (Did e)) a i ≡ field_at g a i
no_store g e a i ok none = elim (cases_Bool (is_full e.reply)) [
  | inl y ↦ ap (λ b. field_at (cond b g (step g e.thread e.command).0) a i) y
  | inr n ↦ ap (λ k. field_at k a i) (stepped g e n)
      ∙ step_leaves_field g e.thread e.command a i (λ s w told object.
      none (register_of g e.thread w) (record {
        s = s;
        w = w;
        stored = ap (stored_by e.command) (answered_by_step g e ok n) ∙ told;
        object = object;
        value = refl;
      }))
]

-- so do items of which none is
none_stored : (g : Graph) (h : List HistoryItem) (a : Name) (i : ℕ) → LegalFrom g h
    → NoneStores g h a i → field_at (replay_from g h) a i ≡ field_at g a i
none_stored g [] a i legal none = refl
none_stored g (Started ∷ h) a i legal none =
    none_stored g h a i legal.1 (λ b s e v is. none (Started ∷ b) s e v (ap (λ k. Started ∷ k) is))
none_stored g (Did x ∷ h) a i legal none =
    none_stored (after g (Did x)) h a i legal.1
    (λ b s e v is. none (Did x ∷ b) s e v (ap (λ k. Did x ∷ k) is))
    ∙ no_store g x a i legal.0 (λ v. none [] h x v refl)

-- what is in a field after a store there, and items of which none stores there
since_store : (g : Graph) (store : Entry) (since : List HistoryItem) (a : Name) (i : ℕ) (v : Value)
    → StoresIn g store a i v → LegalFrom g (Did store ∷ since)
    → NoneStores (after g (Did store)) since a i
    → field_at (replay_from g (Did store ∷ since)) a i ≡ v
since_store g store since a i v s legal none =
    none_stored (after g (Did store)) since a i legal.1 none ∙ store_stands g store a i v s legal.0

last_store_from : (c : Config) (h before since : List HistoryItem) (store : Entry) (a : Name)
    (i : ℕ) (v : Value) → h ≡ before ++ Did store ∷ since → StoresIn (replay c before) store a i v
    → NoneStores (replay c (before ++ Did store ∷ [])) since a i → LegalFrom (start_graph c) h
    → field_at (replay c h) a i ≡ v
last_store_from c h before since store a i v is s none legal =
    ap (λ k. field_at (replay c k) a i) is
    ∙ ap (λ k. field_at k a i) (replay_append (start_graph c) before (Did store ∷ since))
    ∙ since_store (replay c before) store since a i v s
    (legal_back (start_graph c) before (Did store ∷ since)
    (subst (LegalFrom (start_graph c)) is legal))
    (subst (λ (g : Graph). NoneStores g since a i)
    (replay_more (start_graph c) before (Did store)) none)

field_of_start : (c : Config) (a : Name) (i : ℕ) → field_at (start_graph c) a i ≡ Nil
field_of_start c a i = elim (cases_Bool (has_name (start_graph c) a)) [
  | inl y ↦ ap (λ (o : Object). field_of o i) (object_of_start c a y) ∙ nil_of c.shared i
  | inr n ↦ field_of_none (start_graph c) a i n
]

-- what was last stored is in the field
last_stands : (c : Config) (h : List HistoryItem) (a : Name) (i : ℕ) (v : Value)
    → LegalFrom (start_graph c) h → IsLastStored c h a i v → field_at (replay c h) a i ≡ v
last_stands c h a i v legal (inl p) =
    last_store_from c h p.before p.since p.store a i v p.history p.stores p.last legal
last_stands c h a i v legal (inr p) =
    none_stored (start_graph c) h a i legal p.1 ∙ field_of_start c a i ∙ sym p.0

-- whether an entry has stored in a field
abbrev Decided : Graph → Entry → Name → ℕ → Type 0
Decided g e a i =
    ((v : Value) × StoresIn g e a i v) ⊎ ((v : Value) → StoresIn g e a i v → ⊥)

is_ref : (v : Value) (a : Name) → (v ≡ Ref a) ⊎ (v ≡ Ref a → ⊥)
is_ref v a = elim (cases_Bool (refers a v)) [
  | inl y ↦ inl (refers-ref a v y)
  | inr n ↦ inr (λ e. let both : true ≡ false = sym (ref-refers a v e) ∙ n in cc)
]

decide : (g : Graph) (e : Entry) (a : Name) (i : ℕ) (p : Option Stored)
    → stored_by e.command e.reply ≡ p → Decided g e a i
decide g e a i None is =
    inr (λ v p. let both : None ≡ Some (p.s, (i, p.w)) = sym is ∙ p.stored in cc)
decide g e a i (Some (s, (j, w))) is = elim (cases_eq j i) [
  | inr n ↦ inr (λ v p. n (ap (λ (o : Option Stored). (parts_of o).1.0) (sym is ∙ p.stored)))
  | inl same ↦ elim (is_ref (register_of g e.thread s) a) [
    | inr n ↦ inr (λ v p. n (ap (λ (o : Option Stored). register_of g e.thread (parts_of o).0)
        (sym is ∙ p.stored) ∙ p.object))
    | inl object ↦ inl (
      register_of g e.thread w,
      record {
        s = s;
        w = w;
        stored = is ∙ ap (λ k. Some (s, (k, w))) same;
        object = object;
        value = refl;
      },
    )
  ]
]

-- the last store in a field, from a graph on
record LastFrom (g : Graph) (h : List HistoryItem) (a : Name) (i : ℕ) : Type 0 where
  before : List HistoryItem
  store : Entry
  since : List HistoryItem
  v : Value
  history : h ≡ before ++ Did store ∷ since
  stores : StoresIn (replay_from g before) store a i v
  last : NoneStores (after (replay_from g before) (Did store)) since a i

last_behind : (g : Graph) (x : HistoryItem) (h : List HistoryItem) (a : Name) (i : ℕ)
    → LastFrom (after g x) h a i → LastFrom g (x ∷ h) a i
last_behind g x h a i p = record {
  before = x ∷ p.before;
  store = p.store;
  since = p.since;
  v = p.v;
  history = ap (λ k. x ∷ k) p.history;
  stores = p.stores;
  last = p.last;
}

-- where the first item is no such store, and of the others none is
none_more : (g : Graph) (x : HistoryItem) (h : List HistoryItem) (a : Name) (i : ℕ)
    → ((e : Entry) (v : Value) → x ≡ Did e → StoresIn g e a i v → ⊥)
    → NoneStores (after g x) h a i → NoneStores g (x ∷ h) a i
none_more g x h a i here later [] s e v is st =
    let head : x ≡ Did e = cc in here e v head st
none_more g x h a i here later (y ∷ b) s e v is st =
    let head : x ≡ y = cc in
    let tail : h ≡ b ++ Did e ∷ s = cc in
    later b s e v tail
    (subst (λ z. StoresIn (replay_from (after g z) b) e a i v) (sym head) st)

none_of_none : (g : Graph) (a : Name) (i : ℕ) → NoneStores g [] a i
none_of_none g a i [] s e v is st = cc
none_of_none g a i (y ∷ b) s e v is st = cc

-- there is one, or none
look : (g : Graph) (h : List HistoryItem) (a : Name) (i : ℕ)
    → LastFrom g h a i ⊎ NoneStores g h a i
look g [] a i = inr (none_of_none g a i)
look g (Started ∷ h) a i = elim (look g h a i) [
  | inl p ↦ inl (last_behind g Started h a i p)
  | inr none ↦ inr (none_more g Started h a i (λ e v is. cc) none)
]
look g (Did x ∷ h) a i = elim (look (after g (Did x)) h a i) [
  | inl p ↦ inl (last_behind g (Did x) h a i p)
  | inr none ↦ elim (decide g x a i (stored_by x.command x.reply) refl) [
    | inl s ↦ inl (record {
      before = [];
      store = x;
      since = h;
      v = s.0;
      history = refl;
      stores = s.1;
      last = none;
    })
    | inr apart ↦ inr (none_more g (Did x) h a i (λ e v is st.
        let same : x ≡ e = cc in
        apart v (subst (λ y. StoresIn g y a i v) (sym same) st)) none)
  ]
]

last_store_of : (c : Config) (h : List HistoryItem) (a : Name) (i : ℕ)
    → (p : LastFrom (start_graph c) h a i) → IsLastStore c h a i p.v
last_store_of c h a i p = record {
  before = p.before;
  store = p.store;
  since = p.since;
  history = p.history;
  stores = p.stores;
  last = subst (λ (g : Graph). NoneStores g p.since a i)
      (sym (replay_more (start_graph c) p.before (Did p.store))) p.last;
}

field_from : (c : Config) (h : List HistoryItem) (a : Name) (i : ℕ) → LegalFrom (start_graph c) h
    → IsLastStored c h a i (field_at (replay c h) a i)
field_from c h a i legal = elim (look (start_graph c) h a i) [
  | inl p ↦
      let store : IsLastStored c h a i p.v = inl (last_store_of c h a i p) in
      subst (IsLastStored c h a i) (sym (last_stands c h a i p.v legal store)) store
  | inr none ↦ inr (none_stored (start_graph c) h a i legal none ∙ field_of_start c a i, none)
]

-- a field holds what was last stored there, and nothing else was
pub field_stored : (c : Config) (h : List HistoryItem) (a : Name) (i : ℕ) → Legal c h
    → IsLastStored c h a i (field_at (replay c h) a i)
field_stored c h a i legal = field_from c h a i (legal_from c h legal)

pub stored_once : (c : Config) (h : List HistoryItem) (a : Name) (i : ℕ) (v : Value) → Legal c h
    → IsLastStored c h a i v → field_at (replay c h) a i ≡ v
stored_once c h a i v legal = last_stands c h a i v (legal_from c h legal)

-- what a get answers
get_answer : (g : Graph) (e : Entry) (d s i : ℕ) → e.command ≡ commands.Get d s i
    → IsAnswered g (Did e) → e.reply ≡ (step g e.thread (commands.Get d s i)).1
get_answer g e d s i is (inl same) = same ∙ ap (λ k. (step g e.thread k).1) is
get_answer g e d s i is (inr full) = absurd
    (let both : true ≡ false = sym full.1 ∙ ap makes_object is in cc)

reply_there : (g : Graph) (t d s i : ℕ) (a : Name) → register_of g t s ≡ Ref a
    → i < length (object_of g a).fields
    → (step g t (commands.Get d s i)).1 ≡ replies.Val (field_at g a i)
reply_there g t d s i a object there =
    ap (λ (p : Graph × Reply). p.1)
    (at_field_there g (register_of g t s) a i (λ name.
    (with_register g t d (field_at g name i), replies.Val (field_at g name i))) object there)

answered_at : (c : Config) (before since : List HistoryItem) (e : Entry)
    → Legal c (before ++ Did e ∷ since) → IsAnswered (replay c before) (Did e)
answered_at c before since e legal =
    (legal_back (start_graph c) before (Did e ∷ since) (legal_from c _ legal)).0

pub get_reads : (c : Config) (before since : List HistoryItem) (get : Entry) (d s i : ℕ) (a : Name)
    (v : Value) → Legal c (before ++ Did get ∷ since) → get.command ≡ commands.Get d s i
    → register_of (replay c before) get.thread s ≡ Ref a
    → i < length (object_of (replay c before) a).fields
    → IsLastStored c before a i v → get.reply ≡ replies.Val v
get_reads c before since get d s i a v legal is object there last =
    get_answer (replay c before) get d s i is (answered_at c before since get legal)
    ∙ reply_there (replay c before) get.thread d s i a object there
    ∙ ap replies.Val (last_stands c before a i v
    (legal_front (start_graph c) before (Did get ∷ since) (legal_from c _ legal)) last)

-- what a value that a get answers is of
value_of_field : (g : Graph) (u : Value) (i : ℕ) (act : Name → Graph) (v : Value)
    → replies.Val v ≡ (at_field g u i (λ name. (act name, replies.Val (field_at g name i)))).1
    → (a : Name) × ((u ≡ Ref a) × (v ≡ field_at g a i))
value_of_field g Nil i act v e = absurd cc
value_of_field g (Int n) i act v e = absurd cc
value_of_field g (Ref a) i act v e = elim (cases_Bool (ltb i (length (object_of g a).fields))) [
  | inl y ↦
      let both : replies.Val v ≡ replies.Val (field_at g a i) =
      e ∙ ap (λ b. (cond {A = Graph × Reply} b
      (act a, replies.Val (field_at g a i)) (g, replies.Range)).1) y in
      let same : v ≡ field_at g a i = cc in (a, (refl, same))
  | inr n ↦ absurd (let both : replies.Val v ≡ replies.Range =
      e ∙ ap (λ b. (cond {A = Graph × Reply} b
      (act a, replies.Val (field_at g a i)) (g, replies.Range)).1) n in cc)
]

pub get_told : (c : Config) (before since : List HistoryItem) (get : Entry) (d s i : ℕ)
    (v : Value) → Legal c (before ++ Did get ∷ since) → get.command ≡ commands.Get d s i
    → get.reply ≡ replies.Val v
    → (a : Name) × ((register_of (replay c before) get.thread s ≡ Ref a)
    × IsLastStored c before a i v)
get_told c before since get d s i v legal is told =
    let g : Graph = replay c before in
    let found = value_of_field g (register_of g get.thread s) i
    (λ name. with_register g get.thread d (field_at g name i)) v
    (sym told ∙ get_answer g get d s i is (answered_at c before since get legal)) in (
      found.0,
      (
        found.1.0,
        subst (IsLastStored c before found.0 i) (sym found.1.1)
            (field_from c before found.0 i
            (legal_front (start_graph c) before (Did get ∷ since) (legal_from c _ legal))),
      ),
    )

-- an object keeps its length, so that what was stored can be got
store_got : (c : Config) (before between since : List HistoryItem) (store get : Entry) (d s i : ℕ)
    (a : Name) (v : Value) → LegalFrom (replay c before) (Did store ∷ (between ++ Did get ∷ since))
    → StoresIn (replay c before) store a i v
    → NoneStores (after (replay c before) (Did store)) between a i
    → get.command ≡ commands.Get d s i
    → register_of (replay_from (replay c before) (Did store ∷ between)) get.thread s ≡ Ref a
    → get.reply ≡ replies.Val v
store_got c before between since store get d s i a v legal stores none is object =
    let g : Graph = replay c before in
    let k : Graph = replay_from g (Did store ∷ between) in
    let there : i < length (object_of g a).fields = store_there g store a i v stores legal.0 in
    let size : length (object_of k a).fields ≡ length (object_of g a).fields =
    (replay_shape g (Did store ∷ between) a (has_field g a i there)).size in
    let now : i < length (object_of k a).fields = omega arith in
    get_answer k get d s i is (legal_back g (Did store ∷ between) (Did get ∷ since) legal).0
    ∙ reply_there k get.thread d s i a object now
    ∙ ap replies.Val (since_store g store between a i v stores
    (legal_front g (Did store ∷ between) (Did get ∷ since) legal) none)

pub store_read_back : (c : Config) (before between since : List HistoryItem) (store get : Entry)
    (d s i : ℕ) (a : Name) (v : Value)
    → Legal c (before ++ Did store ∷ (between ++ Did get ∷ since))
    → StoresIn (replay c before) store a i v
    → NoneStores (replay c (before ++ Did store ∷ [])) between a i
    → get.command ≡ commands.Get d s i
    → register_of (replay c (before ++ Did store ∷ between)) get.thread s ≡ Ref a
    → get.reply ≡ replies.Val v
store_read_back c before between since store get d s i a v legal stores none is object =
    store_got c before between since store get d s i a v
    (legal_back (start_graph c) before (Did store ∷ (between ++ Did get ∷ since))
    (legal_from c _ legal)) stores
    (subst (λ (g : Graph). NoneStores g between a i)
    (replay_more (start_graph c) before (Did store)) none) is
    (subst (λ (g : Graph). register_of g get.thread s ≡ Ref a)
    (replay_append (start_graph c) before (Did store ∷ between)) object)
