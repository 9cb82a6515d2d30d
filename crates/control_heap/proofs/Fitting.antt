-- A reply is one that its command can have, and what a call tells of it.
use Rattle.std.proofs.Common.{◌≡◌, ℕ, ◌+◌, inl, inr, Bool, true, false, cond, nat_lt, Result, Ok, Err, IfOk, IfErr, OnOk, OnErr, List, [], ◌∷◌, ◌++◌, length, sym, refl, ap, ◌∙◌, subst}
use Rattle.block_store.specs.declared.Config.{Config}
use Rattle.block_store.specs.declared.Name.{Name}
use Rattle.block_store.specs.declared.Value.{Value}
use Rattle.block_store.specs.declared.Value.TheVariants.{Nil, Int, Ref}
use Rattle.never_heap.specs.declared.Command.{Command}
use Rattle.never_heap.specs.declared.Command.TheVariants as commands
use Rattle.never_heap.specs.declared.Entry.{Entry}
use Rattle.never_heap.specs.declared.Reply.{Reply}
use Rattle.never_heap.specs.declared.Reply.TheVariants as replies
use Rattle.never_heap.specs.Bounds.{IsCommandInBounds}
use Rattle.never_heap.specs.Graphs.{Graph, register_of, object_of, field_of, start_graph}
use Rattle.never_heap.specs.Histories.{HistoryItem, Started, Did, after, is_full, IsAnswered, Legal, LegalFrom}
use Rattle.never_heap.specs.Steps.{step, at_field, at_object, same_value, makes_object}
use Rattle.heap_machine.specs.Memories.{Acts}
use Rattle.heap_system.specs.Lives.{objects_of}
use Rattle.heap_system.specs.Machines.{Run}
use Rattle.control_heap.specs.declared.control.Refused.{Refused}
use Rattle.control_heap.specs.declared.control.Refused.TheVariants as refusals
use Rattle.control_heap.specs.declared.faults.Fault.{Fault}
use Rattle.control_heap.specs.Controls.{ControlOf, Stands, Answers, HasAnswered, HasLeft, HasMade, asked, entries_in}
use Rattle.control_heap.specs.Calls.{MayAnswer, Says, HasAsked, IsOutcome, WasRefused, outcome_of}
use Rattle.control_heap.specs.Refusals.{IsRefused}
use Rattle.control_heap.proofs.HeapAsRun.{kept_of}

-- ---- of a step

at_field_may : (P : Reply → Type 0) (g : Graph) (v : Value) (i : ℕ) (act : Name → Graph × Reply)
    → P replies.Null → P replies.Kind → P replies.Range → ((n : Name) → P (act n).1)
    → P (at_field g v i act).1
at_field_may P g Nil i act null kind range done = null
at_field_may P g (Int x) i act null kind range done = kind
at_field_may P g (Ref n) i act null kind range done = by (nat_lt i (length (object_of g n).fields))
  where
    by : (b : Bool) → P (cond b (act n) (g, replies.Range)).1
    by true = done n
    by false = range

at_object_may : (P : Reply → Type 0) (g : Graph) (v : Value) (act : Name → Graph × Reply)
    → P replies.Null → P replies.Kind → ((n : Name) → P (act n).1)
    → P (at_object g v act).1
at_object_may P g Nil act null kind done = null
at_object_may P g (Int x) act null kind done = kind
at_object_may P g (Ref n) act null kind done = done n

either_test : (k : Command) (b : Bool) → MayAnswer k replies.Yes → MayAnswer k replies.No
    → MayAnswer k (cond b replies.Yes replies.No)
either_test k true y n = y
either_test k false y n = n

either_stored : (k : Command) (b : Bool) (x y : Graph × Reply) → MayAnswer k x.1 → MayAnswer k y.1
    → MayAnswer k (cond {A = Graph × Reply} b x y).1
either_stored k true x z y n = y
either_stored k false x z y n = n

may_step : (g : Graph) (t : ℕ) (k : Command) → MayAnswer k (step g t k).1
may_step g t (commands.New d f) = tt
may_step g t (commands.Arr d e) = tt
may_step g t (commands.Set d v) = tt
may_step g t (commands.Nil d) = tt
may_step g t (commands.Mov d s) = tt
may_step g t (commands.Get d s i) = at_field_may (MayAnswer (commands.Get d s i)) g (register_of g t s) i _ refl refl refl (λ n. tt)
may_step g t (commands.Put s i v) = at_field_may (MayAnswer (commands.Put s i v)) g (register_of g t s) i _ refl refl refl (λ n. tt)
may_step g t (commands.Len s) = at_object_may (MayAnswer (commands.Len s)) g (register_of g t s) _ refl refl (λ n. tt)
may_step g t (commands.Same a b) = either_test (commands.Same a b) (same_value (register_of g t a) (register_of g t b)) tt tt
may_step g t (commands.Say s) = tt
may_step g t (commands.Swap s i v) = at_field_may (MayAnswer (commands.Swap s i v)) g (register_of g t s) i _ refl refl refl (λ n. tt)
may_step g t (commands.Cas s i a v) = at_field_may (MayAnswer (commands.Cas s i a v)) g (register_of g t s) i _ refl refl refl
    (λ n. either_stored (commands.Cas s i a v) (same_value (field_of (object_of g n) i) (register_of g t a)) _ _ tt tt)
may_step g t (commands.Idle u) = tt

may_full : (k : Command) (a : Reply) → is_full a ≡ true → makes_object k ≡ true → MayAnswer k a
may_full k (replies.Full c) f m = m
may_full k _ f m = absurd cc

pub may_answered : (g : Graph) (e : Entry) → IsAnswered g (Did e) → MayAnswer e.command e.reply
may_answered g e (inl is) = subst (MayAnswer e.command) (sym is) (may_step g e.thread e.command)
may_answered g e (inr full) = may_full e.command e.reply full.0 full.1

-- ---- of the one entry that a request adds

abbrev front_of : Entry → List Entry → Entry
front_of x [] = x
front_of x (e ∷ es) = e

may_item : (g : Graph) (is : List HistoryItem) (e : Entry) → entries_in is ≡ e ∷ [] → LegalFrom g is
    → MayAnswer e.command e.reply
may_item g [] e es l = absurd cc
may_item g (Started ∷ is) e es l = may_item g is e es l.1
may_item g (Did x ∷ is) e es l =
    subst (λ (y : Entry). MayAnswer y.command y.reply) (ap (front_of x) es) (may_answered g x l.0)

may_behind : (g : Graph) (h is : List HistoryItem) (e : Entry) → entries_in is ≡ e ∷ []
    → LegalFrom g (h ++ is) → MayAnswer e.command e.reply
may_behind g [] is e es l = may_item g is e es l
may_behind g (i ∷ h) is e es l = may_behind (after g i) h is e es l.1

may_history : (c : Config) (h is : List HistoryItem) (e : Entry) → entries_in is ≡ e ∷ []
    → Legal c h → Legal c (h ++ is) → MayAnswer e.command e.reply
may_history c [] is e es was l = absurd was
may_history c (Started ∷ h) is e es was l = may_behind (start_graph c) h is e es l
may_history c (Did x ∷ h) is e es was l = absurd was

legal_of : {M : Type 0} (h : ControlOf M) (r : Run) → Stands h r → Legal h.config r.order
legal_of h r stands = (kept_of h.config stands.single r stands.run.after).names.ordered.legal

module _ {M : Type 0} (old new : ControlOf M) (k : Command) (a : Reply) (same : new.config ≡ old.config)
    (r : Run) (stands : Stands old r) (answered : HasAnswered old k a new) where
  pub may_of : MayAnswer k a
  may_of =
      let by = answered r stands in
      let z : Run = by.0 in
      let s : Answers old.config k a r z = by.2 in
      let now : Legal old.config z.order = subst (λ c. Legal c z.order) same (legal_of new z by.1) in
      subst (λ x. MayAnswer k x) s.reply
      (subst (λ x. MayAnswer x s.entry.reply) s.command
      (may_history old.config r.order s.items s.entry s.entries (legal_of old r stands)
      (subst (Legal old.config) s.order now)))

-- ---- what a call tells

module _ (done : Reply → Type 0) (refused : Refused → Type 0) (k : Command) where
  reply_told : (a : Reply) → MayAnswer k a → done a
      → IsOutcome (λ x. x) done refused k (outcome_of (Ok a)) × IfOk (outcome_of (Ok a)) (Says k)
  reply_told (replies.Full c) may is = ((may, is), tt)
  reply_told replies.Null may is = ((may, is), tt)
  reply_told replies.Kind may is = ((may, is), tt)
  reply_told replies.Range may is = ((may, is), tt)
  reply_told (replies.New n) may is = (is, may)
  reply_told replies.Stored may is = (is, may)
  reply_told (replies.Val v) may is = (is, may)
  reply_told (replies.Len n) may is = (is, may)
  reply_told replies.Yes may is = (is, may)
  reply_told replies.No may is = (is, may)
  reply_told replies.Idle may is = (is, may)

  refusal_told : (r : Refused) → refused r
      → IsOutcome (λ x. x) done refused k (outcome_of (Err r)) × IfOk (outcome_of (Err r)) (Says k)
  refusal_told refusals.OutOfBounds is = (is, tt)
  refusal_told refusals.NoLifeLeft is = (is, tt)

  pub outcome_told : (x : Result Reply Refused) → IfOk x (MayAnswer k) → IfOk x done → IfErr x refused
      → IsOutcome (λ a. a) done refused k (outcome_of x) × IfOk (outcome_of x) (Says k)
  outcome_told (Ok a) may is none = reply_told a may is
  outcome_told (Err r) may is none = refusal_told r none

  pub told_call : (x : Result Reply Refused) (y : Result Reply Fault) → y ≡ outcome_of x
      → IfOk x (MayAnswer k) → IfOk x done → IfErr x refused → IsOutcome (λ a. a) done refused k y
  told_call x y is may done_ refused_ = subst (IsOutcome (λ a. a) done refused k) (sym is) (outcome_told x may done_ refused_).0

module _ {M : Type 0} (acts : Acts M (Unit {0})) (old new : ControlOf M) (k : Command) where
  pub all_asked : (x : Result Reply Refused)
      → OnOk x (IsCommandInBounds old.config k × HasLeft old k)
      → OnOk x (asked new ≡ asked old + 1)
      → OnOk x (new.objects ≡ old.objects + objects_of k)
      → IfOk x (λ a. HasAnswered old k a new)
      → OnOk x (HasMade acts old k new)
      → IfOk x (λ a. HasAsked acts old k a new)
  all_asked (Ok a) can more objects answered made = record {
    bounds = can.0;
    left = can.1;
    one_more = more;
    objects = objects;
    answered = answered;
    made = made;
  }
  all_asked (Err r) can more objects answered made = tt

  pub all_refused : (x : Result Reply Refused) → IfErr x (IsRefused old k) → OnErr x (new ≡ old)
      → IfErr x (WasRefused old k new)
  all_refused (Ok a) is same = tt
  all_refused (Err r) is same = (is, same)

pub may_now : {M : Type 0} (h now : ControlOf M) → h ≡ now → (r : Run) → Stands h r → (new : ControlOf M)
    (k : Command) (a : Reply) → new.config ≡ h.config → HasAnswered now k a new → MayAnswer k a
may_now h now same r stands new k a config answered =
    may_of now new k a (config ∙ ap (λ (x : ControlOf _). x.config) same) r (subst (λ x. Stands x r) same stands) answered
