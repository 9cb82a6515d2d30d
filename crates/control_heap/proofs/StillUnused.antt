-- A heap that has done no command, in its first cycle, is as it was opened.
use Rattle.std.proofs.Common.{◌≡◌, ℕ, zero, suc, Bool, IsTrue, true, eqb, cond, List, [], ◌∷◌, ◌++◌, length, refl, sym, ap, ◌∙◌, subst, arith}
use Rattle.std.proofs.lemmas.Bool.{and_parts, eq-eqb, eqb-true}
use Rattle.std.proofs.lemmas.List.{append-nil, nil_from_length}
use Rattle.never_heap.specs.declared.Entry.{Entry}
use Rattle.never_heap.specs.Histories.{HistoryItem, Did, Started, part, replay, starts_in}
use Rattle.heap_system.specs.Lives.{objects_of, sum_after}
use Rattle.heap_system.specs.Locals.{LocalState, command_of, entries_of, is_rest, works}
use Rattle.heap_system.specs.Machines.{Run, local_in}
use Rattle.heap_system.specs.Pictures.{waiting}
use Rattle.heap_system.proofs.Lemmas.{Kept, rest_is}
use Rattle.control_heap.specs.Controls.{ControlOf, Stands, asked}
use Rattle.control_heap.specs.Unused.{IsUnused}
use Rattle.control_heap.proofs.HeapAsRun.{kept_of, low}

not_here : (e : Entry) (o : List HistoryItem) → part e.thread (Did e ∷ o) ≡ [] → ⊥
not_here e o none = some (sym (ap (λ b. cond b (e ∷ part e.thread o) (part e.thread o)) (eq-eqb e.thread e.thread refl)) ∙ none)
  where
    some : e ∷ part e.thread o ≡ [] → ⊥
    some is = absurd cc

no_items : (o : List HistoryItem) → ((u : ℕ) → part u o ≡ []) → starts_in o ≡ 0 → o ≡ []
no_items [] none first = refl
no_items (Started ∷ o) none first = absurd (omega (arith, first))
no_items (Did e ∷ o) none first = absurd (not_here e o (none e.thread))

one_start : (o : List HistoryItem) → ((u : ℕ) → part u o ≡ []) → starts_in o ≡ 1 → o ≡ Started ∷ []
one_start [] none first = absurd (omega (arith, first))
one_start (Started ∷ o) none first = ap (λ l. Started ∷ l) (no_items o none (omega (arith, first)))
one_start (Did e ∷ o) none first = absurd (not_here e o (none e.thread))

module _ {M : Type 0} (h : ControlOf M) (r : Run) (st : Stands h r) (none : asked h ≡ 0) where
  abbrev l : LocalState
  l = local_in h.config r 0

  kept : Kept h.config st.run.after.traces r
  kept = kept_of h.config st.single r st.run.after

  log_is : l.log ≡ []
  log_is = nil_from_length l.log (st.count ∙ none)

  rests : (is_rest l.part ≡ true) × (eqb (length l.log) (length l.trace) ≡ true)
  rests = and_parts (is_rest l.part) (eqb (length l.log) (length l.trace)) st.done

  trace_is : l.trace ≡ []
  trace_is = nil_from_length l.trace (sym (eqb-true (length l.log) (length l.trace) rests.1) ∙ ap length log_is)

  own : part 0 r.order ≡ []
  own =
      (kept.locals 0 (low h.config st.single)).told
      ∙ ap (λ p. l.log ++ entries_of l.thread (command_of l) l.spent (waiting (replay h.config r.order) p)) (rest_is l.part rests.0)
      ∙ append-nil l.log ∙ log_is

  parts_are : (u : ℕ) → part u r.order ≡ []
  parts_are zero = own
  parts_are (suc u) = kept.foreign (suc u) (let s = st.single in omega (arith, s))

  pub unused : starts_in r.order ≡ 1 → IsUnused h
  unused first = record {
    no_commands = none;
    no_units = sym st.units ∙ ap works log_is;
    no_objects = sym st.objects ∙ ap (sum_after objects_of 0) trace_is;
    run = r;
    stands = st;
    order = one_start r.order parts_are first;
  }

pub unused_now : {M : Type 0} (h now : ControlOf M) → h ≡ now → (r : Run) → Stands h r → (cycle : ℕ) → ((z : Run) → Stands now z → cycle ≡ starts_in z.order)
    → (b : Bool) → (IsTrue b → (asked h ≡ 0) × (cycle ≡ 1)) × ((asked h ≡ 0) × (cycle ≡ 1) → IsTrue b)
    → (IsTrue b → IsUnused now) × (IsUnused now → IsTrue b)
unused_now {M} h now same r st cycle told b is = (
  λ t. let both = is.0 t in
      subst IsUnused same (unused h r st both.0 (sym (told r (subst (λ (x : ControlOf M). Stands x r) same st)) ∙ both.1)),
  λ u. is.1 (ap (λ (x : ControlOf M). asked x) same ∙ u.no_commands, told u.run u.stands ∙ ap starts_in u.order),
)
