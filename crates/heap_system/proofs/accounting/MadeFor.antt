-- The work of an entry is the number of units that its own thread made for it.
use Rattle.std.proofs.Common.{◌≡◌, ℕ, zero, suc, ◌+◌, ◌<◌, Bool, true, false, ◌&&◌, cond, eqb, eq-eqb, ne_eqb, lt-ltb, le-ltb, Option, Some, None, List, [], ◌∷◌, ◌++◌, length, get_or, append-nil, refl, sym, ap, ◌∙◌, subst, arith, inl, inr}
use Rattle.std.proofs.lemmas.Bool.{cases_Bool, cases_eq, cases_lt, cond-false, cond-true}
use Rattle.block_store.specs.declared.Config.{Config}
use Rattle.block_store.specs.Phases.{bit}
use Rattle.never_heap.specs.declared.Command.{Command}
use Rattle.never_heap.specs.declared.Entry.{Entry}
use Rattle.never_heap.specs.declared.Reply.{Reply}
use Rattle.never_heap.specs.Histories.{part}
use Rattle.heap_system.specs.Locals.{LocalState, command_of, is_done, effect, makes_unit, spent_got, entries_of}
use Rattle.heap_system.specs.Machines.{Run, IsJob, IsRunOf, local_at, word_read, has_event, next, after_turns, opened}
use Rattle.heap_system.specs.Units.{is_unit, is_unit_for, units_made_for, AreMadeFor}
use Rattle.heap_system.proofs.invariant.Invariant.{Kept}
use Rattle.heap_system.proofs.step_rows.LawsOfParts.{laws_of}
use Rattle.heap_system.proofs.accounting.UnitsOfTurns.{idle_next}
use Rattle.heap_system.proofs.invariant.InvariantByTurns.{local_new, paid_new, word_is, word_here, new_run, next_is}
use Rattle.heap_system.proofs.invariant.InvariantHolds.{here, opening_kept, turn_kept}
use Rattle.heap_system.proofs.step_rows.Effects.{reply_no_unit}

-- the work of entry k, what is paid after the last entry, and nothing from there on
abbrev work_for : List Entry → ℕ → ℕ → ℕ
work_for [] paid zero = paid
work_for [] paid (suc k) = 0
work_for (e ∷ es) paid zero = e.work
work_for (e ∷ es) paid (suc k) = work_for es paid k

none_for : (k : ℕ) → work_for [] 0 k ≡ 0
none_for zero = refl
none_for (suc k) = refl

eqb_suc : (a b : ℕ) → eqb (suc a) (suc b) ≡ eqb a b
eqb_suc a b = elim (cases_eq a b) [
  | inl e ↦ eq-eqb (suc a) (suc b) (ap suc e) ∙ sym (eq-eqb a b e)
  | inr n ↦ ne_eqb (suc a) (suc b) (λ e. n (omega (arith, e))) ∙ sym (ne_eqb a b n)
]

-- a unit more is paid
work_more : (es : List Entry) (paid k : ℕ)
    → work_for es (paid + 1) k ≡ work_for es paid k + bit (eqb (length es) k)
work_more [] paid zero = omega arith
work_more [] paid (suc k) =
    let no : bit (eqb 0 (suc k)) ≡ 0 = ap bit (ne_eqb 0 (suc k) (λ e. omega (arith, e))) in
    omega (arith, no)
work_more (e ∷ es) paid zero =
    let no : bit (eqb (length (e ∷ es)) 0) ≡ 0 =
    ap bit (ne_eqb (suc (length es)) 0 (λ q. omega (arith, q))) in
    let same : e.work ≡ e.work + 0 = omega arith in
    same ∙ ap (λ n. e.work + n) (sym no)
work_more (e ∷ es) paid (suc k) =
    work_more es paid k ∙ ap (λ b. work_for es paid k + bit b) (sym (eqb_suc (length es) k))

work_on : (es : List Entry) (paid k : ℕ) (u : Bool)
    → work_for es (cond u (paid + 1) paid) k ≡ work_for es paid k + bit (u && eqb (length es) k)
work_on es paid k true = work_more es paid k
work_on es paid k false = omega arith

-- what was paid is the work of the entry, and nothing is paid for the next command
work_over : (es : List Entry) (e : Entry) (k : ℕ)
    → work_for (es ++ e ∷ []) 0 k ≡ work_for es e.work k
work_over [] e zero = refl
work_over [] e (suc k) = none_for k
work_over (x ∷ es) e zero = refl
work_over (x ∷ es) e (suc k) = work_over es e k

work_got : (es : List Entry) (t : ℕ) (m : Command) (paid : ℕ) (o : Option Reply) (u : Bool)
    → ((r : Reply) → o ≡ Some r → u ≡ false) → (k : ℕ)
    → work_for (es ++ entries_of t m paid o) (spent_got o u paid) k
    ≡ work_for es paid k + bit (u && eqb (length es) k)
work_got es t m paid None u none k =
    ap (λ xs. work_for xs (cond u (paid + 1) paid) k) (append-nil es) ∙ work_on es paid k u
work_got es t m paid (Some r) u none k =
    let no : bit (u && eqb (length es) k) ≡ 0 = ap (λ b. bit (b && eqb (length es) k)) (none r refl) in
    omega (arith, no, work_over es (record { thread = t; command = m; reply = r; work = paid }) k)

-- an entry that waits for the log has what is paid
entry_work : (es : List Entry) (t : ℕ) (m : Command) (paid : ℕ) (o : Option Reply) (k : ℕ) (d : Entry)
    → k < length (es ++ entries_of t m paid o)
    → (get_or (es ++ entries_of t m paid o) k d).work ≡ work_for es paid k
entry_work [] t m paid None k d l = absurd (omega (arith, l))
entry_work [] t m paid (Some r) zero d l = refl
entry_work [] t m paid (Some r) (suc k) d l = absurd (omega (arith, l))
entry_work (e ∷ es) t m paid o zero d l = refl
entry_work (e ∷ es) t m paid o (suc k) d l = entry_work es t m paid o k d (omega (arith, l))

hand_work : (es : List Entry) (paid : ℕ) → work_for es paid (length es) ≡ paid
hand_work [] paid = refl
hand_work (e ∷ es) paid = hand_work es paid

-- what thread t made for its k-th command
abbrev made_for : Config → ℕ → ℕ → Run → ℕ
made_for c t k r = work_for (local_at c r.state t).log (local_at c r.state t).spent k

-- what a turn of thread u adds
abbrev adds : Config → ℕ → ℕ → ℕ → Run → ℕ
adds c t k u r = cond (eqb u t) (bit (is_unit_for c k t r.state)) 0

module _ (c : Config) (traces : List (List Command)) (job : IsJob c traces) (r : Run) (kept : Kept c traces r) (u : ℕ) (ul : u < c.threads) (going : is_done (local_at c r.state u) ≡ false) (k : ℕ) where
  abbrev after : Run
  after = new_run c traces (laws_of c) job.bounds.config job.plan r kept u ul

  abbrev word : ℕ
  word = word_here c traces (laws_of c) job.bounds.config job.plan r kept u ul

  abbrev me : LocalState
  me = local_at c r.state u

  own_made : made_for c u k after ≡ made_for c u k r + bit (makes_unit c me.part word && eqb (length me.log) k)
  own_made =
      let e = effect c me.part word in
      let new = local_new c traces (laws_of c) job.bounds.config job.plan r kept u ul going u ∙ cond-true _ _ _ (eq-eqb u u refl) in
      ap (λ (l : LocalState). work_for l.log l.spent k) new
      ∙ ap (λ n. work_for (me.log ++ entries_of u (command_of me) me.spent e.reply) n k) (paid_new c traces (laws_of c) job.bounds.config job.plan r kept u ul)
      ∙ work_got me.log u (command_of me) me.spent e.reply e.unit (reply_no_unit c me.part word) k

  other_made : (t : ℕ) → (u ≡ t → ⊥) → made_for c t k after ≡ made_for c t k r
  other_made t n = ap (λ (l : LocalState). work_for l.log l.spent k)
      (local_new c traces (laws_of c) job.bounds.config job.plan r kept u ul going t ∙ cond-false _ _ _ (ne_eqb u t n))

  event_made : (t : ℕ) → made_for c t k (next c u r) ≡ made_for c t k r + adds c t k u r
  event_made t =
      let some : has_event c u r.state ≡ true = rw (lt-ltb u c.threads ul, going) refl in
      let unit : is_unit c u r.state ≡ makes_unit c me.part word =
      ap (λ b. cond b (makes_unit c me.part (word_read c r.state me)) false) some
      ∙ ap (makes_unit c me.part) (word_is c traces (laws_of c) job.bounds.config job.plan r kept u ul) in
      ap (made_for c t k) (next_is c traces (laws_of c) job.bounds.config job.plan r kept u ul going) ∙ elim (cases_eq u t) [
        | inl e ↦ rw (eq-eqb u t e) (subst (λ v. made_for c v k after ≡ made_for c v k r + bit (is_unit_for c k v r.state)) e
            (own_made ∙ ap (λ b. made_for c u k r + bit (b && eqb (length me.log) k)) (sym unit)))
        | inr n ↦ rw (ne_eqb u t n) (omega (arith, other_made t n))
      ]

-- a turn without an event
idle_made : (c : Config) (t k u : ℕ) (r : Run) → has_event c u r.state ≡ false
    → made_for c t k (next c u r) ≡ made_for c t k r + adds c t k u r
idle_made c t k u r none = ap (made_for c t k) (idle_next c u r none) ∙ elim (cases_eq u t) [
  | inl e ↦
      let no_event : has_event c t r.state ≡ false = sym (ap (λ v. has_event c v r.state) e) ∙ none in
      let no_unit : bit (is_unit_for c k t r.state) ≡ 0 = rw no_event refl in
      rw (eq-eqb u t e) (omega (arith, no_unit))
  | inr n ↦ rw (ne_eqb u t n) (omega arith)
]

module _ (c : Config) (traces : List (List Command)) (job : IsJob c traces) (k : ℕ) where
  turn_made : (r : Run) → Kept c traces r → (t u : ℕ) → made_for c t k (next c u r) ≡ made_for c t k r + adds c t k u r
  turn_made r kept t u = elim (cases_lt u c.threads) [
    | inl ul ↦ elim (cases_Bool (is_done (local_at c r.state u))) [
      | inl done ↦ idle_made c t k u r (rw (lt-ltb u c.threads ul, done) refl)
      | inr going ↦ event_made c traces job r kept u ul going k t
    ]
    | inr out ↦ idle_made c t k u r (rw (le-ltb u c.threads out) refl)
  ]

  turns_made : (ts : List ℕ) (r : Run) → Kept c traces r → (t : ℕ) → made_for c t k (after_turns c r ts) ≡ made_for c t k r + units_made_for c t k r ts
  turns_made [] r kept t = omega arith
  turns_made (u ∷ ts) r kept t = omega (arith, turns_made ts (next c u r) (turn_kept c traces (laws_of c) job r kept u) t, turn_made r kept t u)

  run_made : (ts : List ℕ) (r : Run) (is : IsRunOf c traces ts r) (t : ℕ) → t < c.threads → made_for c t k r ≡ units_made_for c t k (opened c is.first) ts
  run_made ts r is t tl =
      let start : made_for c t k (opened c is.first) ≡ 0 = ap (λ (l : LocalState). work_for l.log l.spent k) (here c traces job is.first is.opening t tl) ∙ none_for k in
      ap (made_for c t k) is.turns ∙ turns_made ts (opened c is.first) (opening_kept c traces job is.first is.opening) t ∙ omega (arith, start)

-- every run: each entry of the order, and the command in hand
module _ (c : Config) (traces : List (List Command)) (job : IsJob c traces) (ts : List ℕ) (r : Run) (is : IsRunOf c traces ts r) (t : ℕ) (tl : t < c.threads) where
  pub hand_made : (local_at c r.state t).spent ≡ units_made_for c t (length (local_at c r.state t).log) (opened c is.first) ts
  hand_made =
      sym (hand_work (local_at c r.state t).log (local_at c r.state t).spent)
      ∙ run_made c traces job (length (local_at c r.state t).log) ts r is t tl

  pub each_made : Kept c traces r → AreMadeFor c t (part t r.order) (opened c is.first) ts
  each_made kept = subst (λ es. AreMadeFor c t es (opened c is.first) ts) (sym (kept.locals t tl).told)
      (λ k d l. entry_work (local_at c r.state t).log _ _ (local_at c r.state t).spent _ k d l ∙ run_made c traces job k ts r is t tl)
