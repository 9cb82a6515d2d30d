-- Runs of one job by one list of turns: they are one run but for the rooms of the threads, since no
-- event looks at a room.
use Rattle.std.proofs.Common.{◌≡◌, ℕ, zero, suc, ◌+◌, ◌*◌, ◌-◌, ◌/◌, ◌%◌, ◌<◌, ◌≤◌, Bool, true, false, cond, eqb, ltb, lt-ltb, le-ltb, le-leb, ne_eqb, subst, Option, Some, None, not, ◌&&◌, List, [], ◌∷◌, ◌++◌, length, get_or, set, map, refl, sym, ap, ◌∙◌, arith, inl, inr}
use Rattle.std.proofs.Math.ListN.{get_or-map}
use Rattle.std.proofs.lemmas.Bool.{cases_lt}
use Rattle.std.proofs.lemmas.List.{map-set, ext_get_or}
use Rattle.block_store.specs.declared.Config.{Config}
use Rattle.block_store.specs.declared.PhaseWord.{PhaseWord}
use Rattle.block_store.specs.declared.Width.{Width}
use Rattle.block_store.specs.declared.Width.TheVariants.{Four, Eight}
use Rattle.block_store.specs.Heaps.{heap_of}
use Rattle.block_store.specs.Widths.{payloads}
use Rattle.block_store.specs.Places.{Extent, Place, PayloadOf, extent, index, in_range, in_block, is_block, block_index, block_size, place_at, words_count}
use Rattle.never_heap.specs.declared.Command.{Command}
use Rattle.never_heap.specs.declared.Reply.{Reply}
use Rattle.never_heap.specs.Steps.{blocks_of}
use Rattle.heap_machine.specs.Gates.{gate_got, gate_step, gate_entered}
use Rattle.heap_machine.specs.Operations.{op_at, op_place, words_after}
use Rattle.heap_machine.specs.declared.gate.GateRow.{GateRow}
use Rattle.heap_machine.specs.declared.gate.GateRow.TheVariants as gates
use Rattle.heap_machine.specs.declared.pass.Pass.{Pass}
use Rattle.barrier_steps.specs.Rows.{field_reply, field_got}
use Rattle.grey_steps.specs.Rows.{grey_got, grey_over, grey_nothing}
use Rattle.sweep_steps.specs.Rows.{sweep_got, sweep_over, sweep_nothing}
use Rattle.build_steps.specs.Rows.{BuildState, build_got, build_reply}
use Rattle.rate_plan.proofs.Rates.{one_rate}
use Rattle.heap_system.specs.Parts.{Part, Rest, Enter, Access, Mark, Sweep, Build, Retry, LeaveToChangePhase, PhaseChange, Leave}
use Rattle.build_steps.specs.declared.rows.BuildRow.{BuildRow}
use Rattle.never_heap.specs.RightWork.{requested_units}
use Rattle.heap_system.specs.Locals.{LocalState, Effect, Errand, View, command_of, errand_of, entries_of, spent_got, balance_got, made_got, pass_got, effect, view, first_part, if_entered, if_over, if_replied, is_last, part_got, local_got, is_done, is_rest, pass_by, at_start}
use Rattle.heap_system.specs.Machines.{State, Run, local_at, no_local, heap_in, word_read, next_effect, event_done, has_event, turned, items_by, decided, names_after, next, after_turns, starts_from, opened, IsOpening, IsRunOf}
use Rattle.heap_system.specs.Naming.{renamed, opening_names}
use Rattle.heap_system.specs.Systems.{logs_of}
use Rattle.heap_invariant.specs.name_invariant.Pictures.{Names}
use Rattle.never_heap.specs.Histories.{HistoryItem, Started, replay}
use Rattle.heap_system.specs.Rooms.{part_without_room, without_room, threads_without_room}

-- ---- the place that an index has

record IsPlacedAt (e : Extent) (k : ℕ) (p : Place) : Type 0 where
  there : in_range e p ≡ true
  back : index e p ≡ k

payload_placed : (e : Extent) (x k : ℕ) → is_block e x ≡ true → 3 ≤ k → k - 3 < payloads e.width → IsPlacedAt e (block_index e x + k) (PayloadOf x (k - 3))
payload_placed e x k b some low = record { there = λ i. b i && lt-ltb (k - 3) (payloads e.width) low i; back = omega arith }

in_block_placed : (e : Extent) (x o : ℕ) → is_block e x ≡ true → o < block_size e → IsPlacedAt e (block_index e x + o) (in_block x o)
in_block_placed e x zero b low = record { there = b; back = omega arith }
in_block_placed e x (suc zero) b low = record { there = b; back = omega arith }
in_block_placed e x (suc (suc zero)) b low = record { there = b; back = omega arith }
in_block_placed e x (suc (suc (suc j))) b low =
    let k : ℕ = suc (suc (suc j)) in
    let payload : k - 3 < payloads e.width = omega arith in
    subst (IsPlacedAt e (block_index e x + k)) (sym (rw (ne_eqb k 0 (λ z. omega arith), ne_eqb k 1 (λ z. omega arith), ne_eqb k 2 (λ z. omega arith)) refl)) (payload_placed e x k b (omega arith) payload)

-- a place after the lists, k words after the first block's colour
behind_lists : (n m : ℕ) (w : Width) (k : ℕ) → k < block_size (record { threads = n; blocks = m; width = w }) * m
    → IsPlacedAt (record { threads = n; blocks = m; width = w }) (3 + 2 * n + k) (in_block (k / block_size (record { threads = n; blocks = m; width = w }) + 1) (k % block_size (record { threads = n; blocks = m; width = w })))
behind_lists n m Four k low =
    let e : Extent = record { threads = n; blocks = m; width = Four } in
    let p = in_block_placed e (k / 7 + 1) (k % 7) (rw (le-leb 1 (k / 7 + 1) (omega arith), le-leb (k / 7 + 1) m (omega arith)) refl) (omega arith) in
    record { there = p.there; back = p.back ∙ omega arith }
behind_lists n m Eight k low =
    let e : Extent = record { threads = n; blocks = m; width = Eight } in
    let p = in_block_placed e (k / 11 + 1) (k % 11) (rw (le-leb 1 (k / 11 + 1) (omega arith), le-leb (k / 11 + 1) m (omega arith)) refl) (omega arith) in
    record { there = p.there; back = p.back ∙ omega arith }

placed_at : (e : Extent) (k : ℕ) → k < words_count e → IsPlacedAt e k (place_at e k)
placed_at e zero low = record { there = refl; back = refl }
placed_at e (suc zero) low = record { there = refl; back = refl }
placed_at e (suc (suc zero)) low = record { there = refl; back = refl }
placed_at e (suc (suc (suc i))) low =
    let k : ℕ = suc (suc (suc i)) in
    let past : ltb k 3 ≡ false = le-ltb k 3 (omega arith) in
    elim (cases_lt k (3 + e.threads)) [
      | inl grey ↦
          let a : ltb k (3 + e.threads) ≡ true = lt-ltb k (3 + e.threads) grey in
          let t : ltb (k - 3) e.threads ≡ true = lt-ltb (k - 3) e.threads (omega arith) in
          rw (past, a) (record { there = t; back = omega arith })
      | inr behind ↦ elim (cases_lt k (3 + 2 * e.threads)) [
        | inl free ↦
            let a : ltb k (3 + e.threads) ≡ false = le-ltb k (3 + e.threads) behind in
            let b : ltb k (3 + 2 * e.threads) ≡ true = lt-ltb k (3 + 2 * e.threads) free in
            let t : ltb (k - (3 + e.threads)) e.threads ≡ true = lt-ltb (k - (3 + e.threads)) e.threads (omega arith) in
            rw (past, a, b) (record { there = t; back = omega arith })
        | inr blocks ↦
            let a : ltb k (3 + e.threads) ≡ false = le-ltb k (3 + e.threads) behind in
            let b : ltb k (3 + 2 * e.threads) ≡ false = le-ltb k (3 + 2 * e.threads) blocks in
            let p = behind_lists e.threads e.blocks e.width (k - (3 + 2 * e.threads)) (omega arith) in
            rw (past, a, b) (record { there = p.there; back = p.back ∙ omega arith })
      ]
    ]

-- words that are the same at each place are the same
same_words : (e : Extent) (ws vs : List ℕ) → length ws ≡ words_count e → length vs ≡ words_count e → ((p : Place) → in_range e p ≡ true → heap_of e ws p ≡ heap_of e vs p) → ws ≡ vs
same_words e ws vs long also same = ext_get_or 0 ws vs (long ∙ sym also) (λ k low. at k (placed_at e k (omega arith)))
  where
    at : (k : ℕ) → IsPlacedAt e k (place_at e k) → get_or ws k 0 ≡ get_or vs k 0
    at k p =
        let here : (xs : List ℕ) → heap_of e xs (place_at e k) ≡ get_or xs k 0 = λ xs. ap (λ b. cond b (get_or xs (index e (place_at e k)) 0) 0) p.there ∙ ap (λ i. get_or xs i 0) p.back in
        sym (here ws) ∙ same (place_at e k) p.there ∙ here vs

-- ---- no event looks at a room

cond_of : {A B : Type 0} (f : A → B) (b : Bool) (x y : A) → cond b (f x) (f y) ≡ f (cond b x y)
cond_of f true x y = refl
cond_of f false x y = refl

abbrev emptied : BuildState → BuildState
emptied b = record b { capacity = 0 }

view_room : (c : Config) (p : Part) → view c (part_without_room p) ≡ view c p
view_room c (Build b) = by b.row
  where
    by : (r : BuildRow) → view c (Build (record b { capacity = 0; row = r })) ≡ view c (Build (record b { row = r }))
    by _ = refl
view_room c _ = refl

effect_room : (c : Config) (p : Part) (w : ℕ) → effect c (part_without_room p) w ≡ effect c p w
effect_room c (Build b) w = by b.row
  where
    by : (r : BuildRow) → effect c (Build (record b { capacity = 0; row = r })) w ≡ effect c (Build (record b { row = r })) w
    by _ = refl
effect_room c _ w = refl

rest_room : (p : Part) → is_rest (part_without_room p) ≡ is_rest p
rest_room (Build b) = refl
rest_room _ = refl

cond_room : (b : Bool) (p q r s : Part) → r ≡ part_without_room p → s ≡ part_without_room q → cond b r s ≡ part_without_room (cond b p q)
cond_room true p q r s e f = e
cond_room false p q r s e f = f

replied_room : (y : Option Reply) (p r : Part) → r ≡ part_without_room p → if_replied y r ≡ part_without_room (if_replied y p)
replied_room None p r e = e
replied_room (Some x) p r e = refl

first_room : (c : Config) (q : Pass) (e : Errand) → first_part c q (record e { space = 0 }) ≡ part_without_room (first_part c q e)
first_room c q e = cond_room (ltb 0 e.due) _ _ _ _ (cond_room q.sweep _ _ _ _ refl refl) (cond_room (ltb 0 (blocks_of c.width e.command)) _ _ _ _ refl refl)

entered_room : (o : Option PhaseWord) (c : Config) (t : ℕ) (e : Errand) (g : GateRow) → if_entered o c t (record e { space = 0 }) g ≡ part_without_room (if_entered o c t e g)
entered_room None c t e g = refl
entered_room (Some p) c t e g = first_room c (pass_by t c.threads p) e

over_room : (over nothing : Bool) (p : Part) → p ≡ part_without_room p → if_over over nothing p ≡ part_without_room (if_over over nothing p)
over_room true true p e = refl
over_room true false p e = refl
over_room false nothing p e = e

reply_room : (b : BuildState) → build_reply (emptied b) ≡ build_reply b
reply_room b = by b.row
  where
    by : (r : BuildRow) → build_reply (record b { capacity = 0; row = r }) ≡ build_reply (record b { row = r })
    by _ = refl

built_room : (e : Extent) (b : BuildState) (w : ℕ) → build_got e (emptied b) w ≡ emptied (build_got e b w)
built_room e b w = by b.row
  where
    by : (r : BuildRow) → build_got e (record b { capacity = 0; row = r }) w ≡ emptied (build_got e (record b { row = r }) w)
    by _ = refl

got_room : (c : Config) (t : ℕ) (e : Errand) (q : Pass) (p : Part) (w : ℕ) → part_got c t (record e { space = 0 }) q (part_without_room p) w ≡ part_without_room (part_got c t e q p w)
got_room c t e q Rest w = entered_room (gate_entered (gate_got c.width gates.Look w)) c t e (gate_got c.width gates.Look w)
got_room c t e q (Enter g) w = entered_room (gate_entered (gate_got c.width g w)) c t e (gate_got c.width g w)
got_room c t e q (Access f) w = replied_room (field_reply (field_got (extent c) f w).row) (Access (field_got (extent c) f w)) (Access (field_got (extent c) f w)) refl
got_room c t e q (Mark m) w = let n = grey_got (extent c) m w in over_room (grey_over n.row) (grey_nothing n.row) (Mark n) refl
got_room c t e q (Sweep s) w = let n = sweep_got s w in over_room (sweep_over n.row) (sweep_nothing n.row) (Sweep n) refl
got_room c t e q (Build b) w =
    ap (λ y. if_replied y (Build (build_got (extent c) (emptied b) w))) (ap build_reply (built_room (extent c) b w) ∙ reply_room (build_got (extent c) b w))
    ∙ replied_room (build_reply (build_got (extent c) b w)) _ _ (ap Build (built_room (extent c) b w))
got_room c t e q Retry w = refl
got_room c t e q LeaveToChangePhase w = refl
got_room c t e q (PhaseChange g) w = cond_room (is_last (gate_step g w)) (Enter gates.Look) (PhaseChange (gate_got c.width g w)) _ _ refl refl
got_room c t e q Leave w = refl

local_room : (l : LocalState) (w : ℕ) → local_got (without_room l) w ≡ without_room (local_got l w)
local_room l w = λ i.
    let e : Effect = effect_room l.config l.part w i in
    record (without_room (local_got l w)) {
      log = l.log ++ entries_of l.thread (command_of l) l.spent e.reply;
      balance = balance_got e (requested_units (command_of l)) (blocks_of l.config.width (command_of l)) l.balance;
      spent = spent_got e.reply e.unit l.spent;
      made = made_got (command_of l) e.reply l.made;
      pass = pass_got e.entered l.thread l.config.threads l.pass;
      part = got_room l.config l.thread (errand_of l) l.pass l.part w i;
    }

-- ---- a run without the rooms

abbrev pub state_without_room : State → State
state_without_room s = record s { locals = threads_without_room s }

abbrev pub run_without_room : Run → Run
run_without_room r = record r { state = state_without_room r.state }

pub local_at_room : (c : Config) (s : State) (t : ℕ) → local_at c (state_without_room s) t ≡ without_room (local_at c s t)
local_at_room c s t = get_or-map without_room s.locals t (no_local c)

pub done_room : (l : LocalState) → is_done (without_room l) ≡ is_done l
done_room l = ap (λ b. b && eqb (length l.log) (length l.trace)) (rest_room l.part)

module _ (c : Config) (t : ℕ) (s : State) where
  event_room : has_event c t (state_without_room s) ≡ has_event c t s
  event_room = ap (λ (l : LocalState). cond (ltb t c.threads) (not (is_done l)) false) (local_at_room c s t) ∙ ap (λ b. cond (ltb t c.threads) (not b) false) (done_room (local_at c s t))

  word_room : (l : LocalState) → word_read c s (without_room l) ≡ word_read c s l
  word_room l = ap (λ (v : View). get_or s.words (op_place (op_at (extent c) v.want)) 0) (view_room c l.part)

  next_effect_room : next_effect c (state_without_room s) t ≡ next_effect c s t
  next_effect_room =
      let l = local_at c s t in
      ap (λ (k : LocalState). effect c k.part (word_read c s k)) (local_at_room c s t)
      ∙ ap (effect c (part_without_room l.part)) (word_room l) ∙ effect_room c l.part (word_read c s l)

  -- what the event makes of the words and of thread l
  abbrev moved : LocalState → State
  moved l = record {
    words = words_after (op_at (extent c) (view c l.part).want) s.words;
    locals = set (threads_without_room s) t (local_got l (word_read c s l));
  }

  done_without_room : event_done c t (state_without_room s) ≡ state_without_room (event_done c t s)
  done_without_room =
      let l = local_at c s t in
      ap moved (local_at_room c s t) ∙ (λ i. record {
        words = words_after (op_at (extent c) (view_room c l.part i).want) s.words;
        locals = (ap (λ w. set (threads_without_room s) t (local_got (without_room l) w)) (word_room l)
            ∙ ap (set (threads_without_room s) t) (local_room l (word_read c s l))
            ∙ sym (map-set without_room s.locals t (local_got l (word_read c s l)))) i;
      })

  pub turned_room : turned c t (state_without_room s) ≡ state_without_room (turned c t s)
  turned_room = (λ i. cond (event_room i) (done_without_room i) (state_without_room s)) ∙ cond_of state_without_room (has_event c t s) (event_done c t s) s

  decided_room : (order : List HistoryItem) → decided c t (state_without_room s) order ≡ decided c t s order
  decided_room order = λ i. cond (event_room i) (items_by c t (command_of (local_at_room c s t i)) (local_at_room c s t i).spent order (next_effect_room i)) []

  names_room : (order : List HistoryItem) (ns : Names) → names_after c t (record { state = state_without_room s; order = order; names = ns }) ≡ names_after c t (record { state = s; order = order; names = ns })
  names_room order ns = λ i. cond (event_room i) (renamed t (replay c order) (heap_in c s) (next_effect_room i).naming ns) ns

next_room : (c : Config) (t : ℕ) (r : Run) → next c t (run_without_room r) ≡ run_without_room (next c t r)
next_room c t r = λ i. record {
  state = turned_room c t r.state i;
  order = r.order ++ decided_room c t r.state r.order i;
  names = names_room c t r.state r.order r.names i;
}

pub after_room : (c : Config) (r : Run) (ts : List ℕ) → after_turns c (run_without_room r) ts ≡ run_without_room (after_turns c r ts)
after_room c r [] = refl
after_room c r (t ∷ ts) = ap (λ q. after_turns c q ts) (next_room c t r) ∙ after_room c (next c t r) ts

-- ---- two openings of a job, and two runs

starts_room : (c : Config) (rate : ℕ) (space : ℕ → ℕ) (t : ℕ) (traces : List (List Command)) → map without_room (starts_from c rate space t traces) ≡ starts_from c rate (λ u. 0) t traces
starts_room c rate space t [] = refl
starts_room c rate space t (trace ∷ traces) = ap (λ ls. at_start c rate 0 t trace ∷ ls) (starts_room c rate space (t + 1) traces)

pub openings_agree : (c : Config) (traces : List (List Command)) (s x : State) → IsOpening c traces s → IsOpening c traces x → state_without_room s ≡ state_without_room x
openings_agree c traces s x a b = λ i. record {
  words = same_words (extent c) s.words x.words a.count b.count (λ p there. a.words p there ∙ sym (b.words p there)) i;
  locals = (ap (map without_room) a.locals ∙ starts_room c a.rate a.space 0 traces
      ∙ ap (λ n. starts_from c n (λ u. 0) 0 traces) (one_rate c a.rate b.rate a.planned b.planned)
      ∙ sym (ap (map without_room) b.locals ∙ starts_room c b.rate b.space 0 traces)) i;
}

pub runs_agree : (c : Config) (traces : List (List Command)) (ts : List ℕ) (r q : Run) → IsRunOf c traces ts r → IsRunOf c traces ts q → run_without_room r ≡ run_without_room q
runs_agree c traces ts r q a b =
    ap run_without_room a.turns ∙ sym (after_room c (opened c a.first) ts)
    ∙ ap (λ s. after_turns c (record { state = s; order = Started ∷ []; names = opening_names c }) ts) (openings_agree c traces a.first b.first a.opening b.opening)
    ∙ after_room c (opened c b.first) ts ∙ ap run_without_room (sym b.turns)

-- what the threads show beside their rooms
logs_room : (ls : List LocalState) → map (λ (l : LocalState). l.log) (map without_room ls) ≡ map (λ (l : LocalState). l.log) ls
logs_room [] = refl
logs_room (l ∷ ls) = ap (λ es. l.log ∷ es) (logs_room ls)

pub logs_agree : (c : Config) (traces : List (List Command)) (ts : List ℕ) (r q : Run) → IsRunOf c traces ts r → IsRunOf c traces ts q → logs_of r.state ≡ logs_of q.state
logs_agree c traces ts r q a b =
    sym (logs_room r.state.locals) ∙ ap (λ (x : Run). logs_of x.state) (runs_agree c traces ts r q a b) ∙ logs_room q.state.locals

pub done_agree : (c : Config) (traces : List (List Command)) (ts : List ℕ) (r q : Run) → IsRunOf c traces ts r → IsRunOf c traces ts q → (t : ℕ) → is_done (local_at c r.state t) ≡ is_done (local_at c q.state t)
done_agree c traces ts r q a b t =
    let done : (x : Run) → is_done (local_at c (state_without_room x.state) t) ≡ is_done (local_at c x.state t) = λ x. ap is_done (local_at_room c x.state t) ∙ done_room (local_at c x.state t) in
    sym (done r) ∙ ap (λ (x : Run). is_done (local_at c x.state t)) (runs_agree c traces ts r q a b) ∙ done q
